-- What opening asks of the root and of the runs under it, and what it answers.
use Rattle.std.specs.Prelude.{◌≡◌, ℕ, ◌<◌, ◌≤◌, Bool, true, false, ◌⊎◌, List, length, Some, None, Ok, Err, Option, Result, ⊤}
use Rattle.rows.specs.declared.node.NodeId.{NodeId}
use Rattle.rows.specs.declared.node.Row.{Row}
use Rattle.rows.specs.declared.refusal.Refusal.{Refusal}
use Rattle.rows.specs.declared.refusal.Refusal.TheVariants.{BadTables, BadRow, BadRoot, BadRun, BadWords, BadLine, AtEnd, AtStart, Misplaced, Beyond, Needed}
use Rattle.rows.specs.Rows.{row}
use Rattle.rows.specs.Judge.{tree_of}
use Rattle.source.specs.Runs.{Rising, next_in, previous_in}
use Rattle.page.specs.Texts.{Fitting}
use Rattle.page.specs.Sheets.{Sheet, text_at, lengths_at, words_at, no_link, rows_under, runs_under, IsRun}

-- The root's role is one of 2 to 6, and there is a run under it.
abbrev pub Rooted : Sheet → Type 0
Rooted s = (2 ≤ (row s.rows s.root).role) × ((row s.rows s.root).role ≤ 6) × (0 < length (rows_under s))

-- The lengths make characters of the text, and a run without characters is the last.
abbrev pub CharactersAt : Sheet → ℕ → Type 0
CharactersAt s r = Fitting (text_at s r) (lengths_at s r) × (length (lengths_at s r) ≡ 0 → next_in (runs_under s) r ≡ None)

-- The word starts rise strictly below the character count.
abbrev pub WordsAt : Sheet → ℕ → Type 0
WordsAt s r = Rising 0 (length (lengths_at s r)) (words_at s r)

-- A line link of r names no row, or it names r's neighbour in the list, which is of the same tree and
-- links back to r.
abbrev pub Linked : List Row → ℕ → NodeId → Option NodeId → NodeId → Type 0
Linked rs r link neighbour back = (link.0 ≡ no_link) ⊎ ((neighbour ≡ Some link) × (tree_of rs link.0 ≡ tree_of rs r) × (back.0 ≡ r))

-- The run's next on its line is none, or the following run, which has it as previous.
abbrev pub LinkedOn : Sheet → ℕ → Type 0
LinkedOn s r = Linked s.rows r (row s.rows r).next (next_in (runs_under s) r) (row s.rows (row s.rows r).next.0).previous

-- The run's previous on its line is none, or the preceding run, which has it as next.
abbrev pub LinkedBack : Sheet → ℕ → Type 0
LinkedBack s r = Linked s.rows r (row s.rows r).previous (previous_in (runs_under s) r) (row s.rows (row s.rows r).previous.0).next

-- The run's line links are as they should be.
abbrev pub LineAt : Sheet → ℕ → Type 0
LineAt s r = LinkedOn s r × LinkedBack s r

-- Every run under the root is as this wants it.
abbrev pub AllFit : (Sheet → ℕ → Type 0) → Sheet → Type 0
AllFit P s = (r : ℕ) → IsRun s r → P s r

-- r is the run with the smallest row number that is not as this wants it.
abbrev pub FirstFault : (Sheet → ℕ → Type 0) → Sheet → ℕ → Type 0
FirstFault P s r = IsRun s r × (P s r → ⊥) × ((k : ℕ) → k < r → IsRun s k → P s k)

-- Of what a test answers at the runs: nothing where it refuses none, else the run with the smallest
-- row number that it refuses.
pub record Answered (A : NodeId → Bool → Type 0) (s : Sheet) (o : Option NodeId) : Type 0 where
  pub none : o ≡ None → (k : NodeId) → IsRun s k.0 → A k true
  pub some : (r : NodeId) → o ≡ Some r → IsRun s r.0 × A r false × ((k : NodeId) → k.0 < r.0 → IsRun s k.0 → A k true)

-- The root and the runs under it are in order.
pub record InOrder (s : Sheet) : Type 0 where
  pub rooted : Rooted s
  pub characters : AllFit CharactersAt s
  pub words : AllFit WordsAt s
  pub lines : AllFit LineAt s

-- A refusal for the root or for a run: the smallest number first, then the smallest row.
abbrev pub RunsRefused : Sheet → Refusal → Type 0
RunsRefused s BadTables = ⊥
RunsRefused s (BadRow r) = ⊥
RunsRefused s (BadRoot r) = (r.0 ≡ s.root) × (Rooted s → ⊥)
RunsRefused s (BadRun r) = Rooted s × FirstFault CharactersAt s r.0
RunsRefused s (BadWords r) = Rooted s × AllFit CharactersAt s × FirstFault WordsAt s r.0
RunsRefused s (BadLine r) = Rooted s × AllFit CharactersAt s × AllFit WordsAt s × FirstFault LineAt s r.0
RunsRefused s AtEnd = ⊥
RunsRefused s AtStart = ⊥
RunsRefused s Misplaced = ⊥
RunsRefused s Beyond = ⊥
RunsRefused s (Needed n) = ⊥

-- Nothing to refuse where the root and the runs are in order, else the refusal.
abbrev pub RunsVerdict : Sheet → Result ⊤ Refusal → Type 0
RunsVerdict s (Ok x) = InOrder s
RunsVerdict s (Err e) = RunsRefused s e
