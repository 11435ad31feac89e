-- The text of a range, and what a call that writes it answers and leaves.
use Rattle.std.specs.Prelude.{◌≡◌, ℕ, ◌-◌, ◌<◌, ◌≤◌, ◌⊎◌, List, ◌++◌, length, take, drop, Ok, Err, Result}
use Rattle.rows.specs.declared.refusal.Refusal.{Refusal}
use Rattle.rows.specs.declared.refusal.Refusal.TheVariants.{BadTables, BadRow, BadRoot, BadRun, BadWords, BadLine, AtEnd, AtStart, Misplaced, Beyond, Needed}
use Rattle.source.specs.Runs.{Document}
use Rattle.source.specs.Pieces.{bytes_of, Stripped}
use Rattle.position.specs.Places.{characters_of, offset}
use Rattle.range.specs.declared.range.Range.{Range}
use Rattle.range.specs.Ranges.{Both}

-- The characters not before place a and before place b.
abbrev pub between : Document → ℕ → ℕ → List (List ℕ)
between d a b = take (b - a) (drop a (characters_of d.runs))

-- The characters of a range.
abbrev pub text_of : Document → Range → List (List ℕ)
text_of d t = between d (offset d t.start) (offset d t.end)

-- The bytes of a range's characters.
abbrev pub bytes_in : Document → Range → List ℕ
bytes_in d t = bytes_of (text_of d t)

-- So many bytes are needed: a strip of 255 bullets, or else a buffer as long as the text.
abbrev pub Short : Document → Range → List ℕ → ℕ → ℕ → Type 0
Short d t strip room n = ((Stripped d strip → ⊥) × (n ≡ 765)) ⊎ (Stripped d strip × (room < n) × (n ≡ length (bytes_in d t)))

-- The buffer holds the range's bytes, and behind them what it held.
pub record Written (d : Document) (t : Range) (strip before : List ℕ) (n : ℕ) (after : List ℕ) : Type 0 where
  pub stripped : Stripped d strip
  pub count : n ≡ length (bytes_in d t)
  pub room : n ≤ length before
  pub holds : after ≡ bytes_in d t ++ drop n before

-- Why there is no text: an end that is no position here, or else too few bytes.
abbrev pub NoText : Document → Range → List ℕ → List ℕ → Refusal → Type 0
NoText d t strip before BadTables = ⊥
NoText d t strip before (BadRow r) = ⊥
NoText d t strip before (BadRoot r) = ⊥
NoText d t strip before (BadRun r) = ⊥
NoText d t strip before (BadWords r) = ⊥
NoText d t strip before (BadLine r) = ⊥
NoText d t strip before AtEnd = ⊥
NoText d t strip before AtStart = ⊥
NoText d t strip before Misplaced = Both d t → ⊥
NoText d t strip before Beyond = ⊥
NoText d t strip before (Needed n) = Both d t × Short d t strip (length before) n

-- What a call for the text answers, and what it leaves in the buffer.
abbrev pub Texts : Document → Range → List ℕ → List ℕ → Result ℕ Refusal → List ℕ → Type 0
Texts d t strip before (Ok n) after = Both d t × Written d t strip before n after
Texts d t strip before (Err e) after = (after ≡ before) × NoText d t strip before e
