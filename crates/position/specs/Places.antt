-- Positions and places. A place is named by the number of characters before it.
use Rattle.std.specs.Prelude.{◌≡◌, ℕ, ◌+◌, ◌-◌, ◌<◌, Bool, false, cond, List, [], ◌∷◌, ◌++◌, Some, None, Ok, Err, Option, Result, ◌==◌, nat_lt}
use Rattle.rows.specs.declared.node.NodeId.{NodeId}
use Rattle.rows.specs.declared.refusal.Refusal.{Refusal}
use Rattle.rows.specs.declared.refusal.Refusal.TheVariants.{BadTables, BadRow, BadRoot, BadRun, BadWords, BadLine, AtEnd, AtStart, Misplaced, Beyond, Needed}
use Rattle.source.specs.Runs.{Run, Document, count, row_id, count_in, next_in, previous_in, first_row, last_row}
use Rattle.source.specs.Pieces.{Within}
use Rattle.position.specs.declared.position.Position.{Position}

-- A position of the document: its root, one of its runs, and an index from 0 to the run's count.
abbrev pub Lawful : Document → Position → Type 0
Lawful d p = (p.root.0 ≡ d.root) × Within p.index (count_in d.runs p.row.0)

-- The number of characters before an index of a run.
abbrev pub offset_in : List Run → ℕ → ℕ → ℕ
offset_in [] r i = 0
offset_in (x ∷ xs) r i = cond (x.row == r) i (count x + offset_in xs r i)

-- The number of characters of all the runs.
abbrev pub total_in : List Run → ℕ
total_in [] = 0
total_in (x ∷ xs) = count x + total_in xs

-- The characters of all the runs, one run's behind the other's.
abbrev pub characters_of : List Run → List (List ℕ)
characters_of [] = []
characters_of (x ∷ xs) = x.characters ++ characters_of xs

-- The place that a position names.
abbrev pub offset : Document → Position → ℕ
offset d p = offset_in d.runs p.row.0 p.index

-- The end place.
abbrev pub total : Document → ℕ
total d = total_in d.runs

-- The position of a root, a row and an index given as numbers.
abbrev pub at : ℕ → ℕ → ℕ → Position
at o r i = record { root = row_id o; row = row_id r; index = i }

-- The position, biased to start, with k characters of the list before it.
abbrev pub place_in : ℕ → List Run → ℕ → Position
place_in o [] k = at o 0 k
place_in o (x ∷ []) k = at o x.row k
place_in o (x ∷ y ∷ ys) k = cond (nat_lt k (count x)) (at o x.row k) (place_in o (y ∷ ys) (k - count x))

-- The position, biased to start, that names a place.
abbrev pub place : Document → ℕ → Position
place d k = place_in d.root d.runs k

-- The start of the run that follows, else the position as it stands.
abbrev pub or_start : Option NodeId → Position → Position
or_start None p = p
or_start (Some r) p = record { root = p.root; row = r; index = 0 }

-- An index is the count, where there is one.
abbrev pub at_end : Option ℕ → ℕ → Bool
at_end None i = false
at_end (Some n) i = i == n

-- A run's end becomes the next run's start, if a run follows.
abbrev pub to_start : Document → Position → Position
to_start d p = cond (at_end (count_in d.runs p.row.0) p.index) (or_start (next_in d.runs p.row.0) p) p

-- The count, and 0 where the row is no run here.
abbrev pub size_of : Option ℕ → ℕ
size_of None = 0
size_of (Some n) = n

-- The end of the run before, else the position as it stands.
abbrev pub or_end : List Run → Option NodeId → Position → Position
or_end xs None p = p
or_end xs (Some r) p = record { root = p.root; row = r; index = size_of (count_in xs r.0) }

-- A run's start becomes the previous run's end, if a run precedes.
abbrev pub to_end : Document → Position → Position
to_end d p = cond (p.index == 0) (or_end d.runs (previous_in d.runs p.row.0) p) p

-- The first run's start.
abbrev pub document_start : Document → Position
document_start d = at d.root (first_row d.runs) 0

-- The last run's end.
abbrev pub document_end : Document → Position
document_end d = at d.root (last_row d.runs) (size_of (count_in d.runs (last_row d.runs)))

-- A call that refuses only what is misplaced: where L holds its value is as B says.
abbrev pub Answers : {A : Type 0} → Type 0 → (A → Type 0) → Result A Refusal → Type 0
Answers L B (Ok v) = L × B v
Answers L B (Err e) = (e ≡ Misplaced) × (L → ⊥)

-- The position biased to start, which is its place's.
abbrev pub BiasedStart : Document → Position → Position → Type 0
BiasedStart d p q = (q ≡ place d (offset d p)) × (q ≡ to_start d p)

-- The position biased to end, which names the same place.
abbrev pub BiasedEnd : Document → Position → Position → Type 0
BiasedEnd d p q = (q ≡ to_end d p) × (offset d q ≡ offset d p)

-- Why there is no move forward: the end place, or no position here.
abbrev pub NoForward : Document → Position → Refusal → Type 0
NoForward d p BadTables = ⊥
NoForward d p (BadRow r) = ⊥
NoForward d p (BadRoot r) = ⊥
NoForward d p (BadRun r) = ⊥
NoForward d p (BadWords r) = ⊥
NoForward d p (BadLine r) = ⊥
NoForward d p AtEnd = Lawful d p × (offset d p ≡ total d)
NoForward d p AtStart = ⊥
NoForward d p Misplaced = Lawful d p → ⊥
NoForward d p Beyond = ⊥
NoForward d p (Needed n) = ⊥

-- Why there is no move backward: the first place, or no position here.
abbrev pub NoBackward : Document → Position → Refusal → Type 0
NoBackward d p BadTables = ⊥
NoBackward d p (BadRow r) = ⊥
NoBackward d p (BadRoot r) = ⊥
NoBackward d p (BadRun r) = ⊥
NoBackward d p (BadWords r) = ⊥
NoBackward d p (BadLine r) = ⊥
NoBackward d p AtEnd = ⊥
NoBackward d p AtStart = Lawful d p × (offset d p ≡ 0)
NoBackward d p Misplaced = Lawful d p → ⊥
NoBackward d p Beyond = ⊥
NoBackward d p (Needed n) = ⊥

-- The next place, or why there is none.
abbrev pub NextPlace : Document → Position → Result Position Refusal → Type 0
NextPlace d p (Ok q) = Lawful d p × (offset d p < total d) × (q ≡ place d (offset d p + 1))
NextPlace d p (Err e) = NoForward d p e

-- The place before, or why there is none.
abbrev pub PreviousPlace : Document → Position → Result Position Refusal → Type 0
PreviousPlace d p (Ok q) = Lawful d p × (0 < offset d p) × (q ≡ place d (offset d p - 1))
PreviousPlace d p (Err e) = NoBackward d p e
