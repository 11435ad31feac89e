-- A reader's calls, one by one: what each answers, and the range and the buffer that it leaves.
use Rattle.std.specs.Prelude.{◌≡◌, ℕ, List, [], length, Ok, Err, Result}
use Rattle.rows.specs.declared.refusal.Refusal.{Refusal}
use Rattle.rows.specs.declared.refusal.Refusal.TheVariants.{BadTables, BadRow, BadRoot, BadRun, BadWords, BadLine, AtEnd, AtStart, Misplaced, Beyond, Needed}
use Rattle.source.specs.Runs.{Document}
use Rattle.position.specs.declared.position.Position.{Position}
use Rattle.position.specs.Places.{Lawful, offset, place, total}
use Rattle.unit.specs.Stops.{Stops, Forward, Backward}
use Rattle.range.specs.declared.range.Range.{Range}
use Rattle.range.specs.Ranges.{range, Both, StartMoved, EndMoved}
use Rattle.range.specs.Texts.{Short, Written}

-- A call: a read has a unit, the strip, and the buffer as it is handed over.
pub data Call : Type 0 where
  read_on : Stops → List ℕ → List ℕ → Call
  read_back : Stops → List ℕ → List ℕ → Call
  set_start : Position → Call
  set_end : Position → Call

-- An answer: the bytes that a read wrote, by their number, and the buffer after it; an end that was set;
-- or a refusal, and the buffer after it.
pub data Answer : Type 0 where
  piece : ℕ → List ℕ → Answer
  done : Answer
  refused : Refusal → List ℕ → Answer

-- The range goes on by the unit: from its end, biased to start, to the first stop after it, else to the
-- end place.
pub record Onto (d : Document) (u : Stops) (s t : Range) : Type 0 where
  pub lawful : Lawful d s.end
  pub to : ℕ
  pub moves : Forward u (total d) (offset d s.end) to
  pub start : t.start ≡ place d (offset d s.end)
  pub end : t.end ≡ place d to

-- The range goes back by the unit: from the last stop before its start to its start, biased to start.
pub record Back (d : Document) (u : Stops) (s t : Range) : Type 0 where
  pub lawful : Lawful d s.start
  pub to : ℕ
  pub moves : Backward u (offset d s.start) to
  pub start : t.start ≡ place d to
  pub end : t.end ≡ place d (offset d s.start)

-- Why there is no reading on: no position here, the end place, or too few bytes for what would be read.
abbrev pub NoOn : Document → Stops → Range → List ℕ → List ℕ → Refusal → Type 0
NoOn d u s strip before BadTables = ⊥
NoOn d u s strip before (BadRow r) = ⊥
NoOn d u s strip before (BadRoot r) = ⊥
NoOn d u s strip before (BadRun r) = ⊥
NoOn d u s strip before (BadWords r) = ⊥
NoOn d u s strip before (BadLine r) = ⊥
NoOn d u s strip before AtEnd = Lawful d s.end × (offset d s.end ≡ total d)
NoOn d u s strip before AtStart = ⊥
NoOn d u s strip before Misplaced = Lawful d s.end → ⊥
NoOn d u s strip before Beyond = ⊥
NoOn d u s strip before (Needed n) = (t : Range) × Onto d u s t × Short d t strip (length before) n

-- Why there is no reading back: no position here, the first place, or too few bytes for what would be
-- read.
abbrev pub NoBack : Document → Stops → Range → List ℕ → List ℕ → Refusal → Type 0
NoBack d u s strip before BadTables = ⊥
NoBack d u s strip before (BadRow r) = ⊥
NoBack d u s strip before (BadRoot r) = ⊥
NoBack d u s strip before (BadRun r) = ⊥
NoBack d u s strip before (BadWords r) = ⊥
NoBack d u s strip before (BadLine r) = ⊥
NoBack d u s strip before AtEnd = ⊥
NoBack d u s strip before AtStart = Lawful d s.start × (offset d s.start ≡ 0)
NoBack d u s strip before Misplaced = Lawful d s.start → ⊥
NoBack d u s strip before Beyond = ⊥
NoBack d u s strip before (Needed n) = (t : Range) × Back d u s t × Short d t strip (length before) n

-- The position and both ends of the range are positions of the document.
abbrev pub Settable : Document → Range → Position → Type 0
Settable d s p = Lawful d p × Both d s

-- One call on a reader whose range is s: its answer, and the range t that it leaves. A read writes the
-- text of the range that it leaves.
abbrev pub Step : Document → Range → Call → Answer → Range → Type 0
Step d s (read_on u p b) (piece n a) t = Onto d u s t × Written d t p b n a
Step d s (read_on u p b) done t = ⊥
Step d s (read_on u p b) (refused e a) t = (t ≡ s) × (a ≡ b) × NoOn d u s p b e
Step d s (read_back u p b) (piece n a) t = Back d u s t × Written d t p b n a
Step d s (read_back u p b) done t = ⊥
Step d s (read_back u p b) (refused e a) t = (t ≡ s) × (a ≡ b) × NoBack d u s p b e
Step d s (set_start q) (piece n a) t = ⊥
Step d s (set_start q) done t = Settable d s q × StartMoved d q s t
Step d s (set_start q) (refused e a) t = (t ≡ s) × (a ≡ []) × (e ≡ Misplaced) × (Settable d s q → ⊥)
Step d s (set_end q) (piece n a) t = ⊥
Step d s (set_end q) done t = Settable d s q × EndMoved d q s t
Step d s (set_end q) (refused e a) t = (t ≡ s) × (a ≡ []) × (e ≡ Misplaced) × (Settable d s q → ⊥)

-- A read's result as an answer: the number that it gives, and what the buffer holds after the call.
abbrev pub replied : List ℕ → Result ℕ Refusal → Answer
replied a (Ok n) = piece n a
replied a (Err e) = refused e a

-- The result of setting an end as an answer; there is no buffer.
abbrev pub acknowledged : {X : Type 0} → Result X Refusal → Answer
acknowledged (Ok x) = done
acknowledged (Err e) = refused e []

-- The range of a reader that was just opened: empty, at the document's start.
abbrev pub fresh : Document → Range
fresh d = range (place d 0) (place d 0)

-- The range after a read: the new one, or the old where it was refused.
abbrev pub turned : {X : Type 0} → Range → Range → Result X Refusal → Range
turned s t (Ok x) = t
turned s t (Err e) = s
