-- Line moves made again, at least once, until a test holds.
use Rattle.std.specs.Prelude.{◌≡◌, ℕ, zero, suc, Bool, true, false, ◌||◌}
use Rattle.source.specs.Runs.{Document}
use Rattle.position.specs.declared.position.Position.{Position}
use Rattle.position.specs.Places.{offset_in, offset}
use Rattle.starts.specs.Starts.{starts_paragraph, ends_document}
use Rattle.unit.specs.Marks.{lines}
use Rattle.moves.specs.Arrivals.{Arrives, Retreats}

-- Some moves that each come to where the test fails, and one more to where it holds.
abbrev pub Repeated : (Position → Position → Type 0) → (Position → Bool) → ℕ → Position → Position → Type 0
Repeated Move stop zero p q = Move p q × (stop q ≡ true)
Repeated Move stop (suc n) p q = (m : Position) × Move p m × (stop m ≡ false) × Repeated Move stop n m q

-- The first position that the test holds of, of those that the move comes to when made again.
pub record Repeats (Move : Position → Position → Type 0) (stop : Position → Bool) (p q : Position) : Type 0 where
  pub times : ℕ
  pub moves : Repeated Move stop times p q

-- One line on from the position's own run.
abbrev pub LineOn : Document → Position → Position → Type 0
LineOn d m n = Arrives d (lines d) (offset_in d.runs m.row.0 0) n

-- One line back.
abbrev pub LineBack : Document → Position → Position → Type 0
LineBack d m n = Retreats d (lines d) (offset d m) n

-- The document ends or a paragraph starts.
abbrev pub end_or_start : Document → Position → Bool
end_or_start d q = ends_document d q || starts_paragraph d q
