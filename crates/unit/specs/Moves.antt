-- What a unit's two moves answer, at every source.
use Rattle.std.specs.Prelude.{◌≡◌, ℕ, Ok, Err, Result}
use Rattle.rows.specs.declared.refusal.Refusal.{Refusal}
use Rattle.source.specs.Runs.{Document}
use Rattle.position.specs.declared.position.Position.{Position}
use Rattle.position.specs.Places.{Lawful, offset, place, total, NoForward, NoBackward}
use Rattle.unit.specs.Stops.{Stops, Forward, Backward}

-- From p's place the unit's next stop, else the end place, is q.
pub record Goes (d : Document) (u : Stops) (p q : Position) : Type 0 where
  pub lawful : Lawful d p
  pub to : ℕ
  pub moves : Forward u (total d) (offset d p) to
  pub lands : q ≡ place d to

-- The move forward, or why there is none.
abbrev pub GoesOn : Document → Stops → Position → Result Position Refusal → Type 0
GoesOn d u p (Ok q) = Goes d u p q
GoesOn d u p (Err e) = NoForward d p e

-- From p's place the unit's stop before is q.
pub record Returns (d : Document) (u : Stops) (p q : Position) : Type 0 where
  pub lawful : Lawful d p
  pub to : ℕ
  pub moves : Backward u (offset d p) to
  pub lands : q ≡ place d to

-- The move backward, or why there is none.
abbrev pub GoesBack : Document → Stops → Position → Result Position Refusal → Type 0
GoesBack d u p (Ok q) = Returns d u p q
GoesBack d u p (Err e) = NoBackward d p e
