-- A unit's stops leave each of its moves one answer.
use Rattle.std.specs.Prelude.{Result}
use Rattle.rows.specs.declared.refusal.Refusal.{Refusal}
use Rattle.source.specs.Runs.{Document}
use Rattle.position.specs.declared.position.Position.{Position}
use Rattle.position.specs.Laws.{Single}
use Rattle.unit.specs.Stops.{Stops}
use Rattle.unit.specs.Moves.{GoesOn, GoesBack}

-- Two answers of a move that fit are equal.
pub record Singles (d : Document) (u : Stops) (p : Position) : Type 0 where
  pub forward : Single (Result Position Refusal) (GoesOn d u p)
  pub backward : Single (Result Position Refusal) (GoesBack d u p)
