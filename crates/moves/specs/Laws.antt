-- Each move leaves one answer.
use Rattle.source.specs.Runs.{Document}
use Rattle.std.specs.Prelude.{ℕ, Result}
use Rattle.rows.specs.declared.refusal.Refusal.{Refusal}
use Rattle.position.specs.declared.position.Position.{Position}
use Rattle.position.specs.Places.{Lawful, Answers}
use Rattle.starts.specs.Starts.{starts_paragraph, ends_paragraph}
use Rattle.position.specs.Laws.{Single}
use Rattle.unit.specs.Stops.{Stops}
use Rattle.moves.specs.Arrivals.{Arrives, Retreats}
use Rattle.moves.specs.Lines.{EndsLine}
use Rattle.moves.specs.Repeats.{Repeats, LineOn, LineBack, end_or_start}

-- Two answers of a move that fit are equal.
pub record Singles (d : Document) (p : Position) : Type 0 where
  pub arrives : (u : Stops) (a : ℕ) → Single (Result Position Refusal) (Answers (Lawful d p) (Arrives d u a))
  pub retreats : (u : Stops) (a : ℕ) → Single (Result Position Refusal) (Answers (Lawful d p) (Retreats d u a))
  pub ends : Single (Result Position Refusal) (Answers (Lawful d p) (EndsLine d p))
  pub paragraph_start : Single (Result Position Refusal) (Answers (Lawful d p) (Repeats (LineOn d) (end_or_start d) p))
  pub paragraph_end : Single (Result Position Refusal) (Answers (Lawful d p) (Repeats (EndsLine d) (ends_paragraph d) p))
  pub paragraph_back : Single (Result Position Refusal) (Answers (Lawful d p) (Repeats (LineBack d) (starts_paragraph d) p))
