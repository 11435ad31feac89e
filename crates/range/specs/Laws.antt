-- Each call's contract leaves it one answer.
use Rattle.std.specs.Prelude.{◌≡◌, ℕ, List, Result}
use Rattle.rows.specs.declared.refusal.Refusal.{Refusal}
use Rattle.source.specs.Runs.{Document}
use Rattle.position.specs.declared.position.Position.{Position}
use Rattle.position.specs.Places.{Lawful, Answers}
use Rattle.position.specs.Laws.{Single}
use Rattle.range.specs.declared.range.Range.{Range}
use Rattle.range.specs.Ranges.{Both, InOrder, StartMoved, EndMoved, Settles}
use Rattle.range.specs.Texts.{Texts}

-- One answer fits each call, and one range or buffer after it.
pub record Singles (d : Document) : Type 0 where
  pub made : (p q : Position) → Single (Result Range Refusal) (Answers (Lawful d p × Lawful d q) (InOrder d p q))
  pub start : (p : Position) (s : Range) → Single (Result Range Refusal) (Answers (Lawful d p × Both d s) (StartMoved d p s))
  pub end : (p : Position) (s : Range) → Single (Result Range Refusal) (Answers (Lawful d p × Both d s) (EndMoved d p s))
  pub start_set : (p : Position) (s a b : Range) (r q : Result (Unit {0}) Refusal) → Settles (Lawful d p × Both d s) (StartMoved d p s) s r a → Settles (Lawful d p × Both d s) (StartMoved d p s) s q b → (r ≡ q) × (a ≡ b)
  pub end_set : (p : Position) (s a b : Range) (r q : Result (Unit {0}) Refusal) → Settles (Lawful d p × Both d s) (EndMoved d p s) s r a → Settles (Lawful d p × Both d s) (EndMoved d p s) s q b → (r ≡ q) × (a ≡ b)
  pub text : (t : Range) (strip before a b : List ℕ) (r q : Result ℕ Refusal) → Texts d t strip before r a → Texts d t strip before q b → (r ≡ q) × (a ≡ b)
