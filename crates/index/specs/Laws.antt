-- Each index call leaves one answer, and an index leads back to its place.
use Rattle.std.specs.Prelude.{◌≡◌, ℕ, ◌≤◌, Ok, Result}
use Rattle.rows.specs.declared.refusal.Refusal.{Refusal}
use Rattle.source.specs.Runs.{Document}
use Rattle.position.specs.declared.position.Position.{Position}
use Rattle.position.specs.Places.{Lawful, offset, place, Answers}
use Rattle.position.specs.Laws.{Single}
use Rattle.index.specs.Measured.{index_at, Finds}
use Rattle.index.specs.LineIndexes.{LineRange}

-- Two answers that fit are equal, indexes do not fall along the text, and each leads back to its place.
pub record Singles (d : Document) : Type 0 where
  pub counted : (p : Position) (k : ℕ) → Single (Result ℕ Refusal) (Answers (Lawful d p) (λ n. n ≡ k))
  pub found : (u : ℕ → ℕ) (i : ℕ) → Single (Result Position Refusal) (Finds u d i)
  pub ranged : (k : ℕ) → Single (Result (Position × Position) Refusal) (LineRange d k)
  pub rises : (u : ℕ → ℕ) (a b : ℕ) → a ≤ b → index_at u d a ≤ index_at u d b
  -- where every scalar measures something
  pub returned : (u : ℕ → ℕ) → ((c : ℕ) → 1 ≤ u c) → (p : Position) → Lawful d p → Finds u d (index_at u d (offset d p)) (Ok (place d (offset d p)))
