-- Moves to a stop that end at an edge of the document where no stop is left.
use Rattle.std.specs.Prelude.{◌≡◌, ℕ, ◌<◌, ◌≤◌, true, false}
use Rattle.source.specs.Runs.{Document}
use Rattle.position.specs.declared.position.Position.{Position}
use Rattle.position.specs.Places.{place, total}
use Rattle.unit.specs.Stops.{Stops}

-- b is the first stop after a, else the end place.
pub record After (u : Stops) (end a b : ℕ) : Type 0 where
  pub inside : b ≤ end
  pub from : a ≤ b
  pub after : a < end → a < b
  pub lands : b < end → u.stop b ≡ true
  pub skips : (k : ℕ) → a < k → k < b → u.stop k ≡ false

-- b is the last stop before a, else the first place.
pub record Until (u : Stops) (a b : ℕ) : Type 0 where
  pub inside : b ≤ a
  pub before : 0 < a → b < a
  pub lands : u.stop b ≡ true
  pub skips : (k : ℕ) → b < k → k < a → u.stop k ≡ false

-- q is the first stop after the place a, else the end place.
pub record Arrives (d : Document) (u : Stops) (a : ℕ) (q : Position) : Type 0 where
  pub to : ℕ
  pub moves : After u (total d) a to
  pub lands : q ≡ place d to

-- q is the last stop before the place a, else the first place.
pub record Retreats (d : Document) (u : Stops) (a : ℕ) (q : Position) : Type 0 where
  pub to : ℕ
  pub moves : Until u a to
  pub lands : q ≡ place d to
