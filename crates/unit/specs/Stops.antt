-- A unit's meaning: which places of a document are its stops, and where its moves go from a place.
use Rattle.std.specs.Prelude.{◌≡◌, ℕ, ◌<◌, ◌≤◌, Bool, true, false, refl}

-- A set of places, the first place among them.
pub record Stops : Type 0 where
  pub stop : ℕ → Bool
  pub first : stop 0 ≡ true

-- b is the first stop after a, else the end place.
pub record Forward (u : Stops) (end a b : ℕ) : Type 0 where
  pub after : a < b
  pub inside : b ≤ end
  pub lands : b < end → u.stop b ≡ true
  pub skips : (k : ℕ) → a < k → k < b → u.stop k ≡ false

-- b is the last stop before a; the first place is one.
pub record Backward (u : Stops) (a b : ℕ) : Type 0 where
  pub before : b < a
  pub lands : u.stop b ≡ true
  pub skips : (k : ℕ) → b < k → k < a → u.stop k ≡ false

-- Every place is a stop.
abbrev pub every : Stops
every = record { stop = λ k. true; first = refl }
