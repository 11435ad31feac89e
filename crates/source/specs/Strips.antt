-- A part of a lent slice.
use Rattle.std.specs.Prelude.{◌≡◌, ℕ, ◌-◌, ◌≤◌, List, length, take, drop, Some, None, Option}
use Rattle.std.specs.Borrow.{Bor}

-- The bytes from i up to j, or nothing where the two are out of order or past the end.
abbrev pub PartOf : List ℕ → ℕ → ℕ → Option (Bor (List ℕ)) → Type 0
PartOf xs i j (Some b) = (i ≤ j) × (j ≤ length xs) × (b.now ≡ take (j - i) (drop i xs))
PartOf xs i j None = (i ≤ j) × (j ≤ length xs) → ⊥
