-- Counts as plain numbers, for callers in other languages.
use Rattle.std.specs.Prelude.{◌≡◌, ℕ, ◌<◌, List, length}
use Rattle.unicode_text.specs.Table.{WellFormed}
use Rattle.unicode_text.specs.Scalars.{scalars}
use Rattle.unicode_text.specs.Measures.{total, too_long}

-- A text that is measured: well-formed, and not too long.
abbrev pub Measured : List ℕ → Type 0
Measured t = (length t < too_long) × WellFormed t

-- What a measured text measures, and the largest number of 64 bits for any other.
abbrev pub Counted : (ℕ → ℕ) → List ℕ → ℕ → Type 0
Counted units t n = (Measured t → n ≡ total units (scalars t)) × ((Measured t → ⊥) → n ≡ 0xFFFF_FFFF_FFFF_FFFF)
