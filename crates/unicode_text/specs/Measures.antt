-- Measures of text: a number for each scalar, and their sum for a text.
use Rattle.std.specs.Prelude.{◌≡◌, ℕ, ◌+◌, ◌-◌, ◌*◌, ◌/◌, ◌%◌, ◌^◌, ◌<◌, ◌≤◌, cond, ◌⊎◌, List, [], ◌∷◌, length, Ok, Err, Result, nat_lt}
use Rattle.unicode_text.specs.declared.measure.Unmeasured.{Unmeasured}
use Rattle.unicode_text.specs.declared.measure.Unmeasured.TheVariants.{TooLong, IllFormed}
use Rattle.unicode_text.specs.Table.{WellFormed, In}
use Rattle.unicode_text.specs.Scalars.{scalars}

-- The bullet, U+2022.
abbrev pub the_bullet : ℕ
the_bullet = 0x2022

-- In USV each scalar counts as one.
abbrev pub usv_units : ℕ → ℕ
usv_units c = 1

-- The UTF-16 code units of a scalar, by the Unicode Standard, Table 3-5: the scalar itself below
-- U+10000; from there on a high and a low surrogate, which hold the ten high and the ten low bits of
-- what the scalar is over U+10000.
abbrev pub code_units : ℕ → List ℕ
code_units c =
    cond (nat_lt c 0x1_0000) (c ∷ [])
    ((0xD800 + (c - 0x1_0000) / 0x400) ∷ (0xDC00 + (c - 0x1_0000) % 0x400) ∷ [])

-- These code units encode the scalar in UTF-16: one unit that is the scalar and no surrogate, or a high
-- and a low surrogate from which the scalar comes back.
abbrev pub EncodesInUtf16 : ℕ → List ℕ → Type 0
EncodesInUtf16 c [] = ⊥
EncodesInUtf16 c (u ∷ []) = (u ≡ c) × ((u < 0xD800) ⊎ In 0xE000 0xFFFF u)
EncodesInUtf16 c (u ∷ v ∷ []) = In 0xD800 0xDBFF u × In 0xDC00 0xDFFF v × (c ≡ 0x1_0000 + (u - 0xD800) * 0x400 + (v - 0xDC00))
EncodesInUtf16 c (u ∷ v ∷ w ∷ us) = ⊥

-- In UTF-16 a scalar counts as many as it has code units.
abbrev pub utf16_units : ℕ → ℕ
utf16_units c = length (code_units c)

-- What the scalars measure together.
abbrev pub total : (ℕ → ℕ) → List ℕ → ℕ
total units [] = 0
total units (c ∷ cs) = units c + total units cs

-- The longest text that is measured has fewer bytes than this.
abbrev pub too_long : ℕ
too_long = 2 ^ 62

-- What a text measures: the sum over its scalars, where it is well-formed.
abbrev pub Measures : (ℕ → ℕ) → List ℕ → Result ℕ Unmeasured → Type 0
Measures units t (Ok n) = (length t < too_long) × WellFormed t × (n ≡ total units (scalars t))
Measures units t (Err TooLong) = too_long ≤ length t
Measures units t (Err IllFormed) = (length t < too_long) × (WellFormed t → ⊥)
