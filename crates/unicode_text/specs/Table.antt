-- The Unicode Standard, Table 3-7: the well-formed UTF-8 byte sequences.
use Rattle.std.specs.Prelude.{ℕ, ◌≤◌, List, [], ◌∷◌}

-- A byte from low to high.
abbrev pub In : ℕ → ℕ → ℕ → Type 0
In low high b = (low ≤ b) × (b ≤ high)

-- A byte in the range that the table gives most second, and all third and fourth bytes.
abbrev pub Trail : ℕ → Type 0
Trail = In 0x80 0xBF

-- A text is well-formed where it is empty, or begins as a row of the table has it and is well-formed
-- behind that. The rows stand in the table's order.
pub data WellFormed : List ℕ → Type 0 where
  empty : WellFormed []
  -- U+0000..U+007F
  row1 : {a : ℕ} {s : List ℕ} → In 0x00 0x7F a → WellFormed s → WellFormed (a ∷ s)
  -- U+0080..U+07FF
  row2 : {a b : ℕ} {s : List ℕ} → In 0xC2 0xDF a → Trail b → WellFormed s → WellFormed (a ∷ b ∷ s)
  -- U+0800..U+0FFF
  row3 : {a b c : ℕ} {s : List ℕ} → In 0xE0 0xE0 a → In 0xA0 0xBF b → Trail c → WellFormed s → WellFormed (a ∷ b ∷ c ∷ s)
  -- U+1000..U+CFFF
  row4 : {a b c : ℕ} {s : List ℕ} → In 0xE1 0xEC a → Trail b → Trail c → WellFormed s → WellFormed (a ∷ b ∷ c ∷ s)
  -- U+D000..U+D7FF
  row5 : {a b c : ℕ} {s : List ℕ} → In 0xED 0xED a → In 0x80 0x9F b → Trail c → WellFormed s → WellFormed (a ∷ b ∷ c ∷ s)
  -- U+E000..U+FFFF
  row6 : {a b c : ℕ} {s : List ℕ} → In 0xEE 0xEF a → Trail b → Trail c → WellFormed s → WellFormed (a ∷ b ∷ c ∷ s)
  -- U+10000..U+3FFFF
  row7 : {a b c d : ℕ} {s : List ℕ} → In 0xF0 0xF0 a → In 0x90 0xBF b → Trail c → Trail d → WellFormed s → WellFormed (a ∷ b ∷ c ∷ d ∷ s)
  -- U+40000..U+FFFFF
  row8 : {a b c d : ℕ} {s : List ℕ} → In 0xF1 0xF3 a → Trail b → Trail c → Trail d → WellFormed s → WellFormed (a ∷ b ∷ c ∷ d ∷ s)
  -- U+100000..U+10FFFF
  row9 : {a b c d : ℕ} {s : List ℕ} → In 0xF4 0xF4 a → In 0x80 0x8F b → Trail c → Trail d → WellFormed s → WellFormed (a ∷ b ∷ c ∷ d ∷ s)
