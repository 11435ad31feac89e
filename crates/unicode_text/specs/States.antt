-- The states of the check, and where a byte leads from each. Only the check's own private functions
-- promise this; what its public call promises is the table.
use Rattle.std.specs.Prelude.{ℕ, Bool, true, false, cond, List, [], ◌∷◌, nat_le}
use Rattle.unicode_text.specs.declared.utf8.State.{State}
use Rattle.unicode_text.specs.declared.utf8.State.TheVariants.{Start, One, Two, Three, AfterE0, AfterED, AfterF0, AfterF4, Bad}

-- A byte from low to high leads to s, any other to the bad state.
abbrev pub inside : ℕ → ℕ → ℕ → State → State
inside low high b s = cond (nat_le low b) (cond (nat_le b high) s Bad) Bad

-- The state after one byte more.
abbrev pub next : State → ℕ → State
next Start b =
    cond (nat_le b 0x7F) Start
    (cond (nat_le b 0xC1) Bad
    (cond (nat_le b 0xDF) One
    (cond (nat_le b 0xE0) AfterE0
    (cond (nat_le b 0xEC) Two
    (cond (nat_le b 0xED) AfterED
    (cond (nat_le b 0xEF) Two
    (cond (nat_le b 0xF0) AfterF0
    (cond (nat_le b 0xF3) Three
    (cond (nat_le b 0xF4) AfterF4 Bad)))))))))
next One b = inside 0x80 0xBF b Start
next Two b = inside 0x80 0xBF b One
next Three b = inside 0x80 0xBF b Two
next AfterE0 b = inside 0xA0 0xBF b One
next AfterED b = inside 0x80 0x9F b One
next AfterF0 b = inside 0x90 0xBF b Two
next AfterF4 b = inside 0x80 0x8F b Two
next Bad b = Bad

-- Whether a text may end in this state.
abbrev pub ends : State → Bool
ends Start = true
ends One = false
ends Two = false
ends Three = false
ends AfterE0 = false
ends AfterED = false
ends AfterF0 = false
ends AfterF4 = false
ends Bad = false

-- Whether a text leads from this state to one in which it may end.
abbrev pub passes : State → List ℕ → Bool
passes s [] = ends s
passes s (b ∷ bs) = passes (next s b) bs
