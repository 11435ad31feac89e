-- Roles, and the numbers that stand for them in a table.
use Rattle.std.specs.Prelude.{◌≡◌, ℕ, ◌<◌, ◌≤◌, Result, MatchResult}
use Rattle.rows.specs.declared.role.Role.{Role}
use Rattle.rows.specs.declared.role.Role.TheVariants.{Other, TextRun, Label, Document, Terminal, PasswordInput, TextInput}
use Rattle.rows.specs.declared.role.UnknownRole.{UnknownRole}

-- The number that stands for a role.
abbrev pub code_of : Role → ℕ
code_of Other = 0
code_of TextRun = 1
code_of Label = 2
code_of Document = 3
code_of Terminal = 4
code_of PasswordInput = 5
code_of TextInput = 6

-- The role that this number stands for; a number above 6 is no role.
abbrev pub Decodes : ℕ → Result Role UnknownRole → Type 0
Decodes n r = MatchResult r (λ role. code_of role ≡ n) (λ e. (e.0 ≡ n) × (6 < n))

-- Rows of this role hold text of their own: those with the numbers 2 to 6.
abbrev pub HoldsText : Role → Type 0
HoldsText role = 2 ≤ code_of role
