-- A line is a longest chain of joined runs.
use Rattle.std.specs.Prelude.{◌≡◌, ℕ, cond, List, [], ◌∷◌, ◌==◌}
use Rattle.source.specs.Runs.{Run, Document, count_in}
use Rattle.position.specs.declared.position.Position.{Position}
use Rattle.position.specs.Places.{at, size_of, to_start}

-- The row of the last run that the list's first run is joined to, itself where it is joined to none.
abbrev pub head_line : List Run → ℕ
head_line [] = 0
head_line (x ∷ []) = x.row
head_line (x ∷ y ∷ ys) = cond x.joined (head_line (y ∷ ys)) x.row

-- The row of the last run of the line that a run stands on.
abbrev pub line_end_in : List Run → ℕ → ℕ
line_end_in [] r = 0
line_end_in (x ∷ xs) r = cond (x.row == r) (head_line (x ∷ xs)) (line_end_in xs r)

-- The end of a run.
abbrev pub end_of : Document → ℕ → Position
end_of d r = at d.root r (size_of (count_in d.runs r))

-- q is the end of the line of p, biased to start.
abbrev pub EndsLine : Document → Position → Position → Type 0
EndsLine d p q = q ≡ end_of d (line_end_in d.runs (to_start d p).row.0)
