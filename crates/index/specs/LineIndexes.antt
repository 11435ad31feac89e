-- Lines by number: how many end before a run, and where each starts and ends.
use Rattle.std.specs.Prelude.{◌≡◌, ℕ, zero, suc, ◌+◌, ◌<◌, ◌≤◌, cond, List, [], ◌∷◌, Some, None, Ok, Err, Option, Result, ◌==◌}
use Rattle.rows.specs.declared.node.NodeId.{NodeId}
use Rattle.rows.specs.declared.refusal.Refusal.{Refusal}
use Rattle.rows.specs.declared.refusal.Refusal.TheVariants.{Beyond}
use Rattle.source.specs.Runs.{Run, Document, count_in, first_row}
use Rattle.source.specs.Pieces.{Within}
use Rattle.position.specs.declared.position.Position.{Position}
use Rattle.position.specs.Places.{at}
use Rattle.moves.specs.Lines.{line_end_in, end_of}

-- The lines that end with a run: one where it is joined to none.
abbrev pub ends : Run → ℕ
ends x = cond x.joined 0 1

-- The lines that end before a run.
abbrev pub lines_before : List Run → ℕ → ℕ
lines_before [] r = 0
lines_before (x ∷ xs) r = cond (x.row == r) 0 (ends x + lines_before xs r)

-- The number of lines.
abbrev pub line_count : List Run → ℕ
line_count [] = 0
line_count (x ∷ xs) = ends x + line_count xs

-- The runs from the start of a line on, by the line's number.
abbrev pub line_from : List Run → ℕ → List Run
line_from xs zero = xs
line_from [] (suc k) = []
line_from (x ∷ xs) (suc k) = cond x.joined (line_from xs (suc k)) (line_from xs k)

-- The run at which the line of this number starts.
pub record Starts (d : Document) (k r : ℕ) : Type 0 where
  pub inside : k < line_count d.runs
  pub within : Within 0 (count_in d.runs r)
  pub opens : r ≡ first_row (line_from d.runs k)
  pub passed : lines_before d.runs r ≡ k

-- That run, where there are so many lines.
abbrev pub LineStarts : Document → ℕ → Option NodeId → Type 0
LineStarts d k (Some r) = Starts d k r.0
LineStarts d k None = line_count d.runs ≤ k

-- The line of this number, from its first run's start to its last run's end.
pub record Ranges (d : Document) (k : ℕ) (start end : Position) : Type 0 where
  pub first : Starts d k start.row.0
  pub start_is : start ≡ at d.root (first_row (line_from d.runs k)) 0
  pub end_is : end ≡ end_of d (line_end_in d.runs (first_row (line_from d.runs k)))

-- The range of a line; none where there is no such line.
abbrev pub LineRange : Document → ℕ → Result (Position × Position) Refusal → Type 0
LineRange d k (Ok t) = Ranges d k t.0 t.1
LineRange d k (Err e) = (e ≡ Beyond) × (line_count d.runs ≤ k)
