use Rattle.std.proofs.Common.{◌≡◌, ◌-◌}
use Rattle.source.specs.Runs.{count_in}
use Rattle.source.specs.Pieces.{Within}
use Rattle.position.specs.Places.{offset_in, total}
use Rattle.moves.specs.Lines.{line_end_in}
use Rattle.moves.proofs.line.forward_to_line_end.Given as goal

abbrev pub invariant-loop-row : goal.invariant-loop-row
invariant-loop-row g l = let d = g.S.Source.doc l.s in Within 0 (count_in d.runs l.row.0) × (line_end_in d.runs l.q.row.0 ≡ line_end_in d.runs l.row.0)

abbrev pub decreases-loop-row : goal.decreases-loop-row
decreases-loop-row g l = let d = g.S.Source.doc l.s in total d - offset_in d.runs l.row.0 0
