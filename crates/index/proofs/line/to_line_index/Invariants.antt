use Rattle.std.proofs.Common.{length}
use Rattle.position.specs.Places.{Lawful}
use Rattle.index.proofs.Walks.{suffix}
use Rattle.index.proofs.LineIndexes.{Counts}
use Rattle.index.proofs.line.to_line_index.Given as goal

abbrev pub invariant-loop-p : goal.invariant-loop-p
invariant-loop-p g l = let d = g.S.Source.doc l.s in Lawful d l.p × Counts d.runs l.p.row.0 l.p.index l.row.0 l.lines

abbrev pub decreases-loop-p : goal.decreases-loop-p
decreases-loop-p g l = length (suffix (g.S.Source.doc l.s).runs l.row.0)
