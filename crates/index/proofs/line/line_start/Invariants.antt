use Rattle.std.proofs.Common.{length}
use Rattle.index.proofs.Walks.{suffix}
use Rattle.index.proofs.LineIndexes.{Finding}
use Rattle.index.proofs.line.line_start.Given as goal

abbrev pub invariant-loop-left : goal.invariant-loop-left
invariant-loop-left g l = Finding (g.S.Source.doc l.s) l.index l.row.0 l.left

abbrev pub decreases-loop-left : goal.decreases-loop-left
decreases-loop-left g l = length (suffix (g.S.Source.doc l.s).runs l.row.0)
