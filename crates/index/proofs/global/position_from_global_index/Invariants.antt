use Rattle.std.proofs.Common.{length}
use Rattle.index.proofs.Walks.{suffix}
use Rattle.index.proofs.Searches.{Seeks}
use Rattle.index.proofs.global.position_from_global_index.Given as goal

abbrev pub invariant-loop-n : goal.invariant-loop-n
invariant-loop-n g l = let d = g.S.Source.doc l.s in Seeks g.M.Measure.units d l.index l.row.0 l.left

abbrev pub decreases-loop-n : goal.decreases-loop-n
decreases-loop-n g l = length (suffix (g.S.Source.doc l.s).runs l.row.0)
