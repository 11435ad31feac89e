use Rattle.std.proofs.Common.{length}
use Rattle.position.specs.Places.{Lawful}
use Rattle.index.proofs.Walks.{suffix}
use Rattle.index.proofs.Indexes.{Toward}
use Rattle.index.proofs.global.to_global_index.Given as goal

abbrev pub invariant-loop-row : goal.invariant-loop-row
invariant-loop-row g l = let d = g.S.Source.doc l.s in Lawful d l.p × Toward g.M.Measure.units d.runs l.p.row.0 l.p.index l.row.0 l.sum

abbrev pub decreases-loop-row : goal.decreases-loop-row
decreases-loop-row g l = length (suffix (g.S.Source.doc l.s).runs l.row.0)
