use Rattle.position.specs.Places.{offset_in, offset}
use Rattle.unit.proofs.Walk.{Behind}
use Rattle.unit.proofs.marks.back.Given as goal

abbrev pub invariant-loop-index : goal.invariant-loop-index
invariant-loop-index g l = let d = g.S.Source.doc l.s in Behind d (g.M.Marks.marks l.m d) (offset d l.q) l.row.0 l.below

abbrev pub decreases-loop-index : goal.decreases-loop-index
decreases-loop-index g l = offset_in (g.S.Source.doc l.s).runs l.row.0 0
