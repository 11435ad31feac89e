use Rattle.std.proofs.Common.{◌-◌}
use Rattle.position.specs.Places.{offset_in, offset, total}
use Rattle.unit.proofs.Walk.{Ahead}
use Rattle.unit.proofs.marks.onward.Given as goal

abbrev pub invariant-loop-n : goal.invariant-loop-n
invariant-loop-n g l = let d = g.S.Source.doc l.s in Ahead d (g.M.Marks.marks l.m d) (offset d l.q) l.row.0 l.from

abbrev pub decreases-loop-n : goal.decreases-loop-n
decreases-loop-n g l = let d = g.S.Source.doc l.s in total d - offset_in d.runs l.row.0 0
