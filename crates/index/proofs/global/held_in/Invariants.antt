use Rattle.std.proofs.Common.{◌≡◌, ◌+◌, take}
use Rattle.source.specs.Runs.{characters_in}
use Rattle.index.proofs.Sums.{sum_all}
use Rattle.index.proofs.global.held_in.Given as goal

abbrev pub invariant-loop-at : goal.invariant-loop-at
invariant-loop-at g l = l.left + sum_all g.M.Measure.units (take l.at (characters_in (g.S.Source.doc l.s).runs l.row.0)) ≡ l.initial.left
