use Rattle.std.proofs.Common.{◌≤◌}
use Rattle.panel.specs.Lines.{lines_left}
use Rattle.panel.proofs.serve.serve_reader.Given as goal

abbrev pub invariant-loop-input : goal.invariant-loop-input
invariant-loop-input g l = lines_left l.input ≤ lines_left l.fn.input

abbrev pub decreases-loop-input : goal.decreases-loop-input
decreases-loop-input g l = lines_left l.input
