use Rattle.panel.specs.Lines.{lines_left}
use Rattle.panel.proofs.main.Given as goal

abbrev pub decreases-loop-strip : goal.decreases-loop-strip
decreases-loop-strip l = lines_left l.input
