use Rattle.std.proofs.Common.{◌*◌, ◌≤◌, drop}
use Rattle.page.specs.Texts.{Ended}
use Rattle.page.proofs.Slices.{Same}
use Rattle.page.proofs.part.Parts.is_fitting.Given as goal

-- The characters end as they should just if those that are left do.
abbrev pub invariant-loop-n : goal.invariant-loop-n
invariant-loop-n l = (l.at ≤ 255 * l.n-index) × Same (Ended l.self.text.now 0 l.self.lengths.now) (Ended l.self.text.now l.at (drop l.n-index l.self.lengths.now))
