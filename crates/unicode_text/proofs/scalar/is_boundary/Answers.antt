use Rattle.std.proofs.Common.{rules, arith}
use Rattle.std.proofs.lemmas.Grind.{common_steps}
use Rattle.unicode_text.proofs.Cuts.{cuts_agree}
use Rattle.unicode_text.proofs.scalar.is_boundary.Goals as goal

pub returns-clause-between : goal.returns-clause-between
returns-clause-between c = cuts_agree c.args.text.now c.args.at _ (grind (arith, common_steps))
