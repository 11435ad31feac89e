use Rattle.std.proofs.Common.{Some, None, refl}
use Rattle.page.proofs.Verdicts.{declined}
use Rattle.page.proofs.page.Page.open.Goals as goal

pub returns-in-Ok-clause-single : goal.returns-in-Ok-clause-single
returns-in-Ok-clause-single c None v = refl
returns-in-Ok-clause-single c (Some e) v = absurd (declined c.args.tables c.args.root e c.in-Ok.ensures.opens.0 v)
