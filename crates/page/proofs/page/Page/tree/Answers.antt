use Rattle.std.proofs.Common.{refl}
use Rattle.page.proofs.Pages.{copied}
use Rattle.page.proofs.page.Page.tree.Goals as goal

pub returns : goal.returns
returns c = (c.in_ok-ok_or.field-0.now, copied c.as_ref.result c.in_ok-ok_or.field-0 c.args.self.now.draft c.as_ref.ensures.value c.in_ok-ok_or.ensures.ok_part, refl)
