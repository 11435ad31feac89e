use Rattle.page.proofs.Pages.{draft_parts}
use Rattle.page.proofs.page.Page.parts.Goals as goal

pub returns-in-Some : goal.returns-in-Some
returns-in-Some c =
    let d = c.in-Some.draft in
    let h = draft_parts d (c.args.self.now.ordered d c.in-Some.is) c.args.row.0 c.is_run.result c.parts.result c.is_run.ensures c.parts.ensures in
    rw (c.in-Some.is, c.then_some.ensures) h
