use Rattle.std.proofs.Common.{◌∙◌}
use Rattle.page.proofs.Drafts.{draft_next}
use Rattle.page.proofs.draft.Draft.next.Goals as goal

pub returns : goal.returns
returns c = c.unwrap_or.ensures ∙ draft_next c.args.self.now c.args.id c.next.result c.next.ensures
