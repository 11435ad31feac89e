use Rattle.std.proofs.Common.{◌∙◌}
use Rattle.page.proofs.Drafts.{draft_previous}
use Rattle.page.proofs.draft.Draft.previous.Goals as goal

pub returns : goal.returns
returns c = c.unwrap_or.ensures ∙ draft_previous c.args.self.now c.args.id c.previous.result c.previous.ensures
