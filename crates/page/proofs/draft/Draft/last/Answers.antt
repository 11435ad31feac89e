use Rattle.std.proofs.Common.{ap, ◌∙◌, unwrap_or}
use Rattle.source.specs.Runs.{row_id}
use Rattle.page.proofs.Drafts.{draft_last}
use Rattle.page.proofs.draft.Draft.last.Goals as goal

pub returns : goal.returns
returns c = ap (λ o. (unwrap_or o (row_id 0)).0) c.unwrap_or.ensures ∙ draft_last c.args.self.now c.last.result c.last.ensures
