use Rattle.std.proofs.Common.{sym, ◌∙◌}
use Rattle.std.proofs.lemmas.Bool.{false≢true}
use Rattle.rows.proofs.Tests.{granted, denied}
use Rattle.page.proofs.Drafts.{draft_before, draft_before_one, draft_before_other}
use Rattle.page.proofs.draft.Draft.is_before.Goals.{then-is_run, else-is_run}
use Rattle.page.proofs.draft.Draft.is_before.Goals as goal

pub returns-then-is_run-2 : goal.returns-then-is_run-2
returns-then-is_run-2 c = elim c.if-is_run.branch [
  | then-is_run w ↦ c.unwrap_or.ensures ∙ draft_before c.args.self.now c.args.one c.args.other c.before-then-is_run-2.result (granted c.is_run.result c.is_run.ensures w.if-is_run.true) (granted w.is_run-then-is_run.result w.is_run-then-is_run.ensures (sym w.value-is ∙ c.if-is_run-2.true)) c.before-then-is_run-2.ensures
  | else-is_run w ↦ absurd (false≢true (sym w.if-is_run.false ∙ sym w.value-is ∙ c.if-is_run-2.true))
]

pub returns-else-is_run-2 : goal.returns-else-is_run-2
returns-else-is_run-2 c = c.if-is_run-2.false ∙ elim c.if-is_run.branch [
  | then-is_run w ↦ draft_before_other c.args.self.now c.args.one.0 c.args.other.0 (denied w.is_run-then-is_run.result w.is_run-then-is_run.ensures (sym w.value-is ∙ c.if-is_run-2.false))
  | else-is_run w ↦ draft_before_one c.args.self.now c.args.one.0 c.args.other.0 (denied c.is_run.result c.is_run.ensures w.if-is_run.false)
]
