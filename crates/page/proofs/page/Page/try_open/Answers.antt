use Rattle.std.proofs.Common.{ap, refl, rules}
use Rattle.page.specs.Sheets.{sheet_of, sheet_doc}
use Rattle.page.proofs.Verdicts.{declined, one_refusal, same_sheet, sheet_accepted, sheet_declined}
use Rattle.page.proofs.page.Page.try_open.Goals as goal

pub returns-clause-opens : goal.returns-clause-opens
returns-clause-opens c =
    let e = same_sheet c.args.tables c.args.root c.in_ok-tree.tree c.in_ok-tree.ensures.judged (sheet_of c.new-draft.result) c.new-draft.ensures in
    (sheet_accepted c.args.tables c.args.root c.in_ok-tree.tree c.in_ok-tree.ensures.judged (sheet_of c.new-draft.result) c.new-draft.ensures c.in_ok-verdict.ensures, ((c.new-draft.result, refl, e), ap sheet_doc e))

pub returns-clause-refuses : goal.returns-clause-refuses
returns-clause-refuses c e d = absurd (declined c.args.tables c.args.root e (sheet_accepted c.args.tables c.args.root c.in_ok-tree.tree c.in_ok-tree.ensures.judged (sheet_of c.new-draft.result) c.new-draft.ensures c.in_ok-verdict.ensures) d)

pub returns-in_err-verdict-clause-accepts : goal.returns-in_err-verdict-clause-accepts
returns-in_err-verdict-clause-accepts c a = absurd (declined c.args.tables c.args.root c.in_err-verdict.field-0.0 a (sheet_declined c.args.tables c.args.root c.in_ok-tree.tree c.in_ok-tree.ensures.judged (sheet_of c.new-draft.result) c.new-draft.ensures c.in_err-verdict.field-0.0 c.in_err-verdict.ensures))

pub returns-in_err-verdict-clause-refuses : goal.returns-in_err-verdict-clause-refuses
returns-in_err-verdict-clause-refuses c e d =
    let h = one_refusal c.args.tables c.args.root c.in_err-verdict.field-0.0 e (sheet_declined c.args.tables c.args.root c.in_ok-tree.tree c.in_ok-tree.ensures.judged (sheet_of c.new-draft.result) c.new-draft.ensures c.in_err-verdict.field-0.0 c.in_err-verdict.ensures) d in
    rw (← h) (search rules)
