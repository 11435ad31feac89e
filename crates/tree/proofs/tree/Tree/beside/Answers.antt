use Rattle.tree.specs.Walk.{answers}
use Rattle.tree.proofs.Trees.{well}
use Rattle.tree.proofs.Lists.{beside_in, passed_under}
use Rattle.rows.proofs.Tests.{granted}
use Rattle.tree.proofs.tree.Tree.beside.Goals as goal

pub step_over-start-requires-clause-under : goal.step_over-start-requires-clause-under
step_over-start-requires-clause-under g c =
    let l = granted c.is_listed.result c.is_listed.ensures c.if-not-is_listed.false in
    (l.1.1.0, passed_under (well c.args.self.now) c.args.way (answers (g.F.Filter.answer c.args.filter.now) c.args.self.now.rows.now) c.args.base.0 l.1.1.0 c.args.row.0 l.1.1.1)

pub returns : goal.returns
returns g c =
    let l = granted c.is_listed.result c.is_listed.ensures c.if-not-is_listed.false in
    (l, beside_in (well c.args.self.now) (answers (g.F.Filter.answer c.args.filter.now) c.args.self.now.rows.now) c.args.way c.args.base.0 c.args.row.0 c.step_over-start.result c.seek.result l.0.0 l.1 c.step_over-start.ensures c.seek.ensures)
