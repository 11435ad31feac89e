use Rattle.std.proofs.Common.{sym, ap, ◌∙◌}
use Rattle.tree.specs.Walk.{answers, head}
use Rattle.tree.proofs.Trees.{well}
use Rattle.tree.proofs.Lists.{from_first, along_is}
use Rattle.rows.proofs.Tests.{granted}
use Rattle.tree.proofs.tree.Tree.edge.Goals as goal

pub returns : goal.returns
returns g c =
    let a = answers (g.F.Filter.answer c.args.filter.now) c.args.self.now.rows.now in
    let w = well c.args.self.now in (
      granted c.includes.result c.includes.ensures c.if-not-includes.false,
      c.seek.ensures
          ∙ ap head (sym (from_first w c.args.way a c.args.base.0 c.child-start.result c.child-start.ensures))
          ∙ ap head (along_is w a c.args.way c.args.base.0),
    )
