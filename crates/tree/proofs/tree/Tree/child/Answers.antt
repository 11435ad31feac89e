use Rattle.std.proofs.Common.{Some, rules}
use Rattle.tree.specs.declared.way.Way.TheVariants.{Forward, Backward}
use Rattle.tree.proofs.Trees.{well}
use Rattle.tree.proofs.Rows.{child_at, child_none, child_first, child_last}
use Rattle.tree.proofs.tree.Tree.child.Goals as goal

pub returns-in_err-last : goal.returns-in_err-last
returns-in_err-last c = search (rules, child_none (well c.args.self.now) c.args.way c.args.row.0 c.requires)

pub returns-in-Forward : goal.returns-in-Forward
returns-in-Forward c = child_at (well c.args.self.now) c.args.way Forward c.args.row.0 (Some c.kid.result) c.in-Forward.is (child_first (well c.args.self.now) c.args.row.0 c.kid.result c.requires (search rules) c.kid.ensures)

pub returns-in-Backward : goal.returns-in-Backward
returns-in-Backward c = child_at (well c.args.self.now) c.args.way Backward c.args.row.0 (Some c.kid-in-Backward.result) c.in-Backward.is (child_last (well c.args.self.now) c.args.row.0 c.kid-in-Backward.result c.requires (search rules) (search (rules, c.kid-in-Backward.ensures)))
