use Rattle.std.proofs.Common.{Some, None, arith}
use Rattle.tree.specs.declared.way.Way.TheVariants.{Forward, Backward}
use Rattle.tree.proofs.Trees.{well}
use Rattle.tree.proofs.Rows.{sibling_at, sibling_next, sibling_last, sibling_back, sibling_first}
use Rattle.tree.proofs.tree.Tree.sibling.Goals as goal

pub returns-then-index-self : goal.returns-then-index-self
returns-then-index-self c = sibling_at (well c.args.self.now) c.args.way Forward c.args.row.0 (Some c.kid.result) c.in-Forward.is (sibling_next (well c.args.self.now) c.args.row.0 c.kid.result c.requires.above c.requires.within c.if-index-self.true c.kid.ensures)

pub returns-else-index-self : goal.returns-else-index-self
returns-else-index-self c = sibling_at (well c.args.self.now) c.args.way Forward c.args.row.0 None c.in-Forward.is (sibling_last (well c.args.self.now) c.args.row.0 c.requires.above c.requires.within (omega (arith, c.if-index-self.false)))

pub returns-then-index-gt0 : goal.returns-then-index-gt0
returns-then-index-gt0 c = sibling_at (well c.args.self.now) c.args.way Backward c.args.row.0 (Some c.kid-then-index-gt0.result) c.in-Backward.is (sibling_back (well c.args.self.now) c.args.row.0 c.kid-then-index-gt0.result c.requires.above c.requires.within c.if-index-gt0.true c.kid-then-index-gt0.ensures)

pub returns-else-index-gt0 : goal.returns-else-index-gt0
returns-else-index-gt0 c = sibling_at (well c.args.self.now) c.args.way Backward c.args.row.0 None c.in-Backward.is (sibling_first (well c.args.self.now) c.args.row.0 (omega (arith, c.if-index-gt0.false)))
