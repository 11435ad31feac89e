use Rattle.tree.proofs.Trees.{lists}
use Rattle.tree.proofs.tree.Tree.first.Goals as goal

pub returns-clause-lists : goal.returns-clause-lists
returns-clause-lists g c = lists c.args.self.now (g.F.Filter.answer c.args.filter.now) c.args.base
