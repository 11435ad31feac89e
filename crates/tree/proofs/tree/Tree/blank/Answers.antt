use Rattle.std.proofs.Common.{rules}
use Rattle.rows.proofs.Lifts.{lift_low}
use Rattle.tree.proofs.tree.Tree.blank.Goals as goal

pub invariant_of-result : goal.invariant_of-result
invariant_of-result c = search (rules, lift_low)
