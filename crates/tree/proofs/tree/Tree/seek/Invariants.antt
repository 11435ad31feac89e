use Rattle.std.proofs.Common.{◌≡◌, length}
use Rattle.tree.specs.Subtrees.{whole}
use Rattle.tree.specs.Walk.{In, ahead, shown, answers}
use Rattle.tree.proofs.tree.Tree.seek.Given as goal

-- What is yet to come at the start is what is yet to come at the row reached.
abbrev pub invariant-loop-at : goal.invariant-loop-at
invariant-loop-at g l =
    In l.self.rows.now l.base.0 l.at
    × (ahead l.self.rows.now l.self.children.now l.way (shown l.self.rows.now l.self.children.now l.way (answers (g.F.Filter.answer l.filter) l.self.rows.now)) l.base.0 l.initial.at
    ≡ ahead l.self.rows.now l.self.children.now l.way (shown l.self.rows.now l.self.children.now l.way (answers (g.F.Filter.answer l.filter) l.self.rows.now)) l.base.0 l.at)

abbrev pub decreases-loop-at : goal.decreases-loop-at
decreases-loop-at g l = length (ahead l.self.rows.now l.self.children.now l.way (whole l.self.rows.now l.self.children.now l.way) l.base.0 l.at)
