use Rattle.std.proofs.Common.{◌≡◌, ℕ, List}
use Rattle.tree.specs.Subtrees.{Under, rest}
use Rattle.tree.proofs.tree.Tree.step_over.Given as goal

-- What comes behind the row is what comes behind the row reached.
abbrev pub invariant-loop-sibling : goal.invariant-loop-sibling
invariant-loop-sibling l = Under l.self.rows.now l.base.0 l.current.0 × ((f : ℕ → List ℕ) → rest l.self.rows.now l.self.children.now l.way f l.initial.current.0 l.base.0 l.initial.current.0 ≡ rest l.self.rows.now l.self.children.now l.way f l.current.0 l.base.0 l.current.0)

abbrev pub decreases-loop-sibling : goal.decreases-loop-sibling
decreases-loop-sibling l = l.current.0
