use Rattle.std.proofs.Common.{ℕ, ◌+◌, ◌<◌, ◌≤◌, length}
use Rattle.tree.specs.Subtrees.{Steps}
use Rattle.tree.proofs.tree.Tree.steps_to.Given as goal

-- The base lies above the row just where it lies above the row reached, n steps nearer.
abbrev pub invariant-loop-current : goal.invariant-loop-current
invariant-loop-current l =
    (l.current < length l.self.rows.now)
    × (l.n + l.current ≤ l.initial.current)
    × ((k : ℕ) → Steps l.self.rows.now k l.base.0 l.current → Steps l.self.rows.now (l.n + k) l.base.0 l.initial.current)
    × (((k : ℕ) × Steps l.self.rows.now k l.base.0 l.initial.current) → (k : ℕ) × Steps l.self.rows.now k l.base.0 l.current)

abbrev pub decreases-loop-current : goal.decreases-loop-current
decreases-loop-current l = l.current
