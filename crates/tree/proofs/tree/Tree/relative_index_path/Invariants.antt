use Rattle.std.proofs.Common.{◌≡◌, ℕ, ◌-◌, ◌<◌, ◌++◌, length, take, drop}
use Rattle.tree.specs.Subtrees.{Steps, path}
use Rattle.tree.proofs.tree.Tree.relative_index_path.Given as goal

-- What is yet to be written, and then what stands from the place on.
abbrev pub invariant-loop-place : goal.invariant-loop-place
invariant-loop-place l =
    (length l.out ≡ 64)
    × (l.current < length l.self.rows.now)
    × ((base : ℕ) × Steps l.self.rows.now l.place base l.current)
    × (path l.self.rows.now l.n l.initial.current ≡ path l.self.rows.now l.place l.current ++ take (l.n - l.place) (drop l.place l.out))
    × (drop l.n l.out ≡ drop l.n l.initial.out)
