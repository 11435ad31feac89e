-- How positions compare: by the order of their runs, then by index; and their plain equality.
use Rattle.std.specs.Prelude.{◌≡◌, ℕ, ◌<◌, Bool, cond, ◌&&◌, ◌==◌, nat_lt}
use Rattle.std.specs.declared.cmp.Ordering.TheVariants.{Less, Equal, Greater}
use Rattle.std.specs.declared.cmp.Ordering.{Ordering}
use Rattle.source.specs.Runs.{Document, before_in}
use Rattle.position.specs.declared.position.Position.{Position}
use Rattle.position.specs.Places.{offset, to_start}

-- Root, row and index are the same numbers.
abbrev pub alike : Position → Position → Bool
alike p q = p.root.0 == q.root.0 && (p.row.0 == q.row.0 && p.index == q.index)

-- How two numbers compare.
abbrev pub numbers : ℕ → ℕ → Ordering
numbers i j = cond (nat_lt i j) Less (cond (nat_lt j i) Greater Equal)

-- Positions of one run compare by index, others as their runs stand in the document.
abbrev pub by_runs : Document → Position → Position → Ordering
by_runs d p q = cond (p.row.0 == q.row.0) (numbers p.index q.index) (cond (before_in d.runs p.row.0 q.row.0) Less Greater)

-- The ordering of two places, by the characters before them.
abbrev pub Compares : ℕ → ℕ → Ordering → Type 0
Compares a b Less = a < b
Compares a b Equal = a ≡ b
Compares a b Greater = b < a

-- How the positions compare when biased to start, which is how their places do.
abbrev pub Ordered : Document → Position → Position → Ordering → Type 0
Ordered d p q o = (o ≡ by_runs d (to_start d p) (to_start d q)) × Compares (offset d p) (offset d q) o
