-- Document order, by index paths.
use Rattle.std.specs.Prelude.{◌≡◌, ℕ, ◌<◌, ◌⊎◌, List, [], ◌∷◌, ◌++◌}
use Rattle.rows.specs.declared.node.Row.{Row}
use Rattle.tree.specs.Subtrees.{Steps, path}

-- One index path comes before another: a front first, else by the first place where they differ.
abbrev pub Less : List ℕ → List ℕ → Type 0
Less [] [] = ⊥
Less [] (y ∷ ys) = Unit {0}
Less (x ∷ xs) [] = ⊥
Less (x ∷ xs) (y ∷ ys) = (x < y) ⊎ ((x ≡ y) × Less xs ys)

-- x comes before y in document order, by their paths from base.
abbrev pub Before : List Row → ℕ → ℕ → ℕ → Type 0
Before rs base x y = (k : ℕ) × (j : ℕ) × Steps rs k base x × Steps rs j base y × Less (path rs k x) (path rs j y)

-- x stands in the list, and y behind it.
abbrev pub Ahead : List ℕ → ℕ → ℕ → Type 0
Ahead xs x y = (pre : List ℕ) × (mid : List ℕ) × (post : List ℕ) × (xs ≡ pre ++ x ∷ (mid ++ y ∷ post))

-- What stands ahead of a row in the list comes before it in document order.
abbrev pub InOrder : List Row → ℕ → List ℕ → Type 0
InOrder rs base xs = (x y : ℕ) → Ahead xs x y → Before rs base x y

-- No row stands twice in the list.
abbrev pub Apart : List ℕ → Type 0
Apart xs = (x : ℕ) → Ahead xs x x → ⊥
