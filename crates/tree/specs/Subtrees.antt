-- What lies below a row, and how a walk comes to it.
use Rattle.std.specs.Prelude.{◌≡◌, ℕ, zero, suc, ◌+◌, ◌<◌, cond, List, [], ◌∷◌, ◌++◌, map, reverse, length, take, drop, ◌==◌}
use Rattle.std.specs.List.{flat_map}
use Rattle.rows.specs.declared.node.Row.{Row}
use Rattle.rows.specs.declared.node.NodeId.{NodeId}
use Rattle.rows.specs.Rows.{par, index, start, count}
use Rattle.tree.specs.declared.way.Way.{Way}
use Rattle.tree.specs.declared.way.Way.TheVariants.{Forward, Backward}

-- The base lies k steps up from r.
abbrev pub Steps : List Row → ℕ → ℕ → ℕ → Type 0
Steps rs zero base r = r ≡ base
Steps rs (suc k) base r = (0 < r) × (r < length rs) × Steps rs k base (par rs r)

-- The index path that leads k steps down to r.
unfoldable pub path : List Row → ℕ → ℕ → List ℕ
path rs zero r = []
path rs (suc k) r = path rs k (par rs r) ++ index rs r ∷ []

-- r lies below base.
abbrev pub Under : List Row → ℕ → ℕ → Type 0
Under rs base r = (k : ℕ) × Steps rs (suc k) base r

-- The children of r, in order.
unfoldable pub kids : List Row → List NodeId → ℕ → List ℕ
kids rs cs r = map (λ n. n.0) (take (count rs r) (drop (start rs r) cs))

-- A list as a walk goes along it.
abbrev pub turned : Way → List ℕ → List ℕ
turned Forward xs = xs
turned Backward xs = reverse xs

-- The children of r as a walk comes to them.
unfoldable pub offspring : List Row → List NodeId → Way → ℕ → List ℕ
offspring rs cs d r = turned d (kids rs cs r)

-- The children of r's parent that a walk comes to after r.
unfoldable pub side : List Row → List NodeId → Way → ℕ → List ℕ
side rs cs Forward r = drop (index rs r + 1) (kids rs cs (par rs r))
side rs cs Backward r = reverse (take (index rs r) (kids rs cs (par rs r)))

-- What a walk comes to below base after r and all that is below r, where each subtree yields what f
-- says. The first number bounds the steps up.
unfoldable pub rest : List Row → List NodeId → Way → (ℕ → List ℕ) → ℕ → ℕ → ℕ → List ℕ
rest rs cs d f zero base r = []
rest rs cs d f (suc n) base r = flat_map f (side rs cs d r) ++ cond (par rs r == base) [] (rest rs cs d f n base (par rs r))

-- A list made from a subtree, where g makes it from a row and the joined lists of its children.
-- The first number bounds the depth.
unfoldable pub build : List Row → List NodeId → Way → (ℕ → List ℕ → List ℕ) → ℕ → ℕ → List ℕ
build rs cs d g zero r = []
build rs cs d g (suc n) r = g r (flat_map (build rs cs d g n) (offspring rs cs d r))

-- r and all below it, in the order of a walk.
abbrev pub whole : List Row → List NodeId → Way → ℕ → List ℕ
whole rs cs d = build rs cs d ◌∷◌ (length rs)
