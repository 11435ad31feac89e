-- What a filter lists below a base row.
use Rattle.std.specs.Prelude.{◌≡◌, ℕ, zero, suc, ◌<◌, List, [], ◌∷◌, ◌++◌, reverse, length, Some, None, Option}
use Rattle.std.specs.List.{flat_map}
use Rattle.rows.specs.declared.node.Row.{Row}
use Rattle.rows.specs.declared.node.NodeId.{NodeId}
use Rattle.rows.specs.declared.filters.FilterResult.{FilterResult}
use Rattle.rows.specs.declared.filters.FilterResult.TheVariants.{Include, ExcludeNode, ExcludeSubtree}
use Rattle.rows.specs.Rows.{row, par}
use Rattle.tree.specs.Subtrees.{offspring, side, rest, build, Under}
use Rattle.tree.specs.declared.way.Way.{Way}
use Rattle.tree.specs.declared.way.Way.TheVariants.{Forward, Backward}

-- What an answer lets through: the row, what is below it, or nothing.
abbrev pub by : FilterResult → List ℕ → List ℕ → List ℕ
by Include here below = here
by ExcludeNode here below = below
by ExcludeSubtree here below = []

-- What the subtree of r adds to a list, under the answers a.
abbrev pub shown : List Row → List NodeId → Way → (ℕ → FilterResult) → ℕ → List ℕ
shown rs cs d a = build rs cs d (λ r below. by (a r) (r ∷ []) below) (length rs)

-- The list under base as a walk goes along it.
abbrev pub along : List Row → List NodeId → Way → (ℕ → FilterResult) → ℕ → List ℕ
along rs cs d a base = flat_map (shown rs cs d a) (offspring rs cs d base)

-- The list under base: the included rows below it whose every row strictly between is answered
-- exclude node, in document order.
abbrev pub listed : List Row → List NodeId → (ℕ → FilterResult) → ℕ → List ℕ
listed rs cs a base = along rs cs Forward a base

-- What a filter's question q answers for each row of a table.
abbrev pub answers : (ℕ → Row → FilterResult) → List Row → ℕ → FilterResult
answers q rs r = q r (row rs r)

-- The first of a list, or nothing.
abbrev pub head : List ℕ → Option NodeId
head [] = None
head (r ∷ rs) = Some (record { 0 = r })

-- What is yet to come at a row, or at none.
abbrev pub ahead : List Row → List NodeId → Way → (ℕ → List ℕ) → ℕ → Option NodeId → List ℕ
ahead rs cs d f base None = []
ahead rs cs d f base (Some s) = f s.0 ++ rest rs cs d f s.0 base s.0

-- The row, if there is one, lies below base.
abbrev pub In : List Row → ℕ → Option NodeId → Type 0
In rs base None = Unit {0}
In rs base (Some s) = Under rs base s.0

-- The row found stands for all that is to come after r.
pub record Over (rs : List Row) (cs : List NodeId) (d : Way) (base r : ℕ) (o : Option NodeId) : Type 0 where
  pub within : In rs base o
  pub same : (f : ℕ → List ℕ) → rest rs cs d f r base r ≡ ahead rs cs d f base o

-- The sibling that a walk comes to after r.
abbrev pub Sibling : List Row → List NodeId → Way → ℕ → Option NodeId → Type 0
Sibling rs cs d r None = side rs cs d r ≡ []
Sibling rs cs d r (Some s) = (0 < s.0) × (s.0 < length rs) × (par rs s.0 ≡ par rs r) × (side rs cs d r ≡ s.0 ∷ side rs cs d s.0)

-- The child of r that a walk comes to first.
abbrev pub Child : List Row → List NodeId → Way → ℕ → Option NodeId → Type 0
Child rs cs d r None = offspring rs cs d r ≡ []
Child rs cs d r (Some s) = (0 < s.0) × (s.0 < length rs) × (par rs s.0 ≡ r) × (offspring rs cs d r ≡ s.0 ∷ side rs cs d s.0)

-- The base lies k + 1 steps up from r, and each row strictly between is answered exclude node.
abbrev pub Passed : List Row → (ℕ → FilterResult) → ℕ → ℕ → ℕ → Type 0
Passed rs a zero base r = (0 < r) × (r < length rs) × (par rs r ≡ base)
Passed rs a (suc k) base r = (0 < r) × (r < length rs) × (a (par rs r) ≡ ExcludeNode) × Passed rs a k base (par rs r)

-- r lies below base, and each row strictly between is answered exclude node.
abbrev pub On : List Row → (ℕ → FilterResult) → ℕ → ℕ → Type 0
On rs a base r = (k : ℕ) × Passed rs a k base r

-- r is an included row below base whose every row strictly between is answered exclude node.
abbrev pub Listed : List Row → (ℕ → FilterResult) → ℕ → ℕ → Type 0
Listed rs a base r = (a r ≡ Include) × On rs a base r

-- x stands in the list, and wherever it stands o is what comes next.
pub record Follows (xs : List ℕ) (x : ℕ) (o : Option NodeId) : Type 0 where
  pub stands : (pre : List ℕ) × (post : List ℕ) × (xs ≡ pre ++ x ∷ post)
  pub next : (pre post : List ℕ) → xs ≡ pre ++ x ∷ post → o ≡ head post

-- x stands in the list, and wherever it stands o is what comes just before.
pub record Precedes (xs : List ℕ) (x : ℕ) (o : Option NodeId) : Type 0 where
  pub stands : (pre : List ℕ) × (post : List ℕ) × (xs ≡ pre ++ x ∷ post)
  pub back : (pre post : List ℕ) → xs ≡ pre ++ x ∷ post → o ≡ head (reverse pre)

-- What a walk comes to after x in a list.
abbrev pub Beside : Way → List ℕ → ℕ → Option NodeId → Type 0
Beside Forward = Follows
Beside Backward = Precedes
