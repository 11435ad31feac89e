-- What the calls on a judged tree answer.
use Rattle.std.specs.Prelude.{◌≡◌, ℕ, ◌<◌, ◌≤◌, Bool, List, ◌∷◌, ◌++◌, length, take, drop, Some, None, Ok, Err, Option, Result, ◌↔◌, IsTrue}
use Rattle.tree.specs.declared.tree.Tree.{Tree}
use Rattle.rows.specs.declared.node.Row.{Row}
use Rattle.rows.specs.declared.node.NodeId.{NodeId}
use Rattle.rows.specs.declared.filters.FilterResult.{FilterResult}
use Rattle.rows.specs.declared.filters.FilterResult.TheVariants.{Include}
use Rattle.rows.specs.declared.refusal.Refusal.{Refusal}
use Rattle.rows.specs.declared.refusal.Refusal.TheVariants.{Misplaced}
use Rattle.rows.specs.Rows.{row, par, index}
use Rattle.tree.specs.declared.way.Way.{Way}
use Rattle.tree.specs.declared.way.Way.TheVariants.{Forward, Backward}
use Rattle.tree.specs.Subtrees.{Steps, path, turned}
use Rattle.tree.specs.Order.{Before, InOrder, Apart}
use Rattle.tree.specs.Walk.{answers, listed, Listed, head, Beside}

-- The rows of a tree.
abbrev pub rows_of : Tree → List Row
rows_of t = t.rows.now

-- The child entries of a tree.
abbrev pub entries_of : Tree → List NodeId
entries_of t = t.children.now

-- The tree has this row.
abbrev pub IsRow : Tree → NodeId → Type 0
IsRow t r = r.0 < length (rows_of t)

-- The list under base, for a filter's question q.
abbrev pub list_on : Tree → (ℕ → Row → FilterResult) → NodeId → List ℕ
list_on t q base = listed (rows_of t) (entries_of t) (answers q (rows_of t)) base.0

-- The row is of the list under base.
abbrev pub ListedOn : Tree → (ℕ → Row → FilterResult) → NodeId → NodeId → Type 0
ListedOn t q base r = Listed (rows_of t) (answers q (rows_of t)) base.0 r.0

-- The list under base holds exactly the rows that are listed, in document order and none twice.
pub record Lists (t : Tree) (q : ℕ → Row → FilterResult) (base : NodeId) : Type 0 where
  pub holds : (r : ℕ) → Listed (rows_of t) (answers q (rows_of t)) base.0 r → (pre : List ℕ) × (post : List ℕ) × (list_on t q base ≡ pre ++ r ∷ post)
  pub only : (r : ℕ) (pre post : List ℕ) → list_on t q base ≡ pre ++ r ∷ post → Listed (rows_of t) (answers q (rows_of t)) base.0 r
  pub order : InOrder (rows_of t) base.0 (list_on t q base)
  pub apart : Apart (list_on t q base)
  pub few : length (list_on t q base) ≤ 1024

-- The tree has this row, and the filter includes it: only such a row may be a walk's base.
abbrev pub Included : Tree → (ℕ → Row → FilterResult) → NodeId → Type 0
Included t q base = IsRow t base × (answers q (rows_of t) base.0 ≡ Include)

-- A walk may stand on this row: its base is included, and the row is of the list under it.
abbrev pub Walked : Tree → (ℕ → Row → FilterResult) → NodeId → NodeId → Type 0
Walked t q base r = Included t q base × ListedOn t q base r

-- The row that a walk comes to first in the list under base, or nothing where the list is empty.
abbrev pub EdgeOn : Way → Tree → (ℕ → Row → FilterResult) → NodeId → Result (Option NodeId) Refusal → Type 0
EdgeOn d t q base (Ok o) = Included t q base × (o ≡ head (turned d (list_on t q base)))
EdgeOn d t q base (Err e) = (e ≡ Misplaced) × (Included t q base → ⊥)

-- The first row of the list under base, or nothing where the list is empty.
abbrev pub FirstOn : Tree → (ℕ → Row → FilterResult) → NodeId → Result (Option NodeId) Refusal → Type 0
FirstOn = EdgeOn Forward

-- The last row of the list under base, or nothing where the list is empty.
abbrev pub LastOn : Tree → (ℕ → Row → FilterResult) → NodeId → Result (Option NodeId) Refusal → Type 0
LastOn = EdgeOn Backward

-- The row that a walk comes to after r in the list under base, or nothing past the list's end that way.
abbrev pub BesideOn : Way → Tree → (ℕ → Row → FilterResult) → NodeId → NodeId → Result (Option NodeId) Refusal → Type 0
BesideOn d t q base r (Ok o) = Walked t q base r × Beside d (list_on t q base) r.0 o
BesideOn d t q base r (Err e) = (e ≡ Misplaced) × (Walked t q base r → ⊥)

-- The row that follows r in the list under base, or nothing past its end.
abbrev pub NextOn : Tree → (ℕ → Row → FilterResult) → NodeId → NodeId → Result (Option NodeId) Refusal → Type 0
NextOn = BesideOn Forward

-- The row that precedes r in the list under base, or nothing past its start.
abbrev pub PreviousOn : Tree → (ℕ → Row → FilterResult) → NodeId → NodeId → Result (Option NodeId) Refusal → Type 0
PreviousOn = BesideOn Backward

-- What the table holds for a row.
abbrev pub RowOn : Tree → NodeId → Option Row → Type 0
RowOn t r (Some x) = IsRow t r × (x ≡ row (rows_of t) r.0)
RowOn t r None = IsRow t r → ⊥

-- The parent row and the index among its children, or nothing for row 0.
abbrev pub ParentOn : Tree → NodeId → Result (Option (ℕ × ℕ)) Refusal → Type 0
ParentOn t r (Ok (Some p)) = IsRow t r × (0 < r.0) × (p.0 ≡ par (rows_of t) r.0) × (p.1 ≡ index (rows_of t) r.0)
ParentOn t r (Ok None) = IsRow t r × (r.0 ≡ 0)
ParentOn t r (Err e) = (e ≡ Misplaced) × (IsRow t r → ⊥)

-- The tree has the row, and base is the row or above it.
abbrev pub Above : Tree → NodeId → NodeId → Type 0
Above t base r = IsRow t r × ((k : ℕ) × Steps (rows_of t) k base.0 r.0)

-- How many steps base lies above the row.
abbrev pub StepsOn : Tree → NodeId → NodeId → Option ℕ → Type 0
StepsOn t base r (Some n) = IsRow t r × Steps (rows_of t) n base.0 r.0 × (n ≤ 64)
StepsOn t base r None = Above t base r → ⊥

-- The indexes that lead from base down to the row are written in front, and the places behind them
-- keep what they held.
abbrev pub PathOn : Tree → NodeId → NodeId → List ℕ → List ℕ → Result ℕ Refusal → Type 0
PathOn t base r old new (Ok n) = IsRow t r × Steps (rows_of t) n base.0 r.0 × (n ≤ 64) × (take n new ≡ path (rows_of t) n r.0) × (drop n new ≡ drop n old)
PathOn t base r old new (Err e) = (e ≡ Misplaced) × (Above t base r → ⊥) × (new ≡ old)

-- Whether one row comes before another in document order.
abbrev pub BeforeOn : Tree → NodeId → NodeId → NodeId → Result Bool Refusal → Type 0
BeforeOn t base x y (Ok b) = Above t base x × Above t base y × (IsTrue b ↔ Before (rows_of t) base.0 x.0 y.0)
BeforeOn t base x y (Err e) = (e ≡ Misplaced) × ((Above t base x × Above t base y) → ⊥)
