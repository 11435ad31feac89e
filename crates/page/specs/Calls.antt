-- What the calls on a page's tree answer. On the blank page, row 0 has no parent and its path to itself
-- is empty; every walk, and any other row, is out of place.
use Rattle.std.specs.Prelude.{◌≡◌, ℕ, List, Some, None, Ok, Err, Option, Result, ◌≢◌}
use Rattle.std.specs.Borrow.{Bor}
use Rattle.std.specs.Option.{MatchOption}
use Rattle.rows.specs.declared.node.NodeId.{NodeId}
use Rattle.rows.specs.declared.node.Row.{Row}
use Rattle.rows.specs.declared.filters.FilterResult.{FilterResult}
use Rattle.rows.specs.declared.refusal.Refusal.{Refusal}
use Rattle.rows.specs.declared.refusal.Refusal.TheVariants.{Misplaced}
use Rattle.tree.specs.declared.tree.Tree.{Tree}
use Rattle.tree.specs.Trees.{ParentOn, PathOn, FirstOn, LastOn, NextOn, PreviousOn}
use Rattle.page.specs.declared.draft.Draft.{Draft}
use Rattle.page.specs.declared.page.Page.{Page}

-- The blank page's row 0 has no parent, and there is no other row.
abbrev pub BlankParent : NodeId → Result (Option (ℕ × ℕ)) Refusal → Type 0
BlankParent r (Ok (Some p)) = ⊥
BlankParent r (Ok None) = r.0 ≡ 0
BlankParent r (Err e) = (e ≡ Misplaced) × (r.0 ≢ 0)

-- The blank page's one path leads from row 0 to itself and is empty; nothing is written.
abbrev pub BlankPath : NodeId → NodeId → List ℕ → List ℕ → Result ℕ Refusal → Type 0
BlankPath base r old new (Ok n) = (base.0 ≡ 0) × (r.0 ≡ 0) × (n ≡ 0) × (new ≡ old)
BlankPath base r old new (Err e) = (e ≡ Misplaced) × (((base.0 ≡ 0) × (r.0 ≡ 0)) → ⊥) × (new ≡ old)

-- A walk on the blank page is out of place.
abbrev pub BlankWalk : Result (Option NodeId) Refusal → Type 0
BlankWalk (Ok o) = ⊥
BlankWalk (Err e) = e ≡ Misplaced

-- The tree of a page that has one.
abbrev pub PageTree : Page → Result (Bor Tree) Refusal → Type 0
PageTree p (Ok t) = (d : Draft) × (p.draft ≡ Some d) × (t.now ≡ d.tree)
PageTree p (Err e) = (p.draft ≡ None) × (e ≡ Misplaced)

-- The parent row and the index among its children, or nothing for row 0.
abbrev pub PageParent : Page → NodeId → Result (Option (ℕ × ℕ)) Refusal → Type 0
PageParent p r o = MatchOption p.draft (BlankParent r o) (λ d. ParentOn d.tree r o)

-- The indexes that lead from base down to the row.
abbrev pub PagePath : Page → NodeId → NodeId → List ℕ → List ℕ → Result ℕ Refusal → Type 0
PagePath p base r old new o = MatchOption p.draft (BlankPath base r old new o) (λ d. PathOn d.tree base r old new o)

-- The first row of the list under base.
abbrev pub PageFirst : Page → (ℕ → Row → FilterResult) → NodeId → Result (Option NodeId) Refusal → Type 0
PageFirst p q base o = MatchOption p.draft (BlankWalk o) (λ d. FirstOn d.tree q base o)

-- The last row of the list under base.
abbrev pub PageLast : Page → (ℕ → Row → FilterResult) → NodeId → Result (Option NodeId) Refusal → Type 0
PageLast p q base o = MatchOption p.draft (BlankWalk o) (λ d. LastOn d.tree q base o)

-- The row that follows r in the list under base.
abbrev pub PageNext : Page → (ℕ → Row → FilterResult) → NodeId → NodeId → Result (Option NodeId) Refusal → Type 0
PageNext p q base r o = MatchOption p.draft (BlankWalk o) (λ d. NextOn d.tree q base r o)

-- The row that precedes r in the list under base.
abbrev pub PagePrevious : Page → (ℕ → Row → FilterResult) → NodeId → NodeId → Result (Option NodeId) Refusal → Type 0
PagePrevious p q base r o = MatchOption p.draft (BlankWalk o) (λ d. PreviousOn d.tree q base r o)
