-- The turns of a filtered walk.
use Rattle.std.proofs.Common.{◌≡◌, ℕ, suc, ◌+◌, ◌<◌, List, [], ◌∷◌, ◌++◌, length, Some, None, Option, ap, ◌∙◌, arith, length-append}
use Rattle.std.specs.List.{flat_map}
use Rattle.rows.specs.declared.node.Row.{Row}
use Rattle.rows.specs.declared.node.NodeId.{NodeId}
use Rattle.rows.specs.declared.filters.FilterResult.{FilterResult}
use Rattle.rows.specs.declared.filters.FilterResult.TheVariants.{Include, ExcludeNode, ExcludeSubtree}
use Rattle.rows.specs.Rows.{Well}
use Rattle.tree.specs.Subtrees.{offspring, rest, whole, Under}
use Rattle.tree.specs.declared.way.Way.{Way}
use Rattle.tree.specs.Walk.{by, shown, head, ahead, In, Over, Child}
use Rattle.tree.proofs.Rows.{build_is, into_some, child_under}

module _ {rs : List Row} {cs : List NodeId} (w : Well rs cs) (d : Way) where
  -- one row fewer is to come
  whole_is : (id : NodeId) (base : ℕ) → Under rs base id.0 → length (ahead rs cs d (whole rs cs d) base (Some id)) ≡ suc (length (flat_map (whole rs cs d) (offspring rs cs d id.0)) + length (rest rs cs d (whole rs cs d) id.0 base id.0))
  whole_is id base u =
      ap (λ l. length (l ++ rest rs cs d (whole rs cs d) id.0 base id.0)) (build_is w d ◌∷◌ id.0 u.1.1)
      ∙ ap suc (length-append (flat_map (whole rs cs d) (offspring rs cs d id.0)) (rest rs cs d (whole rs cs d) id.0 base id.0))

  pub less_over : (id : NodeId) (base : ℕ) (o : Option NodeId) → Under rs base id.0 → Over rs cs d base id.0 o → length (ahead rs cs d (whole rs cs d) base o) < length (ahead rs cs d (whole rs cs d) base (Some id))
  less_over id base o u over = omega (arith, whole_is id base u, ap length (over.same (whole rs cs d)))

  pub less_into : (id child : NodeId) (base : ℕ) → Under rs base id.0 → Child rs cs d id.0 (Some child) → length (ahead rs cs d (whole rs cs d) base (Some child)) < length (ahead rs cs d (whole rs cs d) base (Some id))
  less_into id child base u first =
      let e = into_some w d (whole rs cs d) base id.0 child u first in
      omega (arith, whole_is id base u, ap length e, length-append (flat_map (whole rs cs d) (offspring rs cs d id.0)) (rest rs cs d (whole rs cs d) id.0 base id.0))

  pub in_child : (id child : NodeId) (base : ℕ) → Under rs base id.0 → Child rs cs d id.0 (Some child) → In rs base (Some child)
  in_child id child base u first = child_under w d base id.0 child u first

  pub falls_over : (id : NodeId) (base : ℕ) (at o : Option NodeId) → at ≡ Some id → Under rs base id.0 → Over rs cs d base id.0 o → length (ahead rs cs d (whole rs cs d) base o) < length (ahead rs cs d (whole rs cs d) base at)
  falls_over id base at o is u over = omega (arith, less_over id base o u over, ap (λ x. length (ahead rs cs d (whole rs cs d) base x)) is)

  pub falls_into : (id child : NodeId) (base : ℕ) (at : Option NodeId) → at ≡ Some id → Under rs base id.0 → Child rs cs d id.0 (Some child) → length (ahead rs cs d (whole rs cs d) base (Some child)) < length (ahead rs cs d (whole rs cs d) base at)
  falls_into id child base at is u first = omega (arith, less_into id child base u first, ap (λ x. length (ahead rs cs d (whole rs cs d) base x)) is)

  module _ (a : ℕ → FilterResult) where
    pub shown_is : (base r : ℕ) (v : FilterResult) → a r ≡ v → r < length rs → shown rs cs d a r ≡ by v (r ∷ []) (flat_map (shown rs cs d a) (offspring rs cs d r))
    shown_is base r v e h = build_is w d (λ r below. by (a r) (r ∷ []) below) r h ∙ ap (λ x. by x (r ∷ []) (flat_map (shown rs cs d a) (offspring rs cs d r))) e

    pub found : (id : NodeId) (base : ℕ) → a id.0 ≡ Include → Under rs base id.0 → head (ahead rs cs d (shown rs cs d a) base (Some id)) ≡ Some id
    found id base e u = ap (λ l. head (l ++ rest rs cs d (shown rs cs d a) id.0 base id.0)) (shown_is base id.0 Include e u.1.1)

    pub skip : (id : NodeId) (base : ℕ) (o : Option NodeId) → a id.0 ≡ ExcludeSubtree → Under rs base id.0 → Over rs cs d base id.0 o → ahead rs cs d (shown rs cs d a) base (Some id) ≡ ahead rs cs d (shown rs cs d a) base o
    skip id base o e u over = ap (λ l. l ++ rest rs cs d (shown rs cs d a) id.0 base id.0) (shown_is base id.0 ExcludeSubtree e u.1.1) ∙ over.same (shown rs cs d a)

    pub pass : (id : NodeId) (base : ℕ) (o : Option NodeId) → a id.0 ≡ ExcludeNode → Under rs base id.0 → Child rs cs d id.0 None → Over rs cs d base id.0 o → ahead rs cs d (shown rs cs d a) base (Some id) ≡ ahead rs cs d (shown rs cs d a) base o
    pass id base o e u none over =
        ap (λ l. l ++ rest rs cs d (shown rs cs d a) id.0 base id.0) (shown_is base id.0 ExcludeNode e u.1.1 ∙ ap (flat_map (shown rs cs d a)) none) ∙ over.same (shown rs cs d a)

    pub into : (id child : NodeId) (base : ℕ) → a id.0 ≡ ExcludeNode → Under rs base id.0 → Child rs cs d id.0 (Some child) → ahead rs cs d (shown rs cs d a) base (Some id) ≡ ahead rs cs d (shown rs cs d a) base (Some child)
    into id child base e u first =
        ap (λ l. l ++ rest rs cs d (shown rs cs d a) id.0 base id.0) (shown_is base id.0 ExcludeNode e u.1.1)
        ∙ into_some w d (shown rs cs d a) base id.0 child u first
