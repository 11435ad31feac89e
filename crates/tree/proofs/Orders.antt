-- The list under a base is in document order.
use Rattle.std.proofs.Common.{◌≡◌, ℕ, zero, suc, ◌+◌, ◌<◌, ◌≤◌, List, [], ◌∷◌, ◌++◌, length, drop, sym, refl, ap, ◌∙◌, subst, inl, inr, ⊎_elim, arith}
use Rattle.std.specs.List.{flat_map}
use Rattle.std.proofs.lemmas.List.{drop_all}
use Rattle.rows.specs.declared.node.NodeId.{NodeId}
use Rattle.rows.specs.declared.node.Row.{Row}
use Rattle.rows.specs.declared.filters.FilterResult.{FilterResult}
use Rattle.rows.specs.declared.filters.FilterResult.TheVariants.{Include, ExcludeNode, ExcludeSubtree}
use Rattle.rows.specs.Rows.{par, index, count, kid, Well}
use Rattle.tree.specs.Subtrees.{kids, Steps, path}
use Rattle.tree.specs.Walk.{shown, listed}
use Rattle.tree.specs.Order.{Less, Before, InOrder}
use Rattle.tree.proofs.Rows.{kids_length, kid_above, kid_more, kids_here, forward_is}
use Rattle.tree.proofs.Walks.{shown_is}
use Rattle.tree.proofs.Lists.{split, nowhere, alone, stands, passed_under}
use Rattle.tree.specs.declared.way.Way.TheVariants.{Forward}

-- of any two places of the list the one in front comes before the other
abbrev Sorted : List Row → ℕ → List ℕ → Type 0
Sorted rs base xs = (pre : List ℕ) (x : ℕ) (mid : List ℕ) (y : ℕ) (post : List ℕ) → xs ≡ pre ++ x ∷ (mid ++ y ∷ post) → Before rs base x y

less_head : (p q : List ℕ) (i j : ℕ) (t u : List ℕ) → p ≡ i ∷ t → q ≡ j ∷ u → i < j → Less p q
less_head p q i j t u e f h = subst (λ l. Less l q) (sym e) (subst (λ l. Less (i ∷ t) l) (sym f) (inl h))

less_tail : (p q : List ℕ) (i : ℕ) (t u : List ℕ) → p ≡ i ∷ t → q ≡ i ∷ u → Less t u → Less p q
less_tail p q i t u e f h = subst (λ l. Less l q) (sym e) (subst (λ l. Less (i ∷ t) l) (sym f) (inr (refl, h)))

path_through : (rs : List Row) (c k x : ℕ) → Steps rs k c x → path rs (suc k) x ≡ index rs c ∷ path rs k x
unfolding path
path_through rs c zero x s = ap (λ z. index rs z ∷ []) s
path_through rs c (suc k) x s = ap (λ l. l ++ index rs x ∷ []) (path_through rs c k (par rs x) s.2)

lengthen : (rs : List Row) (r c k x : ℕ) → Steps rs k c x → 0 < c → c < length rs → par rs c ≡ r → Steps rs (suc k) r x
lengthen rs r c zero x s some h p = (omega arith, omega (arith, h, s), ap (par rs) s ∙ p)
lengthen rs r c (suc k) x s some h p = (s.0, s.1, lengthen rs r c k (par rs x) s.2 some h p)

module _ {rs : List Row} {cs : List NodeId} (w : Well rs cs) (a : ℕ → FilterResult) where
  in_child : (c : ℕ) → c < length rs → (v : FilterResult) → a c ≡ v → (pre : List ℕ) (y : ℕ) (p : List ℕ) → shown rs cs Forward a c ≡ pre ++ y ∷ p → (k : ℕ) × Steps rs k c y
  in_child c h Include v pre y p e = (0, sym (alone c pre y p (sym (shown_is w Forward a c c Include v h) ∙ e)).0)
  in_child c h ExcludeNode v pre y p e =
      let l = (stands w Forward a c h pre y p (sym (shown_is w Forward a c c ExcludeNode v h) ∙ e)).0 in
      (suc l.1.0, passed_under w Forward a c l.1.0 y l.1.1)
  in_child c h ExcludeSubtree v pre y p e = nowhere pre y p (sym (shown_is w Forward a c c ExcludeSubtree v h) ∙ e)

  -- y is below r, and its path starts at i or later
  abbrev Deep : ℕ → ℕ → ℕ → Type 0
  Deep r i y = (k : ℕ) × (f : ℕ) × (t : List ℕ) × (i ≤ f) × Steps rs (suc k) r y × (path rs (suc k) y ≡ f ∷ t)

  deep : (r i : ℕ) → (r < length rs) × (i < count rs r) → (k y : ℕ) → Steps rs k (kid rs cs r i) y → Steps rs (suc k) r y × (path rs (suc k) y ≡ i ∷ path rs k y)
  deep r i h k y s =
      let c = kid rs cs r i in (
        lengthen rs r c k y s (kid_above w r i h) (w.rowed r i h) (w.parented r i h),
        path_through rs c k y s ∙ ap (λ n. n ∷ path rs k y) (w.ordered r i h),
      )

  member : (j r i : ℕ) → r < length rs → i + j ≡ count rs r → (pre : List ℕ) (y : ℕ) (post : List ℕ) → flat_map (shown rs cs Forward a) (drop i (kids rs cs r)) ≡ pre ++ y ∷ post → Deep r i y
  member zero r i h sum pre y post e =
      nowhere pre y post (sym (ap (flat_map (shown rs cs Forward a)) (drop_all i (kids rs cs r) (omega (arith, kids_length w r h)))) ∙ e)
  member (suc j) r i h sum pre y post e =
      let has : (r < length rs) × (i < count rs r) = (h, omega arith) in
      let c = kid rs cs r i in
      ⊎_elim
      (λ l. let k = in_child c (w.rowed r i has) (a c) refl pre y l.0 l.1 in let d = deep r i has k.0 y k.1 in (k.0, i, path rs k.0 y, omega arith, d.0, d.1))
      (λ t. let d = member j r (i + 1) h (omega arith) t.0 y post t.2 in (d.0, d.1, d.2, omega (arith, d.3), d.4, d.5))
      (split (shown rs cs Forward a c) (flat_map (shown rs cs Forward a) (drop (i + 1) (kids rs cs r))) pre y post (sym (ap (flat_map (shown rs cs Forward a)) (kids_here w r i has)) ∙ e))

  two : (c : ℕ) → c < length rs → Sorted rs c (flat_map (shown rs cs Forward a) (kids rs cs c)) → (v : FilterResult) → a c ≡ v → Sorted rs c (shown rs cs Forward a c)
  two c h known Include v pre x mid y post e =
      nowhere mid y post (sym (alone c pre x (mid ++ y ∷ post) (sym (shown_is w Forward a c c Include v h) ∙ e)).1)
  two c h known ExcludeNode v pre x mid y post e = known pre x mid y post (sym (shown_is w Forward a c c ExcludeNode v h ∙ ap (flat_map (shown rs cs Forward a)) (forward_is w c)) ∙ e)
  two c h known ExcludeSubtree v pre x mid y post e = nowhere pre x (mid ++ y ∷ post) (sym (shown_is w Forward a c c ExcludeSubtree v h) ∙ e)

  along : (n : ℕ) → ((c : ℕ) → c < length rs → length rs ≤ n + c → Sorted rs c (flat_map (shown rs cs Forward a) (kids rs cs c))) → (j r i : ℕ) → r < length rs → length rs ≤ suc n + r → i + j ≡ count rs r → Sorted rs r (flat_map (shown rs cs Forward a) (drop i (kids rs cs r)))
  along n known zero r i h far sum pre x mid y post e =
      nowhere pre x (mid ++ y ∷ post) (sym (ap (flat_map (shown rs cs Forward a)) (drop_all i (kids rs cs r) (omega (arith, kids_length w r h)))) ∙ e)
  along n known (suc j) r i h far sum pre x mid y post e =
      let S = shown rs cs Forward a in
      let has : (r < length rs) × (i < count rs r) = (h, omega arith) in
      let c = kid rs cs r i in
      let inside = w.rowed r i has in
      let more = kid_more w r i has in
      let others = flat_map S (drop (i + 1) (kids rs cs r)) in
      ⊎_elim
      (λ l. ⊎_elim
      (λ m.
      let b = two c inside (known c inside (omega arith)) (a c) refl pre x mid y m.0 (l.1 ∙ ap (λ z. pre ++ x ∷ z) m.1) in
      let d = deep r i has b.0 x b.2 in
      let f = deep r i has b.1 y b.3 in
      (suc b.0, suc b.1, d.0, f.0, less_tail (path rs (suc b.0) x) (path rs (suc b.1) y) i (path rs b.0 x) (path rs b.1 y) d.1 f.1 b.4))
      (λ m.
      let k = in_child c inside (a c) refl pre x l.0 l.1 in
      let d = deep r i has k.0 x k.1 in
      let f = member j r (i + 1) h (omega arith) m.0 y post m.2 in
      (suc k.0, suc f.0, d.0, f.4, less_head (path rs (suc k.0) x) (path rs (suc f.0) y) i f.1 (path rs k.0 x) f.2 d.1 f.5 (omega (arith, f.3))))
      (split l.0 others mid y post (sym l.2)))
      (λ t. along n known j r (i + 1) h far (omega arith) t.0 x mid y post t.2)
      (split (S c) others pre x (mid ++ y ∷ post) (sym (ap (flat_map S) (kids_here w r i has)) ∙ e))

  orders : (n r : ℕ) → r < length rs → length rs ≤ n + r → Sorted rs r (flat_map (shown rs cs Forward a) (kids rs cs r))
  orders zero r h far pre x mid y post e = absurd (omega arith)
  orders (suc n) r h far pre x mid y post e = along n (orders n) (count rs r) r 0 h far (omega arith) pre x mid y post e

  pub in_order : (base : ℕ) → base < length rs → InOrder rs base (listed rs cs a base)
  in_order base h x y (pre, mid, post, e) = orders (length rs) base h (omega arith) pre x mid y post (sym (ap (flat_map (shown rs cs Forward a)) (forward_is w base)) ∙ e)
