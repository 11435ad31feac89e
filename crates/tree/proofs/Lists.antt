-- The list under a base: where a row stands in it, and what is behind.
use Rattle.std.proofs.Common.{◌≡◌, ℕ, zero, suc, ◌+◌, ◌<◌, ◌≤◌, cond, ◌⊎◌, List, [], ◌∷◌, ◌++◌, reverse, length, Some, None, Option, sym, refl, ap, ◌∙◌, subst, inl, inr, ⊎_elim, append_assoc, append-nil, arith, length-append}
use Rattle.std.specs.List.{flat_map}
use Rattle.std.proofs.lemmas.List.{reverse-append}
use Rattle.std.proofs.lemmas.Bool.{eq-eqb, ne_eqb}
use Rattle.rows.specs.declared.node.Row.{Row}
use Rattle.rows.specs.declared.filters.FilterResult.{FilterResult}
use Rattle.rows.specs.declared.filters.FilterResult.TheVariants.{Include, ExcludeNode, ExcludeSubtree}
use Rattle.rows.specs.Rows.{par, Well}
use Rattle.tree.specs.Subtrees.{turned, kids, offspring, side, rest, build, Steps, Under}
use Rattle.tree.specs.declared.way.Way.{Way}
use Rattle.tree.specs.declared.way.Way.TheVariants.{Forward, Backward}
use Rattle.rows.specs.declared.node.NodeId.{NodeId}
use Rattle.tree.specs.Walk.{by, shown, along, listed, head, ahead, Child, Over, Passed, On, Listed, Follows, Precedes, Beside}
use Rattle.tree.proofs.Rows.{Chain, chain, joined_append, around, rest_is, above, into_base}
use Rattle.tree.proofs.Walks.{shown_is}

-- a place in two joined lists is in the one or in the other
pub split : (xs ys pre : List ℕ) (x : ℕ) (post : List ℕ) → xs ++ ys ≡ pre ++ x ∷ post → ((p : List ℕ) × (xs ≡ pre ++ x ∷ p) × (post ≡ p ++ ys)) ⊎ ((p : List ℕ) × (pre ≡ xs ++ p) × (ys ≡ p ++ x ∷ post))
split [] ys pre x post e = inr (pre, refl, e)
split (y ∷ xs) ys [] x post e =
    let same : y ≡ x = cc in
    let tail : post ≡ xs ++ ys = cc in
    inl (xs, ap (λ z. z ∷ xs) same, tail)
split (y ∷ xs) ys (b ∷ pre) x post e =
    let same : y ≡ b = cc in
    let back : b ≡ y = cc in
    let tail : xs ++ ys ≡ pre ++ x ∷ post = cc in
    ⊎_elim
    (λ l. inl (l.0, (λ i. same i ∷ l.1 i), l.2))
    (λ r. inr (r.0, (λ i. back i ∷ r.1 i), r.2))
    (split xs ys pre x post tail)

pub nowhere : {Z : Type 0} (pre : List ℕ) (x : ℕ) (post : List ℕ) → [] ≡ pre ++ x ∷ post → Z
nowhere pre x post e = absurd (omega (arith, ap length e, length-append pre (x ∷ post)))

pub alone : (c : ℕ) (pre : List ℕ) (x : ℕ) (post : List ℕ) → c ∷ [] ≡ pre ++ x ∷ post → (c ≡ x) × (post ≡ [])
alone c [] x post e = (cc, cc)
alone c (b ∷ pre) x post e = let t : [] ≡ pre ++ x ∷ post = cc in nowhere pre x post t

module _ {rs : List Row} {cs : List NodeId} (w : Well rs cs) (d : Way) where
  rest_top : (f : ℕ → List ℕ) (base r : ℕ) → Under rs base r → par rs r ≡ base → rest rs cs d f r base r ≡ flat_map f (side rs cs d r)
  rest_top f base r u same =
      rest_is w d f base r u
      ∙ ap (λ b. flat_map f (side rs cs d r) ++ cond b [] (rest rs cs d f (par rs r) base (par rs r))) (eq-eqb (par rs r) base same)
      ∙ append-nil (flat_map f (side rs cs d r))

  rest_on : (f : ℕ → List ℕ) (base r : ℕ) → Under rs base r → base < par rs r → rest rs cs d f r base r ≡ flat_map f (side rs cs d r) ++ rest rs cs d f (par rs r) base (par rs r)
  rest_on f base r u more =
      rest_is w d f base r u
      ∙ ap (λ b. flat_map f (side rs cs d r) ++ cond b [] (rest rs cs d f (par rs r) base (par rs r))) (ne_eqb (par rs r) base (λ e. omega arith))

  below : (base mid k x : ℕ) → Steps rs (suc k) mid x → Under rs base mid → Under rs base x
  below base mid zero x s u = (suc u.0, (s.0, s.1, subst (λ y. Steps rs (suc u.0) base y) (sym s.2) u.1))
  below base mid (suc k) x s u = let v = below base mid k (par rs x) s.2 u in (suc v.0, (s.0, s.1, v.1))

  -- what is behind x below base: first below mid, then behind mid
  rest_through : (f : ℕ → List ℕ) (base mid k x : ℕ) → Steps rs (suc k) mid x → Under rs base mid → rest rs cs d f x base x ≡ rest rs cs d f x mid x ++ rest rs cs d f mid base mid
  rest_through f base mid zero x s u =
      rest_on f base x (below base mid zero x s u) (omega (arith, above w base u.0 mid u.1, s.2))
      ∙ ap (λ y. flat_map f (side rs cs d x) ++ rest rs cs d f y base y) s.2
      ∙ ap (λ l. l ++ rest rs cs d f mid base mid) (sym (rest_top f mid x (0, s) s.2))
  rest_through f base mid (suc k) x s u =
      let p = par rs x in
      let v = below base mid k p s.2 u in
      rest_on f base x (below base mid (suc k) x s u) (above w base v.0 p v.1)
      ∙ ap (λ l. flat_map f (side rs cs d x) ++ l) (rest_through f base mid k p s.2 u)
      ∙ sym (append_assoc (flat_map f (side rs cs d x)) (rest rs cs d f p mid p) (rest rs cs d f mid base mid))
      ∙ ap (λ l. l ++ rest rs cs d f mid base mid) (sym (rest_on f mid x (suc k, s) (above w mid k p s.2)))

  module _ (a : ℕ → FilterResult) where
    pub passed_under : (base k r : ℕ) → Passed rs a k base r → Steps rs (suc k) base r
    passed_under base zero r p = p
    passed_under base (suc k) r p = (p.0, p.1, passed_under base k (par rs r) p.3)

    extend : (base mid k x : ℕ) → Passed rs a k mid x → a mid ≡ ExcludeNode → Passed rs a 0 base mid → (j : ℕ) × Passed rs a j base x
    extend base mid zero x p e q = (1, (p.0, p.1, ap a p.2 ∙ e, subst (Passed rs a 0 base) (sym p.2) q))
    extend base mid (suc k) x p e q = let t = extend base mid k (par rs x) p.3 e q in (suc t.0, (p.0, p.1, p.2, t.1))

    -- x is listed below r, and what stands behind it is the rest
    abbrev Stands : ℕ → ℕ → List ℕ → Type 0
    Stands r x post = Listed rs a r x × (post ≡ rest rs cs d (shown rs cs d a) x r x)

    -- all that holds of a row c
    abbrev Known : ℕ → Type 0
    Known c = (pre : List ℕ) (x : ℕ) (post : List ℕ) → along rs cs d a c ≡ pre ++ x ∷ post → Stands c x post

    -- in the subtree of a child c of r
    child : (r c : ℕ) → Passed rs a 0 r c → Known c → (v : FilterResult) → a c ≡ v → (pre : List ℕ) (x : ℕ) (p post : List ℕ) → shown rs cs d a c ≡ pre ++ x ∷ p → post ≡ p ++ flat_map (shown rs cs d a) (side rs cs d c) → Stands r x post
    child r c top known Include v pre x p post e behind =
        let S = shown rs cs d a in
        let one = alone c pre x p (sym (shown_is w d a r c Include v top.1) ∙ e) in
        let tail : post ≡ rest rs cs d S c r c =
        behind
        ∙ ap (λ l. l ++ flat_map S (side rs cs d c)) one.1
        ∙ sym (rest_top S r c (0, top) top.2) in
        subst (λ y. Stands r y post) one.0 ((v, (0, top)), tail)
    child r c top known ExcludeNode v pre x p post e behind =
        let S = shown rs cs d a in
        let t = known pre x p (sym (shown_is w d a r c ExcludeNode v top.1) ∙ e) in
        let k = t.0.1.0 in
        let s = passed_under c k x t.0.1.1 in (
          (t.0.0, extend r c k x t.0.1.1 v top),
          behind
              ∙ ap (λ l. l ++ flat_map S (side rs cs d c)) t.1
              ∙ ap (λ l. rest rs cs d S x c x ++ l) (sym (rest_top S r c (0, top) top.2))
              ∙ sym (rest_through S r c k x s (0, top)),
        )
    child r c top known ExcludeSubtree v pre x p post e behind =
        nowhere pre x p (sym (shown_is w d a r c ExcludeSubtree v top.1) ∙ e)

    -- along a row's children
    all : (n : ℕ) → ((c : ℕ) → c < length rs → length rs ≤ n + c → Known c) → (r : ℕ) → length rs ≤ suc n + r → (l : List ℕ) → Chain w d r l → (pre : List ℕ) (x : ℕ) (post : List ℕ) → flat_map (shown rs cs d a) l ≡ pre ++ x ∷ post → Stands r x post
    all n known r far [] ch pre x post e = nowhere pre x post e
    all n known r far (c ∷ l) ch pre x post e =
        let top : Passed rs a 0 r c = (ch.0, ch.1, ch.2) in
        let more : r < c = omega (arith, w.rising c ch.0 ch.1, ch.2) in
        ⊎_elim
        (λ m. child r c top (known c ch.1 (omega arith)) (a c) refl pre x m.0 post m.1 (m.2 ∙ ap (λ z. m.0 ++ flat_map (shown rs cs d a) z) ch.3))
        (λ t. all n known r far l ch.4 t.0 x post t.2)
        (split (shown rs cs d a c) (flat_map (shown rs cs d a) l) pre x post e)

    tails : (n r : ℕ) → r < length rs → length rs ≤ n + r → Known r
    tails zero r h far pre x post e = absurd (omega arith)
    tails (suc n) r h far pre x post e = all n (tails n) r far (offspring rs cs d r) (chain w d r h) pre x post e

    -- Wherever x stands in the list under base, it is listed there, and the rest stands behind it.
    pub stands : (base : ℕ) → base < length rs → (pre : List ℕ) (x : ℕ) (post : List ℕ) → along rs cs d a base ≡ pre ++ x ∷ post → Listed rs a base x × (post ≡ rest rs cs d (shown rs cs d a) x base x)
    stands base h = tails (length rs) base h (omega arith)

    pub from_first : (base : ℕ) (o : Option NodeId) → Child rs cs d base o → along rs cs d a base ≡ ahead rs cs d (shown rs cs d a) base o
    from_first base None none = ap (flat_map (shown rs cs d a)) none
    from_first base (Some s) first = into_base w d (shown rs cs d a) base s first

    pub on_up : (base r : ℕ) → On rs a base r → (par rs r ≡ base → ⊥) → (a (par rs r) ≡ ExcludeNode) × On rs a base (par rs r)
    on_up base r (zero, p) other = absurd (other p.2)
    on_up base r (suc k, p) other = (p.2, (k, p.3))

    pub on_down : (base r : ℕ) → 0 < r → r < length rs → a (par rs r) ≡ ExcludeNode → On rs a base (par rs r) → On rs a base r
    on_down base r some h e (k, p) = (suc k, (some, h, e, p))

    pub on_above : (base r : ℕ) → On rs a base r → base < r
    on_above base r (k, p) = above w base k r (passed_under base k r p)

-- the other way round
reversed : (f g : ℕ → List ℕ) → ((x : ℕ) → g x ≡ reverse (f x)) → (xs : List ℕ) → flat_map g (reverse xs) ≡ reverse (flat_map f xs)
reversed f g e [] = refl
reversed f g e (x ∷ xs) =
    ap (flat_map g) (reverse-append (x ∷ []) xs)
    ∙ joined_append g (reverse xs) (x ∷ [])
    ∙ (let others = reversed f g e xs in let one = append-nil (g x) ∙ e x in λ i. others i ++ one i)
    ∙ sym (reverse-append (f x) (flat_map f xs))

by_reverse : (v : FilterResult) (r : ℕ) (xs : List ℕ) → by v (r ∷ []) (reverse xs) ≡ reverse (by v (r ∷ []) xs)
by_reverse Include r xs = refl
by_reverse ExcludeNode r xs = refl
by_reverse ExcludeSubtree r xs = refl

module _ {rs : List Row} {cs : List NodeId} (w : Well rs cs) (a : ℕ → FilterResult) where
  built_back : (n r : ℕ) → build rs cs Backward (λ r below. by (a r) (r ∷ []) below) n r ≡ reverse (build rs cs Forward (λ r below. by (a r) (r ∷ []) below) n r)
  unfolding build offspring
  built_back zero r = refl
  built_back (suc n) r =
      ap (by (a r) (r ∷ [])) (reversed (build rs cs Forward (λ r below. by (a r) (r ∷ []) below) n) (build rs cs Backward (λ r below. by (a r) (r ∷ []) below) n) (built_back n) (kids rs cs r))
      ∙ by_reverse (a r) r (flat_map (build rs cs Forward (λ r below. by (a r) (r ∷ []) below) n) (kids rs cs r))

  pub along_back : (base : ℕ) → along rs cs Backward a base ≡ reverse (listed rs cs a base)
  unfolding offspring
  along_back base = reversed (shown rs cs Forward a) (shown rs cs Backward a) (built_back (length rs)) (kids rs cs base)

  place : (base k x : ℕ) → Passed rs a k base x → (pre : List ℕ) × (listed rs cs a base ≡ pre ++ (shown rs cs Forward a x ++ rest rs cs Forward (shown rs cs Forward a) x base x))
  place base zero x p =
      let S = shown rs cs Forward a in
      let t = around w S x p.0 p.1 in (
        t.0,
        ap (λ y. flat_map S (offspring rs cs Forward y)) (sym p.2)
            ∙ t.1
            ∙ ap (λ l. t.0 ++ (S x ++ l)) (sym (rest_top w Forward S base x (0, p) p.2)),
      )
  place base (suc k) x p =
      let S = shown rs cs Forward a in
      let m = par rs x in
      let s = passed_under w Forward a base k m p.3 in
      let t = place base k m p.3 in
      let b = around w S x p.0 p.1 in (
        t.0 ++ b.0,
        t.1
            ∙ ap (λ l. t.0 ++ (l ++ rest rs cs Forward S m base m)) (shown_is w Forward a base m ExcludeNode p.2 s.1 ∙ b.1)
            ∙ simp append_assoc (ap (λ l. t.0 ++ (b.0 ++ (S x ++ l))) (sym (rest_on w Forward S base x (suc k, (p.0, p.1, s)) (above w base k m s)))),
      )

  -- A listed row stands in the list, and the rest behind it.
  pub found_in : (base x : ℕ) → Listed rs a base x → (pre : List ℕ) × (listed rs cs a base ≡ pre ++ x ∷ rest rs cs Forward (shown rs cs Forward a) x base x)
  found_in base x (here, (k, p)) =
      let S = shown rs cs Forward a in
      let t = place base k x p in
      let s = passed_under w Forward a base k x p in
      (t.0, t.1 ∙ ap (λ l. t.0 ++ (l ++ rest rs cs Forward S x base x)) (shown_is w Forward a base x Include here s.1))

  -- What stands for the rest behind a listed row follows it in the list.
  pub follows : (base x : ℕ) (o r : Option NodeId) → base < length rs → Listed rs a base x → Over rs cs Forward base x o → r ≡ head (ahead rs cs Forward (shown rs cs Forward a) base o) → Follows (listed rs cs a base) x r
  follows base x o r h l over is =
      let t = found_in base x l in
      record {
        stands = (t.0, rest rs cs Forward (shown rs cs Forward a) x base x, t.1);
        next = λ pre post e. is ∙ ap head (sym (over.same (shown rs cs Forward a))) ∙ ap head (sym (stands w Forward a base h pre x post e).1);
      }

  mirrored : (pre : List ℕ) (x : ℕ) (post : List ℕ) → reverse (pre ++ x ∷ post) ≡ reverse post ++ x ∷ reverse pre
  mirrored pre x post =
      reverse-append pre (x ∷ post)
      ∙ ap (λ l. l ++ reverse pre) (reverse-append (x ∷ []) post)
      ∙ append_assoc (reverse post) (x ∷ []) (reverse pre)

  pub precedes : (base x : ℕ) (o r : Option NodeId) → base < length rs → Listed rs a base x → Over rs cs Backward base x o → r ≡ head (ahead rs cs Backward (shown rs cs Backward a) base o) → Precedes (listed rs cs a base) x r
  precedes base x o r h l over is =
      let t = found_in base x l in
      record {
        stands = (t.0, rest rs cs Forward (shown rs cs Forward a) x base x, t.1);
        back = λ pre post e. is ∙ ap head (sym (over.same (shown rs cs Backward a))) ∙ ap head (sym (stands w Backward a base h (reverse post) x (reverse pre) (along_back base ∙ ap reverse e ∙ mirrored pre x post)).1);
      }

  -- Both ways: the list as a walk goes along it, and what a walk comes to after a listed row.
  pub along_is : (d : Way) (base : ℕ) → along rs cs d a base ≡ turned d (listed rs cs a base)
  along_is Forward base = refl
  along_is Backward base = along_back base

  pub beside_in : (d : Way) (base x : ℕ) (o r : Option NodeId) → base < length rs → Listed rs a base x → Over rs cs d base x o → r ≡ head (ahead rs cs d (shown rs cs d a) base o) → Beside d (listed rs cs a base) x r
  beside_in Forward base x o r h l over is = follows base x o r h l over is
  beside_in Backward base x o r h l over is = precedes base x o r h l over is
