-- What a well-formed table gives to a walk.
use Rattle.std.proofs.Common.{◌≡◌, ℕ, zero, suc, ◌+◌, ◌-◌, ◌<◌, ◌≤◌, Bool, true, false, cond, eqb, List, [], ◌∷◌, ◌++◌, map, reverse, length, get_or, take, drop, Some, None, Option, sym, refl, ap, ◌∙◌, subst, ⊎_elim, append_assoc, append-nil, arith}
use Rattle.std.specs.List.{flat_map}
use Rattle.std.proofs.lemmas.List.{length-take-le, length-drop, get_or-take, get_or-drop, drop_more, drop_all, nil_from_length, take_more, take_all, reverse-append, take-append-drop}
use Rattle.std.proofs.lemmas.Bool.{cases_eq, eqb-false, eq-eqb, ne_eqb}
use Rattle.rows.specs.declared.node.Row.{Row}
use Rattle.rows.specs.Rows.{par, index, start, count, no_node, kid, Well}
use Rattle.tree.specs.Subtrees.{kids, Steps, Under, turned, offspring, side, rest, build}
use Rattle.tree.specs.Walk.{Sibling, Child}
use Rattle.rows.specs.declared.node.NodeId.{NodeId}
use Rattle.tree.specs.declared.way.Way.{Way}
use Rattle.tree.specs.declared.way.Way.TheVariants.{Forward, Backward}

cond_else : {X : Type 0} (b : Bool) (x y z : X) → (b ≡ false → y ≡ z) → cond b x y ≡ cond b x z
cond_else true x y z h = refl
cond_else false x y z h = h refl

joined_same : (f g : ℕ → List ℕ) (xs : List ℕ) → ((k : ℕ) → k < length xs → f (get_or xs k 0) ≡ g (get_or xs k 0)) → flat_map f xs ≡ flat_map g xs
joined_same f g [] h = refl
joined_same f g (x ∷ xs) h =
    let first = h 0 (omega arith) in
    let others = joined_same f g xs (λ k lt. h (suc k) (omega arith)) in
    λ i. first i ++ others i

pub joined_append : (f : ℕ → List ℕ) (xs ys : List ℕ) → flat_map f (xs ++ ys) ≡ flat_map f xs ++ flat_map f ys
joined_append f [] ys = refl
joined_append f (x ∷ xs) ys = ap (λ l. f x ++ l) (joined_append f xs ys) ∙ sym (append_assoc (f x) (flat_map f xs) (flat_map f ys))

numbers_length : (ns : List NodeId) → length (map (λ n. n.0) ns) ≡ length ns
numbers_length [] = refl
numbers_length (n ∷ ns) = ap suc (numbers_length ns)

numbers_at : (ns : List NodeId) (k : ℕ) → get_or (map (λ n. n.0) ns) k 0 ≡ (get_or ns k no_node).0
numbers_at [] k = refl
numbers_at (n ∷ ns) zero = refl
numbers_at (n ∷ ns) (suc k) = numbers_at ns k

turned_none : (d : Way) → turned d [] ≡ []
turned_none Forward = refl
turned_none Backward = refl

module _ {rs : List Row} {cs : List NodeId} (w : Well rs cs) where
  pub kids_length : (r : ℕ) → r < length rs → length (kids rs cs r) ≡ count rs r
  unfolding kids
  kids_length r h = numbers_length (take (count rs r) (drop (start rs r) cs)) ∙ length-take-le (count rs r) (drop (start rs r) cs) (omega (arith, w.parted r h, length-drop (start rs r) cs))

  pub kids_at : (r k : ℕ) → k < count rs r → get_or (kids rs cs r) k 0 ≡ kid rs cs r k
  unfolding kids
  kids_at r k h = numbers_at (take (count rs r) (drop (start rs r) cs)) k ∙ ap (λ n. n.0) (get_or-take (count rs r) (drop (start rs r) cs) k no_node h ∙ get_or-drop (start rs r) cs k no_node)

  -- a child is not row 0, which has no parent
  pub kid_above : (r k : ℕ) → (r < length rs) × (k < count rs r) → 0 < kid rs cs r k
  kid_above r k h = ⊎_elim (λ e. absurd (omega (arith, ap (par rs) e, w.topped, w.parented r k h, w.few, h.0))) (λ y. omega arith) (cases_eq (kid rs cs r k) 0)

  -- the siblings after the child at place k
  side_kid : (r k : ℕ) → (r < length rs) × (k < count rs r) → side rs cs Forward (kid rs cs r k) ≡ drop (k + 1) (kids rs cs r)
  unfolding side
  side_kid r k h = λ t. drop (w.ordered r k h t + 1) (kids rs cs (w.parented r k h t))

  back_kid : (r k : ℕ) → (r < length rs) × (k < count rs r) → side rs cs Backward (kid rs cs r k) ≡ reverse (take k (kids rs cs r))
  unfolding side
  back_kid r k h = λ t. reverse (take (w.ordered r k h t) (kids rs cs (w.parented r k h t)))

  front : (r k : ℕ) → (r < length rs) × (k < count rs r) → drop k (kids rs cs r) ≡ kid rs cs r k ∷ side rs cs Forward (kid rs cs r k)
  front r k h =
      drop_more (kids rs cs r) k 0 (omega (arith, kids_length r h.0, h.1))
      ∙ ap (λ x. x ∷ drop (k + 1) (kids rs cs r)) (kids_at r k h.1)
      ∙ ap (λ l. kid rs cs r k ∷ l) (sym (side_kid r k h))

  back : (r k : ℕ) → (r < length rs) × (k < count rs r) → reverse (take (k + 1) (kids rs cs r)) ≡ kid rs cs r k ∷ side rs cs Backward (kid rs cs r k)
  back r k h =
      ap reverse (take_more (kids rs cs r) k 0 (omega (arith, kids_length r h.0, h.1)))
      ∙ reverse-append (take k (kids rs cs r)) (get_or (kids rs cs r) k 0 ∷ [])
      ∙ ap (λ x. x ∷ reverse (take k (kids rs cs r))) (kids_at r k h.1)
      ∙ ap (λ l. kid rs cs r k ∷ l) (sym (back_kid r k h))

  pub sibling_next : (r : ℕ) (s : NodeId) → 0 < r → r < length rs → index rs r + 1 < count rs (par rs r) → s.0 ≡ kid rs cs (par rs r) (index rs r + 1) → Sibling rs cs Forward r (Some s)
  unfolding side
  sibling_next r s some h more is =
      let p = par rs r in
      let has : (p < length rs) × (index rs r + 1 < count rs p) = (omega (arith, w.rising r some h), more) in
      subst (λ x. (0 < x) × (x < length rs) × (par rs x ≡ p) × (side rs cs Forward r ≡ x ∷ side rs cs Forward x)) (sym is)
      (kid_above p _ has, w.rowed p _ has, w.parented p _ has, front p (index rs r + 1) has)

  pub sibling_last : (r : ℕ) → 0 < r → r < length rs → count rs (par rs r) ≤ index rs r + 1 → Sibling rs cs Forward r None
  unfolding side
  sibling_last r some h last = drop_all (index rs r + 1) (kids rs cs (par rs r)) (omega (arith, kids_length (par rs r) (omega (arith, w.rising r some h))))

  pub sibling_back : (r : ℕ) (s : NodeId) → 0 < r → r < length rs → 0 < index rs r → s.0 ≡ kid rs cs (par rs r) (index rs r - 1) → Sibling rs cs Backward r (Some s)
  unfolding side
  sibling_back r s some h more is =
      let p = par rs r in
      let k = index rs r - 1 in
      let has : (p < length rs) × (k < count rs p) = (omega (arith, w.rising r some h), omega (arith, w.indexed r some h)) in
      let one : index rs r ≡ k + 1 = omega arith in
      subst (λ x. (0 < x) × (x < length rs) × (par rs x ≡ p) × (side rs cs Backward r ≡ x ∷ side rs cs Backward x)) (sym is)
      (kid_above p k has, w.rowed p k has, w.parented p k has, ap (λ n. reverse (take n (kids rs cs p))) one ∙ back p k has)

  pub sibling_first : (r : ℕ) → index rs r ≡ 0 → Sibling rs cs Backward r None
  unfolding side
  sibling_first r e = ap (λ n. reverse (take n (kids rs cs (par rs r)))) e

  pub child_none : (d : Way) (r : ℕ) → r < length rs → count rs r ≡ 0 → Child rs cs d r None
  unfolding offspring
  child_none d r h none = ap (turned d) (nil_from_length (kids rs cs r) (kids_length r h ∙ none)) ∙ turned_none d

  pub child_first : (r : ℕ) (s : NodeId) → r < length rs → 0 < count rs r → s.0 ≡ kid rs cs r 0 → Child rs cs Forward r (Some s)
  unfolding offspring
  child_first r s h some is =
      let has : (r < length rs) × (0 < count rs r) = (h, some) in
      subst (λ x. (0 < x) × (x < length rs) × (par rs x ≡ r) × (offspring rs cs Forward r ≡ x ∷ side rs cs Forward x)) (sym is)
      (kid_above r 0 has, w.rowed r 0 has, w.parented r 0 has, front r 0 has)

  pub child_last : (r : ℕ) (s : NodeId) → r < length rs → 0 < count rs r → s.0 ≡ kid rs cs r (count rs r - 1) → Child rs cs Backward r (Some s)
  unfolding offspring
  child_last r s h some is =
      let k = count rs r - 1 in
      let has : (r < length rs) × (k < count rs r) = (h, omega arith) in
      let whole : take (k + 1) (kids rs cs r) ≡ kids rs cs r = take_all (k + 1) (kids rs cs r) (omega (arith, kids_length r h)) in
      subst (λ x. (0 < x) × (x < length rs) × (par rs x ≡ r) × (offspring rs cs Backward r ≡ x ∷ side rs cs Backward x)) (sym is)
      (kid_above r k has, w.rowed r k has, w.parented r k has, ap reverse (sym whole) ∙ back r k has)

  pub climb : (base r k : ℕ) → Steps rs (suc k) base r → (par rs r ≡ base → ⊥) → Under rs base (par rs r)
  climb base r zero s other = absurd (other s.2)
  climb base r (suc k) s other = (k, s.2)

  fuel : (d : Way) (f : ℕ → List ℕ) (base n m r k : ℕ) → Steps rs (suc k) base r → r ≤ n → r ≤ m → rest rs cs d f n base r ≡ rest rs cs d f m base r
  unfolding rest
  fuel d f base zero m r k s a b = absurd (omega (arith, s.0))
  fuel d f base (suc n) zero r k s a b = absurd (omega (arith, s.0))
  fuel d f base (suc n) (suc m) r k s a b =
      ap (λ l. flat_map f (side rs cs d r) ++ l)
      (cond_else (eqb (par rs r) base) [] (rest rs cs d f n base (par rs r)) (rest rs cs d f m base (par rs r))
      (λ e. let u = climb base r k s (eqb-false (par rs r) base e) in let less = w.rising r s.0 s.1 in fuel d f base n m (par rs r) u.0 u.1 (omega arith) (omega arith)))

  rest_from : (d : Way) (f : ℕ → List ℕ) (base n r k : ℕ) → Steps rs (suc k) base r → r ≤ n → rest rs cs d f n base r ≡ flat_map f (side rs cs d r) ++ cond (eqb (par rs r) base) [] (rest rs cs d f (par rs r) base (par rs r))
  unfolding rest
  rest_from d f base zero r k s h = absurd (omega (arith, s.0))
  rest_from d f base (suc n) r k s h =
      ap (λ l. flat_map f (side rs cs d r) ++ l)
      (cond_else (eqb (par rs r) base) [] (rest rs cs d f n base (par rs r)) (rest rs cs d f (par rs r) base (par rs r))
      (λ e. let u = climb base r k s (eqb-false (par rs r) base e) in let less = w.rising r s.0 s.1 in fuel d f base n (par rs r) (par rs r) u.0 u.1 (omega arith) (omega arith)))

  -- one step of the climb
  pub rest_is : (d : Way) (f : ℕ → List ℕ) (base r : ℕ) → Under rs base r → rest rs cs d f r base r ≡ flat_map f (side rs cs d r) ++ cond (eqb (par rs r) base) [] (rest rs cs d f (par rs r) base (par rs r))
  rest_is d f base r (k, s) = rest_from d f base r r k s (omega arith)

  -- a sibling lies below the base too
  pub beside : (d : Way) (base r : ℕ) (s : NodeId) → Under rs base r → Sibling rs cs d r (Some s) → Under rs base s.0
  beside d base r s (k, t) (some, h, p, is) = (k, (some, h, subst (λ x. Steps rs k base x) (sym p) t.2))

  -- with a sibling, what is to come starts there
  pub over_some : (d : Way) (f : ℕ → List ℕ) (base r : ℕ) (s : NodeId) → Under rs base r → Sibling rs cs d r (Some s) → rest rs cs d f r base r ≡ f s.0 ++ rest rs cs d f s.0 base s.0
  over_some d f base r s u (some, h, p, is) =
      let up = par rs r in
      let t = s.0 in
      rest_is d f base r u
      ∙ ap (λ l. flat_map f l ++ cond (eqb up base) [] (rest rs cs d f up base up)) is
      ∙ append_assoc (f t) (flat_map f (side rs cs d t)) (cond (eqb up base) [] (rest rs cs d f up base up))
      ∙ ap (λ l. f t ++ l) (ap (λ x. flat_map f (side rs cs d t) ++ cond (eqb x base) [] (rest rs cs d f x base x)) (sym p) ∙ sym (rest_is d f base t (beside d base r s u (some, h, p, is))))

  pub over_climb : (d : Way) (f : ℕ → List ℕ) (base r : ℕ) → Under rs base r → Sibling rs cs d r None → (par rs r ≡ base → ⊥) → rest rs cs d f r base r ≡ rest rs cs d f (par rs r) base (par rs r)
  over_climb d f base r u last other =
      rest_is d f base r u
      ∙ ap (λ l. flat_map f l ++ cond (eqb (par rs r) base) [] (rest rs cs d f (par rs r) base (par rs r))) last
      ∙ ap (λ b. cond b [] (rest rs cs d f (par rs r) base (par rs r))) (ne_eqb (par rs r) base other)

  pub over_none : (d : Way) (f : ℕ → List ℕ) (base r : ℕ) → Under rs base r → Sibling rs cs d r None → par rs r ≡ base → rest rs cs d f r base r ≡ []
  over_none d f base r u last same =
      rest_is d f base r u
      ∙ ap (λ l. flat_map f l ++ cond (eqb (par rs r) base) [] (rest rs cs d f (par rs r) base (par rs r))) last
      ∙ ap (λ b. cond b [] (rest rs cs d f (par rs r) base (par rs r))) (eq-eqb (par rs r) base same)

  -- a base is above what is below it
  pub above : (base k r : ℕ) → Steps rs (suc k) base r → base < r
  above base zero r s = omega (arith, s.2, w.rising r s.0 s.1)
  above base (suc k) r s = omega (arith, above base k (par rs r) s.2, w.rising r s.0 s.1)

  pub child_under : (d : Way) (base r : ℕ) (s : NodeId) → Under rs base r → Child rs cs d r (Some s) → Under rs base s.0
  child_under d base r s (k, t) (some, h, p, is) = (suc k, (some, h, subst (λ x. Steps rs (suc k) base x) (sym p) t))

  -- into a row: the first child stands for all below the row and behind it
  pub into_some : (d : Way) (f : ℕ → List ℕ) (base r : ℕ) (s : NodeId) → Under rs base r → Child rs cs d r (Some s) → flat_map f (offspring rs cs d r) ++ rest rs cs d f r base r ≡ f s.0 ++ rest rs cs d f s.0 base s.0
  into_some d f base r s u (some, h, p, is) =
      let c = s.0 in
      let other : r ≡ base → ⊥ = λ e. omega (arith, above base u.0 r u.1) in
      ap (λ l. flat_map f l ++ rest rs cs d f r base r) is
      ∙ append_assoc (f c) (flat_map f (side rs cs d c)) (rest rs cs d f r base r)
      ∙ ap (λ l. f c ++ l)
      (ap (λ b. flat_map f (side rs cs d c) ++ cond b [] (rest rs cs d f r base r)) (sym (ne_eqb r base other))
      ∙ ap (λ x. flat_map f (side rs cs d c) ++ cond (eqb x base) [] (rest rs cs d f x base x)) (sym p)
      ∙ sym (rest_is d f base c (child_under d base r s u (some, h, p, is))))

  -- into the base itself
  pub into_base : (d : Way) (f : ℕ → List ℕ) (base : ℕ) (s : NodeId) → Child rs cs d base (Some s) → flat_map f (offspring rs cs d base) ≡ f s.0 ++ rest rs cs d f s.0 base s.0
  into_base d f base s (some, h, p, is) =
      let c = s.0 in
      ap (λ l. flat_map f l) is
      ∙ ap (λ l. f c ++ l)
      (sym (append-nil (flat_map f (side rs cs d c)))
      ∙ ap (λ b. flat_map f (side rs cs d c) ++ cond b [] (rest rs cs d f base base base)) (sym (eq-eqb base base refl))
      ∙ ap (λ x. flat_map f (side rs cs d c) ++ cond (eqb x base) [] (rest rs cs d f x base x)) (sym p)
      ∙ sym (rest_is d f base c (0, (some, h, p))))

  -- all along a row's children: each is a row below it, with its siblings behind it
  abbrev pub Chain : Way → ℕ → List ℕ → Type 0
  Chain d r [] = Unit {0}
  Chain d r (c ∷ l) = (0 < c) × (c < length rs) × (par rs c ≡ r) × (l ≡ side rs cs d c) × Chain d r l

  chain_front : (j r i : ℕ) → r < length rs → i + j ≡ count rs r → Chain Forward r (drop i (kids rs cs r))
  chain_front zero r i h sum = subst (Chain Forward r) (sym (drop_all i (kids rs cs r) (omega (arith, kids_length r h)))) tt
  chain_front (suc j) r i h sum =
      let has : (r < length rs) × (i < count rs r) = (h, omega arith) in
      subst (Chain Forward r) (sym (front r i has))
      (kid_above r i has, w.rowed r i has, w.parented r i has, refl, subst (Chain Forward r) (sym (side_kid r i has)) (chain_front j r (i + 1) h (omega arith)))

  chain_back : (i r : ℕ) → r < length rs → i ≤ count rs r → Chain Backward r (reverse (take i (kids rs cs r)))
  chain_back zero r h le = tt
  chain_back (suc i) r h le =
      let has : (r < length rs) × (i < count rs r) = (h, omega arith) in
      let one : suc i ≡ i + 1 = omega arith in
      subst (Chain Backward r) (sym (ap (λ n. reverse (take n (kids rs cs r))) one ∙ back r i has))
      (kid_above r i has, w.rowed r i has, w.parented r i has, refl, subst (Chain Backward r) (sym (back_kid r i has)) (chain_back i r h (omega arith)))

  pub chain : (d : Way) (r : ℕ) → r < length rs → Chain d r (offspring rs cs d r)
  unfolding offspring
  chain Forward r h = chain_front (count rs r) r 0 h (omega arith)
  chain Backward r h =
      subst (λ l. Chain Backward r (reverse l)) (take_all (count rs r) (kids rs cs r) (omega (arith, kids_length r h))) (chain_back (count rs r) r h (omega arith))

  joined_chain : (d : Way) (f g : ℕ → List ℕ) (r : ℕ) (l : List ℕ) → Chain d r l → ((c : ℕ) → c < length rs → r < c → f c ≡ g c) → flat_map f l ≡ flat_map g l
  joined_chain d f g r [] ch e = refl
  joined_chain d f g r (c ∷ l) ch e =
      let more : r < c = omega (arith, w.rising c ch.0 ch.1, ch.2) in
      let first = e c ch.1 more in
      let others = joined_chain d f g r l ch.4 e in
      λ i. first i ++ others i

  build_fuel : (d : Way) (g : ℕ → List ℕ → List ℕ) (n m r : ℕ) → r < length rs → length rs ≤ n + r → length rs ≤ m + r → build rs cs d g n r ≡ build rs cs d g m r
  unfolding build
  build_fuel d g zero m r h a b = absurd (omega arith)
  build_fuel d g (suc n) zero r h a b = absurd (omega arith)
  build_fuel d g (suc n) (suc m) r h a b =
      ap (g r) (joined_chain d (build rs cs d g n) (build rs cs d g m) r (offspring rs cs d r) (chain d r h) (λ c inside more. build_fuel d g n m c inside (omega arith) (omega arith)))

  -- what a subtree makes, from its children's
  pub build_is : (d : Way) (g : ℕ → List ℕ → List ℕ) (r : ℕ) → r < length rs → build rs cs d g (length rs) r ≡ g r (flat_map (build rs cs d g (length rs)) (offspring rs cs d r))
  unfolding build
  build_is d g r h = build_fuel d g (length rs) (suc (length rs)) r h (omega arith) (omega arith)

  pub forward_is : (r : ℕ) → offspring rs cs Forward r ≡ kids rs cs r
  unfolding offspring
  forward_is r = refl

  -- a child is a row behind its parent
  pub kid_more : (r k : ℕ) → (r < length rs) × (k < count rs r) → r < kid rs cs r k
  kid_more r k h = omega (arith, w.rising (kid rs cs r k) (kid_above r k h) (w.rowed r k h), w.parented r k h)

  pub kids_here : (r i : ℕ) → (r < length rs) × (i < count rs r) → drop i (kids rs cs r) ≡ kid rs cs r i ∷ drop (i + 1) (kids rs cs r)
  kids_here r i h = front r i h ∙ ap (λ l. kid rs cs r i ∷ l) (side_kid r i h)

  -- the children of x's parent: those before, x, those behind
  pub around : (f : ℕ → List ℕ) (x : ℕ) → 0 < x → x < length rs → (p : List ℕ) × (flat_map f (offspring rs cs Forward (par rs x)) ≡ p ++ (f x ++ flat_map f (side rs cs Forward x)))
  unfolding offspring
  around f x some h =
      let p = par rs x in
      let i = index rs x in
      let has : (p < length rs) × (i < count rs p) = (omega (arith, w.rising x some h), w.indexed x some h) in (
        flat_map f (take i (kids rs cs p)),
        sym (ap (flat_map f) (take-append-drop i (kids rs cs p)))
            ∙ joined_append f (take i (kids rs cs p)) (drop i (kids rs cs p))
            ∙ ap (λ l. flat_map f (take i (kids rs cs p)) ++ flat_map f l) (front p i has ∙ ap (λ y. y ∷ side rs cs Forward y) (w.placed x some h)),
      )

  pub sibling_at : (d e : Way) (r : ℕ) (o : Option NodeId) → d ≡ e → Sibling rs cs e r o → Sibling rs cs d r o
  sibling_at d e r o is h = subst (λ x. Sibling rs cs x r o) (sym is) h

  pub child_at : (d e : Way) (r : ℕ) (o : Option NodeId) → d ≡ e → Child rs cs e r o → Child rs cs d r o
  child_at d e r o is h = subst (λ x. Child rs cs x r o) (sym is) h
