-- Index paths compared.
use Rattle.std.proofs.Common.{◌≡◌, ℕ, zero, suc, ◌<◌, ◌≤◌, Bool, ◌⊎◌, List, [], ◌∷◌, ◌++◌, length, Some, Option, Decides, sym, refl, ap, ◌∙◌, subst, inl, inr, ⊎_elim, append_assoc, arith}
use Rattle.std.specs.declared.cmp.Ordering.{Ordering}
use Rattle.std.specs.declared.cmp.Ordering.TheVariants.{Less as Below, Equal, Greater}
use Rattle.std.specs.Ordering.{nat_cmp, is_lt, is_some_and, partial_lt, partial_ordering_then, MatchOrdering}
use Rattle.std.specs.Cmp.{ranks}
use Rattle.std.specs.Cmp.Lexicographic.{slice_partial_cmp}
use Rattle.rows.proofs.Tests.{refuse}
use Rattle.rows.specs.declared.node.NodeId.{NodeId}
use Rattle.rows.specs.declared.node.Row.{Row}
use Rattle.rows.specs.declared.filters.FilterResult.{FilterResult}
use Rattle.tree.specs.declared.way.Way.TheVariants.{Forward}
use Rattle.rows.specs.Rows.{par, Well}
use Rattle.tree.specs.Subtrees.{Steps, path}
use Rattle.tree.specs.Walk.{listed, Listed}
use Rattle.tree.specs.Order.{Less, Before, Ahead, Apart}
use Rattle.tree.proofs.Rows.{above}
use Rattle.tree.proofs.Lists.{split, found_in, stands, passed_under}
use Rattle.tree.proofs.Numbers.{few_apart}
use Rattle.tree.proofs.Orders.{in_order}

-- std's order of lists, a place further on
less_step : (x y : ℕ) (xs ys : List ℕ) (o : Ordering) → MatchOrdering o (x < y) (x ≡ y) (y < x) → (p : Option Ordering) → Decides (is_some_and is_lt p) (Less xs ys) → Decides (is_some_and is_lt (partial_ordering_then (Some o) p)) (Less (x ∷ xs) (y ∷ ys))
less_step x y xs ys Below h p d = (λ _. inl h, λ _. refl)
less_step x y xs ys Equal h p d = (λ e. inr (h, d.0 e), λ l. ⊎_elim (λ m. absurd (omega arith)) (λ m. d.1 m.1) l)
less_step x y xs ys Greater h p d = refuse (λ l. ⊎_elim (λ m. omega arith) (λ m. let q = m.0 in omega arith) l)

-- the order of index paths is std's order of lists
less_decides : (xs ys : List ℕ) → Decides (partial_lt (slice_partial_cmp (λ x y. Some (nat_cmp x y))) xs ys) (Less xs ys)
less_decides [] [] = refuse (λ h. h)
less_decides [] (y ∷ ys) = (λ _. tt, λ _. refl)
less_decides (x ∷ xs) [] = refuse (λ h. h)
less_decides (x ∷ xs) (y ∷ ys) = less_step x y xs ys (nat_cmp x y) (ranks x y) (slice_partial_cmp (λ x y. Some (nat_cmp x y)) xs ys) (less_decides xs ys)

-- no path comes before itself, nor before one that comes before it
pub less_self : (xs : List ℕ) → Less xs xs → ⊥
less_self [] h = h
less_self (x ∷ xs) h = ⊎_elim (λ l. omega arith) (λ t. less_self xs t.1) h

less_both : (xs ys : List ℕ) → Less xs ys → Less ys xs → ⊥
less_both [] [] h k = h
less_both [] (y ∷ ys) h k = k
less_both (x ∷ xs) [] h k = h
less_both (x ∷ xs) (y ∷ ys) h k = ⊎_elim (λ l. ⊎_elim (λ m. omega arith) (λ m. let q = m.0 in omega arith) k) (λ l. let q = l.0 in ⊎_elim (λ m. omega arith) (λ m. less_both xs ys l.1 m.1) k) h

-- of two that stand in a list one is ahead, or they are one
module _ (l : List ℕ) (x y : ℕ) (px tx py ty : List ℕ) (e : l ≡ px ++ x ∷ tx) (f : l ≡ py ++ y ∷ ty) where
  behind : (p : List ℕ) → x ∷ tx ≡ p ++ y ∷ ty → Ahead l x y ⊎ (Ahead l y x ⊎ (x ≡ y))
  behind [] q = let s : x ≡ y = cc in inr (inr s)
  behind (b ∷ p) q = let t : tx ≡ p ++ y ∷ ty = cc in inl (px, p, ty, e ∙ ap (λ z. px ++ x ∷ z) t)

  three : Ahead l x y ⊎ (Ahead l y x ⊎ (x ≡ y))
  three =
      ⊎_elim
      (λ u. inr (inl (py, u.0, tx, e ∙ ap (λ z. z ++ x ∷ tx) u.1 ∙ append_assoc py (y ∷ u.0) (x ∷ tx))))
      (λ u. behind u.0 u.2)
      (split px (x ∷ tx) py y ty (sym e ∙ f))

module _ {rs : List Row} {cs : List NodeId} (w : Well rs cs) where
  -- each row has one path
  pub one_path : (base k j r : ℕ) → Steps rs k base r → Steps rs j base r → k ≡ j
  one_path base zero zero r s t = refl
  one_path base zero (suc j) r s t = absurd (omega (arith, s, above w base j r t))
  one_path base (suc k) zero r s t = absurd (omega (arith, t, above w base k r s))
  one_path base (suc k) (suc j) r s t = ap suc (one_path base k j (par rs r) s.2 t.2)

  same_paths : (base k j m n x y : ℕ) → Steps rs k base x → Steps rs j base y → Steps rs m base x → Steps rs n base y → Less (path rs m x) (path rs n y) → Less (path rs k x) (path rs j y)
  same_paths base k j m n x y a b c d h =
      let e = one_path base m k x c a in
      let f = one_path base n j y d b in
      subst (λ l. Less (path rs k x) (path rs l y)) f (subst (λ l. Less (path rs l x) (path rs n y)) e h)

  pub before_is : (base x y k j : ℕ) → Steps rs k base x → Steps rs j base y → (b : Bool) → b ≡ partial_lt (slice_partial_cmp (λ x y. Some (nat_cmp x y))) (path rs k x) (path rs j y) → Decides b (Before rs base x y)
  before_is base x y k j sx sy b q =
      let d = less_decides (path rs k x) (path rs j y) in
      (λ e. (k, j, sx, sy, d.0 (sym q ∙ e)), λ t. q ∙ d.1 (same_paths base k j t.0 t.1 x y sx sy t.2 t.3 t.4))

  module _ (a : ℕ → FilterResult) (base x y k j : ℕ) (h : base < length rs) (lx : Listed rs a base x) (ly : Listed rs a base y) (sx : Steps rs k base x) (sy : Steps rs j base y) where
    to_less : Ahead (listed rs cs a base) x y → Less (path rs k x) (path rs j y)
    to_less t = let b = in_order w a base h x y t in same_paths base k j b.0 b.1 x y sx sy b.2 b.3 b.4

    to_less_back : Ahead (listed rs cs a base) y x → Less (path rs j y) (path rs k x)
    to_less_back t = let b = in_order w a base h y x t in same_paths base j k b.0 b.1 y x sy sx b.2 b.3 b.4

    to_ahead : Less (path rs k x) (path rs j y) → Ahead (listed rs cs a base) x y
    to_ahead l =
        let s = found_in w a base x lx in
        let t = found_in w a base y ly in
        ⊎_elim
        (λ u. u)
        (λ u. ⊎_elim
        (λ v. absurd (less_both (path rs k x) (path rs j y) l (to_less_back v)))
        (λ v.
        let g = one_path base k j y (subst (λ z. Steps rs k base z) v sx) sy in
        absurd (less_self (path rs j y) (subst (λ m. Less (path rs m y) (path rs j y)) g (subst (λ z. Less (path rs k z) (path rs j y)) v l))))
        u)
        (three (listed rs cs a base) x y s.0 _ t.0 _ s.1 t.1)

  -- Of two listed rows the one that comes before stands ahead in the list.
  pub before_ahead : (a : ℕ → FilterResult) (base x y : ℕ) → base < length rs → Listed rs a base x → Listed rs a base y → Before rs base x y → Ahead (listed rs cs a base) x y
  before_ahead a base x y h lx ly (k, j, sx, sy, l) = to_ahead a base x y k j h lx ly sx sy l

  -- No row stands twice in the list, and so it has at most as many as the table.
  pub apart : (a : ℕ → FilterResult) (base : ℕ) → base < length rs → Apart (listed rs cs a base)
  apart a base h x t =
      let b = in_order w a base h x x t in
      let k = one_path base b.0 b.1 x b.2 b.3 in
      less_self (path rs b.1 x) (subst (λ n. Less (path rs n x) (path rs b.1 x)) k b.4)

  pub few : (a : ℕ → FilterResult) (base : ℕ) → base < length rs → length (listed rs cs a base) ≤ 1024
  few a base h =
      let low = few_apart (length rs) (listed rs cs a base) (apart a base h) (λ x pre post e. let l = (stands w Forward a base h pre x post e).0 in (passed_under w Forward a base l.1.0 x l.1.1).1) in
      omega (arith, low, w.few)
