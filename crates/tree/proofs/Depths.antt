-- Steps up from a row.
use Rattle.std.proofs.Common.{◌≡◌, ℕ, zero, suc, ◌+◌, ◌-◌, ◌<◌, ◌≤◌, List, [], ◌∷◌, ◌++◌, length, take, drop, set, sym, refl, ap, ◌∙◌, subst, append_assoc, append-nil, arith}
use Rattle.std.proofs.lemmas.List.{drop-set}
use Rattle.tree.proofs.Rows.{above}
use Rattle.rows.specs.declared.node.NodeId.{NodeId}
use Rattle.rows.specs.declared.node.Row.{Row}
use Rattle.rows.specs.Rows.{par, index, lift, Well}
use Rattle.rows.proofs.Lifts.{lift_none, lift_step}
use Rattle.tree.specs.Subtrees.{path, Steps}

module _ (rs : List Row) where
  -- a row within m steps of row 0 is within m steps of any row above it
  pub steps_few : (n m base r : ℕ) → Steps rs n base r → lift rs m r ≡ 0 → n ≤ m
  steps_few zero m base r s e = omega arith
  steps_few (suc n) zero base r s e = absurd (omega (arith, s.0, lift_none rs 0 r refl))
  steps_few (suc n) (suc m) base r s e =
      let same : suc m - 1 ≡ m = omega arith in
      let less = steps_few n m base (par rs r) s.2 (sym (ap (λ k. lift rs k (par rs r)) same) ∙ sym (lift_step rs (suc m) r (omega arith) s.0) ∙ e) in
      omega arith

-- one more place written, from the end on
pub path_more : (rs : List Row) (n place r at : ℕ) (xs : List ℕ) → place < n → n ≤ length xs → path rs n r ≡ path rs (suc place) at ++ take (n - suc place) (drop (suc place) xs) → path rs n r ≡ path rs place (par rs at) ++ take (n - place) (drop place (set xs place (index rs at)))
unfolding path
path_more rs n place r at xs lt long e =
    let one : n - place ≡ suc (n - suc place) = omega arith in
    let up : place + 1 ≡ suc place = omega arith in
    let front = path rs place (par rs at) in
    e
    ∙ append_assoc front (index rs at ∷ []) (take (n - suc place) (drop (suc place) xs))
    ∙ ap (λ l. front ++ l) (ap (λ i. index rs at ∷ take (n - suc place) (drop i xs)) (sym up) ∙ sym (ap (take (suc (n - suc place))) (drop-set xs place (index rs at) (omega arith))) ∙ ap (λ m. take m (drop place (set xs place (index rs at)))) (sym one))

pub path_back : (rs : List Row) (n p r at : ℕ) (xs : List ℕ) → 0 < p → p ≤ n → n ≤ length xs → path rs n r ≡ path rs p at ++ take (n - p) (drop p xs) → path rs n r ≡ path rs (p - 1) (par rs at) ++ take (n - (p - 1)) (drop (p - 1) (set xs (p - 1) (index rs at)))
path_back rs n zero r at xs some le long e = absurd (omega arith)
path_back rs n (suc q) r at xs some le long e =
    let back : q ≡ suc q - 1 = omega arith in
    subst (λ m. path rs n r ≡ path rs m (par rs at) ++ take (n - m) (drop m (set xs m (index rs at)))) back (path_more rs n q r at xs (omega arith) long e)

pub steps_back : (rs : List Row) (base p at : ℕ) → 0 < p → Steps rs p base at → (0 < at) × (at < length rs) × Steps rs (p - 1) base (par rs at)
steps_back rs base zero at some s = absurd (omega arith)
steps_back rs base (suc q) at some s =
    let back : q ≡ suc q - 1 = omega arith in
    (s.0, s.1, subst (λ m. Steps rs m base (par rs at)) back s.2)

pub path_start : (rs : List Row) (n r : ℕ) (xs : List ℕ) → path rs n r ≡ path rs n r ++ take (n - n) (drop n xs)
path_start rs n r xs = let e : n - n ≡ 0 = omega arith in sym (ap (λ m. path rs n r ++ take m (drop n xs)) e ∙ append-nil (path rs n r))

pub path_end : (rs : List Row) (n p r at : ℕ) (xs : List ℕ) → p ≤ 0 → path rs n r ≡ path rs p at ++ take (n - p) (drop p xs) → take n xs ≡ path rs n r
unfolding path
path_end rs n (suc p) r at xs le e = absurd (omega arith)
path_end rs n zero r at xs le e = let z : n - 0 ≡ n = omega arith in sym (e ∙ ap (λ m. take m xs) z)

-- Steps to a row reached, n steps up from r.
module _ (rs : List Row) (base : ℕ) where
  pub steps_none : (r k : ℕ) → Steps rs k base r → Steps rs (0 + k) base r
  steps_none r k s = let same : k ≡ 0 + k = omega arith in subst (λ m. Steps rs m base r) same s

  pub steps_down : (r n at : ℕ) → 0 < at → at < length rs → ((k : ℕ) → Steps rs k base at → Steps rs (n + k) base r) → (k : ℕ) → Steps rs k base (par rs at) → Steps rs (n + 1 + k) base r
  steps_down r n at some h known k s = let same : n + suc k ≡ n + 1 + k = omega arith in subst (λ m. Steps rs m base r) same (known (suc k) (some, h, s))

  pub steps_up : (at : ℕ) → base < at → (k : ℕ) × Steps rs k base at → (k : ℕ) × Steps rs k base (par rs at)
  steps_up at more (zero, s) = absurd (omega arith)
  steps_up at more (suc k, s) = (k, s.2)

  pub steps_done : (r n at : ℕ) → ((k : ℕ) → Steps rs k base at → Steps rs (n + k) base r) → at ≡ base → Steps rs n base r
  steps_done r n at known same = let e : n + 0 ≡ n = omega arith in subst (λ m. Steps rs m base r) e (known 0 same)

pub steps_low : {rs : List Row} {cs : List NodeId} (w : Well rs cs) (base at : ℕ) → (k : ℕ) × Steps rs k base at → base ≤ at
steps_low w base at (zero, s) = omega arith
steps_low w base at (suc k, s) = omega (arith, above w base k at s)

-- Places in front are written, and those behind stay.
pub drop_behind : (xs : List ℕ) (p n v : ℕ) → p < n → drop n (set xs p v) ≡ drop n xs
drop_behind [] p n v h = refl
drop_behind (x ∷ xs) p zero v h = absurd (omega arith)
drop_behind (x ∷ xs) zero (suc n) v h = refl
drop_behind (x ∷ xs) (suc p) (suc n) v h = drop_behind xs p n v (omega arith)
