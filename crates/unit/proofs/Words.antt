-- The word stops of a run: its word starts, and its first index where it opens a paragraph.
use Rattle.std.specs.Bool.{then_some}
use Rattle.std.specs.Option.{option_or}
use Rattle.std.proofs.Common.{sym, ◌≡◌, ℕ, suc, ◌<◌, ◌≤◌, Bool, true, false, ◌&&◌, ◌||◌, eqb, ltb, List, [], ◌∷◌, Some, None, Option, refl, subst, ⊎_elim, arith}
use Rattle.std.proofs.lemmas.Bool.{ltb-true, ltb-false, eq-eqb, ne_eqb, cases_lt, cases_Bool, cond_both, or_from, or_left, or_right, and_left, and_right}
use Rattle.source.specs.Runs.{Rising, first_from, last_below, or_lower}
use Rattle.starts.specs.Starts.{among}
use Rattle.starts.proofs.Words.{under, above}
use Rattle.unit.specs.Marks.{First, Last}

first_past : (w n i : ℕ) (ws : List ℕ) (o : Option ℕ) → w < i → First (λ k. among k ws) n i o → First (λ k. among k (w ∷ ws)) n i o
first_past w n i ws None h m = λ k a b. or_from (eqb k w) (among k ws) (ne_eqb k w (omega arith)) (m k a b)
first_past w n i ws (Some j) h m =
    (m.0, m.1, or_right (eqb j w) (among j ws) m.2, λ k a b. or_from (eqb k w) (among k ws) (ne_eqb k w (omega arith)) (m.3 k a b))

pub first_among : (low n i : ℕ) (ws : List ℕ) → Rising low n ws → First (λ k. among k ws) n i (first_from i ws)
first_among low n i [] r = λ k a b. refl
first_among low n i (w ∷ ws) r =
    cond_both (ltb w i) (first_from i ws) (Some w) (λ o. First (λ k. among k (w ∷ ws)) n i o)
    (λ e. first_past w n i ws (first_from i ws) (ltb-true w i e) (first_among (suc w) n i ws r.2))
    (λ e. (
      ltb-false w i e,
      r.1,
      or_left (eqb w w) (among w ws) (eq-eqb w w refl),
      λ k a b. or_from (eqb k w) (among k ws) (ne_eqb k w (omega arith)) (under (suc w) n ws k r.2 (omega arith)),
    ))

last_past : (w n i : ℕ) (ws : List ℕ) (o : Option ℕ) → Rising (suc w) n ws → Last (λ k. among k ws) i o → Last (λ k. among k (w ∷ ws)) i (or_lower i w o)
last_past w n i ws None r m =
    cond_both (ltb w i) (Some w) None (λ o. Last (λ k. among k (w ∷ ws)) i o)
    (λ e. (
      ltb-true w i e,
      or_left (eqb w w) (among w ws) (eq-eqb w w refl),
      λ k a b. or_from (eqb k w) (among k ws) (ne_eqb k w (omega arith)) (m k b),
    ))
    (λ e k b. let a = ltb-false w i e in or_from (eqb k w) (among k ws) (ne_eqb k w (omega arith)) (m k b))
last_past w n i ws (Some v) r m =
    let a = above (suc w) n ws v r m.1 in
    (m.0, or_right (eqb v w) (among v ws) m.1, λ k g b. or_from (eqb k w) (among k ws) (ne_eqb k w (omega arith)) (m.2 k g b))

pub last_among : (low n i : ℕ) (ws : List ℕ) → Rising low n ws → Last (λ k. among k ws) i (last_below i ws)
last_among low n i [] r = λ k b. refl
last_among low n i (w ∷ ws) r = last_past w n i ws (last_below i ws) r.2 (last_among (suc w) n i ws r.2)

-- the same with the first index, where the run opens a paragraph
module _ (head : Bool) (ws : List ℕ) where
  later : (k : ℕ) → 0 < k → (eqb k 0 && head) ≡ false
  later k h = and_left (eqb k 0) head (ne_eqb k 0 (omega arith))

  pub first_word : (n from : ℕ) (o : Option ℕ) → (eqb from 0 && head) ≡ false → First (λ k. among k ws) n from o → First (λ k. (eqb k 0 && head) || among k ws) n from o
  first_word n from o e m = go o m
    where
      none : (k : ℕ) → from ≤ k → (eqb k 0 && head) ≡ false
      none k h =
          ⊎_elim (λ a. later k a) (λ a. let z : from ≡ k = omega arith in subst (λ t. (eqb t 0 && head) ≡ false) z e) (cases_lt 0 k)

      go : (o : Option ℕ) → First (λ k. among k ws) n from o → First (λ k. (eqb k 0 && head) || among k ws) n from o
      go None m = λ k a b. or_from (eqb k 0 && head) (among k ws) (none k a) (m k a b)
      go (Some i) m = (m.0, m.1, or_right (eqb i 0 && head) (among i ws) m.2, λ k a b. or_from (eqb k 0 && head) (among k ws) (none k a) (m.3 k a b))

  last_word : (below i : ℕ) → Last (λ k. among k ws) below (Some i) → Last (λ k. (eqb k 0 && head) || among k ws) below (Some i)
  last_word below i m =
      (m.0, or_right (eqb i 0 && head) (among i ws) m.1, λ k a b. or_from (eqb k 0 && head) (among k ws) (later k (omega arith)) (m.2 k a b))

  last_open : (below : ℕ) → 0 < below → head ≡ true → Last (λ k. among k ws) below None → Last (λ k. (eqb k 0 && head) || among k ws) below (Some 0)
  last_open below h e m = (h, or_left head (among 0 ws) e, λ k a b. or_from (eqb k 0 && head) (among k ws) (later k a) (m k b))

  last_none : (below : ℕ) → head ≡ false → Last (λ k. among k ws) below None → Last (λ k. (eqb k 0 && head) || among k ws) below None
  last_none below e m = λ k b. or_from (eqb k 0 && head) (among k ws) (and_right (eqb k 0) head e) (m k b)

  pub last_or : (below : ℕ) (o : Option ℕ) → 0 < below → Last (λ k. among k ws) below o → Last (λ k. (eqb k 0 && head) || among k ws) below (option_or o (then_some head 0))
  last_or below (Some i) h m = last_word below i m
  last_or below None h m =
      ⊎_elim
      (λ e. subst (λ b. Last (λ k. (eqb k 0 && head) || among k ws) below (then_some b 0)) (sym e) (last_open below h e m))
      (λ e. subst (λ b. Last (λ k. (eqb k 0 && head) || among k ws) below (then_some b 0)) (sym e) (last_none below e m))
      (cases_Bool head)
