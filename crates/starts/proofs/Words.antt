-- A run's word starts: a number is among them exactly when it is the first that is not below it.
use Rattle.std.specs.Option.{option_eq}
use Rattle.std.proofs.Common.{◌≡◌, ℕ, suc, ◌<◌, ◌≤◌, true, false, ◌||◌, eqb, ltb, List, [], ◌∷◌, Some, Option, sym, refl, ap, ◌∙◌, subst, ⊎_elim, arith}
use Rattle.std.proofs.lemmas.Bool.{both_ways, ltb-true, ltb-false, eq-eqb, ne_eqb, cases_Bool, cases_lt, cond-true, cond-false, or_from, or_left}
use Rattle.source.specs.Runs.{Run, SoundRun, count, Every, Rising, count_in, words_in, first_from}
use Rattle.starts.specs.Starts.{among}
use Rattle.position.proofs.Options.{some_same, not_none}

pub rising_of : (xs : List Run) (r n : ℕ) → Every SoundRun xs → Some n ≡ count_in xs r → Rising 0 n (words_in xs r)
rising_of [] r n s c = absurd (not_none n c)
rising_of (x ∷ xs) r n s c =
    ⊎_elim
    (λ q.
    let k = some_same (count x) n (sym (c ∙ cond-true (eqb x.row r) (Some (count x)) (count_in xs r) q)) in
    subst (λ w. Rising 0 n w) (sym (cond-true (eqb x.row r) x.words (words_in xs r) q)) (subst (λ m. Rising 0 m x.words) k s.0.words))
    (λ q.
    subst (λ w. Rising 0 n w) (sym (cond-false (eqb x.row r) x.words (words_in xs r) q))
    (rising_of xs r n s.1 (c ∙ cond-false (eqb x.row r) (Some (count x)) (count_in xs r) q)))
    (cases_Bool (eqb x.row r))

-- none of a rising list's numbers is below its bound
pub under : (low n : ℕ) (ws : List ℕ) (k : ℕ) → Rising low n ws → k < low → among k ws ≡ false
under low n [] k r h = refl
under low n (w ∷ ws) k r h =
    let a = r.0 in
    or_from (eqb k w) (among k ws) (ne_eqb k w (omega arith)) (under (suc w) n ws k r.2 (omega arith))

pub above : (low n : ℕ) (ws : List ℕ) (k : ℕ) → Rising low n ws → among k ws ≡ true → low ≤ k
above low n ws k r m = ⊎_elim (λ h. absurd (both_ways (among k ws) (under low n ws k r h) m)) (λ h. h) (cases_lt k low)

-- a number is in a rising list exactly when it is the first that is not below it
pub among_first : (low n i : ℕ) (ws : List ℕ) → Rising low n ws → (o : Option ℕ) → o ≡ first_from i ws → among i ws ≡ option_eq eqb o (Some i)
among_first low n i [] r o e = ap (λ m. option_eq eqb m (Some i)) (sym e)
among_first low n i (w ∷ ws) r o e =
    ⊎_elim
    (λ q.
    let h = ltb-true w i q in
    ap (λ b. b || among i ws) (ne_eqb i w (omega arith))
    ∙ among_first (suc w) n i ws r.2 o (e ∙ cond-true (ltb w i) (first_from i ws) (Some w) q))
    (λ q.
    let h = ltb-false w i q in
    let k = e ∙ cond-false (ltb w i) (first_from i ws) (Some w) q in
    ⊎_elim
    (λ l. or_from (eqb i w) (among i ws) (ne_eqb i w (omega arith)) (under (suc w) n ws i r.2 (omega arith)) ∙ sym (ap (λ m. option_eq eqb m (Some i)) k ∙ ne_eqb w i (omega arith)))
    (λ l. or_left (eqb i w) (among i ws) (eq-eqb i w (omega arith)) ∙ sym (ap (λ m. option_eq eqb m (Some i)) k ∙ eq-eqb w i (omega arith)))
    (cases_lt i w))
    (cases_Bool (ltb w i))
