-- The order of the runs, then of the indexes, is the order of places.
use Rattle.std.proofs.Common.{◌≡◌, ℕ, ◌+◌, ◌-◌, ◌<◌, ◌≤◌, true, false, cond, eqb, ltb, List, [], ◌∷◌, Some, Ordering, Less, Equal, Greater, sym, refl, ap, ◌∙◌, subst, ⊎_elim, arith}
use Rattle.std.proofs.lemmas.Bool.{both_ways, eqb-true, eqb-false, ne_eqb, ltb-true, ltb-false, cases_Bool, cond_both, cond-true, cond-false}
use Rattle.source.specs.Runs.{Run, Document, Sound, count, Lacks, Listed, count_in, is_in, before_in}
use Rattle.source.specs.Pieces.{Within}
use Rattle.position.specs.declared.position.Position.{Position}
use Rattle.position.specs.Places.{Lawful, offset_in, total_in, offset, total, at, place, place_in, to_start}
use Rattle.position.specs.Orders.{numbers, by_runs, Compares, Ordered}
use Rattle.position.proofs.Options.{some_same, count_of}
use Rattle.position.proofs.Places.{there, count_here, count_later, offset_later, offset_inside, offset_place, within_place, root_place}
use Rattle.position.proofs.Neighbours.{offset_add}

-- a run of the list is no run that the list lacks
is_there : (xs : List Run) (r s : ℕ) → Lacks r xs → is_in xs s ≡ true → r ≡ s → ⊥
is_there [] r s l w e = both_ways false refl w
is_there (x ∷ xs) r s l w e =
    ⊎_elim
    (λ q. l.0 (eqb-true x.row s q ∙ sym e))
    (λ q. is_there xs r s l.1 (sym (cond-false (eqb x.row s) true (is_in xs s) q) ∙ w) e)
    (cases_Bool (eqb x.row s))

-- a row with a count is a run of the list
counted : (xs : List Run) (r i : ℕ) → Within i (count_in xs r) → is_in xs r ≡ true
counted [] r i w = absurd w
counted (x ∷ xs) r i w =
    ⊎_elim
    (λ q. cond-true (eqb x.row r) true (is_in xs r) q)
    (λ q. cond-false (eqb x.row r) true (is_in xs r) q ∙ counted xs r i (subst (Within i) (cond-false (eqb x.row r) (Some (count x)) (count_in xs r) q) w))
    (cases_Bool (eqb x.row r))

-- one of two runs stands before the other
pub before_total : (xs : List Run) (r q : ℕ) → is_in xs r ≡ true → is_in xs q ≡ true → (r ≡ q → ⊥) → before_in xs r q ≡ false → before_in xs q r ≡ true
before_total [] r q a b n e = absurd (both_ways false refl a)
before_total (x ∷ xs) r q a b n e =
    ⊎_elim
    (λ u.
    let k = eqb-true x.row r u in
    let nq : x.row ≡ q → ⊥ = λ z. n (sym k ∙ z) in
    let v = sym (cond-false (eqb x.row q) true (is_in xs q) (ne_eqb x.row q nq)) ∙ b in
    absurd (both_ways (is_in xs q) (sym (cond-true (eqb x.row r) (is_in xs q) (before_in xs r q) u) ∙ e) v))
    (λ u.
    let f = sym (cond-false (eqb x.row r) true (is_in xs r) u) ∙ a in
    ⊎_elim
    (λ v. cond-true (eqb x.row q) (is_in xs r) (before_in xs q r) v ∙ f)
    (λ v.
    cond-false (eqb x.row q) (is_in xs r) (before_in xs q r) v
    ∙ before_total xs r q f (sym (cond-false (eqb x.row q) true (is_in xs q) v) ∙ b) n (sym (cond-false (eqb x.row r) (is_in xs q) (before_in xs r q) u) ∙ e))
    (cases_Bool (eqb x.row q)))
    (cases_Bool (eqb x.row r))

behind : (xs : List Run) (r q : ℕ) → before_in xs r q ≡ true → is_in xs q ≡ true
behind [] r q e = e
behind (x ∷ xs) r q e =
    ⊎_elim
    (λ v. cond-true (eqb x.row q) true (is_in xs q) v)
    (λ v.
    cond-false (eqb x.row q) true (is_in xs q) v
    ∙ cond_both (eqb x.row r) (is_in xs q) (before_in xs r q) (λ b. b ≡ true → is_in xs q ≡ true) (λ u z. z) (λ u z. behind xs r q z) e)
    (cases_Bool (eqb x.row q))

ahead : (xs : List Run) (r q : ℕ) → before_in xs r q ≡ true → is_in xs r ≡ true
ahead [] r q e = e
ahead (x ∷ xs) r q e =
    ⊎_elim
    (λ v. cond-true (eqb x.row r) true (is_in xs r) v)
    (λ v. cond-false (eqb x.row r) true (is_in xs r) v ∙ ahead xs r q (sym (cond-false (eqb x.row r) (is_in xs q) (before_in xs r q) v) ∙ e))
    (cases_Bool (eqb x.row r))

-- a run ends before a later one starts
pub before_ends : (xs : List Run) (r q n : ℕ) → Listed xs → before_in xs r q ≡ true → Some n ≡ count_in xs r → offset_in xs r 0 + n ≤ offset_in xs q 0
before_ends [] r q n h e c = absurd h
before_ends (x ∷ []) r q n h e c = absurd (both_ways false refl (sym (cond_both (eqb x.row r) false false (λ b. b ≡ false) (λ u. refl) (λ u. refl)) ∙ e))
before_ends (x ∷ y ∷ ys) r q n h e c =
    ⊎_elim
    (λ u.
    let i = sym (cond-true (eqb x.row r) (is_in (y ∷ ys) q) (before_in (y ∷ ys) r q) u) ∙ e in
    let nq = is_there (y ∷ ys) x.row q h.1 i in
    let a = cond-true (eqb x.row r) 0 (count x + offset_in (y ∷ ys) r 0) u in
    let b = offset_later x (y ∷ ys) q 0 nq in
    let k = some_same (count x) n (sym (c ∙ cond-true (eqb x.row r) (Some (count x)) (count_in (y ∷ ys) r) u)) in
    omega arith)
    (λ u.
    let e' = sym (cond-false (eqb x.row r) (is_in (y ∷ ys) q) (before_in (y ∷ ys) r q) u) ∙ e in
    let nq = is_there (y ∷ ys) x.row q h.1 (behind (y ∷ ys) r q e') in
    let a = cond-false (eqb x.row r) 0 (count x + offset_in (y ∷ ys) r 0) u in
    let b = offset_later x (y ∷ ys) q 0 nq in
    let z = before_ends (y ∷ ys) r q n h.2 e' (c ∙ cond-false (eqb x.row r) (Some (count x)) (count_in (y ∷ ys) r) u) in
    omega arith)
    (cases_Bool (eqb x.row r))

-- a place that stands before another run is inside its own
pub place_open : (o : ℕ) (xs : List Run) (k q n : ℕ) → Listed xs → k ≤ total_in xs → before_in xs (place_in o xs k).row.0 q ≡ true → Some n ≡ count_in xs (place_in o xs k).row.0 → (place_in o xs k).index < n
place_open o [] k q n s h = absurd s
place_open o (x ∷ []) k q n s h = λ e c. absurd (both_ways false refl (sym (cond_both (eqb x.row x.row) false false (λ b. b ≡ false) (λ u. refl) (λ u. refl)) ∙ e))
place_open o (x ∷ y ∷ ys) k q n s h =
    cond_both (ltb k (count x)) (at o x.row k) (place_in o (y ∷ ys) (k - count x))
    (λ p. before_in (x ∷ y ∷ ys) p.row.0 q ≡ true → Some n ≡ count_in (x ∷ y ∷ ys) p.row.0 → p.index < n)
    (λ u e c. let a = ltb-true k (count x) u in let b = some_same n (count x) (c ∙ count_here x (y ∷ ys)) in omega arith)
    (λ u e c.
    let a = ltb-false k (count x) u in
    let b : k - count x ≤ total_in (y ∷ ys) = omega arith in
    let p = place_in o (y ∷ ys) (k - count x) in
    let w = within_place o (y ∷ ys) (k - count x) s.2 b in
    let m = there (y ∷ ys) x.row p.row.0 p.index s.1 w in
    place_open o (y ∷ ys) (k - count x) q n s.2 b
    (sym (cond-false (eqb x.row p.row.0) (is_in (y ∷ ys) q) (before_in (y ∷ ys) p.row.0 q) (ne_eqb x.row p.row.0 m)) ∙ e)
    (c ∙ count_later x (y ∷ ys) p.row.0 m))

module _ (d : Document) (s : Sound d) where
  inside : (p : Position) → Lawful d p → offset d p ≤ total d
  inside p l = offset_inside d.runs p.row.0 p.index l.1

  lawful : (p a : Position) → Lawful d p → a ≡ place d (offset d p) → Lawful d a
  lawful p a l e = subst (Lawful d) (sym e) (root_place d.root d.runs (offset d p), within_place d.root d.runs (offset d p) s.listed (inside p l))

  same_offset : (p a : Position) → Lawful d p → a ≡ place d (offset d p) → offset d a ≡ offset d p
  same_offset p a l e = ap (offset d) e ∙ offset_place d.root d.runs (offset d p) s.listed (inside p l)

  less : (p a b : Position) → Lawful d p → a ≡ place d (offset d p) → Lawful d b → before_in d.runs a.row.0 b.row.0 ≡ true → offset d a < offset d b
  less p a b l e m f =
      let u = lawful p a l e in
      let ca = count_of a.index (count_in d.runs a.row.0) u.1 in
      let cb = count_of b.index (count_in d.runs b.row.0) m.1 in
      let n = ca.0 in
      let o = subst (λ t. before_in d.runs t.row.0 b.row.0 ≡ true → Some n ≡ count_in d.runs t.row.0 → t.index < n) (sym e)
      (place_open d.root d.runs (offset d p) b.row.0 n s.listed (inside p l)) f ca.1 in
      let x = offset_add d.runs a.row.0 a.index n ca.1 in
      let y = offset_add d.runs b.row.0 b.index cb.0 cb.1 in
      let z = before_ends d.runs a.row.0 b.row.0 n s.listed f ca.1 in
      omega arith

  -- positions of one run compare as their indexes do
  in_run : (a b : Position) → Lawful d a → Lawful d b → a.row.0 ≡ b.row.0 → Compares (offset d a) (offset d b) (numbers a.index b.index)
  in_run a b l m e =
      let ca = count_of a.index (count_in d.runs a.row.0) l.1 in
      let cb = count_of b.index (count_in d.runs b.row.0) m.1 in
      let x = offset_add d.runs a.row.0 a.index ca.0 ca.1 in
      let y = offset_add d.runs b.row.0 b.index cb.0 cb.1 in
      let z = ap (λ r. offset_in d.runs r 0) e in
      cond_both (ltb a.index b.index) Less (cond (ltb b.index a.index) Greater Equal) (Compares (offset d a) (offset d b))
      (λ u. let h = ltb-true a.index b.index u in omega arith)
      (λ u.
      let h = ltb-false a.index b.index u in
      cond_both (ltb b.index a.index) Greater Equal (Compares (offset d a) (offset d b))
      (λ v. let g = ltb-true b.index a.index v in omega arith)
      (λ v. let g = ltb-false b.index a.index v in omega arith))

  places : (p q a b : Position) → Lawful d p → Lawful d q → a ≡ place d (offset d p) → b ≡ place d (offset d q) → Compares (offset d a) (offset d b) (by_runs d a b)
  places p q a b l m e f =
      let la = lawful p a l e in
      let lb = lawful q b m f in
      cond_both (eqb a.row.0 b.row.0) (numbers a.index b.index) (cond (before_in d.runs a.row.0 b.row.0) Less Greater) (Compares (offset d a) (offset d b))
      (λ u. in_run a b la lb (eqb-true a.row.0 b.row.0 u))
      (λ u.
      cond_both (before_in d.runs a.row.0 b.row.0) Less Greater (Compares (offset d a) (offset d b))
      (λ v. less p a b l e lb v)
      (λ v.
      less q b a m f la
      (before_total d.runs a.row.0 b.row.0 (counted d.runs a.row.0 a.index la.1) (counted d.runs b.row.0 b.index lb.1) (eqb-false a.row.0 b.row.0 u) v)))

  pub compares : (p q a b : Position) (o : Ordering) → Lawful d p → Lawful d q → (a ≡ place d (offset d p)) × (a ≡ to_start d p) → (b ≡ place d (offset d q)) × (b ≡ to_start d q) → o ≡ by_runs d a b → Ordered d p q o
  compares p q a b o l m e f w = (
    w ∙ ap (λ t. by_runs d t b) e.1 ∙ ap (by_runs d (to_start d p)) f.1,
    subst (λ k. Compares k (offset d q) o) (same_offset p a l e.0)
        (subst (λ k. Compares (offset d a) k o) (same_offset q b m f.0) (subst (Compares (offset d a) (offset d b)) (sym w) (places p q a b l m e.0 f.0))),
  )
