-- Places and positions answer one another.
use Rattle.std.proofs.Common.{◌≡◌, ℕ, ◌+◌, ◌-◌, ◌<◌, ◌≤◌, true, cond, eqb, ltb, List, [], ◌∷◌, Some, None, Ok, Err, Result, sym, refl, ap, ◌∙◌, subst, ⊎_elim, arith}
use Rattle.std.proofs.lemmas.Bool.{eqb-true, eqb-false, eq-eqb, ne_eqb, ltb-true, ltb-false, lt-ltb, le-ltb, cases_Bool, cases_lt, cond_both, cond-true, cond-false}
use Rattle.rows.specs.declared.refusal.Refusal.{Refusal}
use Rattle.source.specs.Runs.{Run, Document, Sound, count, row_id, Lacks, Listed, count_in, head_row, next_in, first_row}
use Rattle.source.specs.Pieces.{Within}
use Rattle.position.specs.declared.position.Position.{Position}
use Rattle.position.specs.Places.{Lawful, offset_in, total_in, offset, total, at, place_in, place, or_start, at_end, to_start, Answers, BiasedStart, NextPlace}
use Rattle.position.proofs.Options.{some_same}

pub root_place : (o : ℕ) (xs : List Run) (k : ℕ) → (place_in o xs k).root.0 ≡ o
root_place o [] k = refl
root_place o (x ∷ []) k = refl
root_place o (x ∷ y ∷ ys) k =
    cond_both (ltb k (count x)) (at o x.row k) (place_in o (y ∷ ys) (k - count x)) (λ p. p.root.0 ≡ o) (λ e. refl)
    (λ e. root_place o (y ∷ ys) (k - count x))

pub eqb_self : (r : ℕ) → eqb r r ≡ true
eqb_self r = eq-eqb r r refl

-- a row that is there is not one that is lacking
pub there : (xs : List Run) (r s i : ℕ) → Lacks r xs → Within i (count_in xs s) → r ≡ s → ⊥
there [] r s i l w e = w
there (x ∷ xs) r s i l w e =
    cond_both (eqb x.row s) (Some (count x)) (count_in xs s) (λ o. Within i o → ⊥)
    (λ q v. l.0 (eqb-true x.row s q ∙ sym e))
    (λ q v. there xs r s i l.1 v e) w

-- the first run of the list, and a run behind it
pub count_here : (x : Run) (xs : List Run) → count_in (x ∷ xs) x.row ≡ Some (count x)
count_here x xs = cond-true (eqb x.row x.row) (Some (count x)) (count_in xs x.row) (eqb_self x.row)

pub count_later : (x : Run) (xs : List Run) (r : ℕ) → (x.row ≡ r → ⊥) → count_in (x ∷ xs) r ≡ count_in xs r
count_later x xs r n = cond-false (eqb x.row r) (Some (count x)) (count_in xs r) (ne_eqb x.row r n)

pub offset_here : (x : Run) (xs : List Run) (i : ℕ) → offset_in (x ∷ xs) x.row i ≡ i
offset_here x xs i = cond-true (eqb x.row x.row) i (count x + offset_in xs x.row i) (eqb_self x.row)

pub offset_later : (x : Run) (xs : List Run) (r i : ℕ) → (x.row ≡ r → ⊥) → offset_in (x ∷ xs) r i ≡ count x + offset_in xs r i
offset_later x xs r i n = cond-false (eqb x.row r) i (count x + offset_in xs r i) (ne_eqb x.row r n)

pub within_place : (o : ℕ) (xs : List Run) (k : ℕ) → Listed xs → k ≤ total_in xs → Within (place_in o xs k).index (count_in xs (place_in o xs k).row.0)
within_place o [] k s h = s
within_place o (x ∷ []) k s h = let b : k ≤ count x = omega arith in rw (count_here x []) b
within_place o (x ∷ y ∷ ys) k s h =
    cond_both (ltb k (count x)) (at o x.row k) (place_in o (y ∷ ys) (k - count x))
    (λ p. Within p.index (count_in (x ∷ y ∷ ys) p.row.0))
    (λ e. let b : k ≤ count x = omega (arith, ltb-true k (count x) e) in rw (count_here x (y ∷ ys)) b)
    (λ e.
    let b : k - count x ≤ total_in (y ∷ ys) = omega (arith, ltb-false k (count x) e) in
    let w = within_place o (y ∷ ys) (k - count x) s.2 b in
    let q = place_in o (y ∷ ys) (k - count x) in
    rw (count_later x (y ∷ ys) q.row.0 (there (y ∷ ys) x.row q.row.0 q.index s.1 w)) w)

pub offset_place : (o : ℕ) (xs : List Run) (k : ℕ) → Listed xs → k ≤ total_in xs → offset_in xs (place_in o xs k).row.0 (place_in o xs k).index ≡ k
offset_place o [] k s h = absurd s
offset_place o (x ∷ []) k s h = offset_here x [] k
offset_place o (x ∷ y ∷ ys) k s h =
    cond_both (ltb k (count x)) (at o x.row k) (place_in o (y ∷ ys) (k - count x))
    (λ p. offset_in (x ∷ y ∷ ys) p.row.0 p.index ≡ k)
    (λ e. offset_here x (y ∷ ys) k)
    (λ e.
    let a = ltb-false k (count x) e in
    let b : k - count x ≤ total_in (y ∷ ys) = omega arith in
    let w = within_place o (y ∷ ys) (k - count x) s.2 b in
    let q = place_in o (y ∷ ys) (k - count x) in
    let z = offset_place o (y ∷ ys) (k - count x) s.2 b in
    offset_later x (y ∷ ys) q.row.0 q.index (there (y ∷ ys) x.row q.row.0 q.index s.1 w)
    ∙ (omega (arith, z)))

pub offset_inside : (xs : List Run) (r i : ℕ) → Within i (count_in xs r) → offset_in xs r i ≤ total_in xs
offset_inside [] r i w = absurd w
offset_inside (x ∷ xs) r i w =
    ⊎_elim
    (λ q. let v : i ≤ count x = subst (Within i) (cond-true (eqb x.row r) (Some (count x)) (count_in xs r) q) w in
    rw (cond-true (eqb x.row r) i (count x + offset_in xs r i) q) (omega arith))
    (λ q. let v : Within i (count_in xs r) = subst (Within i) (cond-false (eqb x.row r) (Some (count x)) (count_in xs r) q) w in
    let z = offset_inside xs r i v in
    rw (cond-false (eqb x.row r) i (count x + offset_in xs r i) q) (omega arith))
    (cases_Bool (eqb x.row r))

-- the list's own words for `biased`
abbrev pub biased_in : ℕ → List Run → ℕ → ℕ → Position
biased_in o xs r i = cond (at_end (count_in xs r) i) (or_start (next_in xs r) (at o r i)) (at o r i)

pub place_zero : (o : ℕ) (y : Run) (ys : List Run) → Listed (y ∷ ys) → place_in o (y ∷ ys) 0 ≡ at o y.row 0
place_zero o y [] s = refl
place_zero o y (z ∷ zs) s = cond-true (ltb 0 (count y)) (at o y.row 0) (place_in o (z ∷ zs) (0 - count y)) (lt-ltb 0 (count y) s.0)

pub next_here : (x : Run) (xs : List Run) → next_in (x ∷ xs) x.row ≡ head_row xs
next_here x xs = cond-true (eqb x.row x.row) (head_row xs) (next_in xs x.row) (eqb_self x.row)

pub next_later : (x : Run) (xs : List Run) (r : ℕ) → (x.row ≡ r → ⊥) → next_in (x ∷ xs) r ≡ next_in xs r
next_later x xs r n = cond-false (eqb x.row r) (head_row xs) (next_in xs r) (ne_eqb x.row r n)

biased_here : (o : ℕ) (x : Run) (xs : List Run) (i : ℕ) → biased_in o (x ∷ xs) x.row i ≡ cond (eqb i (count x)) (or_start (head_row xs) (at o x.row i)) (at o x.row i)
biased_here o x xs i =
    ap (λ c. cond (at_end c i) (or_start (next_in (x ∷ xs) x.row) (at o x.row i)) (at o x.row i)) (count_here x xs)
    ∙ ap (λ c. cond (eqb i (count x)) (or_start c (at o x.row i)) (at o x.row i)) (next_here x xs)

biased_later : (o : ℕ) (x : Run) (xs : List Run) (r i : ℕ) → (x.row ≡ r → ⊥) → biased_in o (x ∷ xs) r i ≡ biased_in o xs r i
biased_later o x xs r i n =
    ap (λ c. cond (at_end c i) (or_start (next_in (x ∷ xs) r) (at o r i)) (at o r i)) (count_later x xs r n)
    ∙ ap (λ c. cond (at_end (count_in xs r) i) (or_start c (at o r i)) (at o r i)) (next_later x xs r n)

pub place_offset : (o : ℕ) (xs : List Run) (r i : ℕ) → Listed xs → Within i (count_in xs r) → place_in o xs (offset_in xs r i) ≡ biased_in o xs r i
place_offset o [] r i s w = absurd w
place_offset o (x ∷ []) r i s w =
    ⊎_elim
    (λ q.
    let e = eqb-true x.row r q in
    let t : place_in o (x ∷ []) (offset_in (x ∷ []) x.row i) ≡ biased_in o (x ∷ []) x.row i =
    ap (at o x.row) (offset_here x [] i) ∙ sym (biased_here o x [] i ∙ cond_both (eqb i (count x)) (at o x.row i) (at o x.row i) (λ p. p ≡ at o x.row i) (λ c. refl) (λ c. refl)) in
    subst (λ n. place_in o (x ∷ []) (offset_in (x ∷ []) n i) ≡ biased_in o (x ∷ []) n i) e t)
    (λ q. absurd (subst (Within i) (cond-false (eqb x.row r) (Some (count x)) None q) w))
    (cases_Bool (eqb x.row r))
place_offset o (x ∷ y ∷ ys) r i s w =
    ⊎_elim
    (λ q.
    let e = eqb-true x.row r q in
    let v : i ≤ count x = subst (Within i) (cond-true (eqb x.row r) (Some (count x)) (count_in (y ∷ ys) r) q) w in
    let t : place_in o (x ∷ y ∷ ys) (offset_in (x ∷ y ∷ ys) x.row i) ≡ biased_in o (x ∷ y ∷ ys) x.row i =
    ap (place_in o (x ∷ y ∷ ys)) (offset_here x (y ∷ ys) i)
    ∙ ⊎_elim
    (λ l. cond-true (ltb i (count x)) (at o x.row i) (place_in o (y ∷ ys) (i - count x)) (lt-ltb i (count x) l)
    ∙ sym (biased_here o x (y ∷ ys) i ∙ cond-false (eqb i (count x)) (or_start (Some (row_id y.row)) (at o x.row i)) (at o x.row i) (ne_eqb i (count x) (omega arith))))
    (λ l.
    let z : i - count x ≡ 0 = omega arith in
    cond-false (ltb i (count x)) (at o x.row i) (place_in o (y ∷ ys) (i - count x)) (le-ltb i (count x) l)
    ∙ ap (place_in o (y ∷ ys)) z ∙ place_zero o y ys s.2
    ∙ sym (biased_here o x (y ∷ ys) i ∙ cond-true (eqb i (count x)) (or_start (Some (row_id y.row)) (at o x.row i)) (at o x.row i) (eq-eqb i (count x) (omega arith))))
    (cases_lt i (count x)) in
    subst (λ n. place_in o (x ∷ y ∷ ys) (offset_in (x ∷ y ∷ ys) n i) ≡ biased_in o (x ∷ y ∷ ys) n i) e t)
    (λ q.
    let n = eqb-false x.row r q in
    let v : Within i (count_in (y ∷ ys) r) = subst (Within i) (count_later x (y ∷ ys) r n) w in
    let k = offset_in (y ∷ ys) r i in
    let z : (count x + k) - count x ≡ k = omega arith in
    ap (place_in o (x ∷ y ∷ ys)) (offset_later x (y ∷ ys) r i n)
    ∙ cond-false (ltb (count x + k) (count x)) (at o x.row (count x + k)) (place_in o (y ∷ ys) ((count x + k) - count x)) (le-ltb (count x + k) (count x) (omega arith))
    ∙ ap (place_in o (y ∷ ys)) z
    ∙ place_offset o (y ∷ ys) r i s.2 v
    ∙ sym (biased_later o x (y ∷ ys) r i n))
    (cases_Bool (eqb x.row r))

-- one character on, in the same run
pub offset_next : (xs : List Run) (r i : ℕ) → Within i (count_in xs r) → offset_in xs r (i + 1) ≡ offset_in xs r i + 1
offset_next [] r i w = absurd w
offset_next (x ∷ xs) r i w =
    ⊎_elim
    (λ q. cond-true (eqb x.row r) (i + 1) (count x + offset_in xs r (i + 1)) q ∙ ap (λ n. n + 1) (sym (cond-true (eqb x.row r) i (count x + offset_in xs r i) q)))
    (λ q.
    let v : Within i (count_in xs r) = subst (Within i) (cond-false (eqb x.row r) (Some (count x)) (count_in xs r) q) w in
    let z = offset_next xs r i v in
    let y : count x + offset_in xs r (i + 1) ≡ (count x + offset_in xs r i) + 1 = omega arith in
    cond-false (eqb x.row r) (i + 1) (count x + offset_in xs r (i + 1)) q ∙ y ∙ ap (λ n. n + 1) (sym (cond-false (eqb x.row r) i (count x + offset_in xs r i) q)))
    (cases_Bool (eqb x.row r))

-- a place is its position, biased to start
pub place_biased : (d : Document) (p : Position) → Sound d → Lawful d p → place d (offset d p) ≡ to_start d p
place_biased d p s l =
    place_offset d.root d.runs p.row.0 p.index s.listed l.1
    ∙ ap (λ o. biased_in o d.runs p.row.0 p.index) (sym l.0)

module _ (d : Document) (p : Position) (n : ℕ) (s : Sound d) (e : p.root.0 ≡ d.root) (c : Some n ≡ count_in d.runs p.row.0) where
  pub lawful_count : p.index ≤ n → Lawful d p
  lawful_count h = (e, subst (Within p.index) c h)

  biases_of : (q : Position) → (h : p.index ≤ n) → cond (eqb p.index n) (or_start (next_in d.runs p.row.0) p) p ≡ q → Answers (Lawful d p) (BiasedStart d p) (Ok q)
  biases_of q h x =
      let l = lawful_count h in
      let b = ap (λ o. cond (at_end o p.index) (or_start (next_in d.runs p.row.0) p) p) (sym c) ∙ x in
      (l, (sym (place_biased d p s l ∙ b), sym b))

  pub biases_inside : p.index < n → Answers (Lawful d p) (BiasedStart d p) (Ok p)
  biases_inside h = biases_of p (omega arith) (cond-false (eqb p.index n) (or_start (next_in d.runs p.row.0) p) p (ne_eqb p.index n (omega arith)))

  pub biases_at_end : p.index ≤ n → n ≤ p.index → Answers (Lawful d p) (BiasedStart d p) (Ok (or_start (next_in d.runs p.row.0) p))
  biases_at_end h i =
      biases_of (or_start (next_in d.runs p.row.0) p) h (cond-true (eqb p.index n) (or_start (next_in d.runs p.row.0) p) p (eq-eqb p.index n (omega arith)))

  pub biases_last : p.index ≤ n → n ≤ p.index → None ≡ next_in d.runs p.row.0 → Answers (Lawful d p) (BiasedStart d p) (Ok p)
  biases_last h i x = subst (λ o. Answers (Lawful d p) (BiasedStart d p) (Ok (or_start o p))) (sym x) (biases_at_end h i)

-- a place at its run's end is the end place
pub place_full : (o : ℕ) (xs : List Run) (k n : ℕ) → Listed xs → k ≤ total_in xs → Some n ≡ count_in xs (place_in o xs k).row.0 → n ≤ (place_in o xs k).index → k ≡ total_in xs
place_full o [] k n s h = absurd s
place_full o (x ∷ []) k n s h = λ c i. let e = some_same n (count x) (c ∙ count_here x []) in omega arith
place_full o (x ∷ y ∷ ys) k n s h =
    cond_both (ltb k (count x)) (at o x.row k) (place_in o (y ∷ ys) (k - count x))
    (λ p. Some n ≡ count_in (x ∷ y ∷ ys) p.row.0 → n ≤ p.index → k ≡ total_in (x ∷ y ∷ ys))
    (λ e c i. let a = ltb-true k (count x) e in let b = some_same n (count x) (c ∙ count_here x (y ∷ ys)) in absurd (omega arith))
    (λ e c i.
    let a = ltb-false k (count x) e in
    let b : k - count x ≤ total_in (y ∷ ys) = omega arith in
    let q = place_in o (y ∷ ys) (k - count x) in
    let w = within_place o (y ∷ ys) (k - count x) s.2 b in
    let m = there (y ∷ ys) x.row q.row.0 q.index s.1 w in
    let z = place_full o (y ∷ ys) (k - count x) n s.2 b (c ∙ count_later x (y ∷ ys) q.row.0 m) i in
    omega arith)

-- one character on in the run
abbrev pub stepped : Position → Position
stepped q = record { root = q.root; row = q.row; index = q.index + 1 }

module _ (d : Document) (p q : Position) (s : Sound d) (l : Lawful d p) (e : q ≡ place d (offset d p)) where
  inside : offset d p ≤ total d
  inside = offset_inside d.runs p.row.0 p.index l.1

  q_lawful : Lawful d q
  q_lawful = subst (Lawful d) (sym e) (root_place d.root d.runs (offset d p), within_place d.root d.runs (offset d p) s.listed inside)

  q_offset : offset d q ≡ offset d p
  q_offset = ap (offset d) e ∙ offset_place d.root d.runs (offset d p) s.listed inside

  pub next_none : None ≡ count_in d.runs q.row.0 → ⊥
  next_none c = subst (Within q.index) (sym c) q_lawful.1

  pub next_end : (n : ℕ) → Some n ≡ count_in d.runs q.row.0 → n ≤ q.index → offset d p ≡ total d
  next_end n c i =
      place_full d.root d.runs (offset d p) n s.listed inside (c ∙ ap (λ t. count_in d.runs t.row.0) e) (subst (λ t. n ≤ t.index) e i)

  pub next_some : (n : ℕ) → Some n ≡ count_in d.runs q.row.0 → q.index < n → (r : Result Position Refusal) → Answers (Lawful d (stepped q)) (BiasedStart d (stepped q)) r → NextPlace d p r
  next_some n c i (Ok t) b =
      let z = offset_next d.runs q.row.0 q.index q_lawful.1 ∙ ap (λ m. m + 1) q_offset in
      let w = offset_inside d.runs q.row.0 (q.index + 1) b.0.1 in
      (l, omega arith, b.1.0 ∙ ap (place d) z)
  next_some n c i (Err x) b =
      let j : q.index + 1 ≤ n = omega arith in
      absurd (b.1 (q_lawful.0, subst (Within (q.index + 1)) c j))

-- the first run's start is the first place
pub first_place : (d : Document) → Sound d → at d.root (first_row d.runs) 0 ≡ place d 0
first_place d s = go d.runs s.listed
  where
    go : (xs : List Run) → Listed xs → at d.root (first_row xs) 0 ≡ place_in d.root xs 0
    go [] h = absurd h
    go (y ∷ ys) h = sym (place_zero d.root y ys h)
