-- A run and its neighbours: where one ends the next begins.
use Rattle.std.proofs.Common.{◌≡◌, ℕ, ◌+◌, ◌<◌, ◌≤◌, eqb, List, [], ◌∷◌, Some, None, sym, refl, ap, ◌∙◌, subst, ⊎_elim, arith}
use Rattle.std.proofs.lemmas.Bool.{eqb-true, cases_Bool, cond_both, cond-true, cond-false}
use Rattle.rows.specs.declared.node.NodeId.{NodeId}
use Rattle.source.specs.Runs.{Run, count, row_id, Listed, count_in, head_row, next_in, previous_in}
use Rattle.source.specs.Pieces.{Within}
use Rattle.position.specs.Places.{offset_in, total_in}
use Rattle.position.proofs.Options.{some_same, not_none, row_same}
use Rattle.position.proofs.Places.{there, count_here, count_later, offset_here, offset_later}

pub offset_add : (xs : List Run) (r i n : ℕ) → Some n ≡ count_in xs r → offset_in xs r i ≡ offset_in xs r 0 + i
offset_add [] r i n c = absurd (not_none n c)
offset_add (x ∷ xs) r i n c =
    ⊎_elim
    (λ q.
    let a = cond-true (eqb x.row r) i (count x + offset_in xs r i) q in
    let b = cond-true (eqb x.row r) 0 (count x + offset_in xs r 0) q in
    omega arith)
    (λ q.
    let a = cond-false (eqb x.row r) i (count x + offset_in xs r i) q in
    let b = cond-false (eqb x.row r) 0 (count x + offset_in xs r 0) q in
    let z = offset_add xs r i n (c ∙ cond-false (eqb x.row r) (Some (count x)) (count_in xs r) q) in
    omega arith)
    (cases_Bool (eqb x.row r))

-- a run's end is the next run's start
pub record Meets (xs : List Run) (r n s : ℕ) : Type 0 where
  pub some : 0 < n
  pub off : offset_in xs s 0 ≡ offset_in xs r 0 + n
  pub has : Within 0 (count_in xs s)

pub meets : (xs : List Run) (r n : ℕ) (s : NodeId) → Listed xs → Some n ≡ count_in xs r → Some s ≡ next_in xs r → Meets xs r n s.0
meets [] r n s h c e = absurd h
meets (x ∷ []) r n s h c e = absurd (not_none s (e ∙ cond_both (eqb x.row r) None None (λ o. o ≡ None) (λ q. refl) (λ q. refl)))
meets (x ∷ y ∷ ys) r n s h c e =
    ⊎_elim
    (λ q.
    let m = row_same s y.row (e ∙ cond-true (eqb x.row r) (Some (row_id y.row)) (next_in (y ∷ ys) r) q) in
    let k = some_same (count x) n (sym (c ∙ cond-true (eqb x.row r) (Some (count x)) (count_in (y ∷ ys) r) q)) in
    let ne : x.row ≡ s.0 → ⊥ = λ z. h.1.0 (sym m ∙ sym z) in
    let z : 0 ≤ count y = omega arith in
    let i = h.0 in
    record {
      some = omega arith;
      off = (let a = cond-true (eqb x.row r) 0 (count x + offset_in (y ∷ ys) r 0) q in let b = offset_later x (y ∷ ys) s.0 0 ne in let f = ap (λ t. offset_in (y ∷ ys) t 0) m ∙ offset_here y ys 0 in omega arith);
      has = subst (Within 0) (sym (count_later x (y ∷ ys) s.0 ne ∙ ap (count_in (y ∷ ys)) m ∙ count_here y ys)) z;
    })
    (λ q.
    let t = meets (y ∷ ys) r n s h.2 (c ∙ cond-false (eqb x.row r) (Some (count x)) (count_in (y ∷ ys) r) q) (e ∙ cond-false (eqb x.row r) (Some (row_id y.row)) (next_in (y ∷ ys) r) q) in
    let ne = there (y ∷ ys) x.row s.0 0 h.1 t.has in
    record {
      some = t.some;
      off = (let a = cond-false (eqb x.row r) 0 (count x + offset_in (y ∷ ys) r 0) q in let b = offset_later x (y ∷ ys) s.0 0 ne in let f = t.off in omega arith);
      has = subst (Within 0) (sym (count_later x (y ∷ ys) s.0 ne)) t.has;
    })
    (cases_Bool (eqb x.row r))

-- the end of a run that none follows is the end place
pub meets_end : (xs : List Run) (r n : ℕ) → Some n ≡ count_in xs r → None ≡ next_in xs r → offset_in xs r 0 + n ≡ total_in xs
meets_end [] r n c e = absurd (not_none n c)
meets_end (x ∷ xs) r n c e =
    ⊎_elim
    (λ q.
    let a = cond-true (eqb x.row r) 0 (count x + offset_in xs r 0) q in
    let k = some_same (count x) n (sym (c ∙ cond-true (eqb x.row r) (Some (count x)) (count_in xs r) q)) in
    let z = alone xs (e ∙ cond-true (eqb x.row r) (head_row xs) (next_in xs r) q) in
    omega arith)
    (λ q.
    let a = cond-false (eqb x.row r) 0 (count x + offset_in xs r 0) q in
    let z = meets_end xs r n (c ∙ cond-false (eqb x.row r) (Some (count x)) (count_in xs r) q) (e ∙ cond-false (eqb x.row r) (head_row xs) (next_in xs r) q) in
    omega arith)
    (cases_Bool (eqb x.row r))
  where
    alone : (l : List Run) → None ≡ head_row l → total_in l ≡ 0
    alone [] e = refl
    alone (y ∷ ys) e = absurd (not_none (row_id y.row) (sym e))

-- the run before the run of row s
pub record Before (xs : List Run) (r s : ℕ) : Type 0 where
  pub size : ℕ
  pub sized : Some size ≡ count_in xs r
  pub some : 0 < size
  pub meets : offset_in xs r size ≡ offset_in xs s 0
  pub has : Within 0 (count_in xs s)

pub before : (xs : List Run) (r : NodeId) (s : ℕ) → Listed xs → Some r ≡ previous_in xs s → Before xs r.0 s
before [] r s h e = absurd h
before (x ∷ []) r s h e = absurd (not_none r e)
before (x ∷ y ∷ ys) r s h e =
    ⊎_elim
    (λ q.
    let k = eqb-true y.row s q in
    let m = row_same r x.row (e ∙ cond-true (eqb y.row s) (Some (row_id x.row)) (previous_in (y ∷ ys) s) q) in
    let ne : x.row ≡ y.row → ⊥ = λ z. h.1.0 (sym z) in
    let p : 0 ≤ count y = omega arith in
    let base : Before (x ∷ y ∷ ys) x.row y.row = record {
      size = count x;
      sized = sym (count_here x (y ∷ ys));
      some = h.0;
      meets = (let a = offset_here x (y ∷ ys) (count x) in let b = offset_later x (y ∷ ys) y.row 0 ne in let c = offset_here y ys 0 in omega arith);
      has = subst (Within 0) (sym (count_later x (y ∷ ys) y.row ne ∙ count_here y ys)) p;
    } in
    subst (λ t. Before (x ∷ y ∷ ys) t s) (sym m) (subst (λ t. Before (x ∷ y ∷ ys) x.row t) k base))
    (λ q.
    let b = before (y ∷ ys) r s h.2 (e ∙ cond-false (eqb y.row s) (Some (row_id x.row)) (previous_in (y ∷ ys) s) q) in
    let z : 0 ≤ b.size = omega arith in
    let nr = there (y ∷ ys) x.row r.0 0 h.1 (subst (Within 0) b.sized z) in
    let ns = there (y ∷ ys) x.row s 0 h.1 b.has in
    record {
      size = b.size;
      sized = b.sized ∙ sym (count_later x (y ∷ ys) r.0 nr);
      some = b.some;
      meets = offset_later x (y ∷ ys) r.0 b.size nr ∙ ap (λ n. count x + n) b.meets ∙ sym (offset_later x (y ∷ ys) s 0 ns);
      has = subst (Within 0) (sym (count_later x (y ∷ ys) s ns)) b.has;
    })
    (cases_Bool (eqb y.row s))

-- no run before it: the first run
pub first_of : (xs : List Run) (s : ℕ) → Within 0 (count_in xs s) → None ≡ previous_in xs s → offset_in xs s 0 ≡ 0
first_of [] s w e = absurd w
first_of (x ∷ []) s w e =
    ⊎_elim
    (λ q. cond-true (eqb x.row s) 0 (count x + 0) q)
    (λ q. absurd (subst (Within 0) (cond-false (eqb x.row s) (Some (count x)) None q) w))
    (cases_Bool (eqb x.row s))
first_of (x ∷ y ∷ ys) s w e =
    ⊎_elim
    (λ q. cond-true (eqb x.row s) 0 (count x + offset_in (y ∷ ys) s 0) q)
    (λ q. absurd (later (y ∷ ys) x s (subst (Within 0) (cond-false (eqb x.row s) (Some (count x)) (count_in (y ∷ ys) s) q) w) e))
    (cases_Bool (eqb x.row s))
  where
    later : (l : List Run) (x : Run) (s : ℕ) → Within 0 (count_in l s) → None ≡ previous_in (x ∷ l) s → ⊥
    later [] x s w e = w
    later (y ∷ ys) x s w e =
        ⊎_elim
        (λ q. not_none (row_id x.row) (sym (e ∙ cond-true (eqb y.row s) (Some (row_id x.row)) (previous_in (y ∷ ys) s) q)))
        (λ q. later ys y s (subst (Within 0) (cond-false (eqb y.row s) (Some (count y)) (count_in ys s) q) w) (e ∙ cond-false (eqb y.row s) (Some (row_id x.row)) (previous_in (y ∷ ys) s) q))
        (cases_Bool (eqb y.row s))
