-- Along a line: each joined run has the same line end as the next one.
use Rattle.std.proofs.Common.{◌≡◌, ℕ, ◌+◌, ◌-◌, ◌<◌, ◌≤◌, true, false, eqb, List, [], ◌∷◌, Some, None, sym, refl, ap, ◌∙◌, subst, ⊎_elim, arith}
use Rattle.std.proofs.lemmas.Bool.{eqb-true, eqb-false, eq-eqb, ne_eqb, cases_Bool, cond_both, cond-true, cond-false}
use Rattle.rows.specs.declared.node.NodeId.{NodeId}
use Rattle.source.specs.Runs.{Run, Document, Sound, count, row_id, Listed, count_in, next_in, joined_in}
use Rattle.source.specs.Pieces.{Within}
use Rattle.position.specs.declared.position.Position.{Position}
use Rattle.position.specs.Places.{Lawful, offset_in, offset, total, at, size_of, place, to_start}
use Rattle.starts.specs.Starts.{yes, joins}
use Rattle.position.proofs.Options.{some_same, not_none, row_same, count_of, within_zero}
use Rattle.position.proofs.Places.{there, count_here, count_later, offset_later, offset_inside, root_place, within_place}
use Rattle.position.proofs.Neighbours.{meets}
use Rattle.moves.specs.Lines.{head_line, line_end_in, end_of, EndsLine}

head_here : (x : Run) (xs : List Run) → line_end_in (x ∷ xs) x.row ≡ head_line (x ∷ xs)
head_here x xs = cond-true (eqb x.row x.row) (head_line (x ∷ xs)) (line_end_in xs x.row) (eq-eqb x.row x.row refl)

head_later : (x : Run) (xs : List Run) (r : ℕ) → (x.row ≡ r → ⊥) → line_end_in (x ∷ xs) r ≡ line_end_in xs r
head_later x xs r n = cond-false (eqb x.row r) (head_line (x ∷ xs)) (line_end_in xs r) (ne_eqb x.row r n)

joins_here : (x : Run) (xs : List Run) (r : ℕ) → eqb x.row r ≡ true → joins (x ∷ xs) r ≡ x.joined
joins_here x xs r q = ap yes (cond-true (eqb x.row r) (Some x.joined) (joined_in xs r) q)

joins_later : (x : Run) (xs : List Run) (r : ℕ) → eqb x.row r ≡ false → joins (x ∷ xs) r ≡ joins xs r
joins_later x xs r q = ap yes (cond-false (eqb x.row r) (Some x.joined) (joined_in xs r) q)

-- the last run is joined to none
pub last_ends : (xs : List Run) (r : ℕ) → Listed xs → None ≡ next_in xs r → joins xs r ≡ false
last_ends [] r h e = refl
last_ends (x ∷ []) r h e = ⊎_elim (λ q. joins_here x [] r q ∙ h) (λ q. joins_later x [] r q) (cases_Bool (eqb x.row r))
last_ends (x ∷ y ∷ ys) r h e =
    ⊎_elim
    (λ q. absurd (not_none (row_id y.row) (sym (e ∙ cond-true (eqb x.row r) (Some (row_id y.row)) (next_in (y ∷ ys) r) q))))
    (λ q. joins_later x (y ∷ ys) r q ∙ last_ends (y ∷ ys) r h.2 (e ∙ cond-false (eqb x.row r) (Some (row_id y.row)) (next_in (y ∷ ys) r) q))
    (cases_Bool (eqb x.row r))

-- a run that is joined to none ends its line
pub line_stop : (xs : List Run) (r : ℕ) → Within 0 (count_in xs r) → joins xs r ≡ false → line_end_in xs r ≡ r
line_stop [] r w j = absurd w
line_stop (x ∷ []) r w j =
    ⊎_elim
    (λ q. cond-true (eqb x.row r) x.row 0 q ∙ eqb-true x.row r q)
    (λ q. absurd (subst (Within 0) (cond-false (eqb x.row r) (Some (count x)) None q) w))
    (cases_Bool (eqb x.row r))
line_stop (x ∷ y ∷ ys) r w j =
    ⊎_elim
    (λ q.
    cond-true (eqb x.row r) (head_line (x ∷ y ∷ ys)) (line_end_in (y ∷ ys) r) q
    ∙ cond-false x.joined (head_line (y ∷ ys)) x.row (sym (joins_here x (y ∷ ys) r q) ∙ j)
    ∙ eqb-true x.row r q)
    (λ q.
    cond-false (eqb x.row r) (head_line (x ∷ y ∷ ys)) (line_end_in (y ∷ ys) r) q
    ∙ line_stop (y ∷ ys) r (subst (Within 0) (cond-false (eqb x.row r) (Some (count x)) (count_in (y ∷ ys) r) q) w) (sym (joins_later x (y ∷ ys) r q) ∙ j))
    (cases_Bool (eqb x.row r))

-- a joined run ends where the next one does
pub line_on : (xs : List Run) (r n : ℕ) (t : NodeId) → Listed xs → Some n ≡ count_in xs r → joins xs r ≡ true → Some t ≡ next_in xs r → line_end_in xs r ≡ line_end_in xs t.0
line_on [] r n t h c j e = absurd h
line_on (x ∷ []) r n t h c j e = absurd (not_none t (e ∙ cond_both (eqb x.row r) None None (λ o. o ≡ None) (λ q. refl) (λ q. refl)))
line_on (x ∷ y ∷ ys) r n t h c j e =
    ⊎_elim
    (λ q.
    let m = row_same t y.row (e ∙ cond-true (eqb x.row r) (Some (row_id y.row)) (next_in (y ∷ ys) r) q) in
    cond-true (eqb x.row r) (head_line (x ∷ y ∷ ys)) (line_end_in (y ∷ ys) r) q
    ∙ cond-true x.joined (head_line (y ∷ ys)) x.row (sym (joins_here x (y ∷ ys) r q) ∙ j)
    ∙ sym (head_later x (y ∷ ys) t.0 (λ z. h.1.0 (sym m ∙ sym z)) ∙ ap (line_end_in (y ∷ ys)) m ∙ head_here y ys))
    (λ q.
    let e' = e ∙ cond-false (eqb x.row r) (Some (row_id y.row)) (next_in (y ∷ ys) r) q in
    let c' = c ∙ cond-false (eqb x.row r) (Some (count x)) (count_in (y ∷ ys) r) q in
    let w = (meets (y ∷ ys) r n t h.2 c' e').has in
    cond-false (eqb x.row r) (head_line (x ∷ y ∷ ys)) (line_end_in (y ∷ ys) r) q
    ∙ line_on (y ∷ ys) r n t h.2 c' (sym (joins_later x (y ∷ ys) r q) ∙ j) e'
    ∙ sym (head_later x (y ∷ ys) t.0 (there (y ∷ ys) x.row t.0 0 h.1 w)))
    (cases_Bool (eqb x.row r))

-- the line's last run is one of the list, joined to none, and neither starts nor ends before the run
pub record Last (xs : List Run) (r n : ℕ) : Type 0 where
  pub size : ℕ
  pub sized : Some size ≡ count_in xs (line_end_in xs r)
  pub starts : offset_in xs r 0 ≤ offset_in xs (line_end_in xs r) 0
  pub ends : offset_in xs r 0 + n ≤ offset_in xs (line_end_in xs r) 0 + size

last_later : (x : Run) (ys : List Run) (r n : ℕ) → Listed (x ∷ ys) → (x.row ≡ r → ⊥) → (l : Last ys r n) → (x.row ≡ line_end_in ys r → ⊥) → Last (x ∷ ys) r n
last_later x ys r n h ne l nl =
    let e = head_later x ys r ne in
    let a = offset_later x ys r 0 ne in
    let b = offset_later x ys (line_end_in ys r) 0 nl in
    let c = ap (λ t. offset_in (x ∷ ys) t 0) e in
    let s = l.starts in
    let t = l.ends in
    record {
      size = l.size;
      sized = l.sized ∙ sym (count_later x ys (line_end_in ys r) nl) ∙ ap (count_in (x ∷ ys)) (sym e);
      starts = omega arith;
      ends = omega arith;
    }

pub last_of : (xs : List Run) (r n : ℕ) → Listed xs → Some n ≡ count_in xs r → Last xs r n
last_of [] r n h c = absurd h
last_of (x ∷ []) r n h c =
    ⊎_elim
    (λ q.
    let k = eqb-true x.row r q in
    let e : line_end_in (x ∷ []) r ≡ r = cond-true (eqb x.row r) x.row 0 q ∙ k in
    let a = ap (λ t. offset_in (x ∷ []) t 0) e in
    record { size = n; sized = c ∙ ap (count_in (x ∷ [])) (sym e); starts = omega arith; ends = omega arith })
    (λ q. absurd (not_none n (c ∙ cond-false (eqb x.row r) (Some (count x)) None q)))
    (cases_Bool (eqb x.row r))
last_of (x ∷ y ∷ ys) r n h c =
    ⊎_elim
    (λ q.
    let k = eqb-true x.row r q in
    let here = cond-true (eqb x.row r) (head_line (x ∷ y ∷ ys)) (line_end_in (y ∷ ys) r) q in
    ⊎_elim
    (λ j.
    let l = last_of (y ∷ ys) y.row (count y) h.2 (sym (count_here y ys)) in
    let f = line_end_in (y ∷ ys) y.row in
    let z : 0 ≤ l.size = omega arith in
    let nl = there (y ∷ ys) x.row f 0 h.1 (subst (Within 0) l.sized z) in
    let e : line_end_in (x ∷ y ∷ ys) r ≡ f = here ∙ cond-true x.joined (head_line (y ∷ ys)) x.row j ∙ sym (head_here y ys) in
    let a = ap (λ t. offset_in (x ∷ y ∷ ys) t 0) e in
    let b = offset_later x (y ∷ ys) f 0 nl in
    let o = cond-true (eqb x.row r) 0 (count x + offset_in (y ∷ ys) r 0) q in
    let m = some_same (count x) n (sym (c ∙ cond-true (eqb x.row r) (Some (count x)) (count_in (y ∷ ys) r) q)) in
    record {
      size = l.size;
      sized = l.sized ∙ sym (count_later x (y ∷ ys) f nl) ∙ ap (count_in (x ∷ y ∷ ys)) (sym e);
      starts = omega arith;
      ends = omega arith;
    })
    (λ j.
    let e : line_end_in (x ∷ y ∷ ys) r ≡ r = here ∙ cond-false x.joined (head_line (y ∷ ys)) x.row j ∙ k in
    let a = ap (λ t. offset_in (x ∷ y ∷ ys) t 0) e in
    record { size = n; sized = c ∙ ap (count_in (x ∷ y ∷ ys)) (sym e); starts = omega arith; ends = omega arith })
    (cases_Bool x.joined))
    (λ q.
    let l = last_of (y ∷ ys) r n h.2 (c ∙ cond-false (eqb x.row r) (Some (count x)) (count_in (y ∷ ys) r) q) in
    let z : 0 ≤ l.size = omega arith in
    last_later x (y ∷ ys) r n h (eqb-false x.row r q) l (there (y ∷ ys) x.row (line_end_in (y ∷ ys) r) 0 h.1 (subst (Within 0) l.sized z)))
    (cases_Bool (eqb x.row r))

module _ (d : Document) (s : Sound d) where
  -- where the walk begins
  pub begins : (p q : Position) → Lawful d p → q ≡ place d (offset d p) → Within 0 (count_in d.runs q.row.0)
  begins p q l e =
      let h = offset_inside d.runs p.row.0 p.index l.1 in
      within_zero q.index (count_in d.runs q.row.0) (subst (λ t. Within t.index (count_in d.runs t.row.0)) (sym e) (within_place d.root d.runs (offset d p) s.listed h))

  pub row_on : (row : ℕ) (t : NodeId) → Within 0 (count_in d.runs row) → Some t ≡ next_in d.runs row → Within 0 (count_in d.runs t.0)
  row_on row t w e = let c = count_of 0 (count_in d.runs row) w in (meets d.runs row c.0 t s.listed c.1 e).has

  pub row_falls : (row : ℕ) (t : NodeId) → Within 0 (count_in d.runs row) → Some t ≡ next_in d.runs row → total d - offset_in d.runs t.0 0 < total d - offset_in d.runs row 0
  row_falls row t w e =
      let c = count_of 0 (count_in d.runs row) w in
      let m = meets d.runs row c.0 t s.listed c.1 e in
      let o = m.off in
      let z = m.some in
      let i = offset_inside d.runs t.0 0 m.has in
      omega arith

  pub row_line : (row : ℕ) (t : NodeId) → Within 0 (count_in d.runs row) → joins d.runs row ≡ true → Some t ≡ next_in d.runs row → line_end_in d.runs row ≡ line_end_in d.runs t.0
  row_line row t w j e = let c = count_of 0 (count_in d.runs row) w in line_on d.runs row c.0 t s.listed c.1 j e

  -- where it ends
  pub line_found : (p q : Position) (row : NodeId) (n : ℕ) → Lawful d p → (q ≡ place d (offset d p)) × (q ≡ to_start d p) → line_end_in d.runs q.row.0 ≡ line_end_in d.runs row.0 → Within 0 (count_in d.runs row.0) → joins d.runs row.0 ≡ false → Some n ≡ count_in d.runs row.0 → EndsLine d p (record { root = q.root; row = row; index = n })
  line_found p q row n l b i w j c =
      let r : q.root.0 ≡ d.root = ap (λ t. t.root.0) b.0 ∙ root_place d.root d.runs (offset d p) in
      let e : row.0 ≡ line_end_in d.runs (to_start d p).row.0 = sym (line_stop d.runs row.0 w j) ∙ sym i ∙ ap (λ t. line_end_in d.runs t.row.0) b.1 in
      ap (at q.root.0 row.0) (ap size_of c) ∙ ap (λ o. at o row.0 (size_of (count_in d.runs row.0))) r ∙ ap (end_of d) e
