-- Counting lines along a walk.
use Rattle.std.proofs.Common.{◌≡◌, ℕ, zero, suc, ◌+◌, ◌-◌, ◌<◌, ◌≤◌, Bool, true, false, cond, eqb, List, [], ◌∷◌, length, Some, None, Option, sym, refl, ap, ◌∙◌, subst, ⊎_elim, arith}
use Rattle.std.proofs.lemmas.Bool.{eq-eqb, ne_eqb, cases_Bool, cond_both, cond-true, cond-false}
use Rattle.rows.specs.declared.node.NodeId.{NodeId}
use Rattle.source.specs.Runs.{Run, Document, Sound, count, row_id, Listed, count_in, next_in, first_row, joined_in}
use Rattle.source.specs.Pieces.{Within}
use Rattle.position.specs.declared.position.Position.{Position}
use Rattle.position.specs.Places.{Lawful, at, at_end, or_start, to_start}
use Rattle.starts.specs.Starts.{yes, joins}
use Rattle.position.proofs.Options.{not_none, row_same, count_of}
use Rattle.position.proofs.Places.{count_later, there}
use Rattle.position.proofs.Neighbours.{meets}
use Rattle.moves.specs.Lines.{line_end_in, end_of, EndsLine}
use Rattle.moves.proofs.Lines.{last_ends}
use Rattle.index.specs.LineIndexes.{ends, lines_before, line_count, line_from, Starts, Ranges}
use Rattle.index.proofs.Walks.{suffix, suffix_first, first_within, Here, here_of, then_at, last_at, ahead_here}

-- no line ends where a run is joined to the next, and one where it is not
abbrev one_unless : Bool → ℕ
one_unless j = cond j 0 1

abbrev pub ends_in : List Run → ℕ → ℕ
ends_in xs r = one_unless (joins xs r)

ends_none : (x : Run) → x.joined ≡ true → ends x ≡ 0
ends_none x q = ap one_unless q

ends_one : (x : Run) → x.joined ≡ false → ends x ≡ 1
ends_one x q = ap one_unless q

-- what the walk to a position keeps
pub record Counts (xs : List Run) (p i r acc : ℕ) : Type 0 where
  pub sum : acc + lines_before (suffix xs r) p ≡ lines_before xs p
  pub ahead : Within i (count_in (suffix xs r) p)
  pub room : acc + length (suffix xs r) ≤ length xs

pub counts_first : (xs : List Run) (p i : ℕ) → Within i (count_in xs p) → Counts xs p i (first_row xs) 0
counts_first xs p i w =
    let e = suffix_first xs in
    let a = ap (λ l. lines_before l p) e in
    let b = ap length e in
    record { sum = omega arith; ahead = subst (λ l. Within i (count_in l p)) (sym e) w; room = omega arith }

module _ (d : Document) (s : Sound d) (p i r acc v : ℕ) (w : Counts d.runs p i r acc) (e : v ≡ ends_in d.runs r) where
  at_run : Here d.runs r
  at_run = here_of d.runs r 0 s.runs (ahead_here d.runs r p i w.ahead)

  pub counts_more : (t : NodeId) → (v ≤ 1) → (r ≡ p → ⊥) → Some t ≡ next_in d.runs r → Counts d.runs p i t.0 (acc + v)
  counts_more t small ne x =
      let h = at_run in
      let y = h.here in
      let l = h.rest in
      let n' : y.row ≡ p → ⊥ = λ z. ne (sym h.row ∙ z) in
      let k = then_at d.runs r h t s.listed x in
      let a = ap (λ m. lines_before m p) h.at ∙ cond-false (eqb y.row p) 0 (ends y + lines_before l p) (ne_eqb y.row p n') in
      let b = ap (λ m. lines_before m p) k in
      let f : ends_in d.runs r ≡ ends y = ap one_unless h.joined in
      let g = w.sum in
      let o = w.room in
      let lx = ap length h.at in
      let ly = ap length k in
      record {
        sum = omega arith;
        ahead = subst (λ m. Within i (count_in m p)) (sym k) (subst (Within i) (count_later y l p n') (subst (λ m. Within i (count_in m p)) h.at w.ahead));
        room = omega arith;
      }

pub counts_end : (d : Document) → Sound d → (p i r acc : ℕ) → Counts d.runs p i r acc → r ≡ p → acc ≡ lines_before d.runs p
counts_end d s p i r acc w e =
    let h = here_of d.runs r 0 s.runs (ahead_here d.runs r p i w.ahead) in
    let y = h.here in
    let a = ap (λ m. lines_before m p) h.at ∙ cond-true (eqb y.row p) 0 (ends y + lines_before h.rest p) (eq-eqb y.row p (h.row ∙ e)) in
    let g = w.sum in
    omega arith

-- one run on, the lines before are those and the one that ends with the run
lines_next : (xs : List Run) (r n : ℕ) (t : NodeId) → Listed xs → Some n ≡ count_in xs r → Some t ≡ next_in xs r → lines_before xs t.0 ≡ lines_before xs r + ends_in xs r
lines_next [] r n t h c e = absurd h
lines_next (x ∷ []) r n t h c e = absurd (not_none t (e ∙ cond_both (eqb x.row r) None None (λ o. o ≡ None) (λ q. refl) (λ q. refl)))
lines_next (x ∷ y ∷ ys) r n t h c e =
    ⊎_elim
    (λ q.
    let m = row_same t y.row (e ∙ cond-true (eqb x.row r) (Some (row_id y.row)) (next_in (y ∷ ys) r) q) in
    let ne : x.row ≡ t.0 → ⊥ = λ z. h.1.0 (sym m ∙ sym z) in
    let a = cond-false (eqb x.row t.0) 0 (ends x + lines_before (y ∷ ys) t.0) (ne_eqb x.row t.0 ne) in
    let b = cond-true (eqb y.row t.0) 0 (ends y + lines_before ys t.0) (eq-eqb y.row t.0 (sym m)) in
    let f = cond-true (eqb x.row r) 0 (ends x + lines_before (y ∷ ys) r) q in
    let g : ends_in (x ∷ y ∷ ys) r ≡ ends x = ap (λ j. one_unless (yes j)) (cond-true (eqb x.row r) (Some x.joined) (joined_in (y ∷ ys) r) q) in
    omega arith)
    (λ q.
    let e' = e ∙ cond-false (eqb x.row r) (Some (row_id y.row)) (next_in (y ∷ ys) r) q in
    let c' = c ∙ cond-false (eqb x.row r) (Some (count x)) (count_in (y ∷ ys) r) q in
    let ne = there (y ∷ ys) x.row t.0 0 h.1 (meets (y ∷ ys) r n t h.2 c' e').has in
    let a = cond-false (eqb x.row t.0) 0 (ends x + lines_before (y ∷ ys) t.0) (ne_eqb x.row t.0 ne) in
    let f = cond-false (eqb x.row r) 0 (ends x + lines_before (y ∷ ys) r) q in
    let g : ends_in (x ∷ y ∷ ys) r ≡ ends_in (y ∷ ys) r = ap (λ j. one_unless (yes j)) (cond-false (eqb x.row r) (Some x.joined) (joined_in (y ∷ ys) r) q) in
    let z = lines_next (y ∷ ys) r n t h.2 c' e' in
    omega arith)
    (cases_Bool (eqb x.row r))

-- a list of runs has a line
some_lines : (xs : List Run) → Listed xs → 0 < line_count xs
some_lines [] h = absurd h
some_lines (x ∷ []) h = let a = ends_one x h in omega arith
some_lines (x ∷ y ∷ ys) h = let a = some_lines (y ∷ ys) h.2 in omega arith

lines_left : (xs : List Run) (r i : ℕ) → Listed xs → Within i (count_in xs r) → 0 < line_count (suffix xs r)
lines_left [] r i h w = absurd w
lines_left (x ∷ []) r i h w =
    cond_both (eqb x.row r) (x ∷ []) [] (λ l. Within i (count_in (x ∷ []) r) → 0 < line_count l)
    (λ q v. some_lines (x ∷ []) h)
    (λ q v. absurd (subst (Within i) (cond-false (eqb x.row r) (Some (count x)) None q) v)) w
lines_left (x ∷ y ∷ ys) r i h w =
    cond_both (eqb x.row r) (x ∷ y ∷ ys) (suffix (y ∷ ys) r) (λ l. 0 < line_count l)
    (λ q. some_lines (x ∷ y ∷ ys) h)
    (λ q. lines_left (y ∷ ys) r i h.2 (subst (Within i) (cond-false (eqb x.row r) (Some (count x)) (count_in (y ∷ ys) r) q) w))

-- what the walk to a line's start keeps
pub record Finding (d : Document) (k r left : ℕ) : Type 0 where
  pub within : Within 0 (count_in d.runs r)
  pub from : line_from d.runs k ≡ line_from (suffix d.runs r) left
  pub passed : lines_before d.runs r + left ≡ k
  pub counted : k + line_count (suffix d.runs r) ≡ left + line_count d.runs

before_first : (xs : List Run) → lines_before xs (first_row xs) ≡ 0
before_first [] = refl
before_first (x ∷ xs) = cond-true (eqb x.row x.row) 0 (ends x + lines_before xs x.row) (eq-eqb x.row x.row refl)

line_step : (x : Run) (xs : List Run) (left : ℕ) → 0 < left → line_from (x ∷ xs) left ≡ line_from xs (left - ends x)
line_step x xs zero h = absurd (omega arith)
line_step x xs (suc m) h =
    ⊎_elim
    (λ q.
    let z : suc m - ends x ≡ suc m = (let a = ends_none x q in omega arith) in
    cond-true x.joined (line_from xs (suc m)) (line_from xs m) q ∙ ap (line_from xs) (sym z))
    (λ q.
    let z : suc m - ends x ≡ m = (let a = ends_one x q in omega arith) in
    cond-false x.joined (line_from xs (suc m)) (line_from xs m) q ∙ ap (line_from xs) (sym z))
    (cases_Bool x.joined)

module _ (d : Document) (s : Sound d) where
  pub finding_first : (k : ℕ) → Finding d k (first_row d.runs) k
  finding_first k =
      let e = suffix_first d.runs in
      let a = before_first d.runs in
      let b = ap line_count e in
      record {
        within = first_within d.runs s.listed;
        from = ap (λ l. line_from l k) (sym e);
        passed = omega arith;
        counted = omega arith;
      }

  module _ (k r left : ℕ) (w : Finding d k r left) where
    here_now : Here d.runs r
    here_now = here_of d.runs r 0 s.runs w.within

    pub finding_more : (v : ℕ) (t : NodeId) → 0 < left → v ≤ 1 → v ≡ ends_in d.runs r → Some t ≡ next_in d.runs r → Finding d k t.0 (left - v)
    finding_more v t h small e x =
        let y = here_now in
        let c = count_of 0 (count_in d.runs r) w.within in
        let n = then_at d.runs r y t s.listed x in
        let j : v ≡ ends y.here = e ∙ ap one_unless y.joined in
        let a = ap line_count y.at in
        let b = ap line_count n in
        let f = lines_next d.runs r c.0 t s.listed c.1 x in
        let g = w.passed in
        let o = w.counted in
        record {
          within = (meets d.runs r c.0 t s.listed c.1 x).has;
          from = w.from ∙ ap (λ l. line_from l left) y.at ∙ line_step y.here y.rest left h
              ∙ ap (λ m. line_from y.rest (left - m)) (sym j) ∙ ap (λ l. line_from l (left - v)) (sym n);
          passed = omega arith;
          counted = omega arith;
        }

    pub finding_none : 0 < left → None ≡ next_in d.runs r → line_count d.runs ≤ k
    finding_none h x =
        let y = here_now in
        let a = ap line_count (last_at d.runs r y x) in
        let j = ends_one y.here (sym y.joined ∙ last_ends d.runs r s.listed x) in
        let o = w.counted in
        omega arith

    pub finding_found : left ≤ 0 → Starts d k r
    finding_found h =
        let y = here_now in
        let z : left ≡ 0 = omega arith in
        let l = lines_left d.runs r 0 s.listed w.within in
        let o = w.counted in
        let g = w.passed in
        record {
          inside = omega arith;
          within = w.within;
          opens = sym (ap first_row (w.from ∙ ap (line_from (suffix d.runs r)) z ∙ y.at) ∙ y.row);
          passed = omega arith;
        }

  -- a run's start, biased to start, stays in its run
  start_stays : (r n : ℕ) → Some n ≡ count_in d.runs r → (to_start d (at d.root r 0)).row.0 ≡ r
  start_stays r n c = by_next (next_in d.runs r) refl
    where
      by_next : (o : Option NodeId) → o ≡ next_in d.runs r → (to_start d (at d.root r 0)).row.0 ≡ r
      by_next None e = ap (λ o. (cond (at_end (count_in d.runs r) 0) (or_start o (at d.root r 0)) (at d.root r 0)).row.0) (sym e)
          ∙ cond_both (at_end (count_in d.runs r) 0) (at d.root r 0) (at d.root r 0) (λ q. q.row.0 ≡ r) (λ q. refl) (λ q. refl)
      by_next (Some t) e =
          let m = (meets d.runs r n t s.listed c e).some in
          ap (λ o. (cond (at_end o 0) (or_start (next_in d.runs r) (at d.root r 0)) (at d.root r 0)).row.0) (sym c)
          ∙ ap (λ q. q.row.0) (cond-false (eqb 0 n) (or_start (next_in d.runs r) (at d.root r 0)) (at d.root r 0) (ne_eqb 0 n (omega arith)))

  pub start_lawful : (r : ℕ) → Within 0 (count_in d.runs r) → Lawful d (at d.root r 0)
  start_lawful r w = (refl, w)

  pub range_is : (k r : ℕ) (q : Position) → Starts d k r → EndsLine d (at d.root r 0) q → Ranges d k (at d.root r 0) q
  range_is k r q w e =
      let c = count_of 0 (count_in d.runs r) w.within in
      record {
        first = w;
        start_is = ap (λ t. at d.root t 0) w.opens;
        end_is = e ∙ ap (λ t. end_of d (line_end_in d.runs t)) (start_stays r c.0 c.1 ∙ w.opens);
      }
