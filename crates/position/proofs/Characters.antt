-- One place back, and the places of the document's edges.
use Rattle.std.proofs.Common.{◌≡◌, ℕ, ◌+◌, ◌-◌, ◌<◌, ◌≤◌, cond, eqb, ltb, List, [], ◌∷◌, Some, None, Ok, sym, refl, ap, ◌∙◌, subst, arith}
use Rattle.std.proofs.lemmas.Bool.{eq-eqb, ne_eqb, le-ltb, cond-true, cond-false}
use Rattle.rows.specs.declared.node.NodeId.{NodeId}
use Rattle.source.specs.Runs.{Run, Document, Sound, count, Listed, count_in, next_in, previous_in, last_row}
use Rattle.source.specs.Pieces.{Within}
use Rattle.position.specs.declared.position.Position.{Position}
use Rattle.position.specs.Places.{Lawful, offset_in, total_in, offset, total, at, place, place_in, or_start, or_end, size_of, at_end, to_end, document_end, BiasedEnd, PreviousPlace}
use Rattle.position.proofs.Options.{some_same, not_none, count_of}
use Rattle.position.proofs.Places.{offset_next, offset_inside, offset_place, within_place, root_place, place_biased, count_here, count_later, there}
use Rattle.position.proofs.Neighbours.{before, first_of}

-- a position inside its run is a place
pub stays : (d : Document) (t : Position) (n : ℕ) → Sound d → t.root.0 ≡ d.root → Some n ≡ count_in d.runs t.row.0 → t.index < n → place d (offset d t) ≡ t
stays d t n s e c i =
    let j : t.index ≤ n = omega arith in
    place_biased d t s (e, subst (Within t.index) c j)
    ∙ ap (λ o. cond (at_end o t.index) (or_start (next_in d.runs t.row.0) t) t) (sym c)
    ∙ cond-false (eqb t.index n) (or_start (next_in d.runs t.row.0) t) t (ne_eqb t.index n (omega arith))

module _ (d : Document) (p q : Position) (s : Sound d) (l : Lawful d p) (e : q ≡ place d (offset d p)) where
  inside : offset d p ≤ total d
  inside = offset_inside d.runs p.row.0 p.index l.1

  q_lawful : Lawful d q
  q_lawful = subst (Lawful d) (sym e) (root_place d.root d.runs (offset d p), within_place d.root d.runs (offset d p) s.listed inside)

  q_offset : offset d q ≡ offset d p
  q_offset = ap (offset d) e ∙ offset_place d.root d.runs (offset d p) s.listed inside

  -- a position t, inside its run, whose end of character is the place
  back_to : (t : Position) (n : ℕ) → t.root.0 ≡ d.root → Some n ≡ count_in d.runs t.row.0 → t.index < n → offset_in d.runs t.row.0 (t.index + 1) ≡ offset d p → PreviousPlace d p (Ok t)
  back_to t n r c i z =
      let j : t.index ≤ n = omega arith in
      let a = offset_next d.runs t.row.0 t.index (subst (Within t.index) c j) in
      let b : offset d t ≡ offset d p - 1 = omega arith in
      (l, omega arith, sym (stays d t n s r c i) ∙ ap (place d) b)

  pub back_inside : 0 < q.index → PreviousPlace d p (Ok (record { root = q.root; row = q.row; index = q.index - 1 }))
  back_inside h =
      let c = count_of q.index (count_in d.runs q.row.0) q_lawful.1 in
      let k = c.2 in
      let f : (q.index - 1) + 1 ≡ q.index = omega arith in
      back_to (record { root = q.root; row = q.row; index = q.index - 1 }) c.0 q_lawful.0 c.1 (omega arith)
      (ap (offset_in d.runs q.row.0) f ∙ q_offset)

  at_zero : q.index ≤ 0 → offset_in d.runs q.row.0 0 ≡ offset d p
  at_zero h = let z : 0 ≡ q.index = omega arith in ap (offset_in d.runs q.row.0) z ∙ q_offset

  pub back_run : (r : NodeId) (n : ℕ) → q.index ≤ 0 → Some r ≡ previous_in d.runs q.row.0 → Some n ≡ count_in d.runs r.0 → 0 < n → PreviousPlace d p (Ok (record { root = q.root; row = r; index = n - 1 }))
  back_run r n h v c i =
      let b = before d.runs r q.row.0 s.listed v in
      let k = some_same b.size n (b.sized ∙ sym c) in
      let f : (n - 1) + 1 ≡ b.size = omega arith in
      back_to (record { root = q.root; row = r; index = n - 1 }) n q_lawful.0 c (omega arith)
      (ap (offset_in d.runs r.0) f ∙ b.meets ∙ at_zero h)

  pub back_first : q.index ≤ 0 → None ≡ previous_in d.runs q.row.0 → offset d p ≡ 0
  back_first h v =
      let z : q.index ≡ 0 = omega arith in
      sym (at_zero h) ∙ first_of d.runs q.row.0 (subst (λ i. Within i (count_in d.runs q.row.0)) z q_lawful.1) v

  pub back_never : (r : NodeId) (n : ℕ) → Some r ≡ previous_in d.runs q.row.0 → Some n ≡ count_in d.runs r.0 → n ≤ 0 → ⊥
  back_never r n v c i =
      let b = before d.runs r q.row.0 s.listed v in
      let k = some_same b.size n (b.sized ∙ sym c) in
      let j = b.some in
      omega arith

  pub back_not : (r : NodeId) → Some r ≡ previous_in d.runs q.row.0 → None ≡ count_in d.runs r.0 → ⊥
  back_not r v c = let b = before d.runs r q.row.0 s.listed v in not_none b.size (b.sized ∙ sym c)

-- biased to end
module _ (d : Document) (p : Position) (s : Sound d) (l : Lawful d p) where
  start_is : p.index ≤ 0 → to_end d p ≡ or_end d.runs (previous_in d.runs p.row.0) p
  start_is h = cond-true (eqb p.index 0) (or_end d.runs (previous_in d.runs p.row.0) p) p (eq-eqb p.index 0 (omega arith))

  pub to_end_run : (r : NodeId) (n : ℕ) → p.index ≤ 0 → Some r ≡ previous_in d.runs p.row.0 → Some n ≡ count_in d.runs r.0 → BiasedEnd d p (record { root = p.root; row = r; index = n })
  to_end_run r n h v c =
      let b = before d.runs r p.row.0 s.listed v in
      let k = some_same b.size n (b.sized ∙ sym c) in
      let z : 0 ≡ p.index = omega arith in (
        sym (start_is h ∙ ap (λ o. or_end d.runs o p) (sym v) ∙ ap (λ o. record { root = p.root; row = r; index = size_of o }) (sym c)),
        ap (offset_in d.runs r.0) (sym k) ∙ b.meets ∙ ap (offset_in d.runs p.row.0) z,
      )

  pub to_end_not : (r : NodeId) → Some r ≡ previous_in d.runs p.row.0 → None ≡ count_in d.runs r.0 → ⊥
  to_end_not r v c = let b = before d.runs r p.row.0 s.listed v in not_none b.size (b.sized ∙ sym c)

-- the last run's end is the end place
end_in : (o : ℕ) (xs : List Run) → Listed xs → at o (last_row xs) (size_of (count_in xs (last_row xs))) ≡ place_in o xs (total_in xs)
end_in o [] h = absurd h
end_in o (x ∷ []) h = let z : count x ≡ count x + 0 = omega arith in ap (λ c. at o x.row (size_of c)) (count_here x []) ∙ ap (at o x.row) z
end_in o (x ∷ y ∷ ys) h =
    let k = total_in (y ∷ ys) in
    let z : (count x + k) - count x ≡ k = omega arith in
    let m = end_in o (y ∷ ys) h.2 in
    let b : k ≤ k = omega arith in
    let w = subst (λ p. Within p.index (count_in (y ∷ ys) p.row.0)) (sym m) (within_place o (y ∷ ys) k h.2 b) in
    let n = there (y ∷ ys) x.row (last_row (y ∷ ys)) (size_of (count_in (y ∷ ys) (last_row (y ∷ ys)))) h.1 w in
    ap (λ c. at o (last_row (y ∷ ys)) (size_of c)) (count_later x (y ∷ ys) (last_row (y ∷ ys)) n)
    ∙ m
    ∙ ap (place_in o (y ∷ ys)) (sym z)
    ∙ sym (cond-false (ltb (count x + k) (count x)) (at o x.row (count x + k)) (place_in o (y ∷ ys) ((count x + k) - count x)) (le-ltb (count x + k) (count x) (omega arith)))

pub end_place : (d : Document) → Sound d → document_end d ≡ place d (total d)
end_place d s = end_in d.root d.runs s.listed
