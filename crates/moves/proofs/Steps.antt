-- Moves along lines go on: why the loops over them end.
use Rattle.std.proofs.Common.{◌≡◌, ℕ, ◌+◌, ◌-◌, ◌<◌, ◌≤◌, true, false, ◌&&◌, eqb, List, [], ◌∷◌, Some, None, Option, sym, refl, ap, ◌∙◌, subst, ⊎_elim, arith}
use Rattle.std.proofs.lemmas.Bool.{both_ways, eqb-true, eq-eqb, ne_eqb, cases_lt, cond-false, or_cases, or_parts, and_parts, and_from}
use Rattle.rows.specs.declared.node.NodeId.{NodeId}
use Rattle.source.specs.Runs.{Run, Document, Sound, row_id, Lacks, Listed, count_in, next_in, previous_in, first_row}
use Rattle.source.specs.Pieces.{Within}
use Rattle.position.specs.declared.position.Position.{Position}
use Rattle.position.specs.Places.{Lawful, offset_in, offset, total, at, place, at_end, size_of}
use Rattle.starts.specs.Starts.{opens_line, broken, is_none, run_end, starts_line, starts_paragraph, ends_document, ends_line, ends_paragraph, breaks}
use Rattle.position.proofs.Options.{count_of}
use Rattle.position.proofs.Places.{offset_inside, offset_place, within_place, root_place, first_place, place_full, place_biased}
use Rattle.position.proofs.Neighbours.{offset_add, meets, meets_end}
use Rattle.unit.proofs.Walk.{start_run}
use Rattle.moves.specs.Lines.{line_end_in, end_of, EndsLine}
use Rattle.moves.specs.Repeats.{LineOn, LineBack, end_or_start}
use Rattle.moves.proofs.Lines.{Last, last_of}

-- no run comes before the first
prev_lacks : (y : Run) (xs : List Run) (r : ℕ) → Lacks r xs → previous_in (y ∷ xs) r ≡ None
prev_lacks y [] r l = refl
prev_lacks y (x ∷ xs) r l = cond-false (eqb x.row r) (Some (row_id y.row)) (previous_in (x ∷ xs) r) (ne_eqb x.row r l.0) ∙ prev_lacks x xs r l.1

pub prev_first : (xs : List Run) → Listed xs → previous_in xs (first_row xs) ≡ None
prev_first [] h = absurd h
prev_first (x ∷ []) h = refl
prev_first (x ∷ y ∷ ys) h = prev_lacks x (y ∷ ys) x.row h.1

module _ (d : Document) (s : Sound d) where
  pub place_lawful : (k : ℕ) → k ≤ total d → Lawful d (place d k)
  place_lawful k h = (root_place d.root d.runs k, within_place d.root d.runs k s.listed h)

  pub place_at : (k : ℕ) → k ≤ total d → offset d (place d k) ≡ k
  place_at k h = offset_place d.root d.runs k s.listed h

  -- the end place is the document's end
  module _ (q : Position) (is : q ≡ place d (total d)) where
    q_within : Within q.index (count_in d.runs q.row.0)
    q_within = let h : total d ≤ total d = omega arith in subst (λ t. Within t.index (count_in d.runs t.row.0)) (sym is) (place_lawful (total d) h).1

    off : (n : ℕ) → Some n ≡ count_in d.runs q.row.0 → offset_in d.runs q.row.0 0 + q.index ≡ total d
    off n c = sym (offset_add d.runs q.row.0 q.index n c) ∙ ap (offset d) is ∙ place_at (total d) (omega arith)

    never : (n : ℕ) (t : NodeId) → Some n ≡ count_in d.runs q.row.0 → q.index ≤ n → Some t ≡ next_in d.runs q.row.0 → ⊥
    never n t c i e =
        let m = meets d.runs q.row.0 n t s.listed c e in
        let a = m.off in
        let z = m.some in
        let b = offset_inside d.runs t.0 0 m.has in
        let o = off n c in
        let k = count_of 0 (count_in d.runs t.0) m.has in
        let same : offset_in d.runs t.0 0 ≡ total d = omega arith in
        let r : t.0 ≡ q.row.0 = ap (λ x. x.row.0) (start_run d (λ x. true) s t.0 k.0 k.1 ∙ ap (place d) same ∙ sym is) in
        let f = ap (λ x. offset_in d.runs x 0) r in
        omega arith

    full : (n : ℕ) → Some n ≡ count_in d.runs q.row.0 → q.index ≤ n → (o : Option NodeId) → o ≡ next_in d.runs q.row.0 → q.index ≡ n
    full n c i None e = let z = meets_end d.runs q.row.0 n c e in let o = off n c in omega arith
    full n c i (Some t) e = absurd (never n t c i e)

    lone : (n : ℕ) → Some n ≡ count_in d.runs q.row.0 → q.index ≤ n → (o : Option NodeId) → o ≡ next_in d.runs q.row.0 → is_none o ≡ true
    lone n c i None e = refl
    lone n c i (Some t) e = absurd (never n t c i e)

    pub end_is_end : ends_document d q ≡ true
    end_is_end =
        let c = count_of q.index (count_in d.runs q.row.0) q_within in
        and_from (run_end d q) (is_none (next_in d.runs q.row.0))
        (ap (λ o. at_end o q.index) (sym c.1) ∙ eq-eqb q.index c.0 (full c.0 c.1 c.2 (next_in d.runs q.row.0) refl))
        (lone c.0 c.1 c.2 (next_in d.runs q.row.0) refl)

  pub on_lawful : (m q : Position) → LineOn d m q → Lawful d q
  on_lawful m q a = subst (Lawful d) (sym a.lands) (place_lawful a.to a.moves.inside)

  -- a line move that stays before the document's end goes to the start of a later run
  pub on_row : (m q : Position) (a : LineOn d m q) → end_or_start d q ≡ false → (offset_in d.runs q.row.0 0 ≡ a.to) × (offset_in d.runs m.row.0 0 < a.to)
  on_row m q a e =
      let b = a.to in
      let o = offset_in d.runs m.row.0 0 in
      let i = a.moves.inside in
      let f = a.moves.from in
      ⊎_elim
      (λ h.
      let g : o < b = a.moves.after (omega arith) in
      let t = or_cases (eqb b 0) (starts_line d (place d b)) (a.moves.lands h) in
      let z : starts_line d (place d b) ≡ true = ⊎_elim (λ u. let v = eqb-true b 0 u in absurd (omega arith)) (λ u. u) t in
      let x = eqb-true (place d b).index 0 (and_parts (eqb (place d b).index 0) (opens_line d.runs (place d b).row.0) z).0 in
      (ap (λ p. offset_in d.runs p.row.0 0) a.lands ∙ ap (offset_in d.runs (place d b).row.0) (sym x) ∙ place_at b i, g))
      (λ h.
      let z : b ≡ total d = omega arith in
      let k = (or_parts (ends_document d q) (starts_paragraph d q) e).0 in
      absurd (both_ways (ends_document d q) k (end_is_end q (a.lands ∙ ap (place d) z))))
      (cases_lt b (total d))

  pub on_falls : (m q : Position) → LineOn d m q → end_or_start d q ≡ false → total d - offset_in d.runs q.row.0 0 < total d - offset_in d.runs m.row.0 0
  on_falls m q a e = let r = on_row m q a e in let x = r.0 in let y = r.1 in let i = a.moves.inside in omega arith

  pub back_lawful : (m q : Position) → Lawful d m → LineBack d m q → Lawful d q
  back_lawful m q l a =
      let h = offset_inside d.runs m.row.0 m.index l.1 in
      let i = a.moves.inside in
      subst (Lawful d) (sym a.lands) (place_lawful a.to (omega arith))

  -- the first place starts a paragraph
  pub first_starts : starts_paragraph d (place d 0) ≡ true
  first_starts = ap (starts_paragraph d) (sym (first_place d s)) ∙ ap (broken d.runs) (prev_first d.runs s.listed)

  pub back_falls : (m q : Position) → Lawful d m → LineBack d m q → starts_paragraph d q ≡ false → offset d q < offset d m
  back_falls m q l a e =
      let h = offset_inside d.runs m.row.0 m.index l.1 in
      let i = a.moves.inside in
      let o : offset d q ≡ a.to = ap (offset d) a.lands ∙ place_at a.to (omega arith) in
      ⊎_elim
      (λ g. let z = a.moves.before g in omega arith)
      (λ g.
      let z : a.to ≡ 0 = omega arith in
      absurd (both_ways (starts_paragraph d q) e (ap (starts_paragraph d) (a.lands ∙ ap (place d) z) ∙ first_starts)))
      (cases_lt 0 (offset d m))

  -- a move to a line's end goes on, unless the document ends there
  module _ (m q : Position) (l : Lawful d m) (e : EndsLine d m q) where
    abbrev here : Position
    here = place d (offset d m)

    inside_m : offset d m ≤ total d
    inside_m = offset_inside d.runs m.row.0 m.index l.1

    found : (n : ℕ) × (Some n ≡ count_in d.runs here.row.0) × (here.index ≤ n)
    found = count_of here.index (count_in d.runs here.row.0) (place_lawful (offset d m) inside_m).1

    last : Last d.runs here.row.0 found.0
    last = last_of d.runs here.row.0 found.0 s.listed found.1

    abbrev row : ℕ
    row = line_end_in d.runs here.row.0

    is_end : q ≡ at d.root row last.size
    is_end =
        e ∙ ap (λ t. end_of d (line_end_in d.runs t.row.0)) (sym (place_biased d m s l))
        ∙ ap (λ o. at d.root row (size_of o)) (sym last.sized)

    pub end_lawful : Lawful d q
    end_lawful =
        let z : last.size ≤ last.size = omega arith in
        subst (Lawful d) (sym is_end) (refl, subst (Within last.size) last.sized z)

    follows : (o : Option NodeId) → o ≡ next_in d.runs row → ends_document d (at d.root row last.size) ≡ false → (t : NodeId) × (Some t ≡ next_in d.runs row)
    follows (Some t) k g = (t, k)
    follows None k g =
        let x = ap (λ o. at_end o last.size) (sym last.sized) ∙ eq-eqb last.size last.size refl in
        absurd (both_ways (ends_document d (at d.root row last.size)) g
        (and_from (run_end d (at d.root row last.size)) (is_none (next_in d.runs row)) x (ap is_none (sym k))))

    pub end_falls : ends_paragraph d q ≡ false → total d - offset d q < total d - offset d m
    end_falls g =
        let n = found.0 in
        let o = ap (offset d) is_end in
        let x = last.starts in
        let y = last.ends in
        let i = found.2 in
        let w = follows (next_in d.runs row) refl (ap (ends_document d) (sym is_end) ∙ (or_parts (ends_document d q) (ends_line d q && breaks d.runs q.row.0) g).0) in
        let t = w.0.0 in
        let u = meets d.runs row last.size w.0 s.listed last.sized w.1 in
        let z = u.some in
        let a = u.off in
        let b = offset_inside d.runs t 0 u.has in
        let v = offset_add d.runs row last.size last.size last.sized in
        let r = sym (place_at (offset d m) inside_m) ∙ offset_add d.runs here.row.0 here.index n found.1 in
        ⊎_elim
        (λ k. omega arith)
        (λ k.
        let j = place_full d.root d.runs (offset d m) n s.listed inside_m found.1 k in
        let same : offset_in d.runs t 0 ≡ offset d m = omega arith in
        let kt = count_of 0 (count_in d.runs t) u.has in
        let rows : t ≡ here.row.0 = ap (λ x. x.row.0) (start_run d (λ x. true) s t kt.0 kt.1 ∙ ap (place d) same) in
        let off = ap (λ x. offset_in d.runs x 0) rows in
        absurd (omega arith))
        (cases_lt here.index n)
