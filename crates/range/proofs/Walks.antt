-- The walk from the start's run to the end's, by places.
use Rattle.std.proofs.Common.{◌≡◌, ℕ, ◌+◌, ◌<◌, ◌≤◌, true, false, eqb, List, [], ◌∷◌, ◌++◌, length, Some, None, Ok, Err, Result, sym, refl, ap, ◌∙◌, subst, ⊎_elim, arith, length-append, Bor}
use Rattle.std.proofs.lemmas.Bool.{both_ways, cases_Bool, cond-true, cond-false, cond_both, eq-eqb, ne_eqb, eqb-true}
use Rattle.rows.specs.declared.node.NodeId.{NodeId}
use Rattle.rows.specs.declared.refusal.Refusal.{Refusal}
use Rattle.rows.specs.declared.refusal.Refusal.TheVariants.{BadTables, BadRow, BadRoot, BadRun, BadWords, BadLine, AtEnd, AtStart, Misplaced, Beyond, Needed}
use Rattle.source.specs.Runs.{Run, Document, Sound, Listed, count, count_in, head_row, next_in, is_in, before_in}
use Rattle.source.specs.Pieces.{Within, Asked, NoPiece, Pieces, bytes_of, piece_in}
use Rattle.position.specs.declared.position.Position.{Position}
use Rattle.position.specs.Places.{Lawful, offset_in, offset, size_of}
use Rattle.position.proofs.Options.{some_same, not_none, count_of}
use Rattle.position.proofs.Places.{offset_inside}
use Rattle.position.proofs.Neighbours.{offset_add, meets}
use Rattle.position.proofs.Orders.{before_total, before_ends}
use Rattle.range.specs.declared.range.Range.{Range}
use Rattle.range.specs.Ranges.{range}
use Rattle.range.specs.Texts.{between, text_of, bytes_in}
use Rattle.range.specs.Walks.{Walked, behind_in, front, Heads, Tails}
use Rattle.range.proofs.Characters.{piece_between, between_split, bytes_append}

-- a row with a count is a run of the list
counted : (xs : List Run) (r i : ℕ) → Within i (count_in xs r) → is_in xs r ≡ true
counted [] r i w = absurd w
counted (x ∷ xs) r i w =
    ⊎_elim
    (λ q. cond-true (eqb x.row r) true (is_in xs r) q)
    (λ q. cond-false (eqb x.row r) true (is_in xs r) q ∙ counted xs r i (subst (Within i) (cond-false (eqb x.row r) (Some (count x)) (count_in xs r) q) w))
    (cases_Bool (eqb x.row r))

-- a run that stands before another has characters, and one behind it
before_some : (xs : List Run) (r q n : ℕ) → Listed xs → before_in xs r q ≡ true → Some n ≡ count_in xs r → 0 < n
before_some [] r q n h e c = absurd h
before_some (x ∷ []) r q n h e c = absurd (both_ways false refl (sym (cond_both (eqb x.row r) false false (λ b. b ≡ false) (λ u. refl) (λ u. refl)) ∙ e))
before_some (x ∷ y ∷ ys) r q n h e c =
    ⊎_elim
    (λ u. let k = some_same (count x) n (sym (c ∙ cond-true (eqb x.row r) (Some (count x)) (count_in (y ∷ ys) r) u)) in let z = h.0 in omega arith)
    (λ u. before_some (y ∷ ys) r q n h.2 (sym (cond-false (eqb x.row r) (is_in (y ∷ ys) q) (before_in (y ∷ ys) r q) u) ∙ e) (c ∙ cond-false (eqb x.row r) (Some (count x)) (count_in (y ∷ ys) r) u))
    (cases_Bool (eqb x.row r))

before_next : (xs : List Run) (r q : ℕ) → before_in xs r q ≡ true → None ≡ next_in xs r → ⊥
before_next [] r q e v = both_ways false refl e
before_next (x ∷ xs) r q e v =
    ⊎_elim
    (λ u. alone xs (v ∙ cond-true (eqb x.row r) (head_row xs) (next_in xs r) u) (sym (cond-true (eqb x.row r) (is_in xs q) (before_in xs r q) u) ∙ e))
    (λ u. before_next xs r q (sym (cond-false (eqb x.row r) (is_in xs q) (before_in xs r q) u) ∙ e) (v ∙ cond-false (eqb x.row r) (head_row xs) (next_in xs r) u))
    (cases_Bool (eqb x.row r))
  where
    alone : (l : List Run) → None ≡ head_row l → is_in l q ≡ true → ⊥
    alone [] w i = both_ways false refl i
    alone (y ∷ ys) w i = not_none (record { 0 = y.row }) (sym w)

-- of two runs, by the places where they start
module _ (d : Document) (s : Sound d) (r q i j : ℕ) (wr : Within i (count_in d.runs r)) (wq : Within j (count_in d.runs q)) where
  -- the first stands before the other where it starts no later
  stands_before : (r ≡ q → ⊥) → offset_in d.runs r 0 ≤ offset_in d.runs q 0 → before_in d.runs r q ≡ true
  stands_before n h =
      ⊎_elim
      (λ e. e)
      (λ e.
      let cq = count_of j (count_in d.runs q) wq in
      let f = before_total d.runs r q (counted d.runs r i wr) (counted d.runs q j wq) n e in
      let x = before_ends d.runs q r cq.0 s.listed f cq.1 in
      let y = before_some d.runs q r cq.0 s.listed f cq.1 in
      absurd (omega arith))
      (cases_Bool (before_in d.runs r q))

  -- it starts no later where a place of it is before one of the other
  pub starts_before : offset_in d.runs r i < offset_in d.runs q j → offset_in d.runs r 0 ≤ offset_in d.runs q 0
  starts_before h =
      let cr = count_of i (count_in d.runs r) wr in
      let cq = count_of j (count_in d.runs q) wq in
      let x = offset_add d.runs r i cr.0 cr.1 in
      let y = offset_add d.runs q j cq.0 cq.1 in
      let k = cq.2 in
      ⊎_elim
      (λ e. let z = ap (λ o. offset_in d.runs o 0) (eqb-true r q e) in omega arith)
      (λ e.
      ⊎_elim
      (λ f. let z = before_ends d.runs r q cr.0 s.listed f cr.1 in omega arith)
      (λ f.
      let g = before_total d.runs r q (counted d.runs r i wr) (counted d.runs q j wq) (λ u. both_ways (eqb r q) e (eq-eqb r q u)) f in
      let z = before_ends d.runs q r cq.0 s.listed g cq.1 in
      absurd (omega arith))
      (cases_Bool (before_in d.runs r q)))
      (cases_Bool (eqb r q))

-- a range that is walked, and its first run's part
module _ (d : Document) (s : Sound d) (t : Range) (w : Walked d t) where
  -- the run's end is not behind the range's where another run follows
  run_inside : (n : ℕ) → Some n ≡ count_in d.runs t.start.row.0 → (t.start.row.0 ≡ t.end.row.0 → ⊥) → offset_in d.runs t.start.row.0 0 + n ≤ offset_in d.runs t.end.row.0 0
  run_inside n c e =
      before_ends d.runs t.start.row.0 t.end.row.0 n s.listed
      (stands_before d s t.start.row.0 t.end.row.0 t.start.index t.end.index w.start.1 w.end.1 e w.rows) c

  bounds : (n : ℕ) → Some n ≡ count_in d.runs t.start.row.0 → (t.start.index ≤ behind_in d t) × (behind_in d t ≤ n) × (offset_in d.runs t.start.row.0 (behind_in d t) ≤ offset d t.end)
  bounds n c =
      let i = t.start.index in
      let r = t.start.row.0 in
      let q = t.end.row.0 in
      let m = count_of t.end.index (count_in d.runs q) w.end.1 in
      let h : i ≤ n = subst (Within i) (sym c) w.start.1 in
      let x = offset_add d.runs r i n c in
      let y = offset_add d.runs q t.end.index m.0 m.1 in
      let o = w.ordered in
      cond_both (eqb r q) t.end.index (size_of (count_in d.runs r)) (λ b. (i ≤ b) × (b ≤ n) × (offset_in d.runs r b ≤ offset d t.end))
      (λ e.
      let z = eqb-true r q e in
      let u = ap (λ p. offset_in d.runs p 0) z in
      let v = ap (λ p. offset_in d.runs p t.end.index) z in
      let k = some_same m.0 n (m.1 ∙ ap (count_in d.runs) (sym z) ∙ sym c) in
      let l = m.2 in
      (omega arith, omega arith, omega arith))
      (λ e.
      let f = run_inside n c (λ u. both_ways (eqb r q) e (eq-eqb r q u)) in
      let z = offset_add d.runs r n n c in
      subst (λ b. (i ≤ b) × (b ≤ n) × (offset_in d.runs r b ≤ offset d t.end)) (ap size_of c) (h, omega arith, omega arith))

  -- the piece that is asked for
  pub head_asked : Asked d t.start.row.0 t.start.index (behind_in d t)
  head_asked =
      let c = count_of t.start.index (count_in d.runs t.start.row.0) w.start.1 in
      let b = bounds c.0 c.1 in
      (b.0, subst (Within (behind_in d t)) c.1 b.1)

  pub head_piece : piece_in d.runs t.start.row.0 t.start.index (behind_in d t) ≡ bytes_of (front d t)
  head_piece =
      let c = count_of t.start.index (count_in d.runs t.start.row.0) w.start.1 in
      let b = bounds c.0 c.1 in
      ap bytes_of (piece_between d.runs t.start.row.0 t.start.index (behind_in d t) c.0 c.1 b.0 b.1)

  heads_none : (strip : List ℕ) (e : Refusal) → NoPiece d t.start.row.0 t.start.index (behind_in d t) strip e → Heads d t strip (Err e)
  heads_none strip BadTables v = absurd v
  heads_none strip (BadRow r) v = absurd v
  heads_none strip (BadRoot r) v = absurd v
  heads_none strip (BadRun r) v = absurd v
  heads_none strip (BadWords r) v = absurd v
  heads_none strip (BadLine r) v = absurd v
  heads_none strip AtEnd v = absurd v
  heads_none strip AtStart v = absurd v
  heads_none strip Misplaced v = absurd (v head_asked)
  heads_none strip Beyond v = absurd v
  heads_none strip (Needed n) v = (v.1, ap Needed v.2)

  pub heads : (strip : List ℕ) (b : ℕ) (r : Result (Bor (List ℕ)) Refusal) → b ≡ behind_in d t → Pieces d t.start.row.0 t.start.index b strip r → Heads d t strip r
  heads strip b r e v = answer r (subst (λ k. Pieces d t.start.row.0 t.start.index k strip r) e v)
    where
      answer : (r : Result (Bor (List ℕ)) Refusal) → Pieces d t.start.row.0 t.start.index (behind_in d t) strip r → Heads d t strip r
      answer (Ok x) v = (v.1, v.2 ∙ head_piece)
      answer (Err e) v = heads_none strip e v

  -- the range ends in this run
  pub tail_none : t.start.row.0 ≡ t.end.row.0 → text_of d t ≡ front d t
  tail_none e =
      let b = cond-true (eqb t.start.row.0 t.end.row.0) t.end.index (size_of (count_in d.runs t.start.row.0)) (eq-eqb t.start.row.0 t.end.row.0 e) in
      ap (between d (offset d t.start)) (sym (ap (λ o. offset_in d.runs o (behind_in d t)) e ∙ ap (offset_in d.runs t.end.row.0) b))

  pub tail_some : (t.start.row.0 ≡ t.end.row.0 → ⊥) → None ≡ next_in d.runs t.start.row.0 → ⊥
  tail_some n v =
      before_next d.runs t.start.row.0 t.end.row.0
      (stands_before d s t.start.row.0 t.end.row.0 t.start.index t.end.index w.start.1 w.end.1 n w.rows) v

  -- the range goes on in the next run
  pub tail_next : (k : NodeId) → (t.start.row.0 ≡ t.end.row.0 → ⊥) → Some k ≡ next_in d.runs t.start.row.0 → Tails d t (Some (range (record { root = t.start.root; row = k; index = 0 }) t.end))
  tail_next k e v =
      let r = t.start.row.0 in
      let c = count_of t.start.index (count_in d.runs r) w.start.1 in
      let n = c.0 in
      let f = run_inside n c.1 e in
      let m = meets d.runs r n k s.listed c.1 v in
      let o = m.off in
      let z = m.some in
      let x = offset_add d.runs r n n c.1 in
      let b = bounds n c.1 in
      let l = count_of t.end.index (count_in d.runs t.end.row.0) w.end.1 in
      let y = offset_add d.runs t.end.row.0 t.end.index l.0 l.1 in
      let i = offset_inside d.runs k.0 0 m.has in
      let u : behind_in d t ≡ n = cond-false (eqb r t.end.row.0) t.end.index (size_of (count_in d.runs r)) (ne_eqb r t.end.row.0 e) ∙ ap size_of (sym c.1) in
      let g : offset_in d.runs r (behind_in d t) ≡ offset_in d.runs k.0 0 = ap (offset_in d.runs r) u ∙ (omega arith) in
      let h : t.start.index ≤ n = c.2 in
      let p = offset_add d.runs r t.start.index n c.1 in (
        record { start = (w.start.0, m.has); end = w.end; rows = omega arith; ordered = omega arith },
        sym (between_split d (offset d t.start) (offset_in d.runs k.0 0) (offset d t.end) (omega arith) (omega arith))
            ∙ ap (λ q. between d (offset d t.start) q ++ between d (offset_in d.runs k.0 0) (offset d t.end)) (sym g),
        omega arith,
      )

  pub front_short : length (bytes_of (front d t)) ≤ length (bytes_in d t)
  front_short =
      let c = count_of t.start.index (count_in d.runs t.start.row.0) w.start.1 in
      let b = bounds c.0 c.1 in
      let e = offset_in d.runs t.start.row.0 (behind_in d t) in
      let x = offset_add d.runs t.start.row.0 t.start.index c.0 c.1 in
      let y = offset_add d.runs t.start.row.0 (behind_in d t) c.0 c.1 in
      let i = b.0 in
      let f = between_split d (offset d t.start) e (offset d t.end) (omega arith) b.2 in
      let g = ap (λ l. length (bytes_of l)) f in
      let h = ap length (bytes_append (front d t) (between d e (offset d t.end))) ∙ length-append (bytes_of (front d t)) (bytes_of (between d e (offset d t.end))) in
      omega arith

-- the range that is walked
pub walk_text : (d : Document) (t : Range) → Sound d → Lawful d t.start → Lawful d t.end → offset d t.start < offset d t.end → Walked d t
walk_text d t s l m h = record {
  start = l;
  end = m;
  rows = starts_before d s t.start.row.0 t.end.row.0 t.start.index t.end.index l.1 m.1 h;
  ordered = omega arith;
}

pub walk_none : (d : Document) (p : Position) → Lawful d p → Walked d (range p p)
walk_none d p l = record { start = l; end = l; rows = omega arith; ordered = omega arith }
