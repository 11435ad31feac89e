-- One walk for every unit that is given run by run, forward and backward.
use Rattle.std.proofs.Common.{◌≡◌, ℕ, ◌+◌, ◌-◌, ◌<◌, ◌≤◌, Bool, true, false, eqb, Some, None, Option, sym, refl, ap, ◌∙◌, subst, ⊎_elim, arith}
use Rattle.std.proofs.lemmas.Bool.{ne_eqb, cases_lt, or_from, or_right}
use Rattle.rows.specs.declared.node.NodeId.{NodeId}
use Rattle.source.specs.Runs.{Document, Sound, count_in, next_in, previous_in}
use Rattle.source.specs.Pieces.{Within}
use Rattle.position.specs.declared.position.Position.{Position}
use Rattle.position.specs.Places.{Lawful, offset_in, offset, total, at, place}
use Rattle.position.proofs.Options.{some_same, not_none, count_of}
use Rattle.position.proofs.Places.{offset_next, offset_inside, offset_place, within_place, root_place, biases_inside, biases_last, place_full}
use Rattle.position.proofs.Neighbours.{offset_add, meets, meets_end, before, first_of}
use Rattle.unit.specs.Moves.{Goes, Returns}
use Rattle.unit.specs.Marks.{stops_by, marks_of, First, Last}

-- what the walk forward from place a keeps: no stop after it up to the cursor
pub record Ahead (d : Document) (f : Position → Bool) (a row from : ℕ) : Type 0 where
  pub within : Within from (count_in d.runs row)
  pub after : a < offset_in d.runs row from
  pub skips : (k : ℕ) → a < k → k < offset_in d.runs row from → (stops_by d f).stop k ≡ false

-- what the walk backward from place a keeps: no stop from the cursor on, but for the first place
pub record Behind (d : Document) (f : Position → Bool) (a row below : ℕ) : Type 0 where
  pub within : Within below (count_in d.runs row)
  pub upto : offset_in d.runs row below ≤ a
  pub skips : (k : ℕ) → 0 < k → offset_in d.runs row below ≤ k → k < a → (stops_by d f).stop k ≡ false

module _ (d : Document) (f : Position → Bool) (s : Sound d) where
  -- a position inside its run is a place, and marked exactly when the place is a stop
  pub in_run : (row n i : ℕ) → Some n ≡ count_in d.runs row → i < n → at d.root row i ≡ place d (offset_in d.runs row i)
  in_run row n i c h = (biases_inside d (at d.root row i) n s refl c h).1.0

  stop_run : (row n i : ℕ) → Some n ≡ count_in d.runs row → i < n → marks_of d f row i ≡ true → (stops_by d f).stop (offset_in d.runs row i) ≡ true
  stop_run row n i c h m = or_right (eqb (offset_in d.runs row i) 0) (f (place d (offset_in d.runs row i))) (ap f (sym (in_run row n i c h)) ∙ m)

  -- a run's start is a place, in an empty last run too
  pub start_run : (row n : ℕ) → Some n ≡ count_in d.runs row → at d.root row 0 ≡ place d (offset_in d.runs row 0)
  start_run row n c = ⊎_elim (λ h. in_run row n 0 c h) (λ h. by_next (next_in d.runs row) refl h) (cases_lt 0 n)
    where
      by_next : (o : Option NodeId) → o ≡ next_in d.runs row → n ≤ 0 → at d.root row 0 ≡ place d (offset_in d.runs row 0)
      by_next None e h = (biases_last d (at d.root row 0) n s refl c (omega arith) h e).1.0
      by_next (Some t) e h = let m = meets d.runs row n t s.listed c e in let z = m.some in absurd (omega arith)

  -- where no index of a stretch of a run is marked, none of its places is a stop
  skip_run : (row n from to : ℕ) → Some n ≡ count_in d.runs row → to ≤ n → ((j : ℕ) → from ≤ j → j < to → marks_of d f row j ≡ false) →
      (k : ℕ) → 0 < k → offset_in d.runs row from ≤ k → k < offset_in d.runs row to → (stops_by d f).stop k ≡ false
  skip_run row n from to c h m k z a b =
      let o = offset_in d.runs row 0 in
      let j = k - o in
      let u = offset_add d.runs row from n c in
      let v = offset_add d.runs row to n c in
      let w = offset_add d.runs row j n c in
      let e : offset_in d.runs row j ≡ k = omega arith in
      or_from (eqb k 0) (f (place d k)) (ne_eqb k 0 (omega arith))
      (ap (λ t. f (place d t)) (sym e) ∙ ap f (sym (in_run row n j c (omega arith))) ∙ m j (omega arith) (omega arith))

  past : (a row n from to : ℕ) → Ahead d f a row from → Some n ≡ count_in d.runs row → to ≤ n → ((j : ℕ) → from ≤ j → j < to → marks_of d f row j ≡ false) →
      (k : ℕ) → a < k → k < offset_in d.runs row to → (stops_by d f).stop k ≡ false
  past a row n from to w c h m k x y =
      ⊎_elim (λ l. w.skips k x l) (λ l. skip_run row n from to c h m k (omega arith) l y) (cases_lt k (offset_in d.runs row from))

  pub ahead_more : (a row n from : ℕ) (next : NodeId) → Ahead d f a row from → Some n ≡ count_in d.runs row → First (marks_of d f row) n from None → Some next ≡ next_in d.runs row → Ahead d f a next.0 0
  ahead_more a row n from next w c m e =
      let t = meets d.runs row n next s.listed c e in
      let o = t.off in
      let x = offset_add d.runs row from n c in
      let y = offset_add d.runs row n n c in
      let b : from ≤ n = subst (Within from) (sym c) w.within in
      let z = w.after in
      record {
        within = t.has;
        after = omega arith;
        skips = λ k g h. past a row n from n w c (omega arith) m k g (omega arith);
      }

  pub ahead_falls : (row n : ℕ) (next : NodeId) → Some n ≡ count_in d.runs row → Some next ≡ next_in d.runs row → total d - offset_in d.runs next.0 0 < total d - offset_in d.runs row 0
  ahead_falls row n next c e =
      let t = meets d.runs row n next s.listed c e in
      let o = t.off in
      let z = t.some in
      let i = offset_inside d.runs next.0 0 t.has in
      omega arith

  pub ahead_none : (a row from : ℕ) → Ahead d f a row from → None ≡ count_in d.runs row → ⊥
  ahead_none a row from w c = subst (Within from) (sym c) w.within

  pub ahead_found : (p : Position) (row n from i : ℕ) → Lawful d p → Ahead d f (offset d p) row from → Some n ≡ count_in d.runs row → First (marks_of d f row) n from (Some i) → Goes d (stops_by d f) p (at d.root row i)
  ahead_found p row n from i l w c m =
      let b = m.0 in
      let h = m.1 in
      let x = offset_add d.runs row from n c in
      let y = offset_add d.runs row i n c in
      let z = w.after in
      let j : i ≤ n = omega arith in
      record {
        lawful = l;
        to = offset_in d.runs row i;
        moves = record {
          after = omega arith;
          inside = offset_inside d.runs row i (subst (Within i) c j);
          lands = λ k. stop_run row n i c h m.2;
          skips = past (offset d p) row n from i w c j m.3;
        };
        lands = in_run row n i c h;
      }

  pub ahead_end : (p : Position) (row n from : ℕ) → Lawful d p → Ahead d f (offset d p) row from → Some n ≡ count_in d.runs row → First (marks_of d f row) n from None → None ≡ next_in d.runs row → Goes d (stops_by d f) p (at d.root row n)
  ahead_end p row n from l w c m e =
      let x = offset_add d.runs row from n c in
      let y = offset_add d.runs row n n c in
      let z = w.after in
      let b : from ≤ n = subst (Within from) (sym c) w.within in
      let t = meets_end d.runs row n c e in
      record {
        lawful = l;
        to = offset_in d.runs row n;
        moves = record {
          after = omega arith;
          inside = omega arith;
          lands = λ k. absurd (omega arith);
          skips = past (offset d p) row n from n w c (omega arith) m;
        };
        lands = (biases_last d (at d.root row n) n s refl c (omega arith) (omega arith) e).1.0;
      }

  -- the place q of the position p, where both walks begin
  module _ (p q : Position) (l : Lawful d p) (e : q ≡ place d (offset d p)) where
    inside : offset d p ≤ total d
    inside = offset_inside d.runs p.row.0 p.index l.1

    q_lawful : Lawful d q
    q_lawful = subst (Lawful d) (sym e) (root_place d.root d.runs (offset d p), within_place d.root d.runs (offset d p) s.listed inside)

    q_offset : offset d q ≡ offset d p
    q_offset = ap (offset d) e ∙ offset_place d.root d.runs (offset d p) s.listed inside

    pub begin_root : q.root.0 ≡ d.root
    begin_root = q_lawful.0

    pub begin_none : None ≡ count_in d.runs q.row.0 → ⊥
    begin_none c = subst (Within q.index) (sym c) q_lawful.1

    pub begin_end : (n : ℕ) → Some n ≡ count_in d.runs q.row.0 → n ≤ q.index → offset d p ≡ total d
    begin_end n c i =
        place_full d.root d.runs (offset d p) n s.listed inside (c ∙ ap (λ t. count_in d.runs t.row.0) e) (subst (λ t. n ≤ t.index) e i)

    pub ahead_begin : (n : ℕ) → Some n ≡ count_in d.runs q.row.0 → q.index < n → Ahead d f (offset d q) q.row.0 (q.index + 1)
    ahead_begin n c h =
        let j : q.index + 1 ≤ n = omega arith in
        let x = offset_next d.runs q.row.0 q.index q_lawful.1 in
        record { within = subst (Within (q.index + 1)) c j; after = omega arith; skips = λ k g i. absurd (omega arith) }

    pub behind_begin : Behind d f (offset d q) q.row.0 q.index
    behind_begin = record { within = q_lawful.1; upto = omega arith; skips = λ k z g i. absurd (omega arith) }

    pub found_ahead : (row n from i : ℕ) → Ahead d f (offset d q) row from → Some n ≡ count_in d.runs row → First (marks_of d f row) n from (Some i) → Goes d (stops_by d f) p (at q.root.0 row i)
    found_ahead row n from i w c m =
        subst (λ o. Goes d (stops_by d f) p (at o row i)) (sym begin_root)
        (ahead_found p row n from i l (subst (λ a. Ahead d f a row from) q_offset w) c m)

    pub end_ahead : (row n from : ℕ) → Ahead d f (offset d q) row from → Some n ≡ count_in d.runs row → First (marks_of d f row) n from None → None ≡ next_in d.runs row → Goes d (stops_by d f) p (at q.root.0 row n)
    end_ahead row n from w c m e =
        subst (λ o. Goes d (stops_by d f) p (at o row n)) (sym begin_root)
        (ahead_end p row n from l (subst (λ a. Ahead d f a row from) q_offset w) c m e)

    -- backward
    found_behind_at : (row below n i : ℕ) → Behind d f (offset d p) row below → Some n ≡ count_in d.runs row → Last (marks_of d f row) below (Some i) → Returns d (stops_by d f) p (at d.root row i)
    found_behind_at row below n i w c m =
        let b : below ≤ n = subst (Within below) (sym c) w.within in
        let h = m.0 in
        let x = offset_add d.runs row below n c in
        let y = offset_add d.runs row i n c in
        let v = offset_add d.runs row (i + 1) n c in
        let z = w.upto in
        record {
          lawful = l;
          to = offset_in d.runs row i;
          moves = record {
            before = omega arith;
            lands = stop_run row n i c (omega arith) m.1;
            skips = λ k g t.
                ⊎_elim
                (λ u. skip_run row n (i + 1) below c b (λ j r o. m.2 j (omega arith) o) k (omega arith) (omega arith) u)
                (λ u. w.skips k (omega arith) u t)
                (cases_lt k (offset_in d.runs row below));
          };
          lands = in_run row n i c (omega arith);
        }

    pub found_behind : (row below i : ℕ) → Behind d f (offset d q) row below → Last (marks_of d f row) below (Some i) → Returns d (stops_by d f) p (at q.root.0 row i)
    found_behind row below i w m =
        let c = count_of below (count_in d.runs row) w.within in
        subst (λ o. Returns d (stops_by d f) p (at o row i)) (sym begin_root)
        (found_behind_at row below c.0 i (subst (λ a. Behind d f a row below) q_offset w) c.1 m)

    -- no stop of the run below the cursor, but for the first place
    rest_behind : (a row below : ℕ) → Behind d f a row below → Last (marks_of d f row) below None →
        (k : ℕ) → 0 < k → offset_in d.runs row 0 ≤ k → k < a → (stops_by d f).stop k ≡ false
    rest_behind a row below w m k z g t =
        let c = count_of below (count_in d.runs row) w.within in
        ⊎_elim
        (λ u. skip_run row c.0 0 below c.1 c.2 (λ j r o. m j o) k z g u)
        (λ u. w.skips k z u t)
        (cases_lt k (offset_in d.runs row below))

    pub behind_more : (row below : ℕ) (r : NodeId) (n : ℕ) → Behind d f (offset d q) row below → Last (marks_of d f row) below None → Some r ≡ previous_in d.runs row → Some n ≡ count_in d.runs r.0 → Behind d f (offset d q) r.0 n
    behind_more row below r n w m v c =
        let b = before d.runs r row s.listed v in
        let k = some_same b.size n (b.sized ∙ sym c) in
        let j : n ≤ n = omega arith in
        let y = ap (offset_in d.runs r.0) (sym k) ∙ b.meets in
        let t = count_of below (count_in d.runs row) w.within in
        let x = offset_add d.runs row below t.0 t.1 in
        let z = w.upto in
        record {
          within = subst (Within n) c j;
          upto = omega arith;
          skips = λ i g h o. rest_behind (offset d q) row below w m i g (omega arith) o;
        }

    pub behind_falls : (row : ℕ) (r : NodeId) (n : ℕ) → Some r ≡ previous_in d.runs row → Some n ≡ count_in d.runs r.0 → offset_in d.runs r.0 0 < offset_in d.runs row 0
    behind_falls row r n v c =
        let b = before d.runs r row s.listed v in
        let x = offset_add d.runs r.0 b.size n c in
        let y = b.meets in
        let z = b.some in
        omega arith

    pub behind_none : (row : ℕ) (r : NodeId) → Some r ≡ previous_in d.runs row → None ≡ count_in d.runs r.0 → ⊥
    behind_none row r v c = let b = before d.runs r row s.listed v in not_none b.size (b.sized ∙ sym c)

    zero_of : (row below : ℕ) → Behind d f (offset d q) row below → None ≡ previous_in d.runs row → offset_in d.runs row 0 ≡ 0
    zero_of row below w v =
        let t = count_of below (count_in d.runs row) w.within in
        let z : 0 ≤ t.0 = omega arith in
        first_of d.runs row (subst (Within 0) t.1 z) v

    -- at the first run: the first place, or nothing before it
    pub first_behind : (row below : ℕ) → Behind d f (offset d q) row below → Last (marks_of d f row) below None → None ≡ previous_in d.runs row → 0 < offset d p → Returns d (stops_by d f) p (at q.root.0 row 0)
    first_behind row below w m v h =
        let o = zero_of row below w v in
        let e' = q_offset in
        let t = count_of below (count_in d.runs row) w.within in
        let z : 0 ≤ t.0 = omega arith in
        subst (λ r. Returns d (stops_by d f) p (at r row 0)) (sym begin_root)
        (record {
          lawful = l;
          to = 0;
          moves = record { before = h; lands = refl; skips = λ k g u. rest_behind (offset d q) row below w m k g (omega arith) (omega arith) };
          lands = start_run row t.0 t.1 ∙ ap (place d) o;
        })

    pub start_behind : (row below : ℕ) → Behind d f (offset d q) row below → None ≡ previous_in d.runs row → q.row.0 ≡ row → q.index ≤ 0 → offset d p ≡ 0
    start_behind row below w v r h =
        let z : q.index ≡ 0 = omega arith in
        sym q_offset ∙ ap (offset_in d.runs q.row.0) z ∙ ap (λ t. offset_in d.runs t 0) r ∙ zero_of row below w v

    pub other_behind : (row below : ℕ) → Behind d f (offset d q) row below → Last (marks_of d f row) below None → None ≡ previous_in d.runs row → (q ≡ at q.root.0 row 0 → ⊥) → Returns d (stops_by d f) p (at q.root.0 row 0)
    other_behind row below w m v n =
        let t = count_of below (count_in d.runs row) w.within in
        ⊎_elim
        (λ h. first_behind row below w m v h)
        (λ h.
        let z : offset d p ≡ 0 = omega arith in
        absurd (n (e ∙ ap (place d) z ∙ ap (place d) (sym (zero_of row below w v)) ∙ sym (start_run row t.0 t.1) ∙ ap (λ o. at o row 0) (sym begin_root))))
        (cases_lt 0 (offset d p))
