-- Line moves made again until a paragraph starts come to the first paragraph start after, or the last before.
use Rattle.std.proofs.Common.{◌≡◌, ℕ, zero, suc, ◌<◌, true, false, not, eqb, List, Some, None, Option, sym, refl, ap, ◌∙◌, ⊎_elim, arith}
use Rattle.std.proofs.lemmas.Bool.{both_ways, eqb-true, ne_eqb, cases_lt, or_cases, or_parts, or_from, or_right, and_parts, and_cases, and_left, and_right}
use Rattle.rows.specs.declared.node.NodeId.{NodeId}
use Rattle.source.specs.Runs.{Run, Document, Sound, count_in, next_in, previous_in}
use Rattle.position.specs.declared.position.Position.{Position}
use Rattle.position.specs.Places.{Lawful, offset_in, offset, total, place, at_end}
use Rattle.starts.specs.Starts.{joins, breaks, opens_line, opens_paragraph, unjoined, broken, is_none, run_end, starts_line, starts_paragraph, ends_document}
use Rattle.position.proofs.Options.{count_of}
use Rattle.position.proofs.Places.{offset_inside}
use Rattle.position.proofs.Neighbours.{offset_add, meets_end}
use Rattle.unit.specs.Marks.{lines, paragraphs}
use Rattle.moves.specs.Arrivals.{Arrives, Retreats}
use Rattle.moves.specs.Repeats.{Repeated, LineOn, LineBack, end_or_start}
use Rattle.moves.proofs.Steps.{place_at, on_lawful, on_row, back_lawful}

broken_line : (xs : List Run) (o : Option NodeId) → unjoined xs o ≡ false → broken xs o ≡ false
broken_line xs None h = h
broken_line xs (Some q) h = and_left (not (joins xs q.0)) (breaks xs q.0) h

-- a paragraph starts only where a line does
pub paragraph_line : (d : Document) (k : ℕ) → (lines d).stop k ≡ false → (paragraphs d).stop k ≡ false
paragraph_line d k h =
    let p = place d k in
    let t = or_parts (eqb k 0) (starts_line d p) h in
    or_from (eqb k 0) (starts_paragraph d p) t.0
    (⊎_elim
    (λ u. and_left (eqb p.index 0) (opens_paragraph d.runs p.row.0) u)
    (λ u. and_right (eqb p.index 0) (opens_paragraph d.runs p.row.0) (broken_line d.runs (previous_in d.runs p.row.0) u))
    (and_cases (eqb p.index 0) (opens_line d.runs p.row.0) t.1))

module _ (d : Document) (s : Sound d) where
  -- the document's end is the end place
  end_total : (q : Position) → Lawful d q → ends_document d q ≡ true → offset d q ≡ total d
  end_total q l e =
      let t = and_parts (run_end d q) (is_none (next_in d.runs q.row.0)) e in
      let c = count_of q.index (count_in d.runs q.row.0) l.1 in
      let i = eqb-true q.index c.0 (ap (λ o. at_end o q.index) c.1 ∙ t.0) in
      let x = offset_add d.runs q.row.0 q.index c.0 c.1 in
      let y = meets_end d.runs q.row.0 c.0 c.1 (is_none_lem (next_in d.runs q.row.0) t.1) in
      omega arith
    where
      is_none_lem : (o : Option NodeId) → is_none o ≡ true → None ≡ o
      is_none_lem None h = refl
      is_none_lem (Some n) h = absurd (both_ways (is_none (Some n)) refl h)

  -- where a move comes to no paragraph's start, its place is no stop
  passed : (m : Position) (b k : ℕ) → m ≡ place d b → starts_paragraph d m ≡ false → b ≡ k → 0 < k → (paragraphs d).stop k ≡ false
  passed m b k w e z h =
      or_from (eqb k 0) (starts_paragraph d (place d k)) (ne_eqb k 0 (omega arith))
      (ap (starts_paragraph d) (ap (place d) (sym z) ∙ sym w) ∙ e)

  pub on_closed : (i : ℕ) (p q : Position) → Repeated (LineOn d) (end_or_start d) i p q → Arrives d (paragraphs d) (offset_in d.runs p.row.0 0) q
  on_closed zero p q (v, g) =
      let b = v.to in
      let i = v.moves.inside in
      record {
        to = b;
        moves = record {
          inside = i;
          from = v.moves.from;
          after = v.moves.after;
          lands = λ h.
              or_right (eqb b 0) (starts_paragraph d (place d b))
              (⊎_elim
              (λ x.
              let z = end_total q (on_lawful d s p q v) x in
              let y : offset d q ≡ b = ap (offset d) v.lands ∙ place_at d s b i in
              absurd (omega arith))
              (λ x. ap (starts_paragraph d) (sym v.lands) ∙ x)
              (or_cases (ends_document d q) (starts_paragraph d q) g));
          skips = λ k x y. paragraph_line d k (v.moves.skips k x y);
        };
        lands = v.lands;
      }
  on_closed (suc n) p q (m, v, e, w) =
      let c = on_closed n m q w in
      let r = on_row d s p m v e in
      let x = r.0 in
      let y = r.1 in
      let f = c.moves.from in
      let b = v.to in
      record {
        to = c.to;
        moves = record {
          inside = c.moves.inside;
          from = omega arith;
          after = λ h. omega arith;
          lands = c.moves.lands;
          skips = λ k g h.
              ⊎_elim
              (λ i. paragraph_line d k (v.moves.skips k g i))
              (λ i.
              ⊎_elim
              (λ j. c.moves.skips k (omega arith) h)
              (λ j. passed m b k v.lands (or_parts (ends_document d m) (starts_paragraph d m) e).1 (omega arith) (omega arith))
              (cases_lt b k))
              (cases_lt k b);
        };
        lands = c.lands;
      }

  pub back_closed : (i : ℕ) (p q : Position) → Lawful d p → Repeated (LineBack d) (starts_paragraph d) i p q → Retreats d (paragraphs d) (offset d p) q
  back_closed zero p q l (v, g) =
      let b = v.to in
      record {
        to = b;
        moves = record {
          inside = v.moves.inside;
          before = v.moves.before;
          lands = or_right (eqb b 0) (starts_paragraph d (place d b)) (ap (starts_paragraph d) (sym v.lands) ∙ g);
          skips = λ k x y. paragraph_line d k (v.moves.skips k x y);
        };
        lands = v.lands;
      }
  back_closed (suc n) p q l (m, v, e, w) =
      let c = back_closed n m q (back_lawful d s p m l v) w in
      let b = v.to in
      let h = offset_inside d.runs p.row.0 p.index l.1 in
      let i = v.moves.inside in
      let o : offset d m ≡ b = ap (offset d) v.lands ∙ place_at d s b (omega arith) in
      let f = c.moves.inside in
      record {
        to = c.to;
        moves = record {
          inside = omega arith;
          before = λ g. let z = v.moves.before g in omega arith;
          lands = c.moves.lands;
          skips = λ k x y.
              ⊎_elim
              (λ g. c.moves.skips k x (omega arith))
              (λ g.
              ⊎_elim
              (λ j. paragraph_line d k (v.moves.skips k j y))
              (λ j. passed m b k v.lands e (omega arith) (omega arith))
              (cases_lt b k))
              (cases_lt k b);
        };
        lands = c.lands;
      }
