-- Why the laws of a reader hold after any list of calls.
use Rattle.std.proofs.Common.{◌≡◌, ℕ, ◌-◌, ◌<◌, ◌≤◌, true, List, [], ◌∷◌, ◌++◌, take, drop, Some, Ok, Err, Result, sym, refl, ap, ◌∙◌, subst, ⊎_elim, append_assoc, arith}
use Rattle.std.proofs.lemmas.Bool.{cases_lt}
use Rattle.std.proofs.lemmas.List.{append-nil, take_at}
use Rattle.rows.specs.declared.refusal.Refusal.{Refusal}
use Rattle.rows.specs.declared.refusal.Refusal.TheVariants.{AtEnd, AtStart}
use Rattle.source.specs.Runs.{Document, Sound}
use Rattle.source.specs.Pieces.{bytes_of}
use Rattle.position.specs.declared.position.Position.{Position}
use Rattle.position.specs.Places.{Lawful, offset, place, total}
use Rattle.position.proofs.Options.{some_same, not_none}
use Rattle.unit.specs.Stops.{Stops}
use Rattle.range.specs.declared.range.Range.{Range}
use Rattle.range.specs.Ranges.{range}
use Rattle.range.specs.Texts.{between, bytes_in, Written, Texts}
use Rattle.range.proofs.Characters.{between_none, between_split, bytes_append}
use Rattle.range.proofs.Laws.{why_text, text_single}
use Rattle.reader.specs.Spans.{stops_from, opened, spans}
use Rattle.reader.specs.Steps.{Call, read_on, read_back, set_start, set_end, Answer, piece, done, refused, NoOn, NoBack, Onto, Back, Step, fresh}
use Rattle.reader.specs.Laws.{Entry, Valid, final, Orderly, Told, handed, why, OnOrRefused, BackOrRefused, OnBy, BackBy, All, piece_of, onward, backward, read_if, reads, reads_back, Point, Stretch, Reads}
use Rattle.reader.proofs.Places.{lawful_place, off_place, off_inside}
use Rattle.reader.proofs.Spans.{from, span, from_end, from_on, from_some, upto, upto_back, upto_some, chain_all}
use Rattle.reader.proofs.Indexes.{index_more}
use Rattle.reader.proofs.Single.{why_on, why_back, step_one}

-- the bytes between two places
abbrev bytes : Document → ℕ → ℕ → List ℕ
bytes d a b = bytes_of (between d a b)

bytes_same : (d : Document) (a : ℕ) → bytes d a a ≡ []
bytes_same d a = ap bytes_of (between_none d a a (omega arith))

bytes_split : (d : Document) (a b c : ℕ) → a ≤ b → b ≤ c → bytes d a b ++ bytes d b c ≡ bytes d a c
bytes_split d a b c p q = sym (bytes_append (between d a b) (between d b c)) ∙ ap bytes_of (between_split d a b c p q)

-- what the buffer holds, as far as it was written, is the range's bytes
written_piece : (d : Document) (t : Range) (strip before : List ℕ) (n : ℕ) (after : List ℕ) → Written d t strip before n after → take n after ≡ bytes_in d t
written_piece d t strip before n after w = ap (take n) w.holds ∙ take_at (bytes_in d t) (drop n before) n (sym w.count)

-- a history, cut in two
final_append : (s : Range) (h k : List Entry) → final s (h ++ k) ≡ final (final s h) k
final_append s [] k = refl
final_append s (e ∷ h) k = final_append e.after h k

valid_front : (d : Document) (s : Range) (h k : List Entry) → Valid d s (h ++ k) → Valid d s h
valid_front d s [] k v = tt
valid_front d s (e ∷ h) k v = (v.0, valid_front d e.after h k v.1)

valid_back : (d : Document) (s : Range) (h k : List Entry) → Valid d s (h ++ k) → Valid d (final s h) k
valid_back d s [] k v = v
valid_back d s (e ∷ h) k v = valid_back d e.after h k v.1

-- a refused call changes nothing
unchanged : (d : Document) (s : Range) (c : Call) (e : Refusal) (a : List ℕ) (t : Range) → Step d s c (refused e a) t → (t ≡ s) × (a ≡ handed c)
unchanged d s (read_on u p b) e a t v = (v.0, v.1)
unchanged d s (read_back u p b) e a t v = (v.0, v.1)
unchanged d s (set_start p) e a t v = (v.0, v.1)
unchanged d s (set_end p) e a t v = (v.0, v.1)

module _ (d : Document) (sound : Sound d) where
  -- a range between two places
  orderly_places : (a b : ℕ) (t : Range) → a ≤ b → b ≤ total d → t.start ≡ place d a → t.end ≡ place d b → Orderly d t
  orderly_places a b t p q e f =
      let i : a ≤ total d = omega arith in
      let x = ap (offset d) e ∙ off_place d sound a i in
      let y = ap (offset d) f ∙ off_place d sound b q in
      record {
        start = subst (Lawful d) (sym e) (lawful_place d sound a i);
        end = subst (Lawful d) (sym f) (lawful_place d sound b q);
        ordered = omega arith;
      }

  orderly_range : (p q : Position) (t : Range) → Lawful d p → Lawful d q → offset d p ≤ offset d q → t ≡ range p q → Orderly d t
  orderly_range p q t l m o e = subst (Orderly d) (sym e) (record { start = l; end = m; ordered = o })

  -- the start biased to start, before an end
  orderly_biased : (p q : Position) (t : Range) → Lawful d p → Lawful d q → offset d p < offset d q → t ≡ range (place d (offset d p)) q → Orderly d t
  orderly_biased p q t l m h e =
      let i = off_inside d sound p l in
      let z = off_place d sound (offset d p) i in
      orderly_range (place d (offset d p)) q t (lawful_place d sound (offset d p) i) m (omega arith) e

  step_orderly : (s : Range) (c : Call) (a : Answer) (t : Range) → Orderly d s → Step d s c a t → Orderly d t
  step_orderly s (read_on u pp bb) (piece x y) t o v =
      let f = v.0.moves in
      orderly_places (offset d s.end) v.0.to t (omega (arith, f.after)) f.inside v.0.start v.0.end
  step_orderly s (read_on u pp bb) done t o v = absurd v
  step_orderly s (read_on u pp bb) (refused e y) t o v = subst (Orderly d) (sym v.0) o
  step_orderly s (read_back u pp bb) (piece x y) t o v =
      let f = v.0.moves in
      orderly_places v.0.to (offset d s.start) t (omega (arith, f.before)) (off_inside d sound s.start v.0.lawful) v.0.start v.0.end
  step_orderly s (read_back u pp bb) done t o v = absurd v
  step_orderly s (read_back u pp bb) (refused e y) t o v = subst (Orderly d) (sym v.0) o
  step_orderly s (set_start p) (piece x y) t o v = absurd v
  step_orderly s (set_start p) done t o v =
      ⊎_elim
      (λ h. orderly_biased p s.end t v.0.0 o.end h (v.1.0 h))
      (λ h. orderly_range p p t v.0.0 v.0.0 (omega arith) (v.1.1 h))
      (cases_lt (offset d p) (offset d s.end))
  step_orderly s (set_start p) (refused e y) t o v = subst (Orderly d) (sym v.0) o
  step_orderly s (set_end p) (piece x y) t o v = absurd v
  step_orderly s (set_end p) done t o v =
      ⊎_elim
      (λ h. orderly_biased s.start p t o.start v.0.0 h (v.1.0 h))
      (λ h. orderly_range p p t v.0.0 v.0.0 (omega arith) (v.1.1 h))
      (cases_lt (offset d s.start) (offset d p))
  step_orderly s (set_end p) (refused e y) t o v = subst (Orderly d) (sym v.0) o

  runs_orderly : (s : Range) (h : List Entry) → Orderly d s → Valid d s h → Orderly d (final s h)
  runs_orderly s [] o v = o
  runs_orderly s (e ∷ h) o v = runs_orderly e.after h (step_orderly s e.call e.answer e.after o v.0) v.1

  fresh_orderly : Orderly d (fresh d)
  fresh_orderly = orderly_places 0 0 (fresh d) (omega arith) (omega arith) refl refl

  -- what one call of a stretch of read-ons reads
  record OnStep (s : Range) (a : Answer) (t : Range) : Type 0 where
    up : offset d s.end ≤ offset d t.end
    reads_it : piece_of a ≡ bytes d (offset d s.end) (offset d t.end)

  on_same : (s t : Range) (e : Refusal) (y : List ℕ) → t ≡ s → OnStep s (refused e y) t
  on_same s t e y q =
      subst (λ r. OnStep s (refused e y) r) (sym q) (record { up = omega arith; reads_it = sym (bytes_same d (offset d s.end)) })

  on_step : (s : Range) (c : Call) (a : Answer) (t : Range) → OnOrRefused c a → Step d s c a t → OnStep s a t
  on_step s (read_on u pp bb) (piece x y) t n v =
      let f = v.0.moves in
      let i = f.inside in
      let j = f.after in
      let p : offset d t.start ≡ offset d s.end = ap (offset d) v.0.start ∙ off_place d sound (offset d s.end) (omega arith) in
      let q : offset d t.end ≡ v.0.to = ap (offset d) v.0.end ∙ off_place d sound v.0.to i in
      record { up = omega arith; reads_it = written_piece d t pp bb x y v.1 ∙ ap (λ m. bytes d m (offset d t.end)) p }
  on_step s (read_on u pp bb) done t n v = absurd v
  on_step s (read_on u pp bb) (refused e y) t n v = on_same s t e y v.0
  on_step s (read_back u pp bb) (piece x y) t n v = absurd n
  on_step s (read_back u pp bb) done t n v = absurd v
  on_step s (read_back u pp bb) (refused e y) t n v = on_same s t e y v.0
  on_step s (set_start p) (piece x y) t n v = absurd n
  on_step s (set_start p) done t n v = absurd n
  on_step s (set_start p) (refused e y) t n v = on_same s t e y v.0
  on_step s (set_end p) (piece x y) t n v = absurd n
  on_step s (set_end p) done t n v = absurd n
  on_step s (set_end p) (refused e y) t n v = on_same s t e y v.0

  record OnRun (s : Range) (k : List Entry) : Type 0 where
    up : offset d s.end ≤ offset d (final s k).end
    reads_it : onward k ≡ bytes d (offset d s.end) (offset d (final s k).end)

  on_run : (s : Range) (k : List Entry) → All OnOrRefused k → Valid d s k → OnRun s k
  on_run s [] n v = record { up = omega arith; reads_it = sym (bytes_same d (offset d s.end)) }
  on_run s (e ∷ k) n v =
      let x = on_step s e.call e.answer e.after n.0 v.0 in
      let y = on_run e.after k n.1 v.1 in
      let p = x.up in
      let q = y.up in
      record {
        up = omega arith;
        reads_it = ap (λ l. l ++ onward k) x.reads_it
            ∙ ap (λ l. bytes d (offset d s.end) (offset d e.after.end) ++ l) y.reads_it
            ∙ bytes_split d (offset d s.end) (offset d e.after.end) (offset d (final e.after k).end) p q;
      }

  -- the same backwards
  record BackStep (s : Range) (a : Answer) (t : Range) : Type 0 where
    down : offset d t.start ≤ offset d s.start
    reads_it : piece_of a ≡ bytes d (offset d t.start) (offset d s.start)

  back_same : (s t : Range) (e : Refusal) (y : List ℕ) → t ≡ s → BackStep s (refused e y) t
  back_same s t e y q =
      subst (λ r. BackStep s (refused e y) r) (sym q) (record { down = omega arith; reads_it = sym (bytes_same d (offset d s.start)) })

  back_step : (s : Range) (c : Call) (a : Answer) (t : Range) → BackOrRefused c a → Step d s c a t → BackStep s a t
  back_step s (read_back u pp bb) (piece x y) t n v =
      let f = v.0.moves in
      let j = f.before in
      let i = off_inside d sound s.start v.0.lawful in
      let p : offset d t.start ≡ v.0.to = ap (offset d) v.0.start ∙ off_place d sound v.0.to (omega arith) in
      let q : offset d t.end ≡ offset d s.start = ap (offset d) v.0.end ∙ off_place d sound (offset d s.start) i in
      record { down = omega arith; reads_it = written_piece d t pp bb x y v.1 ∙ ap (λ m. bytes d (offset d t.start) m) q }
  back_step s (read_back u pp bb) done t n v = absurd v
  back_step s (read_back u pp bb) (refused e y) t n v = back_same s t e y v.0
  back_step s (read_on u pp bb) (piece x y) t n v = absurd n
  back_step s (read_on u pp bb) done t n v = absurd v
  back_step s (read_on u pp bb) (refused e y) t n v = back_same s t e y v.0
  back_step s (set_start p) (piece x y) t n v = absurd n
  back_step s (set_start p) done t n v = absurd n
  back_step s (set_start p) (refused e y) t n v = back_same s t e y v.0
  back_step s (set_end p) (piece x y) t n v = absurd n
  back_step s (set_end p) done t n v = absurd n
  back_step s (set_end p) (refused e y) t n v = back_same s t e y v.0

  record BackRun (s : Range) (k : List Entry) : Type 0 where
    down : offset d (final s k).start ≤ offset d s.start
    reads_it : backward k ≡ bytes d (offset d (final s k).start) (offset d s.start)

  back_run : (s : Range) (k : List Entry) → All BackOrRefused k → Valid d s k → BackRun s k
  back_run s [] n v = record { down = omega arith; reads_it = sym (bytes_same d (offset d s.start)) }
  back_run s (e ∷ k) n v =
      let x = back_step s e.call e.answer e.after n.0 v.0 in
      let y = back_run e.after k n.1 v.1 in
      let p = x.down in
      let q = y.down in
      record {
        down = omega arith;
        reads_it = ap (λ l. backward k ++ l) x.reads_it
            ∙ ap (λ l. l ++ bytes d (offset d e.after.start) (offset d s.start)) y.reads_it
            ∙ bytes_split d (offset d (final e.after k).start) (offset d e.after.start) (offset d s.start) q p;
      }

  -- one unit: the spans from the old end on are those that were read, and those from the new end on
  record UnitRun (u : Stops) (s : Range) (k : List Entry) : Type 0 where
    stopped : offset d (final s k).end < total d → u.stop (offset d (final s k).end) ≡ true
    reads_it : from u (total d) (offset d s.end) ≡ reads d k ++ from u (total d) (offset d (final s k).end)

  AtStop : Stops → Range → Type 0
  AtStop u s = offset d s.end < total d → u.stop (offset d s.end) ≡ true

  record UnitStep (u : Stops) (s : Range) (a : Answer) (t : Range) : Type 0 where
    stopped : AtStop u t
    reads_it : from u (total d) (offset d s.end) ≡ read_if d a t ++ from u (total d) (offset d t.end)

  unit_same : (u : Stops) (s t : Range) (e : Refusal) (y : List ℕ) → t ≡ s → AtStop u s → UnitStep u s (refused e y) t
  unit_same u s t e y q m = subst (λ r. UnitStep u s (refused e y) r) (sym q) (record { stopped = m; reads_it = refl })

  unit_on : (u : Stops) (s : Range) (x : ℕ) (y : List ℕ) (t : Range) → AtStop u s → Onto d u s t → UnitStep u s (piece x y) t
  unfolding AtStop
  unit_on u s x y t m v =
      let f = v.moves in
      let i = f.inside in
      let j = f.after in
      let p : offset d t.start ≡ offset d s.end = ap (offset d) v.start ∙ off_place d sound (offset d s.end) (omega arith) in
      let q : offset d t.end ≡ v.to = ap (offset d) v.end ∙ off_place d sound v.to i in
      let z = from_on u (total d) (offset d s.end) v.to f (m (omega arith)) in
      record {
        stopped = λ l. ap u.stop q ∙ f.lands (omega arith);
        reads_it = z ∙ ap (λ n. span (offset d s.end) n ∷ from u (total d) n) (sym q)
            ∙ ap (λ n. span n (offset d t.end) ∷ from u (total d) (offset d t.end)) (sym p);
      }

  unit_step : (u : Stops) (s : Range) (c : Call) (a : Answer) (t : Range) → OnBy u c a → AtStop u s → Step d s c a t → UnitStep u s a t
  unit_step u s (read_on w pp bb) (piece x y) t n m v = unit_on u s x y t m (subst (λ o. Onto d o s t) n v.0)
  unit_step u s (read_on w pp bb) done t n m v = absurd v
  unit_step u s (read_on w pp bb) (refused e y) t n m v = unit_same u s t e y v.0 m
  unit_step u s (read_back w pp bb) (piece x y) t n m v = absurd n
  unit_step u s (read_back w pp bb) done t n m v = absurd v
  unit_step u s (read_back w pp bb) (refused e y) t n m v = unit_same u s t e y v.0 m
  unit_step u s (set_start p) (piece x y) t n m v = absurd n
  unit_step u s (set_start p) done t n m v = absurd n
  unit_step u s (set_start p) (refused e y) t n m v = unit_same u s t e y v.0 m
  unit_step u s (set_end p) (piece x y) t n m v = absurd n
  unit_step u s (set_end p) done t n m v = absurd n
  unit_step u s (set_end p) (refused e y) t n m v = unit_same u s t e y v.0 m

  unit_run : (u : Stops) (s : Range) (k : List Entry) → All (OnBy u) k → AtStop u s → Valid d s k → UnitRun u s k
  unfolding AtStop
  unit_run u s [] n m v = record { stopped = m; reads_it = refl }
  unit_run u s (e ∷ k) n m v =
      let x = unit_step u s e.call e.answer e.after n.0 m v.0 in
      let y = unit_run u e.after k n.1 x.stopped v.1 in
      let a = read_if d e.answer e.after in
      record {
        stopped = y.stopped;
        reads_it = x.reads_it ∙ ap (λ l. a ++ l) y.reads_it ∙ sym (append_assoc a (reads d k) (from u (total d) (offset d (final e.after k).end)));
      }

  -- read-on is refused with 7 exactly at the end place
  at_end_lem : (u : Stops) (pp bb : List ℕ) (s : Range) (a : Answer) (t : Range) → Orderly d s → Step d s (read_on u pp bb) a t → offset d s.end ≡ total d → why a ≡ Some AtEnd
  at_end_lem u pp bb s (piece x y) t o v e = let f = v.0.moves in let i = f.inside in let j = f.after in absurd (omega arith)
  at_end_lem u pp bb s done t o v e = absurd v
  at_end_lem u pp bb s (refused f y) t o v e =
      ⊎_elim
      (λ x. ap Some x.0)
      (λ x. ⊎_elim (λ z. absurd (z.1 o.end)) (λ z. let m = z.3.moves in let i = m.inside in let j = m.after in absurd (omega arith)) x)
      (why_on d s u pp bb f v.2)

  when_end : (u : Stops) (pp bb : List ℕ) (s : Range) (a : Answer) (t : Range) → Step d s (read_on u pp bb) a t → why a ≡ Some AtEnd → offset d s.end ≡ total d
  when_end u pp bb s (piece x y) t v e = absurd (not_none AtEnd (sym e))
  when_end u pp bb s done t v e = absurd v
  when_end u pp bb s (refused f y) t v e = (subst (NoOn d u s pp bb) (some_same f AtEnd e) v.2).1

  -- one unit, backwards
  record BackUnit (u : Stops) (s : Range) (a : Answer) (t : Range) : Type 0 where
    reads_it : upto u (offset d s.start) ≡ upto u (offset d t.start) ++ read_if d a t

  back_unit_same : (u : Stops) (s t : Range) (e : Refusal) (y : List ℕ) → t ≡ s → BackUnit u s (refused e y) t
  back_unit_same u s t e y q = subst (λ r. BackUnit u s (refused e y) r) (sym q) (record { reads_it = sym (append-nil (upto u (offset d s.start))) })

  back_unit_on : (u : Stops) (s : Range) (x : ℕ) (y : List ℕ) (t : Range) → Back d u s t → BackUnit u s (piece x y) t
  back_unit_on u s x y t v =
      let f = v.moves in
      let j = f.before in
      let i = off_inside d sound s.start v.lawful in
      let p : offset d t.start ≡ v.to = ap (offset d) v.start ∙ off_place d sound v.to (omega arith) in
      let q : offset d t.end ≡ offset d s.start = ap (offset d) v.end ∙ off_place d sound (offset d s.start) i in
      record {
        reads_it = upto_back u (offset d s.start) v.to f
            ∙ ap (λ n. upto u n ++ (span n (offset d s.start) ∷ [])) (sym p)
            ∙ ap (λ n. upto u (offset d t.start) ++ (span (offset d t.start) n ∷ [])) (sym q);
      }

  back_unit_step : (u : Stops) (s : Range) (c : Call) (a : Answer) (t : Range) → BackBy u c a → Step d s c a t → BackUnit u s a t
  back_unit_step u s (read_back w pp bb) (piece x y) t n v = back_unit_on u s x y t (subst (λ o. Back d o s t) n v.0)
  back_unit_step u s (read_back w pp bb) done t n v = absurd v
  back_unit_step u s (read_back w pp bb) (refused e y) t n v = back_unit_same u s t e y v.0
  back_unit_step u s (read_on w pp bb) (piece x y) t n v = absurd n
  back_unit_step u s (read_on w pp bb) done t n v = absurd v
  back_unit_step u s (read_on w pp bb) (refused e y) t n v = back_unit_same u s t e y v.0
  back_unit_step u s (set_start p) (piece x y) t n v = absurd n
  back_unit_step u s (set_start p) done t n v = absurd n
  back_unit_step u s (set_start p) (refused e y) t n v = back_unit_same u s t e y v.0
  back_unit_step u s (set_end p) (piece x y) t n v = absurd n
  back_unit_step u s (set_end p) done t n v = absurd n
  back_unit_step u s (set_end p) (refused e y) t n v = back_unit_same u s t e y v.0

  back_unit_run : (u : Stops) (s : Range) (k : List Entry) → All (BackBy u) k → Valid d s k → upto u (offset d s.start) ≡ upto u (offset d (final s k).start) ++ reads_back d k
  back_unit_run u s [] n v = sym (append-nil (upto u (offset d s.start)))
  back_unit_run u s (e ∷ k) n v =
      let x = back_unit_step u s e.call e.answer e.after n.0 v.0 in
      let y = back_unit_run u e.after k n.1 v.1 in
      let a = read_if d e.answer e.after in
      x.reads_it ∙ ap (λ l. l ++ a) y ∙ append_assoc (upto u (offset d (final e.after k).start)) (reads_back d k) a

  -- read-back is refused with 8 exactly at the first place
  at_start : (u : Stops) (pp bb : List ℕ) (s : Range) (a : Answer) (t : Range) → Orderly d s → Step d s (read_back u pp bb) a t → offset d s.start ≡ 0 → why a ≡ Some AtStart
  at_start u pp bb s (piece x y) t o v e = let f = v.0.moves in let j = f.before in absurd (omega arith)
  at_start u pp bb s done t o v e = absurd v
  at_start u pp bb s (refused f y) t o v e =
      ⊎_elim
      (λ x. ap Some x.0)
      (λ x. ⊎_elim (λ z. absurd (z.1 o.start)) (λ z. let m = z.3.moves in let j = m.before in absurd (omega arith)) x)
      (why_back d s u pp bb f v.2)

  when_start : (u : Stops) (pp bb : List ℕ) (s : Range) (a : Answer) (t : Range) → Step d s (read_back u pp bb) a t → why a ≡ Some AtStart → offset d s.start ≡ 0
  when_start u pp bb s (piece x y) t v e = absurd (not_none AtStart (sym e))
  when_start u pp bb s done t v e = absurd v
  when_start u pp bb s (refused f y) t v e = (subst (NoBack d u s pp bb) (some_same f AtStart e) v.2).1

  -- a call for the text of a range whose ends are positions
  told : (t : Range) → Orderly d t → (strip before after : List ℕ) (r : Result ℕ Refusal) → Texts d t strip before r after → Told d t strip before r after
  told t o strip before after (Ok n) w = w.1
  told t o strip before after (Err e) w =
      (w.0, ⊎_elim (λ x. absurd (x.1 (o.start, o.end))) (λ x. (x.0, x.1, x.3)) (why_text d t strip before e w.1))

  point : (s : Range) → Orderly d s → Point d s
  point s o = record {
    orderly = o;
    texts = told s o;
    one_text = text_single d s;
    indexes = λ u. index_more u d (offset d s.start) (offset d s.end) sound o.ordered;
    unchanged = unchanged d s;
    one_step = step_one d s;
  }

  stretch : (h k : List Entry) → Valid d (fresh d) (h ++ k) → Stretch d h k
  unfolding AtStop
  stretch h k v =
      let f = fresh d in
      let s = final f h in
      let vh = valid_front d f h k v in
      let vk = valid_back d f h k v in
      let fa = final_append f h k in
      let os = runs_orderly f h fresh_orderly vh in
      let ot = runs_orderly s k os vk in
      record {
        before = point s os;
        after = subst (Point d) (sym fa) (point (final s k) ot);
        joins_on = λ n. (on_run s k n vk).reads_it ∙ ap (λ t. bytes d (offset d s.end) (offset d t.end)) (sym fa);
        joins_back = λ n. (back_run s k n vk).reads_it ∙ ap (λ t. bytes d (offset d t.start) (offset d s.start)) (sym fa);
        spans_on = λ u zz n.
            let z = zz.1 in
            let m : offset d s.end < total d → u.stop (offset d s.end) ≡ true = λ l. ap u.stop z ∙ u.first in
            let r = unit_run u s k n m vk in
            let t = final s k in
            let e0 : total d ≡ total d - offset d s.end = omega arith in
            let e1 : spans u (total d) ≡ from u (total d) (offset d s.end) = ap (λ n. opened (total d) (stops_from u 0 n)) e0 ∙ ap (λ n. opened (total d) (stops_from u n (total d - offset d s.end))) (sym z) in (
              from u (total d) (offset d t.end),
              e1 ∙ r.reads_it,
              (λ pp bb x y w.
                  let w1 : Step d t (read_on u pp bb) x y = subst (λ i. Step d i (read_on u pp bb) x y) fa w in (
                    (λ a. ap (from u (total d)) (when_end u pp bb t x y w1 a) ∙ from_end u (total d)),
                    (λ a. at_end_lem u pp bb t x y ot w1 (⊎_elim (λ l. absurd (from_some u (total d) (offset d t.end) l (r.stopped l) a)) (λ l. let i = off_inside d sound t.end ot.end in omega arith) (cases_lt (offset d t.end) (total d)))),
                  )),
            );
        spans_back = λ u zz n.
            let z = zz.0 in
            let t = final s k in (
              upto u (offset d t.start),
              ap (upto u) (sym z) ∙ back_unit_run u s k n vk,
              (λ pp bb x y w.
                  let w1 : Step d t (read_back u pp bb) x y = subst (λ i. Step d i (read_back u pp bb) x y) fa w in (
                    (λ a. ap (upto u) (when_start u pp bb t x y w1 a)),
                    (λ a. at_start u pp bb t x y ot w1 (⊎_elim (λ l. absurd (upto_some u (offset d t.start) l a)) (λ l. omega arith) (cases_lt 0 (offset d t.start)))),
                  )),
            );
      }

pub reads_laws : (d : Document) → Sound d → Reads d
reads_laws d sound = record { stretches = stretch d sound; chains = λ u. chain_all u (total d) }
