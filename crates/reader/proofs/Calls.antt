-- What the code of each read shows, as a step.
use Rattle.std.proofs.Common.{◌≡◌, ℕ, ◌≤◌, List, Ok, Err, Result, sym, ap, ◌∙◌, subst, arith}
use Rattle.rows.specs.declared.refusal.Refusal.{Refusal}
use Rattle.rows.specs.declared.refusal.Refusal.TheVariants.{BadTables, BadRow, BadRoot, BadRun, BadWords, BadLine, AtEnd, AtStart, Misplaced, Beyond, Needed}
use Rattle.source.specs.Runs.{Document, Sound}
use Rattle.position.specs.declared.position.Position.{Position}
use Rattle.position.specs.Places.{Lawful, offset, place, total, NoForward, NoBackward}
use Rattle.unit.specs.Stops.{Stops, Forward, Backward}
use Rattle.unit.specs.Moves.{Goes, Returns}
use Rattle.range.specs.declared.range.Range.{Range}
use Rattle.range.specs.Ranges.{range}
use Rattle.range.specs.Texts.{NoText, Texts}
use Rattle.reader.specs.Steps.{read_on, read_back, replied, turned, NoOn, NoBack, Onto, Back, Step}
use Rattle.reader.proofs.Places.{lawful_place, off_place, off_inside}

-- reading on from the end, biased to start
module _ (d : Document) (u : Stops) (s : Range) (st : Position) (sound : Sound d) (strip before : List ℕ) (l : Lawful d s.end) (e : st ≡ place d (offset d s.end)) where
  same_offset : offset d st ≡ offset d s.end
  same_offset = ap (offset d) e ∙ off_place d sound (offset d s.end) (off_inside d sound s.end l)

  start_lawful : Lawful d st
  start_lawful = subst (Lawful d) (sym e) (lawful_place d sound (offset d s.end) (off_inside d sound s.end l))

  pub on_refused : (x : Refusal) → NoForward d st x → NoOn d u s strip before x
  on_refused BadTables w = absurd w
  on_refused (BadRow r) w = absurd w
  on_refused (BadRoot r) w = absurd w
  on_refused (BadRun r) w = absurd w
  on_refused (BadWords r) w = absurd w
  on_refused (BadLine r) w = absurd w
  on_refused AtEnd w = (l, sym same_offset ∙ w.1)
  on_refused AtStart w = absurd w
  on_refused Misplaced w = absurd (w start_lawful)
  on_refused Beyond w = absurd w
  on_refused (Needed n) w = absurd w

  pub on_read : (en : Position) → Goes d u st en → Onto d u s (range st en)
  on_read en w = record {
    lawful = l;
    to = w.to;
    moves = subst (λ n. Forward u (total d) n w.to) same_offset w.moves;
    start = e;
    end = w.lands;
  }

-- reading back from the start, biased to start
module _ (d : Document) (u : Stops) (s : Range) (en : Position) (sound : Sound d) (strip before : List ℕ) (l : Lawful d s.start) (e : en ≡ place d (offset d s.start)) where
  same_start : offset d en ≡ offset d s.start
  same_start = ap (offset d) e ∙ off_place d sound (offset d s.start) (off_inside d sound s.start l)

  end_lawful : Lawful d en
  end_lawful = subst (Lawful d) (sym e) (lawful_place d sound (offset d s.start) (off_inside d sound s.start l))

  pub back_refused : (x : Refusal) → NoBackward d en x → NoBack d u s strip before x
  back_refused BadTables w = absurd w
  back_refused (BadRow r) w = absurd w
  back_refused (BadRoot r) w = absurd w
  back_refused (BadRun r) w = absurd w
  back_refused (BadWords r) w = absurd w
  back_refused (BadLine r) w = absurd w
  back_refused AtEnd w = absurd w
  back_refused AtStart w = (l, sym same_start ∙ w.1)
  back_refused Misplaced w = absurd (w end_lawful)
  back_refused Beyond w = absurd w
  back_refused (Needed n) w = absurd w

  pub back_read : (st : Position) → Returns d u en st → Back d u s (range st en)
  back_read st w = record {
    lawful = l;
    to = w.to;
    moves = subst (λ n. Backward u n w.to) same_start w.moves;
    start = w.lands;
    end = e;
  }

-- a text between places is refused only where bytes are too few
module _ (d : Document) (u : Stops) (s t : Range) (sound : Sound d) (strip before : List ℕ) where
  on_text : Onto d u s t → (e : Refusal) → NoText d t strip before e → NoOn d u s strip before e
  on_text o BadTables w = absurd w
  on_text o (BadRow r) w = absurd w
  on_text o (BadRoot r) w = absurd w
  on_text o (BadRun r) w = absurd w
  on_text o (BadWords r) w = absurd w
  on_text o (BadLine r) w = absurd w
  on_text o AtEnd w = absurd w
  on_text o AtStart w = absurd w
  on_text o Misplaced w =
      let f = o.moves in
      let i = f.inside in
      let j = off_inside d sound s.end o.lawful in
      absurd (w (subst (Lawful d) (sym o.start) (lawful_place d sound (offset d s.end) j), subst (Lawful d) (sym o.end) (lawful_place d sound o.to i)))
  on_text o Beyond w = absurd w
  on_text o (Needed n) w = (t, o, w.1)

  back_text : Back d u s t → (e : Refusal) → NoText d t strip before e → NoBack d u s strip before e
  back_text o BadTables w = absurd w
  back_text o (BadRow r) w = absurd w
  back_text o (BadRoot r) w = absurd w
  back_text o (BadRun r) w = absurd w
  back_text o (BadWords r) w = absurd w
  back_text o (BadLine r) w = absurd w
  back_text o AtEnd w = absurd w
  back_text o AtStart w = absurd w
  back_text o Misplaced w =
      let f = o.moves in
      let j = off_inside d sound s.start o.lawful in
      let b = f.before in
      let i : o.to ≤ total d = omega arith in
      absurd (w (subst (Lawful d) (sym o.start) (lawful_place d sound o.to i), subst (Lawful d) (sym o.end) (lawful_place d sound (offset d s.start) j)))
  back_text o Beyond w = absurd w
  back_text o (Needed n) w = (t, o, w.1)

  -- a text that is written, or refused, is the read
  pub on_turn : (v : Range) (after : List ℕ) (r : Result ℕ Refusal) → Onto d u s t → Texts d t strip before r after → v ≡ turned s t r → Step d s (read_on u strip before) (replied after r) v
  on_turn v after (Ok n) o w e = subst (λ x. Step d s (read_on u strip before) (replied after (Ok n)) x) (sym e) (o, w.1)
  on_turn v after (Err x) o w e = (e, w.0, on_text o x w.1)

  pub back_turn : (v : Range) (after : List ℕ) (r : Result ℕ Refusal) → Back d u s t → Texts d t strip before r after → v ≡ turned s t r → Step d s (read_back u strip before) (replied after r) v
  back_turn v after (Ok n) o w e = subst (λ x. Step d s (read_back u strip before) (replied after (Ok n)) x) (sym e) (o, w.1)
  back_turn v after (Err x) o w e = (e, w.0, back_text o x w.1)
