-- Why one answer fits each call, and one range after it.
use Rattle.std.proofs.Common.{◌≡◌, ℕ, ◌⊎◌, List, [], length, sym, refl, ap, ◌∙◌, subst, inl, inr, arith}
use Rattle.rows.specs.declared.refusal.Refusal.{Refusal}
use Rattle.rows.specs.declared.refusal.Refusal.TheVariants.{BadTables, BadRow, BadRoot, BadRun, BadWords, BadLine, AtEnd, AtStart, Misplaced, Beyond, Needed}
use Rattle.source.specs.Runs.{Document}
use Rattle.position.specs.declared.position.Position.{Position}
use Rattle.position.specs.Places.{Lawful, offset, place, total}
use Rattle.unit.specs.Stops.{Stops}
use Rattle.unit.proofs.Laws.{forward_single, backward_single}
use Rattle.range.specs.declared.range.Range.{Range}
use Rattle.range.specs.Ranges.{range}
use Rattle.range.specs.Texts.{Short, Written}
use Rattle.range.proofs.Laws.{start_single, end_single, same_short, not_short, same_written}
use Rattle.reader.specs.Steps.{Call, read_on, read_back, set_start, set_end, Answer, piece, done, refused, Onto, Back, NoOn, NoBack, Step}

-- why a read by any kind of move M is refused: at the edge, misplaced, or with too few bytes
abbrev pub Why : Document → List ℕ → List ℕ → (Range → Type 0) → Type 0 → Type 0 → Refusal → Refusal → Type 0
Why d strip before M L At edge e = ((e ≡ edge) × L × At) ⊎ (((e ≡ Misplaced) × (L → ⊥)) ⊎ ((n : ℕ) × (t : Range) × (e ≡ Needed n) × M t × Short d t strip (length before) n))

-- the reasons exclude one another where the move is single and is from no edge
module _ (d : Document) (strip before : List ℕ) (M : Range → Type 0) (L At : Type 0) (edge : Refusal) (one : (t w : Range) → M t → M w → t ≡ w) (free : (t : Range) → M t → L × (At → ⊥)) where
  same_why : (e f : Refusal) → Why d strip before M L At edge e → Why d strip before M L At edge f → e ≡ f
  same_why e f (inl x) (inl y) = x.0 ∙ sym y.0
  same_why e f (inl x) (inr (inl y)) = absurd (y.1 x.1)
  same_why e f (inl x) (inr (inr y)) = absurd ((free y.1 y.3).1 x.2)
  same_why e f (inr (inl x)) (inl y) = absurd (x.1 y.1)
  same_why e f (inr (inl x)) (inr (inl y)) = x.0 ∙ sym y.0
  same_why e f (inr (inl x)) (inr (inr y)) = absurd (x.1 (free y.1 y.3).0)
  same_why e f (inr (inr x)) (inl y) = absurd ((free x.1 x.3).1 y.2)
  same_why e f (inr (inr x)) (inr (inl y)) = absurd (y.1 (free x.1 x.3).0)
  same_why e f (inr (inr x)) (inr (inr y)) =
      let q = one x.1 y.1 x.3 y.3 in
      x.2 ∙ ap Needed (same_short d y.1 strip before x.0 y.0 (subst (λ t. Short d t strip (length before) x.0) q x.4) y.4) ∙ sym y.2

  no_why : (n : ℕ) (a : List ℕ) (t : Range) (e : Refusal) → M t → Written d t strip before n a → Why d strip before M L At edge e → ⊥
  no_why n a t e m w (inl x) = (free t m).1 x.2
  no_why n a t e m w (inr (inl x)) = x.1 (free t m).0
  no_why n a t e m w (inr (inr x)) =
      let q = one x.1 t x.3 m in
      not_short d t strip before n x.0 a w (subst (λ r. Short d r strip (length before) x.0) q x.4)

  read_read : (m n : ℕ) (x y : List ℕ) (t w : Range) → M t × Written d t strip before m x → M w × Written d w strip before n y → (piece m x ≡ piece n y) × (t ≡ w)
  read_read m n x y t w v u =
      let q = one t w v.0 u.0 in
      let e = same_written d w strip before m n x y (subst (λ r. Written d r strip before m x) q v.1) u.1 in
      (ap (λ k. piece k x) e.0 ∙ ap (piece n) e.1, q)

-- two refusals that leave the range and the buffer
both_refused : (s t w : Range) (b x y : List ℕ) (e f : Refusal) → t ≡ s → w ≡ s → x ≡ b → y ≡ b → e ≡ f → (refused e x ≡ refused f y) × (t ≡ w)
both_refused s t w b x y e f p q v u z = (ap (λ g. refused g x) z ∙ ap (refused f) (v ∙ sym u), p ∙ sym q)

module _ (d : Document) (s : Range) where
  onto_single : (u : Stops) (t w : Range) → Onto d u s t → Onto d u s w → t ≡ w
  onto_single u t w v x =
      let e = forward_single u (total d) (offset d s.end) v.to x.to v.moves x.moves in
      ap (λ p. range p t.end) (v.start ∙ sym x.start) ∙ ap (range w.start) (v.end ∙ ap (place d) e ∙ sym x.end)

  onto_free : (u : Stops) (t : Range) → Onto d u s t → Lawful d s.end × (offset d s.end ≡ total d → ⊥)
  onto_free u t v = (v.lawful, λ e. let a = v.moves.after in let b = v.moves.inside in omega arith)

  back_single : (u : Stops) (t w : Range) → Back d u s t → Back d u s w → t ≡ w
  back_single u t w v x =
      let e = backward_single u (offset d s.start) v.to x.to v.moves x.moves in
      ap (λ p. range p t.end) (v.start ∙ ap (place d) e ∙ sym x.start) ∙ ap (range w.start) (v.end ∙ sym x.end)

  back_free : (u : Stops) (t : Range) → Back d u s t → Lawful d s.start × (offset d s.start ≡ 0 → ⊥)
  back_free u t v = (v.lawful, λ e. let a = v.moves.before in omega arith)

  module _ (u : Stops) (strip before : List ℕ) where
    abbrev pub WhyOn : Refusal → Type 0
    WhyOn e = Why d strip before (Onto d u s) (Lawful d s.end) (offset d s.end ≡ total d) AtEnd e

    pub why_on : (e : Refusal) → NoOn d u s strip before e → WhyOn e
    why_on BadTables w = absurd w
    why_on (BadRow r) w = absurd w
    why_on (BadRoot r) w = absurd w
    why_on (BadRun r) w = absurd w
    why_on (BadWords r) w = absurd w
    why_on (BadLine r) w = absurd w
    why_on AtEnd w = inl (refl, w.0, w.1)
    why_on AtStart w = absurd w
    why_on Misplaced w = inr (inl (refl, w))
    why_on Beyond w = absurd w
    why_on (Needed n) w = inr (inr (n, w.0, refl, w.1, w.2))

    abbrev pub WhyBack : Refusal → Type 0
    WhyBack e = Why d strip before (Back d u s) (Lawful d s.start) (offset d s.start ≡ 0) AtStart e

    pub why_back : (e : Refusal) → NoBack d u s strip before e → WhyBack e
    why_back BadTables w = absurd w
    why_back (BadRow r) w = absurd w
    why_back (BadRoot r) w = absurd w
    why_back (BadRun r) w = absurd w
    why_back (BadWords r) w = absurd w
    why_back (BadLine r) w = absurd w
    why_back AtEnd w = absurd w
    why_back AtStart w = inl (refl, w.0, w.1)
    why_back Misplaced w = inr (inl (refl, w))
    why_back Beyond w = absurd w
    why_back (Needed n) w = inr (inr (n, w.0, refl, w.1, w.2))

    on_one : (a b : Answer) (t w : Range) → Step d s (read_on u strip before) a t → Step d s (read_on u strip before) b w → (a ≡ b) × (t ≡ w)
    on_one (piece m x) (piece n y) t w v z = read_read d strip before (Onto d u s) (Lawful d s.end) (offset d s.end ≡ total d) AtEnd (onto_single u) (onto_free u) m n x y t w v z
    on_one (piece m x) done t w v z = absurd z
    on_one (piece m x) (refused f y) t w v z = absurd (no_why d strip before (Onto d u s) (Lawful d s.end) (offset d s.end ≡ total d) AtEnd (onto_single u) (onto_free u) m x t f v.0 v.1 (why_on f z.2))
    on_one done b t w v z = absurd v
    on_one (refused e x) (piece n y) t w v z = absurd (no_why d strip before (Onto d u s) (Lawful d s.end) (offset d s.end ≡ total d) AtEnd (onto_single u) (onto_free u) n y w e z.0 z.1 (why_on e v.2))
    on_one (refused e x) done t w v z = absurd z
    on_one (refused e x) (refused f y) t w v z =
        both_refused s t w before x y e f v.0 z.0 v.1 z.1
        (same_why d strip before (Onto d u s) (Lawful d s.end) (offset d s.end ≡ total d) AtEnd (onto_single u) (onto_free u) e f (why_on e v.2) (why_on f z.2))

    back_one : (a b : Answer) (t w : Range) → Step d s (read_back u strip before) a t → Step d s (read_back u strip before) b w → (a ≡ b) × (t ≡ w)
    back_one (piece m x) (piece n y) t w v z = read_read d strip before (Back d u s) (Lawful d s.start) (offset d s.start ≡ 0) AtStart (back_single u) (back_free u) m n x y t w v z
    back_one (piece m x) done t w v z = absurd z
    back_one (piece m x) (refused f y) t w v z = absurd (no_why d strip before (Back d u s) (Lawful d s.start) (offset d s.start ≡ 0) AtStart (back_single u) (back_free u) m x t f v.0 v.1 (why_back f z.2))
    back_one done b t w v z = absurd v
    back_one (refused e x) (piece n y) t w v z = absurd (no_why d strip before (Back d u s) (Lawful d s.start) (offset d s.start ≡ 0) AtStart (back_single u) (back_free u) n y w e z.0 z.1 (why_back e v.2))
    back_one (refused e x) done t w v z = absurd z
    back_one (refused e x) (refused f y) t w v z =
        both_refused s t w before x y e f v.0 z.0 v.1 z.1
        (same_why d strip before (Back d u s) (Lawful d s.start) (offset d s.start ≡ 0) AtStart (back_single u) (back_free u) e f (why_back e v.2) (why_back f z.2))

  start_one : (p : Position) (a b : Answer) (t w : Range) → Step d s (set_start p) a t → Step d s (set_start p) b w → (a ≡ b) × (t ≡ w)
  start_one p (piece m x) b t w v z = absurd v
  start_one p done (piece n y) t w v z = absurd z
  start_one p done done t w v z = (refl, start_single d p s t w v.1 z.1)
  start_one p done (refused f y) t w v z = absurd (z.3 v.0)
  start_one p (refused e x) (piece n y) t w v z = absurd z
  start_one p (refused e x) done t w v z = absurd (v.3 z.0)
  start_one p (refused e x) (refused f y) t w v z = both_refused s t w [] x y e f v.0 z.0 v.1 z.1 (v.2 ∙ sym z.2)

  end_one : (p : Position) (a b : Answer) (t w : Range) → Step d s (set_end p) a t → Step d s (set_end p) b w → (a ≡ b) × (t ≡ w)
  end_one p (piece m x) b t w v z = absurd v
  end_one p done (piece n y) t w v z = absurd z
  end_one p done done t w v z = (refl, end_single d p s t w v.1 z.1)
  end_one p done (refused f y) t w v z = absurd (z.3 v.0)
  end_one p (refused e x) (piece n y) t w v z = absurd z
  end_one p (refused e x) done t w v z = absurd (v.3 z.0)
  end_one p (refused e x) (refused f y) t w v z = both_refused s t w [] x y e f v.0 z.0 v.1 z.1 (v.2 ∙ sym z.2)

  pub step_one : (c : Call) (a b : Answer) (t w : Range) → Step d s c a t → Step d s c b w → (a ≡ b) × (t ≡ w)
  step_one (read_on u p b) = on_one u p b
  step_one (read_back u p b) = back_one u p b
  step_one (set_start p) = start_one p
  step_one (set_end p) = end_one p
