-- Why each question has one answer.
use Rattle.std.proofs.Common.{◌≡◌, ℕ, Bool, ◌⊎◌, Ok, Err, Result, Ordering, Less, Equal, Greater, sym, refl, ap, ◌∙◌, inl, inr, ⊎_elim, arith}
use Rattle.rows.specs.declared.refusal.Refusal.{Refusal}
use Rattle.rows.specs.declared.refusal.Refusal.TheVariants.{BadTables, BadRow, BadRoot, BadRun, BadWords, BadLine, AtEnd, AtStart, Misplaced, Beyond, Needed}
use Rattle.source.specs.Runs.{Document, Sound}
use Rattle.position.specs.declared.position.Position.{Position}
use Rattle.position.specs.Places.{Lawful, offset, total, Answers, BiasedStart, BiasedEnd, NoForward, NoBackward, NextPlace, PreviousPlace}
use Rattle.position.specs.Orders.{Compares, Ordered}
use Rattle.position.specs.Laws.{Single, Singles, Laws}
use Rattle.position.proofs.Places.{root_place, within_place, offset_place, offset_inside, place_biased, first_place}
use Rattle.position.proofs.Characters.{end_place}

-- a call that refuses only what is misplaced
pub answers_single : (A : Type 0) (L : Type 0) (B : A → Type 0) → Single A B → Single (Result A Refusal) (Answers L B)
answers_single A L B u (Ok x) (Ok y) a b = ap Ok (u x y a.1 b.1)
answers_single A L B u (Ok x) (Err f) a b = absurd (b.1 a.0)
answers_single A L B u (Err e) (Ok y) a b = absurd (a.1 b.0)
answers_single A L B u (Err e) (Err f) a b = ap Err (a.0 ∙ sym b.0)

module _ (d : Document) (p : Position) where
  -- the two refusals of a move, and what tells them apart
  abbrev pub Why : Refusal → Refusal → Type 0 → Type 0
  Why e edge at = ((e ≡ edge) × Lawful d p × at) ⊎ ((e ≡ Misplaced) × (Lawful d p → ⊥))

  pub why_forward : (e : Refusal) → NoForward d p e → Why e AtEnd (offset d p ≡ total d)
  why_forward BadTables w = absurd w
  why_forward (BadRow r) w = absurd w
  why_forward (BadRoot r) w = absurd w
  why_forward (BadRun r) w = absurd w
  why_forward (BadWords r) w = absurd w
  why_forward (BadLine r) w = absurd w
  why_forward AtEnd w = inl (refl, w.0, w.1)
  why_forward AtStart w = absurd w
  why_forward Misplaced w = inr (refl, w)
  why_forward Beyond w = absurd w
  why_forward (Needed n) w = absurd w

  pub why_backward : (e : Refusal) → NoBackward d p e → Why e AtStart (offset d p ≡ 0)
  why_backward BadTables w = absurd w
  why_backward (BadRow r) w = absurd w
  why_backward (BadRoot r) w = absurd w
  why_backward (BadRun r) w = absurd w
  why_backward (BadWords r) w = absurd w
  why_backward (BadLine r) w = absurd w
  why_backward AtEnd w = absurd w
  why_backward AtStart w = inl (refl, w.0, w.1)
  why_backward Misplaced w = inr (refl, w)
  why_backward Beyond w = absurd w
  why_backward (Needed n) w = absurd w

  pub same_refusal : (e f edge : Refusal) (at : Type 0) → Why e edge at → Why f edge at → e ≡ f
  same_refusal e f edge at a b =
      ⊎_elim
      (λ x. ⊎_elim (λ y. x.0 ∙ sym y.0) (λ y. absurd (y.1 x.1)) b)
      (λ x. ⊎_elim (λ y. absurd (x.1 y.1)) (λ y. x.0 ∙ sym y.0) b)
      a

  -- where there is a move there is no refusal
  pub no_refusal : (e edge : Refusal) (at : Type 0) → Lawful d p → (at → ⊥) → Why e edge at → ⊥
  no_refusal e edge at l n w = ⊎_elim (λ x. n x.2) (λ x. x.1 l) w

  next_single : Single (Result Position Refusal) (NextPlace d p)
  next_single (Ok x) (Ok y) a b = ap Ok (a.2 ∙ sym b.2)
  next_single (Ok x) (Err f) a b = let h = a.1 in absurd (no_refusal f AtEnd (offset d p ≡ total d) a.0 (λ z. omega arith) (why_forward f b))
  next_single (Err e) (Ok y) a b = let h = b.1 in absurd (no_refusal e AtEnd (offset d p ≡ total d) b.0 (λ z. omega arith) (why_forward e a))
  next_single (Err e) (Err f) a b = ap Err (same_refusal e f AtEnd (offset d p ≡ total d) (why_forward e a) (why_forward f b))

  previous_single : Single (Result Position Refusal) (PreviousPlace d p)
  previous_single (Ok x) (Ok y) a b = ap Ok (a.2 ∙ sym b.2)
  previous_single (Ok x) (Err f) a b = let h = a.1 in absurd (no_refusal f AtStart (offset d p ≡ 0) a.0 (λ z. omega arith) (why_backward f b))
  previous_single (Err e) (Ok y) a b = let h = b.1 in absurd (no_refusal e AtStart (offset d p ≡ 0) b.0 (λ z. omega arith) (why_backward e a))
  previous_single (Err e) (Err f) a b = ap Err (same_refusal e f AtStart (offset d p ≡ 0) (why_backward e a) (why_backward f b))

compares_single : (a b : ℕ) → Single Ordering (Compares a b)
compares_single a b Less Less x y = refl
compares_single a b Less Equal x y = absurd (omega arith)
compares_single a b Less Greater x y = absurd (omega arith)
compares_single a b Equal Less x y = absurd (omega arith)
compares_single a b Equal Equal x y = refl
compares_single a b Equal Greater x y = absurd (omega arith)
compares_single a b Greater Less x y = absurd (omega arith)
compares_single a b Greater Equal x y = absurd (omega arith)
compares_single a b Greater Greater x y = refl

singles : (d : Document) (p q : Position) → Singles d p q
singles d p q = record {
  start = answers_single Position (Lawful d p) (BiasedStart d p) (λ x y a b. a.1 ∙ sym b.1);
  end = answers_single Position (Lawful d p) (BiasedEnd d p) (λ x y a b. a.0 ∙ sym b.0);
  next = next_single d p;
  previous = previous_single d p;
  judged = λ b. answers_single Bool (Lawful d p) (λ r. r ≡ b) (λ x y a c. a ∙ sym c);
  ordered = answers_single Ordering (Lawful d p × Lawful d q) (Ordered d p q) (λ x y a b. a.0 ∙ sym b.0);
  compares = compares_single (offset d p) (offset d q);
}

pub laws : (d : Document) → Sound d → Laws d
laws d s = record {
  places = record {
    lawful = λ k h. (root_place d.root d.runs k, within_place d.root d.runs k s.listed h);
    named = λ k h. offset_place d.root d.runs k s.listed h;
    inside = λ p l. offset_inside d.runs p.row.0 p.index l.1;
    biased = λ p l. place_biased d p s l;
    first = first_place d s;
    last = end_place d s;
  };
  answers = singles d;
}
