-- Why each call has one answer.
use Rattle.std.proofs.Common.{◌≡◌, ℕ, ◌⊎◌, List, ◌++◌, length, drop, Ok, Err, Result, sym, refl, ap, ◌∙◌, inl, inr, ⊎_elim, arith}
use Rattle.std.proofs.lemmas.Bool.{cases_lt}
use Rattle.rows.specs.declared.refusal.Refusal.{Refusal}
use Rattle.rows.specs.declared.refusal.Refusal.TheVariants.{BadTables, BadRow, BadRoot, BadRun, BadWords, BadLine, AtEnd, AtStart, Misplaced, Beyond, Needed}
use Rattle.source.specs.Runs.{Document}
use Rattle.position.specs.declared.position.Position.{Position}
use Rattle.position.specs.Places.{Lawful, offset}
use Rattle.position.specs.Laws.{Single}
use Rattle.position.proofs.Laws.{answers_single}
use Rattle.range.specs.declared.range.Range.{Range}
use Rattle.range.specs.Ranges.{Both, InOrder, StartMoved, EndMoved, Settles}
use Rattle.range.specs.Texts.{bytes_in, Short, Written, NoText, Texts}
use Rattle.range.specs.Laws.{Singles}

pub start_single : (d : Document) (p : Position) (s : Range) → Single Range (StartMoved d p s)
start_single d p s x y v w = ⊎_elim (λ h. v.0 h ∙ sym (w.0 h)) (λ h. v.1 h ∙ sym (w.1 h)) (cases_lt (offset d p) (offset d s.end))

pub end_single : (d : Document) (p : Position) (s : Range) → Single Range (EndMoved d p s)
end_single d p s x y v w = ⊎_elim (λ h. v.0 h ∙ sym (w.0 h)) (λ h. v.1 h ∙ sym (w.1 h)) (cases_lt (offset d s.start) (offset d p))

order_single : (d : Document) (p q : Position) → Single Range (InOrder d p q)
order_single d p q x y v w = ⊎_elim (λ h. v.1 h ∙ sym (w.1 h)) (λ h. v.0 h ∙ sym (w.0 h)) (cases_lt (offset d q) (offset d p))

settles_single : (L : Type 0) (B : Range → Type 0) → Single Range B → (s a b : Range) (r q : Result (Unit {0}) Refusal) → Settles L B s r a → Settles L B s q b → (r ≡ q) × (a ≡ b)
settles_single L B u s a b (Ok x) (Ok y) v w = (refl, u a b v.1 w.1)
settles_single L B u s a b (Ok x) (Err f) v w = absurd (w.1 v.0)
settles_single L B u s a b (Err e) (Ok y) v w = absurd (v.1 w.0)
settles_single L B u s a b (Err e) (Err f) v w = (ap Err (v.0 ∙ sym w.0), v.2 ∙ sym w.2)

module _ (d : Document) (t : Range) (strip before : List ℕ) where
  -- the two refusals of a text, and what tells them apart
  abbrev pub Why : Refusal → Type 0
  Why e = ((e ≡ Misplaced) × (Both d t → ⊥)) ⊎ ((n : ℕ) × (e ≡ Needed n) × Both d t × Short d t strip (length before) n)

  pub why_text : (e : Refusal) → NoText d t strip before e → Why e
  why_text BadTables w = absurd w
  why_text (BadRow r) w = absurd w
  why_text (BadRoot r) w = absurd w
  why_text (BadRun r) w = absurd w
  why_text (BadWords r) w = absurd w
  why_text (BadLine r) w = absurd w
  why_text AtEnd w = absurd w
  why_text AtStart w = absurd w
  why_text Misplaced w = inl (refl, w)
  why_text Beyond w = absurd w
  why_text (Needed n) w = inr (n, refl, w.0, w.1)

  pub same_short : (m n : ℕ) → Short d t strip (length before) m → Short d t strip (length before) n → m ≡ n
  same_short m n (inl a) (inl b) = a.1 ∙ sym b.1
  same_short m n (inl a) (inr b) = absurd (a.0 b.0)
  same_short m n (inr a) (inl b) = absurd (b.0 a.0)
  same_short m n (inr a) (inr b) = a.2 ∙ sym b.2

  pub not_short : (n m : ℕ) (a : List ℕ) → Written d t strip before n a → Short d t strip (length before) m → ⊥
  not_short n m a w (inl x) = x.0 w.stripped
  not_short n m a w (inr x) = let k = w.count in let r = w.room in let y = x.1 in let z = x.2 in omega arith

  pub same_written : (m n : ℕ) (a b : List ℕ) → Written d t strip before m a → Written d t strip before n b → (m ≡ n) × (a ≡ b)
  same_written m n a b v w =
      let e : m ≡ n = v.count ∙ sym w.count in
      (e, v.holds ∙ ap (λ k. bytes_in d t ++ drop k before) e ∙ sym w.holds)

  not_both : (n : ℕ) (a : List ℕ) (e : Refusal) → Both d t → Written d t strip before n a → Why e → ⊥
  not_both n a e b w (inl x) = x.1 b
  not_both n a e b w (inr x) = not_short n x.0 a w x.3

  same_why : (e f : Refusal) → Why e → Why f → e ≡ f
  same_why e f (inl x) (inl y) = x.0 ∙ sym y.0
  same_why e f (inl x) (inr y) = absurd (x.1 y.2)
  same_why e f (inr x) (inl y) = absurd (y.1 x.2)
  same_why e f (inr x) (inr y) = x.1 ∙ ap Needed (same_short x.0 y.0 x.3 y.3) ∙ sym y.1

  pub text_single : (a b : List ℕ) (r q : Result ℕ Refusal) → Texts d t strip before r a → Texts d t strip before q b → (r ≡ q) × (a ≡ b)
  text_single a b (Ok m) (Ok n) v w = let e = same_written m n a b v.1 w.1 in (ap Ok e.0, e.1)
  text_single a b (Ok m) (Err f) v w = absurd (not_both m a f v.0 v.1 (why_text f w.1))
  text_single a b (Err e) (Ok n) v w = absurd (not_both n b e w.0 w.1 (why_text e v.1))
  text_single a b (Err e) (Err f) v w = (ap Err (same_why e f (why_text e v.1) (why_text f w.1)), v.0 ∙ sym w.0)

pub singles : (d : Document) → Singles d
singles d = record {
  made = λ p q. answers_single Range (Lawful d p × Lawful d q) (InOrder d p q) (order_single d p q);
  start = λ p s. answers_single Range (Lawful d p × Both d s) (StartMoved d p s) (start_single d p s);
  end = λ p s. answers_single Range (Lawful d p × Both d s) (EndMoved d p s) (end_single d p s);
  start_set = λ p s. settles_single (Lawful d p × Both d s) (StartMoved d p s) (start_single d p s) s;
  end_set = λ p s. settles_single (Lawful d p × Both d s) (EndMoved d p s) (end_single d p s) s;
  text = text_single d;
}
