-- The one verdict on a page: tables in order are not refused, and of two refusals that fit each is the other.
use Rattle.std.proofs.Common.{◌≡◌, ℕ, Bool, true, false, Decides, Some, None, Option, Ok, Err, Result, sym, refl, ap, ◌∙◌, subst, inl, inr, ⊎_elim, arith}
use Rattle.std.specs.Prelude.{⊤}
use Rattle.std.proofs.lemmas.Bool.{cases_lt}
use Rattle.rows.specs.declared.node.NodeId.{NodeId}
use Rattle.rows.specs.declared.node.Tables.{Tables}
use Rattle.rows.specs.declared.refusal.Refusal.{Refusal}
use Rattle.rows.specs.declared.refusal.Refusal.TheVariants.{BadTables, BadRow, BadRoot, BadRun, BadWords, BadLine, AtEnd, AtStart, Misplaced, Beyond, Needed}
use Rattle.rows.specs.Judge.{WellFormed}
use Rattle.tree.specs.declared.tree.Tree.{Tree}
use Rattle.tree.specs.Judged.{TreeOf}
use Rattle.rows.proofs.Judges.{one_verdict}
use Rattle.rows.proofs.Tests.{granted, denied}
use Rattle.page.specs.Sheets.{Sheet, sheet_in, sheet_by}
use Rattle.page.specs.Judging.{Rooted, CharactersAt, WordsAt, LineAt, AllFit, FirstFault, Answered, InOrder, RunsRefused}
use Rattle.page.specs.Opening.{Accepted, Declined}

abbrev node : ℕ → NodeId
node n = record { 0 = n }

module _ (s : Sheet) where
  -- What a refusal is for.
  data Kind (e : Refusal) : Type 0 where
    root : (r : NodeId) → e ≡ BadRoot r → r.0 ≡ s.root → (Rooted s → ⊥) → Kind e
    run : (r : NodeId) → e ≡ BadRun r → Rooted s → FirstFault CharactersAt s r.0 → Kind e
    words : (r : NodeId) → e ≡ BadWords r → Rooted s → AllFit CharactersAt s → FirstFault WordsAt s r.0 → Kind e
    line : (r : NodeId) → e ≡ BadLine r → Rooted s → AllFit CharactersAt s → AllFit WordsAt s → FirstFault LineAt s r.0 → Kind e

  kind : (e : Refusal) → RunsRefused s e → Kind e
  kind BadTables h = absurd h
  kind (BadRow r) h = absurd h
  kind (BadRoot r) h = root r refl h.0 h.1
  kind (BadRun r) h = run r refl h.0 h.1
  kind (BadWords r) h = words r refl h.0 h.1 h.2
  kind (BadLine r) h = line r refl h.0 h.1 h.2 h.3
  kind AtEnd h = absurd h
  kind AtStart h = absurd h
  kind Misplaced h = absurd h
  kind Beyond h = absurd h
  kind (Needed n) h = absurd h

  one_run : (P : Sheet → ℕ → Type 0) (r k : NodeId) → FirstFault P s r.0 → FirstFault P s k.0 → r.0 ≡ k.0
  one_run P r k a b =
      ⊎_elim
      (λ l. absurd (a.1 (b.2 r.0 l a.0)))
      (λ l. ⊎_elim (λ m. absurd (b.1 (a.2 k.0 m b.0))) (λ m. omega arith) (cases_lt k.0 r.0))
      (cases_lt r.0 k.0)

  -- Where there is a first fault, not all fit.
  faulty : (P : Sheet → ℕ → Type 0) (r : ℕ) → AllFit P s → FirstFault P s r → ⊥
  faulty P r a f = f.1 (a r f.0)

  one_kind : (e f : Refusal) → Kind e → Kind f → e ≡ f
  one_kind e f (root r i x n) (root k j y m) = i ∙ ap (λ z. BadRoot (node z)) (x ∙ sym y) ∙ sym j
  one_kind e f (root r i x n) (run k j o a) = absurd (n o)
  one_kind e f (root r i x n) (words k j o c a) = absurd (n o)
  one_kind e f (root r i x n) (line k j o c w a) = absurd (n o)
  one_kind e f (run r i o a) (root k j y m) = absurd (m o)
  one_kind e f (run r i o a) (run k j p b) = i ∙ ap (λ z. BadRun (node z)) (one_run CharactersAt r k a b) ∙ sym j
  one_kind e f (run r i o a) (words k j p c b) = absurd (faulty CharactersAt r.0 c a)
  one_kind e f (run r i o a) (line k j p c w b) = absurd (faulty CharactersAt r.0 c a)
  one_kind e f (words r i o c a) (root k j y m) = absurd (m o)
  one_kind e f (words r i o c a) (run k j p b) = absurd (faulty CharactersAt k.0 c b)
  one_kind e f (words r i o c a) (words k j p d b) = i ∙ ap (λ z. BadWords (node z)) (one_run WordsAt r k a b) ∙ sym j
  one_kind e f (words r i o c a) (line k j p d w b) = absurd (faulty WordsAt r.0 w a)
  one_kind e f (line r i o c w a) (root k j y m) = absurd (m o)
  one_kind e f (line r i o c w a) (run k j p b) = absurd (faulty CharactersAt k.0 c b)
  one_kind e f (line r i o c w a) (words k j p d b) = absurd (faulty WordsAt k.0 w b)
  one_kind e f (line r i o c w a) (line k j p d v b) = i ∙ ap (λ z. BadLine (node z)) (one_run LineAt r k a b) ∙ sym j

  -- What is in order is refused for nothing.
  in_order : (e : Refusal) → InOrder s → Kind e → ⊥
  in_order e o (root r i x n) = n o.rooted
  in_order e o (run r i x a) = faulty CharactersAt r.0 o.characters a
  in_order e o (words r i x c a) = faulty WordsAt r.0 o.words a
  in_order e o (line r i x c w a) = faulty LineAt r.0 o.lines a

ok_err : (e : Refusal) → ◌≡◌ {A = Result ⊤ Refusal} (Ok tt) (Err e) → ⊥
ok_err e h = let z : ◌≡◌ {A = ℕ} 0 1 = cc in omega arith

-- Tables that are in order are refused for nothing.
pub declined : (t : Tables) (r : NodeId) (e : Refusal) → Accepted t r → Declined t r e → ⊥
declined t r e a (inl b) = ok_err e (one_verdict t r.0 (Ok tt) (Err e) a.0 b)
declined t r e a (inr b) = in_order (sheet_in t r.0) e a.1 (kind (sheet_in t r.0) e b.1)

-- And any others for one thing.
pub one_refusal : (t : Tables) (r : NodeId) (e f : Refusal) → Declined t r e → Declined t r f → e ≡ f
one_refusal t r e f (inl a) (inl b) = let h = one_verdict t r.0 (Err e) (Err f) a b in cc
one_refusal t r e f (inl a) (inr b) = absurd (ok_err e (one_verdict t r.0 (Ok tt) (Err e) b.0 a))
one_refusal t r e f (inr a) (inl b) = absurd (ok_err f (one_verdict t r.0 (Ok tt) (Err f) a.0 b))
one_refusal t r e f (inr a) (inr b) = let s = sheet_in t r.0 in one_kind s e f (kind s e a.1) (kind s f b.1)

-- The sheet of the tables' tree, beside the tables, is theirs: what is found of it is found of them.
module _ (t : Tables) (root : NodeId) (tree : Tree) (j : WellFormed t root.0 × TreeOf t root tree) (s : Sheet) (e : s ≡ sheet_by tree t) where
  pub same_sheet : s ≡ sheet_in t root.0
  same_sheet =
      let a = j.1.0 in
      let b = j.1.1 in
      let c = j.1.2 in
      e ∙ λ i. record { rows = a i; entries = b i; text = t.text.now; lengths = t.lengths.now; words = t.words.now; root = (c i).0 }

  pub sheet_accepted : InOrder s → Accepted t root
  sheet_accepted o = (j.0, subst InOrder same_sheet o)

  pub sheet_declined : (r : Refusal) → RunsRefused s r → Declined t root r
  sheet_declined r h = inr (j.0, subst (λ x. RunsRefused x r) same_sheet h)

-- What a test finds that decides a fact.
module _ (P : Sheet → ℕ → Type 0) (s : Sheet) {A : NodeId → Bool → Type 0} {o : Option NodeId} (h : Answered A s o) (d : (k : NodeId) (b : Bool) → A k b → Decides b (P s k.0)) where
  pub all_fit : o ≡ None → AllFit P s
  all_fit e r l = granted true (d (node r) true (h.none e (node r) l)) refl

  pub first_fault : (r : NodeId) → o ≡ Some r → FirstFault P s r.0
  first_fault r e =
      let f = h.some r e in
      (f.0, denied false (d r false f.1) refl, λ k m l. granted true (d (node k) true (f.2 (node k) m l)) refl)
