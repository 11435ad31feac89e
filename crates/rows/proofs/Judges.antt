-- Sound rows, and the one verdict on the tables.
use Rattle.std.proofs.Common.{◌≡◌, ℕ, ◌+◌, ◌<◌, ◌⊎◌, length, Ok, Err, Result, sym, refl, ap, ◌∙◌, subst, inl, inr, ⊎_elim, arith}
use Rattle.std.specs.Prelude.{⊤}
use Rattle.std.proofs.lemmas.Bool.{cases_lt}
use Rattle.rows.specs.declared.node.NodeId.{NodeId}
use Rattle.rows.specs.declared.node.Tables.{Tables}
use Rattle.rows.specs.declared.refusal.Refusal.{Refusal}
use Rattle.rows.specs.declared.refusal.Refusal.TheVariants.{BadTables, BadRow, BadRoot, BadRun, BadWords, BadLine, AtEnd, AtStart, Misplaced, Beyond, Needed}
use Rattle.rows.specs.Rows.{Well}
use Rattle.rows.specs.Judge.{rows_in, entries_in, Sound, Sized, WellFormed, Refused, Verdict}

-- what holds below n and at n holds below n + 1
pub one_more : (P : ℕ → Type 0) (n : ℕ) → ((q : ℕ) → q < n → P q) → P n → (q : ℕ) → q < n + 1 → P q
one_more P n known here q h = ⊎_elim (λ l. known q l) (λ l. let e : n ≡ q = omega arith in subst P e here) (cases_lt q n)

pub well_formed : (t : Tables) (root : ℕ) → WellFormed t root → Well (rows_in t) (entries_in t)
well_formed t root w =
    let s = w.0 in
    record {
      some = s.some;
      few = s.few;
      parted = λ r h. (w.1 r h).parts.children;
      topped = (w.1 0 s.some).rising.0 refl;
      rising = λ r some h. (w.1 r h).rising.1 some;
      indexed = λ r some h. ((w.1 r h).placed some).0;
      placed = λ r some h. ((w.1 r h).placed some).1;
      rowed = λ r k h. ((w.1 r h.0).entered k h.1).0;
      parented = λ r k h. ((w.1 r h.0).entered k h.1).1;
      ordered = λ r k h. ((w.1 r h.0).entered k h.1).2;
      shallow = λ r h. (w.1 r h).shallow;
    }

module _ (t : Tables) (root : ℕ) where
  -- r is the smallest row at fault
  abbrev AtFault : NodeId → Type 0
  AtFault r = Sized t root × (r.0 < length (rows_in t)) × (Sound t r.0 → ⊥) × ((q : ℕ) → q < r.0 → Sound t q)

  kinds : (e : Refusal) → Refused t root e → ((e ≡ BadTables) × (Sized t root → ⊥)) ⊎ ((r : NodeId) × (e ≡ BadRow r) × AtFault r)
  kinds BadTables h = inl (refl, h)
  kinds (BadRow r) h = inr (r, refl, h)
  kinds (BadRoot r) h = absurd h
  kinds (BadRun r) h = absurd h
  kinds (BadWords r) h = absurd h
  kinds (BadLine r) h = absurd h
  kinds AtEnd h = absurd h
  kinds AtStart h = absurd h
  kinds Misplaced h = absurd h
  kinds Beyond h = absurd h
  kinds (Needed n) h = absurd h

  one_row : (r q : NodeId) → AtFault r → AtFault q → r.0 ≡ q.0
  one_row r q a b =
      ⊎_elim
      (λ l. absurd (a.2 (b.3 r.0 l)))
      (λ l. ⊎_elim (λ m. absurd (b.2 (a.3 q.0 m))) (λ m. omega arith) (cases_lt q.0 r.0))
      (cases_lt r.0 q.0)

  accepted : (e : Refusal) → WellFormed t root → Refused t root e → ⊥
  accepted e w h = ⊎_elim (λ k. k.1 w.0) (λ k. k.2.2 (w.1 k.0.0 k.2.1)) (kinds e h)

  one_refusal : (e f : Refusal) → Refused t root e → Refused t root f → e ≡ f
  one_refusal e f h k =
      ⊎_elim
      (λ a. ⊎_elim (λ b. a.0 ∙ sym b.0) (λ b. absurd (a.1 b.2.0)) (kinds f k))
      (λ a. ⊎_elim (λ b. absurd (b.1 a.2.0)) (λ b. a.1 ∙ ap (λ n. BadRow (record { 0 = n })) (one_row a.0 b.0 a.2 b.2) ∙ sym b.1) (kinds f k))
      (kinds e h)

  -- Of two verdicts that both fit, each is the other.
  pub one_verdict : (o p : Result ⊤ Refusal) → Verdict t root o → Verdict t root p → o ≡ p
  one_verdict (Ok done) (Ok done2) v w = refl
  one_verdict (Ok done) (Err f) v w = absurd (accepted f v w)
  one_verdict (Err e) (Ok done) v w = absurd (accepted e w v)
  one_verdict (Err e) (Err f) v w = ap Err (one_refusal e f v w)
