-- A draft's runs, from what the tree answers.
use Rattle.std.proofs.Common.{Ok, Err, Result, unwrap_or, ◌≡◌, ℕ, zero, suc, ◌<◌, Bool, false, cond, ◌||◌, eqb, [], ◌∷◌, ◌++◌, length, Some, None, Option, sym, refl, ap, ◌∙◌, append_assoc, eq-eqb}
use Rattle.std.specs.Result.{result_unwrap_or}
use Rattle.rows.specs.declared.refusal.Refusal.{Refusal}
use Rattle.source.specs.Runs.{Run, row_id, asked, next_in, previous_in, last_row, before_in, characters_in, words_in}
use Rattle.rows.specs.declared.node.NodeId.{NodeId}
use Rattle.rows.specs.declared.filters.FilterResult.TheVariants.{Include, ExcludeNode}
use Rattle.tree.specs.declared.way.Way.TheVariants.{Forward}
use Rattle.rows.specs.Rows.{row}
use Rattle.tree.specs.Walk.{answers}
use Rattle.rows.specs.Filters.{text_answer}
use Rattle.tree.specs.Trees.{rows_of, Lists, Included, Above, LastOn, NextOn, PreviousOn, BeforeOn}
use Rattle.tree.proofs.Trees.{well, lists}
use Rattle.tree.proofs.Compares.{before_ahead}
use Rattle.tree.proofs.Lists.{passed_under}
use Rattle.page.specs.declared.draft.Draft.{Draft}
use Rattle.page.specs.Sheets.{sheet_of, run_at, rows_under, runs_under, IsRun, Has}
use Rattle.page.proofs.Links.{told_in, told_out, next_in_lem, next_out, prev_in, prev_out, last_in, before_in_lem, before_out}

module _ (d : Draft) where
  -- The text filter includes its root, so that a walk may be based there.
  pub based : Included d.tree (text_answer d.root.0) d.root
  based =
      let r = d.root.0 in
      (d.rooted, ap (λ b. cond (b || eqb (row (rows_of d.tree) r).role 1) Include ExcludeNode) (eq-eqb r r refl))

  all : Lists d.tree (text_answer d.root.0) d.root
  all = lists d.tree (text_answer d.root.0) d.root d.rooted

  pub run_has : (r : ℕ) → IsRun (sheet_of d) r → Has (rows_under (sheet_of d)) r
  run_has r l = all.holds r l

  pub has_run : (r : ℕ) → Has (rows_under (sheet_of d)) r → IsRun (sheet_of d) r
  has_run r h = all.only r h.0 h.1 h.2

  pub run_row : (r : ℕ) → IsRun (sheet_of d) r → r < length (rows_of d.tree)
  run_row r (a, (zero, h)) = h.1
  run_row r (a, (suc k, h)) = h.1

  pub run_above : (r : NodeId) → IsRun (sheet_of d) r.0 → Above d.tree d.root r
  run_above r l =
      let w = well d.tree in
      let a = answers (text_answer d.root.0) (rows_of d.tree) in
      (run_row r.0 l, (suc l.1.0, passed_under w Forward a d.root.0 l.1.0 r.0 l.1.1))

  pub draft_last : (o : Result (Option NodeId) Refusal) → LastOn d.tree (text_answer d.root.0) d.root o → (unwrap_or (result_unwrap_or o None) (row_id 0)).0 ≡ last_row (runs_under (sheet_of d))
  draft_last (Ok o) h = ap (λ x. (unwrap_or x (row_id 0)).0) h.1 ∙ last_in (run_at (sheet_of d)) (λ r. refl) (rows_under (sheet_of d))
  draft_last (Err e) h = absurd (h.1 based)

  -- A row that is no run has no neighbours, as a walk from it is refused.
  pub draft_next : (r : NodeId) (o : Result (Option NodeId) Refusal) → NextOn d.tree (text_answer d.root.0) d.root r o → result_unwrap_or o None ≡ next_in (runs_under (sheet_of d)) r.0
  draft_next r (Ok o) h = next_in_lem (run_at (sheet_of d)) (λ r. refl) (rows_under (sheet_of d)) r.0 o h.1
  draft_next r (Err e) h = next_out (run_at (sheet_of d)) (λ r. refl) (rows_under (sheet_of d)) r.0 (λ t. h.1 (based, has_run r.0 t))

  pub draft_previous : (r : NodeId) (o : Result (Option NodeId) Refusal) → PreviousOn d.tree (text_answer d.root.0) d.root r o → result_unwrap_or o None ≡ previous_in (runs_under (sheet_of d)) r.0
  draft_previous r (Ok o) h = prev_in (run_at (sheet_of d)) (λ r. refl) (rows_under (sheet_of d)) r.0 o h.1
  draft_previous r (Err e) h = prev_out (run_at (sheet_of d)) (λ r. refl) (rows_under (sheet_of d)) r.0 (λ t. h.1 (based, has_run r.0 t))

  pub draft_asked : {B : Type 0} (g : Run → B) (r : ℕ) → IsRun (sheet_of d) r → Some (g (run_at (sheet_of d) r)) ≡ asked g (runs_under (sheet_of d)) r
  draft_asked g r h = told_in (run_at (sheet_of d)) (λ r. refl) (λ x. Some (g x)) None (asked g) (λ r. refl) (λ x xs r. refl) (rows_under (sheet_of d)) r (run_has r h)

  pub draft_asked_out : {B : Type 0} (g : Run → B) (r : ℕ) → (IsRun (sheet_of d) r → ⊥) → None ≡ asked g (runs_under (sheet_of d)) r
  draft_asked_out g r h = told_out (run_at (sheet_of d)) (λ r. refl) (λ x. Some (g x)) None (asked g) (λ r. refl) (λ x xs r. refl) (rows_under (sheet_of d)) r (λ t. h (has_run r t))

  pub draft_characters : (r : ℕ) → IsRun (sheet_of d) r → (run_at (sheet_of d) r).characters ≡ characters_in (runs_under (sheet_of d)) r
  draft_characters r h = told_in (run_at (sheet_of d)) (λ r. refl) (λ x. x.characters) [] characters_in (λ r. refl) (λ x xs r. refl) (rows_under (sheet_of d)) r (run_has r h)

  pub draft_characters_out : (r : ℕ) → (IsRun (sheet_of d) r → ⊥) → [] ≡ characters_in (runs_under (sheet_of d)) r
  draft_characters_out r h = told_out (run_at (sheet_of d)) (λ r. refl) (λ x. x.characters) [] characters_in (λ r. refl) (λ x xs r. refl) (rows_under (sheet_of d)) r (λ t. h (has_run r t))

  pub draft_words : (r : ℕ) → IsRun (sheet_of d) r → (run_at (sheet_of d) r).words ≡ words_in (runs_under (sheet_of d)) r
  draft_words r h = told_in (run_at (sheet_of d)) (λ r. refl) (λ x. x.words) [] words_in (λ r. refl) (λ x xs r. refl) (rows_under (sheet_of d)) r (run_has r h)

  pub draft_words_out : (r : ℕ) → (IsRun (sheet_of d) r → ⊥) → [] ≡ words_in (runs_under (sheet_of d)) r
  draft_words_out r h = told_out (run_at (sheet_of d)) (λ r. refl) (λ x. x.words) [] words_in (λ r. refl) (λ x xs r. refl) (rows_under (sheet_of d)) r (λ t. h (has_run r t))

  -- Two runs stand in the list as they do in document order.
  pub draft_before : (r q : NodeId) (o : Result Bool Refusal) → IsRun (sheet_of d) r.0 → IsRun (sheet_of d) q.0 → BeforeOn d.tree d.root r q o → result_unwrap_or o false ≡ before_in (runs_under (sheet_of d)) r.0 q.0
  draft_before r q (Ok b) lr lq h =
      let w = well d.tree in
      let a = answers (text_answer d.root.0) (rows_of d.tree) in
      before_in_lem (run_at (sheet_of d)) (λ r. refl) (rows_under (sheet_of d)) r.0 q.0 b
      ((λ e. before_ahead w a d.root.0 r.0 q.0 d.rooted lr lq (h.2.0 e)), λ t. h.2.1 (all.order r.0 q.0 t))
  draft_before r q (Err e) lr lq h = absurd (h.1 (run_above r lr, run_above q lq))

  pub draft_before_one : (r q : ℕ) → (IsRun (sheet_of d) r → ⊥) → false ≡ before_in (runs_under (sheet_of d)) r q
  draft_before_one r q h = before_out (run_at (sheet_of d)) (λ r. refl) (rows_under (sheet_of d)) r q (λ t. h (has_run r (t.0, t.1 ++ q ∷ t.2, t.3)))

  pub draft_before_other : (r q : ℕ) → (IsRun (sheet_of d) q → ⊥) → false ≡ before_in (runs_under (sheet_of d)) r q
  draft_before_other r q h = before_out (run_at (sheet_of d)) (λ r. refl) (rows_under (sheet_of d)) r q (λ t. h (has_run q (t.0 ++ r ∷ t.1, t.2, t.3 ∙ sym (append_assoc t.0 (r ∷ t.1) (q ∷ t.2)))))
