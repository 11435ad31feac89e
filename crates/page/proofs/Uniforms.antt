-- Whether the characters under a page's root are all one.
use Rattle.std.proofs.lemmas.Option.{none-some}
use Rattle.std.proofs.Common.{Bool, true, not, Decides, ◌≡◌, ℕ, ◌<◌, ◌≤◌, false, List, [], ◌∷◌, ◌++◌, length, get_or, take, sum, Some, None, Option, sym, refl, ap, ◌∙◌, subst, arith}
use Rattle.rows.specs.declared.node.NodeId.{NodeId}
use Rattle.std.proofs.lemmas.List.Sums.{sum_by-cons}
use Rattle.tree.proofs.Lists.{nowhere}
use Rattle.source.specs.Runs.{Run, count, row_id, head_row, Every, Listed}
use Rattle.source.specs.Layers.{each}
use Rattle.page.specs.declared.draft.Draft.{Draft}
use Rattle.page.specs.Texts.{cut, AllAre}
use Rattle.page.specs.Sheets.{Sheet, sheet_of, text_at, lengths_at, run_at, rows_under, runs_under, IsRun, Has}
use Rattle.std.specs.Option.{is_some}
use Rattle.std.proofs.lemmas.Bool.{false≢true}
use Rattle.page.specs.declared.part.Parts.{Parts}
use Rattle.page.specs.Parts.{PartsAt}
use Rattle.page.proofs.Slices.{accept, refuse}
use Rattle.page.proofs.Verdicts.{all_fit, first_fault}
use Rattle.page.specs.Judging.{InOrder, AllFit, FirstFault, Answered}
use Rattle.page.specs.Layering.{Uniform}
use Rattle.page.specs.Sounds.{cut_length, draft_sound, draft_total, every_each}
use Rattle.page.proofs.Drafts.{has_run, run_has}

some_row : (x : NodeId) (y : ℕ) → Some x ≡ Some (row_id y) → x.0 ≡ y
some_row x y e = let z : x ≡ row_id y = cc in ap (λ n. n.0) z

none_are : (c ns bs : List ℕ) → length ns ≡ 0 → AllAre c (cut ns bs)
none_are c [] bs h = tt
none_are c (n ∷ ns) bs h = absurd (omega arith)

first_is : (c ns bs : List ℕ) → 0 < length ns → AllAre c (cut ns bs) → take (get_or ns 0 0) bs ≡ c
first_is c [] bs h a = absurd (omega arith)
first_is c (n ∷ ns) bs h a = a.0

sum_first : (ns : List ℕ) → 0 < length ns → get_or ns 0 0 ≤ sum ns
sum_first [] h = absurd (omega arith)
sum_first (n ∷ ns) h = let c = sum_by-cons (λ x. x) n ns in omega (arith, c)

module _ (f : ℕ → Run) where
  every_at : (P : Run → Type 0) (xs : List ℕ) (r : ℕ) → Every P (each f xs) → Has xs r → P (f r)
  every_at P [] r h (pre, post, e) = nowhere pre r post e
  every_at P (x ∷ xs) r h ([], post, e) = let s : x ≡ r = cc in subst (λ n. P (f n)) s h.0
  every_at P (x ∷ xs) r h (b ∷ pre, post, e) = let s : xs ≡ pre ++ r ∷ post = cc in every_at P xs r h.1 (pre, post, s)

  first_has : (named : (r : ℕ) → (f r).row ≡ r) (xs : List ℕ) (x : NodeId) → Some x ≡ head_row (each f xs) → Has xs x.0
  first_has named [] x e = absurd (none-some x (sym e))
  first_has named (y ∷ ys) x e = ([], ys, ap (λ z. z ∷ ys) (sym (some_row x (f y).row e ∙ named y)))

  -- A source whose first run lacks characters has no other.
  only_first : (named : (r : ℕ) → (f r).row ≡ r) (xs : List ℕ) (x : NodeId) → Listed (each f xs) → Some x ≡ head_row (each f xs) → count (f x.0) ≡ 0 → (P : Run → Type 0) → P (f x.0) → Every P (each f xs)
  only_first named [] x l e z P h = absurd l
  only_first named (y ∷ []) x l e z P h = (subst (λ n. P (f n)) (some_row x (f y).row e ∙ named y) h, tt)
  only_first named (y ∷ w ∷ ws) x l e z P h =
      let s = some_row x (f y).row e ∙ named y in
      let k = ap (λ n. count (f n)) s in
      let some = l.0 in
      absurd (omega arith)

module _ (d : Draft) (t : ∥ InOrder (sheet_of d) ∥₁) where
  all_uniform : (c : List ℕ) → ((k : ℕ) → IsRun (sheet_of d) k → AllAre c (run_at (sheet_of d) k).characters) → Uniform (runs_under (sheet_of d))
  all_uniform c h =
      let s = sheet_of d in
      (c, every_each (run_at s) (λ r. refl) (λ r. AllAre c r.characters) (rows_under s) [] (rows_under s) refl (λ k l. h k (has_run d k l)))

  -- The first run, and what the tables have of it.
  module _ (first : NodeId) (h : Some first ≡ head_row (runs_under (sheet_of d))) (x : Parts) (p : PartsAt (sheet_of d) first.0 x) where
    pub empty_first : length x.lengths.now ≡ 0 → Uniform (runs_under (sheet_of d))
    empty_first z =
        let s = sheet_of d in
        let e = subst (λ (k : List ℕ). length k ≡ 0) p.lengths z in
        ([], only_first (run_at s) (λ r. refl) (rows_under s) first (draft_sound d t).listed h (cut_length (lengths_at s first.0) (text_at s first.0) ∙ e) (λ r. AllAre [] r.characters) (none_are [] (lengths_at s first.0) (text_at s first.0) e))

    -- Its first character lies in its text.
    pub first_fits : 0 < length x.lengths.now → get_or x.lengths.now 0 0 ≤ length x.text.now
    first_fits n =
        let s = sheet_of d in
        let a = sum_first x.lengths.now n in
        let b = draft_total d t first.0 (has_run d first.0 (first_has (run_at s) (λ r. refl) (rows_under s) first h)) in
        let l = ap (λ (k : List ℕ). sum k) p.lengths in
        let m = ap (λ (k : List ℕ). length k) p.text in
        omega (arith, a, b, l, m)

    -- The first character of the first run is the one that all would be.
    not_uniform : (c : List ℕ) (r : ℕ) → 0 < length x.lengths.now → c ≡ take (get_or x.lengths.now 0 0) x.text.now → IsRun (sheet_of d) r → (AllAre c (run_at (sheet_of d) r).characters → ⊥) → Uniform (runs_under (sheet_of d)) → ⊥
    not_uniform c r l is run other u =
        let s = sheet_of d in
        let P = λ (y : Run). AllAre u.0 y.characters in
        let a = every_at (run_at s) P (rows_under s) first.0 u.1 (first_has (run_at s) (λ r. refl) (rows_under s) first h) in
        let b : AllAre u.0 (cut x.lengths.now x.text.now) = rw (p.lengths, p.text) a in
        let same : c ≡ u.0 = is ∙ first_is u.0 x.lengths.now x.text.now l b in
        other (subst (λ (k : List ℕ). AllAre k (run_at s r).characters) (sym same) (every_at (run_at s) P (rows_under s) r u.1 (run_has d r run)))

    -- So none differs just if no run is found that has another.
    module _ (c : List ℕ) (l : 0 < length x.lengths.now) (is : c ≡ take (get_or x.lengths.now 0 0) x.text.now) {A : NodeId → Bool → Type 0} where
      pub uniform : {o : Option NodeId} (b : Bool) → Answered A (sheet_of d) o → ((k : NodeId) (q : Bool) → A k q → Decides q (AllAre c (run_at (sheet_of d) k.0).characters)) → is_some o ≡ not b → Decides b (Uniform (runs_under (sheet_of d)))
      uniform {o} b a g e = go o b (all_fit P (sheet_of d) a g) (first_fault P (sheet_of d) a g) e
        where
          P : Sheet → ℕ → Type 0
          P s r = AllAre c (run_at s r).characters

          go : (o : Option NodeId) (b : Bool) → (o ≡ None → AllFit P (sheet_of d)) → ((r : NodeId) → o ≡ Some r → FirstFault P (sheet_of d) r.0) → is_some o ≡ not b → Decides b (Uniform (runs_under (sheet_of d)))
          go None true all fault e = accept (all_uniform c (all refl))
          go None false all fault e = absurd (false≢true e)
          go (Some r) true all fault e = absurd (false≢true (sym e))
          go (Some r) false all fault e = let f = fault r refl in refuse (not_uniform c r.0 l is f.0 f.1)
