-- A page whose root and runs are in order is a sound source.
use Rattle.std.proofs.lemmas.Option.{none-some}
use Rattle.std.specs.Prelude.{◌≡◌, ℕ, suc, ◌+◌, ◌*◌, ◌<◌, ◌≤◌, false, not, List, [], ◌∷◌, ◌++◌, length, drop, sum, Some, None, Option, ◌==◌, refl}
use Rattle.std.proofs.Common.{sym, ap, subst, ◌∙◌, append_assoc, inl, inr, ⊎_elim, arith, eq-eqb, lit≤, length-drop, drop-drop}
use Rattle.std.proofs.Math.Logic.{∥∥₁_elim}
use mathlib.Core.HLevel.{Unit-prop, Π_prop, ×_prop, ⊥_prop}
use Rattle.std.proofs.Math.Bridge.{le_prop}
use Rattle.std.specs.Option.{ForSome}
use Rattle.std.specs.Coded.{coded_bool}
use denote.Struct.Props.{≡_prop}
use Rattle.std.proofs.lemmas.Bool.{cond-true, cond-false, cases_eq, ne_eqb, false≢true}
use Rattle.std.proofs.lemmas.List.{length-take-le, get_or-drop}
use Rattle.std.proofs.lemmas.List.Sums.{sum_by-cons}
use Rattle.unicode_text.specs.Table.{WellFormed}
use Rattle.unicode_text.specs.Scalars.{begins, Cut}
use Rattle.unicode_text.proofs.Rows.{sound, complete}
use Rattle.unicode_text.proofs.Cuts.{cut_parts, cut_from_between}
use Rattle.rows.specs.Rows.{row}
use Rattle.tree.specs.Order.{Apart}
use Rattle.rows.specs.Filters.{text_answer}
use Rattle.tree.specs.Trees.{Lists}
use Rattle.tree.proofs.Trees.{lists}
use Rattle.source.specs.Runs.{Run, count, row_id, head_row, next_in, Every, Character, Rising, SoundRun, Lacks, Listed, Sound}
use Rattle.source.specs.Layers.{each}
use Rattle.source.specs.Keeping.{each_length}
use Rattle.page.specs.declared.draft.Draft.{Draft}
use Rattle.page.specs.Texts.{cut, Ended, Fitting}
use Rattle.page.specs.Sheets.{sheet_of, sheet_doc, text_at, lengths_at, no_link, run_at, rows_under, runs_under, IsRun, Has}
use Rattle.page.specs.declared.page.Page.{Page}
use Rattle.page.specs.Judging.{LinkedOn, InOrder}
use Rattle.page.specs.Pages.{blank_doc, doc_by, page_doc}

-- A text is cut into as many characters as there are lengths.
pub cut_length : (ns bs : List ℕ) → length (cut ns bs) ≡ length ns
cut_length [] bs = refl
cut_length (n ∷ ns) bs = ap suc (cut_length ns (drop n bs))

-- A cut of the text is a cut of what lies behind another.
cut_behind : (bs : List ℕ) (at n : ℕ) → Cut bs (at + n) → Cut (drop at bs) n
cut_behind bs at n (h, k) =
    let l = length-drop at bs in
    (omega (arith, l, h), λ q. ap begins (get_or-drop at bs n 0) ∙ k (omega (arith, l, q)))

-- What the lengths cut out of a well-formed text, from a cut on, are characters.
pub cut_characters : (bs ns : List ℕ) (at : ℕ) → WellFormed bs → Cut bs at → Ended bs at ns → Every Character (cut ns (drop at bs))
cut_characters bs [] at w c e = tt
cut_characters bs (n ∷ ns) at w c (s, m, b, e) =
    let k = cut_from_between bs (at + n) w b in
    let j = cut_behind bs at n k in
    let l = length-take-le n (drop at bs) j.0 in (
      record {
        some = omega (arith, l, s);
        short = omega (arith, l, m);
        whole = (cut_parts (drop at bs) n (cut_parts bs at w c).1 j).0;
      },
      subst (λ (z : List ℕ). Every Character (cut ns z)) (sym (drop-drop n at bs)) (cut_characters bs ns (at + n) w k e),
    )

-- Lengths that fit a text cut it into characters.
pub fitting_characters : (bs ns : List ℕ) → Fitting bs ns → Every Character (cut ns bs)
fitting_characters bs ns f = cut_characters bs ns 0 f.whole (cut_start bs f.whole) f.ended
  where
    cut_start : (t : List ℕ) → WellFormed t → Cut t 0
    cut_start t w = cut_from_between t 0 w ([], _, refl, refl)

-- The characters reach the text's end.
pub ended_total : (bs ns : List ℕ) (at : ℕ) → Ended bs at ns → at + sum ns ≡ length bs
ended_total bs [] at e = omega (arith, e)
ended_total bs (n ∷ ns) at (s, m, b, e) = let h = ended_total bs ns (at + n) e in let c = sum_by-cons (λ x. x) n ns in omega (arith, h, c)

-- Any list of rows, none twice, and the run that f makes of each.
module _ (f : ℕ → Run) (named : (r : ℕ) → (f r).row ≡ r) where
  tail_apart : (x : ℕ) (xs : List ℕ) → Apart (x ∷ xs) → Apart xs
  tail_apart x xs a y (pre, mid, post, e) = a y (x ∷ pre, mid, post, ap (λ l. x ∷ l) e)

  -- What follows a row's run is the first run of what follows the row.
  next_at : (pre post : List ℕ) (x : ℕ) → Apart (pre ++ x ∷ post) → next_in (each f (pre ++ x ∷ post)) x ≡ head_row (each f post)
  next_at [] post x a = cond-true ((f x).row == x) (head_row (each f post)) (next_in (each f post) x) (eq-eqb (f x).row x (named x))
  next_at (p ∷ pre) post x a =
      let other : p ≡ x → ⊥ = λ e. a x ([], pre, post, ap (λ z. z ∷ (pre ++ x ∷ post)) e) in
      cond-false ((f p).row == x) (head_row (each f (pre ++ x ∷ post))) (next_in (each f (pre ++ x ∷ post)) x) (ne_eqb (f p).row x (λ e. other (sym (named p) ∙ e)))
      ∙ next_at pre post x (tail_apart p (pre ++ x ∷ post) a)

  lacks : (r : ℕ) (xs : List ℕ) → (Has xs r → ⊥) → Lacks r (each f xs)
  lacks r [] h = tt
  lacks r (x ∷ xs) h = (
    λ e. h ([], xs, ap (λ z. z ∷ xs) (sym (named x) ∙ e)),
    lacks r xs (λ t. h (x ∷ t.0, t.1, ap (λ l. x ∷ l) t.2)),
  )

  -- Only the last may lack characters, and the last is joined to none: then the runs are a source's.
  module _ (all : List ℕ) (a : Apart all)
      (filled : (x : ℕ) → Has all x → count (f x) ≡ 0 → next_in (each f all) x ≡ None)
      (final : (x : ℕ) → Has all x → next_in (each f all) x ≡ None → (f x).joined ≡ false) where
    next_here : (pre post : List ℕ) (x : ℕ) → all ≡ pre ++ x ∷ post → next_in (each f all) x ≡ head_row (each f post)
    next_here pre post x e = ap (λ (l : List ℕ). next_in (each f l) x) e ∙ next_at pre post x (subst Apart e a)

    pub listed_from : (pre xs : List ℕ) → all ≡ pre ++ xs → 0 < length xs → Listed (each f xs)
    listed_from pre [] e some = absurd (omega arith)
    listed_from pre (x ∷ []) e some = final x (pre, [], e) (next_here pre [] x e)
    listed_from pre (x ∷ y ∷ ys) e some = (
      ⊎_elim
          (λ z. absurd (none-some (row_id (f y).row) (sym (filled x (pre, y ∷ ys, e) z) ∙ next_here pre (y ∷ ys) x e)))
          (λ n. omega arith)
          (cases_eq (count (f x)) 0),
      subst (λ r. Lacks r (each f (y ∷ ys))) (sym (named x)) (lacks x (y ∷ ys) (λ t. a x (pre, t.0, t.1, e ∙ ap (λ l. pre ++ x ∷ l) t.2))),
      listed_from (pre ++ x ∷ []) (y ∷ ys) (e ∙ sym (append_assoc pre (x ∷ []) (y ∷ ys))) (omega arith),
    )

  -- What holds of each row's run holds of every run.
  pub every_each : (P : Run → Type 0) (all pre xs : List ℕ) → all ≡ pre ++ xs → ((x : ℕ) → Has all x → P (f x)) → Every P (each f xs)
  every_each P all pre [] e h = tt
  every_each P all pre (x ∷ xs) e h = (h x (pre, xs, e), every_each P all (pre ++ x ∷ []) xs (e ∙ sym (append_assoc pre (x ∷ []) xs)) h)

module _ (d : Draft) where
  all_lists : Lists d.tree (text_answer d.root.0) d.root
  all_lists = lists d.tree (text_answer d.root.0) d.root d.rooted

  has_run : (x : ℕ) → Has (rows_under (sheet_of d)) x → IsRun (sheet_of d) x
  has_run x h = all_lists.only x h.0 h.1 h.2

  -- The last run is joined to none.
  unjoined : (x : ℕ) → LinkedOn (sheet_of d) x → next_in (runs_under (sheet_of d)) x ≡ None → (run_at (sheet_of d) x).joined ≡ false
  unjoined x (inl e) n = ap not (eq-eqb (row (sheet_of d).rows x).next.0 no_link e)
  unjoined x (inr h) n = absurd (none-some (row (sheet_of d).rows x).next (sym n ∙ h.0))

  draft_listed : InOrder (sheet_of d) → Listed (runs_under (sheet_of d))
  draft_listed o =
      listed_from (run_at (sheet_of d)) (λ r. refl) (rows_under (sheet_of d)) all_lists.apart
      (λ x h z. (o.characters x (has_run x h)).1 (sym (cut_length (lengths_at (sheet_of d) x) (text_at (sheet_of d) x)) ∙ z))
      (λ x h n. unjoined x (o.lines x (has_run x h)).0 n)
      [] (rows_under (sheet_of d)) refl o.rooted.2

  draft_run : InOrder (sheet_of d) → (x : ℕ) → Has (rows_under (sheet_of d)) x → SoundRun (run_at (sheet_of d) x)
  draft_run o x h =
      let e = cut_length (lengths_at (sheet_of d) x) (text_at (sheet_of d) x) in
      let c = (o.characters x (has_run x h)).0 in
      record {
        few = omega (arith, e, c.few);
        characters = fitting_characters (text_at (sheet_of d) x) (lengths_at (sheet_of d) x) c;
        words = subst (λ n. Rising 0 n (run_at (sheet_of d) x).words) (sym e) (o.words x (has_run x h));
      }

-- That a source is sound comes out of a truncation: what is no proposition by its form is told by a
-- test.
three_prop : {A B C : Type 0} → IsProp A → IsProp B → IsProp C → IsProp (A × B × C)
three_prop h k l u v = λ i. (h u.0 v.0 i, k u.1 v.1 i, l u.2 v.2 i)

rising_prop : (low n : ℕ) (ws : List ℕ) → IsProp (Rising low n ws)
rising_prop low n [] = Unit-prop
rising_prop low n (w ∷ ws) = three_prop le_prop le_prop (rising_prop (suc w) n ws)

lacks_prop : (r : ℕ) (xs : List Run) → IsProp (Lacks r xs)
lacks_prop r [] = Unit-prop
lacks_prop r (x ∷ xs) = ×_prop (Π_prop (λ e. ⊥_prop)) (lacks_prop r xs)

listed_prop : (xs : List Run) → IsProp (Listed xs)
listed_prop [] = ⊥_prop
listed_prop (x ∷ []) = ≡_prop coded_bool _ _
listed_prop (x ∷ y ∷ ys) = three_prop le_prop (lacks_prop x.row (y ∷ ys)) (listed_prop (y ∷ ys))

module _ {A : Type 0} (t : ∥ A ∥₁) where
  kept_characters : (cs : List (List ℕ)) → (A → Every Character cs) → Every Character cs
  kept_characters [] g = tt
  kept_characters (c ∷ cs) g = (
    record {
      some = ∥∥₁_elim t le_prop (λ a. (g a).0.some);
      short = ∥∥₁_elim t le_prop (λ a. (g a).0.short);
      whole = sound _ c (∥∥₁_elim t (≡_prop coded_bool _ _) (λ a. complete (g a).0.whole));
    },
    kept_characters cs (λ a. (g a).1),
  )

  kept_run : (x : Run) → (A → SoundRun x) → SoundRun x
  kept_run x g = record {
    few = ∥∥₁_elim t le_prop (λ a. (g a).few);
    characters = kept_characters x.characters (λ a. (g a).characters);
    words = ∥∥₁_elim t (rising_prop 0 (count x) x.words) (λ a. (g a).words);
  }

-- A draft in order is a sound source.
pub draft_sound : (d : Draft) → ∥ InOrder (sheet_of d) ∥₁ → Sound (sheet_doc (sheet_of d))
draft_sound d t = record {
  few = subst (λ n. n ≤ 1024) (sym (each_length (run_at (sheet_of d)) (rows_under (sheet_of d)))) (all_lists d).few;
  listed = ∥∥₁_elim t (listed_prop (runs_under (sheet_of d))) (draft_listed d);
  runs = every_each (run_at (sheet_of d)) (λ r. refl) SoundRun (rows_under (sheet_of d)) [] (rows_under (sheet_of d)) refl (λ x h. kept_run t (run_at (sheet_of d) x) (λ o. draft_run d o x h));
  bulleted = λ e. absurd (false≢true e);
}

-- The characters of a run take up its text.
pub draft_total : (d : Draft) → ∥ InOrder (sheet_of d) ∥₁ → (x : ℕ) → IsRun (sheet_of d) x → sum (lengths_at (sheet_of d) x) ≤ length (text_at (sheet_of d) x)
draft_total d t x l =
    ∥∥₁_elim t le_prop (λ o.
    let e = ended_total (text_at (sheet_of d) x) (lengths_at (sheet_of d) x) 0 (o.characters x l).0.ended in
    omega (arith, e))

ended_small : (bs ns : List ℕ) (at : ℕ) → Ended bs at ns → sum ns ≤ 255 * length ns
ended_small bs [] at e = omega arith
ended_small bs (n ∷ ns) at (s, m, b, e) = let h = ended_small bs ns (at + n) e in let c = sum_by-cons (λ x. x) n ns in omega (arith, h, m, c)

-- The bytes of a run's characters are few.
pub draft_small : (d : Draft) → ∥ InOrder (sheet_of d) ∥₁ → (x : ℕ) → IsRun (sheet_of d) x → sum (lengths_at (sheet_of d) x) ≤ 65025
draft_small d t x l =
    ∥∥₁_elim t le_prop (λ o.
    let f = (o.characters x l).0 in
    let e = ended_small (text_at (sheet_of d) x) (lengths_at (sheet_of d) x) 0 f.ended in
    omega (arith, e, f.few))

-- No run has over 255 characters.
pub draft_few : (d : Draft) → ∥ InOrder (sheet_of d) ∥₁ → (x : ℕ) → IsRun (sheet_of d) x → length (lengths_at (sheet_of d) x) ≤ 255
draft_few d t x l = ∥∥₁_elim t le_prop (λ o. (o.characters x l).0.few)

blank_sound : Sound blank_doc
blank_sound = record {
  few = lit≤ tt;
  listed = refl;
  runs = (record { few = lit≤ tt; characters = tt; words = tt }, tt);
  bulleted = λ e. absurd (false≢true e);
}

sound_by : (o : Option Draft) → ForSome o (λ d. ∥ InOrder (sheet_of d) ∥₁) → Sound (doc_by o)
sound_by None h = blank_sound
sound_by (Some d) h = draft_sound d (h d refl)

-- Every page is a sound source, the blank one too.
pub page_sound : (p : Page) → Sound (page_doc p)
page_sound p = sound_by p.draft p.ordered
