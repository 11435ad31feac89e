-- What a page has of a run.
use Rattle.std.proofs.Common.{Bor, slice_get, ◌≡◌, ℕ, ◌+◌, ◌-◌, ◌≤◌, Bool, true, false, List, length, take, drop, sum, Some, None, Option, Decides, sym, refl, ap, ◌∙◌, subst, arith}
use Rattle.std.specs.Bool.{then_some}
use Rattle.std.specs.Option.{ok_or, option_copied}
use Rattle.std.proofs.lemmas.Bool.{false≢true}
use Rattle.rows.specs.declared.refusal.Refusal.TheVariants.{Misplaced}
use Rattle.source.specs.Strips.{PartOf}
use Rattle.page.specs.Pages.{doc_by}
use Rattle.rows.proofs.Tests.{denied}
use Rattle.source.specs.Runs.{count, length_at, length_in}
use Rattle.page.specs.declared.draft.Draft.{Draft}
use Rattle.page.specs.declared.part.Parts.{Parts}
use Rattle.page.specs.Sheets.{sheet_of, text_at, lengths_at, runs_under, IsRun}
use Rattle.page.specs.Parts.{PartsAt, PartsIn, PartsOf}
use Rattle.page.specs.Judging.{InOrder}
use Rattle.source.specs.Pieces.{bytes_of, Within, Pieces}
use Rattle.page.specs.Texts.{cut, feeds}
use Rattle.page.specs.Sounds.{cut_length, draft_few, draft_small, draft_total}
use Rattle.page.proofs.Pieces.{cut_get, cut_piece, sum_part}
use Rattle.page.proofs.Drafts.{draft_asked, draft_asked_out, draft_characters, draft_characters_out, draft_words, draft_words_out}

-- What a reference into a page's draft is of.
pub copied : (o : Option (Bor Draft)) (x : Bor Draft) (d : Option Draft) → option_copied o ≡ d → o ≡ Some x → d ≡ Some x.now
copied o x d e s = sym e ∙ ap option_copied s

-- What a draft in order has of a row, where that is a run.
pub draft_parts : (d : Draft) → ∥ InOrder (sheet_of d) ∥₁ → (r : ℕ) (b : Bool) (x : Parts) → Decides b (IsRun (sheet_of d) r) → PartsAt (sheet_of d) r x → PartsOf (runs_under (sheet_of d)) r (then_some b x)
draft_parts d t r true x l h =
    let s = sheet_of d in
    let run = l.0 refl in
    record {
      count = ap (λ (k : List ℕ). Some (length k)) h.lengths ∙ ap Some (sym (cut_length (lengths_at s r) (text_at s r))) ∙ draft_asked d count r run;
      joined = ap Some h.joined ∙ draft_asked d (λ y. y.joined) r run;
      breaks = ap (λ (k : List ℕ). Some (feeds k)) h.text ∙ draft_asked d (λ y. y.breaks) r run;
      characters = (λ i. cut (h.lengths i) (h.text i)) ∙ draft_characters d r run;
      words = h.words ∙ draft_words d r run;
      few = subst (λ (k : List ℕ). length k ≤ 255) (sym h.lengths) (draft_few d t r run);
      small = subst (λ (k : List ℕ). sum k ≤ 65025) (sym h.lengths) (draft_small d t r run);
      within = subst (λ (k : List ℕ). sum k ≤ length x.text.now) (sym h.lengths) (subst (λ (k : List ℕ). sum (lengths_at s r) ≤ length k) (sym h.text) (draft_total d t r run));
    }
draft_parts d t r false x l h =
    let other = denied false l refl in
    record {
      count = draft_asked_out d count r other;
      joined = draft_asked_out d (λ y. y.joined) r other;
      breaks = draft_asked_out d (λ y. y.breaks) r other;
      characters = draft_characters_out d r other;
      words = draft_words_out d r other;
    }

-- No page asks for a strip.
unmasked : (o : Option Draft) → (doc_by o).masked ≡ false
unmasked None = refl
unmasked (Some d) = refl

-- The part of a run's text that a piece is.
pub page_piece : (o : Option Draft) (r i j : ℕ) (x : Parts) → PartsIn (doc_by o).runs r x → i ≤ j → j ≤ length x.lengths.now → (from m : ℕ) → from ≡ sum (take i x.lengths.now) → m ≡ sum (take (j - i) (drop i x.lengths.now)) → (strip : List ℕ) (p : Option (Bor (List ℕ))) → PartOf x.text.now from (from + m) p → Pieces (doc_by o) r i j strip (ok_or p Misplaced)
page_piece o r i j x h a b from m f g strip None e =
    let k = sum_part x.lengths.now i (j - i) in
    let w = h.within in
    absurd (e (omega arith, omega (arith, k, w, f, g)))
page_piece o r i j x h a b from m f g strip (Some y) e =
    let z : from + m - from ≡ m = omega arith in (
      (a, subst (Within j) h.count b),
      λ n. absurd (false≢true (sym (unmasked o) ∙ n)),
      e.2
          ∙ (λ k. take (z k) (drop from x.text.now))
          ∙ (λ k. take (g k) (drop (f k) x.text.now))
          ∙ cut_piece x.lengths.now x.text.now i (j - i)
          ∙ ap (λ cs. bytes_of (take (j - i) (drop i cs))) h.characters,
    )

-- The bytes of a character, where the run has it.
pub page_length : (o : Option Draft) (r i : ℕ) (x : Parts) → PartsIn (doc_by o).runs r x → slice_get x.lengths.now i ≡ length_in (doc_by o).runs r i
page_length o r i x h = cut_get x.lengths.now x.text.now i h.within ∙ ap (λ cs. length_at cs i) h.characters
