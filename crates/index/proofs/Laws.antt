-- Why each index call leaves one answer, and why an index leads back to its place.
use Rattle.std.proofs.Common.{◌≡◌, ℕ, zero, suc, ◌+◌, ◌-◌, ◌<◌, ◌≤◌, List, [], ◌∷◌, length, take, Ok, Err, Result, sym, refl, ap, ◌∙◌, inl, inr, ⊎_elim, arith}
use Rattle.std.proofs.lemmas.Bool.{cases_lt}
use Rattle.rows.specs.declared.refusal.Refusal.{Refusal}
use Rattle.unicode_text.specs.Scalars.{scalars, encodings}
use Rattle.unicode_text.specs.Measures.{total as sum_of}
use Rattle.unicode_text.proofs.Encodings.{spelt}
use Rattle.source.specs.Runs.{Document, Sound, Character, Every}
use Rattle.position.specs.declared.position.Position.{Position}
use Rattle.position.specs.Places.{Lawful, offset, total, place}
use Rattle.position.specs.Laws.{Single}
use Rattle.position.proofs.Places.{offset_inside}
use Rattle.position.proofs.Laws.{answers_single}
use Rattle.position.specs.Places.{characters_of}
use Rattle.index.specs.Measured.{index_at, Holds, Finds}
use Rattle.index.specs.LineIndexes.{LineRange}
use Rattle.index.specs.Laws.{Singles}
use Rattle.index.proofs.Sums.{sum_all, all_take}
use Rattle.index.proofs.Indexes.{text_characters}
use Rattle.index.proofs.Searches.{index_sum, text_length}

module _ (u : ℕ → ℕ) (d : Document) (s : Sound d) where
  index_up : (a b : ℕ) → a ≤ b → index_at u d a ≤ index_at u d b
  index_up a b h =
      let z : a + (b - a) ≡ b = omega arith in
      let x = index_sum u d s a in
      let y = ap (index_at u d) (sym z) ∙ index_sum u d s (a + (b - a)) in
      let t = all_take u (characters_of d.runs) a (b - a) in
      omega arith

  module _ (i : ℕ) where
    -- the unit's number lies below the index behind the place, or the place is the end
    upto : (p : Position) (h : Holds u d i p) → i ≤ index_at u d (total d)
    upto p h =
        ⊎_elim
        (λ x. let a = x.0 in let b = x.2 in let c = index_up (h.at + 1) (total d) (omega arith) in omega arith)
        (λ x. let b = x.1 in omega arith)
        h.holds

    no_less : (p q : Position) (h : Holds u d i p) (k : Holds u d i q) → h.at < k.at → ⊥
    no_less p q h k l =
        ⊎_elim
        (λ x.
        let b = x.2 in
        let c = index_up (h.at + 1) k.at (omega arith) in
        ⊎_elim
        (λ y. let e = y.1 in omega arith)
        (λ y. let e = y.1 in let f = ap (index_at u d) y.0 in omega arith)
        k.holds)
        (λ x.
        let a = x.0 in
        ⊎_elim (λ y. let e = y.0 in omega arith) (λ y. let e = y.0 in omega arith) k.holds)
        h.holds

    same_at : (p q : Position) (h : Holds u d i p) (k : Holds u d i q) → h.at ≡ k.at
    same_at p q h k =
        ⊎_elim (λ l. absurd (no_less p q h k l))
        (λ l. ⊎_elim (λ m. absurd (no_less q p k h m)) (λ m. omega arith) (cases_lt k.at h.at))
        (cases_lt h.at k.at)

    found_single : Single (Result Position Refusal) (Finds u d i)
    found_single (Ok x) (Ok y) a b = ap Ok (a.lands ∙ ap (place d) (same_at x y a b) ∙ sym b.lands)
    found_single (Ok x) (Err f) a b = let z = upto x a in let w = b.1 in absurd (omega arith)
    found_single (Err e) (Ok y) a b = let z = upto y b in let w = a.1 in absurd (omega arith)
    found_single (Err e) (Err f) a b = ap Err (a.0 ∙ sym b.0)

same_pair : (x y : Position × Position) → x.0 ≡ y.0 → x.1 ≡ y.1 → x ≡ y
same_pair x y e f = ap (λ a. (a, x.1)) e ∙ ap (λ b. (y.0, b)) f

ranged_single : (d : Document) (k : ℕ) → Single (Result (Position × Position) Refusal) (LineRange d k)
ranged_single d k (Ok x) (Ok y) a b = ap Ok (same_pair x y (a.start_is ∙ sym b.start_is) (a.end_is ∙ sym b.end_is))
ranged_single d k (Ok x) (Err f) a b = let z = a.first.inside in let w = b.1 in absurd (omega arith)
ranged_single d k (Err e) (Ok y) a b = let z = b.first.inside in let w = a.1 in absurd (omega arith)
ranged_single d k (Err e) (Err f) a b = ap Err (a.0 ∙ sym b.0)

-- a character measures something
character_some : (u : ℕ → ℕ) → ((c : ℕ) → 1 ≤ u c) → (c : List ℕ) → Character c → 0 < sum_of u (scalars c)
character_some u h c k = by_scalars (scalars c) refl
  where
    by_scalars : (cs : List ℕ) → cs ≡ scalars c → 0 < sum_of u cs
    by_scalars [] e =
        let z = ap length ((spelt k.whole).bytes ∙ ap encodings (sym e)) in
        let y = k.some in
        absurd (omega arith)
    by_scalars (x ∷ cs) e = let y = h x in omega arith

text_step : (u : ℕ → ℕ) → ((c : ℕ) → 1 ≤ u c) → (cs : List (List ℕ)) (k : ℕ) → Every Character cs → k < length cs → sum_all u (take k cs) < sum_all u (take (suc k) cs)
text_step u h [] k e l = absurd (omega arith)
text_step u h (c ∷ cs) zero e l = let a = character_some u h c e.0 in omega arith
text_step u h (c ∷ cs) (suc k) e l = let a = text_step u h cs k e.1 (omega arith) in omega arith

-- an index leads back to its place
index_back : (u : ℕ → ℕ) → ((c : ℕ) → 1 ≤ u c) → (d : Document) → Sound d → (p : Position) → Lawful d p → Holds u d (index_at u d (offset d p)) (place d (offset d p))
index_back u h d s p l =
    let k = offset d p in
    let i = offset_inside d.runs p.row.0 p.index l.1 in
    record {
      at = k;
      lands = refl;
      holds = ⊎_elim
          (λ x.
          let t = text_length d.runs in
          let z : suc k ≡ k + 1 = omega arith in
          let a = index_sum u d s k in
          let b = ap (index_at u d) (sym z) ∙ index_sum u d s (suc k) in
          let y = text_step u h (characters_of d.runs) k (text_characters d.runs s.runs) (omega arith) in
          inl (x, omega arith, omega arith))
          (λ x. let z : k ≡ total d = omega arith in inr (z, ap (index_at u d) z))
          (cases_lt k (total d));
    }

pub singles : (d : Document) → Sound d → Singles d
singles d s = record {
  counted = λ p k. answers_single ℕ (Lawful d p) (λ n. n ≡ k) (λ x y a b. a ∙ sym b);
  found = λ u i. found_single u d s i;
  ranged = ranged_single d;
  rises = λ u. index_up u d s;
  returned = λ u h p l. index_back u h d s p l;
}
