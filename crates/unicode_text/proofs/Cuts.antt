-- Where a well-formed text may be cut: just at the bytes with which an encoding begins, and at its end.
use Rattle.std.proofs.Common.{◌≡◌, ℕ, zero, suc, ◌+◌, ◌-◌, ◌/◌, ◌<◌, ◌≤◌, Bool, true, false, ◌⊎◌, List, [], ◌∷◌, ◌++◌, length, get_or, take, drop, Decides, sym, refl, ap, ◌∙◌, subst, inl, inr, append_assoc, arith, length-append}
use Rattle.std.proofs.lemmas.Bool.Decides.{nat_tests}
use Rattle.std.proofs.lemmas.Bool.{cases_lt, cases_eq, both_ways}
use Rattle.std.proofs.lemmas.List.{get_or_append_left, get_or-append-add, get_or-append_right, take_at, drop_at}
use Rattle.unicode_text.specs.Table.{Trail, WellFormed}
use Rattle.unicode_text.specs.Scalars.{IsScalar, Scalars, encode, encodings, trailing, begins, scalars, Cut, Between}
use Rattle.unicode_text.proofs.Encodings.{size, spelt, encodings_fit}
use Rattle.unicode_text.proofs.Encodings.Size.{one, two, three, four}

-- the first byte of an encoding begins it, the others do not
record Led (f : List ℕ) : Type 0 where
  some : 0 < length f
  first : (s : List ℕ) → begins (get_or (f ++ s) 0 0) ≡ true
  others : (k : ℕ) → 0 < k → k < length f → begins (get_or f k 0) ≡ false

pub lead_begins : (b : ℕ) → (b < 0x80) ⊎ (0xC0 ≤ b) → begins b ≡ true
lead_begins b (inl h) = grind (arith, nat_tests)
lead_begins b (inr h) = grind (arith, nat_tests)

pub trail_begins_none : (b : ℕ) → Trail b → begins b ≡ false
trail_begins_none b (p, q) = grind (arith, nat_tests)

trail_not : (n : ℕ) → begins (trailing n) ≡ false
trail_not n = trail_begins_none (trailing n) (omega arith, omega arith)

led_one : (a : ℕ) → begins a ≡ true → Led (a ∷ [])
led_one a h = record { some = omega arith; first = λ s. h; others = λ k p q. absurd (omega arith) }

led_two : (a m : ℕ) → begins a ≡ true → Led (a ∷ trailing m ∷ [])
led_two a m h = record { some = omega arith; first = λ s. h; others = go }
  where
    go : (k : ℕ) → 0 < k → k < 2 → begins (get_or (a ∷ trailing m ∷ []) k 0) ≡ false
    go zero p q = absurd (omega arith)
    go (suc zero) p q = trail_not m
    go (suc (suc k)) p q = absurd (omega arith)

led_three : (a m n : ℕ) → begins a ≡ true → Led (a ∷ trailing m ∷ trailing n ∷ [])
led_three a m n h = record { some = omega arith; first = λ s. h; others = go }
  where
    go : (k : ℕ) → 0 < k → k < 3 → begins (get_or (a ∷ trailing m ∷ trailing n ∷ []) k 0) ≡ false
    go zero p q = absurd (omega arith)
    go (suc zero) p q = trail_not m
    go (suc (suc zero)) p q = trail_not n
    go (suc (suc (suc k))) p q = absurd (omega arith)

led_four : (a m n o : ℕ) → begins a ≡ true → Led (a ∷ trailing m ∷ trailing n ∷ trailing o ∷ [])
led_four a m n o h = record { some = omega arith; first = λ s. h; others = go }
  where
    go : (k : ℕ) → 0 < k → k < 4 → begins (get_or (a ∷ trailing m ∷ trailing n ∷ trailing o ∷ []) k 0) ≡ false
    go zero p q = absurd (omega arith)
    go (suc zero) p q = trail_not m
    go (suc (suc zero)) p q = trail_not n
    go (suc (suc (suc zero))) p q = trail_not o
    go (suc (suc (suc (suc k)))) p q = absurd (omega arith)

led : (c : ℕ) → IsScalar c → Led (encode c)
led c i =
    elim (size c i) [
      | one p e ↦ subst Led (sym e) (led_one c (lead_begins c (inl p)))
      | two p q e ↦ subst Led (sym e) (led_two (0xC0 + c / 0x40) c (lead_begins (0xC0 + c / 0x40) (inr (omega arith))))
      | three p q e ↦ subst Led (sym e) (led_three (0xE0 + c / 0x1000) (c / 0x40) c (lead_begins (0xE0 + c / 0x1000) (inr (omega arith))))
      | four p q e ↦ subst Led (sym e) (led_four (0xF0 + c / 0x4_0000) (c / 0x1000) (c / 0x40) c (lead_begins (0xF0 + c / 0x4_0000) (inr (omega arith))))
    ]

-- some scalars before the offset and the others behind it
abbrev Split : List ℕ → ℕ → Type 0
Split cs at = (before : List ℕ) × (behind : List ℕ) × (cs ≡ before ++ behind) × (length (encodings before) ≡ at)

-- one scalar more before the offset
more : (c : ℕ) (cs : List ℕ) (at : ℕ) → length (encode c) ≤ at → Split cs (at - length (encode c)) → Split (c ∷ cs) at
more c cs at l (before, behind, e, n) =
    let m = length-append (encode c) (encodings before) in
    (c ∷ before, behind, ap (λ s. c ∷ s) e, omega arith)

split_at : (cs : List ℕ) (at : ℕ) → Scalars cs → Cut (encodings cs) at → Split cs at
split_at [] at i (h, k) = ([], [], refl, omega arith)
split_at (c ∷ cs) at (i, is) (h, k) =
    let d = led c i in
    let a = length-append (encode c) (encodings cs) in
    elim (cases_eq at 0) [
      | inl z ↦ ([], c ∷ cs, refl, sym z)
      | inr z ↦
          elim (cases_lt at (length (encode c))) [
            | inl p ↦
                let some = d.some in
                let b = sym (ap begins (get_or_append_left (encode c) (encodings cs) 0 at p)) in
                absurd (both_ways (begins (get_or (encode c ++ encodings cs) at 0)) (sym b ∙ d.others at (omega arith) p) (k (omega arith)))
            | inr p ↦
                more c cs at p (split_at cs (at - length (encode c)) is
                (omega arith, λ q. ap begins (sym (get_or-append_right (encode c) (encodings cs) (length (encode c)) at 0 refl p)) ∙ k (omega arith)))
          ]
    ]

encodings_append : (cs ds : List ℕ) → encodings (cs ++ ds) ≡ encodings cs ++ encodings ds
encodings_append [] ds = refl
encodings_append (c ∷ cs) ds = ap (λ s. encode c ++ s) (encodings_append cs ds) ∙ sym (append_assoc (encode c) (encodings cs) (encodings ds))

behind_begins : (ds : List ℕ) → Scalars ds → 0 < length (encodings ds) → begins (get_or (encodings ds) 0 0) ≡ true
behind_begins [] h l = absurd (omega arith)
behind_begins (d ∷ ds) (i, h) l = (led d i).first (encodings ds)

scalars_behind : (cs ds : List ℕ) → Scalars (cs ++ ds) → Scalars ds
scalars_behind [] ds h = h
scalars_behind (c ∷ cs) ds h = scalars_behind cs ds h.1

scalars_before : (cs ds : List ℕ) → Scalars (cs ++ ds) → Scalars cs
scalars_before [] ds h = tt
scalars_before (c ∷ cs) ds h = (h.0, scalars_before cs ds h.1)

cut_at : (cs : List ℕ) (at : ℕ) → Scalars cs → Split cs at → Cut (encodings cs) at
cut_at cs at i (before, behind, e, n) =
    let s = subst Scalars e i in
    let f = ap encodings e ∙ encodings_append before behind in
    let l = ap length f ∙ length-append (encodings before) (encodings behind) in
    let z : length (encodings before) + 0 ≡ at = omega arith in (
      omega arith,
      λ q. ap begins (ap (λ (x : List ℕ). get_or x at 0) f ∙ ap (λ m. get_or (encodings before ++ encodings behind) m 0) (sym z) ∙ get_or-append-add (encodings before) (encodings behind) 0 0)
          ∙ behind_begins behind (scalars_behind before behind s) (omega arith),
    )

-- the two tests of a cut agree on a well-formed text
pub between_from_cut : (t : List ℕ) (at : ℕ) → WellFormed t → Cut t at → Between t at
between_from_cut t at w c = let s = spelt w in split_at (scalars t) at s.scalars (subst (λ (x : List ℕ). Cut x at) s.bytes c)

pub cut_from_between : (t : List ℕ) (at : ℕ) → WellFormed t → Between t at → Cut t at
cut_from_between t at w b = let s = spelt w in subst (λ (x : List ℕ). Cut x at) (sym s.bytes) (cut_at (scalars t) at s.scalars b)

pub cuts_agree : (t : List ℕ) (at : ℕ) (r : Bool) → Decides r (Cut t at) → WellFormed t → Decides r (Between t at)
cuts_agree t at r d w = (λ e. between_from_cut t at w (d.0 e), λ b. d.1 (cut_from_between t at w b))

-- a well-formed text cut there leaves two well-formed texts
pub cut_parts : (t : List ℕ) (at : ℕ) → WellFormed t → Cut t at → WellFormed (take at t) × WellFormed (drop at t)
cut_parts t at w c =
    let s = spelt w in
    let b = between_from_cut t at w c in
    let e = s.bytes ∙ ap encodings b.2 ∙ encodings_append b.0 b.1 in
    let i = subst Scalars b.2 s.scalars in (
      subst (λ (x : List ℕ). WellFormed x) (sym (ap (take at) e ∙ take_at (encodings b.0) (encodings b.1) at b.3)) (encodings_fit b.0 (scalars_before b.0 b.1 i)),
      subst (λ (x : List ℕ). WellFormed x) (sym (ap (drop at) e ∙ drop_at (encodings b.0) (encodings b.1) at b.3)) (encodings_fit b.1 (scalars_behind b.0 b.1 i)),
    )

-- every encoding has a byte
pub encode_some : (c : ℕ) → IsScalar c → 0 < length (encode c)
encode_some c i = (led c i).some
