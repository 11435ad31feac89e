-- Which scalar stands at an offset, from the bytes there.
use Rattle.std.proofs.Common.{◌≡◌, ℕ, suc, ◌+◌, ◌*◌, ◌/◌, ◌%◌, ◌<◌, ◌≤◌, ◌⊎◌, List, [], ◌∷◌, ◌++◌, length, get_or, drop, Some, None, Option, sym, refl, ap, ◌∙◌, subst, inl, inr, arith, length-drop, MatchOption}
use Rattle.std.proofs.lemmas.List.{drop_more, drop_all, get_or-drop}
use Rattle.unicode_text.specs.declared.scalar.Scalar.{Scalar}
use Rattle.unicode_text.specs.Table.{Trail}
use Rattle.unicode_text.specs.Scalars.{IsScalar, encode, trailing, scalars, StandsAt}
use Rattle.unicode_text.proofs.Encodings.{size, reads, Sequence, sequence_one, sequence_two, sequence_three, sequence_four}
use Rattle.unicode_text.proofs.Encodings.Size.{one, two, three, four}

-- the bytes at an offset where the encoding of c begins
data Shape (t : List ℕ) (at c : ℕ) : Type 0 where
  of_one : c < 0x80 → get_or t at 0 ≡ c → Shape t at c
  of_two : 0x80 ≤ c → c < 0x800 → get_or t at 0 ≡ 0xC0 + c / 0x40 → at + 1 < length t → get_or t (at + 1) 0 ≡ trailing c → Shape t at c
  of_three : 0x800 ≤ c → c < 0x1_0000 → get_or t at 0 ≡ 0xE0 + c / 0x1000 → at + 2 < length t → get_or t (at + 1) 0 ≡ trailing (c / 0x40) → get_or t (at + 2) 0 ≡ trailing c → Shape t at c
  of_four : 0x1_0000 ≤ c → c ≤ 0x10_FFFF → get_or t at 0 ≡ 0xF0 + c / 0x4_0000 → at + 3 < length t → get_or t (at + 1) 0 ≡ trailing (c / 0x1000) → get_or t (at + 2) 0 ≡ trailing (c / 0x40) → get_or t (at + 3) 0 ≡ trailing c → Shape t at c

-- what stands k places behind an offset
behind : (t : List ℕ) (at k x : ℕ) (l : List ℕ) → drop at t ≡ l → get_or l k 0 ≡ x → get_or t (at + k) 0 ≡ x
behind t at k x l e h = sym (get_or-drop at t k 0) ∙ ap (λ (s : List ℕ). get_or s k 0) e ∙ h

here : (t : List ℕ) (at x : ℕ) (s : List ℕ) → drop at t ≡ x ∷ s → get_or t at 0 ≡ x
here t at x s e = let z : at + 0 ≡ at = omega arith in sym (ap (λ n. get_or t n 0) z) ∙ behind t at 0 x (x ∷ s) e refl

reach : (t : List ℕ) (at n : ℕ) (l : List ℕ) → drop at t ≡ l → n < length l → at + n < length t
reach t at n l e h = let k = sym (length-drop at t) ∙ ap length e in omega arith

shape : (t : List ℕ) (at c : ℕ) (s : List ℕ) → IsScalar c → drop at t ≡ encode c ++ s → Shape t at c
shape t at c s i h =
    elim (size c i) [
      | one p e ↦ let f = h ∙ ap (λ x. x ++ s) e in of_one p (here t at c s f)
      | two p q e ↦
          let l = (0xC0 + c / 0x40) ∷ trailing c ∷ s in
          let f : drop at t ≡ l = h ∙ ap (λ x. x ++ s) e in
          of_two p q (here t at (0xC0 + c / 0x40) (trailing c ∷ s) f) (reach t at 1 l f (omega arith)) (behind t at 1 (trailing c) l f refl)
      | three p q e ↦
          let l = (0xE0 + c / 0x1000) ∷ trailing (c / 0x40) ∷ trailing c ∷ s in
          let f : drop at t ≡ l = h ∙ ap (λ x. x ++ s) e in
          of_three p q (here t at (0xE0 + c / 0x1000) (trailing (c / 0x40) ∷ trailing c ∷ s) f) (reach t at 2 l f (omega arith))
          (behind t at 1 (trailing (c / 0x40)) l f refl) (behind t at 2 (trailing c) l f refl)
      | four p q e ↦
          let l = (0xF0 + c / 0x4_0000) ∷ trailing (c / 0x1000) ∷ trailing (c / 0x40) ∷ trailing c ∷ s in
          let f : drop at t ≡ l = h ∙ ap (λ x. x ++ s) e in
          of_four p q (here t at (0xF0 + c / 0x4_0000) (trailing (c / 0x1000) ∷ trailing (c / 0x40) ∷ trailing c ∷ s) f) (reach t at 3 l f (omega arith))
          (behind t at 1 (trailing (c / 0x1000)) l f refl) (behind t at 2 (trailing (c / 0x40)) l f refl) (behind t at 3 (trailing c) l f refl)
    ]

-- a sequence that begins at the offset: its scalar stands there
stood : (t : List ℕ) (at n v : ℕ) (f : List ℕ) → Sequence f v → length f ≡ n → drop at t ≡ f ++ drop (at + n) t → (x : Scalar) → x.value ≡ v → x.length ≡ n → StandsAt t at (Some x)
stood t at n v f q l e x i j =
    let w = q.bytes in
    let b : encode x.value ≡ f = ap encode i ∙ w in
    (subst IsScalar (sym i) q.scalar, j ∙ sym l ∙ sym (ap length b), e ∙ ap (λ y. y ++ drop (at + n) t) (sym b) ∙ ap (λ m. encode x.value ++ drop (at + m) t) (sym j))

module _ (t : List ℕ) (at : ℕ) where
  next_is : (k : ℕ) → at + k < length t → drop (at + k) t ≡ get_or t (at + k) 0 ∷ drop (at + suc k) t
  next_is k h = let z : at + k + 1 ≡ at + suc k = omega arith in drop_more t (at + k) 0 h ∙ ap (λ n. get_or t (at + k) 0 ∷ drop n t) z

  at_is : at < length t → drop at t ≡ get_or t at 0 ∷ drop (at + 1) t
  at_is h = drop_more t at 0 h

  front_two : at + 1 < length t → drop at t ≡ get_or t at 0 ∷ get_or t (at + 1) 0 ∷ drop (at + 2) t
  front_two h = at_is (omega arith) ∙ ap (λ s. get_or t at 0 ∷ s) (next_is 1 h)

  front_three : at + 2 < length t → drop at t ≡ get_or t at 0 ∷ get_or t (at + 1) 0 ∷ get_or t (at + 2) 0 ∷ drop (at + 3) t
  front_three h = front_two (omega arith) ∙ ap (λ s. get_or t at 0 ∷ get_or t (at + 1) 0 ∷ s) (next_is 2 h)

  front_four : at + 3 < length t → drop at t ≡ get_or t at 0 ∷ get_or t (at + 1) 0 ∷ get_or t (at + 2) 0 ∷ get_or t (at + 3) 0 ∷ drop (at + 4) t
  front_four h = front_three (omega arith) ∙ ap (λ s. get_or t at 0 ∷ get_or t (at + 1) 0 ∷ get_or t (at + 2) 0 ∷ s) (next_is 3 h)

  -- the six bits of the trailing byte at place k, or none there
  abbrev pub Bits : ℕ → Option ℕ → Type 0
  Bits k o = MatchOption o (at + k < length t → Trail (get_or t (at + k) 0) → ⊥) (λ x. (at + k < length t) × Trail (get_or t (at + k) 0) × (x ≡ get_or t (at + k) 0 % 0x40))

  -- a value as the scalar of n bytes, or none
  abbrev pub Made : ℕ → ℕ → ℕ → Option Scalar → Type 0
  Made v least n o = MatchOption o (least ≤ v → IsScalar v → ⊥) (λ s. (least ≤ v) × IsScalar v × (s.value ≡ v) × (s.length ≡ n))

  pub stands_one : at < length t → get_or t at 0 < 0x80 → (o : Option Scalar) → Made (get_or t at 0) 0 1 o → StandsAt t at o
  stands_one h p None m = λ c s i e.
      elim (shape t at c s i e) [
        | of_one q f ↦ m (omega arith) (inl (omega arith))
        | of_two q r f g j ↦ omega arith
        | of_three q r f g j k ↦ omega arith
        | of_four q r f g j k l ↦ omega arith
      ]
  stands_one h p (Some x) m = let i = m.2 in let j = m.3 in stood t at 1 (get_or t at 0) (get_or t at 0 ∷ []) (sequence_one (get_or t at 0) p) refl (at_is h) x i j

  pub no_one : 0x80 ≤ get_or t at 0 → (get_or t at 0 < 0xC0) ⊎ (0xF8 ≤ get_or t at 0) → StandsAt t at None
  no_one p (inl q) = λ c s i e.
      elim (shape t at c s i e) [ of_one a f ↦ omega arith | of_two a r f g j ↦ omega arith | of_three a r f g j k ↦ omega arith | of_four a r f g j k l ↦ omega arith ]
  no_one p (inr q) = λ c s i e.
      elim (shape t at c s i e) [ of_one a f ↦ omega arith | of_two a r f g j ↦ omega arith | of_three a r f g j k ↦ omega arith | of_four a r f g j k l ↦ omega arith ]

  module _ (low : 0xC0 ≤ get_or t at 0) (high : get_or t at 0 < 0xE0) where
    pub no_two : (at + 1 < length t → Trail (get_or t (at + 1) 0) → ⊥) → StandsAt t at None
    no_two n = λ c s i e.
        elim (shape t at c s i e) [
          | of_one p f ↦ omega arith
          | of_two p q f g j ↦ n g (omega arith, omega arith)
          | of_three p q f g j k ↦ omega arith
          | of_four p q f g j k l ↦ omega arith
        ]

    pub stands_two : (x v : ℕ) → (at + 1 < length t) × Trail (get_or t (at + 1) 0) × (x ≡ get_or t (at + 1) 0 % 0x40) → v ≡ (get_or t at 0 % 0x20) * 0x40 + x → (o : Option Scalar) → Made v 0x80 2 o → StandsAt t at o
    stands_two x v (h, (b, d), e) w None m = λ c s i y.
        elim (shape t at c s i y) [
          | of_one p f ↦ omega arith
          | of_two p q f g j ↦ let z : v ≡ c = omega arith in m (omega arith) (subst IsScalar (sym z) i)
          | of_three p q f g j k ↦ omega arith
          | of_four p q f g j k l ↦ omega arith
        ]
    stands_two x v (h, (b, d), e) w (Some y) m =
        let l = m.0 in
        stood t at 2 v (get_or t at 0 ∷ get_or t (at + 1) 0 ∷ []) (sequence_two (get_or t at 0) (get_or t (at + 1) 0) v (omega arith, omega arith) (b, d) (omega arith)) refl
        (front_two h) y m.2 m.3

  module _ (low : 0xE0 ≤ get_or t at 0) (high : get_or t at 0 < 0xF0) where
    pub no_three : ((at + 1 < length t → Trail (get_or t (at + 1) 0) → ⊥) ⊎ (at + 2 < length t → Trail (get_or t (at + 2) 0) → ⊥)) → StandsAt t at None
    no_three n = λ c s i e.
        elim (shape t at c s i e) [
          | of_one p f ↦ omega arith
          | of_two p q f g j ↦ omega arith
          | of_three p q f g j k ↦ elim n [ inl a ↦ a (omega arith) (omega arith, omega arith) | inr a ↦ a g (omega arith, omega arith) ]
          | of_four p q f g j k l ↦ omega arith
        ]

    pub stands_three : (x y v : ℕ) → (at + 1 < length t) × Trail (get_or t (at + 1) 0) × (x ≡ get_or t (at + 1) 0 % 0x40) → (at + 2 < length t) × Trail (get_or t (at + 2) 0) × (y ≡ get_or t (at + 2) 0 % 0x40) → v ≡ (get_or t at 0 % 0x10) * 0x1000 + x * 0x40 + y → (o : Option Scalar) → Made v 0x800 3 o → StandsAt t at o
    stands_three x y v (h, (b, d), e) (h2, (b2, d2), e2) w None m = λ c s i z.
        elim (shape t at c s i z) [
          | of_one p f ↦ omega arith
          | of_two p q f g j ↦ omega arith
          | of_three p q f g j k ↦ let z : v ≡ c = omega arith in m (omega arith) (subst IsScalar (sym z) i)
          | of_four p q f g j k l ↦ omega arith
        ]
    stands_three x y v (h, (b, d), e) (h2, (b2, d2), e2) w (Some z) m =
        stood t at 3 v (get_or t at 0 ∷ get_or t (at + 1) 0 ∷ get_or t (at + 2) 0 ∷ [])
        (sequence_three (get_or t at 0) (get_or t (at + 1) 0) (get_or t (at + 2) 0) v (low, omega arith) (b, d) (b2, d2) (omega arith) m.0 m.1) refl
        (front_three h2) z m.2 m.3

  module _ (low : 0xF0 ≤ get_or t at 0) (high : get_or t at 0 < 0xF8) where
    pub no_four : ((at + 1 < length t → Trail (get_or t (at + 1) 0) → ⊥) ⊎ ((at + 2 < length t → Trail (get_or t (at + 2) 0) → ⊥) ⊎ (at + 3 < length t → Trail (get_or t (at + 3) 0) → ⊥))) → StandsAt t at None
    no_four n = λ c s i e.
        elim (shape t at c s i e) [
          | of_one p f ↦ omega arith
          | of_two p q f g j ↦ omega arith
          | of_three p q f g j k ↦ omega arith
          | of_four p q f g j k l ↦
              elim n [
                | inl a ↦ a (omega arith) (omega arith, omega arith)
                | inr n2 ↦ elim n2 [ inl a ↦ a (omega arith) (omega arith, omega arith) | inr a ↦ a g (omega arith, omega arith) ]
              ]
        ]

    pub stands_four : (x y z v : ℕ) → (at + 1 < length t) × Trail (get_or t (at + 1) 0) × (x ≡ get_or t (at + 1) 0 % 0x40) → (at + 2 < length t) × Trail (get_or t (at + 2) 0) × (y ≡ get_or t (at + 2) 0 % 0x40) → (at + 3 < length t) × Trail (get_or t (at + 3) 0) × (z ≡ get_or t (at + 3) 0 % 0x40) → v ≡ (get_or t at 0 % 0x08) * 0x4_0000 + x * 0x1000 + y * 0x40 + z → (o : Option Scalar) → Made v 0x1_0000 4 o → StandsAt t at o
    stands_four x y z v (h, (b, d), e) (h2, (b2, d2), e2) (h3, (b3, d3), e3) w None m = λ c s i u.
        elim (shape t at c s i u) [
          | of_one p f ↦ omega arith
          | of_two p q f g j ↦ omega arith
          | of_three p q f g j k ↦ omega arith
          | of_four p q f g j k l ↦ let z : v ≡ c = omega arith in m (omega arith) (subst IsScalar (sym z) i)
        ]
    stands_four x y z v (h, (b, d), e) (h2, (b2, d2), e2) (h3, (b3, d3), e3) w (Some u) m =
        stood t at 4 v (get_or t at 0 ∷ get_or t (at + 1) 0 ∷ get_or t (at + 2) 0 ∷ get_or t (at + 3) 0 ∷ [])
        (sequence_four (get_or t at 0) (get_or t (at + 1) 0) (get_or t (at + 2) 0) (get_or t (at + 3) 0) v (low, omega arith) (b, d) (b2, d2) (b3, d3) (omega arith) m.0 m.1) refl
        (front_four h3) u m.2 m.3

-- nothing stands at or past the end
pub none_past : (t : List ℕ) (at : ℕ) → length t ≤ at → StandsAt t at None
none_past t at h = λ c s i e.
    let z = length-drop at t in
    elim (size c i) [
      | one p f ↦ omega (arith, ap length (sym e ∙ drop_all at t h), ap (λ x. length (x ++ s)) f)
      | two p q f ↦ omega (arith, ap length (sym e ∙ drop_all at t h), ap (λ x. length (x ++ s)) f)
      | three p q f ↦ omega (arith, ap length (sym e ∙ drop_all at t h), ap (λ x. length (x ++ s)) f)
      | four p q f ↦ omega (arith, ap length (sym e ∙ drop_all at t h), ap (λ x. length (x ++ s)) f)
    ]

made_of : ℕ → ℕ → Scalar
made_of v n = record { value = v; length = n }

same_scalar : (x y : Scalar) → x.value ≡ y.value → x.length ≡ y.length → x ≡ y
unfolding made_of
same_scalar x y p q = ap (λ v. made_of v x.length) p ∙ ap (made_of y.value) q

same_head : (x y : ℕ) (s u : List ℕ) → ◌≡◌ {A = List ℕ} (x ∷ s) (y ∷ u) → x ≡ y
same_head x y s u e = cc

-- one answer only fits
pub one_answer : (t : List ℕ) (at : ℕ) (o r : Option Scalar) → StandsAt t at r → StandsAt t at o → o ≡ r
one_answer t at None None h k = refl
one_answer t at None (Some y) h k = absurd (k y.value (drop (at + y.length) t) h.0 h.2)
one_answer t at (Some x) None h k = absurd (h x.value (drop (at + x.length) t) k.0 k.2)
one_answer t at (Some x) (Some y) h k =
    let e = sym (reads x.value (drop (at + x.length) t) k.0) ∙ sym (ap scalars k.2) ∙ ap scalars h.2 ∙ reads y.value (drop (at + y.length) t) h.0 in
    let v = same_head x.value y.value (scalars (drop (at + x.length) t)) (scalars (drop (at + y.length) t)) e in
    ap Some (same_scalar x y v (k.1 ∙ ap (λ c. length (encode c)) v ∙ sym h.1))
