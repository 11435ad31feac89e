-- A text is well-formed by the table exactly when it is the encodings of scalars, one behind the other.
use Rattle.std.proofs.Common.{◌≡◌, ℕ, ◌+◌, ◌*◌, ◌/◌, ◌%◌, ◌<◌, ◌≤◌, ◌⊎◌, List, [], ◌∷◌, ◌++◌, sym, refl, ap, ◌∙◌, subst, inl, inr, zero-le, arith}
use Rattle.std.proofs.lemmas.Bool.Decides.{nat_tests}
use Rattle.std.proofs.lemmas.Bool.{cases_lt}
use Rattle.unicode_text.specs.Table.{In, Trail, WellFormed}
use Rattle.unicode_text.specs.Table.WellFormed.{empty, row1, row2, row3, row4, row5, row6, row7, row8, row9}
use Rattle.unicode_text.specs.Scalars.{IsScalar, Scalars, encode, encodings, trailing, Spells, decode, scalars}

-- a scalar by the number of its bytes, with its encoding
pub data Size (c : ℕ) : Type 0 where
  one : c < 0x80 → encode c ≡ c ∷ [] → Size c
  two : 0x80 ≤ c → c < 0x800 → encode c ≡ (0xC0 + c / 0x40) ∷ trailing c ∷ [] → Size c
  three : 0x800 ≤ c → c < 0x1_0000 → encode c ≡ (0xE0 + c / 0x1000) ∷ trailing (c / 0x40) ∷ trailing c ∷ [] → Size c
  four : 0x1_0000 ≤ c → c ≤ 0x10_FFFF → encode c ≡ (0xF0 + c / 0x4_0000) ∷ trailing (c / 0x1000) ∷ trailing (c / 0x40) ∷ trailing c ∷ [] → Size c

most : (c : ℕ) → IsScalar c → c ≤ 0x10_FFFF
most c (inl h) = omega arith
most c (inr h) = h.1

pub size : (c : ℕ) → IsScalar c → Size c
unfolding encode
size c i =
    let m = most c i in
    elim (cases_lt c 0x80) [
      | inl p ↦ one p (grind (arith, nat_tests))
      | inr p ↦
          elim (cases_lt c 0x800) [
            | inl q ↦ two p q (grind (arith, nat_tests))
            | inr q ↦
                elim (cases_lt c 0x1_0000) [
                  | inl r ↦ three q r (grind (arith, nat_tests))
                  | inr r ↦ four r m (grind (arith, nat_tests))
                ]
          ]
    ]

-- a trailing byte adds no scalar, any other byte begins one
pub skips : (b : ℕ) (s : List ℕ) → Trail b → scalars (b ∷ s) ≡ scalars s
unfolding scalars
skips b s (p, q) = grind (arith, nat_tests)

pub starts : (b : ℕ) (s : List ℕ) → (b < 0x80) ⊎ (0xC0 ≤ b) → scalars (b ∷ s) ≡ decode b s ∷ scalars s
unfolding scalars
starts b s (inl p) = grind (arith, nat_tests)
starts b s (inr p) = grind (arith, nat_tests)

-- what each number of bytes spells
decode_one : (a : ℕ) (s : List ℕ) → a < 0x80 → decode a s ≡ a
unfolding decode
decode_one a s p = grind (arith, nat_tests)

decode_two : (a b : ℕ) (s : List ℕ) → 0xC0 ≤ a → a < 0xE0 → decode a (b ∷ s) ≡ (a % 0x20) * 0x40 + b % 0x40
unfolding decode
decode_two a b s p q = grind (arith, nat_tests)

decode_three : (a b c : ℕ) (s : List ℕ) → 0xE0 ≤ a → a < 0xF0 → decode a (b ∷ c ∷ s) ≡ (a % 0x10) * 0x1000 + (b % 0x40) * 0x40 + c % 0x40
unfolding decode
decode_three a b c s p q = grind (arith, nat_tests)

decode_four : (a b c d : ℕ) (s : List ℕ) → 0xF0 ≤ a → decode a (b ∷ c ∷ d ∷ s) ≡ (a % 0x08) * 0x4_0000 + (b % 0x40) * 0x1000 + (c % 0x40) * 0x40 + d % 0x40
unfolding decode
decode_four a b c d s p = grind (arith, nat_tests)

-- the scalars of a sequence of one, two, three or four bytes and what is behind it
reads_one : (a : ℕ) (s : List ℕ) → a < 0x80 → scalars (a ∷ s) ≡ a ∷ scalars s
reads_one a s p = starts a s (inl p) ∙ ap (λ v. v ∷ scalars s) (decode_one a s p)

reads_two : (a b v : ℕ) (s : List ℕ) → 0xC0 ≤ a → a < 0xE0 → Trail b → (a % 0x20) * 0x40 + b % 0x40 ≡ v → scalars (a ∷ b ∷ s) ≡ v ∷ scalars s
reads_two a b v s p q r e = starts a (b ∷ s) (inr p) ∙ ap (λ x. x ∷ scalars (b ∷ s)) (decode_two a b s p q ∙ e) ∙ ap (λ x. v ∷ x) (skips b s r)

reads_three : (a b c v : ℕ) (s : List ℕ) → 0xE0 ≤ a → a < 0xF0 → Trail b → Trail c → (a % 0x10) * 0x1000 + (b % 0x40) * 0x40 + c % 0x40 ≡ v → scalars (a ∷ b ∷ c ∷ s) ≡ v ∷ scalars s
reads_three a b c v s p q r t e =
    let l : 0xC0 ≤ a = omega arith in
    starts a (b ∷ c ∷ s) (inr l) ∙ ap (λ x. x ∷ scalars (b ∷ c ∷ s)) (decode_three a b c s p q ∙ e) ∙ ap (λ x. v ∷ x) (skips b (c ∷ s) r ∙ skips c s t)

reads_four : (a b c d v : ℕ) (s : List ℕ) → 0xF0 ≤ a → Trail b → Trail c → Trail d → (a % 0x08) * 0x4_0000 + (b % 0x40) * 0x1000 + (c % 0x40) * 0x40 + d % 0x40 ≡ v → scalars (a ∷ b ∷ c ∷ d ∷ s) ≡ v ∷ scalars s
reads_four a b c d v s p r t u e =
    let l : 0xC0 ≤ a = omega arith in
    starts a (b ∷ c ∷ d ∷ s) (inr l) ∙ ap (λ x. x ∷ scalars (b ∷ c ∷ d ∷ s)) (decode_four a b c d s p ∙ e)
    ∙ ap (λ x. v ∷ x) (skips b (c ∷ d ∷ s) r ∙ skips c (d ∷ s) t ∙ skips d s u)

trails : (n : ℕ) → Trail (trailing n)
trails n = (omega arith, omega arith)

-- the encoding of a scalar reads back as that scalar
pub reads : (c : ℕ) (s : List ℕ) → IsScalar c → scalars (encode c ++ s) ≡ c ∷ scalars s
reads c s i =
    elim (size c i) [
      | one p e ↦ ap (λ f. scalars (f ++ s)) e ∙ reads_one c s p
      | two p q e ↦ ap (λ f. scalars (f ++ s)) e ∙ reads_two (0xC0 + c / 0x40) (trailing c) c s (omega arith) (omega arith) (trails c) (omega arith)
      | three p q e ↦
          ap (λ f. scalars (f ++ s)) e
          ∙ reads_three (0xE0 + c / 0x1000) (trailing (c / 0x40)) (trailing c) c s (omega arith) (omega arith) (trails (c / 0x40)) (trails c) (omega arith)
      | four p q e ↦
          ap (λ f. scalars (f ++ s)) e
          ∙ reads_four (0xF0 + c / 0x4_0000) (trailing (c / 0x1000)) (trailing (c / 0x40)) (trailing c) c s (omega arith) (trails (c / 0x1000)) (trails (c / 0x40)) (trails c) (omega arith)
    ]

-- the bytes of three, and of four, that encode a scalar fit a row
fits_three : (c : ℕ) (s : List ℕ) → IsScalar c → 0x800 ≤ c → c < 0x1_0000 → WellFormed s → WellFormed ((0xE0 + c / 0x1000) ∷ trailing (c / 0x40) ∷ trailing c ∷ s)
fits_three c s i p q w =
    elim (cases_lt c 0x1000) [
      | inl h ↦ row3 (omega arith, omega arith) (omega arith, omega arith) (trails c) w
      | inr h ↦
          elim (cases_lt c 0xD000) [
            | inl k ↦ row4 (omega arith, omega arith) (trails (c / 0x40)) (trails c) w
            | inr k ↦
                elim i [
                  | inl l ↦ row5 (omega arith, omega arith) (omega arith, omega arith) (trails c) w
                  | inr l ↦ let low = l.0 in row6 (omega arith, omega arith) (trails (c / 0x40)) (trails c) w
                ]
          ]
    ]

fits_four : (c : ℕ) (s : List ℕ) → 0x1_0000 ≤ c → c ≤ 0x10_FFFF → WellFormed s → WellFormed ((0xF0 + c / 0x4_0000) ∷ trailing (c / 0x1000) ∷ trailing (c / 0x40) ∷ trailing c ∷ s)
fits_four c s p q w =
    elim (cases_lt c 0x4_0000) [
      | inl h ↦ row7 (omega arith, omega arith) (omega arith, omega arith) (trails (c / 0x40)) (trails c) w
      | inr h ↦
          elim (cases_lt c 0x10_0000) [
            | inl k ↦ row8 (omega arith, omega arith) (trails (c / 0x1000)) (trails (c / 0x40)) (trails c) w
            | inr k ↦ row9 (omega arith, omega arith) (omega arith, omega arith) (trails (c / 0x40)) (trails c) w
          ]
    ]

-- a scalar's encoding in front of a well-formed text makes a well-formed text
pub fits : (c : ℕ) (s : List ℕ) → IsScalar c → WellFormed s → WellFormed (encode c ++ s)
fits c s i w =
    elim (size c i) [
      | one p e ↦ subst (λ (f : List ℕ). WellFormed (f ++ s)) (sym e) (row1 (zero-le, omega arith) w)
      | two p q e ↦ subst (λ (f : List ℕ). WellFormed (f ++ s)) (sym e) (row2 (omega arith, omega arith) (trails c) w)
      | three p q e ↦ subst (λ (f : List ℕ). WellFormed (f ++ s)) (sym e) (fits_three c s i p q w)
      | four p q e ↦ subst (λ (f : List ℕ). WellFormed (f ++ s)) (sym e) (fits_four c s p q w)
    ]

-- what a sequence of the table spells: a scalar with just these bytes
pub record Sequence (f : List ℕ) (v : ℕ) : Type 0 where
  pub scalar : IsScalar v
  pub bytes : encode v ≡ f

pub sequence_one : (a : ℕ) → a < 0x80 → Sequence (a ∷ []) a
sequence_one a p = let i : IsScalar a = inl (omega arith) in record {
  scalar = i;
  bytes = elim (size a i) [ one q e ↦ e | two q r e ↦ absurd (omega arith) | three q r e ↦ absurd (omega arith) | four q r e ↦ absurd (omega arith) ];
}

same_two : (a b c d : ℕ) → a ≡ c → b ≡ d → ◌≡◌ {A = List ℕ} (a ∷ b ∷ []) (c ∷ d ∷ [])
same_two a b c d p q = cc

pub sequence_two : (a b v : ℕ) → In 0xC2 0xDF a → Trail b → (a % 0x20) * 0x40 + b % 0x40 ≡ v → Sequence (a ∷ b ∷ []) v
sequence_two a b v (p, q) (r, s) e = let i : IsScalar v = inl (omega arith) in record {
  scalar = i;
  bytes =
      elim (size v i) [
        | one t f ↦ absurd (omega arith)
        | two t u f ↦ f ∙ same_two (0xC0 + v / 0x40) (trailing v) a b (omega arith) (omega arith)
        | three t u f ↦ absurd (omega arith)
        | four t u f ↦ absurd (omega arith)
      ];
}

same_three : (a b c d e f : ℕ) → a ≡ d → b ≡ e → c ≡ f → ◌≡◌ {A = List ℕ} (a ∷ b ∷ c ∷ []) (d ∷ e ∷ f ∷ [])
same_three a b c d e f p q r = cc

pub sequence_three : (a b c v : ℕ) → In 0xE0 0xEF a → Trail b → Trail c → (a % 0x10) * 0x1000 + (b % 0x40) * 0x40 + c % 0x40 ≡ v → 0x800 ≤ v → IsScalar v → Sequence (a ∷ b ∷ c ∷ []) v
sequence_three a b c v (p, q) (r, s) (x, y) e l i = record {
  scalar = i;
  bytes =
      elim (size v i) [
        | one t f ↦ absurd (omega arith)
        | two t u f ↦ absurd (omega arith)
        | three t u f ↦ f ∙ same_three (0xE0 + v / 0x1000) (trailing (v / 0x40)) (trailing v) a b c (omega arith) (omega arith) (omega arith)
        | four t u f ↦ absurd (omega arith)
      ];
}

same_four : (a b c d e f g h : ℕ) → a ≡ e → b ≡ f → c ≡ g → d ≡ h → ◌≡◌ {A = List ℕ} (a ∷ b ∷ c ∷ d ∷ []) (e ∷ f ∷ g ∷ h ∷ [])
same_four a b c d e f g h p q r s = cc

pub sequence_four : (a b c d v : ℕ) → In 0xF0 0xF7 a → Trail b → Trail c → Trail d → (a % 0x08) * 0x4_0000 + (b % 0x40) * 0x1000 + (c % 0x40) * 0x40 + d % 0x40 ≡ v → 0x1_0000 ≤ v → IsScalar v → Sequence (a ∷ b ∷ c ∷ d ∷ []) v
sequence_four a b c d v (p, q) (r, s) (x, y) (z, w) e l i = record {
  scalar = i;
  bytes =
      elim (size v i) [
        | one t f ↦ absurd (omega arith)
        | two t u f ↦ absurd (omega arith)
        | three t u f ↦ absurd (omega arith)
        | four t u f ↦
            f ∙ same_four (0xF0 + v / 0x4_0000) (trailing (v / 0x1000)) (trailing (v / 0x40)) (trailing v) a b c d (omega arith) (omega arith) (omega arith) (omega arith)
      ];
}

-- a sequence in front of a spelt text
onward : (f s : List ℕ) (v : ℕ) → Sequence f v → scalars (f ++ s) ≡ v ∷ scalars s → Spells (scalars s) s → Spells (scalars (f ++ s)) (f ++ s)
onward f s v q e w = subst (λ (cs : List ℕ). Spells cs (f ++ s)) (sym e) (record {
  scalars = (q.scalar, w.scalars);
  bytes = ap (λ x. x ++ s) (sym q.bytes) ∙ ap (λ x. encode v ++ x) w.bytes;
})

onward_three : (a b c : ℕ) (s : List ℕ) → In 0xE0 0xEF a → Trail b → Trail c → 0x800 ≤ (a % 0x10) * 0x1000 + (b % 0x40) * 0x40 + c % 0x40 → IsScalar ((a % 0x10) * 0x1000 + (b % 0x40) * 0x40 + c % 0x40) → Spells (scalars s) s → Spells (scalars (a ∷ b ∷ c ∷ s)) (a ∷ b ∷ c ∷ s)
onward_three a b c s (p, q) r t l i w =
    let v = (a % 0x10) * 0x1000 + (b % 0x40) * 0x40 + c % 0x40 in
    onward (a ∷ b ∷ c ∷ []) s v (sequence_three a b c v (p, q) r t refl l i) (reads_three a b c v s p (omega arith) r t refl) w

onward_four : (a b c d : ℕ) (s : List ℕ) → In 0xF0 0xF7 a → Trail b → Trail c → Trail d → 0x1_0000 ≤ (a % 0x08) * 0x4_0000 + (b % 0x40) * 0x1000 + (c % 0x40) * 0x40 + d % 0x40 → (a % 0x08) * 0x4_0000 + (b % 0x40) * 0x1000 + (c % 0x40) * 0x40 + d % 0x40 ≤ 0x10_FFFF → Spells (scalars s) s → Spells (scalars (a ∷ b ∷ c ∷ d ∷ s)) (a ∷ b ∷ c ∷ d ∷ s)
onward_four a b c d s (p, q) r t u l m w =
    let v = (a % 0x08) * 0x4_0000 + (b % 0x40) * 0x1000 + (c % 0x40) * 0x40 + d % 0x40 in
    onward (a ∷ b ∷ c ∷ d ∷ []) s v (sequence_four a b c d v (p, q) r t u refl l (inr (omega arith, m))) (reads_four a b c d v s p r t u refl) w

-- a well-formed text is the encodings of its scalars
pub spelt : {t : List ℕ} → WellFormed t → Spells (scalars t) t
unfolding scalars
spelt empty = record { scalars = tt; bytes = refl }
spelt (row1 {a} {s} (p, q) w) = onward (a ∷ []) s a (sequence_one a (omega arith)) (reads_one a s (omega arith)) (spelt w)
spelt (row2 {a} {b} {s} (p, q) r w) =
    let v = (a % 0x20) * 0x40 + b % 0x40 in
    onward (a ∷ b ∷ []) s v (sequence_two a b v (p, q) r refl) (reads_two a b v s (omega arith) (omega arith) r refl) (spelt w)
spelt (row3 {a} {b} {c} {s} (p, q) (r, t) u w) = onward_three a b c s (omega arith, omega arith) (omega arith, t) u (omega arith) (inl (omega arith)) (spelt w)
spelt (row4 {a} {b} {c} {s} (p, q) (r, t) u w) = onward_three a b c s (omega arith, omega arith) (r, t) u (omega arith) (inl (omega arith)) (spelt w)
spelt (row5 {a} {b} {c} {s} (p, q) (r, t) u w) = onward_three a b c s (omega arith, omega arith) (r, omega arith) u (omega arith) (inl (omega arith)) (spelt w)
spelt (row6 {a} {b} {c} {s} (p, q) (r, t) u w) = onward_three a b c s (omega arith, omega arith) (r, t) u (omega arith) (inr (omega arith, omega arith)) (spelt w)
spelt (row7 {a} {b} {c} {d} {s} (p, q) (r, t) u x w) = onward_four a b c d s (omega arith, omega arith) (omega arith, t) u x (omega arith) (omega arith) (spelt w)
spelt (row8 {a} {b} {c} {d} {s} (p, q) (r, t) u x w) = onward_four a b c d s (omega arith, omega arith) (r, t) u x (omega arith) (omega arith) (spelt w)
spelt (row9 {a} {b} {c} {d} {s} (p, q) (r, t) u x w) = onward_four a b c d s (omega arith, omega arith) (r, omega arith) u x (omega arith) (omega arith) (spelt w)

-- encodings of scalars are well-formed, and the scalars are read back
pub encodings_fit : (cs : List ℕ) → Scalars cs → WellFormed (encodings cs)
encodings_fit [] h = empty
encodings_fit (c ∷ cs) (i, h) = fits c (encodings cs) i (encodings_fit cs h)

pub encodings_read : (cs : List ℕ) → Scalars cs → scalars (encodings cs) ≡ cs
unfolding scalars
encodings_read [] h = refl
encodings_read (c ∷ cs) (i, h) = reads c (encodings cs) i ∙ ap (λ x. c ∷ x) (encodings_read cs h)

pub spelt_fits : {cs t : List ℕ} → Spells cs t → WellFormed t
spelt_fits {cs} h = subst (λ (x : List ℕ). WellFormed x) (sym h.bytes) (encodings_fit cs h.scalars)

-- no text spells two lists of scalars
pub spelt_once : {cs t : List ℕ} → Spells cs t → cs ≡ scalars t
spelt_once {cs} h = sym (ap scalars h.bytes ∙ encodings_read cs h.scalars)
