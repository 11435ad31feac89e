-- The states of the check let pass just the texts that are well-formed by the table.
use Rattle.std.proofs.Common.{◌≡◌, ℕ, true, List, [], ◌∷◌, sym, refl, ap, ◌∙◌, inl, inr, zero-le, arith}
use Rattle.std.proofs.lemmas.Bool.Decides.{nat_tests}
use Rattle.std.proofs.lemmas.Bool.{cases_lt, false≢true}
use Rattle.unicode_text.specs.declared.utf8.State.{State}
use Rattle.unicode_text.specs.declared.utf8.State.TheVariants.{Start, One, Two, Three, AfterE0, AfterED, AfterF0, AfterF4, Bad}
use Rattle.unicode_text.specs.States.{inside, next, passes}
use Rattle.unicode_text.specs.Table.{In, Trail, WellFormed}
use Rattle.unicode_text.specs.Table.WellFormed.{empty, row1, row2, row3, row4, row5, row6, row7, row8, row9}

-- one byte more at the front
step : (s t : State) (b : ℕ) (bs : List ℕ) → next s b ≡ t → passes t bs ≡ true → passes s (b ∷ bs) ≡ true
step s t b bs e h = ap (λ x. passes x bs) e ∙ h

within : (low high b : ℕ) (t : State) → In low high b → inside low high b t ≡ t
within low high b t (p, q) = grind (arith, nat_tests)

-- the last byte of a sequence, the last two, the last three
one_left : (b : ℕ) (s : List ℕ) → Trail b → passes Start s ≡ true → passes One (b ∷ s) ≡ true
one_left b s p h = step One Start b s (within 0x80 0xBF b Start p) h

two_left : (b c : ℕ) (s : List ℕ) → Trail b → Trail c → passes Start s ≡ true → passes Two (b ∷ c ∷ s) ≡ true
two_left b c s p q h = step Two One b (c ∷ s) (within 0x80 0xBF b One p) (one_left c s q h)

three_left : (b c d : ℕ) (s : List ℕ) → Trail b → Trail c → Trail d → passes Start s ≡ true → passes Three (b ∷ c ∷ d ∷ s) ≡ true
three_left b c d s p q r h = step Three Two b (c ∷ d ∷ s) (within 0x80 0xBF b Two p) (two_left c d s q r h)

pub complete : {s : List ℕ} → WellFormed s → passes Start s ≡ true
complete empty = refl
complete (row1 {a} {s} p w) = step Start Start a s (grind (arith, nat_tests)) (complete w)
complete (row2 {a} {b} {s} p q w) = step Start One a (b ∷ s) (grind (arith, nat_tests)) (one_left b s q (complete w))
complete (row3 {a} {b} {c} {s} p q r w) =
    step Start AfterE0 a (b ∷ c ∷ s) (grind (arith, nat_tests)) (step AfterE0 One b (c ∷ s) (within 0xA0 0xBF b One q) (one_left c s r (complete w)))
complete (row4 {a} {b} {c} {s} p q r w) = step Start Two a (b ∷ c ∷ s) (grind (arith, nat_tests)) (two_left b c s q r (complete w))
complete (row5 {a} {b} {c} {s} p q r w) =
    step Start AfterED a (b ∷ c ∷ s) (grind (arith, nat_tests)) (step AfterED One b (c ∷ s) (within 0x80 0x9F b One q) (one_left c s r (complete w)))
complete (row6 {a} {b} {c} {s} p q r w) = step Start Two a (b ∷ c ∷ s) (grind (arith, nat_tests)) (two_left b c s q r (complete w))
complete (row7 {a} {b} {c} {d} {s} p q r t w) =
    step Start AfterF0 a (b ∷ c ∷ d ∷ s) (grind (arith, nat_tests)) (step AfterF0 Two b (c ∷ d ∷ s) (within 0x90 0xBF b Two q) (two_left c d s r t (complete w)))
complete (row8 {a} {b} {c} {d} {s} p q r t w) = step Start Three a (b ∷ c ∷ d ∷ s) (grind (arith, nat_tests)) (three_left b c d s q r t (complete w))
complete (row9 {a} {b} {c} {d} {s} p q r t w) =
    step Start AfterF4 a (b ∷ c ∷ d ∷ s) (grind (arith, nat_tests)) (step AfterF4 Two b (c ∷ d ∷ s) (within 0x80 0x8F b Two q) (two_left c d s r t (complete w)))

-- a first byte of P, and then what Q says
abbrev Then : (ℕ → Type 0) → (List ℕ → Type 0) → List ℕ → Type 0
Then P Q [] = ⊥
Then P Q (b ∷ s) = P b × Q s

-- what each state still wants
abbrev Wants : State → List ℕ → Type 0
Wants Start = WellFormed
Wants One = Then Trail WellFormed
Wants Two = Then Trail (Then Trail WellFormed)
Wants Three = Then Trail (Then Trail (Then Trail WellFormed))
Wants AfterE0 = Then (In 0xA0 0xBF) (Then Trail WellFormed)
Wants AfterED = Then (In 0x80 0x9F) (Then Trail WellFormed)
Wants AfterF0 = Then (In 0x90 0xBF) (Then Trail (Then Trail WellFormed))
Wants AfterF4 = Then (In 0x80 0x8F) (Then Trail (Then Trail WellFormed))
Wants Bad = λ _. ⊥

bad : (s : List ℕ) → passes Bad s ≡ true → ⊥
bad [] h = false≢true h
bad (b ∷ s) h = bad s h

-- a byte that is let through lies in the range
ranged : (low high b : ℕ) (t : State) (s : List ℕ) → passes (inside low high b t) s ≡ true → In low high b × (passes t s ≡ true)
ranged low high b t s h =
    elim (cases_lt b low) [
      | inl p ↦ let e : inside low high b t ≡ Bad = grind (arith, nat_tests) in absurd (bad s (sym (ap (λ x. passes x s) e) ∙ h))
      | inr p ↦
          elim (cases_lt high b) [
            | inl q ↦ let e : inside low high b t ≡ Bad = grind (arith, nat_tests) in absurd (bad s (sym (ap (λ x. passes x s) e) ∙ h))
            | inr q ↦ ((p, q), sym (ap (λ x. passes x s) (within low high b t (p, q))) ∙ h)
          ]
    ]

onto : (s : State) (b : ℕ) (bs : List ℕ) (t : State) → next s b ≡ t → passes (next s b) bs ≡ true → passes t bs ≡ true
onto s b bs t e h = sym (ap (λ x. passes x bs) e) ∙ h

-- rows of two, three and four bytes, from what is wanted after the first
by_two : (a : ℕ) (s : List ℕ) → ((b : ℕ) (s : List ℕ) → Trail b → WellFormed s → WellFormed (a ∷ b ∷ s)) → Then Trail WellFormed s → WellFormed (a ∷ s)
by_two a [] row r = absurd r
by_two a (b ∷ s) row (q, w) = row b s q w

by_three : (P : ℕ → Type 0) (a : ℕ) (s : List ℕ) → ((b c : ℕ) (s : List ℕ) → P b → Trail c → WellFormed s → WellFormed (a ∷ b ∷ c ∷ s)) → Then P (Then Trail WellFormed) s → WellFormed (a ∷ s)
by_three P a [] row r = absurd r
by_three P a (b ∷ []) row (q, r) = absurd r
by_three P a (b ∷ c ∷ s) row (q, (r, w)) = row b c s q r w

by_four : (P : ℕ → Type 0) (a : ℕ) (s : List ℕ) → ((b c d : ℕ) (s : List ℕ) → P b → Trail c → Trail d → WellFormed s → WellFormed (a ∷ b ∷ c ∷ d ∷ s)) → Then P (Then Trail (Then Trail WellFormed)) s → WellFormed (a ∷ s)
by_four P a [] row r = absurd r
by_four P a (b ∷ []) row (q, r) = absurd r
by_four P a (b ∷ c ∷ []) row (q, (r, t)) = absurd t
by_four P a (b ∷ c ∷ d ∷ s) row (q, (r, (t, w))) = row b c d s q r t w

-- what a first byte at the start leads to
first : (a : ℕ) (s : List ℕ) → ((t : State) → passes t s ≡ true → Wants t s) → passes (next Start a) s ≡ true → WellFormed (a ∷ s)
first a s go h =
    elim (cases_lt a 0x80) [
      | inl p1 ↦ row1 (zero-le, omega arith) (go Start (onto Start a s Start (grind (arith, nat_tests)) h))
      | inr r1 ↦
          elim (cases_lt a 0xC2) [
            | inl p2 ↦ absurd (bad s (onto Start a s Bad (grind (arith, nat_tests)) h))
            | inr r2 ↦
                elim (cases_lt a 0xE0) [
                  | inl p3 ↦ by_two a s (λ _ _ x w. row2 (omega arith, omega arith) x w) (go One (onto Start a s One (grind (arith, nat_tests)) h))
                  | inr r3 ↦
                      elim (cases_lt a 0xE1) [
                        | inl p4 ↦ by_three (In 0xA0 0xBF) a s (λ _ _ _ x y w. row3 (omega arith, omega arith) x y w) (go AfterE0 (onto Start a s AfterE0 (grind (arith, nat_tests)) h))
                        | inr r4 ↦
                            elim (cases_lt a 0xED) [
                              | inl p5 ↦ by_three Trail a s (λ _ _ _ x y w. row4 (omega arith, omega arith) x y w) (go Two (onto Start a s Two (grind (arith, nat_tests)) h))
                              | inr r5 ↦
                                  elim (cases_lt a 0xEE) [
                                    | inl p6 ↦ by_three (In 0x80 0x9F) a s (λ _ _ _ x y w. row5 (omega arith, omega arith) x y w) (go AfterED (onto Start a s AfterED (grind (arith, nat_tests)) h))
                                    | inr r6 ↦
                                        elim (cases_lt a 0xF0) [
                                          | inl p7 ↦ by_three Trail a s (λ _ _ _ x y w. row6 (omega arith, omega arith) x y w) (go Two (onto Start a s Two (grind (arith, nat_tests)) h))
                                          | inr r7 ↦
                                              elim (cases_lt a 0xF1) [
                                                | inl p8 ↦ by_four (In 0x90 0xBF) a s (λ _ _ _ _ x y z w. row7 (omega arith, omega arith) x y z w) (go AfterF0 (onto Start a s AfterF0 (grind (arith, nat_tests)) h))
                                                | inr r8 ↦
                                                    elim (cases_lt a 0xF4) [
                                                      | inl p9 ↦ by_four Trail a s (λ _ _ _ _ x y z w. row8 (omega arith, omega arith) x y z w) (go Three (onto Start a s Three (grind (arith, nat_tests)) h))
                                                      | inr r9 ↦
                                                          elim (cases_lt a 0xF5) [
                                                            | inl p10 ↦ by_four (In 0x80 0x8F) a s (λ _ _ _ _ x y z w. row9 (omega arith, omega arith) x y z w) (go AfterF4 (onto Start a s AfterF4 (grind (arith, nat_tests)) h))
                                                            | inr r10 ↦ absurd (bad s (onto Start a s Bad (grind (arith, nat_tests)) h))
                                                          ]
                                                    ]
                                              ]
                                        ]
                                  ]
                            ]
                      ]
                ]
          ]
    ]

pub sound : (t : State) (s : List ℕ) → passes t s ≡ true → Wants t s
sound Start [] h = empty
sound One [] h = false≢true h
sound Two [] h = false≢true h
sound Three [] h = false≢true h
sound AfterE0 [] h = false≢true h
sound AfterED [] h = false≢true h
sound AfterF0 [] h = false≢true h
sound AfterF4 [] h = false≢true h
sound Bad [] h = false≢true h
sound Start (b ∷ s) h = first b s (λ t. sound t s) h
sound One (b ∷ s) h = let r = ranged 0x80 0xBF b Start s h in (r.0, sound Start s r.1)
sound Two (b ∷ s) h = let r = ranged 0x80 0xBF b One s h in (r.0, sound One s r.1)
sound Three (b ∷ s) h = let r = ranged 0x80 0xBF b Two s h in (r.0, sound Two s r.1)
sound AfterE0 (b ∷ s) h = let r = ranged 0xA0 0xBF b One s h in (r.0, sound One s r.1)
sound AfterED (b ∷ s) h = let r = ranged 0x80 0x9F b One s h in (r.0, sound One s r.1)
sound AfterF0 (b ∷ s) h = let r = ranged 0x90 0xBF b Two s h in (r.0, sound Two s r.1)
sound AfterF4 (b ∷ s) h = let r = ranged 0x80 0x8F b Two s h in (r.0, sound Two s r.1)
sound Bad (b ∷ s) h = bad s h
