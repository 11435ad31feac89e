-- Numbers that are apart and below n are at most n.
use Rattle.std.proofs.Common.{◌≡◌, ℕ, zero, suc, ◌<◌, ◌≤◌, cond, eqb, List, [], ◌∷◌, ◌++◌, length, sym, refl, ap, subst, ⊎_elim, arith}
use Rattle.std.proofs.lemmas.Bool.{cond-true, cond-false, cases_Bool, cases_eq, eqb-true, eqb-false}
use Rattle.tree.specs.Order.{Apart}

-- x stands in the list
abbrev Has : List ℕ → ℕ → Type 0
Has xs x = (pre : List ℕ) × (post : List ℕ) × (xs ≡ pre ++ x ∷ post)

abbrev Away : ℕ → List ℕ → Type 0
Away r [] = Unit {0}
Away r (x ∷ xs) = (x ≡ r → ⊥) × Away r xs

abbrev Distinct : List ℕ → Type 0
Distinct [] = Unit {0}
Distinct (x ∷ xs) = Away x xs × Distinct xs

abbrev Below : ℕ → List ℕ → Type 0
Below n [] = Unit {0}
Below n (x ∷ xs) = (x < n) × Below n xs

abbrev without : ℕ → List ℕ → List ℕ
without n [] = []
without n (x ∷ xs) = cond (eqb x n) xs (x ∷ without n xs)

-- what holds on both ways of a test holds of the conditional
either : {A : Type 0} (P : A → Type 0) (x n : ℕ) (a b : A) → (x ≡ n → P a) → ((x ≡ n → ⊥) → P b) → P (cond (eqb x n) a b)
either P x n a b there not_there =
    ⊎_elim
    (λ q. subst P (sym (cond-true (eqb x n) a b q)) (there (eqb-true x n q)))
    (λ q. subst P (sym (cond-false (eqb x n) a b q)) (not_there (eqb-false x n q)))
    (cases_Bool (eqb x n))

away_without : (r n : ℕ) (xs : List ℕ) → Away r xs → Away r (without n xs)
away_without r n [] h = h
away_without r n (x ∷ xs) h = either (Away r) x n xs (x ∷ without n xs) (λ e. h.1) (λ e. (h.0, away_without r n xs h.1))

distinct_without : (n : ℕ) (xs : List ℕ) → Distinct xs → Distinct (without n xs)
distinct_without n [] h = h
distinct_without n (x ∷ xs) h = either Distinct x n xs (x ∷ without n xs) (λ e. h.1) (λ e. (away_without x n xs h.0, distinct_without n xs h.1))

length_without : (n : ℕ) (xs : List ℕ) → length xs ≤ suc (length (without n xs))
length_without n [] = omega arith
length_without n (x ∷ xs) = let h = length_without n xs in either (λ l. suc (length xs) ≤ suc (length l)) x n xs (x ∷ without n xs) (λ e. omega arith) (λ e. omega arith)

below_away : (n : ℕ) (xs : List ℕ) → Away n xs → Below (suc n) xs → Below n xs
below_away n [] a h = h
below_away n (x ∷ xs) a h =
    let no = a.0 in
    let b = h.0 in
    (⊎_elim (λ q. absurd (no q)) (λ q. omega arith) (cases_eq x n), below_away n xs a.1 h.1)

below_without : (n : ℕ) (xs : List ℕ) → Distinct xs → Below (suc n) xs → Below n (without n xs)
below_without n [] d h = h
below_without n (x ∷ xs) d h =
    either (Below n) x n xs (x ∷ without n xs)
    (λ e. below_away n xs (subst (λ m. Away m xs) e d.0) h.1)
    (λ e. let b = h.0 in (⊎_elim (λ q. absurd (e q)) (λ q. omega arith) (cases_eq x n), below_without n xs d.1 h.1))

few_below : (n : ℕ) (xs : List ℕ) → Distinct xs → Below n xs → length xs ≤ n
few_below zero [] d h = omega arith
few_below zero (x ∷ xs) d h = let b = h.0 in absurd (omega arith)
few_below (suc n) xs d h =
    let k = few_below n (without n xs) (distinct_without n xs d) (below_without n xs d h) in
    let l = length_without n xs in
    omega arith

away : (r : ℕ) (xs : List ℕ) → (Has xs r → ⊥) → Away r xs
away r [] h = tt
away r (x ∷ xs) h = (λ e. h ([], xs, ap (λ z. z ∷ xs) e), away r xs (λ t. h (x ∷ t.0, t.1, ap (λ l. x ∷ l) t.2)))

distinct : (xs : List ℕ) → Apart xs → Distinct xs
distinct [] h = tt
distinct (x ∷ xs) h = (away x xs (λ t. h x ([], t.0, t.1, ap (λ l. x ∷ l) t.2)), distinct xs (λ y t. h y (x ∷ t.0, t.1, t.2, ap (λ l. x ∷ l) t.3)))

below : (n : ℕ) (xs : List ℕ) → ((x : ℕ) → Has xs x → x < n) → Below n xs
below n [] h = tt
below n (x ∷ xs) h = (h x ([], xs, refl), below n xs (λ y t. h y (x ∷ t.0, t.1, ap (λ l. x ∷ l) t.2)))

pub few_apart : (n : ℕ) (xs : List ℕ) → Apart xs → ((x : ℕ) (pre post : List ℕ) → xs ≡ pre ++ x ∷ post → x < n) → length xs ≤ n
few_apart n xs apart low = few_below n xs (distinct xs apart) (below n xs (λ x t. low x t.0 t.1 t.2))
