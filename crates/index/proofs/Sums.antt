-- What characters measure: a sum over the characters, and small.
use Rattle.std.proofs.Common.{◌≡◌, ℕ, zero, suc, ◌+◌, ◌-◌, ◌*◌, ◌≤◌, true, eqb, List, [], ◌∷◌, ◌++◌, length, take, drop, Some, sym, refl, ap, ◌∙◌, subst, ⊎_elim, append_assoc, add-zero, suc-mul, arith, length-append, take-add}
use Rattle.std.proofs.lemmas.Bool.{cases_Bool, cond_both, cond-true, cond-false}
use Rattle.unicode_text.specs.Table.{WellFormed}
use Rattle.unicode_text.specs.Table.WellFormed.{empty}
use Rattle.unicode_text.specs.Scalars.{Scalars, encode, encodings, scalars, begins, decode}
use Rattle.std.specs.Prelude.{Ok, Err, Result}
use Rattle.std.specs.Result.{result_ok}
use Rattle.std.proofs.lemmas.Option.{none-some}
use Rattle.unicode_text.specs.declared.measure.Unmeasured.{Unmeasured}
use Rattle.unicode_text.specs.declared.measure.Unmeasured.TheVariants.{TooLong, IllFormed}
use Rattle.unicode_text.specs.Measures.{total as sum_of, the_bullet, Measures}
use Rattle.unicode_text.proofs.Encodings.{reads, fits, spelt}
use Rattle.source.specs.Runs.{Run, Document, Sound, SoundRun, Character, Every, Bulleted, bullet, count, count_in, characters_in}
use Rattle.source.specs.Pieces.{bytes_of, Within, Asked}
use Rattle.position.proofs.Options.{some_same, not_none, count_of}
use Rattle.index.specs.Measured.{measured, RunUnits}

sum_append : (u : ℕ → ℕ) (a b : List ℕ) → sum_of u (a ++ b) ≡ sum_of u a + sum_of u b
sum_append u [] b = omega arith
sum_append u (c ∷ a) b = let h = sum_append u a b in omega arith

-- the scalars of a well-formed text come first, whatever follows it
encoded_first : (cs b : List ℕ) → Scalars cs → scalars (encodings cs ++ b) ≡ cs ++ scalars b
encoded_first [] b h = refl
encoded_first (c ∷ cs) b h =
    ap scalars (append_assoc (encode c) (encodings cs) b) ∙ reads c (encodings cs ++ b) h.0 ∙ ap (λ x. c ∷ x) (encoded_first cs b h.1)

scalars_append : (a b : List ℕ) → WellFormed a → scalars (a ++ b) ≡ scalars a ++ scalars b
scalars_append a b w = let p = spelt w in ap (λ t. scalars (t ++ b)) p.bytes ∙ encoded_first (scalars a) b p.scalars

well_encoded : (cs b : List ℕ) → Scalars cs → WellFormed b → WellFormed (encodings cs ++ b)
well_encoded [] b h w = w
well_encoded (c ∷ cs) b h w =
    subst (λ (x : List ℕ). WellFormed x) (sym (append_assoc (encode c) (encodings cs) b)) (fits c (encodings cs ++ b) h.0 (well_encoded cs b h.1 w))

well_append : (a b : List ℕ) → WellFormed a → WellFormed b → WellFormed (a ++ b)
well_append a b v w = let p = spelt v in subst (λ (t : List ℕ). WellFormed (t ++ b)) (sym p.bytes) (well_encoded (scalars a) b p.scalars w)

-- the bytes of characters are well-formed
pub well_bytes : (cs : List (List ℕ)) → Every Character cs → WellFormed (bytes_of cs)
well_bytes [] h = empty
well_bytes (c ∷ cs) h = well_append c (bytes_of cs) h.0.whole (well_bytes cs h.1)

-- the sum over the characters
abbrev pub sum_all : (ℕ → ℕ) → List (List ℕ) → ℕ
sum_all u [] = 0
sum_all u (c ∷ cs) = sum_of u (scalars c) + sum_all u cs

pub measured_all : (u : ℕ → ℕ) (cs : List (List ℕ)) → Every Character cs → measured u cs ≡ sum_all u cs
unfolding scalars
measured_all u [] h = refl
measured_all u (c ∷ cs) h =
    ap (sum_of u) (scalars_append c (bytes_of cs) h.0.whole) ∙ sum_append u (scalars c) (scalars (bytes_of cs)) ∙ ap (λ n. sum_of u (scalars c) + n) (measured_all u cs h.1)

pub all_append : (u : ℕ → ℕ) (a b : List (List ℕ)) → sum_all u (a ++ b) ≡ sum_all u a + sum_all u b
all_append u [] b = omega arith
all_append u (c ∷ a) b = let h = all_append u a b in omega arith

pub all_take : (u : ℕ → ℕ) (cs : List (List ℕ)) (a n : ℕ) → sum_all u (take (a + n) cs) ≡ sum_all u (take a cs) + sum_all u (take n (drop a cs))
all_take u cs a n = ap (sum_all u) (take-add a n cs) ∙ all_append u (take a cs) (take n (drop a cs))

-- parts of lists keep what holds of every element
pub every_take : (P : List ℕ → Type 0) (cs : List (List ℕ)) (n : ℕ) → Every P cs → Every P (take n cs)
every_take P cs zero h = tt
every_take P [] (suc n) h = tt
every_take P (c ∷ cs) (suc n) h = (h.0, every_take P cs n h.1)

pub every_drop : (P : List ℕ → Type 0) (cs : List (List ℕ)) (n : ℕ) → Every P cs → Every P (drop n cs)
every_drop P cs zero h = h
every_drop P [] (suc n) h = tt
every_drop P (c ∷ cs) (suc n) h = every_drop P cs n h.1

pub every_append : (P : List ℕ → Type 0) (a b : List (List ℕ)) → Every P a → Every P b → Every P (a ++ b)
every_append P [] b h k = k
every_append P (c ∷ a) b h k = (h.0, every_append P a b h.1 k)

-- no scalar measures over 4, and no character has over 255 bytes
sum_small : (u : ℕ → ℕ) → ((c : ℕ) → u c ≤ 4) → (t : List ℕ) → sum_of u (scalars t) ≤ 4 * length t
unfolding scalars
sum_small u h [] = omega arith
sum_small u h (b ∷ t) =
    let i = sum_small u h t in
    cond_both (begins b) (decode b t ∷ scalars t) (scalars t) (λ l. sum_of u l ≤ 4 * suc (length t))
    (λ q. let k = h (decode b t) in omega arith)
    (λ q. omega arith)

pub all_small : (u : ℕ → ℕ) → ((c : ℕ) → u c ≤ 4) → (cs : List (List ℕ)) → Every Character cs → sum_all u cs ≤ 1020 * length cs
all_small u h [] e = omega arith
all_small u h (c ∷ cs) e =
    let a = sum_small u h c in
    let k = e.0.short in
    let b = all_small u h cs e.1 in
    omega arith

bytes_small : (cs : List (List ℕ)) → Every Character cs → length (bytes_of cs) ≤ 255 * length cs
bytes_small [] e = omega arith
bytes_small (c ∷ cs) e =
    let a = length-append c (bytes_of cs) in
    let k = e.0.short in
    let b = bytes_small cs e.1 in
    omega arith

-- the characters of one run
pub count_chars : (xs : List Run) (r n : ℕ) → Some n ≡ count_in xs r → length (characters_in xs r) ≡ n
count_chars [] r n c = absurd (not_none n c)
count_chars (x ∷ xs) r n c =
    ⊎_elim
    (λ q. ap length (cond-true (eqb x.row r) x.characters (characters_in xs r) q) ∙ some_same (count x) n (sym (c ∙ cond-true (eqb x.row r) (Some (count x)) (count_in xs r) q)))
    (λ q. ap length (cond-false (eqb x.row r) x.characters (characters_in xs r) q) ∙ count_chars xs r n (c ∙ cond-false (eqb x.row r) (Some (count x)) (count_in xs r) q))
    (cases_Bool (eqb x.row r))

pub count_small : (xs : List Run) (r n : ℕ) → Every SoundRun xs → Some n ≡ count_in xs r → n ≤ 255
count_small [] r n s c = absurd (not_none n c)
count_small (x ∷ xs) r n s c =
    ⊎_elim
    (λ q. let k = some_same (count x) n (sym (c ∙ cond-true (eqb x.row r) (Some (count x)) (count_in xs r) q)) in let f = s.0.few in omega arith)
    (λ q. count_small xs r n s.1 (c ∙ cond-false (eqb x.row r) (Some (count x)) (count_in xs r) q))
    (cases_Bool (eqb x.row r))

pub run_characters : (xs : List Run) (r : ℕ) → Every SoundRun xs → Every Character (characters_in xs r)
run_characters [] r s = tt
run_characters (x ∷ xs) r s =
    cond_both (eqb x.row r) x.characters (characters_in xs r) (Every Character) (λ q. s.0.characters) (λ q. run_characters xs r s.1)

run_bullets : (xs : List Run) (r : ℕ) → Every Bulleted xs → Every (λ c. c ≡ bullet) (characters_in xs r)
run_bullets [] r s = tt
run_bullets (x ∷ xs) r s =
    cond_both (eqb x.row r) x.characters (characters_in xs r) (Every (λ c. c ≡ bullet)) (λ q. s.0) (λ q. run_bullets xs r s.1)

bullet_units : (u : ℕ → ℕ) → sum_of u (scalars bullet) ≡ u the_bullet
unfolding scalars decode
bullet_units u = add-zero (u the_bullet)

bullets_sum : (u : ℕ → ℕ) (cs : List (List ℕ)) (i m : ℕ) → Every (λ c. c ≡ bullet) cs → i + m ≤ length cs → sum_all u (take m (drop i cs)) ≡ m * u the_bullet
bullets_sum u cs zero zero h k = omega arith
bullets_sum u [] zero (suc m) h k = absurd (omega arith)
bullets_sum u (c ∷ cs) zero (suc m) h k =
    let a = ap (λ t. sum_of u (scalars t)) h.0 ∙ bullet_units u in
    let b = bullets_sum u cs 0 m h.1 (omega arith) in
    let e : suc m * u the_bullet ≡ m * u the_bullet + u the_bullet = suc-mul m (u the_bullet) in
    omega arith
bullets_sum u [] (suc i) m h k = absurd (omega arith)
bullets_sum u (c ∷ cs) (suc i) m h k = bullets_sum u cs i m h.1 (omega arith)

module _ (u : ℕ → ℕ) (d : Document) (row i j : ℕ) (s : Sound d) where
  part : Every Character (take (j - i) (drop i (characters_in d.runs row)))
  part = every_take Character (drop i (characters_in d.runs row)) (j - i) (every_drop Character (characters_in d.runs row) i (run_characters d.runs row s.runs))

  pub masked_units : (n v : ℕ) → d.masked ≡ true → v ≡ u the_bullet → Some n ≡ count_in d.runs row → i ≤ j → j ≤ n → RunUnits u d row i j (Some ((j - i) * v))
  masked_units n v e b c h k =
      let l = count_chars d.runs row n c in (
        (h, subst (Within j) c k),
        ap (λ x. (j - i) * x) b
            ∙ sym (measured_all u (take (j - i) (drop i (characters_in d.runs row))) part ∙ bullets_sum u (characters_in d.runs row) i (j - i) (run_bullets d.runs row (s.bulleted e)) (omega arith)),
      )

  -- the bytes of a run's characters are few enough to be measured, and well-formed
  pub piece_units : (r : Result ℕ Unmeasured) (b : List ℕ) → Asked d row i j → b ≡ bytes_of (take (j - i) (drop i (characters_in d.runs row))) → Measures u b r → RunUnits u d row i j (result_ok r)
  piece_units (Ok n) b a e m = (a, m.2 ∙ ap (λ t. sum_of u (scalars t)) e)
  piece_units (Err IllFormed) b a e m = absurd (m.1 (subst (λ (t : List ℕ). WellFormed t) (sym e) (well_bytes (take (j - i) (drop i (characters_in d.runs row))) part)))
  piece_units (Err TooLong) b a e m =
      let c = count_of j (count_in d.runs row) a.1 in
      let l = count_chars d.runs row c.0 c.1 in
      let k = count_small d.runs row c.0 s.runs c.1 in
      let f = bytes_small (take (j - i) (drop i (characters_in d.runs row))) part in
      let g = length_take_most (j - i) (drop i (characters_in d.runs row)) in
      let t = length_drop_most i (characters_in d.runs row) in
      let x = ap length e in
      absurd (omega (arith, m))
    where
      length_take_most : (n : ℕ) (cs : List (List ℕ)) → length (take n cs) ≤ length cs
      length_take_most zero cs = omega arith
      length_take_most (suc n) [] = omega arith
      length_take_most (suc n) (c ∷ cs) = let h = length_take_most n cs in omega arith

      length_drop_most : (n : ℕ) (cs : List (List ℕ)) → length (drop n cs) ≤ length cs
      length_drop_most zero cs = omega arith
      length_drop_most (suc n) [] = omega arith
      length_drop_most (suc n) (c ∷ cs) = let h = length_drop_most n cs in omega arith

-- a product of small numbers is small
pub product_small : (a b : ℕ) → b ≤ 4 → a * b ≤ a * 4
product_small zero b h = omega arith
product_small (suc a) b h =
    let i = product_small a b h in
    let x : suc a * b ≡ a * b + b = suc-mul a b in
    let y : suc a * 4 ≡ a * 4 + 4 = suc-mul a 4 in
    omega arith

-- what an answer was, from what is left of it without its refusal
pub answered : {T E : Type 0} {b : T} (r : Result T E) → Some b ≡ result_ok r → r ≡ Ok b
answered {b = b} (Ok x) e = let same : x ≡ b = cc in ap Ok same
answered (Err x) e = absurd (none-some _ (sym e))
