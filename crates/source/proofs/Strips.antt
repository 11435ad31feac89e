-- The strip of bullets: its bytes, and which part of it a masked piece is.
use Rattle.std.specs.List.{flat_map}
use Rattle.std.specs.Prelude.{replicate, nat_lt}
use Rattle.std.specs.Bool.{then_some}
use Rattle.std.proofs.Common.{◌≡◌, ℕ, zero, suc, ◌+◌, ◌-◌, ◌*◌, ◌≤◌, eqb, List, [], ◌∷◌, length, take, drop, Some, None, Option, sym, refl, ap, ◌∙◌, subst, ⊎_elim, arith}
use Rattle.std.proofs.lemmas.Bool.Decides.{nat_tests}
use Rattle.std.proofs.lemmas.Bool.{cases_Bool, cond-true, cond-false}
use Rattle.std.specs.Borrow.{Bor}
use Rattle.std.specs.Option.{ok_or}
use Rattle.rows.specs.declared.refusal.Refusal.TheVariants.{Misplaced}
use Rattle.source.specs.Strips.{PartOf}
use Rattle.source.specs.Runs.{Run, Document, bullet, count, Every, SoundRun, count_in, characters_in, length_at}
use Rattle.source.specs.Pieces.{bullets, bytes_of, full_strip, piece_in, Within, Asked, Pieces}
use Rattle.source.specs.Layers.{each, masked_run, masked_doc}
use Rattle.source.proofs.Laws.{masked_count, masked_characters}

-- A strip of n bullets.
unfoldable pub strip_of : ℕ → List ℕ
strip_of n = bytes_of (bullets n)

pub full : full_strip ≡ strip_of 255
unfolding full_strip strip_of
full = refl

pub strip_more : (n : ℕ) → strip_of (suc n) ≡ 0xE2 ∷ 0x80 ∷ 0xA2 ∷ strip_of n
unfolding strip_of
strip_more n = refl

pub strip_none : strip_of 0 ≡ []
unfolding strip_of
strip_none = refl

pub strip_length : (n : ℕ) → length (strip_of n) ≡ 3 * n
strip_length zero = ap length strip_none
strip_length (suc n) = let h = strip_length n in ap length (strip_more n) ∙ omega arith

-- A part of the strip is a strip of as many bullets.
pub strip_take : (n m : ℕ) → m ≤ n → take (3 * m) (strip_of n) ≡ strip_of m
strip_take n zero h = sym strip_none
strip_take zero (suc m) h = absurd (omega arith)
strip_take (suc n) (suc m) h =
    let e : 3 * suc m ≡ suc (suc (suc (3 * m))) = omega arith in
    ap (λ k. take k (strip_of (suc n))) e ∙ ap (take (suc (suc (suc (3 * m))))) (strip_more n)
    ∙ ap (λ z. 0xE2 ∷ 0x80 ∷ 0xA2 ∷ z) (strip_take n m (omega arith)) ∙ sym (strip_more m)

-- The bytes of some of n bullets are a strip.
bullets_bytes : (n i m : ℕ) → i + m ≤ n → bytes_of (take m (drop i (bullets n))) ≡ strip_of m
bullets_bytes n zero zero h = sym strip_none
bullets_bytes zero zero (suc m) h = absurd (omega arith)
bullets_bytes (suc n) zero (suc m) h = ap (λ z. 0xE2 ∷ 0x80 ∷ 0xA2 ∷ z) (bullets_bytes n 0 m (omega arith)) ∙ sym (strip_more m)
bullets_bytes zero (suc i) m h = absurd (omega arith)
bullets_bytes (suc n) (suc i) m h = bullets_bytes n i m (omega arith)

same_lt : (i n : ℕ) → nat_lt i n ≡ nat_lt (suc i) (suc n)
same_lt i n = grind (arith, nat_tests)

-- Each of n bullets has three bytes, and there are no more.
bullets_at : (n i : ℕ) → length_at (bullets n) i ≡ then_some (nat_lt i n) 3
bullets_at zero i = grind (arith, nat_tests)
bullets_at (suc n) zero = grind (arith, nat_tests)
bullets_at (suc n) (suc i) = bullets_at n i ∙ ap (λ b. then_some b 3) (same_lt i n)

none_some : {A : Type 0} (n : A) → ◌≡◌ {A = Option A} (Some n) None → ⊥
none_some n e = let z : ◌≡◌ {A = ℕ} 0 1 = cc in omega arith

-- What is there by what a call answered and by what it promises.
pub answered : {A : Type 0} (o m p : Option A) → o ≡ m → o ≡ p → m ≡ p
answered o m p e f = sym e ∙ f

some_same : (m n : ℕ) → Some m ≡ Some n → m ≡ n
some_same m n e = cc

-- The count is that of the characters, and a row that has none has no characters.
pub count_characters : (xs : List Run) (r n : ℕ) → Some n ≡ count_in xs r → n ≡ length (characters_in xs r)
count_characters [] r n e = absurd (none_some n e)
count_characters (x ∷ xs) r n e =
    ⊎_elim
    (λ q. some_same n (count x) (e ∙ cond-true (eqb x.row r) (Some (count x)) (count_in xs r) q) ∙ ap length (sym (cond-true (eqb x.row r) x.characters (characters_in xs r) q)))
    (λ q. count_characters xs r n (e ∙ cond-false (eqb x.row r) (Some (count x)) (count_in xs r) q) ∙ ap length (sym (cond-false (eqb x.row r) x.characters (characters_in xs r) q)))
    (cases_Bool (eqb x.row r))

pub no_characters : (xs : List Run) (r : ℕ) → None ≡ count_in xs r → characters_in xs r ≡ []
no_characters [] r e = refl
no_characters (x ∷ xs) r e =
    ⊎_elim
    (λ q. absurd (none_some (count x) (sym (e ∙ cond-true (eqb x.row r) (Some (count x)) (count_in xs r) q))))
    (λ q. cond-false (eqb x.row r) x.characters (characters_in xs r) q ∙ no_characters xs r (e ∙ cond-false (eqb x.row r) (Some (count x)) (count_in xs r) q))
    (cases_Bool (eqb x.row r))

-- No run has over 255 characters.
pub count_few : (xs : List Run) (r n : ℕ) → Every SoundRun xs → Some n ≡ count_in xs r → n ≤ 255
count_few [] r n s e = absurd (none_some n e)
count_few (x ∷ xs) r n s e =
    ⊎_elim
    (λ q. let z = some_same n (count x) (e ∙ cond-true (eqb x.row r) (Some (count x)) (count_in xs r) q) in let k = s.0.few in omega arith)
    (λ q. count_few xs r n s.1 (e ∙ cond-false (eqb x.row r) (Some (count x)) (count_in xs r) q))
    (cases_Bool (eqb x.row r))

-- The masked piece is the front of the strip.
pub masked_piece : (xs : List Run) (r i j n : ℕ) (strip : List ℕ) → Some n ≡ count_in xs r → i ≤ j → j ≤ n → n ≤ 255 → strip ≡ full_strip → take (3 * (j - i)) strip ≡ piece_in (each masked_run xs) r i j
masked_piece xs r i j n strip c h k l e =
    let z = count_characters xs r n c in
    ap (take (3 * (j - i))) (e ∙ full) ∙ strip_take 255 (j - i) (omega arith)
    ∙ sym (ap (λ cs. bytes_of (take (j - i) (drop i cs))) (masked_characters xs r) ∙ bullets_bytes (length (characters_in xs r)) i (j - i) (omega arith))

-- The strip has room for it.
pub masked_room : (strip : List ℕ) (i j n : ℕ) → strip ≡ full_strip → i ≤ j → j ≤ n → n ≤ 255 → 3 * (j - i) ≤ length strip
masked_room strip i j n e h k l = let z = ap length (e ∙ full) ∙ strip_length 255 in omega arith

-- What the source below counts, the masked one counts.
pub asked_masked : (d : Document) (r i j n : ℕ) → Some n ≡ count_in d.runs r → i ≤ j → j ≤ n → Asked (masked_doc d) r i j
asked_masked d r i j n e h k = (h, subst (Within j) (e ∙ sym (masked_count d.runs r)) k)

-- What is handed out for a part of the strip.
pub masked_part : (d : Document) (r i j n : ℕ) (strip : List ℕ) → Some n ≡ count_in d.runs r → i ≤ j → j ≤ n → n ≤ 255 → strip ≡ full_strip → (o : Option (Bor (List ℕ))) → PartOf strip 0 (3 * (j - i)) o → Pieces (masked_doc d) r i j strip (ok_or o Misplaced)
masked_part d r i j n strip c h k l e (Some b) p =
    let long : 3 * (j - i) - 0 ≡ 3 * (j - i) = omega arith in
    (asked_masked d r i j n c h k, λ m. e, p.2 ∙ ap (λ m. take m strip) long ∙ masked_piece d.runs r i j n strip c h k l e)
masked_part d r i j n strip c h k l e None p = absurd (p (omega arith, masked_room strip i j n e h k l))

-- A masked character has three bytes, where there is one.
module _ (xs : List Run) (r i : ℕ) where
  pub masked_none : None ≡ count_in xs r → None ≡ length_at (characters_in (each masked_run xs) r) i
  masked_none e = sym (ap (λ cs. length_at cs i) (masked_characters xs r ∙ ap (λ cs. bullets (length cs)) (no_characters xs r e)))

  pub masked_length : (n : ℕ) → Some n ≡ count_in xs r → then_some (nat_lt i n) 3 ≡ length_at (characters_in (each masked_run xs) r) i
  masked_length n e = sym (ap (λ cs. length_at cs i) (masked_characters xs r) ∙ bullets_at (length (characters_in xs r)) i ∙ ap (λ m. then_some (nat_lt i m) 3) (sym (count_characters xs r n e)))

bullets_alike : (n : ℕ) → replicate n bullet ≡ bullets n
bullets_alike zero = refl
bullets_alike (suc n) = ap (λ cs. bullet ∷ cs) (bullets_alike n)

pub full_bullets : flat_map (λ x. x) (replicate 255 bullet) ≡ full_strip
unfolding full_strip
full_bullets = ap (λ cs. flat_map (λ x. x) cs) (bullets_alike 255)
