-- The document's characters: those between two places, and those of a run.
use Rattle.std.proofs.Common.{◌≡◌, ℕ, zero, suc, ◌+◌, ◌-◌, ◌*◌, ◌≤◌, eqb, List, [], ◌∷◌, ◌++◌, length, take, drop, Some, sym, refl, ap, ◌∙◌, ⊎_elim, append_assoc, arith, length-append, length-drop, take-add}
use Rattle.std.proofs.lemmas.List.{drop-append-le, take-append-le, drop-drop, drop_at}
use Rattle.std.proofs.lemmas.Bool.{cases_Bool, cond-true, cond-false}
use Rattle.source.specs.Runs.{Run, Document, Sound, SoundRun, Character, Every, count, count_in, characters_in}
use Rattle.source.specs.Pieces.{bytes_of}
use Rattle.position.specs.Places.{characters_of, offset_in, total_in}
use Rattle.position.proofs.Options.{some_same, not_none}
use Rattle.range.specs.Texts.{between}

-- a stretch of a run, as a stretch of the document
pub piece_between : (xs : List Run) (r i j n : ℕ) → Some n ≡ count_in xs r → i ≤ j → j ≤ n →
    take (j - i) (drop i (characters_in xs r)) ≡ take (offset_in xs r j - offset_in xs r i) (drop (offset_in xs r i) (characters_of xs))
piece_between [] r i j n c h k = absurd (not_none n c)
piece_between (x ∷ xs) r i j n c h k =
    ⊎_elim
    (λ q.
    let m = some_same n (count x) (c ∙ cond-true (eqb x.row r) (Some (count x)) (count_in xs r) q) in
    let a = cond-true (eqb x.row r) i (count x + offset_in xs r i) q in
    let b = cond-true (eqb x.row r) j (count x + offset_in xs r j) q in
    let l = length-drop i x.characters in
    ap (λ cs. take (j - i) (drop i cs)) (cond-true (eqb x.row r) x.characters (characters_in xs r) q)
    ∙ sym (ap (λ o. take (offset_in (x ∷ xs) r j - o) (drop o (characters_of (x ∷ xs)))) a
    ∙ ap (λ o. take (o - i) (drop i (characters_of (x ∷ xs)))) b
    ∙ ap (take (j - i)) (drop-append-le i x.characters (characters_of xs) (omega arith))
    ∙ take-append-le (j - i) (drop i x.characters) (characters_of xs) (omega arith)))
    (λ q.
    let a = cond-false (eqb x.row r) i (count x + offset_in xs r i) q in
    let b = cond-false (eqb x.row r) j (count x + offset_in xs r j) q in
    let e : (count x + offset_in xs r j) - (count x + offset_in xs r i) ≡ offset_in xs r j - offset_in xs r i = omega arith in
    ap (λ cs. take (j - i) (drop i cs)) (cond-false (eqb x.row r) x.characters (characters_in xs r) q)
    ∙ piece_between xs r i j n (c ∙ cond-false (eqb x.row r) (Some (count x)) (count_in xs r) q) h k
    ∙ sym (ap (λ o. take (offset_in (x ∷ xs) r j - o) (drop o (characters_of (x ∷ xs)))) a
    ∙ ap (λ o. take (o - (count x + offset_in xs r i)) (drop (count x + offset_in xs r i) (characters_of (x ∷ xs)))) b
    ∙ ap (λ o. take o (drop (count x + offset_in xs r i) (characters_of (x ∷ xs)))) e
    ∙ ap (take (offset_in xs r j - offset_in xs r i)) (sym (drop-drop (offset_in xs r i) (count x) (characters_of (x ∷ xs))) ∙ ap (drop (offset_in xs r i)) (drop_at x.characters (characters_of xs) (count x) refl))))
    (cases_Bool (eqb x.row r))

-- nothing stands between places that are not in order
pub between_none : (d : Document) (a b : ℕ) → b ≤ a → between d a b ≡ []
between_none d a b h = let e : b - a ≡ 0 = omega arith in ap (λ n. take n (drop a (characters_of d.runs))) e

-- a stretch of the document, cut at a place
pub between_split : (d : Document) (a b c : ℕ) → a ≤ b → b ≤ c → between d a b ++ between d b c ≡ between d a c
between_split d a b c p q =
    let xs = characters_of d.runs in
    let e : drop b xs ≡ drop (b - a) (drop a xs) = ap (λ n. drop n xs) (omega arith) ∙ sym (drop-drop (b - a) a xs) in
    ap (λ l. take (b - a) (drop a xs) ++ take (c - b) l) e
    ∙ sym (take-add (b - a) (c - b) (drop a xs))
    ∙ ap (λ n. take n (drop a xs)) (omega arith)

pub bytes_append : (a b : List (List ℕ)) → bytes_of (a ++ b) ≡ bytes_of a ++ bytes_of b
bytes_append [] b = refl
bytes_append (c ∷ a) b = ap (λ l. c ++ l) (bytes_append a b) ∙ sym (append_assoc c (bytes_of a) (bytes_of b))

pub length_characters : (xs : List Run) → length (characters_of xs) ≡ total_in xs
length_characters [] = refl
length_characters (x ∷ xs) = length-append x.characters (characters_of xs) ∙ ap (λ n. count x + n) (length_characters xs)

-- what holds of each element of two lists holds of each of both
pub every_append : (P : List ℕ → Type 0) (a b : List (List ℕ)) → Every P a → Every P b → Every P (a ++ b)
every_append P [] b h k = k
every_append P (c ∷ a) b h k = (h.0, every_append P a b h.1 k)

pub every_part : (P : List ℕ → Type 0) (cs : List (List ℕ)) (i n : ℕ) → Every P cs → Every P (take n (drop i cs))
every_part P cs zero zero h = tt
every_part P [] zero (suc n) h = tt
every_part P (c ∷ cs) zero (suc n) h = (h.0, every_part P cs 0 n h.1)
every_part P [] (suc i) zero h = tt
every_part P [] (suc i) (suc n) h = tt
every_part P (c ∷ cs) (suc i) n h = every_part P cs i n h.1

pub characters_sound : (xs : List Run) → Every SoundRun xs → Every Character (characters_of xs)
characters_sound [] h = tt
characters_sound (x ∷ xs) h = every_append Character x.characters (characters_of xs) h.0.characters (characters_sound xs h.1)

-- all the bytes are few
pub total_few : (xs : List Run) → Every SoundRun xs → total_in xs ≤ 255 * length xs
total_few [] h = omega arith
total_few (x ∷ xs) h = let a = h.0.few in let b = total_few xs h.1 in omega arith

bytes_few : (cs : List (List ℕ)) (i n : ℕ) → Every Character cs → length (bytes_of (take n (drop i cs))) ≤ 255 * length cs
bytes_few cs zero zero h = omega arith
bytes_few [] zero (suc n) h = omega arith
bytes_few (c ∷ cs) zero (suc n) h =
    let a = length-append c (bytes_of (take n cs)) in
    let b = bytes_few cs 0 n h.1 in
    let k = h.0.short in
    omega arith
bytes_few [] (suc i) zero h = omega arith
bytes_few [] (suc i) (suc n) h = omega arith
bytes_few (c ∷ cs) (suc i) n h = let b = bytes_few cs i n h.1 in omega arith

pub between_few : (d : Document) (a b : ℕ) → Sound d → length (bytes_of (between d a b)) ≤ 66585600
between_few d a b s =
    let e = bytes_few (characters_of d.runs) a (b - a) (characters_sound d.runs s.runs) in
    let f = length_characters d.runs in
    let k = total_few d.runs s.runs in
    let n = s.few in
    omega arith
