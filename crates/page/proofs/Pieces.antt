-- The characters that lengths cut out of a text: their lengths, and the bytes of some of them.
--
use Rattle.std.proofs.Common.{slice_get, ◌≡◌, ℕ, zero, suc, ◌+◌, ◌≤◌, List, [], ◌∷◌, ◌++◌, length, take, drop, sum, Some, sym, refl, ap, ◌∙◌, arith, length-drop, drop-drop}
use Rattle.std.proofs.lemmas.List.{length-take-le}
use Rattle.std.proofs.Math.Seq.{take-add}
use Rattle.std.proofs.lemmas.List.Sums.{sum_by-cons, sum_by-take-drop, sum_by-take-le}
use Rattle.source.specs.Runs.{length_at}
use Rattle.source.specs.Pieces.{bytes_of}
use Rattle.page.specs.Texts.{cut}

-- The lengths of the characters are the lengths that they were cut by.
pub cut_get : (ns bs : List ℕ) (i : ℕ) → sum ns ≤ length bs → slice_get ns i ≡ length_at (cut ns bs) i
cut_get [] bs i t = refl
cut_get (n ∷ ns) bs zero t = let c = sum_by-cons (λ x. x) n ns in ap Some (sym (length-take-le n bs (omega (arith, c, t))))
cut_get (n ∷ ns) bs (suc i) t = let l = length-drop n bs in let c = sum_by-cons (λ x. x) n ns in cut_get ns (drop n bs) i (omega (arith, c, l, t))

bytes_take : (m : ℕ) (ns bs : List ℕ) → bytes_of (take m (cut ns bs)) ≡ take (sum (take m ns)) bs
bytes_take zero ns bs = refl
bytes_take (suc m) [] bs = refl
bytes_take (suc m) (n ∷ ns) bs = ap (λ l. take n bs ++ l) (bytes_take m ns (drop n bs)) ∙ sym (take-add n (sum (take m ns)) bs) ∙ ap (λ k. take k bs) (sym (sum_by-cons (λ x. x) n (take m ns)))

cut_drop : (i : ℕ) (ns bs : List ℕ) → drop i (cut ns bs) ≡ cut (drop i ns) (drop (sum (take i ns)) bs)
cut_drop zero ns bs = refl
cut_drop (suc i) [] bs = refl
cut_drop (suc i) (n ∷ ns) bs =
    cut_drop i ns (drop n bs) ∙ ap (cut (drop i ns)) (drop-drop (sum (take i ns)) n bs ∙ ap (λ k. drop k bs) (sym (sum_by-cons (λ x. x) n (take i ns))))

-- The bytes of the characters from i on, m of them, are one part of the text.
pub cut_piece : (ns bs : List ℕ) (i m : ℕ) → take (sum (take m (drop i ns))) (drop (sum (take i ns)) bs) ≡ bytes_of (take m (drop i (cut ns bs)))
cut_piece ns bs i m = sym (ap (λ cs. bytes_of (take m cs)) (cut_drop i ns bs) ∙ bytes_take m (drop i ns) (drop (sum (take i ns)) bs))

-- No part of the lengths sums to more than the whole.
pub sum_part : (ns : List ℕ) (i m : ℕ) → sum (take i ns) + sum (take m (drop i ns)) ≤ sum ns
sum_part ns i m = let h = sum_by-take-drop (λ x. x) ns i in let k = sum_by-take-le (λ x. x) (drop i ns) m in omega (arith, h, k)
