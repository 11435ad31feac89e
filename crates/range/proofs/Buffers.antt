-- A buffer that is written front to back: what is written, and what it held.
use Rattle.std.proofs.Common.{◌≡◌, ℕ, ◌+◌, ◌-◌, ◌≤◌, List, [], ◌++◌, length, take, drop, sym, refl, ap, ◌∙◌, append_assoc, arith, length-append, length-drop}
use borrow.Rule.Slice.PartMut.{put_mid, post_of}
use Rattle.std.proofs.lemmas.List.{append-nil, drop_all, drop-drop, take_rest, take_at, drop_at}
use Rattle.source.specs.Runs.{Document, Sound}
use Rattle.source.specs.Pieces.{bytes_of}
use Rattle.range.specs.declared.range.Range.{Range}
use Rattle.range.specs.Texts.{text_of, bytes_in}
use Rattle.range.specs.Walks.{Walked, front}
use Rattle.range.proofs.Characters.{bytes_append}
use Rattle.range.proofs.Walks.{front_short}

-- a write to the rest of a buffer, from its middle on
put_rest : (xs bs ys : List ℕ) (a : ℕ) → a ≤ length xs → ys ≡ bs ++ drop (length bs) (take (length xs - a) (drop a xs)) →
    put_mid a (length xs - a) xs ys ≡ take a xs ++ (bs ++ drop (a + length bs) xs)
put_rest xs bs ys a h e =
    let p : post_of a (length xs - a) xs ≡ [] = drop_all (length xs - a) (drop a xs) (simp length-drop (omega arith)) in
    ap (λ z. take a xs ++ (ys ++ z)) p
    ∙ ap (λ z. take a xs ++ z) (append-nil ys ∙ e ∙ ap (λ z. bs ++ drop (length bs) z) (take_rest xs a) ∙ ap (λ z. bs ++ z) (drop-drop (length bs) a xs))

-- part of the bytes is written, the rest is to come
pub record Wrote (all rest : List ℕ) (at : ℕ) (before now : List ℕ) : Type 0 where
  pub done : List ℕ
  pub joins : done ++ rest ≡ all
  pub long : length done ≡ at
  pub holds : now ≡ done ++ drop at before

pub wrote_none : (all before : List ℕ) → Wrote all all 0 before before
wrote_none all before = record { done = []; joins = refl; long = refl; holds = refl }

pub wrote_all : (all before now : List ℕ) (at : ℕ) → Wrote all [] at before now → (at ≡ length all) × (now ≡ all ++ drop at before)
wrote_all all before now at w =
    let e = sym (append-nil w.done) ∙ w.joins in
    (sym w.long ∙ ap length e, w.holds ∙ ap (λ z. z ++ drop at before) e)

module _ (all rest before now : List ℕ) (at : ℕ) (w : Wrote all rest at before now) where
  wrote_room : length all ≤ length before → at + length rest ≤ length now
  wrote_room h =
      let a = w.long in
      let b = ap length w.holds ∙ length-append w.done (drop at before) in
      let e = length-drop at before in
      let f = sym (length-append w.done rest) ∙ ap length w.joins in
      omega arith

  wrote_more : (bs more later : List ℕ) → rest ≡ bs ++ more → later ≡ take at now ++ (bs ++ drop (at + length bs) now) → Wrote all more (at + length bs) before later
  wrote_more bs more later e l =
      let a = w.long in
      record {
        done = w.done ++ bs;
        joins = append_assoc w.done bs more ∙ ap (λ z. w.done ++ z) (sym e) ∙ w.joins;
        long = length-append w.done bs ∙ ap (λ n. n + length bs) a;
        holds = l
            ∙ ap (λ z. z ++ (bs ++ drop (at + length bs) now)) (ap (take at) w.holds ∙ take_at w.done (drop at before) at a)
            ∙ ap (λ z. w.done ++ (bs ++ z)) (sym (drop-drop (length bs) at now) ∙ ap (drop (length bs)) (ap (drop at) w.holds ∙ drop_at w.done (drop at before) at a) ∙ drop-drop (length bs) at before)
            ∙ sym (append_assoc w.done bs (drop (at + length bs) before));
      }

-- a walk that has written all up to its rest t
module _ (d : Document) (s : Sound d) (all : List ℕ) (t : Range) (at : ℕ) (before now piece : List ℕ) (k : Walked d t) (w : Wrote all (bytes_in d t) at before now) (r : length all ≤ length before) (e : piece ≡ bytes_of (front d t)) where
  -- there is room for the piece
  pub room_for : at + length piece ≤ length now
  room_for =
      let a = wrote_room all (bytes_in d t) before now at w r in
      let b = front_short d s t k in
      let z = ap length e in
      omega arith

  -- the piece goes into the rest of the buffer
  pub wrote_rest : (more : List (List ℕ)) (out : List ℕ) → text_of d t ≡ front d t ++ more → out ≡ piece ++ drop (length piece) (take (length now - at) (drop at now)) →
      Wrote all (bytes_of more) (at + length piece) before (put_mid at (length now - at) now out)
  wrote_rest more out p q =
      wrote_more all (bytes_in d t) before now at w piece (bytes_of more) (put_mid at (length now - at) now out)
      (ap bytes_of p ∙ bytes_append (front d t) more ∙ ap (λ l. l ++ bytes_of more) (sym e))
      (put_rest now piece out at (let z = room_for in omega arith) q)
