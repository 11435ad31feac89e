-- The search for the character that holds a unit: run after run, then character after character.
use Rattle.std.proofs.Common.{◌≡◌, ℕ, ◌+◌, ◌-◌, ◌<◌, ◌≤◌, eqb, List, [], ◌∷◌, length, take, drop, Some, None, sym, refl, ap, ◌∙◌, subst, inl, inr, ⊎_elim, arith, length-append}
use Rattle.std.proofs.lemmas.Bool.{cases_Bool, cases_lt, cond-true, cond-false}
use Rattle.std.proofs.lemmas.List.{take_all}
use Rattle.rows.specs.declared.node.NodeId.{NodeId}
use Rattle.source.specs.Runs.{Run, Document, Sound, Character, count, count_in, next_in, first_row, characters_in}
use Rattle.source.specs.Pieces.{Within}
use Rattle.position.specs.Places.{offset_in, total_in, total, at, place}
use Rattle.position.proofs.Places.{biases_inside, biases_last, offset_next, offset_inside}
use Rattle.position.proofs.Neighbours.{offset_add, meets, meets_end}
use Rattle.position.specs.Places.{characters_of}
use Rattle.index.specs.Measured.{measured, index_at, RunUnits, HeldIn, Holds}
use Rattle.index.proofs.Sums.{sum_all, measured_all, all_append, all_take, every_take, run_characters, count_chars}
use Rattle.index.proofs.Walks.{suffix, suffix_first, first_within, Here, here_of, then_at, last_at}
use Rattle.index.proofs.Indexes.{before, before_text, text_characters, part_units}

-- within a run: what is left of the unit's number behind the characters passed
module _ (u : ℕ → ℕ) (d : Document) (s : Sound d) (r : ℕ) where
  pub measured_part : (k : ℕ) → measured u (take k (characters_in d.runs r)) ≡ sum_all u (take k (characters_in d.runs r))
  measured_part k = measured_all u (take k (characters_in d.runs r)) (every_take Character (characters_in d.runs r) k (run_characters d.runs r s.runs))

  pub step_units : (k v : ℕ) → RunUnits u d r k (k + 1) (Some v) → sum_all u (take (k + 1) (characters_in d.runs r)) ≡ sum_all u (take k (characters_in d.runs r)) + v
  step_units k v w =
      let z : (k + 1) - k ≡ 1 = omega arith in
      let a = part_units u d s r k (k + 1) v w ∙ ap (λ n. sum_all u (take n (drop k (characters_in d.runs r)))) z in
      let b = all_take u (characters_in d.runs r) k 1 in
      omega arith

  pub held : (n i k v left : ℕ) → Some n ≡ count_in d.runs r → k < n → left + sum_all u (take k (characters_in d.runs r)) ≡ i → RunUnits u d r k (k + 1) (Some v) → left < v → HeldIn u (characters_in d.runs r) i (Some k)
  held n i k v left c h e w x =
      let l = count_chars d.runs r n c in
      let a = measured_part k in
      let b = measured_part (k + 1) in
      let y = step_units k v w in
      (omega arith, omega arith, omega arith)

  pub held_more : (i k v left : ℕ) → left + sum_all u (take k (characters_in d.runs r)) ≡ i → RunUnits u d r k (k + 1) (Some v) → v ≤ left → (left - v) + sum_all u (take (k + 1) (characters_in d.runs r)) ≡ i
  held_more i k v left e w x = let y = step_units k v w in omega arith

  pub held_none : (n i k left : ℕ) → Some n ≡ count_in d.runs r → n ≤ k → left + sum_all u (take k (characters_in d.runs r)) ≡ i → HeldIn u (characters_in d.runs r) i None
  held_none n i k left c h e =
      let l = count_chars d.runs r n c in
      let a = measured_all u (characters_in d.runs r) (run_characters d.runs r s.runs) in
      let b = ap (sum_all u) (take_all k (characters_in d.runs r) (omega arith)) in
      omega arith

  pub held_asked : (n k : ℕ) → Some n ≡ count_in d.runs r → k < n → RunUnits u d r k (k + 1) None → ⊥
  held_asked n k c h w = let j : k + 1 ≤ n = omega arith in w (omega arith, subst (Within (k + 1)) c j)

-- the units before an index, and those from its run on
before_rest : (u : ℕ → ℕ) (xs : List Run) (r i : ℕ) → Within i (count_in xs r) → before u xs r i + sum_all u (characters_of (suffix xs r)) ≡ sum_all u (characters_of xs) + sum_all u (take i (characters_in xs r))
before_rest u [] r i w = absurd w
before_rest u (x ∷ xs) r i w =
    ⊎_elim
    (λ q.
    let a = cond-true (eqb x.row r) (sum_all u (take i x.characters)) (sum_all u x.characters + before u xs r i) q in
    let b = ap (λ l. sum_all u (characters_of l)) (cond-true (eqb x.row r) (x ∷ xs) (suffix xs r) q) in
    let c = ap (λ l. sum_all u (take i l)) (cond-true (eqb x.row r) x.characters (characters_in xs r) q) in
    omega arith)
    (λ q.
    let a = cond-false (eqb x.row r) (sum_all u (take i x.characters)) (sum_all u x.characters + before u xs r i) q in
    let b = ap (λ l. sum_all u (characters_of l)) (cond-false (eqb x.row r) (x ∷ xs) (suffix xs r) q) in
    let c = ap (λ l. sum_all u (take i l)) (cond-false (eqb x.row r) x.characters (characters_in xs r) q) in
    let v = subst (Within i) (cond-false (eqb x.row r) (Some (count x)) (count_in xs r) q) w in
    let h = before_rest u xs r i v in
    let t = all_append u x.characters (characters_of xs) in
    omega arith)
    (cases_Bool (eqb x.row r))

-- run after run: the walk is at a run, and what is left of the unit's number
pub record Seeks (u : ℕ → ℕ) (d : Document) (i r left : ℕ) : Type 0 where
  pub within : Within 0 (count_in d.runs r)
  pub rest : i + sum_all u (characters_of (suffix d.runs r)) ≡ left + sum_all u (characters_of d.runs)

pub text_length : (xs : List Run) → length (characters_of xs) ≡ total_in xs
text_length [] = refl
text_length (x ∷ xs) = let h = text_length xs in let a = length-append x.characters (characters_of xs) in omega arith

module _ (u : ℕ → ℕ) (d : Document) (s : Sound d) where
  pub seeks_first : (i : ℕ) → Seeks u d i (first_row d.runs) i
  seeks_first i = record { within = first_within d.runs s.listed; rest = ap (λ l. i + sum_all u (characters_of l)) (suffix_first d.runs) }

  pub index_sum : (k : ℕ) → index_at u d k ≡ sum_all u (take k (characters_of d.runs))
  index_sum k = measured_all u (take k (characters_of d.runs)) (every_take Character (characters_of d.runs) k (text_characters d.runs s.runs))

  pub index_total : index_at u d (total d) ≡ sum_all u (characters_of d.runs)
  index_total = let l = text_length d.runs in index_sum (total d) ∙ ap (sum_all u) (take_all (total d) (characters_of d.runs) (omega arith))

  index_before : (r i : ℕ) → Within i (count_in d.runs r) → index_at u d (offset_in d.runs r i) ≡ before u d.runs r i
  index_before r i w = index_sum (offset_in d.runs r i) ∙ before_text u d.runs r i w

  module _ (i r left n v : ℕ) (k : Seeks u d i r left) (c : Some n ≡ count_in d.runs r) (e : v ≡ sum_all u (characters_in d.runs r)) where
    at_run : Here d.runs r
    at_run = here_of d.runs r 0 s.runs k.within

    pub seeks_more : (t : NodeId) → v ≤ left → Some t ≡ next_in d.runs r → Seeks u d i t.0 (left - v)
    seeks_more t h x =
        let y = at_run in
        let a = ap (λ l. sum_all u (characters_of l)) y.at ∙ all_append u y.here.characters (characters_of y.rest) in
        let b = ap (λ l. sum_all u (characters_of l)) (then_at d.runs r y t s.listed x) in
        let f = ap (sum_all u) y.letters in
        let g = k.rest in
        record { within = (meets d.runs r n t s.listed c x).has; rest = omega arith }

    -- the character found
    pub seeks_found : (j : ℕ) → HeldIn u (characters_in d.runs r) left (Some j) → Holds u d i (at d.root r j)
    seeks_found j h =
        let l = count_chars d.runs r n c in
        let z = h.0 in
        let jn : j < n = omega arith in
        let wj : Within j (count_in d.runs r) = (let q : j ≤ n = omega arith in subst (Within j) c q) in
        let wk : Within (j + 1) (count_in d.runs r) = (let q : j + 1 ≤ n = omega arith in subst (Within (j + 1)) c q) in
        let o = offset_in d.runs r j in
        let on = offset_next d.runs r j wj in
        let a = index_before r j wj in
        let b = ap (index_at u d) (sym on) ∙ index_before r (j + 1) wk in
        let x = before_rest u d.runs r j wj in
        let y = before_rest u d.runs r (j + 1) wk in
        let m = measured_part u d s r j in
        let p = measured_part u d s r (j + 1) in
        let f = h.1 in
        let g = h.2 in
        let t = k.rest in
        let inside = offset_inside d.runs r (j + 1) wk in
        record {
          at = o;
          lands = (biases_inside d (at d.root r j) n s refl c jn).1.0;
          holds = inl (omega arith, omega arith, omega arith);
        }

    at_last : None ≡ next_in d.runs r → i + v ≡ left + sum_all u (characters_of d.runs)
    at_last x =
        let y = at_run in
        let a = ap (λ l. sum_all u (characters_of l)) (last_at d.runs r y x) ∙ all_append u y.here.characters [] in
        let f = ap (sum_all u) y.letters in
        let g = k.rest in
        omega arith

    -- the text's measure gives the end, and more is beyond it
    pub seeks_end : None ≡ next_in d.runs r → left ≡ v → Holds u d i (at d.root r n)
    seeks_end x h =
        let a = at_last x in
        let t = index_total in
        let o = offset_add d.runs r n n c in
        let m = meets_end d.runs r n c x in
        let z : offset_in d.runs r n ≡ total d = omega arith in
        record {
          at = total d;
          lands = (biases_last d (at d.root r n) n s refl c (omega arith) (omega arith) x).1.0 ∙ ap (place d) z;
          holds = inr (refl, omega arith);
        }

    pub seeks_beyond : None ≡ next_in d.runs r → v ≤ left → (left ≡ v → ⊥) → index_at u d (total d) < i
    seeks_beyond x h ne =
        let a = at_last x in
        let t = index_total in
        ⊎_elim (λ z. omega arith) (λ z. absurd (ne (omega arith))) (cases_lt v left)

    -- a run that measures more than is left holds the unit
    pub seeks_held : left < v → HeldIn u (characters_in d.runs r) left None → ⊥
    seeks_held h w = let a = measured_all u (characters_in d.runs r) (run_characters d.runs r s.runs) in omega arith
