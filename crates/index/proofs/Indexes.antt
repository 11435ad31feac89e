-- The index of a position, summed up run by run.
use Rattle.std.proofs.Common.{◌≡◌, ℕ, zero, suc, ◌+◌, ◌-◌, ◌*◌, ◌<◌, ◌≤◌, cond, eqb, List, [], ◌∷◌, ◌++◌, length, take, drop, Some, None, Option, sym, refl, ap, ◌∙◌, subst, ⊎_elim, arith}
use Rattle.std.proofs.lemmas.Bool.{eq-eqb, ne_eqb, cases_Bool, cond-true, cond-false}
use Rattle.std.proofs.lemmas.List.{take_all}
use Rattle.rows.specs.declared.node.NodeId.{NodeId}
use Rattle.source.specs.Runs.{Run, Document, Sound, SoundRun, Character, Every, count, count_in, next_in, first_row, characters_in}
use Rattle.source.specs.Pieces.{Within}
use Rattle.position.specs.declared.position.Position.{Position}
use Rattle.position.specs.Places.{Lawful, offset_in, offset}
use Rattle.position.proofs.Places.{count_later}
use Rattle.position.specs.Places.{characters_of}
use Rattle.index.specs.Measured.{index_at, RunUnits}
use Rattle.index.proofs.Sums.{sum_all, measured_all, all_small, every_take, every_append, run_characters, count_chars, count_small}
use Rattle.index.proofs.Walks.{suffix, suffix_first, Here, here_of, then_at, ahead_here}

-- the units before an index of a run
abbrev pub before : (ℕ → ℕ) → List Run → ℕ → ℕ → ℕ
before u [] r i = 0
before u (x ∷ xs) r i = cond (eqb x.row r) (sum_all u (take i x.characters)) (sum_all u x.characters + before u xs r i)

pub text_characters : (xs : List Run) → Every SoundRun xs → Every Character (characters_of xs)
text_characters [] s = tt
text_characters (x ∷ xs) s = every_append Character x.characters (characters_of xs) s.0.characters (text_characters xs s.1)

take_front : (a b : List (List ℕ)) (i : ℕ) → i ≤ length a → take i (a ++ b) ≡ take i a
take_front a b zero h = refl
take_front [] b (suc i) h = absurd (omega arith)
take_front (c ∷ a) b (suc i) h = ap (λ l. c ∷ l) (take_front a b i (omega arith))

take_past : (u : ℕ → ℕ) (a b : List (List ℕ)) (i : ℕ) → sum_all u (take (length a + i) (a ++ b)) ≡ sum_all u a + sum_all u (take i b)
take_past u [] b i = let z : 0 + i ≡ i = omega arith in let y = ap (λ n. sum_all u (take n b)) z in omega arith
take_past u (c ∷ a) b i =
    let h = take_past u a b i in
    let z : suc (length a) + i ≡ suc (length a + i) = omega arith in
    let y = ap (λ n. sum_all u (take n (c ∷ a ++ b))) z in
    omega arith

-- they are those of the text before the place
pub before_text : (u : ℕ → ℕ) (xs : List Run) (r i : ℕ) → Within i (count_in xs r) → sum_all u (take (offset_in xs r i) (characters_of xs)) ≡ before u xs r i
before_text u [] r i w = absurd w
before_text u (x ∷ xs) r i w =
    ⊎_elim
    (λ q.
    let v : i ≤ count x = subst (Within i) (cond-true (eqb x.row r) (Some (count x)) (count_in xs r) q) w in
    ap (λ n. sum_all u (take n (x.characters ++ characters_of xs))) (cond-true (eqb x.row r) i (count x + offset_in xs r i) q)
    ∙ ap (sum_all u) (take_front x.characters (characters_of xs) i v)
    ∙ sym (cond-true (eqb x.row r) (sum_all u (take i x.characters)) (sum_all u x.characters + before u xs r i) q))
    (λ q.
    let v = subst (Within i) (cond-false (eqb x.row r) (Some (count x)) (count_in xs r) q) w in
    ap (λ n. sum_all u (take n (x.characters ++ characters_of xs))) (cond-false (eqb x.row r) i (count x + offset_in xs r i) q)
    ∙ take_past u x.characters (characters_of xs) (offset_in xs r i)
    ∙ ap (λ n. sum_all u x.characters + n) (before_text u xs r i v)
    ∙ sym (cond-false (eqb x.row r) (sum_all u (take i x.characters)) (sum_all u x.characters + before u xs r i) q))
    (cases_Bool (eqb x.row r))

-- a run's units are its characters' sum
module _ (u : ℕ → ℕ) (d : Document) (s : Sound d) (r : ℕ) where
  pub part_units : (i j n : ℕ) → RunUnits u d r i j (Some n) → n ≡ sum_all u (take (j - i) (drop i (characters_in d.runs r)))
  part_units i j n w =
      w.1 ∙ measured_all u (take (j - i) (drop i (characters_in d.runs r)))
      (every_take Character (drop i (characters_in d.runs r)) (j - i) (rest i (characters_in d.runs r) (run_characters d.runs r s.runs)))
    where
      rest : (i : ℕ) (cs : List (List ℕ)) → Every Character cs → Every Character (drop i cs)
      rest zero cs h = h
      rest (suc i) [] h = tt
      rest (suc i) (c ∷ cs) h = rest i cs h.1

  pub front_units : (j n : ℕ) → RunUnits u d r 0 j (Some n) → n ≡ sum_all u (take j (characters_in d.runs r))
  front_units j n w = let z : j - 0 ≡ j = omega arith in part_units 0 j n w ∙ ap (λ k. sum_all u (take k (characters_in d.runs r))) z

  pub all_units : (j n : ℕ) → Some j ≡ count_in d.runs r → RunUnits u d r 0 j (Some n) → n ≡ sum_all u (characters_in d.runs r)
  all_units j n c w =
      let l = count_chars d.runs r j c in
      front_units j n w ∙ ap (sum_all u) (take_all j (characters_in d.runs r) (omega arith))

  -- the same, of what two calls answered
  pub units_of : (j n : ℕ) (o p : Option ℕ) → o ≡ Some j → p ≡ Some n → o ≡ count_in d.runs r → RunUnits u d r 0 j p → n ≡ sum_all u (characters_in d.runs r)
  units_of j n o p e f c w = all_units j n (sym e ∙ c) (subst (RunUnits u d r 0 j) f w)

  pub asked_all : (j n : ℕ) → Some n ≡ count_in d.runs r → j ≤ n → RunUnits u d r 0 j None → ⊥
  asked_all j n c h w = w (omega arith, subst (Within j) c h)

-- what the walk to a position keeps
pub record Toward (u : ℕ → ℕ) (xs : List Run) (p i r acc : ℕ) : Type 0 where
  pub sum : acc + before u (suffix xs r) p i ≡ before u xs p i
  pub ahead : Within i (count_in (suffix xs r) p)
  pub room : acc + 260100 * length (suffix xs r) ≤ 260100 * length xs

pub toward_first : (u : ℕ → ℕ) (xs : List Run) (p i : ℕ) → Within i (count_in xs p) → Toward u xs p i (first_row xs) 0
toward_first u xs p i w =
    let e = suffix_first xs in
    let a = ap (λ l. before u l p i) e in
    let b = ap length e in
    record { sum = omega arith; ahead = subst (λ l. Within i (count_in l p)) (sym e) w; room = omega arith }

module _ (u : ℕ → ℕ) (few : (c : ℕ) → u c ≤ 4) (d : Document) (s : Sound d) (p i r acc : ℕ) (w : Toward u d.runs p i r acc) where
  at_run : Here d.runs r
  at_run = here_of d.runs r 0 s.runs (ahead_here d.runs r p i w.ahead)

  units_small : (n v : ℕ) → Some n ≡ count_in d.runs r → v ≡ sum_all u (characters_in d.runs r) → v ≤ 260100
  units_small n v c e =
      let a = all_small u few (characters_in d.runs r) (run_characters d.runs r s.runs) in
      let l = count_chars d.runs r n c in
      let k = count_small d.runs r n s.runs c in
      omega arith

  pub toward_fits : (n v : ℕ) → Some n ≡ count_in d.runs r → v ≡ sum_all u (characters_in d.runs r) → acc + v < 18446744073709551616
  toward_fits n v c e =
      let a = units_small n v c e in
      let b = w.room in
      let f = s.few in
      let z = ap length at_run.at in
      omega arith

  pub toward_more : (n v : ℕ) (t : NodeId) → Some n ≡ count_in d.runs r → v ≡ sum_all u (characters_in d.runs r) → (r ≡ p → ⊥) → Some t ≡ next_in d.runs r → Toward u d.runs p i t.0 (acc + v)
  toward_more n v t c e ne x =
      let h = at_run in
      let y = h.here in
      let l = h.rest in
      let no' : y.row ≡ p → ⊥ = λ z. ne (sym h.row ∙ z) in
      let q = ne_eqb y.row p no' in
      let k = then_at d.runs r h t s.listed x in
      let a = ap (λ m. before u m p i) h.at ∙ cond-false (eqb y.row p) (sum_all u (take i y.characters)) (sum_all u y.characters + before u l p i) q in
      let b = ap (λ m. before u m p i) k in
      let f = ap (sum_all u) h.letters in
      let g = w.sum in
      let m = units_small n v c e in
      let o = w.room in
      let lx = ap length h.at in
      let ly = ap length k in
      record {
        sum = omega arith;
        ahead = subst (λ m. Within i (count_in m p)) (sym k) (subst (Within i) (count_later y l p no') (subst (λ m. Within i (count_in m p)) h.at w.ahead));
        room = omega arith;
      }

  pub toward_end : (v : ℕ) → r ≡ p → v ≡ sum_all u (take i (characters_in d.runs r)) → acc + v ≡ before u d.runs p i
  toward_end v e x =
      let h = at_run in
      let y = h.here in
      let l = h.rest in
      let a = ap (λ m. before u m p i) h.at ∙ cond-true (eqb y.row p) (sum_all u (take i y.characters)) (sum_all u y.characters + before u l p i) (eq-eqb y.row p (h.row ∙ e)) in
      let f = ap (λ cs. sum_all u (take i cs)) h.letters in
      let g = w.sum in
      omega arith

  -- the position's own count
  pub toward_own : (n : ℕ) → r ≡ p → Within i (count_in d.runs p) → RunUnits u d r 0 i None → ⊥
  toward_own n e c x = x (omega arith, subst (λ t. Within i (count_in d.runs t)) (sym e) c)

  pub toward_last : (v : ℕ) → r ≡ p → v ≡ sum_all u (take i (characters_in d.runs r)) → acc + v < 18446744073709551616
  toward_last v e x =
      let a = all_small u few (take i (characters_in d.runs r)) (every_take Character (characters_in d.runs r) i (run_characters d.runs r s.runs)) in
      let t = take_few i (characters_in d.runs r) in
      let h = at_run in
      let l = ap length h.letters in
      let k = h.sound.few in
      let b = w.room in
      let f = s.few in
      let z = ap length h.at in
      omega arith
    where
      take_few : (n : ℕ) (cs : List (List ℕ)) → length (take n cs) ≤ length cs
      take_few zero cs = omega arith
      take_few (suc n) [] = omega arith
      take_few (suc n) (c ∷ cs) = let h = take_few n cs in omega arith

-- the sum is the index
pub index_is : (u : ℕ → ℕ) (d : Document) → Sound d → (p : Position) → Lawful d p → before u d.runs p.row.0 p.index ≡ index_at u d (offset d p)
index_is u d s p l =
    sym (measured_all u (take (offset d p) (characters_of d.runs)) (every_take Character (characters_of d.runs) (offset d p) (text_characters d.runs s.runs))
    ∙ before_text u d.runs p.row.0 p.index l.1)
