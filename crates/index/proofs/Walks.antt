-- A walk by `next` goes through the list: what it has before it is a suffix.
use Rattle.std.proofs.Common.{◌≡◌, ℕ, ◌<◌, cond, eqb, List, [], ◌∷◌, length, Some, None, sym, refl, ap, ◌∙◌, subst, ⊎_elim, arith}
use Rattle.std.proofs.lemmas.Bool.{eqb-true, eq-eqb, ne_eqb, cases_Bool, cond_both, cond-true, cond-false}
use Rattle.rows.specs.declared.node.NodeId.{NodeId}
use Rattle.source.specs.Runs.{Run, SoundRun, Every, count, row_id, Lacks, Listed, count_in, head_row, next_in, first_row, characters_in, joined_in}
use Rattle.source.specs.Pieces.{Within}
use Rattle.starts.specs.Starts.{yes, joins}
use Rattle.position.proofs.Options.{some_same, not_none, row_same}
use Rattle.position.proofs.Places.{count_here, count_later}

-- the runs from this row on: what a walk by `next` has before it
abbrev pub suffix : List Run → ℕ → List Run
suffix [] r = []
suffix (x ∷ xs) r = cond (eqb x.row r) (x ∷ xs) (suffix xs r)

abbrev pub tail_of : List Run → List Run
tail_of [] = []
tail_of (x ∷ xs) = xs

suffix_here : (x : Run) (xs : List Run) → suffix (x ∷ xs) x.row ≡ x ∷ xs
suffix_here x xs = cond-true (eqb x.row x.row) (x ∷ xs) (suffix xs x.row) (eq-eqb x.row x.row refl)

suffix_later : (x : Run) (xs : List Run) (r : ℕ) → (x.row ≡ r → ⊥) → suffix (x ∷ xs) r ≡ suffix xs r
suffix_later x xs r n = cond-false (eqb x.row r) (x ∷ xs) (suffix xs r) (ne_eqb x.row r n)

pub suffix_first : (xs : List Run) → suffix xs (first_row xs) ≡ xs
suffix_first [] = refl
suffix_first (x ∷ xs) = suffix_here x xs

pub first_within : (xs : List Run) → Listed xs → Within 0 (count_in xs (first_row xs))
first_within [] h = h
first_within (x ∷ xs) h = subst (Within 0) (sym (count_here x xs)) (omega arith)

-- the run that the walk is at
pub record Here (xs : List Run) (r : ℕ) : Type 0 where
  pub here : Run
  pub rest : List Run
  pub row : here.row ≡ r
  pub counted : count_in xs r ≡ Some (count here)
  pub letters : characters_in xs r ≡ here.characters
  pub joined : joins xs r ≡ here.joined
  pub sound : SoundRun here
  pub at : suffix xs r ≡ here ∷ rest

pub here_of : (xs : List Run) (r i : ℕ) → Every SoundRun xs → Within i (count_in xs r) → Here xs r
here_of [] r i s w = absurd w
here_of (x ∷ xs) r i s w =
    ⊎_elim
    (λ q. record {
      here = x;
      rest = xs;
      row = eqb-true x.row r q;
      counted = cond-true (eqb x.row r) (Some (count x)) (count_in xs r) q;
      letters = cond-true (eqb x.row r) x.characters (characters_in xs r) q;
      joined = ap yes (cond-true (eqb x.row r) (Some x.joined) (joined_in xs r) q);
      sound = s.0;
      at = cond-true (eqb x.row r) (x ∷ xs) (suffix xs r) q;
    })
    (λ q.
    let h = here_of xs r i s.1 (subst (Within i) (cond-false (eqb x.row r) (Some (count x)) (count_in xs r) q) w) in
    record {
      here = h.here;
      rest = h.rest;
      row = h.row;
      counted = cond-false (eqb x.row r) (Some (count x)) (count_in xs r) q ∙ h.counted;
      letters = cond-false (eqb x.row r) x.characters (characters_in xs r) q ∙ h.letters;
      joined = ap yes (cond-false (eqb x.row r) (Some x.joined) (joined_in xs r) q) ∙ h.joined;
      sound = h.sound;
      at = cond-false (eqb x.row r) (x ∷ xs) (suffix xs r) q ∙ h.at;
    })
    (cases_Bool (eqb x.row r))

-- the next row is not one that an earlier run has
next_there : (xs : List Run) (r : ℕ) (s : NodeId) (t : ℕ) → Lacks t xs → Some s ≡ next_in xs r → t ≡ s.0 → ⊥
next_there [] r s t l c e = not_none s c
next_there (x ∷ []) r s t l c e = not_none s (c ∙ cond_both (eqb x.row r) None None (λ o. o ≡ None) (λ q. refl) (λ q. refl))
next_there (x ∷ y ∷ ys) r s t l c e =
    ⊎_elim
    (λ q. l.1.0 (sym (row_same s y.row (c ∙ cond-true (eqb x.row r) (Some (row_id y.row)) (next_in (y ∷ ys) r) q)) ∙ sym e))
    (λ q. next_there (y ∷ ys) r s t l.1 (c ∙ cond-false (eqb x.row r) (Some (row_id y.row)) (next_in (y ∷ ys) r) q) e)
    (cases_Bool (eqb x.row r))

then_tail : (xs : List Run) (r : ℕ) (t : NodeId) → Listed xs → Some t ≡ next_in xs r → suffix xs t.0 ≡ tail_of (suffix xs r)
then_tail [] r t h e = absurd h
then_tail (x ∷ []) r t h e = absurd (not_none t (e ∙ cond_both (eqb x.row r) None None (λ o. o ≡ None) (λ q. refl) (λ q. refl)))
then_tail (x ∷ y ∷ ys) r t h e =
    ⊎_elim
    (λ q.
    let m = row_same t y.row (e ∙ cond-true (eqb x.row r) (Some (row_id y.row)) (next_in (y ∷ ys) r) q) in
    suffix_later x (y ∷ ys) t.0 (λ z. h.1.0 (sym m ∙ sym z)) ∙ ap (suffix (y ∷ ys)) m ∙ suffix_here y ys
    ∙ sym (ap tail_of (cond-true (eqb x.row r) (x ∷ y ∷ ys) (suffix (y ∷ ys) r) q)))
    (λ q.
    let e' = e ∙ cond-false (eqb x.row r) (Some (row_id y.row)) (next_in (y ∷ ys) r) q in
    suffix_later x (y ∷ ys) t.0 (next_there (y ∷ ys) r t x.row h.1 e') ∙ then_tail (y ∷ ys) r t h.2 e'
    ∙ sym (ap tail_of (cond-false (eqb x.row r) (x ∷ y ∷ ys) (suffix (y ∷ ys) r) q)))
    (cases_Bool (eqb x.row r))

last_tail : (xs : List Run) (r : ℕ) → None ≡ next_in xs r → tail_of (suffix xs r) ≡ []
last_tail [] r e = refl
last_tail (x ∷ xs) r e =
    ⊎_elim
    (λ q. ap tail_of (cond-true (eqb x.row r) (x ∷ xs) (suffix xs r) q) ∙ alone xs (e ∙ cond-true (eqb x.row r) (head_row xs) (next_in xs r) q))
    (λ q. ap tail_of (cond-false (eqb x.row r) (x ∷ xs) (suffix xs r) q) ∙ last_tail xs r (e ∙ cond-false (eqb x.row r) (head_row xs) (next_in xs r) q))
    (cases_Bool (eqb x.row r))
  where
    alone : (l : List Run) → None ≡ head_row l → l ≡ []
    alone [] e = refl
    alone (y ∷ ys) e = absurd (not_none (row_id y.row) (sym e))

module _ (xs : List Run) (r : ℕ) (h : Here xs r) where
  -- what the walk has before it at the next run, and behind the last
  pub then_at : (t : NodeId) → Listed xs → Some t ≡ next_in xs r → suffix xs t.0 ≡ h.rest
  then_at t l e = then_tail xs r t l e ∙ ap tail_of h.at

  pub last_at : None ≡ next_in xs r → suffix xs r ≡ h.here ∷ []
  last_at e = h.at ∙ ap (λ l. h.here ∷ l) (sym (ap tail_of h.at) ∙ last_tail xs r e)

  -- the walk's number falls
  pub falls : (t : NodeId) → Listed xs → Some t ≡ next_in xs r → length (suffix xs t.0) < length (suffix xs r)
  falls t l e = let a = ap length h.at in let b = ap length (then_at t l e) in omega arith

  pub size_of : (n : ℕ) → Some n ≡ count_in xs r → n ≡ count h.here
  size_of n c = some_same n (count h.here) (c ∙ h.counted)

-- a run that stands in what is before the walk, and is not the one that the walk is at
no_head : (xs : List Run) (p i : ℕ) → Within i (count_in xs p) → None ≡ head_row xs → ⊥
no_head [] p i w e = w
no_head (x ∷ xs) p i w e = not_none (row_id x.row) (sym e)

pub ahead_here : (xs : List Run) (r p i : ℕ) → Within i (count_in (suffix xs r) p) → Within 0 (count_in xs r)
ahead_here [] r p i w = w
ahead_here (x ∷ xs) r p i w =
    ⊎_elim
    (λ q. subst (Within 0) (sym (cond-true (eqb x.row r) (Some (count x)) (count_in xs r) q)) (omega arith))
    (λ q.
    subst (Within 0) (sym (cond-false (eqb x.row r) (Some (count x)) (count_in xs r) q))
    (ahead_here xs r p i (subst (λ l. Within i (count_in l p)) (cond-false (eqb x.row r) (x ∷ xs) (suffix xs r) q) w)))
    (cases_Bool (eqb x.row r))

pub ahead_next : (xs : List Run) (r p i : ℕ) → (r ≡ p → ⊥) → Within i (count_in (suffix xs r) p) → None ≡ next_in xs r → ⊥
ahead_next [] r p i n w e = w
ahead_next (x ∷ xs) r p i n w e =
    ⊎_elim
    (λ q.
    let v = subst (λ l. Within i (count_in l p)) (cond-true (eqb x.row r) (x ∷ xs) (suffix xs r) q) w in
    no_head xs p i (subst (Within i) (count_later x xs p (λ z. n (sym (eqb-true x.row r q) ∙ z))) v)
    (e ∙ cond-true (eqb x.row r) (head_row xs) (next_in xs r) q))
    (λ q.
    ahead_next xs r p i n (subst (λ l. Within i (count_in l p)) (cond-false (eqb x.row r) (x ∷ xs) (suffix xs r) q) w)
    (e ∙ cond-false (eqb x.row r) (head_row xs) (next_in xs r) q))
    (cases_Bool (eqb x.row r))
