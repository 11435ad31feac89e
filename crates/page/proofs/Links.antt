-- A list of rows and the list of their runs.
use Rattle.std.proofs.Common.{◌≡◌, ℕ, Bool, true, false, cond, eqb, List, [], ◌∷◌, ◌++◌, reverse, Some, None, Decides, Option, unwrap_or, sym, refl, ap, ◌∙◌, ⊎_elim, append_assoc, arith}
use Rattle.std.proofs.lemmas.Bool.{cond-true, cond-false, cases_Bool, eqb-true, eqb-false, false≢true}
use Rattle.std.proofs.lemmas.List.{reverse-append}
use Rattle.source.specs.Runs.{Run, row_id, head_row, next_in, previous_in, last_row, is_in, before_in}
use Rattle.source.specs.Layers.{each}
use Rattle.rows.specs.declared.node.NodeId.{NodeId}
use Rattle.tree.specs.Walk.{head, Follows, Precedes}
use Rattle.tree.specs.Order.{Ahead}
use Rattle.tree.proofs.Lists.{nowhere}
use Rattle.page.specs.Sheets.{Has}

-- the last of a list is the last of a longer one
head_more : (l : List ℕ) (y x : ℕ) → head ((l ++ y ∷ []) ++ x ∷ []) ≡ head (l ++ y ∷ [])
head_more [] y x = refl
head_more (z ∷ l) y x = refl

head_last : (x y : ℕ) (ys : List ℕ) → head (reverse (x ∷ y ∷ ys)) ≡ head (reverse (y ∷ ys))
head_last x y ys =
    let e : reverse (y ∷ ys) ≡ reverse ys ++ y ∷ [] = reverse-append (y ∷ []) ys in
    ap head (reverse-append (x ∷ []) (y ∷ ys))
    ∙ ap (λ l. head (l ++ x ∷ [])) e
    ∙ head_more (reverse ys) y x
    ∙ ap head (sym e)

-- A row or none, told apart by a number.
abbrev sized : Option NodeId → ℕ
sized None = 0
sized (Some r) = 1

head_some : (l : List ℕ) (y : ℕ) → sized (head (l ++ y ∷ [])) ≡ 1
head_some [] y = refl
head_some (z ∷ l) y = refl

last_some : (x : ℕ) (xs : List ℕ) → sized (head (reverse (x ∷ xs))) ≡ 1
last_some x xs = ap (λ l. sized (head l)) (reverse-append (x ∷ []) xs) ∙ head_some (reverse xs) x

module _ (f : ℕ → Run) (named : (r : ℕ) → (f r).row ≡ r) where
  here : (x r : ℕ) → eqb (f x).row r ≡ true → x ≡ r
  here x r q = sym (named x) ∙ eqb-true (f x).row r q

  behind : (x : ℕ) (xs : List ℕ) (r : ℕ) → eqb (f x).row r ≡ false → Has (x ∷ xs) r → Has xs r
  behind x xs r q ([], post, e) = let s : x ≡ r = cc in absurd (eqb-false (f x).row r q (named x ∙ s))
  behind x xs r q (b ∷ pre, post, e) = let t : xs ≡ pre ++ r ∷ post = cc in (pre, post, t)

  -- What is told of the run with a row, one way of telling for all.
  module _ {B : Type 0} (g : Run → B) (none : B) (told : List Run → ℕ → B) (nil : (r : ℕ) → told [] r ≡ none) (cons : (x : Run) (xs : List Run) (r : ℕ) → told (x ∷ xs) r ≡ cond (eqb x.row r) (g x) (told xs r)) where
    pub told_in : (xs : List ℕ) (r : ℕ) → Has xs r → g (f r) ≡ told (each f xs) r
    told_in [] r (pre, post, e) = nowhere pre r post e
    told_in (x ∷ xs) r h =
        ⊎_elim
        (λ q. ap (λ n. g (f n)) (sym (here x r q)) ∙ sym (cond-true (eqb (f x).row r) (g (f x)) (told (each f xs) r) q) ∙ sym (cons (f x) (each f xs) r))
        (λ q. told_in xs r (behind x xs r q h) ∙ sym (cond-false (eqb (f x).row r) (g (f x)) (told (each f xs) r) q) ∙ sym (cons (f x) (each f xs) r))
        (cases_Bool (eqb (f x).row r))

    pub told_out : (xs : List ℕ) (r : ℕ) → (Has xs r → ⊥) → none ≡ told (each f xs) r
    told_out [] r h = sym (nil r)
    told_out (x ∷ xs) r h =
        ⊎_elim
        (λ q. absurd (h ([], xs, ap (λ n. n ∷ xs) (here x r q))))
        (λ q. told_out xs r (λ t. h (x ∷ t.0, t.1, ap (λ l. x ∷ l) t.2)) ∙ sym (cond-false (eqb (f x).row r) (g (f x)) (told (each f xs) r) q) ∙ sym (cons (f x) (each f xs) r))
        (cases_Bool (eqb (f x).row r))

  pub head_row_lem : (xs : List ℕ) → head xs ≡ head_row (each f xs)
  head_row_lem [] = refl
  head_row_lem (x ∷ xs) = ap (λ m. Some (row_id m)) (sym (named x))

  next_from : (xs : List ℕ) (r : ℕ) (o : Option NodeId) → Has xs r → ((pre post : List ℕ) → xs ≡ pre ++ r ∷ post → o ≡ head post) → o ≡ next_in (each f xs) r
  next_from [] r o (pre, post, e) n = nowhere pre r post e
  next_from (x ∷ xs) r o h n =
      ⊎_elim
      (λ q. n [] xs (ap (λ z. z ∷ xs) (here x r q)) ∙ head_row_lem xs ∙ sym (cond-true (eqb (f x).row r) (head_row (each f xs)) (next_in (each f xs) r) q))
      (λ q. next_from xs r o (behind x xs r q h) (λ pre post e. n (x ∷ pre) post (ap (λ l. x ∷ l) e)) ∙ sym (cond-false (eqb (f x).row r) (head_row (each f xs)) (next_in (each f xs) r) q))
      (cases_Bool (eqb (f x).row r))

  -- what follows a row in the list of rows is what follows its run
  pub next_in_lem : (xs : List ℕ) (r : ℕ) (o : Option NodeId) → Follows xs r o → o ≡ next_in (each f xs) r
  next_in_lem xs r o h = next_from xs r o h.stands h.next

  pub next_out : (xs : List ℕ) (r : ℕ) → (Has xs r → ⊥) → None ≡ next_in (each f xs) r
  next_out [] r h = refl
  next_out (x ∷ xs) r h =
      ⊎_elim
      (λ q. absurd (h ([], xs, ap (λ n. n ∷ xs) (here x r q))))
      (λ q. next_out xs r (λ t. h (x ∷ t.0, t.1, ap (λ l. x ∷ l) t.2)) ∙ sym (cond-false (eqb (f x).row r) (head_row (each f xs)) (next_in (each f xs) r) q))
      (cases_Bool (eqb (f x).row r))

  prev_from : (x : ℕ) (xs : List ℕ) (r : ℕ) (o : Option NodeId) → Has xs r → ((pre post : List ℕ) → xs ≡ pre ++ r ∷ post → o ≡ head (reverse (x ∷ pre))) → o ≡ previous_in (each f (x ∷ xs)) r
  prev_from x [] r o (pre, post, e) n = nowhere pre r post e
  prev_from x (y ∷ ys) r o h n =
      ⊎_elim
      (λ q. n [] ys (ap (λ z. z ∷ ys) (here y r q)) ∙ ap (λ m. Some (row_id m)) (sym (named x)) ∙ sym (cond-true (eqb (f y).row r) (Some (row_id (f x).row)) (previous_in (each f (y ∷ ys)) r) q))
      (λ q. prev_from y ys r o (behind y ys r q h) (λ pre post e. n (y ∷ pre) post (ap (λ l. y ∷ l) e) ∙ head_last x y pre) ∙ sym (cond-false (eqb (f y).row r) (Some (row_id (f x).row)) (previous_in (each f (y ∷ ys)) r) q))
      (cases_Bool (eqb (f y).row r))

  prev_none : (x : ℕ) (xs : List ℕ) (r : ℕ) → (Has xs r → ⊥) → None ≡ previous_in (each f (x ∷ xs)) r
  prev_none x [] r h = refl
  prev_none x (y ∷ ys) r h =
      ⊎_elim
      (λ q. absurd (h ([], ys, ap (λ n. n ∷ ys) (here y r q))))
      (λ q. prev_none y ys r (λ t. h (y ∷ t.0, t.1, ap (λ l. y ∷ l) t.2)) ∙ sym (cond-false (eqb (f y).row r) (Some (row_id (f x).row)) (previous_in (each f (y ∷ ys)) r) q))
      (cases_Bool (eqb (f y).row r))

  pub prev_out : (xs : List ℕ) (r : ℕ) → (Has xs r → ⊥) → None ≡ previous_in (each f xs) r
  prev_out [] r h = refl
  prev_out (x ∷ xs) r h = prev_none x xs r (λ t. h (x ∷ t.0, t.1, ap (λ l. x ∷ l) t.2))

  -- what precedes a row in the list of rows is what precedes its run
  pub prev_in : (xs : List ℕ) (r : ℕ) (o : Option NodeId) → Precedes xs r o → o ≡ previous_in (each f xs) r
  prev_in [] r o h = nowhere h.stands.0 r h.stands.1 h.stands.2
  prev_in (x ∷ xs) r o h =
      ⊎_elim
      (λ q.
      let n = h.back [] xs (ap (λ z. z ∷ xs) (here x r q)) in
      n ∙ prev_none x xs r (λ t.
      let m = h.back (x ∷ t.0) t.1 (ap (λ l. x ∷ l) t.2) in
      omega (arith, sym (last_some x t.0) ∙ ap sized (sym m ∙ n))))
      (λ q. prev_from x xs r o (behind x xs r q h.stands) (λ pre post e. h.back (x ∷ pre) post (ap (λ l. x ∷ l) e)))
      (cases_Bool (eqb (f x).row r))

  pub last_in : (xs : List ℕ) → (unwrap_or (head (reverse xs)) (row_id 0)).0 ≡ last_row (each f xs)
  last_in [] = refl
  last_in (x ∷ []) = sym (named x)
  last_in (x ∷ y ∷ ys) = ap (λ o. (unwrap_or o (row_id 0)).0) (head_last x y ys) ∙ last_in (y ∷ ys)

  in_to : (xs : List ℕ) (q : ℕ) → Has xs q → is_in (each f xs) q ≡ true
  in_to [] q (pre, post, e) = nowhere pre q post e
  in_to (x ∷ xs) q h =
      ⊎_elim
      (λ t. cond-true (eqb (f x).row q) true (is_in (each f xs) q) t)
      (λ t. cond-false (eqb (f x).row q) true (is_in (each f xs) q) t ∙ in_to xs q (behind x xs q t h))
      (cases_Bool (eqb (f x).row q))

  in_from : (xs : List ℕ) (q : ℕ) → is_in (each f xs) q ≡ true → Has xs q
  in_from [] q e = absurd (false≢true e)
  in_from (x ∷ xs) q e =
      ⊎_elim
      (λ t. ([], xs, ap (λ z. z ∷ xs) (here x q t)))
      (λ t. let k = in_from xs q (sym (cond-false (eqb (f x).row q) true (is_in (each f xs) q) t) ∙ e) in (x ∷ k.0, k.1, ap (λ l. x ∷ l) k.2))
      (cases_Bool (eqb (f x).row q))

  has_behind : (x : ℕ) (xs : List ℕ) (r q : ℕ) → Ahead (x ∷ xs) r q → Has xs q
  has_behind x xs r q ([], mid, post, e) = let t : xs ≡ mid ++ q ∷ post = cc in (mid, post, t)
  has_behind x xs r q (b ∷ pre, mid, post, e) = let t : xs ≡ pre ++ r ∷ (mid ++ q ∷ post) = cc in (pre ++ r ∷ mid, post, t ∙ sym (append_assoc pre (r ∷ mid) (q ∷ post)))

  ahead_behind : (x : ℕ) (xs : List ℕ) (r q : ℕ) → eqb (f x).row r ≡ false → Ahead (x ∷ xs) r q → Ahead xs r q
  ahead_behind x xs r q t ([], mid, post, e) = let s : x ≡ r = cc in absurd (eqb-false (f x).row r t (named x ∙ s))
  ahead_behind x xs r q t (b ∷ pre, mid, post, e) = let s : xs ≡ pre ++ r ∷ (mid ++ q ∷ post) = cc in (pre, mid, post, s)

  before_to : (xs : List ℕ) (r q : ℕ) → Ahead xs r q → before_in (each f xs) r q ≡ true
  before_to [] r q (pre, mid, post, e) = nowhere pre r (mid ++ q ∷ post) e
  before_to (x ∷ xs) r q h =
      ⊎_elim
      (λ t. cond-true (eqb (f x).row r) (is_in (each f xs) q) (before_in (each f xs) r q) t ∙ in_to xs q (has_behind x xs r q h))
      (λ t. cond-false (eqb (f x).row r) (is_in (each f xs) q) (before_in (each f xs) r q) t ∙ before_to xs r q (ahead_behind x xs r q t h))
      (cases_Bool (eqb (f x).row r))

  pub before_from : (xs : List ℕ) (r q : ℕ) → before_in (each f xs) r q ≡ true → Ahead xs r q
  before_from [] r q e = absurd (false≢true e)
  before_from (x ∷ xs) r q e =
      ⊎_elim
      (λ t.
      let k = in_from xs q (sym (cond-true (eqb (f x).row r) (is_in (each f xs) q) (before_in (each f xs) r q) t) ∙ e) in
      let s = here x r t in
      let g = k.2 in
      ([], k.0, k.1, λ i. s i ∷ g i))
      (λ t.
      let k = before_from xs r q (sym (cond-false (eqb (f x).row r) (is_in (each f xs) q) (before_in (each f xs) r q) t) ∙ e) in
      (x ∷ k.0, k.1, k.2, ap (λ l. x ∷ l) k.3))
      (cases_Bool (eqb (f x).row r))

  -- what stands ahead in the list of rows stands ahead in the list of runs
  pub before_in_lem : (xs : List ℕ) (r q : ℕ) (b : Bool) → Decides b (Ahead xs r q) → b ≡ before_in (each f xs) r q
  before_in_lem xs r q b d =
      ⊎_elim
      (λ e. e ∙ sym (before_to xs r q (d.0 e)))
      (λ e. ⊎_elim
      (λ t. absurd (false≢true (sym e ∙ d.1 (before_from xs r q t))))
      (λ t. e ∙ sym t)
      (cases_Bool (before_in (each f xs) r q)))
      (cases_Bool b)

  pub before_out : (xs : List ℕ) (r q : ℕ) → (Ahead xs r q → ⊥) → false ≡ before_in (each f xs) r q
  before_out xs r q h =
      ⊎_elim
      (λ t. absurd (h (before_from xs r q t)))
      (λ t. sym t)
      (cases_Bool (before_in (each f xs) r q))
