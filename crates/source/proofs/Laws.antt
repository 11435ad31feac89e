-- Masking and unwording keep counts, rows, joins, marks and order; unwording keeps the characters and
-- masking the words.
use Rattle.std.proofs.Common.{◌≡◌, ℕ, Bool, true, cond, eqb, List, [], ◌∷◌, length, Some, sym, refl, ap, ◌∙◌, ⊎_elim}
use Rattle.std.proofs.lemmas.Bool.{cases_Bool, cond-true, cond-false}
use Rattle.source.specs.Runs.{Run, Document, count, row_id, first_row, last_row, asked, count_in, joined_in, breaks_in, head_row, next_in, previous_in, characters_in, words_in, is_in, before_in}
use Rattle.source.specs.Pieces.{bullets}
use Rattle.source.specs.declared.layered.Layer.{Layer}
use Rattle.source.specs.declared.layered.Layer.TheVariants.{Plain, Unworded, Masked}
use Rattle.source.specs.Layers.{each, masked_run, unworded_run, doc_through}
use Rattle.source.specs.Keeping.{bullets_length}

-- Two choices by one test are alike where what they choose from is.
cond_alike : {A : Type 0} (b : Bool) {x x' y y' : A} → x ≡ x' → y ≡ y' → cond b x y ≡ cond b x' y'
cond_alike b e f = λ i. cond b (e i) (f i)

-- Any change of runs that leaves each row where it was.
module _ (f : Run → Run) (named : (x : Run) → (f x).row ≡ x.row) where
  same_test : {A : Type 0} (x : Run) (r : ℕ) (a b : A) → cond (eqb (f x).row r) a b ≡ cond (eqb x.row r) a b
  same_test x r a b = ap (λ n. cond (eqb n r) a b) (named x)

  pub keeps_first : (xs : List Run) → first_row (each f xs) ≡ first_row xs
  keeps_first [] = refl
  keeps_first (x ∷ xs) = named x

  pub keeps_last : (xs : List Run) → last_row (each f xs) ≡ last_row xs
  keeps_last [] = refl
  keeps_last (x ∷ []) = named x
  keeps_last (x ∷ y ∷ ys) = keeps_last (y ∷ ys)

  pub keeps_asked : {B : Type 0} (g h : Run → B) → ((x : Run) → g (f x) ≡ h x) → (xs : List Run) (r : ℕ) → asked g (each f xs) r ≡ asked h xs r
  keeps_asked g h e [] r = refl
  keeps_asked g h e (x ∷ xs) r = same_test x r (Some (g (f x))) (asked g (each f xs) r) ∙ cond_alike (eqb x.row r) (ap Some (e x)) (keeps_asked g h e xs r)

  keeps_head : (xs : List Run) → head_row (each f xs) ≡ head_row xs
  keeps_head [] = refl
  keeps_head (x ∷ xs) = ap (λ n. Some (row_id n)) (named x)

  pub keeps_next : (xs : List Run) (r : ℕ) → next_in (each f xs) r ≡ next_in xs r
  keeps_next [] r = refl
  keeps_next (x ∷ xs) r = same_test x r (head_row (each f xs)) (next_in (each f xs) r) ∙ cond_alike (eqb x.row r) (keeps_head xs) (keeps_next xs r)

  pub keeps_previous : (xs : List Run) (r : ℕ) → previous_in (each f xs) r ≡ previous_in xs r
  keeps_previous [] r = refl
  keeps_previous (x ∷ []) r = refl
  keeps_previous (x ∷ y ∷ ys) r =
      same_test y r (Some (row_id (f x).row)) (previous_in (each f (y ∷ ys)) r)
      ∙ cond_alike (eqb y.row r) (ap (λ n. Some (row_id n)) (named x)) (keeps_previous (y ∷ ys) r)

  keeps_in : (xs : List Run) (r : ℕ) → is_in (each f xs) r ≡ is_in xs r
  keeps_in [] r = refl
  keeps_in (x ∷ xs) r = same_test x r true (is_in (each f xs) r) ∙ ap (λ b. cond (eqb x.row r) true b) (keeps_in xs r)

  pub keeps_before : (xs : List Run) (r q : ℕ) → before_in (each f xs) r q ≡ before_in xs r q
  keeps_before [] r q = refl
  keeps_before (x ∷ xs) r q = same_test x r (is_in (each f xs) q) (before_in (each f xs) r q) ∙ cond_alike (eqb x.row r) (keeps_in xs q) (keeps_before xs r q)

  pub keeps_characters : (g : List (List ℕ) → List (List ℕ)) → g [] ≡ [] → ((x : Run) → (f x).characters ≡ g x.characters) → (xs : List Run) (r : ℕ) → characters_in (each f xs) r ≡ g (characters_in xs r)
  keeps_characters g n e [] r = sym n
  keeps_characters g n e (x ∷ xs) r =
      same_test x r (f x).characters (characters_in (each f xs) r)
      ∙ cond_alike (eqb x.row r) (e x) (keeps_characters g n e xs r)
      ∙ ⊎_elim
      (λ q. cond-true (eqb x.row r) (g x.characters) (g (characters_in xs r)) q ∙ ap g (sym (cond-true (eqb x.row r) x.characters (characters_in xs r) q)))
      (λ q. cond-false (eqb x.row r) (g x.characters) (g (characters_in xs r)) q ∙ ap g (sym (cond-false (eqb x.row r) x.characters (characters_in xs r) q)))
      (cases_Bool (eqb x.row r))

  pub keeps_words : ((x : Run) → (f x).words ≡ x.words) → (xs : List Run) (r : ℕ) → words_in (each f xs) r ≡ words_in xs r
  keeps_words e [] r = refl
  keeps_words e (x ∷ xs) r = same_test x r (f x).words (words_in (each f xs) r) ∙ cond_alike (eqb x.row r) (e x) (keeps_words e xs r)

masked_named : (x : Run) → (masked_run x).row ≡ x.row
masked_named x = refl

unworded_named : (x : Run) → (unworded_run x).row ≡ x.row
unworded_named x = refl

pub masked_first : (xs : List Run) → first_row (each masked_run xs) ≡ first_row xs
masked_first = keeps_first masked_run masked_named

pub masked_last : (xs : List Run) → last_row (each masked_run xs) ≡ last_row xs
masked_last = keeps_last masked_run masked_named

pub masked_next : (xs : List Run) (r : ℕ) → next_in (each masked_run xs) r ≡ next_in xs r
masked_next = keeps_next masked_run masked_named

pub masked_previous : (xs : List Run) (r : ℕ) → previous_in (each masked_run xs) r ≡ previous_in xs r
masked_previous = keeps_previous masked_run masked_named

pub masked_count : (xs : List Run) (r : ℕ) → count_in (each masked_run xs) r ≡ count_in xs r
masked_count = keeps_asked masked_run masked_named count count (λ x. bullets_length (count x))

pub masked_joined : (xs : List Run) (r : ℕ) → joined_in (each masked_run xs) r ≡ joined_in xs r
masked_joined = keeps_asked masked_run masked_named (λ x. x.joined) (λ x. x.joined) (λ x. refl)

pub masked_breaks : (xs : List Run) (r : ℕ) → breaks_in (each masked_run xs) r ≡ breaks_in xs r
masked_breaks = keeps_asked masked_run masked_named (λ x. x.breaks) (λ x. x.breaks) (λ x. refl)

pub masked_before : (xs : List Run) (r q : ℕ) → before_in (each masked_run xs) r q ≡ before_in xs r q
masked_before = keeps_before masked_run masked_named

-- As many bullets as the run has characters.
pub masked_characters : (xs : List Run) (r : ℕ) → characters_in (each masked_run xs) r ≡ bullets (length (characters_in xs r))
masked_characters = keeps_characters masked_run masked_named (λ cs. bullets (length cs)) refl (λ x. refl)

pub masked_words : (xs : List Run) (r : ℕ) → words_in (each masked_run xs) r ≡ words_in xs r
masked_words = keeps_words masked_run masked_named (λ x. refl)

pub unworded_first : (xs : List Run) → first_row (each unworded_run xs) ≡ first_row xs
unworded_first = keeps_first unworded_run unworded_named

pub unworded_last : (xs : List Run) → last_row (each unworded_run xs) ≡ last_row xs
unworded_last = keeps_last unworded_run unworded_named

pub unworded_next : (xs : List Run) (r : ℕ) → next_in (each unworded_run xs) r ≡ next_in xs r
unworded_next = keeps_next unworded_run unworded_named

pub unworded_previous : (xs : List Run) (r : ℕ) → previous_in (each unworded_run xs) r ≡ previous_in xs r
unworded_previous = keeps_previous unworded_run unworded_named

pub unworded_count : (xs : List Run) (r : ℕ) → count_in (each unworded_run xs) r ≡ count_in xs r
unworded_count = keeps_asked unworded_run unworded_named count count (λ x. refl)

pub unworded_joined : (xs : List Run) (r : ℕ) → joined_in (each unworded_run xs) r ≡ joined_in xs r
unworded_joined = keeps_asked unworded_run unworded_named (λ x. x.joined) (λ x. x.joined) (λ x. refl)

pub unworded_breaks : (xs : List Run) (r : ℕ) → breaks_in (each unworded_run xs) r ≡ breaks_in xs r
unworded_breaks = keeps_asked unworded_run unworded_named (λ x. x.breaks) (λ x. x.breaks) (λ x. refl)

pub unworded_before : (xs : List Run) (r q : ℕ) → before_in (each unworded_run xs) r q ≡ before_in xs r q
unworded_before = keeps_before unworded_run unworded_named

pub unworded_characters : (xs : List Run) (r : ℕ) → characters_in (each unworded_run xs) r ≡ characters_in xs r
unworded_characters = keeps_characters unworded_run unworded_named (λ cs. cs) refl (λ x. refl)

-- No run has a word start.
pub unworded_words : (xs : List Run) (r : ℕ) → words_in (each unworded_run xs) r ≡ []
unworded_words [] r = refl
unworded_words (x ∷ xs) r =
    ap (λ ws. cond (eqb x.row r) [] ws) (unworded_words xs r)
    ∙ ⊎_elim (λ q. cond-true (eqb x.row r) [] [] q) (λ q. cond-false (eqb x.row r) [] [] q) (cases_Bool (eqb x.row r))

-- What masking and unwording both keep of the runs, a pile keeps, however much of it is read.
module _ {B : Type 0} (f : List Run → B) (masks : (xs : List Run) → f (each masked_run xs) ≡ f xs) (unwords : (xs : List Run) → f (each unworded_run xs) ≡ f xs) where
  piled : (l : Layer) (d : Document) → f (doc_through l d).runs ≡ f d.runs
  piled Plain d = refl
  piled Unworded d = unwords d.runs
  piled Masked d = masks (each unworded_run d.runs) ∙ unwords d.runs

pub layered_root : (l : Layer) (d : Document) → (doc_through l d).root ≡ d.root
layered_root Plain d = refl
layered_root Unworded d = refl
layered_root Masked d = refl

pub layered_first : (l : Layer) (d : Document) → first_row (doc_through l d).runs ≡ first_row d.runs
layered_first = piled first_row masked_first unworded_first

pub layered_last : (l : Layer) (d : Document) → last_row (doc_through l d).runs ≡ last_row d.runs
layered_last = piled last_row masked_last unworded_last

pub layered_next : (l : Layer) (d : Document) (r : ℕ) → next_in (doc_through l d).runs r ≡ next_in d.runs r
layered_next l d r = piled (λ xs. next_in xs r) (λ xs. masked_next xs r) (λ xs. unworded_next xs r) l d

pub layered_previous : (l : Layer) (d : Document) (r : ℕ) → previous_in (doc_through l d).runs r ≡ previous_in d.runs r
layered_previous l d r = piled (λ xs. previous_in xs r) (λ xs. masked_previous xs r) (λ xs. unworded_previous xs r) l d

pub layered_count : (l : Layer) (d : Document) (r : ℕ) → count_in (doc_through l d).runs r ≡ count_in d.runs r
layered_count l d r = piled (λ xs. count_in xs r) (λ xs. masked_count xs r) (λ xs. unworded_count xs r) l d

pub layered_joined : (l : Layer) (d : Document) (r : ℕ) → joined_in (doc_through l d).runs r ≡ joined_in d.runs r
layered_joined l d r = piled (λ xs. joined_in xs r) (λ xs. masked_joined xs r) (λ xs. unworded_joined xs r) l d

pub layered_breaks : (l : Layer) (d : Document) (r : ℕ) → breaks_in (doc_through l d).runs r ≡ breaks_in d.runs r
layered_breaks l d r = piled (λ xs. breaks_in xs r) (λ xs. masked_breaks xs r) (λ xs. unworded_breaks xs r) l d

pub layered_before : (l : Layer) (d : Document) (r q : ℕ) → before_in (doc_through l d).runs r q ≡ before_in d.runs r q
layered_before l d r q = piled (λ xs. before_in xs r q) (λ xs. masked_before xs r q) (λ xs. unworded_before xs r q) l d

-- What each layer's methods are proved by.
pub ruleset unworded = (unworded_first, unworded_last, unworded_next, unworded_previous, unworded_count, unworded_joined, unworded_breaks, unworded_before, unworded_characters, unworded_words)

pub ruleset masked = (masked_first, masked_last, masked_next, masked_previous, masked_count, masked_joined, masked_breaks, masked_before, masked_words)

pub ruleset layered = (layered_root, layered_first, layered_last, layered_next, layered_previous, layered_count, layered_joined, layered_breaks, layered_before)
