-- What a source of runs means: a root row, whether it is masked, and its runs in document order.
use Rattle.std.specs.Prelude.{◌≡◌, ℕ, zero, suc, ◌<◌, ◌≤◌, Bool, true, false, cond, List, [], ◌∷◌, length, Some, None, Option, ◌==◌, ◌≢◌, nat_lt}
use Rattle.rows.specs.declared.node.NodeId.{NodeId}
use Rattle.unicode_text.specs.Table.{WellFormed}

-- A run: its row, its characters as strings of bytes, the characters at which words start, whether it
-- is joined on its line to the next run, and its break mark.
pub record Run : Type 0 where
  pub row : ℕ
  pub characters : List (List ℕ)
  pub words : List ℕ
  pub joined : Bool
  pub breaks : Bool

pub record Document : Type 0 where
  pub root : ℕ
  pub masked : Bool
  pub runs : List Run

-- The number of a run's characters.
abbrev pub count : Run → ℕ
count x = length x.characters

-- The bullet, U+2022, in UTF-8.
abbrev pub bullet : List ℕ
bullet = 0xE2 ∷ 0x80 ∷ 0xA2 ∷ []

-- P of every element.
abbrev pub Every : {A : Type 0} → (A → Type 0) → List A → Type 0
Every P [] = Unit {0}
Every P (x ∷ xs) = P x × Every P xs

-- A character has 1 to 255 bytes, and they are whole UTF-8 scalars.
pub record Character (c : List ℕ) : Type 0 where
  pub some : 0 < length c
  pub short : length c ≤ 255
  pub whole : WellFormed c

-- The numbers rise strictly, from low on and below n.
abbrev pub Rising : ℕ → ℕ → List ℕ → Type 0
Rising low n [] = Unit {0}
Rising low n (w ∷ ws) = (low ≤ w) × (w < n) × Rising (suc w) n ws

-- What each run must be: at most 255 characters, and word starts that rise strictly below their count.
pub record SoundRun (x : Run) : Type 0 where
  pub few : count x ≤ 255
  pub characters : Every Character x.characters
  pub words : Rising 0 (count x) x.words

-- No run of the list has this row.
abbrev pub Lacks : ℕ → List Run → Type 0
Lacks r [] = Unit {0}
Lacks r (x ∷ xs) = (x.row ≢ r) × Lacks r xs

-- There is a run, only the last may lack characters, no row stands twice, and the last run is joined to
-- none.
abbrev pub Listed : List Run → Type 0
Listed [] = ⊥
Listed (x ∷ []) = x.joined ≡ false
Listed (x ∷ y ∷ ys) = (0 < count x) × Lacks x.row (y ∷ ys) × Listed (y ∷ ys)

-- Every character of the run is the bullet.
abbrev pub Bulleted : Run → Type 0
Bulleted x = Every (λ c. c ≡ bullet) x.characters

-- All that a source must be.
pub record Sound (d : Document) : Type 0 where
  pub few : length d.runs ≤ 1024
  pub listed : Listed d.runs
  pub runs : Every SoundRun d.runs
  pub bulleted : d.masked ≡ true → Every Bulleted d.runs

-- The row number as the code has it.
abbrev pub row_id : ℕ → NodeId
row_id r = record { 0 = r }

abbrev pub first_row : List Run → ℕ
first_row [] = 0
first_row (x ∷ xs) = x.row

abbrev pub last_row : List Run → ℕ
last_row [] = 0
last_row (x ∷ []) = x.row
last_row (x ∷ y ∷ ys) = last_row (y ∷ ys)

-- What f says of the run with this row; nothing where the row is no run here.
abbrev pub asked : {B : Type 0} → (Run → B) → List Run → ℕ → Option B
asked f [] r = None
asked f (x ∷ xs) r = cond (x.row == r) (Some (f x)) (asked f xs r)

abbrev pub count_in : List Run → ℕ → Option ℕ
count_in xs r = asked count xs r

abbrev pub joined_in : List Run → ℕ → Option Bool
joined_in xs r = asked (λ x. x.joined) xs r

abbrev pub breaks_in : List Run → ℕ → Option Bool
breaks_in xs r = asked (λ x. x.breaks) xs r

-- The row of the first run of the list, if there is one.
abbrev pub head_row : List Run → Option NodeId
head_row [] = None
head_row (x ∷ xs) = Some (row_id x.row)

-- The row of the run behind this one.
abbrev pub next_in : List Run → ℕ → Option NodeId
next_in [] r = None
next_in (x ∷ xs) r = cond (x.row == r) (head_row xs) (next_in xs r)

-- The row of the run before this one.
abbrev pub previous_in : List Run → ℕ → Option NodeId
previous_in [] r = None
previous_in (x ∷ []) r = None
previous_in (x ∷ y ∷ ys) r = cond (y.row == r) (Some (row_id x.row)) (previous_in (y ∷ ys) r)

-- The characters of the run with this row, and its word starts; none where the row is no run here.
abbrev pub characters_in : List Run → ℕ → List (List ℕ)
characters_in [] r = []
characters_in (x ∷ xs) r = cond (x.row == r) x.characters (characters_in xs r)

abbrev pub words_in : List Run → ℕ → List ℕ
words_in [] r = []
words_in (x ∷ xs) r = cond (x.row == r) x.words (words_in xs r)

-- The first number of the list that is not below i.
abbrev pub first_from : ℕ → List ℕ → Option ℕ
first_from i [] = None
first_from i (w ∷ ws) = cond (nat_lt w i) (first_from i ws) (Some w)

-- The last number of the list that is below i.
abbrev pub or_lower : ℕ → ℕ → Option ℕ → Option ℕ
or_lower i w None = cond (nat_lt w i) (Some w) None
or_lower i w (Some v) = Some v

abbrev pub last_below : ℕ → List ℕ → Option ℕ
last_below i [] = None
last_below i (w ∷ ws) = or_lower i w (last_below i ws)

abbrev pub word_from : List Run → ℕ → ℕ → Option ℕ
word_from xs r i = first_from i (words_in xs r)

abbrev pub word_before : List Run → ℕ → ℕ → Option ℕ
word_before xs r i = last_below i (words_in xs r)

-- The length of the list's element at a place, if it has one there.
abbrev pub length_at : List (List ℕ) → ℕ → Option ℕ
length_at [] i = None
length_at (c ∷ cs) zero = Some (length c)
length_at (c ∷ cs) (suc i) = length_at cs i

-- The bytes of one character of a run.
abbrev pub length_in : List Run → ℕ → ℕ → Option ℕ
length_in xs r i = length_at (characters_in xs r) i

abbrev pub is_in : List Run → ℕ → Bool
is_in [] r = false
is_in (x ∷ xs) r = cond (x.row == r) true (is_in xs r)

-- The one's run stands in the list, and the other's behind it.
abbrev pub before_in : List Run → ℕ → ℕ → Bool
before_in [] r q = false
before_in (x ∷ xs) r q = cond (x.row == r) (is_in xs q) (before_in xs r q)
