-- Units that are given run by run: which indexes of a run are marked.
use Rattle.std.specs.Prelude.{◌≡◌, ℕ, ◌<◌, ◌≤◌, Bool, true, false, ◌||◌, Some, None, Option, ◌==◌, refl}
use Rattle.source.specs.Runs.{Document, count_in}
use Rattle.position.specs.declared.position.Position.{Position}
use Rattle.position.specs.Places.{at, place}
use Rattle.starts.specs.Starts.{starts_line, starts_paragraph, starts_word}
use Rattle.unit.specs.Stops.{Stops}

-- The first place, and each place whose position is marked.
abbrev pub stops_by : Document → (Position → Bool) → Stops
stops_by d f = record { stop = λ k. (k == 0) || f (place d k); first = refl }

-- The starts of lines.
abbrev pub lines : Document → Stops
lines d = stops_by d (starts_line d)

-- The starts of paragraphs.
abbrev pub paragraphs : Document → Stops
paragraphs d = stops_by d (starts_paragraph d)

-- The starts of words, and of paragraphs.
abbrev pub words : Document → Stops
words d = stops_by d (starts_word d)

-- The marks of one run, by index.
abbrev pub marks_of : Document → (Position → Bool) → ℕ → ℕ → Bool
marks_of d f row i = f (at d.root row i)

-- The first marked index from `from` on and below n.
abbrev pub First : (ℕ → Bool) → ℕ → ℕ → Option ℕ → Type 0
First f n from None = (k : ℕ) → from ≤ k → k < n → f k ≡ false
First f n from (Some i) = (from ≤ i) × (i < n) × (f i ≡ true) × ((k : ℕ) → from ≤ k → k < i → f k ≡ false)

-- The last marked index below `below`.
abbrev pub Last : (ℕ → Bool) → ℕ → Option ℕ → Type 0
Last f below None = (k : ℕ) → k < below → f k ≡ false
Last f below (Some i) = (i < below) × (f i ≡ true) × ((k : ℕ) → i < k → k < below → f k ≡ false)

-- A run's first marked index, where it is asked for from an index of one of the run's characters.
abbrev pub FirstIn : Document → (Position → Bool) → ℕ → ℕ → Option ℕ → Type 0
FirstIn d f row from r = (n : ℕ) → Some n ≡ count_in d.runs row → from < n → First (marks_of d f row) n from r

-- A run's last marked index, where it is asked for below an index of the run that is not its first.
abbrev pub LastIn : Document → (Position → Bool) → ℕ → ℕ → Option ℕ → Type 0
LastIn d f row below r = (n : ℕ) → Some n ≡ count_in d.runs row → 0 < below → below ≤ n → Last (marks_of d f row) below r
