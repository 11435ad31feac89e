-- What the tables have of one run, as lent slices, and what it says of the run.
use Rattle.std.specs.Prelude.{◌≡◌, ℕ, ◌≤◌, false, List, [], length, sum, Some, None, Option}
use Rattle.source.specs.Runs.{Run, count_in, joined_in, breaks_in, characters_in, words_in}
use Rattle.page.specs.declared.part.Parts.{Parts}
use Rattle.page.specs.Texts.{cut, feeds}
use Rattle.page.specs.Sheets.{Sheet, text_at, lengths_at, words_at, run_at}

-- Those of a sheet's row.
pub record PartsAt (s : Sheet) (r : ℕ) (x : Parts) : Type 0 where
  pub text : x.text.now ≡ text_at s r
  pub lengths : x.lengths.now ≡ lengths_at s r
  pub words : x.words.now ≡ words_at s r
  pub joined : x.joined ≡ (run_at s r).joined

-- Those of a run without characters.
abbrev pub NoParts : Parts → Type 0
NoParts x = (x.text.now ≡ []) × (x.lengths.now ≡ []) × (x.words.now ≡ []) × (x.joined ≡ false)

-- Those of the run with this row: what they say of it, and that its characters are few and lie in its text.
pub record PartsIn (xs : List Run) (r : ℕ) (x : Parts) : Type 0 where
  pub count : Some (length x.lengths.now) ≡ count_in xs r
  pub joined : Some x.joined ≡ joined_in xs r
  pub breaks : Some (feeds x.text.now) ≡ breaks_in xs r
  pub characters : cut x.lengths.now x.text.now ≡ characters_in xs r
  pub words : x.words.now ≡ words_in xs r
  pub few : length x.lengths.now ≤ 255
  pub small : sum x.lengths.now ≤ 65025
  pub within : sum x.lengths.now ≤ length x.text.now

-- No run has this row.
pub record NoRun (xs : List Run) (r : ℕ) : Type 0 where
  pub count : None ≡ count_in xs r
  pub joined : None ≡ joined_in xs r
  pub breaks : None ≡ breaks_in xs r
  pub characters : [] ≡ characters_in xs r
  pub words : [] ≡ words_in xs r

-- The parts of the run with this row; nothing where the row is no run here.
abbrev pub PartsOf : List Run → ℕ → Option Parts → Type 0
PartsOf xs r None = NoRun xs r
PartsOf xs r (Some x) = PartsIn xs r x
