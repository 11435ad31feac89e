-- Global indexes: what the text before a place measures, for any number given to each scalar.
use Rattle.std.specs.Prelude.{◌≡◌, ℕ, ◌+◌, ◌-◌, ◌<◌, ◌≤◌, ◌⊎◌, List, length, take, drop, Some, None, Ok, Err, Option, Result}
use Rattle.unicode_text.specs.Scalars.{scalars}
use Rattle.unicode_text.specs.Measures.{total as sum_of}
use Rattle.rows.specs.declared.refusal.Refusal.{Refusal}
use Rattle.rows.specs.declared.refusal.Refusal.TheVariants.{Beyond}
use Rattle.source.specs.Runs.{Document, characters_in}
use Rattle.source.specs.Pieces.{bytes_of, Asked}
use Rattle.position.specs.declared.position.Position.{Position}
use Rattle.position.specs.Places.{characters_of, total, place}

-- What some characters measure: the sum over the scalars of their bytes.
abbrev pub measured : (ℕ → ℕ) → List (List ℕ) → ℕ
measured u cs = sum_of u (scalars (bytes_of cs))

-- The global index of a place: what the text before it measures.
abbrev pub index_at : (ℕ → ℕ) → Document → ℕ → ℕ
index_at u d k = measured u (take k (characters_of d.runs))

-- What a run's characters from i up to j measure; nothing where they may not be asked for.
abbrev pub RunUnits : (ℕ → ℕ) → Document → ℕ → ℕ → ℕ → Option ℕ → Type 0
RunUnits u d r i j (Some n) = Asked d r i j × (n ≡ measured u (take (j - i) (drop i (characters_in d.runs r))))
RunUnits u d r i j None = Asked d r i j → ⊥

-- The character of some that holds the unit; none where they measure no more than it.
abbrev pub HeldIn : (ℕ → ℕ) → List (List ℕ) → ℕ → Option ℕ → Type 0
HeldIn u cs i (Some k) = (k < length cs) × (measured u (take k cs) ≤ i) × (i < measured u (take (k + 1) cs))
HeldIn u cs i None = measured u cs ≤ i

-- The place of the character that holds the unit; the text's measure gives the end place.
pub record Holds (u : ℕ → ℕ) (d : Document) (i : ℕ) (p : Position) : Type 0 where
  pub at : ℕ
  pub lands : p ≡ place d at
  pub holds : ((at < total d) × (index_at u d at ≤ i) × (i < index_at u d (at + 1))) ⊎ ((at ≡ total d) × (i ≡ index_at u d (total d)))

-- The position of a global index; none above the text's measure.
abbrev pub Finds : (ℕ → ℕ) → Document → ℕ → Result Position Refusal → Type 0
Finds u d i (Ok p) = Holds u d i p
Finds u d i (Err e) = (e ≡ Beyond) × (index_at u d (total d) < i)
