-- A run's parts of the tables: its text, cut into characters by its lengths, and its word starts.
--
use Rattle.std.specs.Prelude.{◌≡◌, ℕ, ◌+◌, ◌<◌, ◌≤◌, Bool, false, List, [], ◌∷◌, length, take, drop, ◌==◌}
use Rattle.rows.specs.declared.node.Part.{Part}
use Rattle.unicode_text.specs.Table.{WellFormed}
use Rattle.unicode_text.specs.Scalars.{Between}

-- A part of a table; of what lies past the table's end there is nothing.
abbrev pub part_of : Part → List ℕ → List ℕ
part_of p xs = take p.count (drop p.start xs)

-- A text cut into strings of these lengths.
abbrev pub cut : List ℕ → List ℕ → List (List ℕ)
cut [] bs = []
cut (n ∷ ns) bs = take n bs ∷ cut ns (drop n bs)

-- Each of the characters is this string.
abbrev pub AllAre : List ℕ → List (List ℕ) → Type 0
AllAre c [] = Unit {0}
AllAre c (k ∷ ks) = (k ≡ c) × AllAre c ks

-- Whether the last byte is a line feed, 0A.
abbrev pub feeds : List ℕ → Bool
feeds [] = false
feeds (b ∷ []) = b == 0x0A
feeds (b ∷ c ∷ bs) = feeds (c ∷ bs)

-- The characters from an offset on have 1 to 255 bytes and end between two scalars of the text, and
-- the last ends where the text does.
abbrev pub Ended : List ℕ → ℕ → List ℕ → Type 0
Ended bs at [] = at ≡ length bs
Ended bs at (n ∷ ns) = (0 < n) × (n ≤ 255) × Between bs (at + n) × Ended bs (at + n) ns

-- The lengths make characters of the text: at most 255, of a text that is well-formed UTF-8, each with
-- bytes, their lengths summing to the text's, and none ending inside a scalar.
pub record Fitting (bs ns : List ℕ) : Type 0 where
  pub few : length ns ≤ 255
  pub whole : WellFormed bs
  pub ended : Ended bs 0 ns
