-- One run's piece: the bytes of some of its characters.
use Rattle.std.specs.Prelude.{◌≡◌, ℕ, zero, suc, ◌-◌, ◌≤◌, true, List, [], ◌∷◌, take, drop, Some, None, Ok, Err, Option, Result}
use Rattle.std.specs.Borrow.{Bor}
use Rattle.std.specs.List.{flat_map}
use Rattle.rows.specs.declared.refusal.Refusal.{Refusal}
use Rattle.rows.specs.declared.refusal.Refusal.TheVariants.{BadTables, BadRow, BadRoot, BadRun, BadWords, BadLine, AtEnd, AtStart, Misplaced, Beyond, Needed}
use Rattle.source.specs.Runs.{Run, Document, bullet, count_in, characters_in}

-- The bytes of characters, one behind the other.
abbrev pub bytes_of : List (List ℕ) → List ℕ
bytes_of cs = flat_map (λ c. c) cs

-- So many bullets.
abbrev pub bullets : ℕ → List (List ℕ)
bullets zero = []
bullets (suc n) = bullet ∷ bullets n

-- The caller's strip: 255 bullets, which are 765 bytes.
unfoldable pub full_strip : List ℕ
full_strip = bytes_of (bullets 255)

-- An index is within a count, where there is one.
abbrev pub Within : ℕ → Option ℕ → Type 0
Within i None = ⊥
Within i (Some n) = i ≤ n

-- A piece may be asked for where the row is a run here and the indexes are its own, in order.
abbrev pub Asked : Document → ℕ → ℕ → ℕ → Type 0
Asked d r i j = (i ≤ j) × Within j (count_in d.runs r)

-- The strip does for the source: it is needed only when masked.
abbrev pub Stripped : Document → List ℕ → Type 0
Stripped d strip = d.masked ≡ true → strip ≡ full_strip

-- The bytes of the characters from i up to j.
abbrev pub piece_in : List Run → ℕ → ℕ → ℕ → List ℕ
piece_in xs r i j = bytes_of (take (j - i) (drop i (characters_in xs r)))

-- Why there is no piece: first the row and the indexes are looked at, then the strip.
abbrev pub NoPiece : Document → ℕ → ℕ → ℕ → List ℕ → Refusal → Type 0
NoPiece d r i j strip BadTables = ⊥
NoPiece d r i j strip (BadRow q) = ⊥
NoPiece d r i j strip (BadRoot q) = ⊥
NoPiece d r i j strip (BadRun q) = ⊥
NoPiece d r i j strip (BadWords q) = ⊥
NoPiece d r i j strip (BadLine q) = ⊥
NoPiece d r i j strip AtEnd = ⊥
NoPiece d r i j strip AtStart = ⊥
NoPiece d r i j strip Misplaced = Asked d r i j → ⊥
NoPiece d r i j strip Beyond = ⊥
NoPiece d r i j strip (Needed n) = Asked d r i j × (Stripped d strip → ⊥) × (n ≡ 765)

-- What a call for one run's piece answers.
abbrev pub Pieces : Document → ℕ → ℕ → ℕ → List ℕ → Result (Bor (List ℕ)) Refusal → Type 0
Pieces d r i j strip (Ok b) = Asked d r i j × Stripped d strip × (b.now ≡ piece_in d.runs r i j)
Pieces d r i j strip (Err e) = NoPiece d r i j strip e
