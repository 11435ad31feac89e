-- How the text of a range is walked, from its start's run on to its end's.
use Rattle.std.specs.Prelude.{◌≡◌, ℕ, ◌-◌, ◌<◌, ◌≤◌, cond, List, ◌++◌, length, Some, None, Ok, Err, Option, Result, ◌==◌}
use Rattle.std.specs.Borrow.{Bor}
use Rattle.rows.specs.declared.refusal.Refusal.{Refusal}
use Rattle.rows.specs.declared.refusal.Refusal.TheVariants.{Needed}
use Rattle.source.specs.Runs.{Document, count_in}
use Rattle.std.specs.Coded.{×_prop, le_prop}
use mathlib.Core.HLevel.{⊥_prop}
use Rattle.std.proofs.Props.{props}
use Rattle.source.specs.Pieces.{bytes_of, Stripped, Within}
use Rattle.position.specs.declared.position.Position.{Position}
use Rattle.position.specs.Places.{Lawful, offset_in, offset, total, size_of}
use Rattle.range.specs.declared.range.Range.{Range}
use Rattle.range.specs.Texts.{between, text_of, bytes_in}

-- A range that is walked from run to run: its start's run is its end's, or stands before it.
pub record Walked (d : Document) (t : Range) : Type 0 where
  pub start : Lawful d t.start
  pub end : Lawful d t.end
  pub rows : offset_in d.runs t.start.row.0 0 ≤ offset_in d.runs t.end.row.0 0
  pub ordered : offset d t.start ≤ offset d t.end

-- A range to walk in the place of another, with the same text.
abbrev pub Same : Document → Range → Range → Type 0
Same d t w = Walked d w × (text_of d w ≡ text_of d t)

-- The index behind the last of the range's characters that stand in its start's run.
abbrev pub behind_in : Document → Range → ℕ
behind_in d t = cond (t.start.row.0 == t.end.row.0) t.end.index (size_of (count_in d.runs t.start.row.0))

-- Those characters.
abbrev pub front : Document → Range → List (List ℕ)
front d t = between d (offset d t.start) (offset_in d.runs t.start.row.0 (behind_in d t))

-- The bytes of those characters, or the strip that is needed.
abbrev pub Heads : Document → Range → List ℕ → Result (Bor (List ℕ)) Refusal → Type 0
Heads d t strip (Ok b) = Stripped d strip × (b.now ≡ bytes_of (front d t))
Heads d t strip (Err e) = (Stripped d strip → ⊥) × (e ≡ Needed 765)

-- The places from the range's first run on, which grow fewer from run to run.
abbrev pub ahead : Document → Range → ℕ
ahead d t = total d - offset_in d.runs t.start.row.0 0

-- The rest of the range behind its first run, if it goes on there.
abbrev pub Tails : Document → Range → Option Range → Type 0
Tails d t None = text_of d t ≡ front d t
Tails d t (Some k) = Walked d k × (text_of d t ≡ front d t ++ text_of d k) × (ahead d k < ahead d t)

-- How many bytes the range's characters have, or the strip that is needed.
abbrev pub Needs : Document → Range → List ℕ → Result ℕ Refusal → Type 0
Needs d t strip (Ok n) = Stripped d strip × (n ≡ length (bytes_in d t))
Needs d t strip (Err e) = (Stripped d strip → ⊥) × (e ≡ Needed 765)

-- That a range is walked is shown in one way at most.
within_prop : (i : ℕ) (o : Option ℕ) → IsProp (Within i o)
within_prop i None = ⊥_prop
within_prop i (Some n) = le_prop

lawful_prop : (d : Document) (p : Position) → IsProp (Lawful d p)
lawful_prop d p = ×_prop (Prim.hlevel props) (within_prop p.index (count_in d.runs p.row.0))

pub walked_prop : (d : Document) (t : Range) → IsProp (Walked d t)
walked_prop d t a b = λ i. record {
  start = lawful_prop d t.start a.start b.start i;
  end = lawful_prop d t.end a.end b.end i;
  rows = le_prop a.rows b.rows i;
  ordered = le_prop a.ordered b.ordered i;
}
