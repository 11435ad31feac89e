-- Ranges, and where their ends go when one of them is set.
use Rattle.std.specs.Prelude.{◌≡◌, ◌<◌, ◌≤◌, Ok, Err, Result}
use Rattle.rows.specs.declared.refusal.Refusal.{Refusal}
use Rattle.rows.specs.declared.refusal.Refusal.TheVariants.{Misplaced}
use Rattle.source.specs.Runs.{Document}
use Rattle.position.specs.declared.position.Position.{Position}
use Rattle.position.specs.Places.{Lawful, offset, place}
use Rattle.range.specs.declared.range.Range.{Range}

-- The range from one position to another.
abbrev pub range : Position → Position → Range
range p q = record { start = p; end = q }

-- Both ends are positions of the document.
abbrev pub Both : Document → Range → Type 0
Both d t = Lawful d t.start × Lawful d t.end

-- The range between two positions, in the order of their places; equal ones stay as given.
abbrev pub InOrder : Document → Position → Position → Range → Type 0
InOrder d p q t = (offset d p ≤ offset d q → t ≡ range p q) × (offset d q < offset d p → t ≡ range q p)

-- The start goes to p: biased to start where text is left, else the end goes along.
abbrev pub StartMoved : Document → Position → Range → Range → Type 0
StartMoved d p s t = (offset d p < offset d s.end → t ≡ range (place d (offset d p)) s.end) × (offset d s.end ≤ offset d p → t ≡ range p p)

-- The end goes to p: the start is biased to start where there is text, else it goes along.
abbrev pub EndMoved : Document → Position → Range → Range → Type 0
EndMoved d p s t = (offset d s.start < offset d p → t ≡ range (place d (offset d s.start)) p) × (offset d p ≤ offset d s.start → t ≡ range p p)

-- A call that changes a range in place: refused, it leaves the range as it was.
abbrev pub Settles : {A : Type 0} → Type 0 → (Range → Type 0) → Range → Result A Refusal → Range → Type 0
Settles L B s (Ok v) t = L × B t
Settles L B s (Err e) t = (e ≡ Misplaced) × (L → ⊥) × (t ≡ s)
