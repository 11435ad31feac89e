use Rattle.std.proofs.Common.{◌≡◌, ◌+◌, ◌-◌, ◌*◌, ◌≤◌, length, drop}
use Rattle.unicode_text.specs.Table.{WellFormed}
use Rattle.unicode_text.specs.Scalars.{scalars}
use Rattle.unicode_text.specs.Measures.{total}
use Rattle.unicode_text.proofs.measure.measure_text.Given as goal

-- what is left adds up with the sum so far, and is well-formed as the whole text is
abbrev pub invariant-loop-at : goal.invariant-loop-at
invariant-loop-at g l =
    (l.sum ≤ 4 * l.at) × (l.at ≤ length l.text)
    × (l.sum + total g.M.Measure.units (scalars (drop l.at l.text)) ≡ total g.M.Measure.units (scalars l.text))
    × (WellFormed l.text → WellFormed (drop l.at l.text))
    × (WellFormed (drop l.at l.text) → WellFormed l.text)

abbrev pub decreases-loop-at : goal.decreases-loop-at
decreases-loop-at g l = length l.text - l.at
