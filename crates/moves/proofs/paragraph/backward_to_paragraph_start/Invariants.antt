use Rattle.position.specs.declared.position.Position.{Position}
use Rattle.position.specs.Places.{Lawful, offset}
use Rattle.starts.specs.Starts.{starts_paragraph}
use Rattle.moves.specs.Repeats.{Repeats, LineBack}
use Rattle.moves.proofs.paragraph.backward_to_paragraph_start.Given as goal

abbrev pub invariant-loop-current : goal.invariant-loop-current
invariant-loop-current g l =
    let d = g.S.Source.doc l.s in
    ((q : Position) → Repeats (LineBack d) (starts_paragraph d) l.current q → Repeats (LineBack d) (starts_paragraph d) l.initial.current q)
    × (Lawful d l.initial.current → Lawful d l.current) × (Lawful d l.current → Lawful d l.initial.current)

abbrev pub decreases-loop-current : goal.decreases-loop-current
decreases-loop-current g l = let d = g.S.Source.doc l.s in offset d l.current
