use Rattle.std.proofs.Common.{◌-◌}
use Rattle.position.specs.declared.position.Position.{Position}
use Rattle.position.specs.Places.{Lawful, offset_in, total}
use Rattle.moves.specs.Repeats.{Repeats, LineOn, end_or_start}
use Rattle.moves.proofs.paragraph.forward_to_paragraph_start.Given as goal

abbrev pub invariant-loop-current : goal.invariant-loop-current
invariant-loop-current g l =
    let d = g.S.Source.doc l.s in
    ((q : Position) → Repeats (LineOn d) (end_or_start d) l.current q → Repeats (LineOn d) (end_or_start d) l.initial.current q)
    × (Lawful d l.initial.current → Lawful d l.current) × (Lawful d l.current → Lawful d l.initial.current)

abbrev pub decreases-loop-current : goal.decreases-loop-current
decreases-loop-current g l = let d = g.S.Source.doc l.s in total d - offset_in d.runs l.current.row.0 0
