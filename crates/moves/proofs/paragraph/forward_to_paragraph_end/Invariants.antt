use Rattle.std.proofs.Common.{◌-◌}
use Rattle.position.specs.declared.position.Position.{Position}
use Rattle.position.specs.Places.{Lawful, offset, total}
use Rattle.starts.specs.Starts.{ends_paragraph}
use Rattle.moves.specs.Lines.{EndsLine}
use Rattle.moves.specs.Repeats.{Repeats}
use Rattle.moves.proofs.paragraph.forward_to_paragraph_end.Given as goal

abbrev pub invariant-loop-current : goal.invariant-loop-current
invariant-loop-current g l =
    let d = g.S.Source.doc l.s in
    ((q : Position) → Repeats (EndsLine d) (ends_paragraph d) l.current q → Repeats (EndsLine d) (ends_paragraph d) l.initial.current q)
    × (Lawful d l.initial.current → Lawful d l.current) × (Lawful d l.current → Lawful d l.initial.current)

abbrev pub decreases-loop-current : goal.decreases-loop-current
decreases-loop-current g l = let d = g.S.Source.doc l.s in total d - offset d l.current
