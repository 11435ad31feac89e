use Rattle.std.proofs.Common.{◌≡◌, ◌+◌, length}
use Rattle.range.specs.Texts.{bytes_in}
use Rattle.range.specs.Walks.{ahead}
use Rattle.range.proofs.text.Walk.needed.Given as goal

abbrev pub invariant-loop-sum : goal.invariant-loop-sum
invariant-loop-sum g l =
    (l.rest.source ≡ l.initial.rest.source)
    × (l.rest.strip ≡ l.initial.rest.strip)
    × (l.sum + length (bytes_in (g.S.Source.doc l.rest.source.now) l.rest.range) ≡ length (bytes_in (g.S.Source.doc l.initial.rest.source.now) l.initial.rest.range))

abbrev pub decreases-loop-sum : goal.decreases-loop-sum
decreases-loop-sum g l = ahead (g.S.Source.doc l.rest.source.now) l.rest.range
