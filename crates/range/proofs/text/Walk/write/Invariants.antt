use Rattle.std.proofs.Common.{◌≡◌}
use Rattle.range.specs.Texts.{bytes_in}
use Rattle.range.specs.Walks.{ahead}
use Rattle.range.proofs.Buffers.{Wrote}
use Rattle.range.proofs.text.Walk.write.Given as goal

abbrev pub invariant-loop-piece : goal.invariant-loop-piece
invariant-loop-piece g l =
    (l.rest.source ≡ l.initial.rest.source)
    × (l.rest.strip ≡ l.initial.rest.strip)
    × Wrote (bytes_in (g.S.Source.doc l.initial.rest.source.now) l.initial.rest.range) (bytes_in (g.S.Source.doc l.rest.source.now) l.rest.range) l.at l.initial.buffer l.buffer

abbrev pub decreases-loop-piece : goal.decreases-loop-piece
decreases-loop-piece g l = ahead (g.S.Source.doc l.rest.source.now) l.rest.range
