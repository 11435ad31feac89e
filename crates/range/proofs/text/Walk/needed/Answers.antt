use Rattle.std.proofs.Common.{◌+◌, ◌<◌, length, ap, arith}
use Rattle.position.specs.Places.{offset}
use Rattle.range.proofs.Characters.{between_few}
use Rattle.range.proofs.Walks.{front_short}
use Rattle.range.proofs.text.Walk.needed.Goals as goal

pub overflow_add-sum : goal.overflow_add-sum
overflow_add-sum g c =
    let w = c.args.self in
    let d = g.S.Source.doc w.source.now in
    let rest = c.loop-sum.rest in
    let short = front_short (g.S.Source.doc rest.source.now) (g.S.Source.sound rest.source.now) rest.range rest.walked in
    let few = between_few d (offset d w.range.start) (offset d w.range.end) (g.S.Source.sound w.source.now) in
    let piece = ap length c.in_ok-sum.ensures.1 in
    let left = c.loop-sum.invariant.2 in
    let fits : c.loop-sum.sum + length c.in_ok-sum.field-0.now < 18446744073709551616 = omega (arith, short, few, piece, left) in
    record { fits = fits }
