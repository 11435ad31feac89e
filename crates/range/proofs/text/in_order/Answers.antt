use Rattle.std.proofs.Common.{refl, subst}
use Rattle.position.specs.Places.{offset}
use Rattle.position.specs.Orders.{Compares}
use Rattle.range.proofs.Walks.{walk_text}
use Rattle.range.proofs.text.in_order.Goals as goal

pub returns-in-Less : goal.returns-in-Less
returns-in-Less g c =
    let s = c.args.s.now in
    let d = g.S.Source.doc s in
    let t = c.args.t in
    let a = c.in_ok-compare.ensures in
    (a.0, (walk_text d t (g.S.Source.sound s) a.0.0 a.0.1 (subst (Compares (offset d t.start) (offset d t.end)) c.in-Less.is a.1.1), refl))
