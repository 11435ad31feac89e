use Rattle.position.proofs.Orders.{compares}
use Rattle.position.proofs.order.compare.Goals as goal

pub returns : goal.returns
returns g c =
    let s = c.args.s.now in
    let x = c.in_ok-a.ensures in
    let y = c.in_ok-b.ensures in
    ((x.0, y.0), compares (g.S.Source.doc s) (g.S.Source.sound s) c.args.p c.args.q c.in_ok-a.a c.in_ok-b.b c.compare_biased.result x.0 y.0 x.1 y.1 c.compare_biased.ensures)
