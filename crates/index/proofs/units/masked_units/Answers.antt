use Rattle.std.proofs.Common.{◌-◌, ◌*◌, ◌<◌, ◌≤◌, ◌∙◌, arith}
use Rattle.index.proofs.Sums.{masked_units, count_small, product_small}
use Rattle.unicode_text.specs.Measures.{the_bullet}
use Rattle.index.proofs.units.masked_units.Goals as goal

pub overflow_mul-result : goal.overflow_mul-result
overflow_mul-result g c =
    let s = c.args.s.now in
    let v = c.BULLET.result in
    let k = count_small (g.S.Source.doc s).runs c.args.row.0 c.in_ok-n.n (g.S.Source.sound s).runs c.in_ok-n.ensures in
    let m = g.met.M.Measure.most the_bullet in
    let e = c.BULLET.ensures ∙ g.met.M.Measure.bullet in
    let w : v ≤ 4 = omega (arith, m, e) in
    let p = product_small (c.args.behind - c.args.first) v w in
    let t = c.if-behind-n.false in
    let z : (c.args.behind - c.args.first) * v < 18446744073709551616 = omega (arith, p, t, k) in
    record { fits = z }

pub returns : goal.returns
returns g c = λ e.
    let s = c.args.s.now in
    masked_units g.M.Measure.units (g.S.Source.doc s) c.args.row.0 c.args.first c.args.behind (g.S.Source.sound s) c.in_ok-n.n c.BULLET.result e (c.BULLET.ensures ∙ g.met.M.Measure.bullet) c.in_ok-n.ensures c.if-first-behind.false c.if-behind-n.false
