use Rattle.index.proofs.Searches.{held, held_more, held_none}
use Rattle.index.proofs.global.held_in.Goals as goal

pub returns-then-left-units : goal.returns-then-left-units
returns-then-left-units g c = λ e.
    let s = c.args.s.now in
    held g.M.Measure.units (g.S.Source.doc s) (g.S.Source.sound s) c.args.row.0 c.args.n c.args.index c.loop-at.at c.in_ok-units.units c.loop-at.left e c.loop-at-test.true c.loop-at.invariant c.in_ok-units.ensures c.if-left-units.true

pub loop-at-preserved : goal.loop-at-preserved
loop-at-preserved g c =
    let s = c.args.s.now in
    held_more g.M.Measure.units (g.S.Source.doc s) (g.S.Source.sound s) c.args.row.0 c.args.index c.loop-at.at c.in_ok-units.units c.loop-at.left c.loop-at.invariant c.in_ok-units.ensures c.if-left-units.false

pub returns : goal.returns
returns g c = λ e.
    let s = c.args.s.now in
    held_none g.M.Measure.units (g.S.Source.doc s) (g.S.Source.sound s) c.args.row.0 c.args.n c.args.index c.loop-at.at c.loop-at.left e c.loop-at-test.false c.loop-at.invariant
