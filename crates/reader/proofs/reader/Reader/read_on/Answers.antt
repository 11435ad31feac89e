use Rattle.std.proofs.Common.{refl}
use Rattle.std.proofs.lemmas.Result.{err_from_is_err_and}
use Rattle.range.specs.Ranges.{range}
use Rattle.reader.proofs.Calls.{on_refused, on_read, on_turn}
use Rattle.reader.proofs.reader.Reader.read_on.Goals as goal

pub returns-in_err-end : goal.returns-in_err-end
returns-in_err-end g c =
    let s = c.args.self.now in
    let d = g.S.Source.doc s.source in
    let b = c.in_ok-start.ensures in
    let p = err_from_is_err_and c.from_residual-in_err-end.result c.from_residual-in_err-end.ensures.1 in
    rw (p.1, p.2)
    (record {
      kept = refl;
      step = (refl, refl, on_refused d (g.U.Unit.stops c.args.unit.now d) s.range c.in_ok-start.start (g.S.Source.sound s.source) c.args.strip.now c.args.buffer.now b.0 b.1.0 c.in_err-end.field-0.0 c.in_err-end.ensures);
    })

pub returns : goal.returns
returns g c =
    let s = c.args.self.now in
    let d = g.S.Source.doc s.source in
    let b = c.in_ok-start.ensures in
    let o = on_read d (g.U.Unit.stops c.args.unit.now d) s.range c.in_ok-start.start (g.S.Source.sound s.source) c.args.strip.now c.args.buffer.now b.0 b.1.0 c.in_ok-end.end c.in_ok-end.ensures in
    let t = c.turn_to.ensures in
    record {
      kept = t.kept;
      step = on_turn d (g.U.Unit.stops c.args.unit.now d) s.range (range c.in_ok-start.start c.in_ok-end.end) (g.S.Source.sound s.source) c.args.strip.now c.args.buffer.now c.turn_to.new.self.range c.turn_to.new.buffer c.turn_to.result o t.text t.turns;
    }
