use Rattle.std.proofs.Common.{refl}
use Rattle.std.proofs.lemmas.Result.{err_from_is_err_and}
use Rattle.range.specs.Ranges.{range}
use Rattle.reader.proofs.Calls.{back_refused, back_read, back_turn}
use Rattle.reader.proofs.reader.Reader.read_back.Goals as goal

pub returns-in_err-start : goal.returns-in_err-start
returns-in_err-start g c =
    let s = c.args.self.now in
    let d = g.S.Source.doc s.source in
    let b = c.in_ok-end.ensures in
    let p = err_from_is_err_and c.from_residual-in_err-start.result c.from_residual-in_err-start.ensures.1 in
    rw (p.1, p.2)
    (record {
      kept = refl;
      step = (refl, refl, back_refused d (g.U.Unit.stops c.args.unit.now d) s.range c.in_ok-end.end (g.S.Source.sound s.source) c.args.strip.now c.args.buffer.now b.0 b.1.0 c.in_err-start.field-0.0 c.in_err-start.ensures);
    })

pub returns : goal.returns
returns g c =
    let s = c.args.self.now in
    let d = g.S.Source.doc s.source in
    let b = c.in_ok-end.ensures in
    let o = back_read d (g.U.Unit.stops c.args.unit.now d) s.range c.in_ok-end.end (g.S.Source.sound s.source) c.args.strip.now c.args.buffer.now b.0 b.1.0 c.in_ok-start.start c.in_ok-start.ensures in
    let t = c.turn_to.ensures in
    record {
      kept = t.kept;
      step = back_turn d (g.U.Unit.stops c.args.unit.now d) s.range (range c.in_ok-start.start c.in_ok-end.end) (g.S.Source.sound s.source) c.args.strip.now c.args.buffer.now c.turn_to.new.self.range c.turn_to.new.buffer c.turn_to.result o t.text t.turns;
    }
