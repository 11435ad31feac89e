use Rattle.range.proofs.Walks.{heads}
use Rattle.range.proofs.text.Walk.head.Goals as goal

pub returns : goal.returns
returns g c =
    let w = c.args.self.now in
    heads (g.S.Source.doc w.source.now) (g.S.Source.sound w.source.now) w.range w.walked w.strip.now c.behind.result c.piece.result c.behind.ensures c.piece.ensures
