use Rattle.std.proofs.Common.{sym, subst}
use Rattle.source.specs.Pieces.{Pieces}
use Rattle.index.specs.Measured.{RunUnits}
use Rattle.index.proofs.Sums.{answered, piece_units}
use Rattle.index.proofs.units.run_units.Goals as goal

pub returns : goal.returns
returns g c =
    let d = g.S.Source.doc c.args.s.now in
    let piece = subst (Pieces d c.args.row.0 c.args.first c.args.behind _) (answered c.piece.result c.in_ok-bytes.ensures.value) c.piece.ensures in
    subst (RunUnits g.M.Measure.units d c.args.row.0 c.args.first c.args.behind) (sym c.ok-2.ensures.value)
    (piece_units g.M.Measure.units d c.args.row.0 c.args.first c.args.behind (g.S.Source.sound c.args.s.now) c.measure_text.result c.in_ok-bytes.bytes.now piece.0 piece.2 c.measure_text.ensures)
