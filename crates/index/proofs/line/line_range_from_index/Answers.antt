use Rattle.std.proofs.Common.{◌≡◌, Ok, sym, subst, rules}
use Rattle.position.specs.Places.{at, Answers}
use Rattle.moves.specs.Lines.{EndsLine}
use Rattle.index.specs.LineIndexes.{Ranges, LineStarts}
use Rattle.index.proofs.LineIndexes.{range_is}
use Rattle.index.proofs.line.line_range_from_index.Goals as goal

pub returns : goal.returns
returns g c =
    let s = c.args.s.now in
    let d = g.S.Source.doc s in
    let r = c.in_ok-row.row in
    let q = c.in_ok-end.end in
    let start = subst (LineStarts d c.args.index) c.in_ok-row.ensures.ok_part c.line_start.ensures in
    let ended : c.forward_to_line_end.result ≡ Ok q = search (rules, c.in_ok-end.ensures.cases) in
    let ends = subst (Answers _ _) ended c.forward_to_line_end.ensures in
    subst (λ o. Ranges d c.args.index (at o r.0 0) q) (sym c.root.ensures)
    (range_is d (g.S.Source.sound s) c.args.index r.0 q start (subst (λ o. EndsLine d (at o r.0 0) q) c.root.ensures ends.1))
