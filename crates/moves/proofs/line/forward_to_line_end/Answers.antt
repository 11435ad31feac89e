use Rattle.std.proofs.Common.{◌≡◌, Err, sym, subst, refl, ◌∙◌, rules}
use Rattle.std.proofs.lemmas.Bool.{both_ways}
use Rattle.starts.specs.Starts.{joins}
use Rattle.rows.specs.declared.refusal.Refusal.TheVariants.{Misplaced}
use Rattle.source.proofs.Strips.{answered}
use Rattle.position.specs.Places.{Lawful, Answers}
use Rattle.moves.specs.Lines.{EndsLine}
use Rattle.moves.proofs.Lines.{begins, row_on, row_falls, row_line, last_ends, line_found}
use Rattle.moves.proofs.line.forward_to_line_end.Goals as goal

pub loop-row-init : goal.loop-row-init
loop-row-init g c =
    let s = c.args.s.now in
    let b = c.in_ok-q.ensures in
    (begins (g.S.Source.doc s) (g.S.Source.sound s) c.args.p c.in_ok-q.q b.0 b.1.0, refl)

pub returns-in_err-row : goal.returns-in_err-row
returns-in_err-row g c =
    let s = c.args.s.now in
    let d = g.S.Source.doc s in
    let r = c.loop-row.row.0 in
    let e : c.from_residual-in_err-row.result ≡ Err Misplaced = search rules in
    subst (Answers (Lawful d c.args.p) (EndsLine d c.args.p)) (sym e)
    (refl, λ l. both_ways (joins d.runs r) (last_ends d.runs r (g.S.Source.sound s).listed (answered _ _ _ c.in_err-row.ensures.ok_part c.next.ensures)) (sym c.joins.ensures ∙ c.loop-row-test.true))

pub loop-row-smaller : goal.loop-row-smaller
loop-row-smaller g c =
    let s = c.args.s.now in
    row_falls (g.S.Source.doc s) (g.S.Source.sound s) c.loop-row.row.0 c.in_ok-row.row c.loop-row.invariant.0 (answered _ _ _ c.in_ok-row.ensures.ok_part c.next.ensures)

pub loop-row-preserved : goal.loop-row-preserved
loop-row-preserved g c =
    let s = c.args.s.now in
    let d = g.S.Source.doc s in
    let w = c.loop-row.invariant.0 in
    let e = (answered _ _ _ c.in_ok-row.ensures.ok_part c.next.ensures) in
    (row_on d (g.S.Source.sound s) c.loop-row.row.0 c.in_ok-row.row w e, c.loop-row.invariant.1 ∙ row_line d (g.S.Source.sound s) c.loop-row.row.0 c.in_ok-row.row w (sym c.joins.ensures ∙ c.loop-row-test.true) e)

pub returns : goal.returns
returns g c =
    let s = c.args.s.now in
    let b = c.in_ok-q.ensures in
    (b.0, line_found (g.S.Source.doc s) (g.S.Source.sound s) c.args.p c.in_ok-q.q c.loop-row.row c.in_ok-index.index b.0 b.1 c.loop-row.invariant.1 c.loop-row.invariant.0 (sym c.joins.ensures ∙ c.loop-row-test.false) (answered _ _ _ c.in_ok-index.ensures.ok_part c.character_count.ensures))
