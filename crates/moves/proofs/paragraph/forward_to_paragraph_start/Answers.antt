use Rattle.std.proofs.Common.{zero, suc, sym, ◌∙◌}
use Rattle.moves.specs.Repeats.{Repeats, LineOn, end_or_start}
use Rattle.moves.proofs.Closed.{on_closed}
use Rattle.moves.proofs.Steps.{on_lawful, on_falls}
use Rattle.moves.proofs.paragraph.forward_to_paragraph_start.Goals as goal

pub returns-then-at_end_or_start : goal.returns-then-at_end_or_start
returns-then-at_end_or_start g c =
    let s = c.args.s.now in
    let d = g.S.Source.doc s in
    let q = c.in_ok-current.current in
    let x = c.in_ok-current.ensures in
    let l = c.loop-current.invariant.2 x.0 in
    let r : Repeats (LineOn d) (end_or_start d) c.args.p q =
    c.loop-current.invariant.0 q (record { times = zero; moves = (x.1, sym c.at_end_or_start.ensures ∙ c.if-at_end_or_start.true) }) in
    record { repeats = (l, r); lands = (l, on_closed d (g.S.Source.sound s) r.times c.args.p q r.moves) }

pub loop-current-preserved : goal.loop-current-preserved
loop-current-preserved g c =
    let s = c.args.s.now in
    let d = g.S.Source.doc s in
    let cur = c.loop-current.current in
    let q = c.in_ok-current.current in
    let x = c.in_ok-current.ensures in
    let l = x.0 in
    let v = x.1 in
    let e = sym c.at_end_or_start.ensures ∙ c.if-at_end_or_start.false in (
      λ t r. c.loop-current.invariant.0 t (record { times = suc r.times; moves = (q, v, e, r.moves) }),
      λ f. on_lawful d (g.S.Source.sound s) cur q v,
      λ f. c.loop-current.invariant.2 l,
    )

pub loop-current-smaller : goal.loop-current-smaller
loop-current-smaller g c =
    let s = c.args.s.now in
    let d = g.S.Source.doc s in
    let cur = c.loop-current.current in
    let q = c.in_ok-current.current in
    let x = c.in_ok-current.ensures in
    let e = sym c.at_end_or_start.ensures ∙ c.if-at_end_or_start.false in
    on_falls d (g.S.Source.sound s) cur q x.1 e
