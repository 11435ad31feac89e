use Rattle.std.proofs.Common.{zero, suc, sym, ◌∙◌}
use Rattle.starts.specs.Starts.{starts_paragraph}
use Rattle.moves.specs.Repeats.{Repeats, LineBack}
use Rattle.moves.proofs.Closed.{back_closed}
use Rattle.moves.proofs.Steps.{back_lawful, back_falls}
use Rattle.moves.proofs.paragraph.backward_to_paragraph_start.Goals as goal

pub returns-then-starts_paragraph : goal.returns-then-starts_paragraph
returns-then-starts_paragraph g c =
    let s = c.args.s.now in
    let d = g.S.Source.doc s in
    let q = c.in_ok-current.current in
    let x = c.in_ok-current.ensures in
    let l = c.loop-current.invariant.2 x.0 in
    let r : Repeats (LineBack d) (starts_paragraph d) c.args.p q =
    c.loop-current.invariant.0 q (record { times = zero; moves = (x.1, sym c.starts_paragraph.ensures ∙ c.if-starts_paragraph.true) }) in
    record { repeats = (l, r); lands = (l, back_closed d (g.S.Source.sound s) r.times c.args.p q l r.moves) }

pub loop-current-preserved : goal.loop-current-preserved
loop-current-preserved g c =
    let s = c.args.s.now in
    let d = g.S.Source.doc s in
    let cur = c.loop-current.current in
    let q = c.in_ok-current.current in
    let x = c.in_ok-current.ensures in
    let l = x.0 in
    let v = x.1 in
    let e = sym c.starts_paragraph.ensures ∙ c.if-starts_paragraph.false in (
      λ t r. c.loop-current.invariant.0 t (record { times = suc r.times; moves = (q, v, e, r.moves) }),
      λ f. back_lawful d (g.S.Source.sound s) cur q l v,
      λ f. c.loop-current.invariant.2 l,
    )

pub loop-current-smaller : goal.loop-current-smaller
loop-current-smaller g c =
    let s = c.args.s.now in
    let d = g.S.Source.doc s in
    let cur = c.loop-current.current in
    let q = c.in_ok-current.current in
    let x = c.in_ok-current.ensures in
    let e = sym c.starts_paragraph.ensures ∙ c.if-starts_paragraph.false in
    back_falls d (g.S.Source.sound s) cur q x.0 x.1 e
