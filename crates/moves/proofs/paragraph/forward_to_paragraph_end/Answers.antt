use Rattle.std.proofs.Common.{suc, sym, ◌∙◌}
use Rattle.moves.proofs.Steps.{end_lawful, end_falls}
use Rattle.moves.proofs.paragraph.forward_to_paragraph_end.Goals as goal

pub loop-current-preserved : goal.loop-current-preserved
loop-current-preserved g c =
    let s = c.args.s.now in
    let d = g.S.Source.doc s in
    let cur = c.loop-current.current in
    let q = c.in_ok-current.current in
    let x = c.in_ok-current.ensures in
    let l = x.0 in
    let v = x.1 in
    let e = sym c.ends_paragraph.ensures ∙ c.if-ends_paragraph.false in (
      λ t r. c.loop-current.invariant.0 t (record { times = suc r.times; moves = (q, v, e, r.moves) }),
      λ f. end_lawful d (g.S.Source.sound s) cur q l v,
      λ f. c.loop-current.invariant.2 l,
    )

pub loop-current-smaller : goal.loop-current-smaller
loop-current-smaller g c =
    let s = c.args.s.now in
    let d = g.S.Source.doc s in
    let cur = c.loop-current.current in
    let q = c.in_ok-current.current in
    let x = c.in_ok-current.ensures in
    let e = sym c.ends_paragraph.ensures ∙ c.if-ends_paragraph.false in
    end_falls d (g.S.Source.sound s) cur q x.0 x.1 e
