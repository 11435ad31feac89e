use Rattle.std.proofs.Common.{◌≡◌, Err, sym, subst, rules}
use Rattle.rows.specs.declared.refusal.Refusal.TheVariants.{Misplaced}
use Rattle.source.proofs.Strips.{answered}
use Rattle.position.specs.Places.{offset}
use Rattle.unit.specs.Marks.{stops_by}
use Rattle.unit.specs.Moves.{GoesOn}
use Rattle.unit.proofs.Walk.{ahead_more, ahead_falls, ahead_begin, begin_none, begin_end, found_ahead, end_ahead}
use Rattle.unit.proofs.marks.onward.Goals as goal

pub returns-in_err-size : goal.returns-in_err-size
returns-in_err-size g c =
    let s = c.args.s.now in
    let d = g.S.Source.doc s in
    let f = g.M.Marks.marks c.args.m.now d in
    let b = c.in_ok-q.ensures in
    let e : c.from_residual-in_err-size.result ≡ Err Misplaced = search rules in
    subst (GoesOn d (stops_by d f) c.args.p) (sym e)
    (λ l. begin_none d f (g.S.Source.sound s) c.args.p c.in_ok-q.q b.0 b.1.0 (answered _ _ _ c.in_err-size.ensures.ok_part c.character_count.ensures))

pub returns-then-q-size : goal.returns-then-q-size
returns-then-q-size g c =
    let s = c.args.s.now in
    let d = g.S.Source.doc s in
    let b = c.in_ok-q.ensures in
    (b.0, begin_end d (g.M.Marks.marks c.args.m.now d) (g.S.Source.sound s) c.args.p c.in_ok-q.q b.0 b.1.0 c.in_ok-size.size (answered _ _ _ c.in_ok-size.ensures.ok_part c.character_count.ensures) c.if-q-size.true)

pub loop-n-init : goal.loop-n-init
loop-n-init g c =
    let s = c.args.s.now in
    let d = g.S.Source.doc s in
    let b = c.in_ok-q.ensures in
    ahead_begin d (g.M.Marks.marks c.args.m.now d) (g.S.Source.sound s) c.args.p c.in_ok-q.q b.0 b.1.0 c.in_ok-size.size (answered _ _ _ c.in_ok-size.ensures.ok_part c.character_count.ensures) c.if-q-size.false

pub returns-in-Some : goal.returns-in-Some
returns-in-Some g c =
    let s = c.args.s.now in
    let d = g.S.Source.doc s in
    let b = c.in_ok-q.ensures in
    found_ahead d (g.M.Marks.marks c.args.m.now d) (g.S.Source.sound s) c.args.p c.in_ok-q.q b.0 b.1.0 c.loop-n.row.0 c.in_ok-n.n c.loop-n.from c.in-Some.index c.loop-n.invariant (answered _ _ _ c.in_ok-n.ensures.ok_part c.character_count-in-loop-n.ensures) (c.in-Some.ensures (answered _ _ _ c.in_ok-n.ensures.ok_part c.character_count-in-loop-n.ensures))

pub returns-in_default-next : goal.returns-in_default-next
returns-in_default-next g c =
    let s = c.args.s.now in
    let d = g.S.Source.doc s in
    let b = c.in_ok-q.ensures in
    end_ahead d (g.M.Marks.marks c.args.m.now d) (g.S.Source.sound s) c.args.p c.in_ok-q.q b.0 b.1.0 c.loop-n.row.0 c.in_ok-n.n c.loop-n.from c.loop-n.invariant (answered _ _ _ c.in_ok-n.ensures.ok_part c.character_count-in-loop-n.ensures) (c.in_default.ensures (answered _ _ _ c.in_ok-n.ensures.ok_part c.character_count-in-loop-n.ensures)) c.in_default-next.ensures

pub loop-n-smaller : goal.loop-n-smaller
loop-n-smaller g c =
    let s = c.args.s.now in
    let d = g.S.Source.doc s in
    ahead_falls d (g.M.Marks.marks c.args.m.now d) (g.S.Source.sound s) c.loop-n.row.0 c.in_ok-n.n c.in-Some-next.next (answered _ _ _ c.in_ok-n.ensures.ok_part c.character_count-in-loop-n.ensures) c.in-Some-next.ensures

pub loop-n-preserved : goal.loop-n-preserved
loop-n-preserved g c =
    let s = c.args.s.now in
    let d = g.S.Source.doc s in
    ahead_more d (g.M.Marks.marks c.args.m.now d) (g.S.Source.sound s) (offset d c.in_ok-q.q) c.loop-n.row.0 c.in_ok-n.n c.loop-n.from c.in-Some-next.next c.loop-n.invariant (answered _ _ _ c.in_ok-n.ensures.ok_part c.character_count-in-loop-n.ensures) (c.in_default.ensures (answered _ _ _ c.in_ok-n.ensures.ok_part c.character_count-in-loop-n.ensures)) c.in-Some-next.ensures
