use Rattle.std.proofs.Common.{◌≡◌, Err, sym, subst, ap, ⊎_elim, arith, rules}
use Rattle.rows.specs.declared.refusal.Refusal.TheVariants.{Misplaced}
use Rattle.source.proofs.Strips.{answered}
use Rattle.unit.specs.Marks.{stops_by}
use Rattle.unit.specs.Moves.{GoesBack}
use Rattle.unit.proofs.Walk.{behind_begin, found_behind, behind_more, behind_falls, behind_none, other_behind, start_behind}
use Rattle.unit.proofs.marks.back.Goals as goal

pub loop-index-init : goal.loop-index-init
loop-index-init g c =
    let s = c.args.s.now in
    let d = g.S.Source.doc s in
    let b = c.in_ok-q.ensures in
    behind_begin d (g.M.Marks.marks c.args.m.now d) (g.S.Source.sound s) c.args.p c.in_ok-q.q b.0 b.1.0

pub returns-in-Some : goal.returns-in-Some
returns-in-Some g c =
    let s = c.args.s.now in
    let d = g.S.Source.doc s in
    let b = c.in_ok-q.ensures in
    found_behind d (g.M.Marks.marks c.args.m.now d) (g.S.Source.sound s) c.args.p c.in_ok-q.q b.0 b.1.0 c.loop-index.row.0 c.loop-index.below c.in-Some.index c.loop-index.invariant (c.in-Some.ensures c.loop-index.invariant.within)

pub returns-else-q-gt0 : goal.returns-else-q-gt0
returns-else-q-gt0 g c =
    let s = c.args.s.now in
    let d = g.S.Source.doc s in
    let b = c.in_ok-q.ensures in
    (b.0, start_behind d (g.M.Marks.marks c.args.m.now d) (g.S.Source.sound s) c.args.p c.in_ok-q.q b.0 b.1.0 c.loop-index.row.0 c.loop-index.below c.loop-index.invariant c.in_default-previous.ensures (search rules) c.if-q-gt0.false.1)

pub returns-then-q-gt0 : goal.returns-then-q-gt0
returns-then-q-gt0 g c =
    let s = c.args.s.now in
    let d = g.S.Source.doc s in
    let b = c.in_ok-q.ensures in
    other_behind d (g.M.Marks.marks c.args.m.now d) (g.S.Source.sound s) c.args.p c.in_ok-q.q b.0 b.1.0 c.loop-index.row.0 c.loop-index.below c.loop-index.invariant (c.in_default.ensures c.loop-index.invariant.within) c.in_default-previous.ensures (⊎_elim (λ n e. let z : c.in_ok-q.q.row.0 ≡ c.loop-index.row.0 = ap (λ t. t.row.0) e in let w : ⊥ = grind arith in w) (λ w e. let z : c.in_ok-q.q.index ≡ 0 = ap (λ t. t.index) e in omega (arith, w.1)) c.if-q-gt0.either)

pub returns-in_err-n : goal.returns-in_err-n
returns-in_err-n g c =
    let s = c.args.s.now in
    let d = g.S.Source.doc s in
    let f = g.M.Marks.marks c.args.m.now d in
    let b = c.in_ok-q.ensures in
    let e : c.from_residual-in_err-n.result ≡ Err Misplaced = search rules in
    subst (GoesBack d (stops_by d f) c.args.p) (sym e)
    (λ l. behind_none d f (g.S.Source.sound s) c.args.p c.in_ok-q.q b.0 b.1.0 c.loop-index.row.0 c.in-Some-previous.before c.in-Some-previous.ensures (answered _ _ _ c.in_err-n.ensures.ok_part c.character_count.ensures))

pub loop-index-smaller : goal.loop-index-smaller
loop-index-smaller g c =
    let s = c.args.s.now in
    let d = g.S.Source.doc s in
    let b = c.in_ok-q.ensures in
    behind_falls d (g.M.Marks.marks c.args.m.now d) (g.S.Source.sound s) c.args.p c.in_ok-q.q b.0 b.1.0 c.loop-index.row.0 c.in-Some-previous.before c.in_ok-n.n c.in-Some-previous.ensures (answered _ _ _ c.in_ok-n.ensures.ok_part c.character_count.ensures)

pub loop-index-preserved : goal.loop-index-preserved
loop-index-preserved g c =
    let s = c.args.s.now in
    let d = g.S.Source.doc s in
    let b = c.in_ok-q.ensures in
    behind_more d (g.M.Marks.marks c.args.m.now d) (g.S.Source.sound s) c.args.p c.in_ok-q.q b.0 b.1.0 c.loop-index.row.0 c.loop-index.below c.in-Some-previous.before c.in_ok-n.n c.loop-index.invariant (c.in_default.ensures c.loop-index.invariant.within) c.in-Some-previous.ensures (answered _ _ _ c.in_ok-n.ensures.ok_part c.character_count.ensures)
