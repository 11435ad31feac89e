use Rattle.std.proofs.Common.{◌≡◌, Err, None, Some, sym, subst, rules}
use Rattle.rows.specs.declared.refusal.Refusal.TheVariants.{AtStart}
use Rattle.source.specs.Runs.{previous_in}
use Rattle.source.proofs.Strips.{answered}
use Rattle.position.specs.Places.{PreviousPlace}
use Rattle.position.proofs.Characters.{back_inside, back_run, back_first, back_never, back_not}
use Rattle.position.proofs.character.backward_to_character_start.Goals as goal

pub returns-then-q-gt0 : goal.returns-then-q-gt0
returns-then-q-gt0 g c =
    let b = c.in_ok-q.ensures in
    back_inside (g.S.Source.doc c.args.s.now) c.args.p c.in_ok-q.q (g.S.Source.sound c.args.s.now) b.0 b.1.0 c.if-q-gt0.true

pub returns-in_err-row : goal.returns-in_err-row
returns-in_err-row g c =
    let d = g.S.Source.doc c.args.s.now in
    let b = c.in_ok-q.ensures in
    let r : None ≡ previous_in d.runs c.in_ok-q.q.row.0 = answered _ _ _ c.in_err-row.ensures.ok_part c.previous.ensures in
    let e : c.from_residual-in_err-row.result ≡ Err AtStart = search rules in
    subst (PreviousPlace d c.args.p) (sym e) (b.0, back_first d c.args.p c.in_ok-q.q (g.S.Source.sound c.args.s.now) b.0 b.1.0 c.if-q-gt0.false r)

pub returns-in-Some : goal.returns-in-Some
returns-in-Some g c =
    let d = g.S.Source.doc c.args.s.now in
    let b = c.in_ok-q.ensures in
    let r : Some c.in_ok-row.row ≡ previous_in d.runs c.in_ok-q.q.row.0 = answered _ _ _ c.in_ok-row.ensures.ok_part c.previous.ensures in
    back_run d c.args.p c.in_ok-q.q (g.S.Source.sound c.args.s.now) b.0 b.1.0 c.in_ok-row.row c.in-Some.n c.if-q-gt0.false r c.in-Some.ensures c.if-n-gt0.true

pub returns-in_default : goal.returns-in_default
returns-in_default g c =
    let d = g.S.Source.doc c.args.s.now in
    let b = c.in_ok-q.ensures in
    let r : Some c.in_ok-row.row ≡ previous_in d.runs c.in_ok-q.q.row.0 = answered _ _ _ c.in_ok-row.ensures.ok_part c.previous.ensures in
    λ l. back_never d c.args.p c.in_ok-q.q (g.S.Source.sound c.args.s.now) b.0 b.1.0 c.in_ok-row.row c.in-Some.n r c.in-Some.ensures c.if-n-gt0.false

pub returns-in_default-2 : goal.returns-in_default-2
returns-in_default-2 g c =
    let d = g.S.Source.doc c.args.s.now in
    let b = c.in_ok-q.ensures in
    let r : Some c.in_ok-row.row ≡ previous_in d.runs c.in_ok-q.q.row.0 = answered _ _ _ c.in_ok-row.ensures.ok_part c.previous.ensures in
    λ l. back_not d c.args.p c.in_ok-q.q (g.S.Source.sound c.args.s.now) b.0 b.1.0 c.in_ok-row.row r c.in_default.ensures
