use Rattle.position.proofs.Places.{next_none, next_end, next_some}
use Rattle.position.proofs.character.forward_to_character_start.Goals as goal

pub returns-in-Some : goal.returns-in-Some
returns-in-Some g c =
    let s = c.args.s.now in
    let b = c.in_ok-q.ensures in
    next_some (g.S.Source.doc s) c.args.p c.in_ok-q.q (g.S.Source.sound s) b.0 b.1.0 c.in-Some.n c.in-Some.ensures c.if-q-n.true c.biased_to_start-in-Some.result c.biased_to_start-in-Some.ensures

pub returns-in_default : goal.returns-in_default
returns-in_default g c =
    let s = c.args.s.now in
    let b = c.in_ok-q.ensures in
    (b.0, next_end (g.S.Source.doc s) c.args.p c.in_ok-q.q (g.S.Source.sound s) b.0 b.1.0 c.in-Some.n c.in-Some.ensures c.if-q-n.false)

pub returns-in_default-2 : goal.returns-in_default-2
returns-in_default-2 g c =
    let s = c.args.s.now in
    let b = c.in_ok-q.ensures in
    absurd (next_none (g.S.Source.doc s) c.args.p c.in_ok-q.q (g.S.Source.sound s) b.0 b.1.0 c.in_default.ensures)
