use Rattle.std.proofs.Common.{◌≡◌, rules}
use Rattle.range.proofs.Walks.{tail_some, tail_next}
use Rattle.range.proofs.text.Walk.tail.Goals as goal

pub returns-in_err-row-clause-rest : goal.returns-in_err-row-clause-rest
returns-in_err-row-clause-rest g c =
    let w = c.args.self.now in
    let other : w.range.start.row.0 ≡ w.range.end.row.0 → ⊥ = search (rules, c.if-eq.ensures) in
    absurd (tail_some (g.S.Source.doc w.source.now) (g.S.Source.sound w.source.now) w.range w.walked other (search rules))

pub invariant_of-result : goal.invariant_of-result
invariant_of-result g c =
    let w = c.args.self.now in
    let other : w.range.start.row.0 ≡ w.range.end.row.0 → ⊥ = search (rules, c.if-eq.ensures) in
    record { walked = (tail_next (g.S.Source.doc w.source.now) (g.S.Source.sound w.source.now) w.range w.walked c.in_ok-row.row other (search rules)).0 }

pub returns-clause-rest : goal.returns-clause-rest
returns-clause-rest g c =
    let w = c.args.self.now in
    let other : w.range.start.row.0 ≡ w.range.end.row.0 → ⊥ = search (rules, c.if-eq.ensures) in
    tail_next (g.S.Source.doc w.source.now) (g.S.Source.sound w.source.now) w.range w.walked c.in_ok-row.row other (search rules)
