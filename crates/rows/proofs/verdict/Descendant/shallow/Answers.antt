use Rattle.std.proofs.Common.{rules, ◌≡◌, ◌+◌, ◌-◌, ap, ◌∙◌, refl, arith}
use Rattle.rows.specs.Rows.{par, lift}
use Rattle.rows.proofs.Lifts.{lift_top, lift_none, lift_step}
use Rattle.rows.proofs.verdict.Descendant.shallow.Goals as goal

pub returns-then-current-eq0 : goal.returns-then-current-eq0
returns-then-current-eq0 c =
    let rs = c.args.self.now.own.tables.rows.now in
    let top = c.loop.invariant.2 ∙ ap (lift rs (64 - c.loop.counter)) c.if-current-eq0.true ∙ lift_top rs (64 - c.loop.counter) in
    (λ _. top, λ _. refl)

pub loop-preserved : goal.loop-preserved
loop-preserved c =
    let rs = c.args.self.now.own.tables.rows.now in
    let below = c.loop.invariant.1 in
    let up = (c.args.self.now.rising c.loop.current (omega arith)).1 (omega arith) in
    let less : 64 - c.loop.counter - 1 ≡ 64 - (c.loop.counter + 1) = omega arith in
    (omega arith, omega arith, c.loop.invariant.2 ∙ lift_step rs (64 - c.loop.counter) c.loop.current (omega arith) (omega arith) ∙ ap (λ n. lift rs n (par rs c.loop.current)) less)

pub returns : goal.returns
returns c =
    let rs = c.args.self.now.own.tables.rows.now in
    let last = c.loop.invariant.2 ∙ lift_none rs (64 - c.loop.counter) c.loop.current (omega arith) in
    search (rules, last)
