use Rattle.std.proofs.Common.{◌≡◌, ◌∙◌, rules}
use Rattle.rows.specs.Rows.{par}
use Rattle.tree.proofs.Rows.{climb, beside, over_some, over_none, over_climb}
use Rattle.tree.proofs.Trees.{well}
use Rattle.tree.proofs.tree.Tree.step_over.Goals as goal

pub returns-in-Some : goal.returns-in-Some
returns-in-Some c =
    let w = well c.args.self.now in
    let u = c.loop-sibling.invariant.0 in
    record { within = beside w c.args.way _ _ c.in-Some.sibling u c.in-Some.ensures; same = λ f. c.loop-sibling.invariant.1 f ∙ over_some w c.args.way f _ _ c.in-Some.sibling u c.in-Some.ensures }

pub returns-then-eq : goal.returns-then-eq
returns-then-eq c =
    let at_base : par c.args.self.now.rows.now c.loop-sibling.current.0 ≡ c.args.base.0 = search (rules, c.if-eq.ensures) in
    record { within = tt; same = λ f. c.loop-sibling.invariant.1 f ∙ over_none (well c.args.self.now) c.args.way f _ _ c.loop-sibling.invariant.0 c.in_default.ensures at_base }

pub loop-sibling-preserved : goal.loop-sibling-preserved
loop-sibling-preserved c =
    let w = well c.args.self.now in
    let u = c.loop-sibling.invariant.0 in
    let below : par c.args.self.now.rows.now c.loop-sibling.current.0 ≡ c.args.base.0 → ⊥ = search (rules, c.if-eq.ensures) in
    (climb w _ _ _ u.1 below, λ f. c.loop-sibling.invariant.1 f ∙ over_climb w c.args.way f _ _ u c.in_default.ensures below)
