use Rattle.tree.specs.declared.way.Way.TheVariants.{Forward}
use Rattle.std.proofs.Common.{◌≡◌, arith, rules}
use Rattle.rows.specs.Rows.{par}
use Rattle.rows.specs.declared.filters.FilterResult.TheVariants.{ExcludeNode}
use Rattle.tree.specs.Walk.{answers}
use Rattle.tree.proofs.Trees.{well}
use Rattle.tree.proofs.Lists.{on_up, on_down, on_above}
use Rattle.rows.proofs.Tests.{refuse}
use Rattle.tree.proofs.tree.Tree.is_listed.Goals as goal

pub returns-then-ne : goal.returns-then-ne
returns-then-ne g c =
    let w = well c.args.self.now in
    let a = answers (g.F.Filter.answer c.args.filter.now) c.args.self.now.rows.now in
    let below : par c.args.self.now.rows.now c.loop-current.current.0 ≡ c.args.base.0 → ⊥ = search (rules, c.if-eq.ensures) in
    let closed : a (par c.args.self.now.rows.now c.loop-current.current.0) ≡ ExcludeNode → ⊥ = search (rules, c.if-ne.ensures, c.filter.ensures) in
    refuse (λ l. closed (on_up w Forward a c.args.base.0 c.loop-current.current.0 (c.loop-current.invariant.2 l.1.1) below).0)

pub loop-current-preserved : goal.loop-current-preserved
loop-current-preserved g c =
    let w = well c.args.self.now in
    let a = answers (g.F.Filter.answer c.args.filter.now) c.args.self.now.rows.now in
    let below : par c.args.self.now.rows.now c.loop-current.current.0 ≡ c.args.base.0 → ⊥ = search (rules, c.if-eq.ensures) in
    let passable : a (par c.args.self.now.rows.now c.loop-current.current.0) ≡ ExcludeNode = search (rules, c.if-ne.ensures, c.filter.ensures) in
    (omega (arith, c.args.self.now.rising c.loop-current.current.0 (omega arith) c.loop-current.invariant.0), λ on. c.loop-current.invariant.1 (on_down w Forward a c.args.base.0 c.loop-current.current.0 (omega arith) c.loop-current.invariant.0 passable on), λ on. (on_up w Forward a c.args.base.0 c.loop-current.current.0 (c.loop-current.invariant.2 on) below).1)

pub returns : goal.returns
returns g c =
    let w = well c.args.self.now in
    let a = answers (g.F.Filter.answer c.args.filter.now) c.args.self.now.rows.now in
    refuse (λ l. omega (arith, on_above w Forward a c.args.base.0 c.loop-current.current.0 (c.loop-current.invariant.2 l.1.1)))
