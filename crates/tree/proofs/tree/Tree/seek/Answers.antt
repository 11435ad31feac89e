use Rattle.std.proofs.Common.{sym, ap, ◌∙◌, subst}
use Rattle.tree.specs.Walk.{In, ahead, answers, head}
use Rattle.tree.proofs.Trees.{well}
use Rattle.tree.proofs.Walks.{found, skip, pass, into, falls_over, falls_into, in_child}
use Rattle.tree.proofs.tree.Tree.seek.Goals as goal

pub returns-in-Include : goal.returns-in-Include
returns-in-Include g c =
    let u = subst (In _ _) c.in-Some.is c.loop-at.invariant.0 in
    sym (ap head (c.loop-at.invariant.1 ∙ ap (ahead _ _ _ _ _) c.in-Some.is) ∙ found (well c.args.self.now) c.args.way (answers (g.F.Filter.answer c.args.filter.now) c.args.self.now.rows.now) c.in-Some.id _ (sym c.in-Include.ensures) u)

pub loop-at-smaller-in-Some-child : goal.loop-at-smaller-in-Some-child
loop-at-smaller-in-Some-child g c =
    let u = subst (In _ _) c.in-Some.is c.loop-at.invariant.0 in
    falls_into (well c.args.self.now) c.args.way c.in-Some.id c.in-Some-child.child _ c.loop-at.at c.in-Some.is u c.in-Some-child.ensures

pub loop-at-preserved-in-Some-child : goal.loop-at-preserved-in-Some-child
loop-at-preserved-in-Some-child g c =
    let u = subst (In _ _) c.in-Some.is c.loop-at.invariant.0 in
    let w = well c.args.self.now in (
      in_child w c.args.way c.in-Some.id c.in-Some-child.child _ u c.in-Some-child.ensures,
      c.loop-at.invariant.1 ∙ ap (ahead _ _ _ _ _) c.in-Some.is ∙ into w c.args.way (answers (g.F.Filter.answer c.args.filter.now) c.args.self.now.rows.now) c.in-Some.id c.in-Some-child.child _ (sym c.in-ExcludeNode.ensures) u c.in-Some-child.ensures,
    )

pub loop-at-smaller-in-None : goal.loop-at-smaller-in-None
loop-at-smaller-in-None g c =
    let u = subst (In _ _) c.in-Some.is c.loop-at.invariant.0 in
    falls_over (well c.args.self.now) c.args.way c.in-Some.id _ c.loop-at.at c.step_over-at.result c.in-Some.is u c.step_over-at.ensures

pub loop-at-preserved-in-None : goal.loop-at-preserved-in-None
loop-at-preserved-in-None g c =
    let u = subst (In _ _) c.in-Some.is c.loop-at.invariant.0 in (
      c.step_over-at.ensures.within,
      c.loop-at.invariant.1 ∙ ap (ahead _ _ _ _ _) c.in-Some.is ∙ pass (well c.args.self.now) c.args.way (answers (g.F.Filter.answer c.args.filter.now) c.args.self.now.rows.now) c.in-Some.id _ c.step_over-at.result (sym c.in-ExcludeNode.ensures) u c.in-None.ensures c.step_over-at.ensures,
    )

pub loop-at-smaller : goal.loop-at-smaller
loop-at-smaller g c =
    let u = subst (In _ _) c.in-Some.is c.loop-at.invariant.0 in
    falls_over (well c.args.self.now) c.args.way c.in-Some.id _ c.loop-at.at c.step_over-at-in-ExcludeSubtree.result c.in-Some.is u c.step_over-at-in-ExcludeSubtree.ensures

pub loop-at-preserved : goal.loop-at-preserved
loop-at-preserved g c =
    let u = subst (In _ _) c.in-Some.is c.loop-at.invariant.0 in (
      c.step_over-at-in-ExcludeSubtree.ensures.within,
      c.loop-at.invariant.1 ∙ ap (ahead _ _ _ _ _) c.in-Some.is ∙ skip (well c.args.self.now) c.args.way (answers (g.F.Filter.answer c.args.filter.now) c.args.self.now.rows.now) c.in-Some.id _ c.step_over-at-in-ExcludeSubtree.result (sym c.in-ExcludeSubtree.ensures) u c.step_over-at-in-ExcludeSubtree.ensures,
    )
