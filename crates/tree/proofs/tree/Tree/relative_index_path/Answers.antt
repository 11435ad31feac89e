use Rattle.std.proofs.Common.{Some, ◌∙◌, arith, rules}
use Rattle.std.proofs.lemmas.List.{length-set}
use Rattle.tree.proofs.Depths.{path_back, path_end, steps_back, drop_behind}
use Rattle.tree.specs.Trees.{StepsOn}
use Rattle.tree.proofs.tree.Tree.relative_index_path.Goals as goal

pub loop-place-preserved : goal.loop-place-preserved
loop-place-preserved c =
    let rs = c.args.self.now.rows.now in
    let e : StepsOn c.args.self.now c.args.base c.args.row (Some c.in_ok-n.n) = search (rules, c.in_ok-n.ensures, c.steps_to.ensures) in
    let i = c.loop-place.invariant in
    let s = steps_back rs _ _ c.loop-place.current c.loop-place-test.true i.2.1 in
    let few = e.2 in
    (length-set _ _ _ ∙ i.0, omega (arith, c.args.self.now.rising c.loop-place.current s.0 s.1, s.1), (i.2.0, s.2), path_back rs c.in_ok-n.n c.loop-place.place c.args.row.0 c.loop-place.current c.loop-place.out c.loop-place-test.true c.loop-place.auto.place (omega (arith, i.0)) i.3, drop_behind c.loop-place.out _ c.in_ok-n.n _ (omega (arith, c.loop-place-test.true, c.loop-place.auto.place)) ∙ i.4)

pub returns : goal.returns
returns c =
    let e : StepsOn c.args.self.now c.args.base c.args.row (Some c.in_ok-n.n) = search (rules, c.in_ok-n.ensures, c.steps_to.ensures) in
    (e.0, e.1, e.2, path_end _ _ c.loop-place.place _ _ _ c.loop-place-test.false c.loop-place.invariant.3, c.loop-place.invariant.4)
