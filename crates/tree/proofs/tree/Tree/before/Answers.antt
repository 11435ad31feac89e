use Rattle.std.proofs.Common.{Some, ◌∙◌}
use Rattle.std.specs.Ordering.{nat_cmp, partial_lt}
use Rattle.std.specs.Cmp.Lexicographic.{slice_partial_cmp}
use Rattle.tree.proofs.Trees.{well}
use Rattle.tree.proofs.Compares.{before_is}
use Rattle.tree.proofs.tree.Tree.before.Goals as goal

pub returns : goal.returns
returns c =
    let p = c.in_ok-n.ensures in
    let q = c.in_ok-m.ensures in
    let one = p.3 in
    let other = q.3 in (
      (p.0, (c.in_ok-n.n, p.1)),
      (q.0, (c.in_ok-m.m, q.1)),
      before_is (well c.args.self.now) c.args.base.0 c.args.one.0 c.args.other.0 c.in_ok-n.n c.in_ok-m.m p.1 q.1 c.lt.result (c.lt.ensures ∙ (λ i. partial_lt (slice_partial_cmp (λ x y. Some (nat_cmp x y))) (one i) (other i))),
    )
