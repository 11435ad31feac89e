use Rattle.std.proofs.Common.{length, ◌<◌, Err, rules, sym, ◌≡◌, ℕ, List, Some, Option, subst, ◌+◌, drop, ap, ◌∙◌, arith}
use Rattle.unicode_text.specs.declared.scalar.Scalar.{Scalar}
use Rattle.unicode_text.specs.Scalars.{scalars, StandsAt}
use Rattle.unicode_text.specs.Measures.{total, too_long, Measures}
use Rattle.unicode_text.specs.declared.measure.Unmeasured.TheVariants.{IllFormed}
use Rattle.unicode_text.specs.Table.{WellFormed}
use Rattle.unicode_text.proofs.Sums.{sum_more, sum_all_lem, well_more, well_less, some_bytes, within, no_well, done}
use Rattle.unicode_text.proofs.measure.measure_text.Goals as goal

-- what stands there, by what the call answered
found : (t : List ℕ) (at : ℕ) (o : Option Scalar) (x : Scalar) → o ≡ Some x → StandsAt t at o → StandsAt t at (Some x)
found t at o x e h = subst (StandsAt t at) e h

pub returns-in_err-scalar : goal.returns-in_err-scalar
returns-in_err-scalar g c =
    let h = subst (StandsAt c.args.text.now c.loop-at.at) c.in_err-scalar.ensures.ok_part c.scalar_at.ensures.stands in
    let ill = λ (w : WellFormed c.args.text.now). no_well c.args.text.now c.loop-at.at c.loop-at-test.true h (c.loop-at.invariant.3 w) in
    let few : length c.args.text.now < too_long = omega arith in
    let e : c.from_residual.result ≡ Err IllFormed = search rules in
    subst (Measures g.M.Measure.units c.args.text.now) (sym e) (few, ill)

pub loop-at-smaller : goal.loop-at-smaller
loop-at-smaller g c =
    let s = some_bytes c.args.text.now c.loop-at.at c.in_ok-scalar.scalar (found c.args.text.now c.loop-at.at c.scalar_at.result c.in_ok-scalar.scalar c.in_ok-scalar.ensures.ok_part c.scalar_at.ensures.stands) in
    omega arith

pub loop-at-preserved : goal.loop-at-preserved
loop-at-preserved g c =
    let t = c.args.text.now in
    let at = c.loop-at.at in
    let x = c.in_ok-scalar.scalar in
    let h = (found c.args.text.now c.loop-at.at c.scalar_at.result c.in_ok-scalar.scalar c.in_ok-scalar.ensures.ok_part c.scalar_at.ensures.stands) in
    let u = g.M.Measure.units in
    let s = some_bytes t at x h in
    let n = within t at x h c.loop-at-test.true in
    let few = g.met.M.Measure.most x.value in
    let is = c.units_of-sum.ensures in
    let sum = sum_more t at x h u c.loop-at.sum (total u (scalars t)) c.loop-at.invariant.2 in (
      omega arith,
      n,
      ap (λ k. c.loop-at.sum + k + total u (scalars (drop (at + x.length) t))) is ∙ sum,
      λ w. well_more t at x h (c.loop-at.invariant.3 w),
      λ w. c.loop-at.invariant.4 (well_less t at x h w),
    )

pub returns : goal.returns
returns g c =
    let t = c.args.text.now in
    let at = c.loop-at.at in
    let u = g.M.Measure.units in
    (omega arith, c.loop-at.invariant.4 (done t at c.loop-at-test.false), sum_all_lem t at c.loop-at-test.false u c.loop-at.sum (total u (scalars t)) c.loop-at.invariant.2)
