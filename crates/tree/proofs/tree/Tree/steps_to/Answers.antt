use Rattle.std.proofs.Common.{◌≡◌, Bool, true, false, Some, None, Option, ◌==◌, refl, sym, subst, arith}
use Rattle.std.specs.Bool.{then_some}
use Rattle.std.proofs.lemmas.Bool.{eqb-true, eqb-false}
use Rattle.tree.specs.Trees.{StepsOn}
use Rattle.tree.proofs.Trees.{well}
use Rattle.tree.proofs.Depths.{steps_few, steps_down, steps_up, steps_done, steps_low}
use Rattle.tree.proofs.tree.Tree.steps_to.Goals as goal

pub loop-current-preserved : goal.loop-current-preserved
loop-current-preserved c =
    let up = c.args.self.now.rising c.loop-current.current (omega arith) c.loop-current.invariant.0 in
    let h = c.loop-current.invariant.0 in
    let b = c.loop-current.invariant.1 in
    (omega arith, omega arith, steps_down c.args.self.now.rows.now c.args.base.0 c.args.row.0 c.loop-current.n c.loop-current.current (omega arith) h c.loop-current.invariant.2, λ s. steps_up c.args.self.now.rows.now c.args.base.0 c.loop-current.current (omega arith) (c.loop-current.invariant.3 s))

-- a value where a test holds
either : {A : Type 0} (P : Option A → Type 0) (b : Bool) (x : A) → (b ≡ true → P (Some x)) → (b ≡ false → P None) → P (then_some b x)
either P true x f g = f refl
either P false x f g = g refl

pub returns : goal.returns
returns c =
    let t = c.args.self.now in
    let n = c.loop-current.n in
    let current = c.loop-current.current in
    let there : current ≡ c.args.base.0 → StepsOn t c.args.base c.args.row (Some n) = λ e.
    let s = steps_done t.rows.now c.args.base.0 c.args.row.0 n current c.loop-current.invariant.2 e in
    (c.if-row-self.false, s, steps_few t.rows.now n 64 c.args.base.0 c.args.row.0 s (t.shallow c.args.row.0 c.if-row-self.false)) in
    let nowhere : (current ≡ c.args.base.0 → ⊥) → StepsOn t c.args.base c.args.row None = λ f a. f (omega (arith, steps_low (well t) c.args.base.0 current (c.loop-current.invariant.3 a.1))) in
    subst (StepsOn t c.args.base c.args.row) (sym c.then_some.ensures)
    (either (StepsOn t c.args.base c.args.row) (current == c.args.base.0) n (λ e. there (eqb-true current c.args.base.0 e)) (λ e. nowhere (eqb-false current c.args.base.0 e)))
