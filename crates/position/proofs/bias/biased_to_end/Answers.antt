use Rattle.std.proofs.Common.{◌≡◌, Err, None, Some, sym, subst, refl, rules}
use Rattle.rows.specs.declared.refusal.Refusal.TheVariants.{Misplaced}
use Rattle.source.specs.Runs.{count_in}
use Rattle.source.proofs.Strips.{answered}
use Rattle.position.specs.Places.{Lawful, Answers, BiasedEnd}
use Rattle.position.proofs.Characters.{to_end_run, to_end_not}
use Rattle.position.proofs.bias.biased_to_end.Goals as goal

pub returns-in_err-index : goal.returns-in_err-index
returns-in_err-index g c =
    let d = g.S.Source.doc c.args.s.now in
    let n : None ≡ count_in d.runs c.in-Some.row.0 = answered _ _ _ c.in_err-index.ensures.ok_part c.character_count.ensures in
    let e : c.from_residual-in_err-index.result ≡ Err Misplaced = search rules in
    subst (Answers (Lawful d c.args.p) (BiasedEnd d c.args.p)) (sym e)
    (refl, λ l. to_end_not d c.args.p (g.S.Source.sound c.args.s.now) l c.in-Some.row c.in-Some.ensures n)

pub returns : goal.returns
returns g c =
    let d = g.S.Source.doc c.args.s.now in
    let l = c.in_ok-biased_to_start.ensures.0 in
    let n : Some c.in_ok-index.index ≡ count_in d.runs c.in-Some.row.0 = answered _ _ _ c.in_ok-index.ensures.ok_part c.character_count.ensures in
    (l, to_end_run d c.args.p (g.S.Source.sound c.args.s.now) l c.in-Some.row c.in_ok-index.index c.if-p-gt0.false c.in-Some.ensures n)
