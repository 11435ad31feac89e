use Rattle.std.proofs.Common.{◌≡◌, Ok, Some, sym, subst, rules}
use Rattle.source.specs.Runs.{count_in, next_in}
use Rattle.source.proofs.Strips.{answered}
use Rattle.position.specs.Places.{Lawful, Answers, BiasedStart, or_start}
use Rattle.position.proofs.Places.{biases_inside, biases_at_end}
use Rattle.position.proofs.bias.biased_to_start.Goals as goal

pub returns-then-p-count-2 : goal.returns-then-p-count-2
returns-then-p-count-2 g c =
    let d = g.S.Source.doc c.args.s.now in
    let n : Some c.in_ok-count.count ≡ count_in d.runs c.args.p.row.0 = answered _ _ _ c.in_ok-count.ensures.ok_part c.character_count.ensures in
    let r : c.args.p.root.0 ≡ d.root = search rules in
    biases_inside d c.args.p c.in_ok-count.count (g.S.Source.sound c.args.s.now) r n c.if-p-count-2.true

pub returns : goal.returns
returns g c =
    let d = g.S.Source.doc c.args.s.now in
    let n : Some c.in_ok-count.count ≡ count_in d.runs c.args.p.row.0 = answered _ _ _ c.in_ok-count.ensures.ok_part c.character_count.ensures in
    let r : c.args.p.root.0 ≡ d.root = search rules in
    let e : c.unwrap_or.result ≡ or_start (next_in d.runs c.args.p.row.0) c.args.p = search rules in
    subst (λ q. Answers (Lawful d c.args.p) (BiasedStart d c.args.p) (Ok q)) (sym e)
    (biases_at_end d c.args.p c.in_ok-count.count (g.S.Source.sound c.args.s.now) r n c.if-p-count.false c.if-p-count-2.false)
