use Rattle.std.proofs.Common.{◌-◌, ◌*◌, ◌≤◌, refl, sym, subst, arith, rules}
use Rattle.source.specs.Layers.{masked_doc}
use Rattle.source.specs.Pieces.{Pieces}
use Rattle.source.proofs.Strips.{answered, count_few, masked_part}
use Rattle.source.proofs.masked.MaskedSource.piece.Goals as goal

pub overflow_mul-behind : goal.overflow_mul-behind
overflow_mul-behind g c =
    let d = g.S.Source.doc c.args.self.now.inner in
    let k = count_few d.runs c.args.row.0 c.in_ok-count.count (g.S.Source.sound c.args.self.now.inner).runs (answered _ _ _ c.in_ok-count.ensures.ok_part c.character_count.ensures) in
    let z : 3 * (c.args.behind - c.args.first) ≤ 765 = omega arith in
    search rules

pub returns : goal.returns
returns g c =
    let d = g.S.Source.doc c.args.self.now.inner in
    let n = answered _ _ _ c.in_ok-count.ensures.ok_part c.character_count.ensures in
    let k = count_few d.runs c.args.row.0 c.in_ok-count.count (g.S.Source.sound c.args.self.now.inner).runs n in
    subst (Pieces (masked_doc d) c.args.row.0 c.args.first c.args.behind c.args.strip.now) (sym c.ok_or-2.ensures.value)
    (masked_part d c.args.row.0 c.args.first c.args.behind c.in_ok-count.count c.args.strip.now n c.if-first-behind.false c.if-behind-count.false k (c.if-not-is_strip.ensures.0 refl) c.part.result c.part.ensures)
