use Rattle.std.proofs.Common.{arith, ◌+◌, ◌-◌, ◌≤◌, rules, subst, sym}
use Rattle.page.specs.Pages.{page_doc}
use Rattle.page.specs.Parts.{PartsOf}
use Rattle.source.specs.Pieces.{Pieces}
use Rattle.page.proofs.Pieces.{sum_part}
use Rattle.page.proofs.Pages.{page_piece}
use Rattle.page.proofs.page.reading.PageSource.piece.Goals as goal

pub overflow_add-to : goal.overflow_add-to
overflow_add-to c =
    let h = subst (λ o. PartsOf (page_doc c.args.self.now).runs c.args.row.0 o) c.in_ok-parts.ensures.ok_part c.parts.ensures in
    let s = h.small in
    let k = sum_part c.in_ok-parts.parts.lengths.now c.args.first (c.args.behind - c.args.first) in
    let b : c.total-from.result + c.total.result ≤ 65025 = omega (arith, s, k, c.total-from.ensures, c.total.ensures) in
    search rules

pub returns : goal.returns
returns c =
    let h = subst (λ o. PartsOf (page_doc c.args.self.now).runs c.args.row.0 o) c.in_ok-parts.ensures.ok_part c.parts.ensures in
    subst (λ x. Pieces (page_doc c.args.self.now) c.args.row.0 c.args.first c.args.behind c.args.strip.now x) (sym c.ok_or-2.ensures.value)
    (page_piece c.args.self.now.draft c.args.row.0 c.args.first c.args.behind c.in_ok-parts.parts h c.if-first-behind.false c.if-behind-lengths.false c.total-from.result c.total.result c.total-from.ensures c.total.ensures c.args.strip.now c.part.result c.part.ensures)
