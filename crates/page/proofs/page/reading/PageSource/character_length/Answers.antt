use Rattle.std.proofs.Common.{◌∙◌, ap, sym, Some}
use Rattle.std.proofs.lemmas.Option.{slice_get_past, slice_get-get_or}
use Rattle.page.proofs.Pages.{page_length}
use Rattle.page.proofs.page.reading.PageSource.character_length.Goals as goal

pub returns-in_err-length : goal.returns-in_err-length
returns-in_err-length c =
    c.from_residual-in_err-length.ensures
    ∙ sym (slice_get_past c.in_ok-parts.field-0.lengths.now c.args.index c.in_err-length.ensures.lookup.3)
    ∙ page_length c.args.self.now.draft c.args.row.0 c.args.index c.in_ok-parts.field-0 c.in_ok-parts.ensures

pub returns : goal.returns
returns c =
    let h = c.in_ok-length.ensures.lookup in
    ap Some (c.from.ensures ∙ h.3.1 0)
    ∙ sym (slice_get-get_or c.in_ok-parts.field-0.lengths.now c.args.index 0 h.3.0)
    ∙ page_length c.args.self.now.draft c.args.row.0 c.args.index c.in_ok-parts.field-0 c.in_ok-parts.ensures
