use Rattle.std.proofs.Common.{◌∙◌, ◌≤◌, length, sum, take, ap, arith, rules, tests}
use Rattle.page.specs.declared.part.Parts.{Parts}
use Rattle.page.specs.Parts.{PartsAt}
use Rattle.page.specs.Sheets.{sheet_of}
use Rattle.page.specs.Sounds.{draft_total}
use Rattle.page.proofs.Slices.{accept}
use Rattle.page.proofs.Uniforms.{empty_first, first_fits, uniform}
use Rattle.page.proofs.draft.Draft.is_uniform.Goals as goal

pub returns-in_default-first : goal.returns-in_default-first
returns-in_default-first c = let h = c.in_default-first.ensures.item in accept (empty_first c.args.self.now c.requires c.in-Some.first c.in-Some.ensures c.parts-parts.result c.parts-parts.ensures (omega (arith, h)))

pub slice_bounds-character-end : goal.slice_bounds-character-end
slice_bounds-character-end c =
    let h = c.in-Some-first.ensures.item.3 in
    let n = c.from.ensures ∙ h.1 0 in
    let f = first_fits c.args.self.now c.requires c.in-Some.first c.in-Some.ensures c.parts-parts.result c.parts-parts.ensures h.0 in
    let b : c.from.result ≤ length c.parts-parts.result.text.now = omega (arith, f, n) in
    search rules

pub returns : goal.returns
returns c =
    let h = c.in-Some-first.ensures.item.3 in
    uniform c.args.self.now c.requires c.in-Some.first c.in-Some.ensures c.parts-parts.result c.parts-parts.ensures (take c.from.result c.parts-parts.result.text.now) h.0 (ap (λ n. take n c.parts-parts.result.text.now) (c.from.ensures ∙ h.1 0)) c.is_none.result c.first_fault.ensures (λ k b a. search (rules, tests)) c.is_none.ensures

pub first_fault-requires : goal.first_fault-requires
first_fault-requires c id run =
    let t = draft_total c.args.self.now c.requires id.0 run in
    let fits : (x : Parts) → PartsAt (sheet_of c.args.self.now) id.0 x → sum x.lengths.now ≤ length x.text.now = λ x p. rw (p.lengths, p.text) t in
    search (rules, fits)
