use Rattle.std.proofs.Common.{◌≡◌, ◌∙◌, subst, Decides}
use Rattle.std.proofs.lemmas.Slice.Eq.{slice_eq-Decides}
use Rattle.std.proofs.lemmas.Bool.Decides.{Decides-eqb}
use Rattle.source.proofs.Strips.{full_bullets}
use Rattle.source.proofs.strip.is_strip.Goals as goal

pub returns : goal.returns
returns c =
    let e = c.as_flattened.ensures.value ∙ full_bullets in
    subst (λ xs. Decides c.eq.result (c.args.strip.now ≡ xs)) e (slice_eq-Decides Decides-eqb _ _ _ c.eq.ensures)
