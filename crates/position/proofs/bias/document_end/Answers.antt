use Rattle.std.specs.Prelude.{unwrap_or}
use Rattle.std.proofs.Common.{ℕ, Some, None, Option, refl, ◌≡◌, ap, ◌∙◌}
use Rattle.source.specs.Runs.{count_in}
use Rattle.position.specs.Places.{at, document_end, size_of}
use Rattle.position.proofs.Characters.{end_place}
use Rattle.position.proofs.bias.document_end.Goals as goal

size_or : (o : Option ℕ) → unwrap_or o 0 ≡ size_of o
size_or None = refl
size_or (Some n) = refl

pub returns : goal.returns
returns g c =
    let s = c.args.s.now in
    let d = g.S.Source.doc s in
    let n = c.unwrap_or.result in
    let r = c.last-row.result.0 in
    let e : at c.root.result.0 r n ≡ document_end d =
    ap (at c.root.result.0 r) (c.unwrap_or.ensures ∙ size_or c.character_count.result ∙ ap size_of c.character_count.ensures)
    ∙ ap (λ o. at o r (size_of (count_in d.runs r))) c.root.ensures
    ∙ ap (λ t. at d.root t (size_of (count_in d.runs t))) c.last-row.ensures in
    record { edge = e; place = e ∙ end_place d (g.S.Source.sound s) }
