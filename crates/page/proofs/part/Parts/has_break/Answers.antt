use Rattle.std.proofs.Common.{◌∙◌, refl}
use Rattle.page.proofs.Slices.{feeds_last}
use Rattle.page.proofs.part.Parts.has_break.Goals as goal

pub returns : goal.returns
returns c = c.eq.ensures ∙ feeds_last c.args.self.now.text.now c.last.result _ refl c.last.ensures.value
