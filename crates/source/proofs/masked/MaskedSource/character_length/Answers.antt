use Rattle.std.proofs.Common.{◌∙◌}
use Rattle.source.proofs.Strips.{masked_none, masked_length}
use Rattle.source.proofs.masked.MaskedSource.character_length.Goals as goal

pub returns-in_err-count : goal.returns-in_err-count
returns-in_err-count g c = c.from_residual.ensures ∙ masked_none (g.S.Source.doc c.args.self.now.inner).runs c.args.row.0 c.args.index c.in_err-count.ensures

pub returns : goal.returns
returns g c = c.then_some.ensures ∙ masked_length (g.S.Source.doc c.args.self.now.inner).runs c.args.row.0 c.args.index c.in_ok-count.count c.in_ok-count.ensures
