use Rattle.std.proofs.Common.{refl, ap}
use Rattle.range.specs.Ranges.{range}
use Rattle.reader.proofs.History.{reads_laws}
use Rattle.reader.proofs.reader.Reader.open.Goals as goal

pub returns : goal.returns
returns g c =
    let d = g.S.Source.doc c.args.source in
    record {
      source = refl;
      range = ap (λ p. range p p) c.document_start-start.ensures.place;
      reads = reads_laws d (g.S.Source.sound c.args.source);
    }
