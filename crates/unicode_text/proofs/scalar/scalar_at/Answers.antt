use Rattle.std.proofs.Common.{None}
use Rattle.unicode_text.proofs.Standing.{one_answer, none_past}
use Rattle.unicode_text.proofs.scalar.scalar_at.Goals as goal

pub returns-then-at-text : goal.returns-then-at-text
returns-then-at-text c = record {
  stands = c.read_at.ensures;
  only = λ o h. one_answer c.args.text.now c.args.at o c.read_at.result c.read_at.ensures h;
}

pub returns-else-at-text : goal.returns-else-at-text
returns-else-at-text c =
    let past = none_past c.args.text.now c.args.at c.if-at-text.false in
    record { stands = past; only = λ o h. one_answer c.args.text.now c.args.at o None past h }
