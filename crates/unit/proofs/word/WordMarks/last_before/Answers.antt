use Rattle.std.specs.Bool.{then_some}
use Rattle.std.specs.Option.{option_or}
use Rattle.std.proofs.Common.{◌≡◌, sym, subst, rules}
use Rattle.source.specs.Runs.{words_in}
use Rattle.starts.specs.Starts.{opens_paragraph, starts_word, among}
use Rattle.starts.proofs.Words.{rising_of}
use Rattle.unit.specs.Marks.{marks_of, Last}
use Rattle.unit.proofs.Words.{last_among, last_or}
use Rattle.unit.proofs.word.WordMarks.last_before.Goals as goal

pub returns : goal.returns
returns g c =
    let s = c.args.s.now in
    let d = g.S.Source.doc s in
    let row = c.args.row.0 in
    let ws = words_in d.runs row in
    let e : c.or_else.result ≡ option_or c.word_start_before.result (then_some (opens_paragraph d.runs row) 0) = search rules in
    λ n f h t.
    let m = subst (Last (λ k. among k ws) c.args.below) (sym c.word_start_before.ensures) (last_among 0 n c.args.below ws (rising_of d.runs row n (g.S.Source.sound s).runs f)) in
    subst (Last (marks_of d (starts_word d) row) c.args.below) (sym e) (last_or (opens_paragraph d.runs row) ws c.args.below c.word_start_before.result h m)
