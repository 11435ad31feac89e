use Rattle.std.proofs.Common.{sym, ◌∙◌, subst}
use Rattle.source.specs.Runs.{words_in}
use Rattle.unit.specs.Marks.{First}
use Rattle.starts.specs.Starts.{opens_paragraph, among}
use Rattle.unit.proofs.Words.{first_among, first_word}
use Rattle.starts.proofs.Words.{rising_of}
use Rattle.unit.proofs.word.WordMarks.first_from.Goals as goal

pub returns-else-starts_paragraph_at : goal.returns-else-starts_paragraph_at
returns-else-starts_paragraph_at g c =
    let s = c.args.s.now in
    let xs = (g.S.Source.doc s).runs in
    let row = c.args.row.0 in
    λ n e h.
    first_word (opens_paragraph xs row) (words_in xs row) n c.args.from c.word_start_from.result (sym c.starts_paragraph_at.ensures ∙ c.if-starts_paragraph_at.false)
    (subst (First (λ k. among k (words_in xs row)) n c.args.from) (sym c.word_start_from.ensures) (first_among 0 n c.args.from (words_in xs row) (rising_of xs row n (g.S.Source.sound s).runs e)))
