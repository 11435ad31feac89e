use Rattle.std.proofs.Common.{◌||◌, sym, ap, ◌∙◌}
use Rattle.source.specs.Runs.{count_in, words_in}
use Rattle.starts.specs.Starts.{among}
use Rattle.position.proofs.Options.{count_of}
use Rattle.starts.proofs.Words.{among_first, rising_of}
use Rattle.starts.proofs.starts.is_word_start.Goals as goal

pub returns-else-starts_paragraph : goal.returns-else-starts_paragraph
returns-else-starts_paragraph g c =
    let d = g.S.Source.doc c.args.s.now in
    let p = c.args.p in
    let l = c.in_ok-biased_to_start.ensures.0 in
    let k = count_of p.index (count_in d.runs p.row.0) l.1 in
    let ws = words_in d.runs p.row.0 in (
      l,
      c.eq.ensures ∙ sym (ap (λ b. b || among p.index ws) (sym c.starts_paragraph.ensures ∙ c.if-starts_paragraph.false)
          ∙ among_first 0 k.0 p.index ws (rising_of d.runs p.row.0 k.0 (g.S.Source.sound c.args.s.now).runs k.1) c.word_start_from.result c.word_start_from.ensures),
    )
