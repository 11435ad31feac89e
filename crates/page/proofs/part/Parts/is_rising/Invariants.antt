use Rattle.std.proofs.Common.{drop}
use Rattle.source.specs.Runs.{Rising}
use Rattle.page.proofs.Slices.{Same}
use Rattle.page.proofs.part.Parts.is_rising.Given as goal

-- The word starts rise just if those that are left do.
abbrev pub invariant-loop-word : goal.invariant-loop-word
invariant-loop-word l = Same (Rising 0 l.count l.self.words.now) (Rising l.low l.count (drop l.word-index l.self.words.now))
