use Rattle.std.proofs.Common.{◌≤◌, length, drop, sum}
use Rattle.page.specs.Texts.{cut, AllAre}
use Rattle.page.proofs.Slices.{Same}
use Rattle.page.proofs.part.Parts.has_only.Given as goal

-- The characters are the one just if those that are left are.
abbrev pub invariant-loop-n : goal.invariant-loop-n
invariant-loop-n l = record {
  within : sum (drop l.n-index l.self.lengths.now) ≤ length l.rest;
  same : Same (AllAre l.character (cut l.self.lengths.now l.self.text.now)) (AllAre l.character (cut (drop l.n-index l.self.lengths.now) l.rest));
}
