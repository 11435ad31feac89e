use Rattle.std.proofs.Common.{◌≡◌, drop}
use Rattle.unicode_text.specs.declared.utf8.State.TheVariants.{Start}
use Rattle.unicode_text.specs.States.{passes}
use Rattle.unicode_text.proofs.utf8.is_utf8.Given as goal

-- what is left passes from here as the whole text does from the start
abbrev pub invariant-loop-byte : goal.invariant-loop-byte
invariant-loop-byte l = passes l.check.state (drop l.byte-index l.text) ≡ passes Start l.text
