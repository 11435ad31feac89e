use Rattle.std.proofs.Common.{ℕ, ◌<◌}
use Rattle.rows.specs.Judge.{rows_in, entries_in, EntryAt}
use Rattle.rows.proofs.verdict.Candidate.entered.Given as goal

abbrev pub invariant-loop-place : goal.invariant-loop-place
invariant-loop-place l = (q : ℕ) → q < l.place → EntryAt (rows_in l.self.tables) (entries_in l.self.tables) l.self.id q
