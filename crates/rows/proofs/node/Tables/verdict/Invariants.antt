use Rattle.std.proofs.Common.{ℕ, ◌<◌}
use Rattle.rows.specs.Judge.{Sound}
use Rattle.rows.proofs.node.Tables.verdict.Given as goal

abbrev pub invariant-loop-id : goal.invariant-loop-id
invariant-loop-id l = (q : ℕ) → q < l.id → Sound l.self q
