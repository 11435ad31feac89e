use Rattle.std.proofs.Common.{ℕ, ◌<◌}
use Rattle.rows.specs.Judge.{rows_in, Rivals}
use Rattle.rows.proofs.verdict.Descendant.unrivalled.Given as goal

abbrev pub invariant-loop-id : goal.invariant-loop-id
invariant-loop-id l = (q : ℕ) → q < l.id → Rivals (rows_in l.self.own.tables) l.self.own.id q → ⊥
