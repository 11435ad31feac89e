use Rattle.std.proofs.Common.{◌≡◌, ◌-◌, ◌≤◌}
use Rattle.rows.specs.Rows.{lift}
use Rattle.rows.specs.Judge.{rows_in}
use Rattle.rows.proofs.verdict.Descendant.shallow.Given as goal

abbrev pub invariant-loop : goal.invariant-loop
invariant-loop l = (l.counter ≤ 64) × (l.current ≤ l.self.own.id) × (lift (rows_in l.self.own.tables) 64 l.self.own.id ≡ lift (rows_in l.self.own.tables) (64 - l.counter) l.current)
