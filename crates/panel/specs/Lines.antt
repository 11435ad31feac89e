-- How many lines may still come from the input.
use Rattle.std.specs.Prelude.{ℕ, ◌+◌, if◌then◌else◌}
use Rattle.panel.specs.declared.input.Input.{Input}

-- At most so many: the reader is asked fewer than 2 ^ 64 times, and a line may have been handed back.
abbrev pub lines_left : Input → ℕ
lines_left s = s.turns + (if s.kept then 1 else 0)
