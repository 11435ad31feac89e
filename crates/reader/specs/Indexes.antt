-- Global indexes of positions.
use Rattle.std.specs.Prelude.{ℕ}
use Rattle.source.specs.Runs.{Document}
use Rattle.position.specs.declared.position.Position.{Position}
use Rattle.position.specs.Places.{offset}
use Rattle.index.specs.Measured.{index_at}

-- The global index of a position: what the text before its place measures.
abbrev pub index_of : (ℕ → ℕ) → Document → Position → ℕ
index_of units d p = index_at units d (offset d p)
