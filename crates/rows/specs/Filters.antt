-- The answers of the two filters.
use Rattle.std.specs.Prelude.{ℕ, cond, ◌&&◌, ◌||◌, ◌==◌, nat_le}
use Rattle.rows.specs.declared.node.Row.{Row}
use Rattle.rows.specs.declared.filters.FilterResult.{FilterResult}
use Rattle.rows.specs.declared.filters.FilterResult.TheVariants.{Include, ExcludeNode, ExcludeSubtree}

-- The text filter includes the root and text runs, and excludes the rest as nodes.
abbrev pub text_answer : ℕ → ℕ → Row → FilterResult
text_answer root r x = cond (r == root || x.role == 1) Include ExcludeNode

-- The field filter excludes a hidden row with its subtree, includes roles 2 to 6, and excludes the rest
-- as nodes.
abbrev pub field_answer : Row → FilterResult
field_answer x = cond x.hidden ExcludeSubtree (cond (nat_le 2 x.role && nat_le x.role 6) Include ExcludeNode)
