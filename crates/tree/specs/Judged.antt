-- The tree that judging gives: that of the tables, or the blank one.
use Rattle.std.specs.Prelude.{◌≡◌, false, [], ◌∷◌, Some, None, Ok, Err, Option, Result}
use Rattle.rows.specs.declared.node.NodeId.{NodeId}
use Rattle.rows.specs.declared.node.Row.{Row}
use Rattle.rows.specs.declared.node.Tables.{Tables}
use Rattle.rows.specs.declared.refusal.Refusal.{Refusal}
use Rattle.rows.specs.Rows.{no_part}
use Rattle.rows.specs.Judge.{rows_in, entries_in, WellFormed, Refused}
use Rattle.tree.specs.declared.tree.Tree.{Tree}
use Rattle.tree.specs.Trees.{rows_of, entries_of}

-- The one row of the blank tree.
abbrev pub blank_row : Row
blank_row = record { role = 0; hidden = false; tree = record { 0 = 0 }; parent = record { 0 = 65535 }; index = 0; previous = record { 0 = 65535 }; next = record { 0 = 65535 }; children = no_part; text = no_part; lengths = no_part; words = no_part }

-- The tree has one row, without children, and that is its root.
abbrev pub Blank : Tree → Type 0
Blank tree = (rows_of tree ≡ blank_row ∷ []) × (entries_of tree ≡ []) × (tree.root.0 ≡ 0)

-- The tree has the tables' rows and child entries, and the root.
abbrev pub TreeOf : Tables → NodeId → Tree → Type 0
TreeOf t root tree = (rows_of tree ≡ rows_in t) × (entries_of tree ≡ entries_in t) × (tree.root ≡ root)

-- Well-formed tables give their tree, and any others their refusal.
abbrev pub Tried : Tables → NodeId → Result Tree Refusal → Type 0
Tried t root (Ok tree) = WellFormed t root.0 × TreeOf t root tree
Tried t root (Err e) = Refused t root.0 e

-- Well-formed tables give their tree, and any others their refusal and the blank tree.
abbrev pub Judged : Tables → NodeId → Tree → Option Refusal → Type 0
Judged t root tree None = WellFormed t root.0 × TreeOf t root tree
Judged t root tree (Some e) = Refused t root.0 e × Blank tree
