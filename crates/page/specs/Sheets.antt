-- What the tables say under a root: its runs, one for each row that the text filter lists.
--
use Rattle.std.specs.Prelude.{◌≡◌, ℕ, false, not, List, ◌∷◌, ◌++◌, ◌==◌}
use Rattle.rows.specs.declared.node.NodeId.{NodeId}
use Rattle.rows.specs.declared.node.Row.{Row}
use Rattle.rows.specs.declared.node.Tables.{Tables}
use Rattle.tree.specs.declared.tree.Tree.{Tree}
use Rattle.rows.specs.Rows.{row}
use Rattle.tree.specs.Walk.{answers, listed, Listed}
use Rattle.rows.specs.Filters.{text_answer}
use Rattle.tree.specs.Trees.{rows_of, entries_of}
use Rattle.source.specs.Runs.{Run, Document}
use Rattle.source.specs.Layers.{each}
use Rattle.page.specs.declared.draft.Draft.{Draft}
use Rattle.page.specs.Texts.{part_of, cut, feeds}

-- The tables as lists, and the root's row number.
pub record Sheet : Type 0 where
  pub rows : List Row
  pub entries : List NodeId
  pub text : List ℕ
  pub lengths : List ℕ
  pub words : List ℕ
  pub root : ℕ

-- The sheet of tables as they are handed over.
abbrev pub sheet_in : Tables → ℕ → Sheet
sheet_in t root = record { rows = t.rows.now; entries = t.children.now; text = t.text.now; lengths = t.lengths.now; words = t.words.now; root = root }

-- The sheet of a tree and the tables beside it.
abbrev pub sheet_by : Tree → Tables → Sheet
sheet_by tree t = record { rows = rows_of tree; entries = entries_of tree; text = t.text.now; lengths = t.lengths.now; words = t.words.now; root = tree.root.0 }

-- The sheet of a draft.
abbrev pub sheet_of : Draft → Sheet
sheet_of d = record { rows = rows_of d.tree; entries = entries_of d.tree; text = d.text.now; lengths = d.lengths.now; words = d.words.now; root = d.root.0 }

-- The text of a row.
abbrev pub text_at : Sheet → ℕ → List ℕ
text_at s r = part_of (row s.rows r).text s.text

-- The lengths of a row's characters.
abbrev pub lengths_at : Sheet → ℕ → List ℕ
lengths_at s r = part_of (row s.rows r).lengths s.lengths

-- The word starts of a row.
abbrev pub words_at : Sheet → ℕ → List ℕ
words_at s r = part_of (row s.rows r).words s.words

-- No row, in a line link.
abbrev pub no_link : ℕ
no_link = 65535

-- The run that a row stands for.
abbrev pub run_at : Sheet → ℕ → Run
run_at s r = record { row = r; characters = cut (lengths_at s r) (text_at s r); words = words_at s r; joined = not ((row s.rows r).next.0 == no_link); breaks = feeds (text_at s r) }

-- The rows that the text filter lists under the root, in document order.
abbrev pub rows_under : Sheet → List ℕ
rows_under s = listed s.rows s.entries (answers (text_answer s.root) s.rows) s.root

-- The runs under the root, in document order.
abbrev pub runs_under : Sheet → List Run
runs_under s = each (run_at s) (rows_under s)

-- The row is a run under the root.
abbrev pub IsRun : Sheet → ℕ → Type 0
IsRun s r = Listed s.rows (answers (text_answer s.root) s.rows) s.root r

-- What a sheet means as a source of runs; not masked.
abbrev pub sheet_doc : Sheet → Document
sheet_doc s = record { root = s.root; masked = false; runs = runs_under s }

-- x stands in the list.
abbrev pub Has : List ℕ → ℕ → Type 0
Has xs x = (pre : List ℕ) × (post : List ℕ) × (xs ≡ pre ++ x ∷ post)
