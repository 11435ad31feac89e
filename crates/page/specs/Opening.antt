-- What opening answers.
use Rattle.std.specs.Prelude.{◌≡◌, ◌⊎◌, Some, None, Ok, Err, Option, Result}
use Rattle.rows.specs.declared.node.NodeId.{NodeId}
use Rattle.rows.specs.declared.node.Tables.{Tables}
use Rattle.rows.specs.declared.refusal.Refusal.{Refusal}
use Rattle.rows.specs.Judge.{WellFormed, Refused}
use Rattle.page.specs.declared.draft.Draft.{Draft}
use Rattle.page.specs.declared.page.Page.{Page}
use Rattle.page.specs.Sheets.{sheet_in, sheet_of, sheet_doc}
use Rattle.page.specs.Pages.{blank_doc, page_doc}
use Rattle.page.specs.Judging.{InOrder, RunsRefused}

-- The tables make a tree, and its root and the runs under it are in order: no refusal fits.
abbrev pub Accepted : Tables → NodeId → Type 0
Accepted t root = WellFormed t root.0 × InOrder (sheet_in t root.0)

-- The refusal with the smallest number, and of that number the smallest row: the tables make no tree,
-- or they do, and the root or a run is at fault.
abbrev pub Declined : Tables → NodeId → Refusal → Type 0
Declined t root e = Refused t root.0 e ⊎ (WellFormed t root.0 × RunsRefused (sheet_in t root.0) e)

-- The page is the blank one, and means that.
abbrev pub Blank : Page → Type 0
Blank p = (p.draft ≡ None) × (page_doc p ≡ blank_doc)

-- The page is the tables', and means what they say.
abbrev pub PageOf : Tables → NodeId → Page → Type 0
PageOf t root p = ((d : Draft) × (p.draft ≡ Some d) × (sheet_of d ≡ sheet_in t root.0)) × (page_doc p ≡ sheet_doc (sheet_in t root.0))

-- Tables in order give their page, and any others their refusal.
abbrev pub Opened : Tables → NodeId → Result Page Refusal → Type 0
Opened t root (Ok p) = Accepted t root × PageOf t root p
Opened t root (Err e) = Declined t root e

-- Tables in order give their page, and any others their refusal and the blank page.
abbrev pub Opens : Tables → NodeId → Page → Option Refusal → Type 0
Opens t root p None = Accepted t root × PageOf t root p
Opens t root p (Some e) = Declined t root e × Blank p

-- Nothing where no refusal fits, else the refusal.
abbrev pub Verdict : Tables → NodeId → Option Refusal → Type 0
Verdict t root None = Accepted t root
Verdict t root (Some e) = Declined t root e
