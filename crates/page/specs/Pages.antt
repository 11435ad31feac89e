-- What a page means: its sheet's document, or the blank one.
use Rattle.std.specs.Prelude.{false, [], ◌∷◌, Some, None, Option}
use Rattle.source.specs.Runs.{Run, Document}
use Rattle.page.specs.declared.draft.Draft.{Draft}
use Rattle.page.specs.declared.page.Page.{Page}
use Rattle.page.specs.Sheets.{sheet_of, sheet_doc}

-- The one run of the blank page: row 0, without characters.
abbrev pub blank_run : Run
blank_run = record { row = 0; characters = []; words = []; joined = false; breaks = false }

-- The blank page: root 0 and its one run.
abbrev pub blank_doc : Document
blank_doc = record { root = 0; masked = false; runs = blank_run ∷ [] }

-- The blank document, or that of a draft.
abbrev pub doc_by : Option Draft → Document
doc_by None = blank_doc
doc_by (Some d) = sheet_doc (sheet_of d)

-- What a page means as a source of runs.
abbrev pub page_doc : Page → Document
page_doc p = doc_by p.draft
