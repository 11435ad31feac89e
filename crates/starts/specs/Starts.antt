-- Where lines, paragraphs and words start and end, judged at a position as it stands.
use Rattle.std.specs.Prelude.{ℕ, Bool, true, false, not, ◌&&◌, ◌||◌, List, [], ◌∷◌, Some, None, Option, ◌==◌}
use Rattle.rows.specs.declared.node.NodeId.{NodeId}
use Rattle.source.specs.Runs.{Run, Document, count_in, next_in, previous_in, joined_in, breaks_in, words_in}
use Rattle.position.specs.declared.position.Position.{Position}
use Rattle.position.specs.Places.{at_end}

-- What was said, and no where nothing was.
abbrev pub yes : Option Bool → Bool
yes None = false
yes (Some b) = b

-- The run is joined on its line to the next one.
abbrev pub joins : List Run → ℕ → Bool
joins xs r = yes (joined_in xs r)

-- The run has the break mark.
abbrev pub breaks : List Run → ℕ → Bool
breaks xs r = yes (breaks_in xs r)

-- There is no such run.
abbrev pub is_none : Option NodeId → Bool
is_none None = true
is_none (Some r) = false

-- There is no run before, or one that is not joined to this one.
abbrev pub unjoined : List Run → Option NodeId → Bool
unjoined xs None = true
unjoined xs (Some r) = not (joins xs r.0)

-- A line starts at the run.
abbrev pub opens_line : List Run → ℕ → Bool
opens_line xs r = unjoined xs (previous_in xs r)

-- There is no run before, or one that is not joined to this one and has the break mark.
abbrev pub broken : List Run → Option NodeId → Bool
broken xs None = true
broken xs (Some r) = not (joins xs r.0) && breaks xs r.0

-- A paragraph starts at the run.
abbrev pub opens_paragraph : List Run → ℕ → Bool
opens_paragraph xs r = broken xs (previous_in xs r)

-- The number stands in the list.
abbrev pub among : ℕ → List ℕ → Bool
among i [] = false
among i (w ∷ ws) = i == w || among i ws

-- The position is its run's end.
abbrev pub run_end : Document → Position → Bool
run_end d p = at_end (count_in d.runs p.row.0) p.index

-- The first run's start.
abbrev pub starts_document : Document → Position → Bool
starts_document d p = p.index == 0 && is_none (previous_in d.runs p.row.0)

-- The last run's end.
abbrev pub ends_document : Document → Position → Bool
ends_document d p = run_end d p && is_none (next_in d.runs p.row.0)

-- A line's first run's start.
abbrev pub starts_line : Document → Position → Bool
starts_line d p = p.index == 0 && opens_line d.runs p.row.0

-- A line's last run's end.
abbrev pub ends_line : Document → Position → Bool
ends_line d p = run_end d p && not (joins d.runs p.row.0)

-- The document's start, or a line's start whose previous run has the break mark.
abbrev pub starts_paragraph : Document → Position → Bool
starts_paragraph d p = p.index == 0 && opens_paragraph d.runs p.row.0

-- The document's end, or a line's last run's end with the break mark.
abbrev pub ends_paragraph : Document → Position → Bool
ends_paragraph d p = ends_document d p || (ends_line d p && breaks d.runs p.row.0)

-- A paragraph start, or one of the run's word starts.
abbrev pub starts_word : Document → Position → Bool
starts_word d p = starts_paragraph d p || among p.index (words_in d.runs p.row.0)
