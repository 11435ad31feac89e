-- The stops of the units that a read call names.
use Rattle.source.specs.Runs.{Document}
use Rattle.unit.specs.Stops.{Stops, every}
use Rattle.unit.specs.Marks.{lines, paragraphs, words}
use Rattle.panel.specs.declared.reader_calls.TextUnit.{TextUnit}
use Rattle.panel.specs.declared.reader_calls.TextUnit.TheVariants.{Character, Word, Line, Paragraph}

-- Those of the unit of that name.
abbrev pub stops_of : TextUnit → Document → Stops
stops_of Character d = every
stops_of Word d = words d
stops_of Line d = lines d
stops_of Paragraph d = paragraphs d
