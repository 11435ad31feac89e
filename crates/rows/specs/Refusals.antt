-- What goes with a refusal.
use Rattle.std.specs.Prelude.{ℕ, Some, None, Option}
use Rattle.rows.specs.declared.node.NodeId.{NodeId}
use Rattle.rows.specs.declared.refusal.Refusal.{Refusal}
use Rattle.rows.specs.declared.refusal.Refusal.TheVariants.{BadTables, BadRow, BadRoot, BadRun, BadWords, BadLine, AtEnd, AtStart, Misplaced, Beyond, Needed}

-- The refusal's number.
abbrev pub number_of : Refusal → ℕ
number_of BadTables = 1
number_of (BadRow r) = 2
number_of (BadRoot r) = 3
number_of (BadRun r) = 4
number_of (BadWords r) = 5
number_of (BadLine r) = 6
number_of AtEnd = 7
number_of AtStart = 8
number_of Misplaced = 9
number_of Beyond = 10
number_of (Needed n) = 11

-- The row at fault, where a refusal names one.
abbrev pub fault_of : Refusal → Option NodeId
fault_of BadTables = None
fault_of (BadRow r) = Some r
fault_of (BadRoot r) = Some r
fault_of (BadRun r) = Some r
fault_of (BadWords r) = Some r
fault_of (BadLine r) = Some r
fault_of AtEnd = None
fault_of AtStart = None
fault_of Misplaced = None
fault_of Beyond = None
fault_of (Needed n) = None

-- The bytes needed, where a refusal names them.
abbrev pub needed_of : Refusal → Option ℕ
needed_of BadTables = None
needed_of (BadRow r) = None
needed_of (BadRoot r) = None
needed_of (BadRun r) = None
needed_of (BadWords r) = None
needed_of (BadLine r) = None
needed_of AtEnd = None
needed_of AtStart = None
needed_of Misplaced = None
needed_of Beyond = None
needed_of (Needed n) = Some n
