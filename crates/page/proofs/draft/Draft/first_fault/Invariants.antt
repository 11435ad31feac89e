use Rattle.std.proofs.Common.{◌<◌, true}
use Rattle.rows.specs.declared.node.NodeId.{NodeId}
use Rattle.page.specs.Sheets.{sheet_of, IsRun}
use Rattle.page.proofs.draft.Draft.first_fault.Given as goal

-- Every run with a smaller row number fits.
abbrev pub invariant-loop-id : goal.invariant-loop-id
invariant-loop-id g l = (k : NodeId) → k.0 < l.id → IsRun (sheet_of l.self) k.0 → goal.F-post g l.fits k true
