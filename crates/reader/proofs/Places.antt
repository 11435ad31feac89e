-- Places and positions of a sound document, in short.
use Rattle.std.proofs.Common.{◌≡◌, ℕ, ◌≤◌}
use Rattle.source.specs.Runs.{Document, Sound}
use Rattle.position.specs.declared.position.Position.{Position}
use Rattle.position.specs.Places.{Lawful, offset, place, total}
use Rattle.position.proofs.Places.{root_place, within_place, offset_place, offset_inside}

module _ (d : Document) (sound : Sound d) where
  pub lawful_place : (k : ℕ) → k ≤ total d → Lawful d (place d k)
  lawful_place k h = (root_place d.root d.runs k, within_place d.root d.runs k sound.listed h)

  pub off_place : (k : ℕ) → k ≤ total d → offset d (place d k) ≡ k
  off_place k h = offset_place d.root d.runs k sound.listed h

  pub off_inside : (p : Position) → Lawful d p → offset d p ≤ total d
  off_inside p l = offset_inside d.runs p.row.0 p.index l.1
