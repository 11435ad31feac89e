-- What a tree's ghost fields give.
use Rattle.std.proofs.Common.{ℕ, arith}
use Rattle.tree.specs.declared.tree.Tree.{Tree}
use Rattle.rows.specs.declared.node.Row.{Row}
use Rattle.rows.specs.declared.node.NodeId.{NodeId}
use Rattle.rows.specs.declared.filters.FilterResult.{FilterResult}
use Rattle.tree.specs.declared.way.Way.TheVariants.{Forward}
use Rattle.rows.specs.Rows.{Well}
use Rattle.tree.specs.Walk.{answers}
use Rattle.tree.specs.Trees.{rows_of, IsRow, Lists}
use Rattle.tree.proofs.Lists.{found_in, stands}
use Rattle.tree.proofs.Orders.{in_order}
use Rattle.tree.proofs.Compares.{apart, few}

pub well : (t : Tree) → Well t.rows.now t.children.now
well t = record {
  some = omega (arith, t.rooted);
  few = t.few;
  parted = t.parted;
  topped = t.topped;
  rising = t.rising;
  indexed = t.indexed;
  placed = t.placed;
  rowed = t.rowed;
  parented = t.parented;
  ordered = t.ordered;
  shallow = t.shallow;
}

pub lists : (t : Tree) (q : ℕ → Row → FilterResult) (base : NodeId) → IsRow t base → Lists t q base
lists t q base h =
    let w = well t in
    let a = answers q (rows_of t) in
    record {
      holds = λ r l. let found = found_in w a base.0 r l in (found.0, _, found.1);
      only = λ r pre post e. (stands w Forward a base.0 h pre r post e).0;
      order = in_order w a base.0 h;
      apart = apart w a base.0 h;
      few = few w a base.0 h;
    }
