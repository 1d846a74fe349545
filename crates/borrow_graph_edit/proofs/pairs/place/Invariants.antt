use mathlib.Core.Path.{◌≡◌}
use Prim.Native.Nat.{◌+◌, ◌≤◌}
use lib.ListN.{length, drop}
use Rattle.meaning.specs.Limits.{max_edges}
use Rattle.references.specs.Models.{edges_in}
use Rattle.borrow_graph_edit.specs.Walks.{Counts}
use Rattle.borrow_graph_edit.proofs.pairs.place.Given as goal

abbrev pub invariant-loop-x : goal.invariant-loop-x
invariant-loop-x l = (l.low + l.size ≤ l.x-index) × (length l.edges ≡ max_edges → Counts l.parent.0 l.child.0 (edges_in l.edges l.m) (drop l.x-index (edges_in l.edges l.m)) l.low l.size)
