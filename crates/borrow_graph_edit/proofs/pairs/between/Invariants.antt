use Rattle.std.specs.Prelude.{◌≡◌, ◌+◌, ◌≤◌, length, drop}
use Rattle.meaning.specs.Limits.{max_edges, max_set_size}
use Rattle.meaning.specs.BorrowGraph.{set_at}
use Rattle.references.specs.Models.{edges_in, set_of}
use Rattle.borrow_graph_edit.specs.Walks.{Gathers}
use Rattle.borrow_graph_edit.proofs.pairs.between.Given as goal

abbrev pub invariant-loop-row : goal.invariant-loop-row
invariant-loop-row l = (l.low + length (set_of l.set).edges ≤ l.row-index)
    × (length l.edges ≡ max_edges → length (set_at l.parent.0 l.child.0 (edges_in l.edges l.m)).edges ≤ max_set_size
    → Gathers l.parent.0 l.child.0 (edges_in l.edges l.m) (drop l.row-index (edges_in l.edges l.m)) l.low (set_of l.set))
