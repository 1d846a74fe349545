use lib.ListN.{drop}
use Rattle.references.specs.Models.{edges_in}
use Rattle.borrow_graph_edit.specs.Ways.{entering, leaving, Within, Seen}
use Rattle.borrow_graph_edit.proofs.release.touching_edges.Given as goal

abbrev pub invariant-loop-i : goal.invariant-loop-i
invariant-loop-i l =
    Within l.to × Within l.from
    × Seen (entering l.id.0) l.edges l.to (drop l.i (edges_in l.edges l.m)) (edges_in l.edges l.m)
    × Seen (leaving l.id.0) l.edges l.from (drop l.i (edges_in l.edges l.m)) (edges_in l.edges l.m)
