use mathlib.Core.Path.{◌≡◌}
use lib.ListN.{length, drop}
use Rattle.meaning.specs.BorrowGraph.{pair_ok}
use Rattle.meaning.specs.Refinement.Chain.{chain, no_edge}
use Rattle.references.specs.Models.{row_of, names_in, edges_in}
use Rattle.borrow_graph.proofs.graph.well_formed.Given as goal

abbrev pub invariant-loop-x : goal.invariant-loop-x
invariant-loop-x l = length l.names ≡ 48 → length l.edges ≡ 96 → chain (pair_ok (names_in l.names l.n)) l.count (row_of l.last) (drop l.x-index (edges_in l.edges l.m)) ≡ chain (pair_ok (names_in l.names l.n)) 0 no_edge (edges_in l.edges l.m)
