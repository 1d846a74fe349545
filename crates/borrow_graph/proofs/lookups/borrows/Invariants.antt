use mathlib.Core.Path.{◌≡◌}
use lib.ListN.{length, drop}
use Rattle.references.specs.Models.{names_in, edges_in, filter_of}
use Rattle.borrow_graph.specs.Models.{borrows_of}
use Rattle.borrow_graph.specs.Folds.{no_borrows, borrows_in}
use Rattle.borrow_graph.proofs.lookups.borrows.Given as goal

abbrev pub invariant-loop-x : goal.invariant-loop-x
invariant-loop-x l = length l.names ≡ 48 → length l.edges ≡ 96 → borrows_in (names_in l.names l.n) l.id.0 (filter_of l.at) (borrows_of l.found) (drop l.x-index (edges_in l.edges l.m)) ≡ borrows_in (names_in l.names l.n) l.id.0 (filter_of l.at) no_borrows (edges_in l.edges l.m)
