use mathlib.Core.Bool.{Bool}
use mathlib.Core.List.{List, ◌++◌}
use mathlib.Core.Path.{◌≡◌}
use Prim.Native.Nat.{ℕ, ◌≤◌}
use lib.ListN.{length, drop}
use Rattle.std.specs.Fn.{FnReturnsAt}
use Rattle.meaning.specs.Limits.{max_edges}
use Rattle.meaning.specs.Lists.{keep}
use Rattle.meaning.specs.BorrowGraph.{GEdge}
use Rattle.references.specs.Models.{row_of, edges_in}
use Rattle.borrow_graph_edit.proofs.edges.retain.Given as goal

abbrev pub invariant-loop-i : goal.invariant-loop-i
invariant-loop-i g l = (l.j ≤ l.i)
    × ((q : GEdge → Bool) → ((x : List ℕ) (b : Bool) → FnReturnsAt g.F.Fn l.test x b → b ≡ q (row_of x)) → length l.initial.edges ≡ max_edges → (length l.edges ≡ max_edges)
    × (edges_in l.edges l.j ++ keep q (drop l.i (edges_in l.edges l.m)) ≡ keep q (edges_in l.initial.edges l.m)))
