use mathlib.Core.Path.{◌≡◌}
use mathlib.Core.List.{List}
use lib.ListN.{length, drop}
use Rattle.meaning.specs.BorrowGraph.{Name, well_formed, pair_ok, moves}
use Rattle.references.specs.Models.{edges_in, path_at}
use Rattle.borrow_graph_edit.specs.Edits.{graph_with}
use Rattle.borrow_graph_edit.specs.BorrowLaws.{Going}
use mathlib.Core.Bool.{true}
use Prim.Native.Nat.{◌+◌, ◌≤◌}
use Rattle.meaning.specs.Lists.{all, keep}
use Rattle.borrow_graph_edit.proofs.borrow.add_moved.Given as goal

abbrev pub invariant-loop-i : goal.invariant-loop-i
invariant-loop-i l = (l.n ≤ 96) × (length l.initial.edges ≡ 96 → length l.old ≡ 96 → (ns : List Name) → well_formed (graph_with ns (edges_in l.initial.edges l.k)) ≡ true
    → l.k + length (keep (moves l.parent.0 (path_at l.path)) (edges_in l.old l.m)) ≤ 96 → all (λ y. pair_ok ns l.child.0 y.child) (keep (moves l.parent.0 (path_at l.path)) (edges_in l.old l.m)) ≡ true
    → Going ns (edges_in l.initial.edges l.k) l.child.0 (path_at l.path) (keep (moves l.parent.0 (path_at l.path)) (edges_in l.old l.m)) l.edges l.n (keep (moves l.parent.0 (path_at l.path)) (drop l.i (edges_in l.old l.m))))
