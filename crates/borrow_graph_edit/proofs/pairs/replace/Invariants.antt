use mathlib.Core.Path.{◌≡◌}
use mathlib.Core.List.{◌++◌}
use Prim.Native.Nat.{◌+◌, ◌≤◌}
use lib.ListN.{length, drop}
use Rattle.meaning.specs.Limits.{max_edges}
use Rattle.references.specs.Models.{edges_in, set_of}
use Rattle.borrow_graph_edit.specs.Walks.{exchanged}
use Rattle.borrow_graph_edit.proofs.pairs.replace.Given as goal

abbrev pub invariant-loop-i : goal.invariant-loop-i
invariant-loop-i l = let es = edges_in l.fn.edges l.m in
    let whole = exchanged es l.parent.0 l.child.0 l.low l.old (set_of l.set).blurred (set_of l.set).edges in
    (length l.fn.edges ≡ max_edges → (length l.edges ≡ max_edges) × (fits : l.low + l.old ≤ length es) × (edges_in l.edges (l.low + l.i) ++ drop (l.low + l.i) (whole fits) ≡ whole fits))
    × (drop (l.low + l.k) l.edges ≡ drop (l.low + l.k) l.initial.edges)
