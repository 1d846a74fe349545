use Rattle.meaning.specs.Refinement.Pairs.{across, replace_lim}
use mathlib.Core.Path.{◌≡◌}
use Prim.Native.Nat.{◌≤◌}
use lib.ListN.{length, drop}
use Rattle.meaning.specs.Limits.{max_edges}
use Rattle.meaning.specs.Lists.{each}
use Rattle.meaning.specs.Laws.Pair.{Neat}
use Rattle.meaning.specs.Refinement.Passes.{splice_set, children_from, child_row}
use Rattle.references.specs.Models.{edges_in}
use Rattle.borrow_graph_edit.proofs.release.splice_row.Given as goal

abbrev pub invariant-loop-x : goal.invariant-loop-x
invariant-loop-x l = (l.n ≤ max_edges)
    × (length l.initial.edges ≡ max_edges → length l.old ≡ max_edges → Neat (edges_in l.initial.edges l.k) → Neat (edges_in l.old l.m)
    → (length l.edges ≡ max_edges) × Neat (edges_in l.edges l.n)
    × (replace_lim l.shrinking (splice_set (edges_in l.old l.m) l.id.0)
    (each (children_from l.id.0 l.last.0 (drop l.x-index (edges_in l.old l.m))) (across (record { parent = l.parent.0; child = l.id.0 }))) (edges_in l.edges l.n)
    ≡ replace_lim l.shrinking (splice_set (edges_in l.old l.m) l.id.0) (child_row (edges_in l.old l.m) l.id.0 (record { parent = l.parent.0; child = l.id.0 })) (edges_in l.initial.edges l.k)))
