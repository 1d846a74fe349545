use mathlib.Core.Path.{◌≡◌}
use Prim.Native.Nat.{◌≤◌}
use lib.ListN.{length, drop}
use Rattle.meaning.specs.Limits.{max_edges}
use Rattle.meaning.specs.Refinement.Pairs.{loop_at, replace_lim}
use Rattle.meaning.specs.Laws.Pair.{Neat}
use Rattle.meaning.specs.Refinement.Passes.{join_set, pairs_from}
use Rattle.references.specs.Models.{edges_in}
use Rattle.borrow_graph_edit.proofs.join.join_pairs.Given as goal

abbrev pub invariant-loop-x : goal.invariant-loop-x
invariant-loop-x l = (l.count ≤ max_edges)
    × (length l.initial.edges ≡ max_edges → length l.ours ≡ max_edges → length l.theirs ≡ max_edges
    → Neat (edges_in l.initial.edges l.initial.count) → Neat (edges_in l.ours l.k) → Neat (edges_in l.theirs l.n)
    → (length l.edges ≡ max_edges) × Neat (edges_in l.edges l.count)
    × (replace_lim l.shrinking (join_set (edges_in l.ours l.k) (edges_in l.theirs l.n)) (pairs_from (record { parent = l.prior_parent.0; child = l.prior_child.0 }) (drop l.x-index (edges_in l.theirs l.n))) (edges_in l.edges l.count)
    ≡ replace_lim l.shrinking (join_set (edges_in l.ours l.k) (edges_in l.theirs l.n)) (pairs_from (loop_at 0) (edges_in l.theirs l.n)) (edges_in l.initial.edges l.initial.count)))
