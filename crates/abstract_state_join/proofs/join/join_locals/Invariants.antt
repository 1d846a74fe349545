use mathlib.Core.Path.{◌≡◌}
use mathlib.Core.List.{map}
use Prim.Native.Nat.{◌*◌, ◌≤◌}
use lib.ListN.{length, take, drop}
use Rattle.meaning.specs.Answers.{and_then}
use Rattle.meaning.specs.Area.{local_in}
use Rattle.meaning.specs.AbstractState.{join_locals}
use Rattle.borrow_graph.specs.Models.{graph_in, Tells}
use Rattle.abstract_state.specs.Models.{locals_in}
use Rattle.abstract_state_join.specs.JoinLaws.{after}
use Rattle.abstract_state_join.proofs.join.join_locals.Given as goal

abbrev pub invariant-loop-i : goal.invariant-loop-i
invariant-loop-i l = (l.blurred ≤ 255 * l.i)
    × (length l.initial.locals ≡ 16 → length l.locals2 ≡ 16 → Tells l.initial.names l.initial.edges l.initial.ours → Tells l.initial.names2 l.initial.edges2 l.initial.theirs
    → (length l.locals ≡ 16) × Tells l.names l.edges l.ours × Tells l.names2 l.edges2 l.theirs
    × (and_then (join_locals (drop l.i (locals_in l.locals l.n)) (drop l.i (locals_in l.locals2 l.m)) (graph_in l.names l.edges l.ours) (graph_in l.names2 l.edges2 l.theirs))
    (after (map local_in (take l.i l.locals)) l.blurred)
    ≡ join_locals (locals_in l.initial.locals l.n) (locals_in l.locals2 l.m) (graph_in l.initial.names l.initial.edges l.initial.ours) (graph_in l.initial.names2 l.initial.edges2 l.initial.theirs)))
