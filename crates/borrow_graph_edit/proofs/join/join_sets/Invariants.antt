use Rattle.std.specs.Prelude.{◌≡◌, drop}
use Rattle.meaning.specs.Laws.Graph.{insert_all}
use Rattle.meaning.specs.Refinement.Passes.{uncovered}
use Rattle.references.specs.Models.{set_of}
use Rattle.borrow_graph_edit.proofs.join.join_sets.Given as goal

abbrev pub invariant-loop-x : goal.invariant-loop-x
invariant-loop-x l = let us = (set_of l.initial.ours).edges in
    let ts = (set_of l.theirs).edges in
    insert_all (uncovered us (drop l.x-index ts)) (set_of l.ours) ≡ insert_all (uncovered us ts) (set_of l.initial.ours)
