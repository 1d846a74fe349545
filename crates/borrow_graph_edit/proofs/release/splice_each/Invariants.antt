use Rattle.std.specs.Prelude.{◌≡◌, drop}
use Rattle.meaning.specs.Laws.Graph.{insert_all}
use Rattle.meaning.specs.Refinement.Passes.{splices}
use Rattle.references.specs.Models.{set_of}
use Rattle.borrow_graph_edit.proofs.release.splice_each.Given as goal

abbrev pub invariant-loop-x : goal.invariant-loop-x
invariant-loop-x l = let es = (set_of l.parents).edges in
    let fs = (set_of l.children).edges in
    insert_all (splices (drop l.x-index es) fs) (set_of l.set) ≡ insert_all (splices es fs) (set_of l.initial.set)
