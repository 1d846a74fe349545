use Rattle.std.specs.Prelude.{◌≡◌, map, drop}
use Rattle.meaning.specs.BorrowGraph.{splice}
use Rattle.meaning.specs.Laws.Graph.{insert_all}
use Rattle.references.specs.Models.{row_of, set_of}
use Rattle.borrow_graph_edit.proofs.release.splice_one.Given as goal

abbrev pub invariant-loop-y : goal.invariant-loop-y
invariant-loop-y l = let d = (row_of l.parent).edge in
    let es = (set_of l.children).edges in
    insert_all (map (splice d) (drop l.y-index es)) (set_of l.set) ≡ insert_all (map (splice d) es) (set_of l.initial.set)
