use Rattle.meaning.specs.Laws.Area.{WrittenEdges}
use Rattle.absint_area.specs.ModelLaws.{row_at}
use Rattle.absint_area.proofs.write.put_edges.Given as goal

abbrev pub invariant-loop-i : goal.invariant-loop-i
invariant-loop-i l = WrittenEdges (row_at l.edges) l.at 96 l.i l.initial.ws l.ws
