use Rattle.meaning.specs.Laws.Area.{Written, IsLocal}
use Rattle.absint_area.specs.ModelLaws.{local_at}
use Rattle.absint_area.proofs.write.put_locals.Given as goal

abbrev pub invariant-loop-i : goal.invariant-loop-i
invariant-loop-i l = Written (IsLocal (local_at l.locals) l.names l.edges) l.at 16 l.i l.initial.ws l.ws
