use Rattle.meaning.specs.Laws.Area.{Written, IsName}
use Rattle.absint_area.specs.ModelLaws.{name_at}
use Rattle.absint_area.proofs.write.put_refs.Given as goal

abbrev pub invariant-loop-i : goal.invariant-loop-i
invariant-loop-i l = Written (IsName (name_at l.names)) l.at 48 l.i l.initial.ws l.ws
