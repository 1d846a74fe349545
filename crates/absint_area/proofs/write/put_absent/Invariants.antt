use mathlib.Core.Path.{◌≡◌}
use Rattle.meaning.specs.Area.{unkept}
use Rattle.absint_area.proofs.write.put_absent.Given as goal

abbrev pub invariant-loop-b : goal.invariant-loop-b
invariant-loop-b l = l.ws ≡ unkept l.b l.initial.ws
