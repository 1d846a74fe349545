use Prim.Native.Nat.{◌-◌}
use lib.ListN.{length}
use Rattle.meaning.specs.Loop.{most_visits}
use Rattle.listing.specs.Models.{routine_of}
use Rattle.absint.specs.TurnLaws as Law
use Rattle.absint.proofs.interpreter.analyze_function.Given as goal

abbrev pub invariant-loop-t : goal.invariant-loop-t
invariant-loop-t l = Law.Loops l.listing l.code l.routine l.initial.area l.area l.t

abbrev pub decreases-loop-t : goal.decreases-loop-t
decreases-loop-t l = most_visits (length (routine_of l.listing l.code l.routine).blocks) l.routine.locals - l.t.turns
