use mathlib.Core.Path.{◌≡◌}
use mathlib.Core.List.{◌++◌, map}
use lib.ListN.{length, take, drop}
use Rattle.meaning.specs.Area.{local_in}
use Rattle.meaning.specs.AbstractState.{own_names}
use Rattle.abstract_state.specs.Models.{locals_in}
use Rattle.abstract_state_join.proofs.canonical.own_names.Given as goal

abbrev pub invariant-loop-i : goal.invariant-loop-i
invariant-loop-i l = length l.initial.locals ≡ 16 → (length l.locals ≡ 16) × (map local_in (take l.i l.locals) ++ own_names l.i (drop l.i (locals_in l.locals l.n)) ≡ own_names 0 (locals_in l.initial.locals l.n))
