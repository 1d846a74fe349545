use mathlib.Core.Path.{◌≡◌}
use mathlib.Core.List.{◌++◌, map}
use Prim.Native.Nat.{◌-◌}
use lib.ListN.{length, take, drop}
use Rattle.meaning.specs.Area.{local_in}
use Rattle.meaning.specs.Listing.{token_as}
use Rattle.meaning.specs.AbstractState.{first_locals}
use Rattle.abstract_state_join.proofs.first.first_locals.Given as goal

abbrev pub invariant-loop-i : goal.invariant-loop-i
invariant-loop-i l = length l.initial.locals ≡ 16 → (length l.locals ≡ 16) × (map local_in (take l.i l.locals) ++ first_locals l.i (l.n - l.i) (drop l.i (map token_as l.params)) ≡ first_locals 0 l.n (map token_as l.params))
