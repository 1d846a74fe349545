use mathlib.Core.Path.{◌≡◌}
use mathlib.Core.List.{◌++◌, map}
use Prim.Native.Nat.{◌-◌, ◌≤◌}
use lib.ListN.{length, drop}
use Rattle.meaning.specs.Listing.{token_as}
use Rattle.meaning.specs.AbstractState.{first_names}
use Rattle.references.specs.Models.{names_in}
use Rattle.abstract_state_join.proofs.first.first_names.Given as goal

abbrev pub invariant-loop-i : goal.invariant-loop-i
invariant-loop-i l = (l.len ≤ l.i) × (length l.initial.names ≡ 48 → (length l.names ≡ 48) × (names_in l.names l.len ++ first_names l.i (l.n - l.i) (drop l.i (map token_as l.params)) ≡ first_names 0 l.n (map token_as l.params)))
