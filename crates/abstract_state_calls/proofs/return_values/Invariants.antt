use Rattle.std.specs.Prelude.{◌≡◌, ℕ, List, map, length, take}
use Rattle.meaning.specs.Listing.{token_as}
use Rattle.abstract_state.specs.Models.{operands_in, words}
use Rattle.abstract_state_calls.specs.Models.{ids_of}
use Rattle.abstract_state_calls.specs.CallLaws.{Pending}
use Rattle.abstract_state_calls.proofs.return_values.Given as goal

abbrev pub invariant-loop-i : goal.invariant-loop-i
invariant-loop-i l = record {
  long : length l.list ≡ 16;
  left : (ls : List ℕ) → Pending (ids_of l.mutable) (ids_of l.all) (map token_as (take l.n l.tokens)) l.i (words ls l.initial.names l.initial.edges l.initial.s) (words ls l.names l.edges l.s) (operands_in l.list l.i);
}
