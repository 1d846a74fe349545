use Rattle.std.specs.Prelude.{◌≡◌, ℕ, List, map}
use Rattle.std.proofs.Common.{reverse}
use Rattle.abstract_state.specs.Models.{words, Fits, running_of}
use Rattle.abstract_state_calls.specs.Models.{lowest_borrowed, number_in}
use Rattle.abstract_state_calls.proofs.lowest_borrowed.Given as goal

abbrev pub invariant-loop-r : goal.invariant-loop-r
invariant-loop-r l =
    (ls : List ℕ) → Fits (words ls l.names l.edges l.state) → number_in l.low ≡ lowest_borrowed (running_of (words ls l.names l.edges l.state)) (reverse (map (λ y. y.now) l.yielded))
