use native.Mathlib.Omega.{arith}
use Rattle.std.proofs.lemmas.Grind.{common_steps}
use Rattle.listing_records.specs.Models.{place_fault}
use Rattle.listing_records.proofs.test_place.Goals as goal

pub returns-then-kind-at : goal.returns-then-kind-at
unfolding place_fault
returns-then-kind-at c = grind (arith, common_steps)

pub returns-then-coded-kind : goal.returns-then-coded-kind
unfolding place_fault
returns-then-coded-kind c = grind (arith, common_steps)

pub returns : goal.returns
unfolding place_fault
returns c = grind (arith, common_steps)
