use mathlib.Core.Path.{◌≡◌}
use Prim.Native.Nat.{◌-◌, ◌≤◌}
use lib.ListN.{length, take}
use Rattle.meaning.specs.Listing.{places_from, no_places}
use Rattle.listing_records.specs.Models.{before_ret}
use Rattle.listing_records.proofs.read_records.Given as goal

abbrev pub invariant-loop-at : goal.invariant-loop-at
invariant-loop-at l = (l.block_count ≤ 16) × (l.code_count ≤ 512) × (length l.blocks ≡ 16) × (length l.code ≡ 512)
    × (places_from (length l.s) l.s l.at (record { blocks = take l.block_count l.blocks; code = take l.code_count l.code }) ≡ places_from (length l.s) l.s 0 no_places)
    × (l.first_ret ≡ before_ret l.s (take l.code_count l.code))

abbrev pub decreases-loop-at : goal.decreases-loop-at
decreases-loop-at l = length l.s - l.at
