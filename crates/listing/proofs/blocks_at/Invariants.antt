use Rattle.std.specs.Prelude.{◌≡◌, map, length, take}
use Rattle.meaning.specs.Listing.{block_at}
use Rattle.listing.specs.Models.{block_of}
use Rattle.listing.proofs.blocks_at.Given as goal

abbrev pub invariant-loop-i : goal.invariant-loop-i
invariant-loop-i l = (length l.out ≡ 16) × (map block_of (take l.i l.out) ≡ map (block_at l.s) (take l.i l.places))
