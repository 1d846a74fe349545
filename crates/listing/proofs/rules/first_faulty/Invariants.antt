use Rattle.std.specs.Prelude.{◌≡◌, ◌-◌, map, length}
use Rattle.meaning.specs.Listing.{first_of, faulty_block}
use Rattle.listing.specs.Models.{block_of}
use Rattle.listing.proofs.rules.first_faulty.Given as goal

abbrev pub invariant-loop-i : goal.invariant-loop-i
invariant-loop-i l = first_of (faulty_block l.code_count (map block_of l.blocks)) l.i (length l.blocks - l.i) ≡ first_of (faulty_block l.code_count (map block_of l.blocks)) 0 (length l.blocks)
