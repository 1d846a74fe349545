use Rattle.std.specs.Prelude.{◌≡◌, ◌-◌, ◌≤◌, map, take}
use Rattle.meaning.specs.Listing.{first_of, stray_ret, instr_at}
use Rattle.listing.specs.Models.{block_of}
use Rattle.listing.proofs.rules.first_stray.Given as goal

abbrev pub invariant-loop-k : goal.invariant-loop-k
invariant-loop-k l = (l.k ≤ l.m) × (first_of (stray_ret (map (instr_at l.s) (take l.m l.code)) (map block_of l.blocks)) l.k (l.m - l.k) ≡ first_of (stray_ret (map (instr_at l.s) (take l.m l.code)) (map block_of l.blocks)) 0 l.m)
