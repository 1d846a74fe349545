use Rattle.std.specs.Prelude.{◌-◌, map, take, drop}
use Rattle.meaning.specs.Blocks.{run_block}
use Rattle.listing.specs.Models.{decoded_at, block_of, routine_of}
use Rattle.abstract_state.specs.Models.{words, state_of}
use Rattle.reference_safety.specs.Models.{board}
use Rattle.reference_safety.specs.BlockLaws.{Going}
use Rattle.reference_safety.proofs.block.run_block.Given as goal

abbrev pub invariant-loop-k : goal.invariant-loop-k
invariant-loop-k l = Going l.routine.returns (block_of l.b) (take (l.end - l.k) (drop l.k (map (decoded_at l.listing) (take l.routine.code_count l.code)))) l.k
    (board l.locals l.names l.edges l.m) (words l.initial.locals l.initial.names l.initial.edges l.initial.m.state)
    (run_block (routine_of l.listing l.code l.routine) (block_of l.b) (state_of (words l.initial.locals l.initial.names l.initial.edges l.initial.m.state)))
