use Rattle.std.specs.Prelude.{ℕ, List, map, drop}
use Rattle.vm_status.specs.Models.{code_of}
use Rattle.abstract_state.specs.Models.{operand_in, words}
use Rattle.abstract_state_calls.specs.Models.{handing}
use Rattle.abstract_state_calls.specs.LoopLaws.{Left}
use Rattle.abstract_state_calls.proofs.hand_over.Given as goal

abbrev pub invariant-loop-w : goal.invariant-loop-w
invariant-loop-w l =
    (ls : List ℕ) → Left (handing (code_of l.code) (map operand_in l.words)) (handing (code_of l.code) (drop l.w-index (map operand_in l.words))) (words ls l.names l.edges l.initial.s) (words ls l.names l.edges l.s)
