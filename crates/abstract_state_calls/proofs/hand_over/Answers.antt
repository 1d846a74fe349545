use Rattle.std.specs.Prelude.{◌∷◌, [], map}
use Rattle.meaning.specs.AbstractState.{Operand}
use Rattle.meaning.specs.EntryPoints.{hand_over}
use Rattle.vm_status.specs.Models.{code_of}
use Rattle.abstract_state.specs.Models.{operand_in, words}
use Rattle.abstract_state.specs.ModelLaws.{does_nothing}
use Rattle.abstract_state_calls.specs.Models.{handing}
use Rattle.abstract_state_calls.specs.ModelLaws.{map_step, map_end}
use Rattle.abstract_state_calls.specs.LoopLaws.{left_all, left_turn, left_done}
use Rattle.abstract_state_calls.specs.CallLaws.{hand_step}
use native.Mathlib.Omega.{arith}
use Rattle.abstract_state_calls.proofs.hand_over.Goals as goal

pub loop-w-init : goal.loop-w-init
loop-w-init c = λ ls. left_all _ _

pub loop-w-preserved : goal.loop-w-preserved
loop-w-preserved c =
    let a = c.args in
    let l = c.loop-w in
    let ws = c.words-words.result.now in
    λ ls. left_turn (handing (code_of a.code)) (map operand_in ws) l.w-index _ (words ls a.names.now a.edges.now l.s) _ (λ (u : Operand). handing (code_of a.code) (u ∷ [])) (hand_step (code_of a.code)) _
    (map_step operand_in ws l.w-index 0 (omega arith)) (rw c.value_of.ensures at (c.hand_value-s.ensures ls)) (l.invariant ls)

pub returns : goal.returns
unfolding hand_over
returns c =
    let a = c.args in
    let l = c.loop-w in
    let ws = c.words-words.result.now in
    λ ls. rw (← c.words-words.ensures.all) (left_done (handing (code_of a.code)) (map operand_in ws) l.w-index _ (words ls a.names.now a.edges.now l.s) _ (map_end operand_in ws l.w-index (omega arith)) (does_nothing _) (l.invariant ls))
