use Rattle.std.specs.Prelude.{◌+◌, ◌∷◌, []}
use Rattle.std.proofs.Common.{ap, ◌∙◌, arith}
use Rattle.meaning.specs.AbstractState.{Operand}
use Rattle.abstract_state.specs.Models.{operand_of}
use Rattle.std.proofs.Math.Seq.{take-suc-set}
use native.Mathlib.Numerals.{add-one}
use Rattle.operand_stack.specs.Models.{held, push_each}
use Rattle.operand_stack.specs.StackLaws.{stack_length, pushed_on, push_full}
use Rattle.operand_stack.proofs.OperandStack.push.Goals as goal

pub returns-then-n-eq-MAX_OPERANDS-clause-pushes : goal.returns-then-n-eq-MAX_OPERANDS-clause-pushes
returns-then-n-eq-MAX_OPERANDS-clause-pushes c =
    let s = c.args.self.now.operands in
    push_full (operand_of c.args.value ∷ []) (held c.args.self.now) (omega (arith, stack_length s.list s.len)) (omega (arith, stack_length s.list s.len))

pub returns-clause-pushes : goal.returns-clause-pushes
returns-clause-pushes c =
    let s = c.args.self.now.operands in
    let k = c.depth-n.result in
    let w = c.value_word.result in
    pushed_on s.list _ (w ∷ []) s.len k (k + 1) c.depth-n.ensures.room c.depth-n.ensures.least (rw add-one (take-suc-set s.list k w (omega arith))) (omega arith)
    ∙ ap (λ (v : Operand). push_each (held c.args.self.now) (v ∷ [])) c.value_word.ensures.0
