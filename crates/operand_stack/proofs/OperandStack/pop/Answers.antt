use Rattle.std.specs.Prelude.{suc, ◌-◌}
use Rattle.std.proofs.Common.{sym, ap, ◌∙◌, arith}
use Rattle.meaning.specs.AbstractState.{Operand}
use Rattle.operand_stack.specs.Models.{stack_in, taken, pop_one}
use Rattle.operand_stack.specs.StackLaws.{stack_at, stack_none, stack_cut}
use Rattle.operand_stack.proofs.OperandStack.pop.Goals as goal

pub returns-in-0-clause-takes : goal.returns-in-0-clause-takes
returns-in-0-clause-takes c =
    let s = c.args.self.now.operands in
    sym (ap pop_one (stack_cut s.list s.len 0 c.depth.ensures.room (omega arith) ∙ stack_none s.list))

pub returns-in_default-clause-takes : goal.returns-in_default-clause-takes
returns-in_default-clause-takes c =
    let s = c.args.self.now.operands in
    let k = c.depth.result - 1 in
    ap (λ (v : Operand). taken v (stack_in s.list k)) c.value_of.ensures
    ∙ sym (ap pop_one (stack_cut s.list s.len (suc k) c.depth.ensures.room (omega arith) ∙ stack_at s.list k (omega arith)))
