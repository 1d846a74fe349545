use Rattle.std.specs.Prelude.{◌≡◌, ◌≤◌, ◌-◌}
use Rattle.operand_stack.specs.Models.{stack_in, held, pop_rest}
use Rattle.operand_stack.proofs.OperandStack.pop_values.Given as goal

abbrev pub invariant-loop-i : goal.invariant-loop-i
invariant-loop-i l = record { within : l.k ≤ 16; rest : pop_rest (l.n - l.i) (stack_in l.self.operands.list l.k) ≡ pop_rest l.n (held l.self) }
