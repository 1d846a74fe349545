use Rattle.operand_stack.specs.StackLaws.{stack_none}
use Rattle.operand_stack.proofs.OperandStack.new.Goals as goal

pub returns : goal.returns
returns c = stack_none _
