-- An answer and the stack that a call leaves, as the answer by value means them.
use Rattle.std.specs.Prelude.{List, Result, Ok, Err, ⊤}
use Rattle.meaning.specs.Answers.{Outcome, done, refused}
use Rattle.meaning.specs.AbstractState.{Operand}
use Rattle.vm_status.specs.Models.{number_of}
use Rattle.vm_status.specs.declared.Refusal.{Refusal}
use Rattle.abstract_state.specs.Models.{operand_of}
use Rattle.abstract_state.specs.declared.state.AbstractValue.{AbstractValue}
use Rattle.abstract_state.specs.declared.state.Operands.{Operands}
use Rattle.operand_stack.specs.Models.{Taken, stack_of, answered, took}

abbrev pub pushed_of : Result ⊤ Refusal → Operands → Outcome (List Operand)
pushed_of (Ok u) left = done (stack_of left)
pushed_of (Err r) left = refused (number_of r)

abbrev pub took_of : Result AbstractValue Refusal → Operands → Outcome (Taken Operand)
took_of t left = answered (λ v. took (operand_of v) left) t
