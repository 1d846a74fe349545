use Rattle.std.specs.Prelude.{List}
use Rattle.std.proofs.Common.{rules, ap, ◌∙◌}
use Rattle.operand_stack.specs.Models.{held, pop_one}
use Rattle.meaning.specs.Answers.{Outcome, then}
use Rattle.meaning.specs.AbstractState.{Operand}
use Rattle.operand_stack.specs.StackLaws.{rest_then}
use Rattle.operand_stack.proofs.OperandStack.pop_under.Goals as goal

pub returns-in_err-pop_values-clause-takes : goal.returns-in_err-pop_values-clause-takes
returns-in_err-pop_values-clause-takes c = let e = ap (λ (o : Outcome (List Operand)). then o pop_one) c.in_err-pop_values.ensures.takes ∙ rest_then c.args.n (held c.args.self.now) pop_one in search rules

pub returns-in-Ok-clause-takes : goal.returns-in-Ok-clause-takes
returns-in-Ok-clause-takes c = c.in-Ok.ensures.takes ∙ ap (λ (o : Outcome (List Operand)). then o pop_one) c.in_ok-pop_values.ensures.takes ∙ rest_then c.args.n (held c.args.self.now) pop_one

pub returns-in-Err-clause-takes : goal.returns-in-Err-clause-takes
returns-in-Err-clause-takes c = c.in-Err.ensures.takes ∙ ap (λ (o : Outcome (List Operand)). then o pop_one) c.in_ok-pop_values.ensures.takes ∙ rest_then c.args.n (held c.args.self.now) pop_one
