use Rattle.std.proofs.Common.{rules}
use Rattle.reference_safety.specs.MachineLaws.{ref_runs, gives, stops}
use Rattle.reference_safety.proofs.steps.borrow_field.Goals as goal

pub returns-in_err-id : goal.returns-in_err-id
returns-in_err-id c = λ ls. ref_runs _ _ c.in_err-id.ensures.takes (stops (search rules))

pub returns : goal.returns
returns c = λ ls. ref_runs _ _ c.in_ok-id.ensures.takes (gives (c.borrow_field-m.ensures ls) (c.push_answer.ensures ls _ _))
