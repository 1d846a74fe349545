use Rattle.std.proofs.Common.{rules}
use Rattle.reference_safety.specs.MachineLaws.{value_runs, gives, stops}
use Rattle.reference_safety.proofs.steps.move_from.Goals as goal

pub returns-in_err-pop_values : goal.returns-in_err-pop_values
returns-in_err-pop_values c = λ ls. value_runs _ _ c.in_err-pop_values.ensures.takes (stops (search rules))

pub returns : goal.returns
returns c = λ ls. value_runs _ _ c.in_ok-pop_values.ensures.takes (gives (c.move_from-m.ensures ls) (c.push_answer.ensures ls _ _))
