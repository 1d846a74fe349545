use Rattle.std.proofs.Common.{rules}
use Rattle.reference_safety.specs.MachineLaws.{rest_runs, stops}
use Rattle.reference_safety.proofs.steps.values.Goals as goal

pub returns-in_err-pop_values : goal.returns-in_err-pop_values
returns-in_err-pop_values c = λ ls es. rest_runs _ _ _ c.in_err-pop_values.ensures.takes (stops (search rules))

pub returns : goal.returns
returns c = λ ls es. rest_runs _ _ _ c.in_ok-pop_values.ensures.takes (c.push_new.ensures ls es)
