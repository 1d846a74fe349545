use Rattle.std.proofs.Common.{rules}
use Rattle.reference_safety.specs.MachineLaws.{under_one_runs, keeps, stops}
use Rattle.reference_safety.proofs.steps.move_to.Goals as goal

pub returns-in_err-value : goal.returns-in_err-value
returns-in_err-value c = λ ls. under_one_runs _ _ c.in_err-value.ensures.takes (stops (search rules))

pub returns : goal.returns
returns c = λ ls. under_one_runs _ _ c.in_ok-value.ensures.takes (keeps (c.release_value-m.ensures ls))
