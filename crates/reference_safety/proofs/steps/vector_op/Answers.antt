use Rattle.std.proofs.Common.{rules}
use Rattle.reference_safety.specs.MachineLaws.{under_runs, does_runs, stops}
use Rattle.reference_safety.proofs.steps.vector_op.Goals as goal

pub returns-in_err-value : goal.returns-in_err-value
returns-in_err-value c = λ ls. under_runs _ _ _ c.in_err-value.ensures.takes (stops (search rules))

pub returns : goal.returns
returns c = λ ls. under_runs _ _ _ c.in_ok-value.ensures.takes (does_runs (c.vector_op-m.ensures ls) (c.push_new.ensures ls _))
