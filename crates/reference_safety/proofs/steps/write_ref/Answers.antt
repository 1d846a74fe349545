use Rattle.std.proofs.Common.{rules}
use Rattle.reference_safety.specs.MachineLaws.{ref_runs, value_runs, keeps, stops}
use Rattle.reference_safety.proofs.steps.write_ref.Goals as goal

pub returns-in_err-id : goal.returns-in_err-id
returns-in_err-id c = λ ls. ref_runs _ _ c.in_err-id.ensures.takes (stops (search rules))

pub returns-in_err-pop_values : goal.returns-in_err-pop_values
returns-in_err-pop_values c = λ ls. ref_runs _ _ c.in_ok-id.ensures.takes (value_runs _ _ c.in_err-pop_values.ensures.takes (stops (search rules)))

pub returns : goal.returns
returns c = λ ls. ref_runs _ _ c.in_ok-id.ensures.takes (value_runs _ _ c.in_ok-pop_values.ensures.takes (keeps (c.write_ref-m.ensures ls)))
