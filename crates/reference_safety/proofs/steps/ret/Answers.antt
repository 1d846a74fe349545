use Rattle.std.proofs.Common.{rules}
use Rattle.reference_safety.specs.MachineLaws.{many_runs, keeps, stops}
use Rattle.reference_safety.proofs.steps.ret.Goals as goal

pub returns-in_err-values : goal.returns-in_err-values
returns-in_err-values c = many_runs _ _ _ c.in_err-values.ensures.takes (stops (search rules))

pub returns : goal.returns
returns c = many_runs _ _ _ c.in_ok-values.ensures.takes (keeps c.ret-m.ensures)
