use Rattle.std.proofs.Common.{rules}
use Rattle.reference_safety.specs.MachineLaws.{pop_runs, gives, stops}
use Rattle.reference_safety.proofs.steps.compare.Goals as goal

pub returns-in_err-v1 : goal.returns-in_err-v1
returns-in_err-v1 c = λ ls. pop_runs _ _ c.in_err-v1.ensures.takes (stops (search rules))

pub returns-in_err-v2 : goal.returns-in_err-v2
returns-in_err-v2 c = λ ls. pop_runs _ _ c.in_ok-v1.ensures.takes (pop_runs _ _ c.in_err-v2.ensures.takes (stops (search rules)))

pub returns : goal.returns
returns c = λ ls. pop_runs _ _ c.in_ok-v1.ensures.takes (pop_runs _ _ c.in_ok-v2.ensures.takes (gives (c.comparison-m.ensures ls) (c.push_answer.ensures ls _ _)))
