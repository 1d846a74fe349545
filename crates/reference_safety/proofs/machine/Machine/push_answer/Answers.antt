use Rattle.reference_safety.specs.MachineLaws.{push_runs, pushed_one}
use Rattle.reference_safety.proofs.machine.Machine.push_answer.Goals as goal

pub returns : goal.returns
returns c = λ ls ns es. pushed_one (push_runs _ _ c.push.result c.push.ensures.pushes)
