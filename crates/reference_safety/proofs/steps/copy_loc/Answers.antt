use Rattle.reference_safety.specs.MachineLaws.{gives}
use Rattle.reference_safety.proofs.steps.copy_loc.Goals as goal

pub returns : goal.returns
returns c = gives c.copy_loc-m.ensures (c.push_answer.ensures _ _ _)
