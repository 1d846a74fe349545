use Rattle.reference_safety.specs.MachineLaws.{heeds}
use Rattle.reference_safety.proofs.block.execute.Goals as goal

pub returns : goal.returns
returns c = heeds c.execute_inner-answer.ensures (c.heed.ensures _ _ _)
