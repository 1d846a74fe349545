use Rattle.reference_safety.specs.MachineLaws.{gives}
use Rattle.reference_safety.proofs.steps.borrow_loc.Goals as goal

pub returns : goal.returns
returns c = λ ls. gives (c.borrow_loc-m.ensures ls) (c.push_answer.ensures ls _ _)
