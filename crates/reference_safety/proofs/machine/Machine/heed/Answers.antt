use Rattle.vm_status.specs.NumberLaws.{number_known}
use Rattle.abstract_state.specs.ModelLaws.{does_as, halted_known}
use Rattle.reference_safety.specs.MachineLaws.{heeds_refusal}
use Rattle.reference_safety.proofs.machine.Machine.heed.Goals as goal

pub returns-in-Err : goal.returns-in-Err
returns-in-Err c = λ ls ns es. heeds_refusal c.in-Err.is (does_as _ _ _ _ (λ h. halted_known _ _ (number_known c.in-Err.r)) (c.refuse-self.ensures ls ns es))
