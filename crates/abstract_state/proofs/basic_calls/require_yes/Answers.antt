use Rattle.abstract_state.specs.ModelLaws.{does_as, does_nothing, halted_known}
use Rattle.abstract_state.proofs.basic_calls.require_yes.Goals as goal

pub returns-in-Ok-true : goal.returns-in-Ok-true
returns-in-Ok-true g c = λ ls ns es. rw (c.in-Ok-true.is, c.in-Ok-true.field-0-test) (does_nothing _)

pub returns-in-Ok-false : goal.returns-in-Ok-false
returns-in-Ok-false g c = λ ls ns es. rw (c.in-Ok-false.is, c.in-Ok-false.field-0-test) (c.refuse.ensures ls ns es)

pub returns-in-Err : goal.returns-in-Err
returns-in-Err g c = λ ls ns es. rw c.in-Err.is (does_as _ _ _ _ (λ h. halted_known _ _ (g.met.E.Refuses.known c.in-Err.e)) (c.refuse-in-Err.ensures ls ns es))
