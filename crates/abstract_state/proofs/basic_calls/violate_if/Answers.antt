use Rattle.abstract_state.specs.ModelLaws.{does_as, does_nothing, halted_known, none_fails}
use Rattle.abstract_state.proofs.basic_calls.violate_if.Goals as goal

pub returns-in-Ok-None : goal.returns-in-Ok-None
returns-in-Ok-None g c = λ ls ns es. rw (c.in-Ok-None.is, rw c.in-Ok-None.is at c.in-Ok-None.field-0-is) (does_as _ _ _ _ (λ h. none_fails _ _) (does_nothing _))

pub returns-in-Ok-Some : goal.returns-in-Ok-Some
returns-in-Ok-Some g c = λ ls ns es. rw (c.in-Ok-Some.is, rw c.in-Ok-Some.is at c.in-Ok-Some.field-0-is) (c.violate.ensures ls ns es)

pub returns-in-Err : goal.returns-in-Err
returns-in-Err g c = λ ls ns es. rw c.in-Err.is (does_as _ _ _ _ (λ h. halted_known _ _ (g.met.E.Refuses.known c.in-Err.e)) (c.refuse.ensures ls ns es))
