use Rattle.abstract_state.specs.ModelLaws.{does_as, does_nothing, halted_known}
use Rattle.abstract_state.proofs.basic_calls.pass_refusal.Goals as goal

pub returns-in-Ok : goal.returns-in-Ok
returns-in-Ok g c = λ ls ns es. rw c.in-Ok.is (does_nothing _)

pub returns-in-Err : goal.returns-in-Err
returns-in-Err g c = λ ls ns es. rw c.in-Err.is (does_as _ _ _ _ (λ h. halted_known _ _ (g.met.E.Refuses.known c.in-Err.e)) (c.refuse.ensures ls ns es))
