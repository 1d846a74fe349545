use Rattle.meaning.specs.EntryPoints as R
use Rattle.abstract_state.specs.ModelLaws.{does_nothing}
use Rattle.abstract_state_steps.proofs.release_value.Goals as goal

pub returns-in-Reference : goal.returns-in-Reference
unfolding R.release_value
returns-in-Reference c = λ ls. rw c.in-Reference.is (c.release.ensures ls)

pub returns-in-NonReference : goal.returns-in-NonReference
unfolding R.release_value
returns-in-NonReference c = λ ls. rw c.in-NonReference.is (does_nothing _)
