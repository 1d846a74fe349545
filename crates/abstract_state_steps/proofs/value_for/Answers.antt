use Rattle.meaning.specs.EntryPoints as R
use Rattle.abstract_state_steps.proofs.value_for.Goals as goal

pub returns-in-Value : goal.returns-in-Value
unfolding R.value_for
returns-in-Value c = λ ls es. rw c.in-Value.is (c.give.ensures ls _ es)

pub returns-in-Reference : goal.returns-in-Reference
returns-in-Reference c = λ ls es. rw c.in-Reference.is (c.value_for_ref.ensures ls es)

pub returns-in-MutableReference : goal.returns-in-MutableReference
returns-in-MutableReference c = λ ls es. rw c.in-MutableReference.is (c.value_for_ref-in-MutableReference.ensures ls es)
