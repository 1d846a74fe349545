use Rattle.meaning.specs.EntryPoints as R
use Rattle.abstract_state.specs.Models.{words, running_of}
use Rattle.abstract_state.specs.ModelLaws.{does_as, does_then}
use Rattle.abstract_state_steps.specs.EntryLaws as E
use Rattle.abstract_state_steps.proofs.vector_op.Goals as goal

pub returns-in-Reference : goal.returns-in-Reference
returns-in-Reference c =
    λ ls.
    let a = c.args in
    let w = words ls a.names.now a.edges.now a.state in
    rw c.in-Reference.is (does_as _ _ w _
    (λ h. E.vector_op_at (running_of w) a.mutable c.in-Reference.id.0)
    (does_then _ _ _ _ _ (c.vector_test-s.ensures ls)
    (c.release.ensures ls)))

pub returns-in-NonReference : goal.returns-in-NonReference
unfolding R.vector_op
returns-in-NonReference c = λ ls. rw c.in-NonReference.is (c.refuse.ensures ls _ _)
