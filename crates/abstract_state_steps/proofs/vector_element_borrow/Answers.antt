use mathlib.Core.Path.{refl}
use Rattle.meaning.specs.EntryPoints as R
use Rattle.abstract_state.specs.Models.{words, running_of}
use Rattle.abstract_state.specs.ModelLaws.{gives_as, gives_then}
use Rattle.abstract_state_steps.specs.EntryLaws as E
use Rattle.abstract_state_steps.proofs.vector_element_borrow.Goals as goal

pub returns-in-Reference : goal.returns-in-Reference
returns-in-Reference c =
    λ ls.
    let a = c.args in
    let w = words ls a.names.now a.edges.now a.state in
    rw c.in-Reference.is (gives_as _ _ w _
    (λ h. E.element_at (running_of w) c.fresh-new.result.0 c.fresh-new.ensures a.mutable c.in-Reference.id.0)
    (gives_then _ _ _ _ _ (c.vector_test-s.ensures ls)
    (gives_then _ _ _ _ _ (c.new_ref-t.ensures ls _)
    (gives_then _ _ _ _ _ (c.add_borrow-u.ensures ls)
    (gives_then _ _ _ _ _ (c.release-v.ensures ls)
    (c.give.ensures ls _ _))))))

pub returns-in-NonReference : goal.returns-in-NonReference
unfolding R.vector_element_borrow
returns-in-NonReference c =
    λ ls.
    rw c.in-NonReference.is (gives_as _ _ _ _ (λ h. refl) (gives_then _ _ _ _ _ (c.refuse-s.ensures ls _ _)
    (c.give-in-NonReference.ensures ls _ _)))
