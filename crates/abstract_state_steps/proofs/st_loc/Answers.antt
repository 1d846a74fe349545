use Rattle.abstract_state.specs.declared.state.AbstractValue.TheVariants.{Reference, NonReference}
use Rattle.meaning.specs.AbstractState as S
use Rattle.abstract_state.specs.Models.{operand_of, words, running_of}
use Rattle.abstract_state.specs.ModelLaws.{does_as, does_then}
use Rattle.abstract_state_steps.specs.EntryLaws as E
use Rattle.abstract_state_steps.proofs.st_loc.Goals as goal

pub returns-in-Some-Reference : goal.returns-in-Some-Reference
returns-in-Some-Reference c =
    let a = c.args in
    let w = words a.locals.now a.names.now a.edges.now a.state in
    does_as _ _ w _
    (λ h. E.store_over (running_of w) a.i.0 (operand_of a.new) (S.Local.ref c.in-Some-Reference.id.0)
    (E.local_told c.local-old.result _ (Reference c.in-Some-Reference.id) _ (c.local-old.ensures _ _ h) c.in-Some-Reference.is (rw c.in-Some-Reference.is at c.in-Some-Reference.field-0-is)))
    (does_then _ _ _ _ _ (c.set_local.ensures _ _ _)
    (c.release.ensures _))

pub returns-in-Some-NonReference : goal.returns-in-Some-NonReference
returns-in-Some-NonReference c =
    let a = c.args in
    let w = words a.locals.now a.names.now a.edges.now a.state in
    does_as _ _ w _
    (λ h. E.store_value (running_of w) a.i.0 (operand_of a.new) _
    (E.local_told c.local-old.result _ NonReference _ (c.local-old.ensures _ _ h) c.in-Some-NonReference.is (rw c.in-Some-NonReference.is at c.in-Some-NonReference.field-0-is))
    (c.is_local_borrowed-b.ensures _ h))
    (does_then _ _ _ _ _ (c.set_local.ensures _ _ _)
    (c.violate_if.ensures _ _ _))

pub returns-in-None : goal.returns-in-None
returns-in-None c =
    let a = c.args in
    let w = words a.locals.now a.names.now a.edges.now a.state in
    does_as _ _ w _
    (λ h. E.store_over (running_of w) a.i.0 (operand_of a.new) S.Local.absent
    (E.local_absent c.local-old.result _ (c.local-old.ensures _ _ h) c.in-None.is))
    (c.set_local.ensures _ _ _)
