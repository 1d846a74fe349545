use Rattle.abstract_state.specs.declared.state.AbstractValue.TheVariants.{Reference, NonReference}
use Rattle.meaning.specs.AbstractState as S
use Rattle.abstract_state.specs.Models.{words, running_of}
use Rattle.abstract_state.specs.ModelLaws.{gives_as, gives_then}
use Rattle.abstract_state_steps.specs.EntryLaws as E
use Rattle.abstract_state_steps.proofs.move_loc.Goals as goal

pub returns-in-Some-Reference : goal.returns-in-Some-Reference
returns-in-Some-Reference c =
    let a = c.args in
    let w = words a.locals.now a.names.now a.edges.now a.state in
    gives_as _ _ w _
    (λ h. E.move_over (running_of w) a.i.0 (S.Local.ref c.in-Some-Reference.id.0)
    (E.local_told c.local.result _ (Reference c.in-Some-Reference.id) _ (c.local.ensures _ _ h) c.in-Some-Reference.is c.in-Some-Reference.field-0-is))
    (gives_then _ _ _ _ _ (c.set_local.ensures _ _ _)
    (c.give.ensures _ _ _))

pub returns-in-Some-NonReference : goal.returns-in-Some-NonReference
returns-in-Some-NonReference c =
    let a = c.args in
    let w = words a.locals.now a.names.now a.edges.now a.state in
    gives_as _ _ w _
    (λ h. E.move_value (running_of w) a.i.0 _
    (E.local_told c.local.result _ NonReference _ (c.local.ensures _ _ h) c.in-Some-NonReference.is c.in-Some-NonReference.field-0-is)
    (c.is_local_borrowed-b.ensures _ h))
    (gives_then _ _ _ _ _ (c.violate_if-s.ensures _ _ _)
    (gives_then _ _ _ _ _ (c.set_local-in-Some-NonReference.ensures _ _ _)
    (c.give-in-Some-NonReference.ensures _ _ _)))

pub returns-in-None : goal.returns-in-None
returns-in-None c =
    let a = c.args in
    let w = words a.locals.now a.names.now a.edges.now a.state in
    gives_as _ _ w _
    (λ h. E.move_over (running_of w) a.i.0 S.Local.absent
    (E.local_absent c.local.result _ (c.local.ensures _ _ h) c.in-None.is))
    (gives_then _ _ _ _ _ (c.refuse-s.ensures _ _ _)
    (c.give-in-None.ensures _ _ _))
