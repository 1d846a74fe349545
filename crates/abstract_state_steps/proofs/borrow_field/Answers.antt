use Rattle.abstract_state.specs.Models.{words, running_of}
use Rattle.abstract_state.specs.ModelLaws.{gives_as, gives_then}
use Rattle.abstract_state_steps.specs.EntryLaws as E
use Rattle.abstract_state_steps.proofs.borrow_field.Goals as goal

pub returns : goal.returns
returns c =
    λ ls.
    let a = c.args in
    let w = words ls a.names.now a.edges.now a.state in
    gives_as _ _ w _
    (λ h. E.borrow_field_at (running_of w) c.fresh-new.result.0 c.fresh-new.ensures a.mutable a.id.0 a.field)
    (gives_then _ _ _ _ _ (c.violate_if_field_borrowed-s.ensures ls)
    (gives_then _ _ _ _ _ (c.new_ref-t.ensures ls _)
    (gives_then _ _ _ _ _ (c.add_field_borrow-u.ensures ls)
    (gives_then _ _ _ _ _ (c.release-v.ensures ls)
    (c.give.ensures ls _ _)))))
