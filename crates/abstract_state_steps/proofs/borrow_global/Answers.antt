use Rattle.abstract_state.specs.Models.{words, running_of}
use Rattle.abstract_state.specs.ModelLaws.{gives_as, gives_then}
use Rattle.abstract_state_steps.specs.EntryLaws as E
use Rattle.abstract_state_steps.proofs.borrow_global.Goals as goal

pub returns : goal.returns
returns c =
    λ ls.
    let a = c.args in
    let w = words ls a.names.now a.edges.now a.state in
    let r = running_of w in
    gives_as _ _ w _
    (λ h. E.borrow_global_at r c.fresh-new.result.0 c.fresh-new.ensures a.mutable a.resource)
    (gives_then _ _ _ _ _ (c.violate_if_resource_borrowed-s.ensures ls)
    (gives_then _ _ _ _ _ (c.new_ref-t.ensures ls _)
    (gives_then _ _ _ _ _ (c.add_resource_borrow-u.ensures ls)
    (c.give.ensures ls _ _))))
