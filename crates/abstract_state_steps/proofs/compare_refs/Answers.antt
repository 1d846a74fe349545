use Rattle.abstract_state.specs.Models.{words, running_of}
use Rattle.abstract_state.specs.ModelLaws.{gives_as, gives_then}
use Rattle.abstract_state_steps.specs.EntryLaws as E
use Rattle.abstract_state_steps.proofs.compare_refs.Goals as goal

pub returns : goal.returns
returns c =
    λ ls.
    let a = c.args in
    let w = words ls a.names.now a.edges.now a.state in
    gives_as _ _ w _
    (λ h. E.compare_at (running_of w) a.id1.0 a.id2.0)
    (gives_then _ _ _ _ _ (c.violate_if_unreadable-s.ensures ls)
    (gives_then _ _ _ _ _ (c.violate_if_unreadable-t.ensures ls)
    (gives_then _ _ _ _ _ (c.release-u.ensures ls)
    (gives_then _ _ _ _ _ (c.release-v.ensures ls)
    (c.give.ensures ls _ _)))))
