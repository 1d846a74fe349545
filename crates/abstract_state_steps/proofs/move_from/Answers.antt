use Rattle.abstract_state.specs.Models.{words, running_of}
use Rattle.abstract_state.specs.ModelLaws.{gives_as, gives_then}
use Rattle.abstract_state_steps.specs.EntryLaws as E
use Rattle.abstract_state_steps.proofs.move_from.Goals as goal

pub returns : goal.returns
returns c =
    λ ls.
    let a = c.args in
    let w = words ls a.names.now a.edges.now a.state in
    gives_as _ _ w _
    (λ h. E.move_from_at (running_of w) a.resource _ (c.is_global_borrowed-b.ensures ls h))
    (gives_then _ _ _ _ _ (c.violate_if-s.ensures ls _ _)
    (c.give.ensures ls _ _))
