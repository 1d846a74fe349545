use Rattle.abstract_state.specs.Models.{words, running_of}
use Rattle.abstract_state.specs.ModelLaws.{does_as, does_then}
use Rattle.abstract_state_steps.specs.EntryLaws as E
use Rattle.abstract_state_steps.proofs.write_ref.Goals as goal

pub returns : goal.returns
returns c =
    λ ls.
    let a = c.args in
    let w = words ls a.names.now a.edges.now a.state in
    does_as _ _ w _
    (λ h. E.write_at (running_of w) a.id.0 _ _
    (c.is_mutable-m.ensures ls _ h) (c.has_consistent_borrows-b.ensures ls h))
    (does_then _ _ _ _ _ (c.require_yes-s.ensures ls _ _)
    (does_then _ _ _ _ _ (c.violate_if-t.ensures ls _ _)
    (c.release.ensures ls)))
