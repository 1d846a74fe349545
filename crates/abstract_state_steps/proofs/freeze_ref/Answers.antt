use Rattle.abstract_state.specs.Models.{words, running_of}
use Rattle.abstract_state.specs.ModelLaws.{gives_as, gives_then}
use Rattle.abstract_state_steps.specs.EntryLaws as E
use Rattle.abstract_state_steps.proofs.freeze_ref.Goals as goal

pub returns : goal.returns
returns c =
    λ ls.
    let a = c.args in
    let w = words ls a.names.now a.edges.now a.state in
    gives_as _ _ w _
    (λ h. E.freeze_at (running_of w) c.fresh-new.result.0 c.fresh-new.ensures a.id.0 _ _
    (c.is_mutable-m.ensures ls _ h) (c.has_consistent_mutable_borrows-b.ensures ls h))
    (gives_then _ _ _ _ _ (c.require_yes-s.ensures ls _ _)
    (gives_then _ _ _ _ _ (c.violate_if-t.ensures ls _ _)
    (gives_then _ _ _ _ _ (c.new_ref-u.ensures ls _)
    (gives_then _ _ _ _ _ (c.add_copy-v.ensures ls)
    (gives_then _ _ _ _ _ (c.release-w.ensures ls)
    (c.give.ensures ls _ _))))))
