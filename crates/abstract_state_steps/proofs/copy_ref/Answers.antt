use Rattle.abstract_state.specs.Models.{words, running_of}
use Rattle.abstract_state.specs.ModelLaws.{gives_as, gives_then}
use Rattle.abstract_state_steps.specs.EntryLaws as E
use Rattle.abstract_state_steps.proofs.copy_ref.Goals as goal

pub returns : goal.returns
returns c =
    λ ls.
    let a = c.args in
    let w = words ls a.names.now a.edges.now a.state in
    let m = c.is_mutable-m.result in
    gives_as _ _ w _
    (λ h. E.copy_at (running_of w) c.fresh-new.result.0 c.fresh-new.ensures a.id.0 m
    (c.is_mutable-m.ensures ls _ h))
    (gives_then _ _ _ _ _ (c.pass_refusal-s.ensures ls _ _)
    (gives_then _ _ _ _ _ (rw c.unwrap_or.ensures at (c.new_ref-t.ensures ls a.edges.now))
    (gives_then _ _ _ _ _ (c.add_copy-u.ensures ls)
    (c.give.ensures ls _ _))))
