use Rattle.abstract_state.specs.Models.{words, running_of}
use Rattle.abstract_state.specs.ModelLaws.{gives_as, gives_then}
use Rattle.abstract_state_steps.specs.EntryLaws as E
use Rattle.abstract_state_steps.proofs.value_for_ref.Goals as goal

pub returns : goal.returns
returns c =
    λ ls es.
    let a = c.args in
    let w = words ls a.names.now es a.state in
    gives_as _ _ w _
    (λ h. E.value_at (running_of w) c.fresh-id.result.0 c.fresh-id.ensures a.mutable)
    (gives_then _ _ _ _ _ (c.new_ref-s.ensures ls es)
    (c.give.ensures ls _ es))
