use Rattle.meaning.specs.EntryPoints.{bars_reading}
use Rattle.references.specs.Models.{filter_of}
use Rattle.vm_status.specs.Models.{code_of}
use Rattle.vm_status.specs.NumberLaws.{code_known}
use Rattle.abstract_state.specs.Models.{words, running_of}
use Rattle.abstract_state.specs.ModelLaws.{does_as}
use Rattle.abstract_state_steps.specs.EntryLaws as E
use Rattle.abstract_state_steps.proofs.violate_if_unreadable.Goals as goal

pub returns : goal.returns
returns c =
    λ ls.
    let a = c.args in
    let w = words ls a.names.now a.edges.now a.state in
    does_as _ _ w _
    (λ h. E.test_at (running_of w) a.id.0 (code_of a.code) (bars_reading (running_of w).graph a.id.0 (filter_of a.at)) _ (code_known a.code)
    (c.bars_reading-b.ensures ls h))
    (c.violate_if.ensures ls _ _)
