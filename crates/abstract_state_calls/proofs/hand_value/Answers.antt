use mathlib.Core.Path.{ap, ◌∙◌}
use Rattle.std.specs.Prelude.{ℕ}
use mathlib.Core.Option.{Option}
use Rattle.meaning.specs.Answers.{Ans}
use Rattle.meaning.specs.EntryPoints.{hand_over}
use Rattle.vm_status.specs.Models.{code_of}
use Rattle.vm_status.specs.NumberLaws.{code_known}
use Rattle.abstract_state.specs.Models.{words, running_of, failing}
use Rattle.abstract_state.specs.ModelLaws.{does_as, does_nothing}
use Rattle.abstract_state_calls.specs.CallLaws.{hand_one}
use Rattle.abstract_state_calls.proofs.hand_value.Goals as goal

pub returns-in-Reference : goal.returns-in-Reference
returns-in-Reference c =
    let a = c.args in
    λ ls. let w = words ls a.names.now a.edges.now a.state in
    rw c.in-Reference.is
    (does_as _ _ w _
    (λ h. ap (λ (t : Ans (Option ℕ)). failing t (code_of a.code) (running_of w)) (c.bars_handing_over-b.ensures ls h) ∙ hand_one c.in-Reference.id.0 (code_of a.code) (running_of w) (code_known a.code))
    (c.violate_if.ensures ls _ _))

pub returns-in-NonReference : goal.returns-in-NonReference
unfolding hand_over
returns-in-NonReference c = λ ls. rw c.in-NonReference.is (does_nothing _)
