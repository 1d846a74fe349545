use mathlib.Core.Path.{ap, ◌∙◌}
use Rattle.std.specs.Prelude.{ℕ, [], ◌∷◌}
use mathlib.Core.Option.{Option}
use Rattle.meaning.specs.Limits.{GLOBAL_REFERENCE}
use Rattle.meaning.specs.Answers.{Ans}
use Rattle.borrow_graph.specs.Models.{low_of}
use Rattle.abstract_state.specs.Models.{words, running_of, failing}
use Rattle.abstract_state.specs.ModelLaws.{does_as}
use Rattle.abstract_state_calls.specs.Models.{acquiring}
use Rattle.abstract_state_calls.specs.AcquireLaws.{acquire_one}
use Rattle.abstract_state_calls.proofs.fail_global.Goals as goal

pub returns : goal.returns
returns c =
    let a = c.args in
    let b = c.is_global_borrowed-b in
    λ ls. let w = words ls a.names.now a.edges.now a.state in
    does_as (failing (low_of b.result) GLOBAL_REFERENCE) (acquiring (a.resource ∷ [])) w _
    (λ h. ap (λ (t : Ans (Option ℕ)). failing t GLOBAL_REFERENCE (running_of w)) (b.ensures ls h) ∙ acquire_one a.resource (running_of w))
    (c.violate_if.ensures ls _ _)
