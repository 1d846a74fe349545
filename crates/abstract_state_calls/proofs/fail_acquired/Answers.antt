use Rattle.std.specs.Prelude.{[], ◌∷◌}
use mathlib.Core.Path.{ap, ◌∙◌}
use mathlib.Core.Option.{Option}
use Rattle.std.specs.Prelude.{ℕ}
use Rattle.abstract_state.specs.Models.{words, running_of}
use Rattle.abstract_state.specs.ModelLaws.{does_as}
use Rattle.abstract_state_calls.specs.Models.{acquiring}
use Rattle.abstract_state_calls.specs.AcquireLaws.{alone, acquire_lowest}
use Rattle.abstract_state_calls.proofs.fail_acquired.Goals as goal

pub returns-in-Some : goal.returns-in-Some
returns-in-Some c =
    let a = c.args in
    λ ls. let w = words ls a.names.now a.edges.now a.state in
    does_as (acquiring (c.in-Some.low ∷ [])) (acquiring a.acquired.now) w _
    (λ h. ap (λ (l : Option ℕ). acquiring (alone l) (running_of w)) (c.in-Some.ensures ls h) ∙ acquire_lowest (running_of w) a.acquired.now)
    (c.fail_global.ensures ls)

pub returns-in-None : goal.returns-in-None
returns-in-None c =
    let a = c.args in
    λ ls. let w = words ls a.names.now a.edges.now a.state in
    does_as (acquiring []) (acquiring a.acquired.now) w _
    (λ h. ap (λ (l : Option ℕ). acquiring (alone l) (running_of w)) (c.in-None.ensures ls h) ∙ acquire_lowest (running_of w) a.acquired.now)
    (c.ask_root.ensures ls _)
