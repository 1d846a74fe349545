use mathlib.Core.Path.{refl, ◌∙◌}
use Rattle.abstract_state.specs.Models.{running_of, words, halted}
use Rattle.abstract_state.specs.ModelLaws.{does_here, goes, stays, new_violation}
use Rattle.abstract_state.proofs.basic_calls.violate.Goals as goal

pub returns-then-state : goal.returns-then-state
returns-then-state g c =
    λ ls ns es.
    let a = c.args in
    let s = a.state in
    let r = running_of (words ls ns es s) in
    let n = g.C.Numbered.number_is a.code in
    does_here _ ls ns es _ _ refl
    (rw c.number.ensures
    (new_violation s.blurred s.violation s.borrowed_at.0 s.refusal r c.if-state.true n a.at.0
    ∙ goes s.blurred s.violation s.borrowed_at.0 s.refusal r (λ q. halted q.blurs n a.at.0 0 q) c.if-state.true))

pub returns-else-state : goal.returns-else-state
returns-else-state g c =
    λ ls ns es.
    let a = c.args in
    let s = a.state in
    let r = running_of (words ls ns es s) in
    does_here _ ls ns es _ _ refl (stays s.blurred s.violation s.borrowed_at.0 s.refusal r r (λ q. halted q.blurs (g.C.Numbered.number_is a.code) a.at.0 0 q) c.if-state.false)
