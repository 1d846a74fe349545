use mathlib.Core.Path.{refl}
use Rattle.abstract_state.specs.Models.{running_of, words, halted}
use Rattle.abstract_state.specs.ModelLaws.{does_here, stays, stopped_by}
use Rattle.abstract_state.proofs.basic_calls.refuse.Goals as goal

pub returns-then-s : goal.returns-then-s
returns-then-s g c =
    λ ls ns es.
    let a = c.args in
    let s = a.state in
    does_here _ ls ns es _ _ refl (rw c.number.ensures (stopped_by s.blurred s.violation s.borrowed_at.0 s.refusal (running_of (words ls ns es s)) c.if-s.true (g.N.Numbered.number_is a.r)))

pub returns-else-s : goal.returns-else-s
returns-else-s g c =
    λ ls ns es.
    let a = c.args in
    let s = a.state in
    let r = running_of (words ls ns es s) in
    does_here _ ls ns es _ _ refl (stays s.blurred s.violation s.borrowed_at.0 s.refusal r r (λ q. halted 0 0 0 (g.N.Numbered.number_is a.r) q) c.if-s.false)
