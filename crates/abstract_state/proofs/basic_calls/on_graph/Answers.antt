use mathlib.Core.Path.{ap, ◌∙◌}
use Rattle.std.specs.Prelude.{ℕ}
use Rattle.meaning.specs.Answers.{Outcome, done, refused}
use Rattle.meaning.specs.EntryPoints.{Running, on_graph}
use Rattle.borrow_graph.specs.Models.{graph_in}
use Rattle.vm_status.specs.Models.{number_of}
use Rattle.abstract_state.specs.Models.{running_of, words}
use Rattle.vm_status.specs.NumberLaws.{number_known}
use Rattle.abstract_state.specs.ModelLaws.{does_as, does_then, goes, going, stays, halted_then, halted_known, passed_up}
use Rattle.abstract_state.proofs.basic_calls.on_graph.Goals as goal

pub returns-then-state : goal.returns-then-state
returns-then-state c =
    λ ls ns ns' es es' f q.
    let a = c.args in
    let s = a.state in
    let r = running_of (words ls ns es s) in
    let g = graph_in ns' es' a.g in
    record {
      fits = λ h. record { locals = h.locals; tells = (q h.tells).answers.tells };
      does = λ h.
          going _ s.violation s.borrowed_at.0 s.refusal _ c.if-state.true
          ∙ ap {B = Outcome Running} (λ (b : ℕ). done (record { locals = r.locals; graph = g; next = r.next; root = r.root; blurs = b; offset = r.offset })) c.count_on.ensures
          ∙ passed_up r c.in-Ok.blurred g (f r.graph) (rw c.in-Ok.is at (q h.tells).answers.answer) (rw c.in-Ok.is at (q h.tells).blurs)
          ∙ goes s.blurred s.violation s.borrowed_at.0 s.refusal r (λ k. on_graph k (f k.graph)) c.if-state.true;
    }

pub returns-else-state : goal.returns-else-state
returns-else-state c =
    λ ls ns ns' es es' f q.
    let a = c.args in
    let s = a.state in
    let r = running_of (words ls ns es s) in
    record {
      fits = λ h. record { locals = h.locals; tells = (q h.tells).answers.tells };
      does = λ h.
          stays s.blurred s.violation s.borrowed_at.0 s.refusal r (record { locals = r.locals; graph = graph_in ns' es' a.g; next = r.next; root = r.root; blurs = r.blurs; offset = r.offset })
          (λ k. on_graph k (f k.graph)) c.if-state.false;
    }

pub returns-in-Err : goal.returns-in-Err
returns-in-Err c =
    λ ls ns ns' es es' f q.
    let a = c.args in
    let s = a.state in
    let r = running_of (words ls ns es s) in
    let g = graph_in ns' es' a.g in
    let put : (Running → Running) = λ k. record { locals = k.locals; graph = g; next = k.next; root = k.root; blurs = k.blurs; offset = k.offset } in
    let n = number_of c.in-Err.e in
    does_as (λ k. refused n) _ _ _
    (λ h. ap (on_graph r) (rw c.in-Err.is at (q h.tells).answers.answer))
    (does_then (λ k. done (put k)) (λ k. refused n) _ _ _
    (record {
      fits = λ h. record { locals = h.locals; tells = (q h.tells).answers.tells };
      does = λ h. halted_then s.blurred s.violation s.borrowed_at.0 s.refusal r put;
    })
    (does_as _ _ _ _ (λ h. halted_known n _ (number_known c.in-Err.e)) (c.refuse.ensures ls _ _)))
