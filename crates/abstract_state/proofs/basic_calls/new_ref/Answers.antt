use mathlib.Core.Path.{refl}
use borrow.Author.Tests.{lt-ltb, le-ltb}
use Rattle.meaning.specs.Answers.{ok, refuse, refused, done}
use Rattle.meaning.specs.EntryPoints.{new_ref}
use Rattle.borrow_graph.specs.Models.{graph_in}
use Rattle.vm_status.specs.Models.{number_of}
use Rattle.abstract_state.specs.Models.{running_of, words}
use Rattle.vm_status.specs.NumberLaws.{number_known}
use Rattle.abstract_state.specs.ModelLaws.{does_as, does_then, halted_then, halted_known, named, next_named}
use Rattle.abstract_state.proofs.basic_calls.new_ref.Goals as goal

pub returns-in-Ok : goal.returns-in-Ok
returns-in-Ok c =
    λ ls es.
    let a = c.args in
    let s = a.state in
    let r = running_of (words ls a.names.now es s) in
    let g = graph_in c.new_ref-a.new.names es c.new_ref-a.new.g in
    does_as (λ q. done (named q g)) (new_ref a.mutable) _ _
    (λ h. next_named a.mutable r (ok g) (lt-ltb _ _ c.if-state-lt-NAME_END.true) (rw c.in-Ok.is at (c.new_ref-a.ensures es h.tells).answer))
    (record {
      fits = λ h. record { locals = h.locals; tells = (c.new_ref-a.ensures es h.tells).tells };
      does = λ h. halted_then s.blurred s.violation s.borrowed_at.0 s.refusal r (λ q. named q g);
    })

pub returns-in-Err : goal.returns-in-Err
returns-in-Err c =
    λ ls es.
    let a = c.args in
    let s = a.state in
    let r = running_of (words ls a.names.now es s) in
    let g = graph_in c.new_ref-a.new.names es c.new_ref-a.new.g in
    let n = number_of c.in-Err.e in
    does_as (λ q. refused n) (new_ref a.mutable) _ _
    (λ h. next_named a.mutable r (refuse n) (lt-ltb _ _ c.if-state-lt-NAME_END.true) (rw c.in-Err.is at (c.new_ref-a.ensures es h.tells).answer))
    (does_then (λ q. done (named q g)) (λ q. refused n) _ _ _
    (record {
      fits = λ h. record { locals = h.locals; tells = (c.new_ref-a.ensures es h.tells).tells };
      does = λ h. halted_then s.blurred s.violation s.borrowed_at.0 s.refusal r (λ q. named q g);
    })
    (does_as _ _ _ _ (λ h. halted_known n _ (number_known c.in-Err.e)) (c.refuse.ensures ls _ es)))

pub returns : goal.returns
unfolding new_ref
returns c = λ ls es. does_as _ _ _ _ (λ h. rw (le-ltb _ _ c.if-state-lt-NAME_END.false) refl) (c.refuse-2.ensures ls _ es)
