use Rattle.std.specs.Prelude.{ℕ}
use mathlib.Core.Path.{refl, ap, ◌∙◌}
use mathlib.Core.Option.{Option}
use Rattle.std.proofs.Common.{reverse}
use Rattle.std.proofs.lemmas.List.{map-append, reverse-append, reverse-reverse}
use Rattle.std.proofs.lemmas.Iterator.Adapters.{YieldsList-from_rev_slice}
use Rattle.std.proofs.lemmas.Iterator.Consumers.{YieldsList-end}
use Rattle.meaning.specs.EntryPoints.{Running}
use Rattle.borrow_graph.specs.Folds.{lower_if}
use Rattle.abstract_state.specs.Models.{words, running_of}
use Rattle.abstract_state_calls.specs.Models.{is_borrowed, lowest_borrowed}
use Rattle.abstract_state_calls.proofs.lowest_borrowed.Goals as goal

pub loop-r-init : goal.loop-r-init
unfolding lowest_borrowed
loop-r-init c = λ ls h. refl

pub loop-r-preserved : goal.loop-r-preserved
unfolding lowest_borrowed
loop-r-preserved c =
    let a = c.args in
    let x : ℕ = c.in-Some.r.now in
    λ ls h.
    let r : Running = running_of (words ls a.names.now a.edges.now a.state) in
    simp (map-append, reverse-append) (c.lower_borrowed-low.ensures ls h ∙ ap (λ (m : Option ℕ). lower_if (is_borrowed r x) x m) (c.loop-r.invariant ls h))

pub returns : goal.returns
returns c =
    let a = c.args in
    let end = YieldsList-end (YieldsList-from_rev_slice a.resources.now cc) c.loop-r.yielded _ c.loop-r.yielded_by _ _ c.in-None.is c.next.ensures.steps in
    λ ls h. c.loop-r.invariant ls h ∙ ap (lowest_borrowed (running_of (words ls a.names.now a.edges.now a.state))) (ap reverse end.0 ∙ reverse-reverse a.resources.now)
