use Rattle.std.specs.Prelude.{◌≡◌, Bool, true, false, ◌&&◌, ◌||◌}
use mathlib.Core.Path.{refl, ap, ◌∙◌}
use mathlib.Core.Option.{some}
use Rattle.meaning.specs.Labels.{global_label}
use Rattle.meaning.specs.BorrowGraph.{GEdge, of_name, borrows, is_mutable}
use Rattle.meaning.specs.EntryPoints.{bars_resource_borrow}
use Rattle.meaning.proofs.Laws.Lowest.{lowest_same}
use Rattle.abstract_state.specs.Models.{words, running_of}
use Rattle.abstract_state.specs.ModelLaws.{does_as}
use Rattle.abstract_state_steps.specs.EntryLaws as E
use Rattle.abstract_state_steps.proofs.violate_if_resource_borrowed.Goals as goal

-- a mutable borrow is a borrow
either : (b m : Bool) → b ≡ b || (b && m)
either true m = refl
either false m = refl

pub returns-then-mutable : goal.returns-then-mutable
returns-then-mutable c =
    λ ls.
    let a = c.args in
    let w = words ls a.names.now a.edges.now a.state in
    let g = (running_of w).graph in
    let n = (running_of w).root in
    let p = borrows n (some (global_label a.resource)) in
    rw c.if-mutable.true (does_as _ _ w _
    (λ h. E.test_at (running_of w) n 109 (bars_resource_borrow true g n a.resource) _ refl
    (c.is_global_borrowed-b.ensures ls h
    ∙ ap (of_name g n) (lowest_same p (bars_resource_borrow true g n a.resource) (λ (x : GEdge). either (p x) (is_mutable g x.child)) g.edges)))
    (c.violate_if.ensures ls _ _))

pub returns : goal.returns
returns c =
    λ ls.
    let a = c.args in
    let w = words ls a.names.now a.edges.now a.state in
    let g = (running_of w).graph in
    let n = (running_of w).root in
    rw c.if-mutable.false (does_as _ _ w _
    (λ h. E.test_at (running_of w) n 109 (bars_resource_borrow false g n a.resource) _ refl
    (c.is_global_mutably_borrowed-b.ensures ls h))
    (c.violate_if-2.ensures ls _ _))
