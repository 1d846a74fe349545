use mathlib.Core.Path.{refl}
use Rattle.meaning.specs.BorrowGraph.{borrows_fully}
use Rattle.abstract_state.specs.Models.{words, running_of}
use Rattle.abstract_state.specs.ModelLaws.{does_as}
use Rattle.abstract_state_steps.specs.EntryLaws as E
use Rattle.abstract_state_steps.proofs.violate_if_field_borrowed.Goals as goal

pub returns-then-mutable : goal.returns-then-mutable
returns-then-mutable c =
    λ ls.
    let a = c.args in
    let w = words ls a.names.now a.edges.now a.state in
    rw c.if-mutable.true (does_as _ _ w _
    (λ h. E.test_at (running_of w) a.id.0 108 (borrows_fully a.id.0) _ refl
    (c.has_full_borrows-b.ensures ls h))
    (c.violate_if.ensures ls _ _))

pub returns : goal.returns
returns c = λ ls. rw c.if-mutable.false (c.violate_if_unreadable.ensures ls)
