use Rattle.meaning.specs.BorrowGraph.{is_mutable}
use Rattle.vm_status.specs.Models.{code_of}
use Rattle.vm_status.specs.NumberLaws.{code_known}
use Rattle.abstract_state.specs.Models.{words, running_of}
use Rattle.abstract_state.specs.ModelLaws.{does_as, does_then}
use Rattle.abstract_state_steps.specs.EntryLaws as E
use Rattle.abstract_state_steps.proofs.vector_test.Goals as goal

pub returns-then-mutable : goal.returns-then-mutable
returns-then-mutable c =
    λ ls.
    let a = c.args in
    let w = words ls a.names.now a.edges.now a.state in
    rw c.if-mutable.true
    (does_as _ _ w _
    (λ h. E.vector_mutable (running_of w) a.id.0 (code_of a.code) _ _ (code_known a.code)
    (c.is_mutable-m.ensures ls _ h) (c.has_consistent_borrows-b.ensures ls h))
    (does_then _ _ _ _ _ (c.require_yes-s.ensures ls _ _)
    (c.violate_if.ensures ls _ _)))

pub returns : goal.returns
returns c =
    λ ls.
    let a = c.args in
    let w = words ls a.names.now a.edges.now a.state in
    rw c.if-mutable.false
    (does_as _ _ w _
    (λ h. E.heed_alone (running_of w) a.id.0 (is_mutable (running_of w).graph a.id.0) _ (c.is_mutable-m.ensures ls _ h))
    (c.pass_refusal.ensures ls _ _))
