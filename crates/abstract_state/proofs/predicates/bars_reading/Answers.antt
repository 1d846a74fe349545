use mathlib.Core.Path.{◌∙◌}
use Rattle.std.specs.Prelude.{true, false}
use Rattle.meaning.specs.Answers.{ok}
use Rattle.meaning.specs.BorrowGraph.{borrows_mutably}
use Rattle.references.specs.Models.{filter_of}
use Rattle.borrow_graph.specs.Models.{graph_in}
use Rattle.borrow_graph_edit.specs.Edits.{err_is}
use Rattle.abstract_state.specs.ModelLaws.{barred}
use Rattle.abstract_state.proofs.predicates.bars_reading.Goals as goal

pub returns-in_err-is_mutable : goal.returns-in_err-is_mutable
returns-in_err-is_mutable c =
    λ ls h.
    let a = c.args in
    let g = graph_in a.names.now a.edges.now a.state.borrow_graph in
    rw (err_is c.from_residual.result c.in_err-is_mutable.field-0.0 c.from_residual.ensures.1)
    (barred g a.id.0 (borrows_mutably g a.id.0 (filter_of a.at)) _ (c.in_err-is_mutable.ensures ls _ h))

pub returns-then-branch : goal.returns-then-branch
returns-then-branch c =
    λ ls h.
    let a = c.args in
    let g = graph_in a.names.now a.edges.now a.state.borrow_graph in
    c.has_consistent_mutable_borrows.ensures ls h ∙ barred g a.id.0 (borrows_mutably g a.id.0 (filter_of a.at)) (ok true) (rw c.if-branch.true at (c.in_ok-is_mutable.ensures ls _ h))

pub returns : goal.returns
returns c =
    λ ls h.
    let a = c.args in
    let g = graph_in a.names.now a.edges.now a.state.borrow_graph in
    barred g a.id.0 (borrows_mutably g a.id.0 (filter_of a.at)) (ok false) (rw c.if-branch.false at (c.in_ok-is_mutable.ensures ls _ h))
