use mathlib.Core.Path.{ap, ◌∙◌}
use Rattle.std.specs.Prelude.{true, false, Err}
use mathlib.Core.Option.{none}
use Rattle.meaning.specs.Answers.{ok}
use Rattle.meaning.specs.BorrowGraph.{borrows}
use Rattle.borrow_graph.specs.Models.{graph_in}
use Rattle.std.proofs.lemmas.Result.{err_from_is_err_and}
use Rattle.abstract_state.specs.ModelLaws.{barred}
use Rattle.abstract_state_calls.proofs.bars_handing_over.Goals as goal

pub returns-in_err-is_mutable : goal.returns-in_err-is_mutable
returns-in_err-is_mutable c =
    λ ls h.
    let a = c.args in
    let g = graph_in a.names.now a.edges.now a.state.borrow_graph in
    let z = err_from_is_err_and c.from_residual.result c.from_residual.ensures.1 in
    rw (z.1 ∙ ap Err z.2)
    (barred g a.id.0 (borrows a.id.0 none) _ (c.in_err-is_mutable.ensures ls _ h))

pub returns-then-branch : goal.returns-then-branch
returns-then-branch c =
    λ ls h.
    let a = c.args in
    let g = graph_in a.names.now a.edges.now a.state.borrow_graph in
    c.has_consistent_borrows.ensures ls h ∙ barred g a.id.0 (borrows a.id.0 none) (ok true) (rw c.if-branch.true at (c.in_ok-is_mutable.ensures ls _ h))

pub returns : goal.returns
returns c =
    λ ls h.
    let a = c.args in
    let g = graph_in a.names.now a.edges.now a.state.borrow_graph in
    barred g a.id.0 (borrows a.id.0 none) (ok false) (rw c.if-branch.false at (c.in_ok-is_mutable.ensures ls _ h))
