use Rattle.references.specs.Models.{filter_of}
use Rattle.borrow_graph.specs.Models.{graph_in}
use Rattle.borrow_graph_edit.specs.Edits.{err_is}
use Rattle.abstract_state.specs.ModelLaws.{asked}
use Rattle.abstract_state.proofs.predicates.has_consistent_mutable_borrows.Goals as goal

pub returns-in_err-b : goal.returns-in_err-b
returns-in_err-b c =
    λ ls h.
    let a = c.args in
    rw (err_is c.from_residual.result c.in_err-b.field-0.0 c.from_residual.ensures.1)
    (asked (graph_in a.names.now a.edges.now a.state.borrow_graph) a.id.0 (filter_of c.args.at) (λ x. x.mutable) _ (c.in_err-b.ensures h.tells))

pub returns : goal.returns
returns c =
    λ ls h.
    let a = c.args in
    asked (graph_in a.names.now a.edges.now a.state.borrow_graph) a.id.0 (filter_of c.args.at) (λ x. x.mutable) _ (c.in_ok-b.ensures h.tells)
