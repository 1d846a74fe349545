use Rattle.std.proofs.Common.{rules, tests, ◌∙◌, take, not, ◌&&◌}
use Rattle.std.proofs.lemmas.Iterator.{YieldsList-from_slice}
use Rattle.std.proofs.lemmas.Iterator.Consumers.{YieldsList-from_filter, count_from_yields_List}
use Rattle.meaning.specs.BorrowGraph.{GEdge, set_at, newly_blurred}
use Rattle.references.specs.Models.{row_of, edges_in}
use Rattle.borrow_graph_edit.specs.RowLaws.{filter_keeps}
use Rattle.borrow_graph_edit.proofs.blurs.newly_blurred.Goals as goal

pub returns : goal.returns
unfolding edges_in newly_blurred set_at
returns c o e =
    let es = edges_in c.args.old.now c.args.m in
    let fresh = λ (x : GEdge). x.blurred && not (set_at x.parent x.child es).blurred in
    count_from_yields_List c.filter.result c.count.result c.count.ensures.ran
    (YieldsList-from_filter _ (λ x. fresh (row_of x)) (YieldsList-from_slice (take c.args.n c.args.edges.now) cc) c.filter.ensures.closure (λ x b q k. search (rules, tests)))
    ∙ filter_keeps fresh row_of (take c.args.n c.args.edges.now)
