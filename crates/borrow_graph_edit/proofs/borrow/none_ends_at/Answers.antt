use Rattle.std.proofs.Common.{rules, tests, ap, ◌∙◌, take, not, ◌&&◌, eqb}
use Rattle.std.proofs.lemmas.Iterator.{YieldsList-from_slice}
use Rattle.std.proofs.lemmas.Iterator.Search.{any_from_yields_List}
use Rattle.meaning.specs.BorrowGraph.{GEdge, moves}
use Rattle.meaning.proofs.Laws.Search.{list_any_of}
use Rattle.references.specs.Models.{row_of, edges_in, path_at}
use Rattle.borrow_graph_edit.specs.RowLaws.{none_of}
use Rattle.borrow_graph_edit.proofs.borrow.none_ends_at.Goals as goal

pub returns : goal.returns
unfolding edges_in
returns c e =
    let q = moves c.args.parent.0 (path_at c.args.path) in
    let r = λ (x : GEdge). eqb c.args.child.0 x.child in
    ap not
    (any_from_yields_List {all = take c.args.m c.args.edges.now} (λ x. q (row_of x) && r (row_of x)) _ _ c.any.result c.any.ensures.ran
    (YieldsList-from_slice _ cc) (λ x b f k. search (rules, tests))
    ∙ list_any_of (λ x. q x && r x) row_of _)
    ∙ none_of q r (edges_in c.args.edges.now c.args.m)
