use Rattle.std.proofs.Common.{rules, tests, ◌∙◌, take}
use Rattle.std.proofs.lemmas.Iterator.{YieldsList-from_slice}
use Rattle.std.proofs.lemmas.Iterator.Search.{any_from_yields_List}
use Rattle.meaning.specs.BorrowGraph.{moves}
use Rattle.meaning.proofs.Laws.Search.{list_any_of}
use Rattle.references.specs.Models.{row_of, edges_in, path_at}
use Rattle.borrow_graph_edit.proofs.borrow.any_moves.Goals as goal

pub returns : goal.returns
unfolding edges_in
returns c e =
    any_from_yields_List {all = take c.args.m c.args.edges.now} (λ x. moves c.args.parent.0 (path_at c.args.path) (row_of x)) _ _ c.any.result c.any.ensures.ran
    (YieldsList-from_slice _ cc) (λ x b q k. search (rules, tests))
    ∙ list_any_of (moves c.args.parent.0 (path_at c.args.path)) row_of _
