use Rattle.std.proofs.Common.{rules, tests, sym, ◌∙◌, take}
use Rattle.std.proofs.lemmas.Iterator.{YieldsList-from_slice}
use Rattle.std.proofs.lemmas.Iterator.Search.{any_from_yields_List}
use Rattle.meaning.proofs.Laws.Blurs.{set_at_blurred}
use Rattle.meaning.proofs.Laws.Search.{list_any_of}
use Rattle.references.specs.Models.{row_of, edges_in}
use Rattle.borrow_graph_edit.specs.Models.{blurred_at}
use Rattle.borrow_graph_edit.proofs.blurs.is_blurred_in.Goals as goal

pub returns : goal.returns
unfolding edges_in
returns c e =
    any_from_yields_List {all = take c.args.m c.args.edges.now} (λ x. blurred_at c.args.p.0 c.args.c.0 (row_of x)) _ _ c.any.result c.any.ensures.ran
    (YieldsList-from_slice _ cc) (λ x b q k. search (rules, tests))
    ∙ list_any_of (blurred_at c.args.p.0 c.args.c.0) row_of _
    ∙ sym (set_at_blurred c.args.p.0 c.args.c.0 (edges_in c.args.edges.now c.args.m))
