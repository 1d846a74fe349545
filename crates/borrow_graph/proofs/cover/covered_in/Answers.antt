use Rattle.std.proofs.Common.{rules, tests, ◌∙◌}
use Rattle.std.proofs.lemmas.Iterator.{YieldsList-from_slice}
use Rattle.std.proofs.lemmas.Iterator.Search.{any_from_yields_List}
use Rattle.meaning.specs.Laws.Cover.{covers_at, covered_in}
use Rattle.meaning.proofs.Laws.Search.{list_any_of}
use Rattle.references.specs.Models.{row_of}
use Rattle.borrow_graph.proofs.cover.covered_in.Goals as goal

pub returns : goal.returns
unfolding covered_in
returns c =
    let q = covers_at (row_of c.args.x.now) in
    any_from_yields_List {all = c.args.edges.now} (λ r. q (row_of r)) _ _ c.any.result c.any.ensures.ran (YieldsList-from_slice _ cc) (λ y b f k. search (rules, tests))
    ∙ list_any_of q row_of c.args.edges.now
