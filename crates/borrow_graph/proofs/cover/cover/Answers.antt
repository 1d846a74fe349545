use Rattle.std.proofs.Common.{rules, tests, ◌∙◌, map, take}
use Rattle.std.proofs.lemmas.Iterator.{YieldsList-from_slice}
use Rattle.std.proofs.lemmas.Iterator.Search.{all_from_yields_List}
use Rattle.meaning.specs.Lists.{all}
use Rattle.meaning.specs.Laws.Cover.{covered_in}
use Rattle.meaning.proofs.Laws.Search.{list_all_of}
use Rattle.references.specs.Models.{row_of}
use Rattle.borrow_graph.specs.ModelLaws.{edges_read}
use Rattle.borrow_graph.proofs.cover.cover.Goals as goal

pub returns : goal.returns
returns c =
    λ few fit.
    let a = c.args in
    let q = covered_in (map row_of (take c.lesser.result a.edges.now)) in
    all_from_yields_List {all = take c.lesser-2.result a.edges2.now} (λ r. q (row_of r)) _ _ c.all.result c.all.ensures.ran (YieldsList-from_slice _ cc) (λ x b f k. search (rules, tests))
    ∙ list_all_of q row_of _ ∙ (λ i. all (covered_in (edges_read a.edges.now a.m _ c.lesser.ensures few i)) (edges_read a.edges2.now a.k _ c.lesser-2.ensures fit i))
