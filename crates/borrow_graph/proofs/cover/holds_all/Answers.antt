use Rattle.std.proofs.Common.{rules, tests, ap, ◌∙◌, take}
use Rattle.std.proofs.lemmas.Iterator.{YieldsList-from_slice}
use Rattle.std.proofs.lemmas.Iterator.Search.{all_from_yields_List}
use Rattle.meaning.specs.Lists.{all}
use Rattle.meaning.specs.Area.{name_in}
use Rattle.meaning.specs.BorrowGraph.{Name, holds}
use Rattle.meaning.proofs.Laws.Search.{list_all_of}
use Rattle.references.specs.Models.{names_in}
use Rattle.borrow_graph.specs.ModelLaws.{names_read}
use Rattle.borrow_graph.proofs.cover.holds_all.Goals as goal

pub returns : goal.returns
returns c =
    λ few fit.
    let a = c.args in
    let q = λ (m : Name). holds (names_in a.names.now a.n) m.id in
    all_from_yields_List {all = take c.lesser.result a.names2.now} (λ w. q (name_in w)) _ _ c.all.result c.all.ensures.ran (YieldsList-from_slice _ cc) (λ x b f k. search (rules, tests))
    ∙ list_all_of q name_in _ ∙ ap (all q) (names_read a.names2.now a.k _ c.lesser.ensures fit)
