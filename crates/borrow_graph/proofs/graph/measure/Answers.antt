use mathlib.Core.Path.{◌≡◌, sym, ap, ◌∙◌}
use Rattle.meaning.specs.BorrowGraph.{Graph, well_formed}
use Rattle.references.specs.Models.{names_in, edges_in}
use Rattle.borrow_graph.specs.ModelLaws.{names_cut, edges_cut}
use native.Mathlib.Omega.{arith}
use Rattle.borrow_graph.proofs.graph.measure.Goals as goal

pub returns : goal.returns
returns c =
    λ few fit.
    let a = c.args in
    let g : Graph = record { names = names_in a.names.now c.lesser.result; edges = edges_in a.edges.now c.lesser-2.result } in
    let h : Graph = record { names = names_in a.names.now a.n; edges = edges_in a.edges.now a.m } in
    let e : g ≡ h =
    λ i. record {
      names = (ap (names_in a.names.now) c.lesser.ensures ∙ names_cut a.names.now a.n few) i;
      edges = (ap (edges_in a.edges.now) c.lesser-2.ensures ∙ edges_cut a.edges.now a.m fit) i;
    } in
    (record { words = few; rows = fit; refs = omega arith; edges = omega arith; formed = c.well_formed-formed.ensures few fit ∙ ap well_formed (sym e) }, e)
