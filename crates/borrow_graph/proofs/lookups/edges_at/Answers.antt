use mathlib.Core.Path.{◌≡◌, sym, ap, ◌∙◌}
use mathlib.Core.Bool.{true, false, ◌&&◌}
use mathlib.Core.List.{List}
use Rattle.meaning.specs.Answers.{Ans, ok}
use Rattle.meaning.specs.BorrowGraph.{GEdge, well_formed, held}
use Rattle.borrow_graph.specs.Models.{graph_in}
use Rattle.borrow_graph.proofs.lookups.edges_at.Goals as goal

pub returns-then-g-h : goal.returns-then-g-h
returns-then-g-h c =
    λ t fit.
    let a = c.args in
    let g = graph_in a.names.now a.edges.now a.g in
    let h : (well_formed g && held g a.id.0) ≡ true = (λ i. sym t.formed i && sym (c.holds-h.ensures t.words) i) ∙ c.if-g-h.true in
    rw h (ap {B = Ans (List GEdge)} ok (c.select.ensures t.rows fit).0)

pub returns : goal.returns
returns c =
    λ t fit.
    let a = c.args in
    let g = graph_in a.names.now a.edges.now a.g in
    let h : (well_formed g && held g a.id.0) ≡ false = (λ i. sym t.formed i && sym (c.holds-h.ensures t.words) i) ∙ c.if-g-h.false in
    rw h
