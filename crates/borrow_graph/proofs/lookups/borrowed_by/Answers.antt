use mathlib.Core.Path.{◌≡◌, sym, ap, ◌∙◌}
use mathlib.Core.Bool.{true, false, ◌&&◌}
use Rattle.meaning.specs.Answers.{Ans, ok}
use Rattle.meaning.specs.BorrowGraph.{well_formed, held, is_mutable, Borrows, borrowed_by}
use Rattle.borrow_graph.specs.Models.{graph_in}
use Rattle.borrow_graph.specs.Folds.{borrows_in}
use Rattle.borrow_graph.proofs.lookups.borrowed_by.Goals as goal

pub returns-then-g-h : goal.returns-then-g-h
unfolding borrowed_by borrows_in is_mutable
returns-then-g-h c =
    λ t.
    let a = c.args in
    let g = graph_in a.names.now a.edges.now a.g in
    let h : (well_formed g && held g a.id.0) ≡ true = (λ i. sym t.formed i && sym (c.holds-h.ensures t.words) i) ∙ c.if-g-h.true in
    rw h (ap {B = Ans Borrows} ok (c.borrows.ensures t.words t.rows))

pub returns : goal.returns
unfolding borrowed_by
returns c =
    λ t.
    let a = c.args in
    let g = graph_in a.names.now a.edges.now a.g in
    let h : (well_formed g && held g a.id.0) ≡ false = (λ i. sym t.formed i && sym (c.holds-h.ensures t.words) i) ∙ c.if-g-h.false in
    rw h
