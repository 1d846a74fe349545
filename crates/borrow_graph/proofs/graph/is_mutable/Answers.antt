use mathlib.Core.Path.{◌≡◌, sym, ap, ◌∙◌}
use mathlib.Core.Bool.{Bool, true, false, ◌&&◌}
use Rattle.meaning.specs.Answers.{Ans, ok}
use Rattle.meaning.specs.BorrowGraph.{well_formed, held, is_mutable, mutable_of}
use Rattle.borrow_graph.specs.Models.{graph_in}
use Rattle.borrow_graph.proofs.graph.is_mutable.Goals as goal

pub returns-then-g-h : goal.returns-then-g-h
unfolding mutable_of is_mutable
returns-then-g-h c =
    λ es t.
    let g = graph_in c.args.names.now es c.args.g in
    let h : (well_formed g && held g c.args.id.0) ≡ true = (λ i. sym t.formed i && sym (c.holds-h.ensures t.words) i) ∙ c.if-g-h.true in
    rw h (ap {B = Ans Bool} ok (c.is_mutable_in.ensures t.words))

pub returns : goal.returns
unfolding mutable_of
returns c =
    λ es t.
    let g = graph_in c.args.names.now es c.args.g in
    let h : (well_formed g && held g c.args.id.0) ≡ false = (λ i. sym t.formed i && sym (c.holds-h.ensures t.words) i) ∙ c.if-g-h.false in
    rw h
