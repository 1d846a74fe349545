use mathlib.Core.Path.{◌≡◌, sym, ap, ◌∙◌}
use mathlib.Core.Bool.{Bool, ◌&&◌}
use Rattle.meaning.specs.Answers.{Ans, ok}
use Rattle.meaning.specs.Lists.{all}
use Rattle.meaning.specs.BorrowGraph.{well_formed, held, covering}
use Rattle.meaning.proofs.Laws.Cover.{unmatched_none}
use Rattle.references.specs.Models.{names_in}
use Rattle.borrow_graph.specs.Models.{graph_in, Tells}
use Rattle.borrow_graph.proofs.cover.leq.Goals as goal
use Rattle.borrow_graph.proofs.cover.leq.Lts as lts
use Rattle.borrow_graph.proofs.cover.leq.Reads as reads
use Rattle.borrow_graph.proofs.cover.leq.Tie as tie

asked : (c : (lts.After-holds_all tie.the-claims reads.Pre reads.Post)) →
    let a = c.args in
    let g = graph_in a.names.now a.edges.now a.g in
    let h = graph_in a.names2.now a.edges2.now a.h in
    Tells a.names.now a.edges.now a.g → Tells a.names2.now a.edges2.now a.h → ((a.g.formed && a.h.formed) && c.holds_all-held.result) ≡ ((well_formed g && well_formed h) && all (λ m. held g m.id) (names_in a.names2.now a.h.refs))
asked c t u = λ i. (t.formed i && u.formed i) && c.holds_all-held.ensures t.words u.words i

pub returns-then-g-h : goal.returns-then-g-h
unfolding covering
returns-then-g-h c =
    λ t u.
    let a = c.args in
    rw (sym (asked c.before.before.before.before t u) ∙ c.if-g-h.true) (ap {B = Ans Bool} ok (c.cover.ensures t.rows u.rows ∙ sym (unmatched_none (graph_in a.names.now a.edges.now a.g) (graph_in a.names2.now a.edges2.now a.h))))

pub returns : goal.returns
unfolding covering
returns c = λ t u. rw (sym (asked c.before.before.before t u) ∙ c.if-g-h.false)
