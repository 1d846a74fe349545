use mathlib.Core.Path.{◌≡◌, sym, ap, ◌∙◌}
use mathlib.Core.Bool.{not, ◌&&◌}
use mathlib.Core.List.{List}
use Prim.Native.Nat.{ℕ, ◌≤◌}
use lib.Dec.{eqb}
use lib.ListN.{length}
use Rattle.meaning.specs.Answers.{Ans, ok}
use Rattle.meaning.specs.Lists.{keep, empty}
use Rattle.meaning.proofs.Laws.Array.{empty_length}
use Rattle.meaning.specs.BorrowGraph.{GEdge, well_formed, eq_pair, between_edges}
use Rattle.references.specs.Models.{edges_in}
use Rattle.references.specs.ModelLaws.{edges_count}
use Rattle.borrow_graph.specs.Models.{graph_in, Tells}
use native.Mathlib.Omega.{arith}
use Rattle.borrow_graph.proofs.lookups.between_edges.Goals as goal
use Rattle.borrow_graph.proofs.lookups.between_edges.Lts as lts
use Rattle.borrow_graph.proofs.lookups.between_edges.Reads as reads
use Rattle.borrow_graph.proofs.lookups.between_edges.Tie as tie

-- by the count whether there are any
counted : (out : List (List ℕ)) (n : ℕ) (xs : List GEdge) → edges_in out n ≡ xs → length out ≡ 96 → n ≤ 96 → eqb n 0 ≡ empty xs
counted out n xs e fit k = empty_length (edges_in out n) n (sym (edges_count out n (omega arith))) ∙ ap (λ (l : List GEdge). empty l) e

found : (c : (lts.After-select tie.the-claims reads.Pre reads.Post)) (ns : List ℕ) →
    let a = c.args in
    let g = graph_in ns a.edges.now a.g in
    Tells ns a.edges.now a.g → length a.out.now ≡ 96 → (a.g.formed && not (eqb c.select-n.result 0)) ≡ (well_formed g && not (empty (keep (λ x. eq_pair a.parent.0 a.child.0 x.parent x.child) g.edges)))
found c ns t fit =
    let s = c.select-n.ensures t.rows fit in
    λ i. t.formed i && not (counted _ _ _ s.0 s.1 s.2 i)

pub returns-then-g-none : goal.returns-then-g-none
unfolding between_edges
returns-then-g-none c = λ ns t fit. rw (sym (found c.before.before ns t fit) ∙ c.if-g-none.true) (ap {B = Ans (List GEdge)} ok (c.select-n.ensures t.rows fit).0)

pub returns : goal.returns
unfolding between_edges
returns c = λ ns t fit. rw (sym (found c.before.before ns t fit) ∙ c.if-g-none.false)
