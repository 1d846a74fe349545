use Rattle.std.proofs.Common.{arith, ◌≡◌, sym, ap, ◌∙◌, subst, length, length-take, List, []}
use Rattle.meaning.specs.BorrowGraph.{GEdge}
use Rattle.paths.specs.Models.{ordering_of}
use Rattle.references.specs.Models.{edges_in}
use Rattle.borrow_graph_edit.specs.Walks.{Counts, counts_less, counts_equal, counts_greater, counts_all}
use Rattle.borrow_graph_edit.specs.Shifts.{row_next, row_over}
use Rattle.borrow_graph_edit.proofs.pairs.place.Goals.{in-Less, in-Equal, in-Greater}
use Rattle.borrow_graph_edit.proofs.pairs.place.Goals as goal

pub loop-x-init : goal.loop-x-init
loop-x-init c = (omega arith, λ e. record { lower = omega arith; own = omega arith })

pub loop-x-preserved : goal.loop-x-preserved
loop-x-preserved c =
    let l = c.loop-x in
    let a = c.args in
    let p = a.parent.0 in
    let k = a.child.0 in
    let es = edges_in a.edges.now a.m in
    let ahead = λ (e : length a.edges.now ≡ 96).
    subst (λ (xs : List GEdge). Counts p k es xs l.low l.size) (row_next a.edges.now a.m l.x-index [] c.loop-x-test.true) (l.invariant.1 e) in
    elim c.match-side.branch [
      | in-Less w ↦ (omega arith, λ e. counts_less p k es _ _ l.low l.size (ahead e) _ _ (sym c.side.ensures ∙ ap ordering_of w.in-Less.is) w.low-is w.size-is)
      | in-Equal w ↦ (omega arith, λ e. counts_equal p k es _ _ l.low l.size (ahead e) _ _ (sym c.side.ensures ∙ ap ordering_of w.in-Equal.is) w.low-is w.size-is)
      | in-Greater w ↦ (omega arith, λ e. counts_greater p k es _ _ l.low l.size (ahead e) _ _ (sym c.side.ensures ∙ ap ordering_of w.in-Greater.is) w.low-is w.size-is)
    ]

pub returns : goal.returns
returns c =
    let l = c.loop-x in
    let a = c.args in
    let es = edges_in a.edges.now a.m in (
      omega (arith, length-take a.m a.edges.now),
      λ e.
          counts_all a.parent.0 a.child.0 es l.low l.size
          (subst (λ (xs : List GEdge). Counts a.parent.0 a.child.0 es xs l.low l.size) (row_over a.edges.now a.m l.x-index c.loop-x-test.false) (l.invariant.1 e)),
    )
