use Rattle.std.proofs.Common.{arith, ◌≡◌, ◌≤◌, sym, ap, ◌∙◌, subst, length, take, drop, get_or, length-take, length-append, ◌+◌, ◌++◌, ◌∷◌, List, []}
use Rattle.meaning.specs.References.{EdgeSet}
use Rattle.meaning.specs.BorrowGraph.{GEdge, set_at}
use Rattle.paths.specs.Models.{ordering_of}
use Rattle.references.specs.Models.{edges_in, edge_in, set_of}
use Rattle.borrow_graph_edit.specs.Walks as W
use Rattle.borrow_graph_edit.specs.Walks.{Gathers}
use Rattle.borrow_graph_edit.specs.Shifts.{row_next, row_over}
use Rattle.borrow_graph_edit.proofs.pairs.between.Goals.{in-Less, in-Equal, in-Greater}
use Rattle.borrow_graph_edit.proofs.pairs.between.Goals as goal

pub loop-row-init : goal.loop-row-init
loop-row-init c =
    let a = c.args in
    let e = ap (λ (s : EdgeSet). length s.edges) c.new-set.ensures in
    (omega (arith, e), λ e f. W.gathers_none a.parent.0 a.child.0 (edges_in a.edges.now a.m) _ c.new-set.ensures)

pub loop-row-preserved : goal.loop-row-preserved
loop-row-preserved c =
    let l = c.loop-row in
    let a = c.args in
    let p = a.parent.0 in
    let k = a.child.0 in
    let es = edges_in a.edges.now a.m in
    let s = set_of l.set in
    let ahead = λ (e : length a.edges.now ≡ 96) (f : length (set_at p k es).edges ≤ 10).
    subst (λ (xs : List GEdge). Gathers p k es xs l.low s) (row_next a.edges.now a.m l.row-index [] c.loop-row-test.true) (l.invariant.1 e f) in
    elim c.match-side.branch [
      | in-Less w ↦
          rw (w.low-is, w.set-is) (omega (arith, l.invariant.0), λ e f. W.gathers_less p k es _ _ l.low s (ahead e f) (sym c.side.ensures ∙ ap ordering_of w.in-Less.is))
      | in-Equal w ↦
          let row = get_or (take a.m a.edges.now) l.row-index [] in
          let more = s.edges ++ (edge_in row ∷ []) in
          let size = ap (λ (t : EdgeSet). length t.edges) w.push_row.ensures in
          rw (w.low-is, w.set-is) (
            omega (arith, l.invariant.0, size, length-take 10 more, length-append s.edges (edge_in row ∷ [])),
            λ e f.
                subst (λ (t : EdgeSet). Gathers p k es (drop (l.row-index + 1) es) l.low t) (sym w.push_row.ensures)
                (W.gathers_equal p k es _ _ l.low s (ahead e f) (sym c.side.ensures ∙ ap ordering_of w.in-Equal.is) f),
          )
      | in-Greater w ↦
          rw (w.low-is, w.set-is) (omega (arith, l.invariant.0), λ e f. W.gathers_greater p k es _ _ l.low s (ahead e f) (sym c.side.ensures ∙ ap ordering_of w.in-Greater.is))
    ]

pub returns : goal.returns
returns c =
    let l = c.loop-row in
    let a = c.args in
    let es = edges_in a.edges.now a.m in (
      omega (arith, l.invariant.0, length-take a.m a.edges.now),
      λ e f.
          W.gathers_all a.parent.0 a.child.0 es l.low (set_of l.set)
          (subst (λ (xs : List GEdge). Gathers a.parent.0 a.child.0 es xs l.low (set_of l.set)) (row_over a.edges.now a.m l.row-index c.loop-row-test.false) (l.invariant.1 e f)),
    )
