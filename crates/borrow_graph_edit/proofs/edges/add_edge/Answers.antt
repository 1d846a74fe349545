use mathlib.Core.Path.{◌≡◌, refl, sym, ap, ◌∙◌}
use mathlib.Core.Bool.{false}
use mathlib.Core.List.{List, ◌∷◌, ◌++◌}
use lib.ListN.{length, take, drop}
use Rattle.meaning.specs.Answers.{Ans, ok}
use Rattle.meaning.specs.Lists.{keep}
use Rattle.meaning.specs.BorrowGraph.{GEdge, is_before}
use Rattle.meaning.specs.Refinement.Pairs.{edges_at}
use Rattle.references.specs.Models.{row_of, edges_in}
use Rattle.references.specs.ModelLaws.{edges_count}
use Rattle.borrow_graph_edit.specs.Places.{first_fits, first_over, first_blurs}
use Rattle.borrow_graph_edit.specs.Replaces.{row_short}
use Rattle.borrow_graph_edit.specs.Shifts.{row_put}
use native.Mathlib.Omega.{arith}
use Rattle.borrow_graph_edit.proofs.edges.add_edge.Goals as goal

pub returns-then-m-ge-MAX_EDGES : goal.returns-then-m-ge-MAX_EDGES
returns-then-m-ge-MAX_EDGES c =
    let pre = c.requires in
    let parent' = c.parent-p in
    let child' = c.child-c in
    let place = c.place-at in
    let a = c.args in
    let es = edges_in a.edges.now a.m in (
      tt,
      λ e w.
          let n = edges_count a.edges.now a.m (omega (arith, e, pre)) in
          let s = (place.ensures.1 e).1 ∙ (λ i. length (edges_at (parent'.ensures i) (child'.ensures i) es)) in
          (e, sym (first_over es (row_of a.x) 0 w (row_short a.x) (omega (arith, s, c.if-at-gt0.false)) (omega (arith, n, c.if-m-ge-MAX_EDGES.true))), refl, tt),
    )

pub returns : goal.returns
returns c =
    let pre = c.requires in
    let parent' = c.parent-p in
    let child' = c.child-c in
    let place = c.place-at in
    let if1 = c.if-at-gt0 in
    let if2 = c.if-m-ge-MAX_EDGES in
    let tagged = c.tagged-row in
    let a = c.args in
    let es = edges_in a.edges.now a.m in (
      omega (arith, if2.false),
      λ e w.
          let n = edges_count a.edges.now a.m (omega (arith, e, pre)) in
          let s = (place.ensures.1 e).1 ∙ (λ i. length (edges_at (parent'.ensures i) (child'.ensures i) es)) in
          let b = (place.ensures.1 e).0 ∙ (λ i. length (keep (is_before (parent'.ensures i) (child'.ensures i)) es)) in
          let y : row_of tagged.result ≡ record { parent = (row_of a.x).parent; child = (row_of a.x).child; blurred = false; edge = (row_of a.x).edge } =
          tagged.ensures ∙ (λ i. record { parent = parent'.ensures i; child = child'.ensures i; blurred = false; edge = (row_of a.x).edge }) in
          let z = row_put a.edges.now c.insert_at.new.xs a.m place.result.low tagged.result (c.insert_at.ensures.front (omega (arith, place.ensures.0)) (omega (arith, if2.false))) in (
            c.insert_at.ensures.len ∙ e,
            ap {B = Ans (List GEdge)} ok (z ∙ ap (λ (g : GEdge). take place.result.low es ++ (g ∷ drop place.result.low es)) y)
                ∙ sym (first_fits es (row_of a.x) place.result.low w (row_short a.x) (omega (arith, s, if1.false)) b (omega (arith, n, if2.false))),
            tt,
            sym (first_blurs es (row_of a.x) place.result.low w (row_short a.x) (omega (arith, s, if1.false)) b _ (z ∙ ap (λ (g : GEdge). take place.result.low es ++ (g ∷ drop place.result.low es)) y)),
          ),
    )
