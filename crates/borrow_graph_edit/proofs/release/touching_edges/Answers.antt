use Rattle.std.proofs.Common.{arith, sym, ◌∙◌, ◌≡◌, eqb, get_or, []}
use Rattle.std.proofs.Math.Path.{refl}
use Rattle.references.specs.Models.{row_of, edges_in}
use Rattle.references.specs.ModelLaws.{edges_next, edges_over}
use Rattle.borrow_graph_edit.specs.Ways.{entering, leaving, within_more, seen_hit, seen_miss, seen_all}
use Rattle.borrow_graph_edit.proofs.release.touching_edges.Goals.{then-eq+then-out, then-eq+else-out, else-eq+then-out-2, else-eq+else-out-2}
use Rattle.borrow_graph_edit.proofs.release.touching_edges.Goals as goal

pub loop-i-preserved : goal.loop-i-preserved
loop-i-preserved c =
    let l = c.loop-i in
    let a = c.args in
    let n = a.id.0 in
    let rows = a.edges.now in
    let es = edges_in rows a.m in
    let x = row_of (get_or rows l.i []) in
    let s = edges_next rows a.m [] l.i c.loop-i-test.true (omega (arith, c.told-edges, c.requires)) in
    let to : eqb n x.child ≡ c.eq.result = (λ i. eqb n (sym c.child.ensures i)) ∙ sym c.eq.ensures in
    let out : eqb n x.parent ≡ c.eq-out.result = (λ i. eqb n (sym c.parent.ensures i)) ∙ sym c.eq-out.ensures in
    elim c.if-eq.branch [
      | then-eq+then-out w ↦
          rw (w.to-is, w.one_more-to.ensures, w.from-is)
          (within_more l.to l.i (omega (arith, c.loop-i-test.true, c.requires)), tt, seen_hit (entering n) rows es x _ _ s l.to l.i refl (to ∙ w.if-eq.true) l.invariant.2, tt)
      | then-eq+else-out w ↦
          rw (w.to-is, w.one_more-to.ensures, w.from-is) (
            within_more l.to l.i (omega (arith, c.loop-i-test.true, c.requires)),
            l.invariant.1,
            seen_hit (entering n) rows es x _ _ s l.to l.i refl (to ∙ w.if-eq.true) l.invariant.2,
            seen_miss (leaving n) rows es x _ _ s l.from (out ∙ w.if-out.false) l.invariant.3,
          )
      | else-eq+then-out-2 w ↦
          rw (w.to-is, w.from-is, w.one_more-from.ensures) (
            l.invariant.0,
            within_more l.from l.i (omega (arith, c.loop-i-test.true, c.requires)),
            seen_miss (entering n) rows es x _ _ s l.to (to ∙ w.if-eq.false) l.invariant.2,
            seen_hit (leaving n) rows es x _ _ s l.from l.i refl (out ∙ w.if-out-2.true) l.invariant.3,
          )
      | else-eq+else-out-2 w ↦
          rw (w.to-is, w.from-is) (
            l.invariant.0,
            l.invariant.1,
            seen_miss (entering n) rows es x _ _ s l.to (to ∙ w.if-eq.false) l.invariant.2,
            seen_miss (leaving n) rows es x _ _ s l.from (out ∙ w.if-out-2.false) l.invariant.3,
          )
    ]

pub returns : goal.returns
returns c =
    let l = c.loop-i in
    let a = c.args in
    let rows = a.edges.now in
    let es = edges_in rows a.m in (
      l.invariant.0,
      l.invariant.1,
      λ e.
          let z = edges_over rows a.m l.i c.loop-i-test.false (omega (arith, e, c.requires)) in (
            seen_all (entering a.id.0) rows es l.to _ z l.invariant.2,
            seen_all (leaving a.id.0) rows es l.from _ z l.invariant.3,
          ),
    )
