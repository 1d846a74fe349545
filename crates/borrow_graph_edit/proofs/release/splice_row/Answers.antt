use Rattle.std.proofs.Common.{sym, ◌∙◌, not, ◌&&◌, take, get_or, []}
use Rattle.std.proofs.Math.Path.{refl}
use Rattle.vm_status.specs.Models.{number_of}
use Rattle.meaning.specs.Refinement.Pairs.{across}
use Rattle.meaning.specs.Refinement.Passes.{splice_set}
use Rattle.meaning.proofs.Laws.Pass.{splice_set_ok, pass_neat}
use Rattle.references.specs.Models.{row_of, edges_in}
use Rattle.borrow_graph_edit.specs.Edits.{turn_on, turn_off, err_is}
use Rattle.borrow_graph_edit.specs.PassLaws.{child_turn, child_skip, child_end}
use Rattle.borrow_graph_edit.specs.Shifts.{row_next, row_over}
use Rattle.borrow_graph_edit.proofs.release.splice_row.Goals.{then-eq+in_ok-n, else-eq}
use Rattle.borrow_graph_edit.proofs.release.splice_row.Goals as goal

pub loop-x-init : goal.loop-x-init
loop-x-init c = (c.requires.0, λ e o k n. (e, k, refl))

pub returns-in_err-n : goal.returns-in_err-n
returns-in_err-n c =
    let a = c.args in
    let l = c.loop-x in
    let es = edges_in a.old.now a.m in
    let new = splice_set es a.id.0 in
    let f = across (record { parent = a.parent.0; child = a.id.0 }) in
    rw (err_is c.from_residual.result c.in_err-n.field-0.0 c.from_residual.ensures.1) (
      tt,
      λ e o k n.
          let v = l.invariant.1 e o k n in
          let w = c.in_err-n.ensures.1 v.0 o v.1 n in
          let s = row_next a.old.now a.m l.x-index [] c.loop-x-test.true in
          let u = child_turn a.shrinking new a.id.0 l.last.0 f (edges_in l.edges l.n) _ _ c.parent-p.result.0 c.child-c.result.0 (row_of (get_or (take a.m a.old.now) l.x-index [])) _ s
          c.parent-p.ensures c.child-c.ensures v.2 ((λ i. sym c.eq.ensures i && not (sym c.eq-in-loop-x.ensures i)) ∙ c.if-eq.true) in
          (w.0, turn_off _ _ _ u (number_of c.in_err-n.field-0.0) w.1),
    )

pub loop-x-preserved : goal.loop-x-preserved
loop-x-preserved c =
    let a = c.args in
    let l = c.loop-x in
    let es = edges_in a.old.now a.m in
    let new = splice_set es a.id.0 in
    let f = across (record { parent = a.parent.0; child = a.id.0 }) in
    let y = row_of (get_or (take a.m a.old.now) l.x-index []) in
    let s = row_next a.old.now a.m l.x-index [] c.loop-x-test.true in
    elim c.if-eq.branch [
      | then-eq+in_ok-n w ↦ rw (w.edges-is, w.n-is, w.last-is) (
        w.in_ok-n.ensures.0,
        λ e o k n.
            let v = l.invariant.1 e o k n in
            let z = w.in_ok-n.ensures.1 v.0 o v.1 n in
            let u = child_turn a.shrinking new a.id.0 l.last.0 f (edges_in l.edges l.n) _ _ c.parent-p.result.0 c.child-c.result.0 y _ s c.parent-p.ensures c.child-c.ensures v.2
            ((λ i. sym c.eq.ensures i && not (sym c.eq-in-loop-x.ensures i)) ∙ w.if-eq.true) in (
              z.0,
              pass_neat a.shrinking new (splice_set_ok es a.id.0 n) (f (record { parent = a.id.0; child = c.child-c.result.0 })) (edges_in l.edges l.n) _ v.1 (sym z.1),
              turn_on _ _ _ u _ z.1,
            ),
      )
      | else-eq w ↦ rw (w.edges-is, w.n-is, w.last-is) (
        l.invariant.0,
        λ e o k n.
            let v = l.invariant.1 e o k n in (
              v.0,
              v.1,
              child_skip a.shrinking new a.id.0 l.last.0 f (edges_in l.edges l.n) _ _ c.parent-p.result.0 c.child-c.result.0 y _ s c.parent-p.ensures c.child-c.ensures v.2
                  ((λ i. sym c.eq.ensures i && not (sym c.eq-in-loop-x.ensures i)) ∙ w.if-eq.false),
            ),
      )
    ]

pub returns : goal.returns
returns c =
    let a = c.args in
    let l = c.loop-x in
    let es = edges_in a.old.now a.m in
    let f = across (record { parent = a.parent.0; child = a.id.0 }) in (
      l.invariant.0,
      λ e o k n.
          let v = l.invariant.1 e o k n in (
            v.0,
            child_end a.shrinking (splice_set es a.id.0) a.id.0 l.last.0 f (edges_in l.edges l.n) _ _
                (row_over a.old.now a.m l.x-index c.loop-x-test.false) v.2,
          ),
    )
