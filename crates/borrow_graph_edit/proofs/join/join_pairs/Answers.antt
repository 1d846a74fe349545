use Rattle.std.proofs.Common.{sym, ap, ◌∙◌, not, ◌&&◌, take, get_or, [], ◌∷◌}
use Rattle.std.proofs.Math.Path.{refl}
use Rattle.vm_status.specs.Models.{number_of}
use Rattle.meaning.specs.Refinement.Passes.{join_set}
use Rattle.meaning.proofs.Laws.Pass.{join_set_ok, pass_neat}
use Rattle.references.specs.Models.{row_of, edges_in}
use Rattle.borrow_graph_edit.specs.Edits.{turn_on, turn_off, err_is}
use Rattle.borrow_graph_edit.specs.JoinLaws.{skip_pair, take_pair, no_pair_left}
use Rattle.borrow_graph_edit.specs.Shifts.{row_next, row_over}
use Rattle.borrow_graph_edit.proofs.join.join_pairs.Goals.{then-not-eq+in_ok-count, else-not-eq}
use Rattle.borrow_graph_edit.proofs.join.join_pairs.Goals as goal

pub loop-x-init : goal.loop-x-init
loop-x-init c = (c.requires.0, λ le lo lt ne no nt. (le, ne, refl))

pub returns-in_err-count : goal.returns-in_err-count
returns-in_err-count c =
    let a = c.args in
    let l = c.loop-x in
    let new = join_set (edges_in a.ours.now a.k) (edges_in a.theirs.now a.n) in
    let x = row_of (get_or (take a.n a.theirs.now) l.x-index []) in
    let s = row_next a.theirs.now a.n l.x-index [] c.loop-x-test.true in
    rw (err_is c.from_residual.result c.in_err-count.field-0.0 c.from_residual.ensures.1) (
      tt,
      λ le lo lt ne no nt.
          let q = l.invariant.1 le lo lt ne no nt in
          let z = c.in_err-count.ensures.1 q.0 lo lt q.1 no nt in
          let u = take_pair a.shrinking new l.prior_parent.0 l.prior_child.0 (edges_in l.edges l.count) _ _ q.2 x _ s c.parent-p.result.0 c.child-c.result.0 c.parent-p.ensures c.child-c.ensures
          (ap not ((λ i. sym c.eq.ensures i && sym c.eq-in-loop-x.ensures i) ∙ c.if-not-eq.true)) in
          (z.0, turn_off _ _ _ u (number_of c.in_err-count.field-0.0) z.1),
    )

pub loop-x-preserved : goal.loop-x-preserved
loop-x-preserved c =
    let a = c.args in
    let l = c.loop-x in
    let os = edges_in a.ours.now a.k in
    let ts = edges_in a.theirs.now a.n in
    let new = join_set os ts in
    let x = row_of (get_or (take a.n a.theirs.now) l.x-index []) in
    let s = row_next a.theirs.now a.n l.x-index [] c.loop-x-test.true in
    elim c.if-not-eq.branch [
      | then-not-eq+in_ok-count w ↦ rw (w.edges-is, w.count-is, w.prior_parent-is, w.prior_child-is) (
        w.in_ok-count.ensures.0,
        λ le lo lt ne no nt.
            let q = l.invariant.1 le lo lt ne no nt in
            let z = w.in_ok-count.ensures.1 q.0 lo lt q.1 no nt in
            let u = take_pair a.shrinking new l.prior_parent.0 l.prior_child.0 (edges_in l.edges l.count) _ _ q.2 x _ s c.parent-p.result.0 c.child-c.result.0 c.parent-p.ensures c.child-c.ensures
            (ap not ((λ i. sym c.eq.ensures i && sym c.eq-in-loop-x.ensures i) ∙ w.if-not-eq.true)) in (
              z.0,
              pass_neat a.shrinking new (join_set_ok os ts no) (record { parent = c.parent-p.result.0; child = c.child-c.result.0 } ∷ []) (edges_in l.edges l.count) _ q.1 (sym z.1),
              turn_on _ _ _ u _ z.1,
            ),
      )
      | else-not-eq w ↦ rw (w.edges-is, w.count-is, w.prior_parent-is, w.prior_child-is) (
        l.invariant.0,
        λ le lo lt ne no nt.
            let q = l.invariant.1 le lo lt ne no nt in (
              q.0,
              q.1,
              skip_pair a.shrinking new l.prior_parent.0 l.prior_child.0 (edges_in l.edges l.count) _ _ q.2 x _ s c.parent-p.result.0 c.child-c.result.0 c.parent-p.ensures c.child-c.ensures
                  (ap not ((λ i. sym c.eq.ensures i && sym c.eq-in-loop-x.ensures i) ∙ w.if-not-eq.false)),
            ),
      )
    ]

pub returns : goal.returns
returns c =
    let a = c.args in
    let l = c.loop-x in (
      l.invariant.0,
      λ le lo lt ne no nt.
          let q = l.invariant.1 le lo lt ne no nt in
          let new = join_set (edges_in a.ours.now a.k) (edges_in a.theirs.now a.n) in
          (q.0, no_pair_left a.shrinking new l.prior_parent.0 l.prior_child.0 (edges_in l.edges l.count) _ _ q.2 (row_over a.theirs.now a.n l.x-index c.loop-x-test.false)),
    )
