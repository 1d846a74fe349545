use Rattle.std.proofs.Common.{sym, ◌∙◌, get_or, []}
use Rattle.std.proofs.Math.Path.{refl}
use Rattle.vm_status.specs.Models.{number_of}
use Rattle.meaning.proofs.Laws.Pass.{offer_ok}
use Rattle.references.specs.Models.{edge_in, set_of}
use Rattle.references.specs.ModelLaws.{rows_step, rows_end}
use Rattle.borrow_graph_edit.specs.Edits.{turn_on, turn_off, err_is}
use Rattle.borrow_graph_edit.specs.JoinLaws.{skip_covered, take_uncovered, none_left}
use Rattle.borrow_graph_edit.proofs.join.join_sets.Goals.{then-not-covers+in_ok-insert, else-not-covers}
use Rattle.borrow_graph_edit.proofs.join.join_sets.Goals as goal

pub loop-x-init : goal.loop-x-init
loop-x-init c = refl

pub returns-in_err-insert : goal.returns-in_err-insert
returns-in_err-insert c =
    let a = c.args in
    let l = c.loop-x in
    let x = edge_in (get_or c.rows-x-items.result.now l.x-index []) in
    let g = rows_step c.rows-x-items.result.now (set_of a.theirs.now).edges c.rows-x-items.ensures [] l.x-index c.loop-x-test.true in
    rw (err_is c.from_residual.result c.in_err-insert.field-0.0 c.from_residual.ensures.1)
    (turn_off _ _ _ (take_uncovered (set_of a.ours.now).edges _ (set_of l.ours) _ l.invariant x _ g (sym c.covers.ensures ∙ c.if-not-covers.true)) (number_of c.in_err-insert.field-0.0) (c.in_err-insert.ensures.0 ∙ offer_ok _ _))

pub loop-x-preserved : goal.loop-x-preserved
loop-x-preserved c =
    let a = c.args in
    let l = c.loop-x in
    let us = (set_of a.ours.now).edges in
    let x = edge_in (get_or c.rows-x-items.result.now l.x-index []) in
    let g = rows_step c.rows-x-items.result.now (set_of a.theirs.now).edges c.rows-x-items.ensures [] l.x-index c.loop-x-test.true in
    elim c.if-not-covers.branch [
      | then-not-covers+in_ok-insert w ↦
          rw w.ours-is (turn_on _ _ _ (take_uncovered us _ (set_of l.ours) _ l.invariant x _ g (sym c.covers.ensures ∙ w.if-not-covers.true)) _ (w.in_ok-insert.ensures.0 ∙ offer_ok _ _))
      | else-not-covers w ↦ rw w.ours-is (skip_covered us _ (set_of l.ours) _ l.invariant x _ g (sym c.covers.ensures ∙ w.if-not-covers.false))
    ]

pub returns : goal.returns
returns c =
    let a = c.args in
    let l = c.loop-x in
    none_left (set_of a.ours.now).edges _ (set_of l.ours) _ l.invariant (rows_end c.rows-x-items.result.now (set_of a.theirs.now).edges c.rows-x-items.ensures l.x-index c.loop-x-test.false)
