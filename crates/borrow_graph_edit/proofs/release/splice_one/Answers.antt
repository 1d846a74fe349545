use Rattle.std.proofs.Common.{ap, ◌∙◌, drop, get_or, List, [], map}
use Rattle.std.proofs.Math.Path.{refl}
use Rattle.vm_status.specs.Models.{number_of}
use Rattle.meaning.specs.References.{Edge, Offered, offer}
use Rattle.meaning.proofs.Laws.Pass.{offer_fitting}
use Rattle.meaning.specs.BorrowGraph.{splice}
use Rattle.references.specs.Models.{row_of, edge_in, set_of}
use Rattle.references.specs.ModelLaws.{rows_step, rows_end}
use Rattle.borrow_graph_edit.specs.Edits.{turn_on, turn_off, err_is}
use Rattle.borrow_graph_edit.specs.RowLaws.{one_turn, insert_end}
use Rattle.borrow_graph_edit.proofs.release.splice_one.Goals as goal

pub loop-y-init : goal.loop-y-init
loop-y-init c = refl

pub returns-in_err-insert : goal.returns-in_err-insert
returns-in_err-insert c =
    let l = c.loop-y in
    let a = c.args in
    let d = (row_of a.parent.now).edge in
    let rows = c.rows-y-items.result.now in
    let x = edge_in (get_or rows l.y-index []) in
    let s = set_of l.set in
    let g = rows_step rows (set_of a.children.now).edges c.rows-y-items.ensures [] l.y-index c.loop-y-test.true in
    rw (err_is c.from_residual.result c.in_err-insert.field-0.0 c.from_residual.ensures.1)
    (turn_off _ _ _ (one_turn d _ _ x g s _ l.invariant) (number_of c.in_err-insert.field-0.0) (c.in_err-insert.ensures.0 ∙ ap (λ (o : Offered). offer s o) c.splice.ensures.0 ∙ offer_fitting s (splice d x)))

pub loop-y-preserved : goal.loop-y-preserved
loop-y-preserved c =
    let l = c.loop-y in
    let a = c.args in
    let d = (row_of a.parent.now).edge in
    let rows = c.rows-y-items.result.now in
    let x = edge_in (get_or rows l.y-index []) in
    let s = set_of l.set in
    let g = rows_step rows (set_of a.children.now).edges c.rows-y-items.ensures [] l.y-index c.loop-y-test.true in
    turn_on _ _ _ (one_turn d _ _ x g s _ l.invariant) _ (c.in_ok-insert.ensures.0 ∙ ap (λ (o : Offered). offer s o) c.splice.ensures.0 ∙ offer_fitting s (splice d x))

pub returns : goal.returns
returns c =
    let l = c.loop-y in
    let es = (set_of c.args.children.now).edges in
    let d = (row_of c.args.parent.now).edge in
    insert_end (map (splice d) (drop l.y-index es)) (set_of l.set) _ (ap (λ (r : List Edge). map (splice d) r) (rows_end c.rows-y-items.result.now es c.rows-y-items.ensures l.y-index c.loop-y-test.false)) l.invariant
