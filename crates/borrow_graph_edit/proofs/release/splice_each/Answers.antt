use Rattle.std.proofs.Common.{ap, drop, get_or, List, []}
use Rattle.std.proofs.Math.Path.{refl}
use Rattle.meaning.specs.References.{Edge}
use Rattle.meaning.specs.Refinement.Passes.{splices}
use Rattle.vm_status.specs.Models.{number_of}
use Rattle.references.specs.Models.{edge_in, set_of}
use Rattle.references.specs.ModelLaws.{rows_step, rows_end}
use Rattle.borrow_graph_edit.specs.Edits.{turn_on, turn_off, err_is}
use Rattle.borrow_graph_edit.specs.RowLaws.{each_turn, insert_end}
use Rattle.borrow_graph_edit.proofs.release.splice_each.Goals as goal

pub loop-x-init : goal.loop-x-init
loop-x-init c = refl

pub returns-in_err-splice_one : goal.returns-in_err-splice_one
returns-in_err-splice_one c =
    let l = c.loop-x in
    let a = c.args in
    let x = edge_in (get_or c.rows-x-items.result.now l.x-index []) in
    let g = rows_step c.rows-x-items.result.now (set_of a.parents.now).edges c.rows-x-items.ensures [] l.x-index c.loop-x-test.true in
    rw (err_is c.from_residual.result c.in_err-splice_one.field-0.0 c.from_residual.ensures.1)
    (turn_off _ _ _ (each_turn x _ _ x g (set_of l.set) _ (set_of a.children.now).edges l.invariant) (number_of c.in_err-splice_one.field-0.0) c.in_err-splice_one.ensures)

pub loop-x-preserved : goal.loop-x-preserved
loop-x-preserved c =
    let l = c.loop-x in
    let a = c.args in
    let x = edge_in (get_or c.rows-x-items.result.now l.x-index []) in
    let g = rows_step c.rows-x-items.result.now (set_of a.parents.now).edges c.rows-x-items.ensures [] l.x-index c.loop-x-test.true in
    turn_on _ _ _ (each_turn x _ _ x g (set_of l.set) _ (set_of a.children.now).edges l.invariant) _ c.in_ok-splice_one.ensures

pub returns : goal.returns
returns c =
    let l = c.loop-x in
    let a = c.args in
    let es = (set_of a.parents.now).edges in
    let fs = (set_of a.children.now).edges in
    insert_end (splices (drop l.x-index es) fs) (set_of l.set) _ (ap (λ (r : List Edge). splices r fs) (rows_end c.rows-x-items.result.now es c.rows-x-items.ensures l.x-index c.loop-x-test.false)) l.invariant
