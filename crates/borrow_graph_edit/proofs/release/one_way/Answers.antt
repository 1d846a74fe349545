use Rattle.std.proofs.Common.{sym, ◌∙◌, eqb}
use Rattle.references.specs.Models.{row_of}
use Rattle.borrow_graph_edit.specs.Ways.{only_way}
use Rattle.borrow_graph_edit.proofs.release.one_way.Goals as goal

pub returns-in-Fits : goal.returns-in-Fits
returns-in-Fits c =
    let a = c.args in
    let e = c.in-Fits.ensures in
    only_way (row_of a.x.now) (row_of a.y.now) (row_of c.in-Fits.row) e.0 e.1 e.2
    ((λ i. eqb (sym c.parent.ensures i) (sym c.child.ensures i)) ∙ sym c.eq.ensures ∙ c.if-eq.false)
