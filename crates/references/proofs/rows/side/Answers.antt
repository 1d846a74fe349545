use Rattle.std.proofs.Common.{arith, sym, ap, ◌∙◌}
use lib.Dec.{ltb, eqb}
use Rattle.std.proofs.Math.ListN.{get_or}
use borrow.Author.Tests.{ltb-true, ltb-false, eqb-true, eqb-false}
use Rattle.meaning.proofs.Laws.Base.{decide}
use Rattle.paths.specs.Models.{ordering_of}
use Rattle.references.specs.RowLaws.{side_less, side_equal, side_greater}
use Rattle.references.proofs.rows.side.Goals as goal

pub returns : goal.returns
returns c =
    let x = c.args.x.now in
    let w = get_or x 0 0 in
    let e = c.ends.result in
    let p = c.ends.ensures.0 in
    let q = c.ends.ensures.1 in
    ap ordering_of c.cmp.ensures ∙ decide (ltb w e)
    (λ t. rw t (sym (side_less _ _ e x p q (ltb-true w e t))))
    (λ t. decide (eqb w e)
    (λ s. rw (t, s) (sym (side_equal _ _ e x p q (eqb-true w e s))))
    (λ s. let l = ltb-false w e t in let d = eqb-false w e s in rw (t, s) (sym (side_greater _ _ e x p q (omega arith)))))
