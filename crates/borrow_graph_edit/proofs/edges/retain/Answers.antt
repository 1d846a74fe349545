use Rattle.std.proofs.Math.Path.{refl}
use Rattle.std.proofs.Common.{arith, sym, ◌∙◌, [], length-set}
use Rattle.borrow_graph_edit.specs.RowLaws.{keep_none, keep_off, keep_on, keep_all}
use Rattle.borrow_graph_edit.proofs.edges.retain.Goals.{then-test, else-test}
use Rattle.borrow_graph_edit.proofs.edges.retain.Goals as goal

pub loop-i-init : goal.loop-i-init
loop-i-init g c = (omega arith, λ q f e. (e, keep_none c.args.edges.now _))

pub loop-i-preserved : goal.loop-i-preserved
loop-i-preserved g c =
    let l = c.loop-i in
    let m = c.args.m in
    elim c.if-test.branch [
      | then-test w ↦ (
        omega arith,
        λ q f e.
            let v = l.invariant.1 q f e in
            let t = f _ _ (record { shown = _; shows = refl; says = record { met = c.test.ensures } }) in
            rw (w.edges-is, w.j-is) (
              simp length-set v.0,
              keep_on q l.edges m (omega (arith, v.0, c.requires.0)) l.j l.i _ v.1 c.loop-i-test.true [] (sym t ∙ w.if-test.true) l.invariant.0,
            ),
      )
      | else-test w ↦ (
        omega arith,
        λ q f e.
            let v = l.invariant.1 q f e in
            let t = f _ _ (record { shown = _; shows = refl; says = record { met = c.test.ensures } }) in
            rw (w.edges-is, w.j-is) (v.0, keep_off q l.edges m (omega (arith, v.0, c.requires.0)) l.j l.i _ v.1 c.loop-i-test.true [] (sym t ∙ w.if-test.false)),
      )
    ]

pub returns : goal.returns
returns g c =
    let l = c.loop-i in (
      omega arith,
      λ q f e. let v = l.invariant.1 q f e in (v.0, keep_all q l.edges c.args.m (omega (arith, v.0, c.requires.0)) l.j l.i _ v.1 c.loop-i-test.false),
    )
