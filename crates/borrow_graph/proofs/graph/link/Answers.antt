use mathlib.Core.Path.{◌≡◌, sym, ap, ◌∙◌}
use mathlib.Core.Bool.{not, ◌&&◌, ◌||◌}
use mathlib.Core.List.{[]}
use Prim.Native.Nat.{◌<◌}
use lib.Dec.{ltb, eqb, ltb→lt}
use Rattle.meaning.proofs.Laws.Base.{and_l, eq→T}
use Rattle.meaning.specs.BorrowGraph as G
use Rattle.meaning.proofs.Laws.Place.{bare_edge}
use Rattle.meaning.proofs.Laws.Cut.{before, other, here, neither}
use Rattle.paths.specs.Models.{ordering_of}
use Rattle.references.specs.Models.{row_of}
use Rattle.borrow_graph.specs.ModelLaws.{row_short}
use Rattle.borrow_graph.specs.Folds.{same_on, same_off, next_is, over_is}
use native.Mathlib.Omega.{arith}
use Rattle.borrow_graph.proofs.graph.link.Goals as goal
use Rattle.borrow_graph.proofs.graph.link.Lts as lts
use Rattle.borrow_graph.proofs.graph.link.Reads as reads
use Rattle.borrow_graph.proofs.graph.link.Tie as tie

-- how the pair of y stands to that of x
stands : (c : (lts.After-side tie.the-claims reads.Pre reads.Post)) → G.side (row_of c.args.x.now).parent (row_of c.args.x.now).child (row_of c.args.y.now) ≡ ordering_of c.side-o.result
stands c = (λ i. G.side (sym c.parent-p.ensures i) (sym c.child-c.ensures i) (row_of c.args.y.now)) ∙ sym c.side-o.ensures

pub returns-then-b-bare : goal.returns-then-b-bare
returns-then-b-bare c = let a =
    c.args in
    let o = stands c.before.before.before.before ∙ ap ordering_of c.in-Less.is in
    let x = row_of a.x.now in
    let y = row_of a.y.now in
    next_is a.count y x (row_short a.x.now) _ _ (before x.parent x.child y [] o) (other x.parent x.child y [] o) ((λ i. not (c.is_strong-s.ensures i) && eqb c.labels.result 0) ∙ bare_edge x.edge _ c.labels.ensures.0)
    ((λ i. not (sym c.is_blurred-b.ensures i) || (not c.is_strong-s.result && eqb c.labels.result 0)) ∙ c.if-b-bare.true)

pub overflow_add-result : goal.overflow_add-result
overflow_add-result c = let a =
    c.args in
    let h : a.count < 10 = ltb→lt a.count 10 (eq→T (and_l (ltb a.count 10) (not (c.is_blurred-d.result || c.is_blurred-b.result) && c.lt-up.result) c.if-count-d.true)) in
    omega arith

pub returns-then-count-d : goal.returns-then-count-d
returns-then-count-d c = let a =
    c.args in
    let o = stands c.before.before.before.before ∙ ap ordering_of c.in-Equal.is in
    let x = row_of a.x.now in
    let y = row_of a.y.now in
    same_on a.count y x (row_short a.x.now) c.lt-up.result (here x.parent x.child y [] o) c.lt-up.ensures
    ((λ i. ltb a.count 10 && (not (sym c.is_blurred-d.ensures i || sym c.is_blurred-b.ensures i) && c.lt-up.result)) ∙ c.if-count-d.true)

pub returns-else-b-bare : goal.returns-else-b-bare
returns-else-b-bare c = let a =
    c.args in
    let o = stands c.before.before.before.before ∙ ap ordering_of c.in-Less.is in
    let x = row_of a.x.now in
    let y = row_of a.y.now in
    next_is a.count y x (row_short a.x.now) _ _ (before x.parent x.child y [] o) (other x.parent x.child y [] o) ((λ i. not (c.is_strong-s.ensures i) && eqb c.labels.result 0) ∙ bare_edge x.edge _ c.labels.ensures.0)
    ((λ i. not (sym c.is_blurred-b.ensures i) || (not c.is_strong-s.result && eqb c.labels.result 0)) ∙ c.if-b-bare.false)

pub returns-else-count-d : goal.returns-else-count-d
returns-else-count-d c = let a =
    c.args in
    let o = stands c.before.before.before.before ∙ ap ordering_of c.in-Equal.is in
    let x = row_of a.x.now in
    let y = row_of a.y.now in
    same_off a.count y x (row_short a.x.now) c.lt-up.result (here x.parent x.child y [] o) c.lt-up.ensures
    ((λ i. ltb a.count 10 && (not (sym c.is_blurred-d.ensures i || sym c.is_blurred-b.ensures i) && c.lt-up.result)) ∙ c.if-count-d.false)

pub returns-in-Greater : goal.returns-in-Greater
returns-in-Greater c = let a =
    c.args in
    let o = stands c.before ∙ ap ordering_of c.in-Greater.is in
    let x = row_of a.x.now in
    let y = row_of a.y.now in
    over_is a.count y x (row_short a.x.now) (neither x.parent x.child y [] o).0 (neither x.parent x.child y [] o).1
