use mathlib.Core.Path.{refl, sym, ap, ◌∙◌}
use mathlib.Core.Bool.{Bool}
use mathlib.Core.List.{List, [], ◌++◌, append-nil}
use Prim.Native.Nat.{◌+◌}
use lib.ListN.{get_or, take, length-set}
use Rattle.meaning.specs.Lists.{keep}
use Rattle.meaning.specs.BorrowGraph.{GEdge}
use Rattle.references.specs.Models.{edges_in}
use Rattle.references.specs.ModelLaws.{edges_push}
use Rattle.borrow_graph.specs.Models as M
use Rattle.borrow_graph.specs.ModelLaws.{edges_turn, edges_done}
use Rattle.borrow_graph.specs.ArrayLaws.{keep_in, keep_out}
use native.Mathlib.Omega.{arith}
use Rattle.borrow_graph.proofs.lookups.select.Goals as goal
use Rattle.borrow_graph.proofs.lookups.select.Goals.{then-picks, else-picks}

pub loop-x-init : goal.loop-x-init
unfolding edges_in
loop-x-init c = (omega arith, λ few fit. (fit, refl))

pub loop-x-preserved : goal.loop-x-preserved
loop-x-preserved c =
    let a = c.args in
    let l = c.loop-x in
    let q : GEdge → Bool = λ x. M.picks a.ends x.parent x.child in
    let x = get_or (take c.lesser.result a.edges.now) l.x-index [] in
    let picked = (λ i. M.picks a.ends (sym c.parent.ensures i) (sym c.child.ensures i)) ∙ sym c.picks.ensures in
    elim c.if-picks.branch [
      | then-picks t ↦
          rw (t.out-is, t.found-is) (
            omega arith,
            λ few fit.
                let h = l.invariant.1 few fit in
                let e = edges_turn a.edges.now a.m _ l.x-index c.lesser.ensures few (omega arith) in
                (simp length-set h.0, edges_push l.out x l.found (l.found + 1) _ refl (omega arith) ∙ keep_in q _ _ _ (edges_in l.out l.found) _ e h.1 (picked ∙ t.if-picks.true)),
          )
      | else-picks t ↦
          rw (t.out-is, t.found-is) (
            omega arith,
            λ few fit.
                let h = l.invariant.1 few fit in
                (h.0, keep_out q _ _ _ (edges_in l.out l.found) _ (edges_turn a.edges.now a.m _ l.x-index c.lesser.ensures few (omega arith)) h.1 (picked ∙ t.if-picks.false)),
          )
    ]

pub returns : goal.returns
returns c =
    λ few fit.
    let a = c.args in
    let l = c.loop-x in
    let q : GEdge → Bool = λ x. M.picks a.ends x.parent x.child in
    let h = l.invariant.1 few fit in
    let e = edges_done a.edges.now a.m _ l.x-index c.lesser.ensures few (omega arith) in
    (sym (append-nil (edges_in l.out l.found)) ∙ ap (λ (r : List GEdge). edges_in l.out l.found ++ keep q r) (sym e) ∙ h.1, h.0, omega arith)
