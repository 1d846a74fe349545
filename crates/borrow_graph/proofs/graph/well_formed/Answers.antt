use Rattle.meaning.specs.Lists.{up_to}
use mathlib.Core.Path.{◌≡◌, refl, sym, ap, ◌∙◌}
use mathlib.Core.Bool.{Bool, true, false, not, ◌&&◌, false≢true}
use mathlib.Core.List.{List}
use Prim.Native.Nat.{ℕ, ◌+◌}
use lib.ListN.{length, drop}
use Rattle.meaning.specs.BorrowGraph.{pair_ok, well_formed}
use Rattle.meaning.specs.Refinement.Chain.{chain, no_edge, climbs}
use Rattle.meaning.proofs.Laws.Chain.{chain_well_formed}
use Rattle.references.specs.Models.{row_of, names_in, edges_in}
use Rattle.references.specs.ModelLaws.{names_few, edges_few}
use Rattle.borrow_graph.specs.ModelLaws.{edges_turn, edges_done}
use Rattle.borrow_graph.specs.Folds.{chain_on, chain_off}
use native.Mathlib.Omega.{arith}
use Rattle.borrow_graph.proofs.graph.well_formed.Goals as goal

-- the answer, by the test of the names and that of the edges
answer : (ns : List ℕ) (es : List (List ℕ)) (n m : ℕ) → length ns ≡ 48 → length es ≡ 96 → (a b : Bool) → climbs 0 (names_in ns n) ≡ a → chain (pair_ok (names_in ns n)) 0 no_edge (edges_in es m) ≡ b → a && b ≡ well_formed (record { names = names_in ns n; edges = edges_in es m })
answer ns es n m few fit a b p q = (λ i. sym p i && sym q i) ∙ chain_well_formed (record { names = names_in ns n; edges = edges_in es m }) (names_few ns n few) (edges_few es m fit)

-- what the test of the names left
not_false : (a : Bool) → not a ≡ false → a ≡ true
not_false true e = refl
not_false false e = absurd (false≢true (sym e))

pub returns-then-not-ascend : goal.returns-then-not-ascend
returns-then-not-ascend c =
    λ few fit.
    let a = c.args in
    answer a.names.now a.edges.now a.n a.m few fit false _ (sym (c.ascend.ensures few) ∙ c.if-not-ascend.true) refl

pub loop-x-init : goal.loop-x-init
unfolding up_to
loop-x-init c = λ few fit. refl

pub loop-x-preserved : goal.loop-x-preserved
loop-x-preserved c = let lesser =
    c.lesser in
    let parent = c.parent-p in
    λ few fit.
    let a = c.args in
    let l = c.loop-x in
    let q = pair_ok (names_in a.names.now a.n) in
    let es = edges_in a.edges.now a.m in
    let e = edges_turn a.edges.now a.m _ l.x-index lesser.ensures fit (omega arith) in
    sym (chain_on q l.count (row_of l.last) _ (drop (l.x-index + 1) es) _ _ (c.pair_ok-h.ensures few ∙ (λ i. q (parent.ensures i) (c.child-c.ensures i))) c.link-l.ensures c.if-h-l.true)
    ∙ ap (chain q l.count (row_of l.last)) (sym e) ∙ l.invariant few fit

pub returns-else-h-l : goal.returns-else-h-l
returns-else-h-l c = let lesser =
    c.lesser in
    let ascend = c.ascend in
    let if1 = c.if-not-ascend in
    let parent = c.parent-p in
    λ few fit.
    let a = c.args in
    let l = c.loop-x in
    let q = pair_ok (names_in a.names.now a.n) in
    let es = edges_in a.edges.now a.m in
    let e = edges_turn a.edges.now a.m _ l.x-index lesser.ensures fit (omega arith) in
    answer a.names.now a.edges.now a.n a.m few fit true false (sym (ascend.ensures few) ∙ if1.false)
    (sym (l.invariant few fit) ∙ ap (chain q l.count (row_of l.last)) e ∙ chain_off q l.count (row_of l.last) _ (drop (l.x-index + 1) es) _ _
    (c.pair_ok-h.ensures few ∙ (λ i. q (parent.ensures i) (c.child-c.ensures i))) c.link-l.ensures
    c.if-h-l.false)

pub returns : goal.returns
returns c =
    λ few fit.
    let a = c.args in
    let l = c.loop-x in
    let q = pair_ok (names_in a.names.now a.n) in
    let e = edges_done a.edges.now a.m _ l.x-index c.lesser.ensures fit (omega arith) in
    answer a.names.now a.edges.now a.n a.m few fit true true (sym (c.ascend.ensures few) ∙ c.if-not-ascend.false) (sym (l.invariant few fit) ∙ ap (chain q l.count (row_of l.last)) e)
