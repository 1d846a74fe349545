use mathlib.Core.Path.{◌≡◌, refl, sym, ap, ◌∙◌}
use mathlib.Core.Option.{Option, none, some}
use mathlib.Core.List.{List}
use Prim.Native.Nat.{ℕ, ◌+◌}
use lib.Dec.{eqb}
use lib.ListN.{drop}
use Rattle.meaning.specs.BorrowGraph.{GEdge, lowest_of, Borrows}
use Rattle.references.specs.Models.{names_in, edges_in, filter_of}
use Rattle.borrow_graph.specs.Models.{borrows_of}
use Rattle.borrow_graph.specs.ModelLaws.{edges_turn, edges_done}
use Rattle.borrow_graph.specs.Folds.{lower_both, borrows_in, borrow_hit, borrow_miss}
use native.Mathlib.Omega.{arith}
use Rattle.borrow_graph.proofs.lookups.borrows.Goals as goal
use Rattle.borrow_graph.proofs.lookups.borrows.Goals.{then-eq, else-eq}

-- nothing remains
none_left : (s : Borrows) → s ≡ record { full = lower_both s.full none; consistent = lower_both s.consistent none; mutable = lower_both s.mutable none }
none_left s = λ i. record { full = same s.full i; consistent = same s.consistent i; mutable = same s.mutable i }
  where
    same : (l : Option ℕ) → l ≡ lower_both l none
    same none = refl
    same (some o) = refl

pub loop-x-preserved : goal.loop-x-preserved
loop-x-preserved c =
    let a = c.args in
    let l = c.loop-x in
    let ns = names_in a.names.now a.n in
    let es = edges_in a.edges.now a.m in
    let in' : Borrows → List GEdge → Borrows = borrows_in ns a.id.0 (filter_of a.at) in
    let same = ap (eqb a.id.0) (sym c.parent.ensures) ∙ sym c.eq.ensures in
    elim c.if-eq.branch [
      | then-eq t ↦
          rw t.found-is (λ few fit.
          let e = edges_turn a.edges.now a.m _ l.x-index c.lesser.ensures fit (omega arith) in
          ap (λ (s : Borrows). in' s (drop (l.x-index + 1) es)) (t.add-found.ensures few)
          ∙ borrow_hit ns a.id.0 (filter_of a.at) (borrows_of l.found) _ (drop (l.x-index + 1) es) (same ∙ t.if-eq.true) ∙ ap (in' (borrows_of l.found)) (sym e) ∙ l.invariant few fit)
      | else-eq t ↦
          rw t.found-is (λ few fit.
          let e = edges_turn a.edges.now a.m _ l.x-index c.lesser.ensures fit (omega arith) in
          borrow_miss ns a.id.0 (filter_of a.at) (borrows_of l.found) _ (drop (l.x-index + 1) es) (same ∙ t.if-eq.false) ∙ ap (in' (borrows_of l.found)) (sym e) ∙ l.invariant few fit)
    ]

pub returns : goal.returns
unfolding borrows_in lowest_of
returns c =
    λ few fit.
    let a = c.args in
    let l = c.loop-x in
    none_left (borrows_of l.found) ∙ rw (edges_done a.edges.now a.m _ l.x-index c.lesser.ensures fit (omega arith)) at (l.invariant few fit)
