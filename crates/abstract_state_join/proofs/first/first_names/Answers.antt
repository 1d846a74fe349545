use mathlib.Core.Path.{◌≡◌, refl, sym, ap, ◌∙◌}
use mathlib.Core.List.{List, [], ◌∷◌, ◌++◌, map, append-nil}
use Prim.Native.Nat.{ℕ, ◌+◌, ◌-◌}
use lib.ListN.{drop, length-set}
use mathlib.Core.Bool.{Bool}
use Rattle.std.proofs.Common.{length-take}
use Rattle.meaning.specs.Listing.{token_as}
use Rattle.meaning.specs.BorrowGraph.{Name}
use Rattle.meaning.specs.AbstractState.{first_names}
use Rattle.references.specs.Models.{names_in}
use Rattle.references.specs.ModelLaws.{names_push}
use Rattle.abstract_state_join.specs.FirstLaws.{taken_step, pass_value, pass_reference, root_last}
use native.Mathlib.Omega.{arith}
use Rattle.abstract_state_join.proofs.first.first_names.Goals as goal

pub loop-i-init : goal.loop-i-init
unfolding names_in
loop-i-init c =
    let e : c.args.n - 0 ≡ c.args.n = omega arith in
    (omega arith, λ h. (h, ap (λ (k : ℕ). first_names 0 k (map token_as c.args.params.now)) e))

pub loop-i-preserved-then-eq : goal.loop-i-preserved-then-eq
loop-i-preserved-then-eq c =
    let a = c.args in
    let l = c.loop-i in
    let short = simp length-take at c.loop-i-test.true in (
      omega arith,
      λ h.
          let q = l.invariant.1 h in (
            q.0,
            ap (λ (ms : List Name). names_in l.names l.len ++ ms)
                (sym (pass_value l.i a.n _ _ _ (omega (arith, c.lesser.ensures, short)) (taken_step c.lesser.result a.params.now l.i c.from-token.result c.loop-i-test.true c.from-token.ensures) (sym c.if-eq.ensures))) ∙ q.1,
          ),
    )

pub loop-i-preserved : goal.loop-i-preserved
loop-i-preserved c =
    let a = c.args in
    let l = c.loop-i in
    let short = simp length-take at c.loop-i-test.true in
    let rest = first_names (l.i + 1) (a.n - (l.i + 1)) (drop (l.i + 1) (map token_as a.params.now)) in (
      omega arith,
      λ h.
          let q = l.invariant.1 h in (
            simp length-set q.0,
            names_push l.names _ l.len (l.len + 1) rest refl (omega (arith, c.lesser.ensures, short))
                ∙ ap (λ (m : Name). names_in l.names l.len ++ m ∷ rest) (c.name_word.ensures ∙ ap (λ (b : Bool). record { id = l.i; mutable = b }) c.eq-in-loop-i.ensures)
                ∙ ap (λ (ms : List Name). names_in l.names l.len ++ ms)
                (sym (pass_reference l.i a.n _ _ _ (omega (arith, c.lesser.ensures, short)) (taken_step c.lesser.result a.params.now l.i c.from-token.result c.loop-i-test.true c.from-token.ensures) (sym c.if-eq.ensures))) ∙ q.1,
          ),
    )

pub returns : goal.returns
returns c =
    let a = c.args in
    let l = c.loop-i in
    let low = simp length-take at c.loop-i-test.false in
    let high = simp length-take at l.auto.i-end in (
      omega (arith, c.lesser.ensures, high),
      λ h.
          let q = l.invariant.1 h in (
            sym (append-nil _) ∙ names_push l.names _ l.len (l.len + 1) [] refl (omega (arith, c.lesser.ensures, high)) ∙ ap (λ (m : Name). names_in l.names l.len ++ m ∷ []) c.name_word-2.ensures
                ∙ ap (λ (ms : List Name). names_in l.names l.len ++ ms) (sym (root_last l.i a.n a.params.now (omega (arith, c.lesser.ensures, low, high)))) ∙ q.1,
            simp length-set q.0,
          ),
    )
