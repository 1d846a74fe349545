use mathlib.Core.Path.{◌≡◌, sym, ap, ◌∙◌}
use mathlib.Core.List.{◌∷◌, map}
use Prim.Native.Nat.{ℕ, ◌+◌, ◌-◌}
use lib.ListN.{drop, length-set}
use Rattle.meaning.specs.AbstractState as S
use Rattle.meaning.specs.Listing.{token_as}
use Rattle.meaning.specs.AbstractState.{first_locals}
use Rattle.abstract_state_join.specs.LocalLaws.{written, all_written}
use Rattle.abstract_state_join.specs.FirstLaws.{local_step, local_end}
use native.Mathlib.Omega.{arith}
use Rattle.abstract_state_join.proofs.first.first_locals.Goals as goal

pub loop-i-init : goal.loop-i-init
loop-i-init c =
    let e : c.args.n - 0 ≡ c.args.n = omega arith in
    λ h. (h, ap (λ (k : ℕ). first_locals 0 k (map token_as c.args.params.now)) e)

pub loop-i-preserved : goal.loop-i-preserved
loop-i-preserved c =
    let ts = map token_as c.args.params.now in
    let l = c.loop-i in
    let n = c.args.n in
    λ h.
    let q = l.invariant h in (
      simp length-set q.0,
      written l.locals l.i _ _ q.1 c.local_word.result (first_locals (l.i + 1) (n - (l.i + 1)) (drop (l.i + 1) ts)) (omega arith)
          (local_step l.i n ts (omega arith) ∙ ap (λ (y : S.Local). y ∷ first_locals (l.i + 1) (n - (l.i + 1)) (drop (l.i + 1) ts)) (sym (c.local_word.ensures.0 ∙ c.first_local.ensures))),
    )

pub returns : goal.returns
returns c =
    let l = c.loop-i in
    let n = c.args.n in
    let e : l.i ≡ n = omega arith in
    λ h. let q = l.invariant h in
    (all_written l.locals l.i _ _ q.1 n n q.0 (omega arith) e (local_end l.i n (drop l.i (map token_as c.args.params.now)) (omega arith)), q.0)
