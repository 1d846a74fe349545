use mathlib.Core.Path.{◌≡◌, refl, sym, ap, ◌∙◌}
use mathlib.Core.List.{List, ◌∷◌, ◌++◌, map}
use Prim.Native.Nat.{◌+◌}
use lib.ListN.{take, drop, get_or, set, length-set}
use Rattle.meaning.specs.Area.{local_in}
use Rattle.meaning.specs.AbstractState as S
use Rattle.meaning.specs.AbstractState.{own_names}
use Rattle.abstract_state.specs.Models.{locals_in}
use Rattle.abstract_state_join.specs.Models.{own_name}
use Rattle.abstract_state_join.specs.LocalLaws.{local_next, locals_end, written, all_written, unread}
use Rattle.abstract_state_join.specs.CanonicalLaws.{own_step, own_end}
use native.Mathlib.Omega.{arith}
use Rattle.abstract_state_join.proofs.canonical.own_names.Goals as goal

pub loop-i-init : goal.loop-i-init
loop-i-init c = λ h. (h, refl)

pub loop-i-preserved : goal.loop-i-preserved
loop-i-preserved c =
    let a = c.args in
    let l = c.loop-i in
    let w = c.local_word.result in
    let xs = drop (l.i + 1) (locals_in l.locals a.n) in
    λ h.
    let q = l.invariant h in (
      simp length-set q.0,
      ap (λ (zs : List S.Local). map local_in (take (l.i + 1) (set l.locals l.i w)) ++ own_names (l.i + 1) zs) (unread l.locals a.n l.i w)
          ∙ written l.locals l.i _ _ q.1 w (own_names (l.i + 1) xs) (omega arith)
          (ap (own_names l.i) (local_next l.locals a.n c.count-i-end.result q.0 c.count-i-end.ensures l.i (omega arith)) ∙ own_step l.i (local_in (get_or l.locals l.i 0)) xs
          ∙ ap (λ (y : S.Local). y ∷ own_names (l.i + 1) xs) (sym (c.local_word.ensures.0 ∙ c.own_name.ensures ∙ ap (own_name l.i) c.local_of.ensures))),
    )

pub returns : goal.returns
returns c =
    let count = c.count-i-end in
    let a = c.args in
    let l = c.loop-i in
    let e : l.i ≡ count.result = omega arith in
    λ h. let q = l.invariant h in
    (all_written l.locals l.i _ _ q.1 a.n count.result q.0 count.ensures e (ap (own_names l.i) (locals_end l.locals a.n count.result q.0 count.ensures l.i (omega arith)) ∙ own_end l.i), q.0)
