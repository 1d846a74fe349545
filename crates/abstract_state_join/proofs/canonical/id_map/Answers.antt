use Rattle.std.proofs.Common.{length-take, get_or-take}
use mathlib.Core.Path.{◌≡◌, refl, sym, ap, ◌∙◌}
use mathlib.Core.List.{List, ◌∷◌, ◌++◌, map, append-nil}
use Prim.Native.Nat.{◌+◌, ◌<◌}
use lib.ListN.{take, drop, get_or, length-set}
use Rattle.meaning.proofs.Laws.Array.{push_map}
use Rattle.meaning.specs.BorrowGraph.{Change}
use Rattle.meaning.specs.Area.{local_in}
use Rattle.borrow_graph.specs.Models.{change_of, map_of}
use Rattle.abstract_state.specs.Models.{locals_in}
use Rattle.abstract_state_join.specs.Models.{renames}
use Rattle.abstract_state_join.specs.LocalLaws.{local_next, locals_end}
use Rattle.abstract_state_join.specs.CanonicalLaws.{renames_ref, renames_value, renames_absent, renames_end}
use Rattle.abstract_state.specs.declared.state.AbstractValue.TheVariants.{NonReference}
use native.Mathlib.Omega.{arith}
use borrow.Author.Rules.{rules}
use Rattle.abstract_state_join.proofs.canonical.id_map.Goals as goal
use Rattle.abstract_state_join.proofs.canonical.id_map.Goals.{in_default-via-in-Some+in_default, in_default-via-in_default}

pub loop-i-preserved : goal.loop-i-preserved
loop-i-preserved c =
    let count = c.count in
    let a = c.args in
    let l = c.loop-i in
    let here : l.i < count.result = omega (arith, length-take count.result a.locals.now, c.loop-i-test.true) in
    let front = get_or-take count.result a.locals.now l.i 0 here in
    let xs = drop (l.i + 1) (locals_in a.locals.now a.n) in (
      omega arith,
      simp length-set l.invariant.1,
      λ h. push_map change_of l.list l.len (l.len + 1) _ (renames (l.i + 1) xs) refl (omega arith)
          ∙ ap (λ (ms : List Change). map change_of (take l.len l.list) ++ ms)
          (sym (rw (local_next a.locals.now a.n count.result h count.ensures l.i here, ← front, ← c.local_of.ensures, c.in-Some-Reference.is, c.in-Some-Reference.field-0-is) (renames_ref l.i c.in-Some-Reference.held.0 xs)))
          ∙ l.invariant.2 h,
    )

pub loop-i-preserved-in_default : goal.loop-i-preserved-in_default
loop-i-preserved-in_default c =
    let count = c.count in
    let a = c.args in
    let l = c.loop-i in
    let here : l.i < count.result = omega (arith, length-take count.result a.locals.now, c.loop-i-test.true) in
    let front = get_or-take count.result a.locals.now l.i 0 here in
    let xs = drop (l.i + 1) (locals_in a.locals.now a.n) in
    let e : renames l.i (local_in (get_or a.locals.now l.i 0) ∷ xs) ≡ renames (l.i + 1) xs =
    elim c.in_default.branch [
      | in_default-via-in-Some+in_default w ↦
          let z : w.in_default.field-0 ≡ NonReference = search rules in
          rw (← front, ← c.local_of.ensures, w.in_default.is, z) (renames_value l.i xs)
      | in_default-via-in_default w ↦ rw (← front, ← c.local_of.ensures, w.in_default.is) (renames_absent l.i xs)
    ] in (
      omega arith,
      l.invariant.1,
      λ h. ap (λ (ms : List Change). map change_of (take l.len l.list) ++ ms)
          (sym (ap (renames l.i) (local_next a.locals.now a.n count.result h count.ensures l.i (omega arith)) ∙ e))
          ∙ l.invariant.2 h,
    )

pub returns : goal.returns
unfolding map_of
returns c =
    let a = c.args in
    let l = c.loop-i in
    λ h. sym (append-nil _) ∙ ap (λ (ms : List Change). map change_of (take l.len l.list) ++ ms) (sym (ap (renames l.i) (locals_end a.locals.now a.n c.count.result h c.count.ensures l.i (omega (arith, length-take c.count.result a.locals.now, c.loop-i-test.false))) ∙ renames_end l.i)) ∙ l.invariant.2 h
