use mathlib.Core.Path.{◌≡◌, ap, ◌∙◌}
use mathlib.Core.Logic.{◌⊎◌, inl, inr}
use mathlib.Core.List.{map}
use Prim.Native.Nat.{ℕ, ◌-◌, ◌≤◌, ◌<◌, min}
use lib.Dec.{leb}
use lib.ListN.{length, take, drop, length-set, length-drop}
use Rattle.std.specs.Prelude.{Err}
use Rattle.meaning.proofs.Laws.Base.{decide, leb_le, leb_gt}
use Rattle.meaning.specs.Area.{local_in}
use Rattle.meaning.specs.AbstractState.{join_locals}
use Rattle.borrow_graph.specs.Models.{graph_in}
use Rattle.abstract_state.specs.Models.{local_of, locals_in}
use Rattle.abstract_state_join.specs.LocalLaws.{clip, locals_are, locals_end, locals_all}
use Rattle.abstract_state_join.specs.JoinLaws.{start, met, unmet, left_and, goes_on, ends, end_equal, end_unequal}
use native.Mathlib.Omega.{arith}
use borrow.Author.Rules.{rules}
use Rattle.abstract_state_join.proofs.join.join_locals.Goals as goal

pub loop-i-init : goal.loop-i-init
loop-i-init c = (omega arith, λ hl hm t u. (hl, t, u, start _))

pub returns-in_err-k : goal.returns-in_err-k
returns-in_err-k c =
    let l = c.loop-i in
    let a = c.args in
    let n = c.count-n in
    let m = c.count-m in
    let i : l.i < c.lesser-i-end.result = c.loop-i-test.true in
    let r : c.from_residual.result ≡ Err c.in_err-k.field-0.0 = search rules in
    rw r (
      tt,
      λ hl hm t u.
          let q = l.invariant.1 hl hm t u in
          let g = graph_in l.names l.edges l.ours in
          let h = graph_in l.names2 l.edges2 l.theirs in
          let e = c.meet.ensures q.1 q.2 in
          record {
            parts =
                ends l.locals a.locals2.now n.result m.result l.i c.local_word.result g h l.blurred _ q.0 hm
                (omega (arith, n.ensures)) (omega (arith, m.ensures)) (omega (arith, c.lesser-i-end.ensures)) (omega (arith, c.lesser-i-end.ensures)) q.3 _
                (unmet _ _ _ _ _ _ _ _ _ _ _ _ _ _ _ _ _ e _ c.in_err-k.was c.local_of-a.ensures c.local_of-b.ensures)
                ∙ (λ j. join_locals (clip a.locals.now a.num_locals n.result hl n.ensures j) (clip a.locals2.now a.num_locals2 m.result hm m.ensures j)
                (graph_in a.names.now a.edges.now a.ours.now) (graph_in a.names2.now a.edges2.now a.theirs.now));
            locals = simp length-set q.0;
            ours = e.ours;
            theirs = e.theirs;
          },
    )

pub loop-i-preserved : goal.loop-i-preserved
loop-i-preserved c =
    let l = c.loop-i in
    let a = c.args in
    let n = c.count-n in
    let m = c.count-m in
    let i : l.i < c.lesser-i-end.result = c.loop-i-test.true in (
      omega (arith, l.invariant.0, c.wide-blurred.ensures.1),
      λ hl hm t u.
          let q = l.invariant.1 hl hm t u in
          let g = graph_in l.names l.edges l.ours in
          let h = graph_in l.names2 l.edges2 l.theirs in
          let e = c.meet.ensures q.1 q.2 in
          let k = met _ _ _ _ _ _ _ _ _ _ _ _ _ _ _ _ _ e _ c.in_ok-k.was c.local_of-a.ensures c.local_of-b.ensures _ (c.local_word.ensures.0 ∙ ap local_of c.and.ensures ∙ left_and _ _) in
          let b = k.1 in (
            simp length-set q.0,
            e.ours,
            e.theirs,
            goes_on l.locals a.locals2.now n.result m.result l.i c.local_word.result g h l.blurred _ q.0 hm
                (omega (arith, n.ensures)) (omega (arith, m.ensures)) (omega (arith, c.lesser-i-end.ensures)) (omega (arith, c.lesser-i-end.ensures)) q.3 _ _
                k.0 _ (omega (arith, b, c.wide-blurred.ensures.0)),
          ),
    )

pub returns-then-n-m : goal.returns-then-n-m
returns-then-n-m c =
    let a = c.args in
    let count = c.count-n in
    let count2 = c.count-m in
    let l = c.loop-i in
    let n : ℕ = count.result in
    let m : ℕ = count2.result in
    let i : l.i ≡ min n m = omega (arith, c.lesser-i-end.ensures, c.loop-i-test.false) in (
      tt,
      λ hl hm t u.
          let q = l.invariant.1 hl hm t u in
          let xs = locals_in l.locals n in
          let ys = locals_in a.locals2.now m in
          let p : length (drop l.i xs) ≡ n - l.i = length-drop l.i xs ∙ ap (λ (k : ℕ). k - l.i) (locals_are l.locals n n q.0 (omega (arith, count.ensures))) in
          let r : length (drop l.i ys) ≡ m - l.i = length-drop l.i ys ∙ ap (λ (k : ℕ). k - l.i) (locals_are a.locals2.now m m hm (omega (arith, count2.ensures))) in
          let d : (length (drop l.i xs) ≡ 0) ⊎ (length (drop l.i ys) ≡ 0) = decide (leb n m)
          (λ t. let k : n ≤ m = leb_le t in inl (omega (arith, p, i))) (λ t. let k : m < n = leb_gt t in inr (omega (arith, r, i))) in
          record {
            parts = end_unequal (drop l.i xs) (drop l.i ys) (graph_in l.names l.edges l.ours) (graph_in l.names2 l.edges2 l.theirs)
                (map local_in (take l.i l.locals)) l.blurred _ q.3 d (λ z. c.if-n-m.true (omega (arith, p, r, i)))
                ∙ (λ j. join_locals (clip a.locals.now a.num_locals n hl count.ensures j) (clip a.locals2.now a.num_locals2 m hm count2.ensures j)
                (graph_in a.names.now a.edges.now a.ours.now) (graph_in a.names2.now a.edges2.now a.theirs.now));
            locals = q.0;
            ours = q.1;
            theirs = q.2;
          },
    )

pub returns : goal.returns
returns c =
    let a = c.args in
    let count = c.count-n in
    let count2 = c.count-m in
    let l = c.loop-i in
    let n = count.result in
    let m = count2.result in
    let i : l.i ≡ n = omega (arith, c.lesser-i-end.ensures, c.if-n-m.false, c.loop-i-test.false) in (
      omega (arith, l.invariant.0, count.ensures, i),
      λ hl hm t u.
          let q = l.invariant.1 hl hm t u in
          record {
            parts = end_equal _ _ (graph_in l.names l.edges l.ours) (graph_in l.names2 l.edges2 l.theirs) (map local_in (take l.i l.locals)) l.blurred _ q.3
                (locals_end l.locals n n q.0 (omega (arith, count.ensures)) l.i (omega arith))
                (locals_end a.locals2.now m m hm (omega (arith, count2.ensures)) l.i (omega (arith, c.if-n-m.false))) _
                (locals_all l.locals a.num_locals n q.0 count.ensures l.i i)
                ∙ (λ j. join_locals (clip a.locals.now a.num_locals n hl count.ensures j) (clip a.locals2.now a.num_locals2 m hm count2.ensures j)
                (graph_in a.names.now a.edges.now a.ours.now) (graph_in a.names2.now a.edges2.now a.theirs.now));
            locals = q.0;
            ours = q.1;
            theirs = q.2;
          },
    )

pub overflow_add-blurred : goal.overflow_add-blurred
overflow_add-blurred c = omega (arith, c.loop-i.invariant.0, c.wide-blurred.ensures.1, c.loop-i-test.true, c.lesser-i-end.ensures, c.count-n.ensures)
