use mathlib.Core.Path.{◌≡◌, refl, sym, ap, ◌∙◌}
use Prim.Native.Nat.{ℕ, ◌+◌}
use Rattle.std.specs.Prelude.{Err}
use Rattle.borrow_graph.specs.Models.{graph_in}
use Rattle.abstract_state.specs.Models.{words, state_of}
use Rattle.abstract_state_join.specs.JoinLaws.{join_early, join_late, blurs_early, blurs_late, blurs_of}
use borrow.Author.Rules.{rules}
use Rattle.abstract_state_join.proofs.join.join_.Goals as goal

pub returns-in_err-released : goal.returns-in_err-released
returns-in_err-released c =
    let r : c.from_residual.result ≡ Err c.in_err-released.field-0.0 = search rules in
    λ fa fb.
    let a = c.args in
    let s = state_of (words a.locals.now a.names.now a.edges.now a.s.now) in
    let o = state_of (words a.locals2.now a.names2.now a.edges2.now a.o) in
    let j = c.join_locals.ensures.1 fa.locals fb.locals fa.tells fb.tells in
    let early = sym (rw c.in_err-released.was at j.parts) in
    (rw r (record { answer = sym (join_early s o _ early); blurs = blurs_early s o _ early }), j.theirs.words, j.theirs.rows)

pub returns-in_err-joined : goal.returns-in_err-joined
returns-in_err-joined c =
    let r : c.from_residual-in_err-joined.result ≡ Err c.in_err-joined.field-0.0 = search rules in
    λ fa fb.
    let a = c.args in
    let s = state_of (words a.locals.now a.names.now a.edges.now a.s.now) in
    let o = state_of (words a.locals2.now a.names2.now a.edges2.now a.o) in
    let j = c.join_locals.ensures.1 fa.locals fb.locals fa.tells fb.tells in
    let b = c.join.ensures j.ours j.theirs in
    let first = sym (rw c.in_ok-released.was at j.parts) in
    let then = sym (rw c.in_err-joined.was at b.answers.answer) in
    (rw r (record { answer = sym (join_late s o _ _ first then); blurs = blurs_late s o _ _ first then }), j.theirs.words, j.theirs.rows)

pub returns : goal.returns
returns c =
    λ fa fb.
    let a = c.args in
    let s = state_of (words a.locals.now a.names.now a.edges.now a.s.now) in
    let o = state_of (words a.locals2.now a.names2.now a.edges2.now a.o) in
    let p = c.join_locals in
    let j = p.ensures.1 fa.locals fb.locals fa.tells fb.tells in
    let b = c.join.ensures j.ours j.theirs in
    let first = sym (rw c.in_ok-released.was at j.parts) in
    let then = sym (rw c.in_ok-joined.was at b.answers.answer) in
    let k = rw c.in_ok-joined.was at (blurs_of c.join.result (graph_in p.new.names p.new.edges p.new.ours) (graph_in p.new.names c.join.new.edges c.join.new.graph) _ b.answers.answer b.blurs) in (
      record {
        answer = sym (join_late s o _ _ first then);
        fits = record { locals = j.locals; tells = b.answers.tells };
        rest = refl;
        stop = (refl, refl, refl);
        blurs = ap (λ (m : ℕ). c.in_ok-released.released + m) (c.wide.ensures.0 ∙ k) ∙ blurs_late s o _ _ first then;
      },
      j.theirs.words,
      j.theirs.rows,
    )
