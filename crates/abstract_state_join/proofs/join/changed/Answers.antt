use mathlib.Core.Path.{◌≡◌, sym, ap, ◌∙◌}
use Prim.Native.Nat.{ℕ}
use Rattle.meaning.specs.AbstractState.{eq_locals}
use Rattle.abstract_state.specs.Models.{locals_in, words, state_of}
use Rattle.abstract_state_join.specs.JoinLaws.{covered, changed_locals, changed_graph}
use Rattle.abstract_state_join.proofs.join.changed.Goals as goal
use Rattle.abstract_state_join.proofs.join.changed.Goals.{in-Ok-true, in_default, in_default-2}
use borrow.Author.Rules.{rules}

pub returns-then-not-same_locals : goal.returns-then-not-same_locals
returns-then-not-same_locals c =
    λ fa fb n o e.
    let a = c.args in
    changed_locals (state_of (words a.locals.now a.names.now a.edges.now a.s)) o (state_of (words a.locals2.now a.names2.now a.edges2.now a.t)) e
    (ap (λ (i : ℕ). eq_locals (locals_in a.locals.now a.s.num_locals) (locals_in a.locals2.now i)) (sym n)
    ∙ sym (c.same_locals.ensures fa.locals fb.locals) ∙ c.if-not-same_locals.true)

pub returns : goal.returns
returns c =
    let m : c.match-matches.matches ≡ covered c.leq.result =
    elim c.match-matches.branch [ in-Ok-true w ↦ search rules | in_default w ↦ search rules | in_default-2 w ↦ search rules ] in
    λ fa fb n o e.
    let a = c.args in
    rw m (changed_graph (state_of (words a.locals.now a.names.now a.edges.now a.s)) o (state_of (words a.locals2.now a.names2.now a.edges2.now a.t)) e
    (ap (λ (i : ℕ). eq_locals (locals_in a.locals.now a.s.num_locals) (locals_in a.locals2.now i)) (sym n)
    ∙ sym (c.same_locals.ensures fa.locals fb.locals) ∙ c.if-not-same_locals.false)
    c.leq.result (c.leq.ensures fa.tells fb.tells))
