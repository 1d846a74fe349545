use Rattle.std.proofs.Common.{rules, tests, ◌≡◌, true, false}
use Rattle.std.specs.Prelude.{Some}
use Rattle.meaning.proofs.Laws.Blurs.{newly_self}
use Rattle.meaning.specs.AbstractState as S
use Rattle.meaning.specs.AbstractState.{join_local, eq_local}
use Rattle.meaning.specs.BorrowGraph.{Graph}
use Rattle.borrow_graph.specs.Models.{graph_in}
use Rattle.abstract_state.specs.declared.state.AbstractValue.TheVariants.{Reference}
use Rattle.abstract_state.specs.Models.{operand_of, local_of}
use Rattle.abstract_state_join.specs.JoinLaws.{meet_same, meet_unlike, answer_then, blurs_of, add_blurs}
use native.Mathlib.Omega.{arith}
use Rattle.abstract_state_join.proofs.join.meet.Goals as goal

pub returns-then-eq : goal.returns-then-eq
returns-then-eq c =
    let a = c.args in
    let g = graph_in a.names.now a.edges.now a.ours.now in
    let h = graph_in a.names2.now a.edges2.now a.theirs.now in
    let e : eq_local (local_of a.a) (local_of a.b) ≡ true = search (rules, tests) in
    λ t u. record {
      step = rw (c.in-Some-Some.is-0, c.in-Some-Some.is-1) (meet_same (operand_of c.in-Some-Some.x) (operand_of c.in-Some-Some.y) g h (rw (c.in-Some-Some.is-0, c.in-Some-Some.is-1) at e));
      ours = t;
      theirs = u;
      blurs = omega (arith, newly_self g.edges, newly_self h.edges);
    }

pub returns-else-eq : goal.returns-else-eq
returns-else-eq c =
    let a = c.args in
    let e : eq_local (local_of a.a) (local_of a.b) ≡ false = search (rules, tests) in
    λ t u. record {
      step = rw (c.in-Some-Some.is-0, c.in-Some-Some.is-1) (meet_unlike (operand_of c.in-Some-Some.x) (operand_of c.in-Some-Some.y) _ _ (rw (c.in-Some-Some.is-0, c.in-Some-Some.is-1) at e));
      ours = t;
      theirs = u;
      blurs = tt;
    }

pub returns-in-Some-Reference-None : goal.returns-in-Some-Reference-None
unfolding join_local
returns-in-Some-Reference-None c =
    let a = c.args in
    let g = graph_in a.names.now a.edges.now a.ours.now in
    let h = graph_in a.names2.now a.edges2.now a.theirs.now in
    let r = c.release in
    let g' = graph_in r.new.names r.new.edges r.new.g in
    let e : a.a ≡ Some (Reference c.in-Some-Reference-None.id) = search rules in
    λ t u.
    let b = r.ensures t in
    record {
      step = rw (e, c.in-Some-Reference-None.is-1) (answer_then r.result g' _ (λ (k : Graph). record { local = S.absent; ours = k; theirs = h }) (rw c.in-Some-Reference-None.id-is at b.answers.answer));
      ours = b.answers.tells;
      theirs = u;
      blurs = (add_blurs r.result g g' h h (newly_self h.edges) (blurs_of r.result g g' _ b.answers.answer b.blurs)).0;
    }

pub returns-in-None-Some-Reference : goal.returns-in-None-Some-Reference
unfolding join_local
returns-in-None-Some-Reference c =
    let a = c.args in
    let g = graph_in a.names.now a.edges.now a.ours.now in
    let h = graph_in a.names2.now a.edges2.now a.theirs.now in
    let r = c.release-in-None-Some-Reference in
    let h' = graph_in r.new.names r.new.edges r.new.g in
    let e : a.b ≡ Some (Reference c.in-None-Some-Reference.id) = search rules in
    λ t u.
    let b = r.ensures u in
    record {
      step = rw (e, c.in-None-Some-Reference.is-0) (answer_then r.result h' _ (λ k. record { local = S.absent; ours = g; theirs = k }) b.answers.answer);
      ours = t;
      theirs = b.answers.tells;
      blurs = (add_blurs r.result h h' g g (newly_self g.edges) (blurs_of r.result h h' _ b.answers.answer b.blurs)).1;
    }

pub returns-in_default : goal.returns-in_default
unfolding join_local
returns-in_default c =
    let a = c.args in
    λ t u. record { step = search rules; ours = t; theirs = u; blurs = omega (arith, newly_self (graph_in a.names.now a.edges.now a.ours.now).edges, newly_self (graph_in a.names2.now a.edges2.now a.theirs.now).edges) }

pub returns-in_default-2 : goal.returns-in_default-2
unfolding join_local
returns-in_default-2 c =
    let a = c.args in
    λ t u. record { step = search rules; ours = t; theirs = u; blurs = omega (arith, newly_self (graph_in a.names.now a.edges.now a.ours.now).edges, newly_self (graph_in a.names2.now a.edges2.now a.theirs.now).edges) }

pub returns-in_default-3 : goal.returns-in_default-3
unfolding join_local
returns-in_default-3 c =
    let a = c.args in
    λ t u. record { step = search rules; ours = t; theirs = u; blurs = omega (arith, newly_self (graph_in a.names.now a.edges.now a.ours.now).edges, newly_self (graph_in a.names2.now a.edges2.now a.theirs.now).edges) }
