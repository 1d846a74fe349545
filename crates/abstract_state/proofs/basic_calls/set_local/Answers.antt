use lib.ListN.{length-set}
use Rattle.abstract_state.specs.Models.{local_of, words, running_of}
use Rattle.abstract_state.specs.ModelLaws.{local_set, local_unset, relocated}
use native.Mathlib.Omega.{arith}
use Rattle.abstract_state.proofs.basic_calls.set_local.Goals as goal

pub returns-then-i-lt-MAX_LOCALS : goal.returns-then-i-lt-MAX_LOCALS
returns-then-i-lt-MAX_LOCALS c =
    λ ns es s.
    let a = c.args in
    let ls = a.locals.now in
    let r = running_of (words ls ns es s) in
    record {
      fits = λ h. record { locals = simp length-set h.locals; tells = h.tells };
      does = λ h. relocated s.blurred s.violation s.borrowed_at.0 s.refusal r a.i.0 (local_of a.x) _
          (local_set ls s.num_locals a.i.0 c.local_word-w.result (local_of a.x) c.local_word-w.ensures.0);
    }

pub returns-else-i-lt-MAX_LOCALS : goal.returns-else-i-lt-MAX_LOCALS
returns-else-i-lt-MAX_LOCALS c =
    λ ns es s.
    let a = c.args in
    let ls = a.locals.now in
    let r = running_of (words ls ns es s) in
    record {
      fits = λ h. h;
      does = λ h. relocated s.blurred s.violation s.borrowed_at.0 s.refusal r a.i.0 (local_of a.x) _
          (local_unset ls s.num_locals a.i.0 (local_of a.x) (omega (arith, h.locals)));
    }
