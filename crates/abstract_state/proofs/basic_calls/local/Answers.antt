use mathlib.Core.Path.{◌∙◌}
use Rattle.abstract_state.specs.ModelLaws.{local_in_lem, local_out, local_over}
use native.Mathlib.Omega.{arith}
use Rattle.abstract_state.proofs.basic_calls.local.Goals as goal

pub returns-then-i-lt-MAX_LOCALS : goal.returns-then-i-lt-MAX_LOCALS
returns-then-i-lt-MAX_LOCALS c =
    λ ns es h.
    let a = c.args in
    c.local_of.ensures ∙ local_in_lem a.locals.now a.state.num_locals a.i.0 0 c.if-i-state.true (omega (arith, h.locals))

pub returns-else-i-lt-MAX_LOCALS : goal.returns-else-i-lt-MAX_LOCALS
returns-else-i-lt-MAX_LOCALS c =
    λ ns es h.
    let a = c.args in
    local_over a.locals.now a.state.num_locals a.i.0 (omega (arith, h.locals))

pub returns-else-i-state : goal.returns-else-i-state
returns-else-i-state c =
    λ ns es h.
    let a = c.args in
    local_out a.locals.now a.state.num_locals a.i.0 c.if-i-state.false
