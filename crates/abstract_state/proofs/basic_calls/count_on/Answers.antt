use native.Mathlib.Omega.{arith}
use Rattle.abstract_state.proofs.basic_calls.count_on.Goals as goal

pub returns-then-n-k : goal.returns-then-n-k
returns-then-n-k c = omega (arith, c.if-n-k.true)

pub overflow_add-result : goal.overflow_add-result
overflow_add-result c = omega (arith, c.if-n-k.false)

pub returns : goal.returns
returns c = omega (arith, c.if-n-k.false)
