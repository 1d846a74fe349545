use mathlib.Core.Path.{refl}
use borrow.Author.Tests.{lt-ltb, le-ltb}
use Rattle.abstract_state.proofs.basic_calls.fresh.Goals as goal

pub returns-then-state-lt-NAME_END : goal.returns-then-state-lt-NAME_END
returns-then-state-lt-NAME_END c = rw (lt-ltb _ _ c.if-state-lt-NAME_END.true) refl

pub returns : goal.returns
returns c = rw (le-ltb _ _ c.if-state-lt-NAME_END.false) refl
