use mathlib.Core.Path.{refl}
use borrow.Author.Tests.{lt-ltb, le-ltb}
use Rattle.abstract_state.proofs.words.value_of.Goals as goal

pub returns-then-w-lt2 : goal.returns-then-w-lt2
returns-then-w-lt2 c = rw (lt-ltb _ _ c.if-w-lt2.true) refl

pub returns : goal.returns
returns c = rw (le-ltb _ _ c.if-w-lt2.false) refl
