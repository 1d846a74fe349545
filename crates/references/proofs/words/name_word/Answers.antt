use mathlib.Core.Path.{ap}
use Prim.Native.Nat.{ℕ, ◌+◌, ◌*◌}
use Rattle.meaning.proofs.Laws.Area.{name_word}
use native.Mathlib.Omega.{arith}
use Rattle.references.proofs.words.name_word.Goals as goal

pub returns : goal.returns
returns c = name_word _ _ _ (ap (λ (b : ℕ). b * 65536 + c.args.id.0) c.bit_of.ensures.0) (omega arith)
