-- Words of contracts whose laws stand in proofs/Laws/Answer.antt.
use Prim.Native.Nat.{◌≤◌}
use Rattle.meaning.specs.Loop.{Verdict, accept, violation, refusal, empty_cell}

abbrev pub Low : Verdict → Type 0
Low accept = Unit {0}
Low (violation c o a) = Unit {0}
Low (refusal n p) = p ≤ 65536
Low empty_cell = Unit {0}
