use Rattle.std.specs.Prelude.{ℕ, ◌-◌, List}
use Rattle.file_format.specs.Models.{token_of}
use Rattle.reference_safety.specs.Models.{board}
use Rattle.reference_safety.specs.MachineLaws.{Turns}
use Rattle.reference_safety.proofs.machine.push_new.Given as goal

abbrev pub invariant-loop-i : goal.invariant-loop-i
invariant-loop-i l = (ls : List ℕ) (es : List (List ℕ)) → Turns (token_of l.token) l.n (board ls l.initial.names es l.initial.m) (l.n - l.i) (board ls l.names es l.m)
