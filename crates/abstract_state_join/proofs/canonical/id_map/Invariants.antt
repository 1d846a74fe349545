use mathlib.Core.Path.{◌≡◌}
use mathlib.Core.List.{◌++◌, map}
use Prim.Native.Nat.{◌+◌, ◌≤◌}
use lib.ListN.{length, take, drop}
use Rattle.borrow_graph.specs.Models.{change_of}
use Rattle.abstract_state.specs.Models.{locals_in}
use Rattle.abstract_state_join.specs.Models.{renames}
use Rattle.abstract_state_join.proofs.canonical.id_map.Given as goal

abbrev pub invariant-loop-i : goal.invariant-loop-i
invariant-loop-i l = (l.len ≤ l.i + 1) × (length l.list ≡ 48) × (length l.locals ≡ 16 → map change_of (take l.len l.list) ++ renames l.i (drop l.i (locals_in l.locals l.n)) ≡ map change_of (take 1 l.initial.list) ++ renames 0 (locals_in l.locals l.n))
