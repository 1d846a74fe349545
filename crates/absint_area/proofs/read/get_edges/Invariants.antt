use Prim.Native.Nat.{◌+◌, ◌*◌}
use mathlib.Core.Path.{◌≡◌}
use mathlib.Core.List.{[]}
use lib.ListN.{length}
use Rattle.meaning.specs.Area.{edge_in, word_at}
use Rattle.meaning.specs.Laws.Area.{Filled}
use Rattle.references.specs.Models.{row_of}
use Rattle.absint_area.proofs.read.get_edges.Given as goal

abbrev pub invariant-loop-i : goal.invariant-loop-i
invariant-loop-i l = length l.initial.edges ≡ 96 → Filled row_of [] (λ j. edge_in (word_at l.ws) (l.at + 10 * j)) 96 l.i l.edges
