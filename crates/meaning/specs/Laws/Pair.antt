-- Words of contracts whose laws stand in proofs/Laws/Pair.antt.
use Rattle.std.specs.Prelude.{ℕ, ◌≡◌}
use Rattle.std.proofs.Math.Bool.{true}
use mathlib.Core.List.{List}
use Rattle.meaning.specs.References.{set_ok}
use Rattle.meaning.specs.BorrowGraph.{GEdge, set_at, in_order}

-- the edges of a well-formed graph, of any number
pub record Neat (es : List GEdge) : Type 0 where
  pub order : in_order es ≡ true
  pub sets : (p c : ℕ) → set_ok (set_at p c es) ≡ true
