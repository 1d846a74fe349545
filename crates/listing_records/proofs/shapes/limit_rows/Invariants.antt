use mathlib.Core.Path.{◌≡◌}
use Prim.Native.Nat.{◌+◌, ◌-◌, ◌≤◌}
use mathlib.Core.List.{map}
use lib.ListN.{length, take}
use Rattle.meaning.specs.Lists.{up_to}
use Rattle.listing_records.specs.Models.{limit_row}
use Rattle.listing_records.proofs.shapes.limit_rows.Given as goal

-- the first rows are there
abbrev pub invariant-loop-i : goal.invariant-loop-i
invariant-loop-i l = (l.i ≤ 18) × (length l.rows ≡ 18) × (map (λ r. r) (take l.i l.rows) ≡ up_to l.i (λ k. limit_row l.locals (10 + k)))

abbrev pub decreases-loop-i : goal.decreases-loop-i
decreases-loop-i l = 18 - l.i
