use Rattle.std.specs.Prelude.{◌≡◌, map, drop}
use Rattle.std.proofs.Math.Option.{none}
use Rattle.meaning.specs.Laws.Fit.{lowest_by}
use Rattle.listing.specs.Models.{block_of}
use Rattle.absint.specs.Models.{statuses_of, failure_of}
use Rattle.absint.proofs.failure.verdict_of.Given as goal

abbrev pub invariant-loop-i : goal.invariant-loop-i
invariant-loop-i l = lowest_by (drop l.i (map block_of l.blocks)) (drop l.i (statuses_of l.t)) (failure_of l.lowest) ≡ lowest_by (map block_of l.blocks) (statuses_of l.t) none
