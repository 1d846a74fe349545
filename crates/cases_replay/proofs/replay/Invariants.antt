use Rattle.std.proofs.Common.{◌≤◌}
use Rattle.cases_replay.proofs.replay.Given as goal

abbrev pub invariant-loop-entry : goal.invariant-loop-entry
invariant-loop-entry g l = l.agree ≤ l.entry-counter
