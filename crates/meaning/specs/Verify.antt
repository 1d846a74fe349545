-- The answer to a listing, from its bytes to the verdict: document 01 as a whole.
use Rattle.std.specs.Prelude.{ℕ, cond, List, ltb, length, get_or}
use Rattle.std.proofs.Math.Option.{Option, none}
use Rattle.meaning.specs.Limits.{area_words}
use Rattle.meaning.specs.AbstractState.{State, join, join_blurs, changed, first_state}
use Rattle.meaning.specs.Blocks.{Routine, exec}
use Rattle.meaning.specs.Loop.{Run, run, visits, most_visits, Verdict, verdict, refusal, empty_cell, blank}
use Rattle.meaning.specs.Listing.{Listed, read, nothing, refused, read_listing}

-- the run of a routine with a budget of turns, "with the parameters present and no edges" at first
abbrev pub run_with : Routine → ℕ → Run State
run_with q f = run State join join_blurs changed (exec q) q.blocks f (first_state q.locals q.params)

-- The run of a routine. Its budget never ends it: Theorems has that the run ends by itself, and is the same with any larger one.
unfoldable pub run_of : Routine → Run State
run_of q = run_with q (most_visits (length q.blocks) q.locals)

-- "The run also answers its block visits", and, by A1, the number of sets that were blurred in it
pub record Answered : Type 0 where
  pub verdict : Verdict
  pub visits : ℕ
  pub blurred : ℕ

-- "0 for refusals 1–7", and by A5 for 33; A3: an empty cell, and "the visit count is 0"
abbrev pub answer_to : Listed Routine → Answered
answer_to (read q) = record { verdict = verdict q.blocks (run_of q); visits = visits (run_of q); blurred = (run_of q).blurs }
answer_to nothing = record { verdict = empty_cell; visits = 0; blurred = 0 }
answer_to (refused n at) = record { verdict = refusal n at; visits = 0; blurred = 0 }

-- "7: work area under 16,384 32-bit words (place 0 ..)", and "Order: 7; ..": before the listing is read. A3: "A work area that is too short is still
-- reported first." `words`: how long the area is.
unfoldable pub verify : ℕ → List ℕ → Answered
unfolding read_listing run_of
verify words s = cond (ltb words area_words) (record { verdict = refusal 7 0; visits = 0; blurred = 0 }) (answer_to (read_listing s))

-- the kept state of the block at a position as the loop leaves it, none past the last block
abbrev pub kept_by : Listed Routine → ℕ → Option State
kept_by (read q) j = (get_or (run_of q).slots j blank).kept
kept_by nothing j = none
kept_by (refused n at) j = none
