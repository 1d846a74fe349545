-- What the values of the code stand for in the definitions, and what the functions of the loop promise.
use Rattle.std.specs.Prelude.{ℕ, ◌+◌, ◌*◌, ◌≤◌, ◌<◌, ◌≡◌, true, false, cond, List, map, length, drop, get_or, Some, None}
use Rattle.std.specs.Prelude as P
use Rattle.std.proofs.Math.Option.{Option, none, some}
use Rattle.meaning.specs.Limits.{max_blocks, area_words, u32_most}
use Rattle.meaning.specs.Area.{kept_of, forgotten}
use Rattle.meaning.specs.AbstractState.{State, join, join_blurs, changed}
use Rattle.meaning.specs.Blocks.{Routine, exec}
use Rattle.meaning.specs.Laws.Forms.{Strong}
use Rattle.meaning.specs.Laws.Promised.{promised}
use Rattle.meaning.specs.Loop as M
use Rattle.meaning.specs.Loop.{Result, Status, fine, failed, Next, at, stopped, Run, turn, Verdict, accept, violation, refusal, empty_cell, verdict_for, to_successor, successor_blurs}
use Rattle.meaning.specs.Listing.{read_listing, read, nothing, refused}
use Rattle.meaning.specs.Verify.{Answered, run_of, kept_by}
use Rattle.meaning.specs.Laws.Fit.{Does, Passes, Reached, propagate_on, propagate_blurs_on, lowest_by}
use Rattle.listing.specs.Models.{routine_of}
use Rattle.listing.specs.declared.Routine as D
use Rattle.abstract_state.specs.Models.{Words, words, Fits, state_of}
use Rattle.abstract_state.specs.declared.state.AbstractState.{AbstractState}
use Rattle.absint.specs.declared.run_state.Failure.{Failure}
use Rattle.absint.specs.declared.run_state.Stop.{Stop}
use Rattle.absint.specs.declared.run_state.RunState.{RunState}
use Rattle.absint.specs.declared.failure.FailedBlock.{FailedBlock}
use Rattle.absint.specs.declared.Ruling.{Ruling}
use Rattle.absint.specs.declared.Ruling.TheVariants.{Accept, Violation, Refused, Empty}
use Rattle.absint.specs.declared.Verdict as W

abbrev pub status_of : P.Option Failure → Status
status_of (Some x) = failed x.code x.offset.0 x.borrowed_at.0
status_of None = fine

unfoldable pub statuses_of : RunState → List Status
statuses_of t = map status_of t.statuses

-- who is next: i, unless the run was stopped
abbrev pub next_by : ℕ → P.Option Stop → Next
next_by i (Some r) = stopped r.number r.place.0
next_by i None = at i

abbrev pub next_of : RunState → Next
next_of t = next_by t.next t.stopped

-- ---- the verdict

abbrev pub ruling_of : Ruling → Verdict
ruling_of Accept = accept
ruling_of (Violation c o a) = violation c o.0 a.0
ruling_of (Refused n p) = refusal n p
ruling_of Empty = empty_cell

abbrev pub verdict_of : W.Verdict → Answered
verdict_of v = record { verdict = ruling_of v.ruling; visits = v.visits; blurred = v.blurred }

abbrev pub failure_of : P.Option FailedBlock → Option M.Failure
failure_of (Some b) = some (record { entry = b.entry.0; code = b.failure.code; offset = b.failure.offset.0; borrowed_at = b.failure.borrowed_at.0 })
failure_of None = none

-- the refusal that stopped the run, else v
abbrev pub verdict_by : Verdict → P.Option Stop → Verdict
verdict_by v (Some r) = refusal r.number r.place.0
verdict_by v None = v

abbrev pub verdict_in : List M.Block → RunState → Verdict
verdict_in bs t = verdict_by (verdict_for (lowest_by bs (statuses_of t) none)) t.stopped

-- ---- what the functions promise: `ws` the area before, `ws'` after

pub record SameCounts (t r : RunState) : Type 0 where
  pub visits : r.visits ≡ t.visits
  pub turns : r.turns ≡ t.turns
  pub blurred : r.blurred ≡ t.blurred

-- m sets more were blurred
pub record Counted (m : ℕ) (t r : RunState) : Type 0 where
  pub visits : r.visits ≡ t.visits
  pub turns : r.turns ≡ t.turns
  pub blurred : r.blurred ≡ t.blurred + m
  pub few : m ≤ u32_most

pub record Started (r : RunState) : Type 0 where
  pub next : next_of r ≡ at 0
  pub fines : (j : ℕ) → get_or (statuses_of r) j fine ≡ fine
  pub visits : r.visits ≡ 0
  pub turns : r.turns ≡ 0
  pub blurred : r.blurred ≡ 0

-- the kept state k of a routine with l locals stands in these words as a block starts from it
pub record From (k : Option State) (l : ℕ) (x : Words) : Type 0 where
  pub fits : Fits x
  pub kept : k ≡ some (state_of x)
  pub locals : x.state.num_locals ≡ l

-- the same, or word that there is none
abbrev pub StartsFrom : Option State → ℕ → List ℕ → List ℕ → List (List ℕ) → P.Option AbstractState → Type 0
StartsFrom k l ls ns es (Some s) = From k l (words ls ns es s)
StartsFrom k l ls ns es None = k ≡ none

-- more than the turns of a run within the limits (TurnLaws, `most_few`), so that its counts fit their 32 bits
abbrev pub turns_end : ℕ
turns_end = 1048576

-- What a turn's visit and its two joins blur at most, as each fits 32 bits; and the most that a count of 64 bits holds with one such
-- number to come. All turns of a run blur less (`turns_end` of them), so the count fits.
abbrev pub turn_most : ℕ
turn_most = 3 * u32_most

abbrev pub blurred_end : ℕ
blurred_end = 9223372036854775807

-- each kept state has the form that the blocks of a run hand on, so that its graph is well formed
abbrev pub Sound : ℕ → List ℕ → Type 0
Sound l ws = (j : ℕ) (k : State) → kept_of l ws j ≡ some k → Strong l k

-- a state that is handed on, in a run whose kept states these are
pub record Sent (l : ℕ) (ws : List ℕ) (x : Words) : Type 0 where
  pub fits : Fits x
  pub sound : Sound l ws
  pub strong : Strong l (state_of x)

-- what the joins of a propagation blur, at most so many sets, comes to the count; nothing else is counted
pub record Passed (bs : List M.Block) (f : (ℕ → State → Result State) → List (M.Slot State) → Next → ℕ) (l : ℕ) (ws : List ℕ) (most : ℕ) (t r : RunState) : Type 0 where
  pub more : ℕ
  pub passes : (ex : ℕ → State → Result State) → Passes State join join_blurs changed ex bs (f ex) (kept_of l ws) (statuses_of t) (next_of t) more
  pub few : more ≤ most
  pub visits : r.visits ≡ t.visits
  pub turns : r.turns ≡ t.turns
  pub blurred : r.blurred ≡ t.blurred + more

-- the end state s of block b goes to the successor with entry e
pub record PropagatedTo (bs : List M.Block) (l : ℕ) (b : M.Block) (s : State) (e : ℕ) (ws ws' : List ℕ) (t r : RunState) : Type 0 where
  pub does : (ex : ℕ → State → Result State) → Does State join join_blurs changed ex bs (to_successor State join join_blurs changed ex bs b s e) (kept_of l ws) (statuses_of t) (next_of t) (kept_of l ws') (statuses_of r) (next_of r)
  pub beyond : drop area_words ws' ≡ drop area_words ws
  pub passed : Passed bs (λ ex. successor_blurs State join join_blurs changed ex bs s e) l ws u32_most t r

-- and to all its successors
pub record Propagated (bs : List M.Block) (l : ℕ) (b : M.Block) (s : State) (ws ws' : List ℕ) (t r : RunState) : Type 0 where
  pub does : (ex : ℕ → State → Result State) → Does State join join_blurs changed ex bs (propagate_on State join join_blurs changed ex bs b s b.successors) (kept_of l ws) (statuses_of t) (next_of t) (kept_of l ws') (statuses_of r) (next_of r)
  pub beyond : drop area_words ws' ≡ drop area_words ws
  pub passed : Passed bs (λ ex. propagate_blurs_on State join join_blurs changed ex bs b s b.successors) l ws (2 * u32_most) t r

module _ (s cs : List ℕ) (d : D.Routine) where
  abbrev pub the_routine : Routine
  the_routine = routine_of s cs d

  -- the program stands where the run stands
  abbrev pub At : Run State → List ℕ → RunState → Type 0
  At r ws t = Reached State join join_blurs changed (exec the_routine) the_routine.blocks r (kept_of d.locals ws) (statuses_of t) (next_of t) t.visits t.blurred

  -- what the reader promises of the routine, as the code has it
  pub record Readable : Type 0 where
    pub promise : promised the_routine ≡ true
    pub blocks : d.block_count ≤ max_blocks
    pub count : length the_routine.blocks ≡ d.block_count
    pub some : 0 < length the_routine.blocks

  -- a block is next
  pub record Ready (ws : List ℕ) (t : RunState) : Type 0 where
    pub promise : promised the_routine ≡ true
    pub blocks : d.block_count ≤ max_blocks
    pub count : length the_routine.blocks ≡ d.block_count
    pub area : area_words ≤ length ws
    pub going : t.stopped ≡ None
    pub within : t.next < d.block_count
    pub sound : Sound d.locals ws
    pub few : t.turns < turns_end
    pub fewer : t.visits ≤ t.turns
    pub small : t.blurred ≤ t.turns * turn_most

  pub record Turned (ws ws' : List ℕ) (t r : RunState) : Type 0 where
    pub step : (x : Run State) → At x ws t → At (turn State join join_blurs changed (exec the_routine) the_routine.blocks x) ws' r
    pub turns : r.turns ≡ t.turns + 1
    pub fewer : r.visits ≤ r.turns
    pub small : r.blurred ≤ r.turns * turn_most
    pub beyond : drop area_words ws' ≡ drop area_words ws

  pub record Analyzed (ws ws' : List ℕ) (r : RunState) : Type 0 where
    pub end : At (run_of the_routine) ws' r
    pub beyond : drop area_words ws' ≡ drop area_words ws

-- What `analyze` leaves in the area. Where the listing is read: at every position the kept state of the definition's run, so none past the
-- last block. Words that `kept_of` does not read are free, and later ones as they were. An empty cell leaves no block with a kept state, and all words
-- but the sixteen that tell so as they were; refusals 1 to 7 and 33 the whole area.
pub record Left (s : List ℕ) (ws ws' : List ℕ) : Type 0 where
  pub kept : area_words ≤ length ws → (q : Routine) → read_listing s ≡ read q → (j : ℕ) → kept_of q.locals ws' j ≡ kept_by (read q) j
  pub bare : read_listing s ≡ nothing → ws' ≡ forgotten ws
  pub unread : (n p : ℕ) → read_listing s ≡ refused n p → ws' ≡ ws
  pub short : length ws < area_words → ws' ≡ ws
  pub beyond : drop area_words ws' ≡ drop area_words ws
