-- The block loop (absint.rs), over any state with a join and any block execution.
use Prim.Native.Nat.{ℕ, zero, suc, ◌+◌, ◌*◌}
use Rattle.std.specs.Prelude.{cond, Bool, true, false, not, eqb, leb, ltb, length, get_or, set}
use mathlib.Core.List.{List, [], ◌∷◌, map}
use Rattle.std.proofs.Math.Option.{Option, none, some}
use Rattle.meaning.specs.Answers.{Ans, ok, refuse}

-- ---- the bounds of demand 3, for l locals and b blocks

-- "11 × L × L + L": the most that joins change one kept state
abbrev pub most_changes : ℕ → ℕ
most_changes l = 11 * l * l + l

-- "B × (1 + B × (11 × L × L + L))": a pass over the blocks, and one more for each change of a kept state
abbrev pub most_visits : ℕ → ℕ → ℕ
most_visits b l = b * (1 + b * most_changes l)

-- ---- what the loop works on

-- What running a block answers. `ended`: "its end state, renamed", for its successors; `returned`: the block ended and has no successors,
-- so its state goes to nobody; a violation, code, offset and where what it fails on was borrowed; a refusal, number and place. The first three
-- have in front how many sets the visit blurred.
pub data Result (St : Type 0) : Type 0 where
  ended : ℕ → St → Result St
  returned : ℕ → Result St
  violated : ℕ → ℕ → ℕ → ℕ → Result St
  refused : ℕ → ℕ → Result St

-- what a visit passes up: where a refusal ends it, none
abbrev pub passed_up : {St : Type 0} → Result St → ℕ
passed_up (ended k t) = k
passed_up (returned k) = k
passed_up (violated k c o a) = k
passed_up (refused n p) = 0

-- "entry u16, exit u16, n u8 (0–2), n successors u16": successors by their entries
pub record Block : Type 0 where
  pub entry : ℕ
  pub exit : ℕ
  pub successors : List ℕ

-- how a block's last run ended: "in error", with a violation's code, offset and borrow, or not (the Rust's BlockPostcondition). "An error may
-- vanish on a later visit", and does where a join changes the kept state.
pub data Status : Type 0 where
  fine : Status
  failed : ℕ → ℕ → ℕ → Status

-- "Each block has a kept state or none." (The Rust's BlockInvariant; `changes` counts the joins that changed the kept state.)
pub record Slot (St : Type 0) : Type 0 where
  pub kept : Option St
  pub status : Status
  pub changes : ℕ

-- Who is next: the block at a position of the list (none, at a position past its end). "A refusal, also one in a join, ends the run":
-- its number and place.
pub data Next : Type 0 where
  at : ℕ → Next
  stopped : ℕ → ℕ → Next

-- A run so far; `trail`: the positions of the blocks visited, the last one first; `blurs` "sums these over the whole run": the sets blurred in
-- all visits and joins. What is refused passes up none.
pub record Run (St : Type 0) : Type 0 where
  pub slots : List (Slot St)
  pub next : Next
  pub trail : List ℕ
  pub blurs : ℕ

-- "each run of a block from its kept state, failed ones and one ended by a refusal too"
abbrev pub visits : {St : Type 0} → Run St → ℕ
visits r = length r.trail

-- an end state on its way to the successors: what is kept so far, and who is next so far
pub record Propagation (St : Type 0) : Type 0 where
  pub slots : List (Slot St)
  pub next : Next

-- the position of the block with this entry; past the end, if there is none
unfoldable pub position : List Block → ℕ → ℕ
position [] e = zero
position (b ∷ bs) e = cond (eqb e b.entry) zero (suc (position bs e))

-- what stands past the end of the list
abbrev pub no_block : Block
no_block = record { entry = 0; exit = 0; successors = [] }

abbrev pub blank : {St : Type 0} → Slot St
blank = record { kept = none; status = fine; changes = 0 }

module _ (St : Type 0) (join : St → St → Ans St) (join_blurs : St → St → ℕ) (changed : St → St → Bool) (exec : ℕ → St → Result St) (blocks : List Block) where
  -- ---- the end state t of block b goes to the successor with entry e, at position j; n is next so far

  -- "Next is the last listed successor by a back edge whose kept state this changed, else the block listed after." "A back edge goes to an
  -- entry not above its own."
  abbrev pub after_change : Block → ℕ → ℕ → List (Slot St) → ℕ → St → Bool → Propagation St
  after_change b e j ss n k true = record { slots = set ss j (record { kept = some k; status = fine; changes = suc (get_or ss j blank).changes }); next = at (cond (leb e b.entry) j n) }
  after_change b e j ss n k false = record { slots = ss; next = at n }

  -- a refused join ends the run; its place is the "exit of the block just run"
  abbrev pub after_join : Block → ℕ → ℕ → List (Slot St) → ℕ → St → Ans St → Propagation St
  after_join b e j ss n s (ok k) = after_change b e j ss n k (changed s k)
  after_join b e j ss n s (refuse r) = record { slots = ss; next = stopped r b.exit }

  -- "one without a kept state takes it over, which is no join and no change; another's kept state is joined with it"
  abbrev pub to_kept : Block → St → ℕ → ℕ → List (Slot St) → ℕ → Option St → Propagation St
  to_kept b t e j ss n none = record { slots = set ss j (record { kept = some t; status = fine; changes = (get_or ss j blank).changes }); next = at n }
  to_kept b t e j ss n (some s) = after_join b e j ss n s (join s t)

  -- after a refusal nothing goes on
  abbrev pub to_successor : Block → St → ℕ → List (Slot St) → Next → Propagation St
  to_successor b t e ss (at n) = to_kept b t e (position blocks e) ss n (get_or ss (position blocks e) blank).kept
  to_successor b t e ss (stopped r p) = record { slots = ss; next = stopped r p }

  -- "goes to its successors as listed"
  unfoldable pub propagate : Block → St → List ℕ → Propagation St → Propagation St
  unfolding position
  propagate b t [] a = a
  propagate b t (e ∷ es) a = propagate b t es (to_successor b t e a.slots a.next)

  -- the sets that its joins blur: that with the kept state of the successor, if it has one
  abbrev pub kept_blurs : St → Option St → ℕ
  kept_blurs t none = 0
  kept_blurs t (some s) = join_blurs s t

  abbrev pub successor_blurs : St → ℕ → List (Slot St) → Next → ℕ
  successor_blurs t e ss (at n) = kept_blurs t (get_or ss (position blocks e) blank).kept
  successor_blurs t e ss (stopped r p) = 0

  unfoldable pub propagate_blurs : Block → St → List ℕ → Propagation St → ℕ
  unfolding position
  propagate_blurs b t [] a = 0
  propagate_blurs b t (e ∷ es) a = successor_blurs t e a.slots a.next + propagate_blurs b t es (to_successor b t e a.slots a.next)

  -- ---- one turn

  -- the block at position i gets the status x
  abbrev pub mark : List (Slot St) → ℕ → Status → List (Slot St)
  mark ss i x = set ss i (record { kept = (get_or ss i blank).kept; status = x; changes = (get_or ss i blank).changes })

  -- one visit; "After a violation the block listed after it is next."
  abbrev pub after_block : Run St → ℕ → Result St → Run St
  after_block r i (ended k t) =
      let b : Block = get_or blocks i no_block in
      let first : Propagation St = record { slots = mark r.slots i fine; next = at (suc i) } in
      let a : Propagation St = propagate b t b.successors first in
      record { slots = a.slots; next = a.next; trail = i ∷ r.trail; blurs = r.blurs + k + propagate_blurs b t b.successors first }
  after_block r i (returned k) = record { slots = mark r.slots i fine; next = at (suc i); trail = i ∷ r.trail; blurs = r.blurs + k }
  after_block r i (violated k c o a) = record { slots = mark r.slots i (failed c o a); next = at (suc i); trail = i ∷ r.trail; blurs = r.blurs + k }
  after_block r i (refused n p) = record { slots = r.slots; next = stopped n p; trail = i ∷ r.trail; blurs = r.blurs }

  -- "A next block without a kept state is passed over; that is no visit, and the block listed after it is next. Otherwise it runs from its
  -- kept state: one visit."
  abbrev pub visit_block : Run St → ℕ → Option St → Run St
  visit_block r i none = record { slots = r.slots; next = at (suc i); trail = r.trail; blurs = r.blurs }
  visit_block r i (some s) = after_block r i (exec i s)

  -- "The run ends by itself where no block is next or a refusal ends it.": then a turn does nothing
  abbrev pub turn_at : Run St → Next → Run St
  turn_at r (at i) = cond (ltb i (length blocks)) (visit_block r i (get_or r.slots i blank).kept) r
  turn_at r (stopped n p) = r

  unfoldable pub turn : Run St → Run St
  unfolding propagate propagate_blurs
  turn r = turn_at r r.next

  unfoldable pub turns : ℕ → Run St → Run St
  unfolding turn
  turns zero r = r
  turns (suc f) r = turns f (turn r)

  -- "At first only the first listed block has one"
  unfoldable pub start_slots : List Block → St → List (Slot St)
  start_slots [] s = []
  start_slots (b ∷ bs) s = record { kept = some s; status = fine; changes = 0 } ∷ map (λ c. blank) bs

  -- the run from the first state s, with a budget of turns; the first listed block "is next"
  unfoldable pub run : ℕ → St → Run St
  unfolding turns start_slots
  run f s = turns f (record { slots = start_slots blocks s; next = at 0; trail = []; blurs = 0 })

  -- no block is next, or a refusal ended the run
  abbrev pub ended_at : Next → Bool
  ended_at (at i) = not (ltb i (length blocks))
  ended_at (stopped n p) = true

  abbrev pub has_ended : Run St → Bool
  has_ended r = ended_at r.next

-- ---- the verdict of a run

-- a violation by its code, its offset and, by A9, the offset behind `BORROWED AT`; a refusal by its number and place; A3: "an empty cell, a fourth
-- answer beside demand 1's three", which no run gives
pub data Verdict : Type 0 where
  accept : Verdict
  violation : ℕ → ℕ → ℕ → Verdict
  refusal : ℕ → ℕ → Verdict
  empty_cell : Verdict

-- a block that ended in error: its entry, and the violation's code, offset and borrow
pub record Failure : Type 0 where
  pub entry : ℕ
  pub code : ℕ
  pub offset : ℕ
  pub borrowed_at : ℕ

-- the failure of the lower entry: of the lowest so far and of a block with entry e
abbrev pub lower : ℕ → Status → Option Failure → Option Failure
lower e fine f = f
lower e (failed c o a) none = some (record { entry = e; code = c; offset = o; borrowed_at = a })
lower e (failed c o a) (some f) = some (cond (ltb e f.entry) (record { entry = e; code = c; offset = o; borrowed_at = a }) f)

-- "the lowest entry that ends in error, if any", given the lowest so far
unfoldable pub lowest : {St : Type 0} → List Block → List (Slot St) → Option Failure → Option Failure
lowest [] ss f = f
lowest (x ∷ xs) [] f = f
lowest (x ∷ xs) (s ∷ ss) f = lowest xs ss (lower x.entry s.status f)

abbrev pub verdict_for : Option Failure → Verdict
verdict_for none = accept
verdict_for (some f) = violation f.code f.offset f.borrowed_at

-- "The verdict is the violation of the lowest entry that ends in error, if any."; a refusal that ended the run comes before
abbrev pub verdict_at : {St : Type 0} → List Block → List (Slot St) → Next → Verdict
verdict_at bs ss (at i) = verdict_for (lowest bs ss none)
verdict_at bs ss (stopped n p) = refusal n p

unfoldable pub verdict : {St : Type 0} → List Block → Run St → Verdict
unfolding lowest
verdict bs r = verdict_at bs r.slots r.next
