-- The headline statements about the definitions, in one file. The proofs are in Laws.
use Rattle.std.specs.Prelude.{ℕ, ◌≤◌, ◌<◌, ◌*◌, true, false, List, [], ◌∷◌, ◌++◌, map, ◌⊎◌, ◌≡◌, refl, ltb, length, get_or}
use Rattle.std.proofs.Common.{arith}
use Rattle.std.proofs.Math.Option.{some}
use Rattle.meaning.specs.Limits.{area_words}
use Rattle.meaning.specs.Answers.{ok}
use Rattle.meaning.specs.Lists.{all}
use Rattle.meaning.specs.References.{covered}
use Rattle.meaning.specs.BorrowGraph.{Graph, set_at, held, well_formed, Change, name_after, remap}
use Rattle.meaning.specs.AbstractState.{State, Form, Parts, join_locals, join, changed, changes, join_blurs, new_name_of, canonical}
use Rattle.meaning.specs.Blocks.{Routine, exec}
use Rattle.meaning.specs.Loop.{most_changes, most_visits, visits, passed_up, blank, has_ended, ended, stopped, violation, refusal, empty_cell}
use Rattle.meaning.specs.Listing.{Listed, read, whole_at, Places, read_places, read_listing}
use Rattle.meaning.specs.Verify.{run_with, run_of, verify}
use Rattle.meaning.proofs.Marked as Marked
use Rattle.meaning.proofs.Laws.Block.{Ended, exec_hands}
use Rattle.meaning.proofs.Laws.Decode.{Bytes, joined}
use Rattle.meaning.proofs.Laws.Empty as Empty
use Rattle.meaning.proofs.Laws.Exchange.{Carried, Exchanged, Stepwise}
use Rattle.meaning.proofs.Laws.Exchange as Exchange
use Rattle.meaning.proofs.Laws.Few.{exec_few}
use Rattle.meaning.specs.Laws.Forms.{Settled}
use Rattle.meaning.proofs.Laws.InTurnRun.{run_in_turn_lem}
use Rattle.meaning.proofs.Laws.Listing.{accepted_promised}
use Rattle.meaning.proofs.Laws.Offsets as Offsets
use Rattle.meaning.proofs.Laws.Order.{record_at, Late, read_before}
use Rattle.meaning.proofs.Laws.Order as Order
use Rattle.meaning.proofs.Laws.Own.{times}
use Rattle.meaning.specs.Laws.Promised.{promised}
use Rattle.meaning.proofs.Laws.RedateRun.{redate_answered, forget, undated, verify_by}
use Rattle.meaning.proofs.Laws.RedateRun as Redates
use Rattle.meaning.proofs.Laws.State.{Forms}
use Rattle.meaning.proofs.Laws.State as States
use Rattle.meaning.proofs.Laws.Run as Runs
use Rattle.meaning.proofs.Laws.Tests.{Stays}
use Rattle.meaning.proofs.Laws.Tests as Tests
use Rattle.meaning.proofs.Laws.Told.{told}
use Rattle.meaning.proofs.Laws.Verify.{verify_short}
use Rattle.meaning.specs.Refinement.InTurn.{run_in_turn}

-- ---- the marked cases

pub marked : all (λ b. b) Marked.cases ≡ true
marked = Marked.marked

-- ---- demand 3: lists of joins

-- "a single claim about the whole list": whatever states are handed in, and whichever joins are refused
pub changes_bound : (l : ℕ) (s : State) (os : List State) → Form l s → Forms l os → changes s os ≤ most_changes l
changes_bound = States.changes_bound

-- After a join that is not refused each edge of either state, after the releases, is covered by an edge of the answer between the same names.
pub join_covers : (s o t : State) → join s o ≡ ok t → (r : Parts) → join_locals s.locals o.locals s.graph o.graph ≡ ok r → (p c : ℕ)
    → (all (covered (set_at p c t.graph.edges).edges) (set_at p c r.ours.edges).edges ≡ true)
    × (all (covered (set_at p c t.graph.edges).edges) (set_at p c r.theirs.edges).edges ≡ true)
join_covers = States.join_covers

-- ---- demand 3: from a listing's bytes to the bounds of its run

-- the listing s is read as the routine q
pub record Bounded (s : List ℕ) (q : Routine) : Type 0 where
  -- at most B × (1 + B × (11 × L × L + L)) visits, whatever the budget
  pub few_visits : (budget : ℕ) → visits (run_with q budget) ≤ most_visits (length q.blocks) q.locals
  -- no kept state changes more than 11 × L × L + L times
  pub few_changes : (budget j : ℕ) → (get_or (run_with q budget).slots j blank).changes ≤ most_changes q.locals
  -- the run ends by itself: no block is next, or a refusal ended it
  pub ends : has_ended State join join_blurs changed (exec q) q.blocks (run_of q) ≡ true
  -- every larger budget gives the same run
  pub same : (budget : ℕ) → most_visits (length q.blocks) q.locals ≤ budget → run_with q budget ≡ run_of q
  -- A visit from a state that any run keeps passes up at most 512 × 144 × 96 blurred sets: less than `u32_most`, so `count_on` only adds.
  pub few_blurs : (budget j : ℕ) (k : State) → (get_or (run_with q budget).slots j blank).kept ≡ some k → passed_up (exec q j k) ≤ 512 * (144 * 96)
  -- the visits that are answered, for an area of any length
  pub answered : (words : ℕ) → (verify words s).visits ≤ most_visits (length q.blocks) q.locals
  -- it is refused with 7, for a short area, or by the run: with 10 to 15, the author's, or 20 to 22, the controller's
  pub refused : (words n p : ℕ) → (verify words s).verdict ≡ refusal n p → (n ≡ 7) ⊎ (((10 ≤ n) × (n ≤ 15)) ⊎ ((20 ≤ n) × (n ≤ 22)))

pub demand3 : (s : List ℕ) (q : Routine) → read_listing s ≡ read q → Bounded s q
unfolding run_of
demand3 s q e =
    let p : promised q ≡ true = accepted_promised s q e in
    record {
      few_visits = Runs.visits_bound q p;
      few_changes = Runs.run_changes_bound q p;
      ends = Runs.ends_itself q p (most_visits (length q.blocks) q.locals) (omega arith);
      same = Runs.same_run q p;
      few_blurs = λ f j k h. exec_few q p j k (Runs.kept_strong q p f j k h);
      answered = Runs.answer_visits s q e;
      refused = Runs.answer_numbers s q e;
    }

-- ---- A9: where it was borrowed

-- "Join covering and the verdicts are those we have today." For each violation, 101 to 114, the test of before is that some edge fails the test on one
-- edge. n is the name that is tested.
pub tests_stay : (g : Graph) (n : ℕ) → Stays g n
tests_stay = Tests.tests_stay

-- "Equality, order and covering ignore it", and so do well-formedness, the rank of a state and what a join changed.
pub ignored : Offsets.Ignored
ignored = Offsets.ignored

-- Forgetting the offsets of a run gives the run of before: one whose instructions put no offset but 0 on their edges. So verdicts, visits, the order
-- of the visits, blurred sets and, but for their offsets, kept states are those of before; of a violation the code and its own offset stay.
pub forgotten : ((words : ℕ) (s : List ℕ) → redate_answered (λ o. 0) (λ o. o) (verify words s) ≡ verify_by (λ o. 0) words s)
    × ((q : Routine) → forget (run_of q) ≡ undated q)
forgotten = (Redates.forgotten, Redates.forgotten_run)

-- "Each edge should carry the offset of the instruction that made it": of a listing that is read, what a violation prints behind `BORROWED AT` is the
-- offset of an instruction, and so is the offset of each edge of a state that any run keeps.
pub borrowed_at_lem : (s : List ℕ) (q : Routine) → read_listing s ≡ read q
    → ((words c o a : ℕ) → (verify words s).verdict ≡ violation c o a → (o < length q.code) × (a < length q.code))
    × ((budget j : ℕ) (k : State) → (get_or (run_with q budget).slots j blank).kept ≡ some k
    → all (λ x. ltb x.edge.offset (length q.code)) k.graph.edges ≡ true)
borrowed_at_lem s q e = ((Redates.dated s q e).borrowed_at_lem, (Redates.dated s q e).kept_at)

-- ---- A2: names changed together

-- What a block of a run hands on to its successors is a settled state with its names changed.
pub hands_on : (s : List ℕ) (q : Routine) → read_listing s ≡ read q → (budget j n : ℕ) (k t : State) → (get_or (run_with q budget).slots j blank).kept ≡ some k
    → exec q j k ≡ ended n t → Ended q.locals t
hands_on s q e f j n k t h r = exec_hands q (accepted_promised s q e) j n k t r (Runs.kept_strong q (accepted_promised s q e) f j k h)

-- "All names are to be changed together, each by its old value, so an exchange is simply an exchange." From a settled state s: each local's reference
-- has the local's index for its name and keeps its mutability and its edges; no name and no edge is lost, and none is made up.
pub exchanged : (l : ℕ) (s : State) → Settled l s
    → (Exchanged s (canonical l s)) × (Carried (new_name_of l s.locals) s.graph (canonical l s).graph)
exchanged l s h = (Exchange.exchanged l s h, Exchange.canonical_carries l s h.opened)

-- "a direct rename": where it is not refused, the same holds of it
pub renamed_whole : (g h : Graph) (ms : List Change) → remap g ms ≡ ok h → Carried (name_after ms) g h
renamed_whole = Exchange.remap_carries

-- A cycle of any length, from a by the different names bs back to a, is never refused; a chain from a by bs to z is not, where z is not held.
pub cycles : (g : Graph) (a : ℕ) (bs : List ℕ) → well_formed g ≡ true → ((n : ℕ) → times n (a ∷ bs) ≤ 1) → Stepwise g a bs a
cycles = Exchange.cycle

pub chains : (g : Graph) (a : ℕ) (bs : List ℕ) → well_formed g ≡ true → ((n : ℕ) → times n (a ∷ bs) ≤ 1) → (z : ℕ) → times z bs ≡ 0 → held g z ≡ false
    → Stepwise g a bs z
chains = Exchange.chain

-- "Nothing crosses where 01's condition for 16 at a block's end never holds; there the kept states equal the Rust's." `run_in_turn` is document 01's
-- run: it renames one by one as the Rust does and is refused with 16 where names cross. Where it is not, it is the run, with kept states, visits and
-- all.
pub one_by_one_lem : (s : List ℕ) (q : Routine) → read_listing s ≡ read q → (budget : ℕ)
    → (run_with q budget ≡ run_in_turn q budget) ⊎ ((p : ℕ) × ((run_in_turn q budget).next ≡ stopped 16 p))
one_by_one_lem s q e = run_in_turn_lem q (accepted_promised s q e)

-- ---- A3: bare cells

-- "Zero bytes now mean an empty cell", and nothing else does; "the visit count is 0"; "A work area that is too short is still reported first."
pub empty_cell_lem : ((words : ℕ) → area_words ≤ words → verify words [] ≡ record { verdict = empty_cell; visits = 0; blurred = 0 })
    × ((words : ℕ) (s : List ℕ) → (verify words s).verdict ≡ empty_cell → (s ≡ []) × (area_words ≤ words))
    × ((words : ℕ) (s : List ℕ) → words < area_words → verify words s ≡ record { verdict = refusal 7 0; visits = 0; blurred = 0 })
empty_cell_lem = (Empty.zero_bytes, Empty.only_zero_bytes, verify_short)

-- "Number 1 is left for records that end too early": a record starts at its place, and is not whole.
pub ends_early : (words : ℕ) (s : List ℕ) (p : ℕ) → (verify words s).verdict ≡ refusal 1 p → (p < length s) × (whole_at s p ≡ false)
ends_early words s p e = (told words 1 p (λ z. omega arith) refl s e).1 refl

-- ---- A5: blocks before code

-- "every block record in a kind 1 listing stands before the first instruction": a listing that is read is its first record, its blocks and its
-- instructions, one after the other.
pub blocks_first : (s : List ℕ) (w : Places) → read_places s ≡ read w
    → s ≡ record_at s 0 ++ joined (map (record_at s) w.blocks) ++ joined (map (record_at s) w.code)
blocks_first = Order.blocks_first

-- "Two people exported one routine and got files that differ": not any more. Of two listings with the same first record, the same block records and
-- the same instruction records at most one order is read.
pub one_order : (s t : List ℕ) (v w : Places) → read_places s ≡ read v → read_places t ≡ read w → record_at s 0 ≡ record_at t 0
    → map (record_at s) v.blocks ≡ map (record_at t) w.blocks → map (record_at s) v.code ≡ map (record_at t) w.code → s ≡ t
one_order = Order.one_order

-- So a routine has one listing of kind 1: what is read as one routine is the same bytes, but for the first record, since a routine counts its returns
-- and does not name their tokens.
pub one_listing : (s t : List ℕ) → Bytes s → Bytes t → (q : Routine) → read_listing s ≡ read q → read_listing t ≡ read q → record_at s 0 ≡ record_at t 0
    → s ≡ t
one_listing = Order.one_listing

-- "It refuses with 33 a block record found after an instruction, at that record's start", and nothing else.
pub block_late : (words : ℕ) (s : List ℕ) (p : ℕ) → (verify words s).verdict ≡ refusal 33 p → Late s p
block_late words s p e = (told words 33 p (λ z. omega arith) refl s e).2 refl

-- What has a byte is read as document 01 has it, unless it is refused with 33.
pub bytes_stay : (x : ℕ) (xs : List ℕ) → (read_listing (x ∷ xs) ≡ read_before (x ∷ xs)) ⊎ ((p : ℕ) × (read_listing (x ∷ xs) ≡ Listed.refused 33 p))
bytes_stay = Order.bytes_stay
