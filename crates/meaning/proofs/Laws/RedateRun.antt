-- Offsets changed (Redate) in a block's run, in the loop and in the answer to a listing. Two consequences: forgetting the offsets of a run gives
-- the run in which every offset is 0, and every offset of a run is that of an instruction.
use Prim.Native.Nat.{ℕ, zero, suc, ◌+◌, ◌-◌, ◌<◌, ◌≤◌, min}
use Rattle.std.proofs.Common.{arith, sym, ◌∙◌, ltb-true, ltb-false, lt-ltb, length-take, length-drop}
use Rattle.std.specs.Prelude.{Bool, true, false, cond, ◌≡◌, ltb, leb, set, take, drop}
use mathlib.Core.List.{List, [], ◌∷◌, map, map-map}
use Rattle.std.proofs.Math.Option
use Rattle.std.proofs.Math.Option.{Option, none, some}
use Rattle.std.proofs.Math.Path.{refl, ap}
use Rattle.std.proofs.Math.ListN.{length, get_or, get_or-map}
use Rattle.meaning.specs.Limits.{area_words}
use Rattle.meaning.specs.Answers.{Ans, ok, refuse, Outcome, done, violated, refused}
use Rattle.meaning.specs.Lists.{all}
use Rattle.meaning.specs.BorrowGraph.{GEdge}
use Rattle.meaning.specs.AbstractState.{State, Operand, Token, join, join_blurs, changed, first_state}
use Rattle.meaning.specs.EntryPoints.{Running}
use Rattle.meaning.specs.Steps.{Instr, Machine, step}
use Rattle.meaning.specs.Blocks.{Routine, instrs_of, start_machine, end_of, finish, settle, machine_at, run_from, run_block, exec}
use Rattle.meaning.specs.Loop.{Result, Block, Status, fine, failed, Slot, Next, at, stopped, Run, visits, Propagation, position, no_block, blank, most_visits, after_change, after_join, to_kept, to_successor, propagate, kept_blurs, successor_blurs, propagate_blurs, mark, after_block, visit_block, turn_at, turn, turns, start_slots, run, Verdict, accept, violation, refusal, empty_cell, Failure, lower, lowest, verdict_for, verdict_at, verdict}
use Rattle.meaning.specs.Listing.{Listed, read, nothing, read_listing}
use Rattle.meaning.specs.Listing as S
use Rattle.meaning.specs.Verify.{run_with, run_of, Answered, answer_to, verify}
use Rattle.meaning.proofs.Laws.Answer.{rules}
use Rattle.meaning.proofs.Laws.Base.{decide, and_i}
use Rattle.meaning.proofs.Laws.Listing.{Ruled, accepted_block}
use Rattle.meaning.proofs.Laws.Redate.{redate_gedge, redate_all, redate_state, map_ans, past, canonical_redate, join_redate, join_blurs_redate, changed_redate}
use Rattle.meaning.proofs.Laws.RedateStep.{redate_running, redate_machine, Redates, step_redate}
use Rattle.meaning.proofs.Laws.Verify.{verify_short, verify_long, verify_either}

-- ---- the changes: f is for where something was borrowed, g for where a violation was

abbrev pub redate_result : (ℕ → ℕ) → (ℕ → ℕ) → Result State → Result State
redate_result f g (Result.ended k t) = Result.ended k (redate_state f t)
redate_result f g (Result.returned k) = Result.returned k
redate_result f g (Result.violated k c o a) = Result.violated k c (g o) (f a)
redate_result f g (Result.refused n p) = Result.refused n p

abbrev pub redate_status : (ℕ → ℕ) → (ℕ → ℕ) → Status → Status
redate_status f g fine = fine
redate_status f g (failed c o a) = failed c (g o) (f a)

abbrev pub redate_slot : (ℕ → ℕ) → (ℕ → ℕ) → Slot State → Slot State
redate_slot f g s = record { kept = Option.map (redate_state f) s.kept; status = redate_status f g s.status; changes = s.changes }

abbrev pub redate_slots : (ℕ → ℕ) → (ℕ → ℕ) → List (Slot State) → List (Slot State)
redate_slots f g ss = map (redate_slot f g) ss

abbrev redate_propagation : (ℕ → ℕ) → (ℕ → ℕ) → Propagation State → Propagation State
redate_propagation f g a = record { slots = redate_slots f g a.slots; next = a.next }

abbrev pub redate_run : (ℕ → ℕ) → (ℕ → ℕ) → Run State → Run State
redate_run f g r = record { slots = redate_slots f g r.slots; next = r.next; trail = r.trail; blurs = r.blurs }

abbrev pub redate_verdict : (ℕ → ℕ) → (ℕ → ℕ) → Verdict → Verdict
redate_verdict f g accept = accept
redate_verdict f g (violation c o a) = violation c (g o) (f a)
redate_verdict f g (refusal n p) = refusal n p
redate_verdict f g empty_cell = empty_cell

abbrev pub redate_answered : (ℕ → ℕ) → (ℕ → ℕ) → Answered → Answered
redate_answered f g a = record { verdict = redate_verdict f g a.verdict; visits = a.visits; blurred = a.blurred }

-- ---- runs with edges dated by d: the instruction at offset o puts d o on the edges that it makes; a violation's own offset is still o

unfoldable pub run_from_by : (ℕ → ℕ) → ℕ → Block → ℕ → List Instr → Machine → Result State
run_from_by d returns b o [] m = finish b m.state m.stack
run_from_by d returns b o (i ∷ is) m = settle o (step returns i (machine_at (d o) m)) (λ n. run_from_by d returns b (suc o) is n)

unfoldable pub run_block_by : (ℕ → ℕ) → Routine → Block → State → Result State
unfolding run_from_by
run_block_by d q b s = run_from_by d q.returns b b.entry (instrs_of b q.code) (start_machine q.locals s)

unfoldable pub exec_by : (ℕ → ℕ) → Routine → ℕ → State → Result State
unfolding run_block_by
exec_by d q i s = run_block_by d q (get_or q.blocks i no_block) s

-- with a budget of turns, from any first state
abbrev pub run_by : (ℕ → ℕ) → Routine → ℕ → State → Run State
run_by d q n s = run State join join_blurs changed (exec_by d q) q.blocks n s

-- the run of a routine, and the answer to a listing
unfoldable pub run_of_by : (ℕ → ℕ) → Routine → Run State
run_of_by d q = run_by d q (most_visits (length q.blocks) q.locals) (first_state q.locals q.params)

abbrev pub answer_by : (ℕ → ℕ) → Listed Routine → Answered
answer_by d (read q) = record { verdict = verdict q.blocks (run_of_by d q); visits = visits (run_of_by d q); blurred = (run_of_by d q).blurs }
answer_by d nothing = record { verdict = empty_cell; visits = 0; blurred = 0 }
answer_by d (S.refused n p) = record { verdict = refusal n p; visits = 0; blurred = 0 }

unfoldable pub verify_by : (ℕ → ℕ) → ℕ → List ℕ → Answered
unfolding read_listing run_of_by
verify_by d words s = cond (ltb words area_words) (record { verdict = refusal 7 0; visits = 0; blurred = 0 }) (answer_by d (read_listing s))

-- the definitions have each instruction's own offset
run_from_by_lem : (returns : ℕ) (b : Block) (o : ℕ) (is : List Instr) (m : Machine) → run_from returns b o is m ≡ run_from_by (λ n. n) returns b o is m
unfolding run_from run_from_by
run_from_by_lem returns b o [] m = refl
run_from_by_lem returns b o (i ∷ is) m = λ j. settle o (step returns i (machine_at o m)) (λ n. run_from_by_lem returns b (suc o) is n j)

pub exec_by_lem : (q : Routine) (i : ℕ) (s : State) → exec q i s ≡ exec_by (λ n. n) q i s
unfolding exec exec_by run_block run_block_by
exec_by_lem q i s =
    let b : Block = get_or q.blocks i no_block in
    run_from_by_lem q.returns b b.entry (instrs_of b q.code) (start_machine q.locals s)

-- ---- one block's run

module _ (f g : ℕ → ℕ) (minima : (a b : ℕ) → f (min a b) ≡ min (f a) (f b)) where
  finish_redate : (b : Block) (r : Running) (vs : List Operand) → finish b (redate_running f r) vs ≡ redate_result f g (finish b r vs)
  finish_redate b r [] = end b.successors
    where
      end : (es : List ℕ) → end_of b es (redate_running f r) ≡ redate_result f g (end_of b es r)
      end [] = refl
      end (e ∷ es) = ap (Result.ended r.blurs) (canonical_redate f r.root (record { locals = r.locals; graph = r.graph }))
  finish_redate b r (v ∷ vs) = refl

  settle_redate : (o : ℕ) (a b : Outcome Machine) → Redates f (redate_machine f) a b → g o ≡ o → (k l : Machine → Result State)
      → ((m : Machine) → l (redate_machine f m) ≡ redate_result f g (k m)) → settle o b l ≡ redate_result f g (settle o a k)
  settle_redate o (done m) b d e k l h = rw (← d.same) (h m)
  settle_redate o (violated n c x) b d e k l h = rw (← d.same, e)
  settle_redate o (refused n) b d e k l h = rw (← d.same)

  module _ (d d' : ℕ → ℕ) (most : ℕ) (dates : (o : ℕ) → o < most → d' o ≡ f (d o)) (places : (o : ℕ) → o < most → g o ≡ o) where
    run_from_by_redate : (returns : ℕ) (b : Block) (o : ℕ) (is : List Instr) (m : Machine) → o + length is ≤ most
        → run_from_by d' returns b o is (redate_machine f m) ≡ redate_result f g (run_from_by d returns b o is m)
    unfolding run_from_by
    run_from_by_redate returns b o [] m h = finish_redate b m.state m.stack
    run_from_by_redate returns b o (i ∷ is) m h =
        let k : o < most = omega (arith, h) in
        let l : Machine = machine_at (d o) m in
        rw (dates o k)
        (settle_redate o (step returns i l) (step returns i (redate_machine f l)) (step_redate f minima returns i l) (places o k) _ _
        (λ n. run_from_by_redate returns b (suc o) is n (omega (arith, h))))

    -- the offset that a machine comes with is not asked
    fresh : (returns : ℕ) (b : Block) (o n : ℕ) (is : List Instr) (m : Machine)
        → run_from_by d' returns b o is m ≡ run_from_by d' returns b o is (machine_at n m)
    unfolding run_from_by
    fresh returns b o n [] m = go m.stack b.successors
      where
        to : List ℕ → Block
        to es = record { entry = b.entry; exit = b.exit; successors = es }

        go : (vs : List Operand) (es : List ℕ) → finish (to es) m.state vs ≡ finish (to es) (machine_at n m).state vs
        go [] [] = refl
        go [] (e ∷ es) = refl
        go (v ∷ vs) es = refl
    fresh returns b o n (i ∷ is) m = refl

    exec_by_redate : (q : Routine) (i : ℕ) (s : State)
        → (get_or q.blocks i no_block).entry + length (instrs_of (get_or q.blocks i no_block) q.code) ≤ most
        → exec_by d' q i (redate_state f s) ≡ redate_result f g (exec_by d q i s)
    unfolding exec_by run_block_by
    exec_by_redate q i s h =
        let b : Block = get_or q.blocks i no_block in
        let is : List Instr = instrs_of b q.code in
        fresh q.returns b b.entry (f 0) is (start_machine q.locals (redate_state f s))
        ∙ run_from_by_redate q.returns b b.entry is (start_machine q.locals s) h

-- ---- the loop: executions that agree after the change

set_map : {A B : Type 0} (h : A → B) (xs : List A) (j : ℕ) (v : A) → set (map h xs) j (h v) ≡ map h (set xs j v)
set_map h [] j v = refl
set_map h (x ∷ xs) zero v = refl
set_map h (x ∷ xs) (suc j) v = ap (λ (ys : List _). h x ∷ ys) (set_map h xs j v)

module _ (f g : ℕ → ℕ) (x y : ℕ → State → Result State) (bs : List Block)
    (agree : (i : ℕ) (s : State) → i < length bs → y i (redate_state f s) ≡ redate_result f g (x i s)) where
  slot_at : (ss : List (Slot State)) (j : ℕ) → get_or (redate_slots f g ss) j blank ≡ redate_slot f g (get_or ss j blank)
  slot_at ss j = get_or-map (redate_slot f g) ss j blank

  -- a state is kept at a position
  keeps : (ss : List (Slot State)) (j : ℕ) (k : State) (count : ℕ → ℕ)
      → set (redate_slots f g ss) j
      (record { kept = some (redate_state f k); status = fine; changes = count (get_or (redate_slots f g ss) j blank).changes })
      ≡ redate_slots f g (set ss j (record { kept = some k; status = fine; changes = count (get_or ss j blank).changes }))
  keeps ss j k count =
      (λ i. set (redate_slots f g ss) j (record { kept = some (redate_state f k); status = fine; changes = count (slot_at ss j i).changes }))
      ∙ set_map (redate_slot f g) ss j (record { kept = some k; status = fine; changes = count (get_or ss j blank).changes })

  to_successor_redate : (b : Block) (t : State) (e : ℕ) (ss : List (Slot State)) (n : Next)
      → to_successor State join join_blurs changed y bs b (redate_state f t) e (redate_slots f g ss) n
      ≡ redate_propagation f g (to_successor State join join_blurs changed x bs b t e ss n)
  to_successor_redate b t e ss (stopped r p) = refl
  to_successor_redate b t e ss (at n) =
      ap (λ (s : Slot State). to_kept State join join_blurs changed y bs b (redate_state f t) e j (redate_slots f g ss) n s.kept) (slot_at ss j)
      ∙ keeping (get_or ss j blank).kept
    where
      j : ℕ
      j = position bs e

      change : (k : State) (c : Bool)
          → after_change State join join_blurs changed y bs b e j (redate_slots f g ss) n (redate_state f k) c
          ≡ redate_propagation f g (after_change State join join_blurs changed x bs b e j ss n k c)
      change k true = λ i. record { slots = keeps ss j k suc i; next = at (cond (leb e b.entry) j n) }
      change k false = refl

      joined : (s : State) (a : Ans State)
          → after_join State join join_blurs changed y bs b e j (redate_slots f g ss) n (redate_state f s) (map_ans (redate_state f) a)
          ≡ redate_propagation f g (after_join State join join_blurs changed x bs b e j ss n s a)
      joined s (ok k) =
          ap (after_change State join join_blurs changed y bs b e j (redate_slots f g ss) n (redate_state f k)) (changed_redate f s k)
          ∙ change k (changed s k)
      joined s (refuse r) = refl

      keeping : (o : Option State)
          → to_kept State join join_blurs changed y bs b (redate_state f t) e j (redate_slots f g ss) n (Option.map (redate_state f) o)
          ≡ redate_propagation f g (to_kept State join join_blurs changed x bs b t e j ss n o)
      keeping none = λ i. record { slots = keeps ss j t (λ c. c) i; next = at n }
      keeping (some s) =
          ap (after_join State join join_blurs changed y bs b e j (redate_slots f g ss) n (redate_state f s)) (join_redate f s t) ∙ joined s (join s t)

  propagate_redate : (b : Block) (t : State) (es : List ℕ) (a : Propagation State)
      → propagate State join join_blurs changed y bs b (redate_state f t) es (redate_propagation f g a)
      ≡ redate_propagation f g (propagate State join join_blurs changed x bs b t es a)
  unfolding propagate
  propagate_redate b t [] a = refl
  propagate_redate b t (e ∷ es) a =
      ap (propagate State join join_blurs changed y bs b (redate_state f t) es) (to_successor_redate b t e a.slots a.next)
      ∙ propagate_redate b t es (to_successor State join join_blurs changed x bs b t e a.slots a.next)

  successor_blurs_redate : (t : State) (e : ℕ) (ss : List (Slot State)) (n : Next)
      → successor_blurs State join join_blurs changed y bs (redate_state f t) e (redate_slots f g ss) n
      ≡ successor_blurs State join join_blurs changed x bs t e ss n
  successor_blurs_redate t e ss (stopped r p) = refl
  successor_blurs_redate t e ss (at n) =
      ap (λ (s : Slot State). kept_blurs State join join_blurs changed y bs (redate_state f t) s.kept) (slot_at ss (position bs e))
      ∙ go (get_or ss (position bs e) blank).kept
    where
      go : (o : Option State)
          → kept_blurs State join join_blurs changed y bs (redate_state f t) (Option.map (redate_state f) o)
          ≡ kept_blurs State join join_blurs changed x bs t o
      go none = refl
      go (some s) = join_blurs_redate f s t

  propagate_blurs_redate : (b : Block) (t : State) (es : List ℕ) (a : Propagation State)
      → propagate_blurs State join join_blurs changed y bs b (redate_state f t) es (redate_propagation f g a)
      ≡ propagate_blurs State join join_blurs changed x bs b t es a
  unfolding propagate_blurs
  propagate_blurs_redate b t [] a = refl
  propagate_blurs_redate b t (e ∷ es) a = λ i. successor_blurs_redate t e a.slots a.next i
      + (ap (propagate_blurs State join join_blurs changed y bs b (redate_state f t) es) (to_successor_redate b t e a.slots a.next)
      ∙ propagate_blurs_redate b t es (to_successor State join join_blurs changed x bs b t e a.slots a.next)) i

  mark_redate : (ss : List (Slot State)) (i : ℕ) (w : Status)
      → mark State join join_blurs changed y bs (redate_slots f g ss) i (redate_status f g w)
      ≡ redate_slots f g (mark State join join_blurs changed x bs ss i w)
  mark_redate ss i w =
      (λ h. set (redate_slots f g ss) i (record { kept = (slot_at ss i h).kept; status = redate_status f g w; changes = (slot_at ss i h).changes }))
      ∙ set_map (redate_slot f g) ss i _

  after_block_redate : (r : Run State) (i : ℕ) (z : Result State)
      → after_block State join join_blurs changed y bs (redate_run f g r) i (redate_result f g z)
      ≡ redate_run f g (after_block State join join_blurs changed x bs r i z)
  after_block_redate r i (Result.ended k t) =
      let b : Block = get_or bs i no_block in
      let first : Propagation State = record { slots = mark State join join_blurs changed x bs r.slots i fine; next = at (suc i) } in
      let from : Propagation State → Run State = λ p. record {
        slots = (propagate State join join_blurs changed y bs b (redate_state f t) b.successors p).slots;
        next = (propagate State join join_blurs changed y bs b (redate_state f t) b.successors p).next;
        trail = i ∷ r.trail;
        blurs = r.blurs + k + propagate_blurs State join join_blurs changed y bs b (redate_state f t) b.successors p;
      } in
      (λ h. from (record { slots = mark_redate r.slots i fine h; next = at (suc i) }))
      ∙ (λ h. record {
        slots = (propagate_redate b t b.successors first h).slots;
        next = (propagate_redate b t b.successors first h).next;
        trail = i ∷ r.trail;
        blurs = r.blurs + k + propagate_blurs_redate b t b.successors first h;
      })
  after_block_redate r i (Result.returned k) =
      λ h. record { slots = mark_redate r.slots i fine h; next = at (suc i); trail = i ∷ r.trail; blurs = r.blurs + k }
  after_block_redate r i (Result.violated k c o a) =
      λ h. record { slots = mark_redate r.slots i (failed c o a) h; next = at (suc i); trail = i ∷ r.trail; blurs = r.blurs + k }
  after_block_redate r i (Result.refused n p) = refl

  turn_at_redate : (r : Run State) (n : Next)
      → turn_at State join join_blurs changed y bs (redate_run f g r) n ≡ redate_run f g (turn_at State join join_blurs changed x bs r n)
  turn_at_redate r (stopped n p) = refl
  turn_at_redate r (at i) =
      decide (ltb i (length bs))
      (λ e. rw e
      (ap (λ (s : Slot State). visit_block State join join_blurs changed y bs (redate_run f g r) i s.kept) (slot_at r.slots i)
      ∙ visit (ltb-true i (length bs) e) (get_or r.slots i blank).kept))
      (λ e. rw e)
    where
      visit : i < length bs → (o : Option State)
          → visit_block State join join_blurs changed y bs (redate_run f g r) i (Option.map (redate_state f) o)
          ≡ redate_run f g (visit_block State join join_blurs changed x bs r i o)
      visit h none = refl
      visit h (some s) = ap (after_block State join join_blurs changed y bs (redate_run f g r) i) (agree i s h) ∙ after_block_redate r i (x i s)

  turns_redate : (n : ℕ) (r : Run State)
      → turns State join join_blurs changed y bs n (redate_run f g r) ≡ redate_run f g (turns State join join_blurs changed x bs n r)
  unfolding turns turn
  turns_redate zero r = refl
  turns_redate (suc n) r =
      ap (turns State join join_blurs changed y bs n) (turn_at_redate r r.next)
      ∙ turns_redate n (turn_at State join join_blurs changed x bs r r.next)

  pub run_redate : (n : ℕ) (s : State)
      → run State join join_blurs changed y bs n (redate_state f s) ≡ redate_run f g (run State join join_blurs changed x bs n s)
  unfolding run start_slots
  run_redate n s =
      ap (λ (ss : List (Slot State)). turns State join join_blurs changed y bs n (record { slots = ss; next = at 0; trail = []; blurs = 0 }))
      (slots bs)
      ∙ turns_redate n (record { slots = start_slots State join join_blurs changed x bs bs s; next = at 0; trail = []; blurs = 0 })
    where
      slots : (cs : List Block)
          → start_slots State join join_blurs changed y bs cs (redate_state f s) ≡ redate_slots f g (start_slots State join join_blurs changed x bs cs s)
      slots [] = refl
      slots (c ∷ cs) =
          ap (λ (ss : List (Slot State)). record { kept = some (redate_state f s); status = fine; changes = 0 } ∷ ss)
          (sym (map-map (redate_slot f g) (λ c. blank) cs))

-- ---- the verdict

abbrev redate_failure : (ℕ → ℕ) → (ℕ → ℕ) → Failure → Failure
redate_failure f g a = record { entry = a.entry; code = a.code; offset = g a.offset; borrowed_at = f a.borrowed_at }

module _ (f g : ℕ → ℕ) where
  lower_redate : (e : ℕ) (w : Status) (m : Option Failure)
      → lower e (redate_status f g w) (Option.map (redate_failure f g) m) ≡ Option.map (redate_failure f g) (lower e w m)
  lower_redate e fine m = refl
  lower_redate e (failed c o a) none = refl
  lower_redate e (failed c o a) (some b) =
      ap some (past (redate_failure f g) (ltb e b.entry) (record { entry = e; code = c; offset = o; borrowed_at = a }) b)

  failures_redate : (bs : List Block) (ss : List (Slot State)) (m : Option Failure)
      → lowest bs (redate_slots f g ss) (Option.map (redate_failure f g) m) ≡ Option.map (redate_failure f g) (lowest bs ss m)
  unfolding lowest
  failures_redate [] ss m = refl
  failures_redate (b ∷ bs) [] m = refl
  failures_redate (b ∷ bs) (s ∷ ss) m =
      ap (lowest bs (redate_slots f g ss)) (lower_redate b.entry s.status m) ∙ failures_redate bs ss (lower b.entry s.status m)

  pub verdict_redate : (bs : List Block) (r : Run State) → verdict bs (redate_run f g r) ≡ redate_verdict f g (verdict bs r)
  unfolding verdict
  verdict_redate bs r = go r.next
    where
      for : (m : Option Failure) → verdict_for (Option.map (redate_failure f g) m) ≡ redate_verdict f g (verdict_for m)
      for none = refl
      for (some a) = refl

      go : (n : Next) → verdict_at bs (redate_slots f g r.slots) n ≡ redate_verdict f g (verdict_at bs r.slots n)
      go (at i) = ap verdict_for (failures_redate bs r.slots none) ∙ for (lowest bs r.slots none)
      go (stopped n p) = refl

-- ---- the whole run and the answer

-- Of any dating, budget and first state: the run with its offsets changed is the run with the changed dating from the changed state.
pub redated : (f : ℕ → ℕ) → ((a b : ℕ) → f (min a b) ≡ min (f a) (f b)) → (d : ℕ → ℕ) (q : Routine) (n : ℕ) (s : State)
    → redate_run f (λ o. o) (run_by d q n s) ≡ run_by (λ o. f (d o)) q n (redate_state f s)
redated f minima d q n s =
    sym (run_redate f (λ o. o) (exec_by d q) (exec_by (λ o. f (d o)) q) q.blocks (λ i t h.
    let b : Block = get_or q.blocks i no_block in
    exec_by_redate f (λ o. o) minima d (λ o. f (d o)) (b.entry + length (instrs_of b q.code)) (λ o k. refl) (λ o k. refl) q i t (omega arith)) n s)

-- the first state has no edges
pub first_redate : (f : ℕ → ℕ) (l : ℕ) (ts : List Token) → redate_state f (first_state l ts) ≡ first_state l ts
unfolding first_state
first_redate f l ts = refl

module _ (f : ℕ → ℕ) (minima : (a b : ℕ) → f (min a b) ≡ min (f a) (f b)) where
  pub run_with_redate : (q : Routine) (n : ℕ) → redate_run f (λ o. o) (run_with q n) ≡ run_by f q n (first_state q.locals q.params)
  run_with_redate q n =
      (λ j. redate_run f (λ o. o) (run State join join_blurs changed (λ i s. exec_by_lem q i s j) q.blocks n (first_state q.locals q.params)))
      ∙ redated f minima (λ o. o) q n (first_state q.locals q.params)
      ∙ ap (run_by f q n) (first_redate f q.locals q.params)

  pub run_of_redate : (q : Routine) → redate_run f (λ o. o) (run_of q) ≡ run_of_by f q
  unfolding run_of run_of_by
  run_of_redate q = run_with_redate q (most_visits (length q.blocks) q.locals)

  answer_redate : (x : Listed Routine) → redate_answered f (λ o. o) (answer_to x) ≡ answer_by f x
  answer_redate (read q) = λ j. record {
    verdict = (sym (verdict_redate f (λ o. o) q.blocks (run_of q)) ∙ ap (verdict q.blocks) (run_of_redate q)) j;
    visits = visits (run_of_redate q j);
    blurred = (run_of_redate q j).blurs;
  }
  answer_redate nothing = refl
  answer_redate (S.refused n p) = refl

  pub verify_redate : (words : ℕ) (s : List ℕ) → redate_answered f (λ o. o) (verify words s) ≡ verify_by f words s
  unfolding verify_by
  verify_redate words s = decide (ltb words area_words)
      (λ e. rw (e, verify_short words s (ltb-true _ _ e)))
      (λ e. rw (e, verify_long words s (ltb-false _ _ e)) (answer_redate (read_listing s)))

-- ---- forgetting the offsets

-- "forgetting the offsets of a run gives the run of before": with 0 for each, in a run of instructions that put 0 on their edges. There the tests
-- are those of before (`fails_undated` of RedateStep, `tests_stay` of Tests).
abbrev pub forget : Run State → Run State
forget r = redate_run (λ o. 0) (λ o. o) r

abbrev pub undated : Routine → Run State
undated q = run_of_by (λ o. 0) q

pub forgotten_run : (q : Routine) → forget (run_of q) ≡ undated q
forgotten_run q = run_of_redate (λ o. 0) (λ a b. refl) q

pub forgotten : (words : ℕ) (s : List ℕ) → redate_answered (λ o. 0) (λ o. o) (verify words s) ≡ verify_by (λ o. 0) words s
forgotten words s = verify_redate (λ o. 0) (λ a b. refl) words s

-- ---- every offset of a run is that of an instruction

-- the listing s is read as the routine q
pub record Dated (s : List ℕ) (q : Routine) : Type 0 where
  -- where a violation is, and where what it fails on was borrowed
  pub borrowed_at_lem : (words c o a : ℕ) → (verify words s).verdict ≡ violation c o a → (o < length q.code) × (a < length q.code)
  -- the edges of the states that any run keeps
  pub kept_at : (budget j : ℕ) (k : State) → (get_or (run_with q budget).slots j blank).kept ≡ some k
      → all (λ x. ltb x.edge.offset (length q.code)) k.graph.edges ≡ true

-- n is at least 1; an offset is cut down to one of n instructions
abbrev within : ℕ → ℕ → ℕ
within n o = min o (n - 1)

module _ (n : ℕ) (some_code_lem : 0 < n) where
  below : (o : ℕ) → within n o ≡ o → o < n
  below o e = omega arith

  all_below : (xs : List GEdge) → redate_all (within n) xs ≡ xs → all (λ x. ltb x.edge.offset n) xs ≡ true
  all_below [] e = refl
  all_below (x ∷ xs) e =
      let h : redate_gedge (within n) x ≡ x = cc in
      let t : redate_all (within n) xs ≡ xs = cc in
      and_i (lt-ltb x.edge.offset n (below x.edge.offset (ap (λ (y : GEdge). y.edge.offset) h))) (all_below xs t)

module _ (q : Routine) (some_code_lem : 0 < length q.code) (blocks : (i : ℕ) → i < length q.blocks → Ruled (length q.code) q.blocks i) where
  abbrev cut : ℕ → ℕ
  cut = within (length q.code)

  exec_fixed : (i : ℕ) (t : State) → i < length q.blocks → exec q i (redate_state cut t) ≡ redate_result cut cut (exec q i t)
  unfolding instrs_of
  exec_fixed i t h =
      let b : Block = get_or q.blocks i no_block in
      let r : Ruled (length q.code) q.blocks i = blocks i h in
      let l : b.entry + length (take (suc (b.exit - b.entry)) (drop b.entry q.code)) ≤ length q.code =
      simp (length-take, length-drop) (omega (arith, r.forth, r.inside)) in
      exec_by_lem q i (redate_state cut t)
      ∙ exec_by_redate cut cut (λ c d. omega arith) (λ o. o) (λ o. o) (length q.code) (λ o k. omega arith) (λ o k. omega arith) q i t l
      ∙ ap (redate_result cut cut) (sym (exec_by_lem q i t))

  run_fixed : (n : ℕ) → redate_run cut cut (run_with q n) ≡ run_with q n
  run_fixed n =
      sym (run_redate cut cut (exec q) (exec q) q.blocks exec_fixed n (first_state q.locals q.params))
      ∙ ap (run State join join_blurs changed (exec q) q.blocks n) (first_redate cut q.locals q.params)

  kept_below : (n j : ℕ) (k : State) → (get_or (run_with q n).slots j blank).kept ≡ some k
      → all (λ x. ltb x.edge.offset (length q.code)) k.graph.edges ≡ true
  kept_below n j k e =
      let a : Option.map (redate_state cut) (get_or (run_with q n).slots j blank).kept ≡ (get_or (run_with q n).slots j blank).kept =
      ap (λ (s : Slot State). s.kept) (sym (get_or-map (redate_slot cut cut) (run_with q n).slots j blank))
      ∙ ap (λ (r : Run State). (get_or r.slots j blank).kept) (run_fixed n) in
      let b : some (redate_state cut k) ≡ some k = rw e at a in
      let c : redate_state cut k ≡ k = cc in
      all_below (length q.code) some_code_lem k.graph.edges (ap (λ (s : State). s.graph.edges) c)

  verdict_below : (n c o a : ℕ) → verdict q.blocks (run_with q n) ≡ violation c o a → (o < length q.code) × (a < length q.code)
  verdict_below n c o a e =
      let v : redate_verdict cut cut (verdict q.blocks (run_with q n)) ≡ verdict q.blocks (run_with q n) =
      sym (verdict_redate cut cut q.blocks (run_with q n)) ∙ ap (verdict q.blocks) (run_fixed n) in
      let w : violation c (cut o) (cut a) ≡ violation c o a = rw e at v in
      let x : cut o ≡ o = cc in
      let y : cut a ≡ a = cc in
      (below (length q.code) some_code_lem o x, below (length q.code) some_code_lem a y)

pub dated : (s : List ℕ) (q : Routine) → read_listing s ≡ read q → Dated s q
unfolding run_of
dated s q e =
    let some_code_lem : 0 < length q.code = omega (arith, (rules s q e 0 (accepted_block s q e)).inside) in
    record {
      borrowed_at_lem = λ words c o a. verify_either words s (λ b. b.verdict ≡ violation c o a → (o < length q.code) × (a < length q.code))
          (λ h. let z : ◌≡◌ {A = ℕ} 0 1 = cc in absurd (omega arith))
          (λ l h. verdict_below q some_code_lem (rules s q e) (most_visits (length q.blocks) q.locals) c o a (rw e at h));
      kept_at = kept_below q some_code_lem (rules s q e);
    }
