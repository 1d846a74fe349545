-- The run of a routine: the bounds of demand 3 with no hypothesis but the reader's promise, and which numbers it may be refused with.
use Prim.Native.Nat.{ℕ, zero, suc, ◌≤◌, ◌<◌, zero-le}
use native.Mathlib.Omega.{arith}
use Rattle.std.proofs.Math.Bool.{Bool}
use Rattle.std.specs.Prelude.{true, false, ◌&&◌, cond, ◌⊎◌, ltb, eqb, length, get_or, set}
use Rattle.std.proofs.Common.{true≢false, sym, ap, ◌∙◌, subst, get_or-set_same, get_or-set_other}
use mathlib.Core.List.{List, [], ◌∷◌, map}
use Rattle.std.proofs.Math.Option.{Option, none, some}
use Rattle.std.proofs.Math.Logic.{inl, inr}
use Rattle.std.proofs.Math.Path.{◌≡◌}
use Rattle.std.proofs.Math.Dec.{leb}
use Rattle.std.proofs.Math.Seq.{set_out}
use Rattle.meaning.specs.Answers.{Ans, ordinary}
use Rattle.meaning.specs.Lists.{all}
use Rattle.meaning.specs.AbstractState.{State, join, changed, Token, first_state, join_blurs}
use Rattle.meaning.specs.Blocks.{Routine, exec, instrs_of}
use Rattle.meaning.specs.Loop.{most_changes, most_visits, Result, Block, Status, fine, failed, Slot, Next, at, stopped, Run, visits, Propagation, position, no_block, blank, after_change, after_join, to_kept, to_successor, propagate, mark, after_block, visit_block as run_loop_block, turn_at, turn, turns, start_slots, run, has_ended, Failure, Verdict, accept, violation, refusal, empty_cell, lowest, verdict_for, verdict_at, verdict}
use Rattle.meaning.specs.Listing.{read, read_listing}
use Rattle.meaning.specs.Verify.{run_with, run_of, verify}
use Rattle.meaning.proofs.Laws.Base.{decide, and_l, and_r, eqb_eq, eqb_ne, leb_le, leb_gt}
use Rattle.meaning.proofs.Laws.Block.{Ends, ends, leaves, breaks, bars, exec_ends, exec_keeps}
use Rattle.meaning.proofs.Laws.First.{first_strong}
use Rattle.meaning.specs.Laws.Forms.{Strong}
use Rattle.meaning.proofs.Laws.Join.{Sure, sure, unsure, join_sure, join_strong}
use Rattle.meaning.proofs.Laws.Listing.{accepted_promised}
use Rattle.meaning.specs.Laws.Promised.{promised, within_frame, rets_placed}
use Rattle.meaning.proofs.Laws.State.{rank, rank_le, join_law, change_lt}
use Rattle.meaning.proofs.Laws.Loop.{Bounds}
use Rattle.meaning.proofs.Laws.Loop as Laws
use Rattle.meaning.proofs.Laws.Verify.{verify_either}

-- ---- `ordinary` says what it is to say: 10 to 15, or 20 to 22

pub ordinary_is : (n : ℕ) → ordinary n ≡ true → ((10 ≤ n) × (n ≤ 15)) ⊎ ((20 ≤ n) × (n ≤ 22))
ordinary_is n h =
    decide (leb 10 n && leb n 15)
    (λ a. inl (leb_le (and_l (leb 10 n) (leb n 15) a), leb_le (and_r (leb 10 n) (leb n 15) a)))
    (λ a. let b : (leb 20 n && leb n 22) ≡ true = rw a at h in inr (leb_le (and_l (leb 20 n) (leb n 22) b), leb_le (and_r (leb 20 n) (leb n 22) b)))

numbers : (n : ℕ) → (n ≡ 7) ⊎ (ordinary n ≡ true) → (n ≡ 7) ⊎ (((10 ≤ n) × (n ≤ 15)) ⊎ ((20 ≤ n) × (n ≤ 22)))
numbers n (inl e) = inl e
numbers n (inr e) = inr (ordinary_is n e)

-- ---- the run of a routine

-- q: a routine that the reader accepted
module _ (q : Routine) (p : promised q ≡ true) where
  abbrev l : ℕ
  l = q.locals

  abbrev ts : List Token
  ts = q.params

  abbrev blocks : List Block
  blocks = q.blocks

  small : l ≤ 16
  unfolding promised
  small =
      let x : Bool = leb l 16 in
      let y : Bool = leb (length q.code) 512 in
      let z : Bool = all (within_frame l) q.code && all (λ b. rets_placed b.successors (instrs_of b q.code)) q.blocks in
      leb_le (and_l x y (and_l (x && y) z p))

  -- the most visits
  abbrev most : ℕ
  most = most_visits (length blocks) l

  bounds : Bounds State join join_blurs changed (exec q) blocks (Strong l) (most_changes l) (first_state l ts)
  bounds =
      Laws.bounds State join join_blurs changed (exec q) blocks (Strong l) (rank l) (most_changes l) (rank_le l)
      (join_strong l) (λ s o t e fs fo. change_lt l s o t (join_law s o t e) fs.form fo.form) (exec_keeps q p) (first_state l ts) (first_strong l ts small)

  pub visits_bound : (f : ℕ) → visits (run_with q f) ≤ most
  visits_bound = bounds.few_visits

  pub run_changes_bound : (f j : ℕ) → (get_or (run_with q f).slots j blank).changes ≤ most_changes l
  run_changes_bound = bounds.few_changes

  pub kept_strong : (f j : ℕ) (k : State) → (get_or (run_with q f).slots j blank).kept ≡ some k → Strong l k
  kept_strong = bounds.forms

  pub ends_itself : (f : ℕ) → most ≤ f → has_ended State join join_blurs changed (exec q) blocks (run_with q f) ≡ true
  ends_itself = bounds.ends

  pub same_run : (f : ℕ) → most ≤ f → run_with q f ≡ run_with q most
  same_run = bounds.same

  -- a run that has ended is the whole run, and one that has not has made fewer steps than the bound
  pub settled : (f : ℕ) → has_ended State join join_blurs changed (exec q) blocks (run_with q f) ≡ true → run_with q f ≡ run_with q most
  settled = bounds.settled

  pub unsettled : (k : ℕ) → has_ended State join join_blurs changed (exec q) blocks (run_with q k) ≡ false → k < most
  unsettled k e = decide (leb most k) (λ h. absurd (true≢false (sym (ends_itself k (leb_le h)) ∙ e))) (λ h. leb_gt h)

  -- ---- the refusals of a run

  abbrev pub KeptOk : Option State → Type 0
  KeptOk none = Unit {0}
  KeptOk (some s) = Strong l s

  abbrev pub AllOk : List (Slot State) → Type 0
  AllOk ss = (j : ℕ) → KeptOk (get_or ss j blank).kept

  abbrev pub NextOk : Next → Type 0
  NextOk (at i) = Unit {0}
  NextOk (stopped n o) = ordinary n ≡ true

  set_ok_lem : (ss : List (Slot State)) (j : ℕ) (v : Slot State) → AllOk ss → KeptOk v.kept → AllOk (set ss j v)
  set_ok_lem ss j v a h i =
      decide (eqb i j)
      (λ e. decide (leb (length ss) j)
      (λ b. subst (λ (xs : List (Slot State)). KeptOk (get_or xs i blank).kept) (sym (set_out ss j v (leb_le b))) (a i))
      (λ b. subst (λ (k : ℕ). KeptOk (get_or (set ss j v) k blank).kept) (sym (eqb_eq {m = i} {n = j} e)) (subst (λ (x : Slot State). KeptOk x.kept) (sym (get_or-set_same ss j v blank (leb_gt b))) h)))
      (λ e. subst (λ (x : Slot State). KeptOk x.kept) (sym (get_or-set_other ss j i v blank (eqb_ne {m = i} {n = j} e))) (a i))

  abbrev PropagationOk : Propagation State → Type 0
  PropagationOk a = (AllOk a.slots) × (NextOk a.next)

  module _ (b : Block) (t : State) (ht : Strong l t) where
    change_ok : (e j : ℕ) (ss : List (Slot State)) (n : ℕ) (k : State) (c : Bool) → AllOk ss → Strong l k → PropagationOk (after_change State join join_blurs changed (exec q) blocks b e j ss n k c)
    change_ok e j ss n k true a h = (set_ok_lem ss j (record { kept = some k; status = fine; changes = suc (get_or ss j blank).changes }) a h, tt)
    change_ok e j ss n k false a h = (a, tt)

    join_ok : (e j : ℕ) (ss : List (Slot State)) (n : ℕ) (s : State) {x : Ans State} → AllOk ss → Sure (Strong l) x → PropagationOk (after_join State join join_blurs changed (exec q) blocks b e j ss n s x)
    join_ok e j ss n s a (sure {a = k} h) = change_ok e j ss n k (changed s k) a h
    join_ok e j ss n s a (unsure w) = (a, w)

    kept_ok : (e j : ℕ) (ss : List (Slot State)) (n : ℕ) (k : Option State) → AllOk ss → KeptOk k → PropagationOk (to_kept State join join_blurs changed (exec q) blocks b t e j ss n k)
    kept_ok e j ss n none a h = (set_ok_lem ss j (record { kept = some t; status = fine; changes = (get_or ss j blank).changes }) a ht, tt)
    kept_ok e j ss n (some s) a h = join_ok e j ss n s a (join_sure l s t small h ht)

    next_ok : (e : ℕ) (ss : List (Slot State)) (x : Next) → AllOk ss → NextOk x → PropagationOk (to_successor State join join_blurs changed (exec q) blocks b t e ss x)
    next_ok e ss (at n) a h = kept_ok e (position blocks e) ss n (get_or ss (position blocks e) blank).kept a (a (position blocks e))
    next_ok e ss (stopped r o) a h = (a, h)

    propagate_ok : (es : List ℕ) (a : Propagation State) → PropagationOk a → PropagationOk (propagate State join join_blurs changed (exec q) blocks b t es a)
    unfolding propagate
    propagate_ok [] a h = h
    propagate_ok (e ∷ es) a h = propagate_ok es (to_successor State join join_blurs changed (exec q) blocks b t e a.slots a.next) (next_ok e a.slots a.next h.0 h.1)

  abbrev pub RunOk : Run State → Type 0
  RunOk r = (AllOk r.slots) × (NextOk r.next)

  mark_ok : (ss : List (Slot State)) (i : ℕ) (x : Status) → AllOk ss → AllOk (mark State join join_blurs changed (exec q) blocks ss i x)
  mark_ok ss i x a = set_ok_lem ss i (record { kept = (get_or ss i blank).kept; status = x; changes = (get_or ss i blank).changes }) a (a i)

  block_ok : (r : Run State) (i : ℕ) {x : Result State} → RunOk r → Ends (Strong l) x → RunOk (after_block State join join_blurs changed (exec q) blocks r i x)
  block_ok r i h (ends {t} w) =
      let b : Block = get_or blocks i no_block in
      propagate_ok b t w b.successors (record { slots = mark State join join_blurs changed (exec q) blocks r.slots i fine; next = at (suc i) }) (mark_ok r.slots i fine h.0, tt)
  block_ok r i h leaves = (mark_ok r.slots i fine h.0, tt)
  block_ok r i h (breaks {c} {o} {a}) = (mark_ok r.slots i (failed c o a) h.0, tt)
  block_ok r i h (bars w) = (h.0, w)

  visit_ok : (r : Run State) (i : ℕ) (k : Option State) → RunOk r → KeptOk k → RunOk (run_loop_block State join join_blurs changed (exec q) blocks r i k)
  visit_ok r i none h w = (h.0, tt)
  visit_ok r i (some s) h w = block_ok r i h (exec_ends q p i s w)

  pub step_ok : (r : Run State) (x : Next) → RunOk r → RunOk (turn_at State join join_blurs changed (exec q) blocks r x)
  step_ok r (at i) h = go (ltb i (length blocks))
    where
      go : (b : Bool) → RunOk (cond b (run_loop_block State join join_blurs changed (exec q) blocks r i (get_or r.slots i blank).kept) r)
      go true = visit_ok r i (get_or r.slots i blank).kept h (h.0 i)
      go false = h
  step_ok r (stopped n o) h = h

  steps_ok : (f : ℕ) (r : Run State) → RunOk r → RunOk (turns State join join_blurs changed (exec q) blocks f r)
  unfolding turns turn
  steps_ok zero r h = h
  steps_ok (suc f) r h = steps_ok f (turn State join join_blurs changed (exec q) blocks r) (step_ok r r.next h)

  pub first_ok : (bs : List Block) → AllOk (start_slots State join join_blurs changed (exec q) blocks bs (first_state l ts))
  unfolding start_slots
  first_ok [] j = tt
  first_ok (b ∷ bs) zero = first_strong l ts small
  first_ok (b ∷ bs) (suc j) = go bs j
    where
      go : (cs : List Block) (i : ℕ) → KeptOk (get_or (map (λ c. blank) cs) i blank).kept
      go [] i = tt
      go (c ∷ cs) zero = tt
      go (c ∷ cs) (suc i) = go cs i

  -- A run that a refusal ended: not 1, 8, 9, 16 or 23.
  pub refusals : (f : ℕ) → NextOk (run_with q f).next
  unfolding run
  refusals f = (steps_ok f (record { slots = start_slots State join join_blurs changed (exec q) blocks blocks (first_state l ts); next = at 0; trail = []; blurs = 0 }) (first_ok blocks, tt)).1

-- ---- the answer to a listing that is read as q

abbrev number_in : Verdict → ℕ
number_in accept = 0
number_in (violation c o a) = 0
number_in (refusal n p) = n
number_in empty_cell = 0

module _ (s : List ℕ) (q : Routine) (e : read_listing s ≡ read q) where
  pub answer_visits : (words : ℕ) → (verify words s).visits ≤ most_visits (length q.blocks) q.locals
  unfolding run_of
  answer_visits words =
      verify_either words s (λ a. a.visits ≤ most_visits (length q.blocks) q.locals)
      zero-le
      (λ _. rw e (visits_bound q (accepted_promised s q e) (most_visits (length q.blocks) q.locals)))

  pub answer_refusals : (words n p : ℕ) → (verify words s).verdict ≡ refusal n p → (n ≡ 7) ⊎ (ordinary n ≡ true)
  unfolding verdict run_of
  answer_refusals words n p h =
      verify_either words s (λ a. a.verdict ≡ refusal n p → (n ≡ 7) ⊎ (ordinary n ≡ true))
      (λ z. inl (sym (ap number_in z)))
      (λ _ z. inr (go (run_of q).next (refusals q (accepted_promised s q e) (most_visits (length q.blocks) q.locals)) (rw e at z))) h
    where
      none_refused : (f : Option Failure) → verdict_for f ≡ refusal n p → ⊥
      none_refused none z = let y : ◌≡◌ {A = ℕ} 0 1 = cc in omega arith
      none_refused (some f) z = let y : ◌≡◌ {A = ℕ} 0 1 = cc in omega arith

      go : (x : Next) → NextOk q (accepted_promised s q e) x → verdict_at q.blocks (run_of q).slots x ≡ refusal n p → ordinary n ≡ true
      go (at i) k z = absurd (none_refused (lowest q.blocks (run_of q).slots none) z)
      go (stopped m o) k z = subst (λ (j : ℕ). ordinary j ≡ true) (ap number_in z) k

  pub answer_numbers : (words n p : ℕ) → (verify words s).verdict ≡ refusal n p → (n ≡ 7) ⊎ (((10 ≤ n) × (n ≤ 15)) ⊎ ((20 ≤ n) × (n ≤ 22)))
  answer_numbers words n p h = numbers n (answer_refusals words n p h)
