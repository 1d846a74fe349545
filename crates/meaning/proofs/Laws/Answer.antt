-- What a refusal says: its place is at most 65,536, number 1 is for a record that ends too early, and number 33 for a block after an instruction.
use Prim.Native.Nat.{ℕ, ◌≤◌, zero, suc, ◌<◌, ◌+◌, ◌-◌}
use Rattle.std.proofs.Common.{arith, sym, ap, subst, ◌∙◌, ltb-false, ltb-true, leb-true, length-take, length-drop}
use Rattle.std.specs.Prelude.{Bool, true, false, not, ◌&&◌, ◌≢◌, ◌≡◌, leb, ltb, get_or, length, take, drop}
use Rattle.std.specs.Bool.{beq}
use Rattle.std.proofs.lemmas.Bool.{false≢true}
use mathlib.Core.List.{List, [], ◌∷◌, ◌++◌}
use Rattle.std.proofs.Math.Option.{none, Option, some, none-ne-some}
use Rattle.std.proofs.Math.Path.{refl}
use Rattle.std.proofs.Math.Dec.{eqb}
use Rattle.meaning.specs.Answers.{Ans, ok, refuse, Outcome, done, violated, refused}
use Rattle.meaning.specs.Lists.{empty}
use Rattle.meaning.specs.AbstractState.{State, Operand, join, changed, join_blurs}
use Rattle.meaning.specs.EntryPoints.{Running}
use Rattle.meaning.specs.Steps.{Instr, Machine, step}
use Rattle.meaning.specs.Blocks.{Routine, machine_at, run_from, finish, settle, end_of, exec, run_block, instrs_of, start_machine}
use Rattle.meaning.specs.Loop.{most_visits, Failure, verdict_for, Result, Block, no_block, Next, at, stopped, Run, Slot, Propagation, propagate, after_change, after_join, to_kept, to_successor, after_block, turn_at, turns, blank, Verdict, accept, violation, refusal, empty_cell, lowest, verdict_at, verdict, run}
use Rattle.meaning.specs.Listing.{whole_at, kind_in_use, fields_of, fits_body, within_limits, unless, Places, some_code, Listed, read, nothing, if_not, put_at, places_from, fault_at, kind_at, next_at, body_at, locals_of, faulty_block, stray_ret, first_of, ruled, routine_at, after_records, no_places, read_places, read_listing}
use Rattle.meaning.specs.Verify.{run_of, verify, answer_to}
use Rattle.meaning.proofs.Laws.Base.{decide, and_l, and_r, and_i, eqb_eq}
use Rattle.meaning.proofs.Laws.Listing.{Ruled, accepted_promised, ruled_block, first_none_below, Accepted, accepted, no_bytes, some_bytes, fine, ok_code, passed_first, by_records}
use Rattle.meaning.proofs.Laws.Order.{Starts, foremost, next, Late}
use Rattle.meaning.specs.Laws.Promised.{promised}
use Rattle.meaning.proofs.Laws.Verify.{verify_either}
use Rattle.meaning.specs.Loop as L
use Rattle.meaning.specs.Listing as S
use Rattle.meaning.specs.Laws.Answer.{Low}

-- ---- the reader

abbrev Below : ℕ → List ℕ → Type 0
Below m xs = (i : ℕ) → get_or xs i 0 ≤ m

below_more : (m : ℕ) (xs : List ℕ) (x : ℕ) → Below m xs → x ≤ m → Below m (xs ++ (x ∷ []))
below_more m [] x h k zero = k
below_more m [] x h k (suc i) = omega arith
below_more m (y ∷ xs) x h k zero = h zero
below_more m (y ∷ xs) x h k (suc i) = below_more m xs x (λ j. h (suc j)) k i

pub record LowPlaces (m : ℕ) (w : Places) : Type 0 where
  pub blocks : Below m w.blocks
  pub code : Below m w.code

-- what a refusal says: its place is at most m; number 1 stands for a record that starts there and is not whole, 33 for a block after an instruction
abbrev pub Told : List ℕ → ℕ → ℕ → ℕ → Type 0
Told s m n p = (p ≤ m) × (n ≡ 1 → (p < length s) × (whole_at s p ≡ false)) × (n ≡ 33 → Late s p)

-- what is read of records, so never nothing
abbrev pub LowListed : {A : Type 0} → List ℕ → ℕ → (A → Type 0) → Listed A → Type 0
LowListed s m P (read a) = P a
LowListed s m P nothing = ⊥
LowListed s m P (S.refused n p) = Told s m n p

-- number 5 says nothing but its place
low_five : {A : Type 0} (s : List ℕ) (m : ℕ) (P : A → Type 0) (b : Bool) (p : ℕ) (k : Listed A) → p ≤ m → (b ≡ false → LowListed s m P k)
    → LowListed s m P (if_not b 5 p k)
low_five s m P true p k h l = (h, λ e. absurd (omega arith), λ e. absurd (omega arith))
low_five s m P false p k h l = l refl

later : (m : ℕ) (b : Bool) (n : ℕ) (k : Option ℕ) → n ≢ m → k ≢ some m → unless b n k ≢ some m
later m true n k h g e = g e
later m false n k h g e = h cc

-- the other tests of a record have other numbers
module _ (s : List ℕ) (l : ℕ) (coded : Bool) (p : ℕ) where
  abbrev placed : Bool
  placed = beq (eqb (kind_at s p) 1) (eqb p 0)

  behind : (m : ℕ) → 3 ≢ m → 6 ≢ m
      → unless (fits_body l (fields_of (kind_at s p)) (body_at s p)) 3 (unless (within_limits (fields_of (kind_at s p)) (body_at s p)) 6 none) ≢ some m
  behind m a b = later m (fits_body l (fields_of (kind_at s p)) (body_at s p)) 3 _ a (later m (within_limits (fields_of (kind_at s p)) (body_at s p)) 6 none b (none-ne-some m))

  early : fault_at s l coded p ≡ some 1 → whole_at s p ≡ false
  unfolding fault_at
  early e =
      decide (whole_at s p)
      (λ w. absurd (
      later 1 (kind_in_use (kind_at s p)) 2 _ (λ z. omega arith)
      (later 1 placed 4 _ (λ z. omega arith)
      (later 1 (not (coded && eqb (kind_at s p) 2)) 33 _ (λ z. omega arith)
      (behind 1 (λ z. omega arith) (λ z. omega arith)))) (rw w at e)))
      (λ w. w)

  late : fault_at s l coded p ≡ some 33 → (coded && eqb (kind_at s p) 2) ≡ true
  unfolding fault_at
  late e =
      decide (coded && eqb (kind_at s p) 2)
      (λ w. w)
      (λ w. absurd (
      later 33 (whole_at s p) 1 _ (λ z. omega arith)
      (later 33 (kind_in_use (kind_at s p)) 2 _ (λ z. omega arith)
      (later 33 placed 4 _ (λ z. omega arith)
      (behind 33 (λ z. omega arith) (λ z. omega arith)))) (rw w at e)))

-- where the reading stands: a record starts there, or the listing ends, and any instruction so far started before it
pub record Reached (s : List ℕ) (p : ℕ) (w : Places) : Type 0 where
  pub here : Starts s p
  pub code : some_code w ≡ true → (o : ℕ) × (o < p) × Starts s o × (ok_code s o ≡ true)

reached_next : (s : List ℕ) (p : ℕ) (w : Places) → Reached s p w → fault_at s (locals_of (body_at s 0)) (some_code w) p ≡ none
    → Reached s (next_at s p) (put_at (kind_at s p) p w)
reached_next s p w r e =
    let before : some_code w ≡ true → (o : ℕ) × (o < next_at s p) × Starts s o × (ok_code s o ≡ true) =
    λ c. let x = r.code c in (x.0, omega (arith, x.1), x.2, x.3) in
    record {
      here = next r.here;
      code =
          decide (eqb (kind_at s p) 1)
          (λ a. rw a before)
          (λ a. decide (eqb (kind_at s p) 2)
          (λ b. rw (a, b) before)
          (λ b. λ _. (p, omega arith, r.here, and_i (ap fine (passed_first s (locals_of (body_at s 0)) (some_code w) p e)) (and_i (ap not a) (ap not b)))));
    }

found : (s : List ℕ) (p : ℕ) (w : Places) → Reached s p w → (some_code w && eqb (kind_at s p) 2) ≡ true → Late s p
found s p w r e =
    let x = r.code (and_l (some_code w) (eqb (kind_at s p) 2) e) in
    record { starts = r.here; block = eqb_eq (and_r (some_code w) (eqb (kind_at s p) 2) e); place = x.0; before = x.1; found = x.2; instruction = x.3 }

low_put : (m k p : ℕ) (w : Places) → LowPlaces m w → p ≤ m → LowPlaces m (put_at k p w)
low_put m k p w l h =
    decide (eqb k 1)
    (λ e. rw e l)
    (λ e. decide (eqb k 2)
    (λ d. rw (e, d) (record { blocks = below_more m w.blocks p l.blocks h; code = l.code }))
    (λ d. rw (e, d) (record { blocks = l.blocks; code = below_more m w.code p l.code h })))

none_low : (m : ℕ) → LowPlaces m no_places
none_low m = record { blocks = λ i. none i; code = λ i. none i }
  where
    none : (i : ℕ) → get_or [] i 0 ≤ m
    none zero = omega arith
    none (suc i) = omega arith

low_from : (s : List ℕ) → LowListed s (length s) (LowPlaces (length s)) (places_from (length s) s 0 no_places)
low_from s =
    let l : ℕ = locals_of (body_at s 0) in
    by_records s (λ p w. LowPlaces (length s) w × Reached s p w) (LowListed s (length s) (LowPlaces (length s)))
    (record {
      ends = λ p w h e. h.0;
      faulty = λ p w h k n x.
          (omega (arith, k), λ z. (k, early s l (some_code w) p (x ∙ ap some z)), λ z. found s p w h.1 (late s l (some_code w) p (x ∙ ap some z)));
      full = λ p w h k. (omega (arith, k), λ z. absurd (omega arith), λ z. absurd (omega arith));
      goes = λ p w h k x y. (low_put (length s) (kind_at s p) p w h.0 (omega (arith, k)), reached_next s p w h.1 x);
    })
    (length s) 0 no_places (omega arith) (none_low (length s), record { here = foremost; code = λ c. absurd (false≢true c) })

abbrev pub Any : Routine → Type 0
Any q = Unit {0}

low_ruled : (s : List ℕ) (w : Places) (q : Routine) → LowPlaces (length s) w → LowListed s (length s) Any (ruled (length s) w q)
low_ruled s w q l =
    let b : ℕ = first_of (faulty_block (length q.code) q.blocks) 0 (length q.blocks) in
    let r : ℕ = first_of (stray_ret q.code q.blocks) 0 (length q.code) in
    let last : Listed Routine = if_not (ltb r (length q.code)) 5 (get_or w.code r 0) (read q) in
    let blocks : Listed Routine = if_not (ltb b (length q.blocks)) 5 (get_or w.blocks b 0) last in
    low_five s (length s) Any (empty q.blocks) (length s) blocks (omega arith) (λ _.
    low_five s (length s) Any (ltb b (length q.blocks)) (get_or w.blocks b 0) last (l.blocks b) (λ _.
    low_five s (length s) Any (ltb r (length q.code)) (get_or w.code r 0) (read q) (l.code r) (λ _. tt)))

low_after : (s : List ℕ) (x : Listed Places) → length s ≤ 65536 → LowListed s (length s) (LowPlaces (length s)) x → LowListed s 65536 Any (after_records s x)
low_after s (read w) h l = raise (ruled (length s) w (routine_at s w)) (low_ruled s w (routine_at s w) l)
  where
    raise : (x : Listed Routine) → LowListed s (length s) Any x → LowListed s 65536 Any x
    raise (read q) k = tt
    raise nothing k = k
    raise (S.refused n p) k = (omega (arith, h, k.0), k.1, k.2)
low_after s nothing h l = l
low_after s (S.refused n p) h l = (omega (arith, h, l.0), l.1, l.2)

low_records : (s : List ℕ) → LowListed s 65536 Any (after_records s (read_places s))
unfolding read_places
low_records s =
    decide (ltb 65536 (length s))
    (λ e. rw e (omega arith, λ z. absurd (omega arith), λ z. absurd (omega arith)))
    (λ e. let h : length s ≤ 65536 = ltb-false _ _ e in
    rw e (low_after s (places_from (length s) s 0 no_places) h (low_from s)))

-- a listing with a byte
pub low_bytes : (x : ℕ) (xs : List ℕ) → LowListed (x ∷ xs) 65536 Any (read_listing (x ∷ xs))
low_bytes x xs = subst (LowListed (x ∷ xs) 65536 Any) (sym (some_bytes (x ∷ xs) (λ z. omega arith))) (low_records (x ∷ xs))

-- ---- a block

abbrev LowResult : ℕ → Result State → Type 0
LowResult m (Result.ended k t) = Unit {0}
LowResult m (Result.returned k) = Unit {0}
LowResult m (Result.violated k c o a) = Unit {0}
LowResult m (Result.refused n p) = p ≤ m

module _ (returns : ℕ) (b : Block) (m : ℕ) (exit : b.exit ≤ m) where
  low_end : (es : List ℕ) (r : Running) → LowResult m (end_of b es r)
  low_end [] r = tt
  low_end (e ∷ es) r = tt

  low_finish : (r : Running) (vs : List Operand) → LowResult m (finish b r vs)
  low_finish r [] = low_end b.successors r
  low_finish r (v ∷ vs) = exit

  low_settle : (o : ℕ) (x : Outcome Machine) (k : Machine → Result State) → o ≤ m → ((n : Machine) → LowResult m (k n)) → LowResult m (settle o x k)
  low_settle o (done n) k h l = l n
  low_settle o (violated n c a) k h l = tt
  low_settle o (refused n) k h l = h

  low_run : (is : List Instr) (o : ℕ) (n : Machine) → o + length is ≤ suc m → LowResult m (run_from returns b o is n)
  unfolding run_from
  low_run [] o n h = low_finish n.state n.stack
  low_run (i ∷ is) o n h = low_settle o (step returns i (machine_at o n)) _ (omega (arith, h)) (λ x. low_run is (suc o) x (omega (arith, h)))

low_exec : (q : Routine) (m i : ℕ) (s : State) → Ruled (length q.code) q.blocks i → length q.code ≤ m → LowResult m (exec q i s)
unfolding exec run_block instrs_of
low_exec q m i s r h =
    let b : Block = get_or q.blocks i no_block in
    low_run q.returns b m (omega (arith, r.inside, h)) (take (suc (b.exit - b.entry)) (drop b.entry q.code)) b.entry (start_machine q.locals s)
    (simp (length-take, length-drop) (omega (arith, r.inside, r.forth, h)))

-- ---- the run

abbrev LowNext : ℕ → Next → Type 0
LowNext m (at i) = Unit {0}
LowNext m (stopped n p) = p ≤ m

module _ (ex : ℕ → State → Result State) (bs : List Block) (m : ℕ) (exits : (i : ℕ) → i < length bs → (get_or bs i no_block).exit ≤ m)
    (results : (i : ℕ) (s : State) → i < length bs → LowResult m (ex i s)) where
  module _ (b : Block) (t : State) (exit : b.exit ≤ m) where
    low_change : (e j : ℕ) (ss : List (Slot State)) (n : ℕ) (k : State) (x : Bool) → LowNext m (after_change State join join_blurs changed ex bs b e j ss n k x).next
    low_change e j ss n k true = tt
    low_change e j ss n k false = tt

    low_join : (e j : ℕ) (ss : List (Slot State)) (n : ℕ) (s : State) (x : Ans State) → LowNext m (after_join State join join_blurs changed ex bs b e j ss n s x).next
    low_join e j ss n s (ok k) = low_change e j ss n k (changed s k)
    low_join e j ss n s (refuse r) = exit

    low_kept : (e j : ℕ) (ss : List (Slot State)) (n : ℕ) (x : Option State) → LowNext m (to_kept State join join_blurs changed ex bs b t e j ss n x).next
    low_kept e j ss n none = tt
    low_kept e j ss n (some s) = low_join e j ss n s (join s t)

    low_next : (e : ℕ) (ss : List (Slot State)) (x : Next) → LowNext m x → LowNext m (to_successor State join join_blurs changed ex bs b t e ss x).next
    low_next e ss (at n) l = low_kept e (L.position bs e) ss n (get_or ss (L.position bs e) blank).kept
    low_next e ss (stopped r p) l = l

    low_propagate : (es : List ℕ) (a : Propagation State) → LowNext m a.next → LowNext m (propagate State join join_blurs changed ex bs b t es a).next
    unfolding propagate
    low_propagate [] a l = l
    low_propagate (e ∷ es) a l = low_propagate es (to_successor State join join_blurs changed ex bs b t e a.slots a.next) (low_next e a.slots a.next l)

  low_block : (r : Run State) (i : ℕ) (x : Result State) → i < length bs → LowResult m x → LowNext m (after_block State join join_blurs changed ex bs r i x).next
  low_block r i (Result.ended k t) h l = low_propagate (get_or bs i no_block) t (exits i h) (get_or bs i no_block).successors _ tt
  low_block r i (Result.returned k) h l = tt
  low_block r i (Result.violated k c o a) h l = tt
  low_block r i (Result.refused n p) h l = l

  low_ran : (r : Run State) (i : ℕ) (x : Option State) → i < length bs → LowNext m (L.visit_block State join join_blurs changed ex bs r i x).next
  low_ran r i none h = tt
  low_ran r i (some s) h = low_block r i (ex i s) h (results i s h)

  low_at_lem : (r : Run State) (x : Next) → r.next ≡ x → LowNext m x → LowNext m (turn_at State join join_blurs changed ex bs r x).next
  low_at_lem r (at i) e l =
      decide (ltb i (length bs))
      (λ d. rw d (low_ran r i (get_or r.slots i blank).kept (ltb-true _ _ d)))
      (λ d. rw d (subst (LowNext m) (sym e) l))
  low_at_lem r (stopped n p) e l = subst (LowNext m) (sym e) l

  low_steps : (f : ℕ) (r : Run State) → LowNext m r.next → LowNext m (turns State join join_blurs changed ex bs f r).next
  unfolding turns L.turn
  low_steps zero r l = l
  low_steps (suc f) r l = low_steps f (turn_at State join join_blurs changed ex bs r r.next) (low_at_lem r r.next refl l)

-- ---- the answer

low_for : (f : Option Failure) → Low (verdict_for f)
low_for none = tt
low_for (some f) = tt

low_verdict : (bs : List Block) (r : Run State) → LowNext 512 r.next → Low (verdict bs r)
unfolding verdict
low_verdict bs r l = go r.next l
  where
    go : (x : Next) → LowNext 512 x → Low (verdict_at bs r.slots x)
    go (at i) k = low_for (lowest bs r.slots none)
    go (stopped n p) k = omega (arith, k)

few : (s : List ℕ) (q : Routine) → read_listing s ≡ read q → length q.code ≤ 512
unfolding promised
few s q e = leb-true _ _ (and_r (leb q.locals 16) _ (and_l _ _ (accepted_promised s q e)))

pub rules : (s : List ℕ) (q : Routine) → read_listing s ≡ read q → (i : ℕ) → i < length q.blocks → Ruled (length q.code) q.blocks i
rules s q e i h =
    let a : Accepted s q = accepted s q e in
    subst (λ (z : Routine). i < length z.blocks → Ruled (length z.code) z.blocks i) (sym a.routine)
    (λ k. ruled_block _ _ i (first_none_below (faulty_block (length (routine_at s a.places).code) (routine_at s a.places).blocks) _ a.fine_blocks i k)) h

low_routine : (s : List ℕ) (q : Routine) → read_listing s ≡ read q → Low (verdict q.blocks (run_of q))
unfolding run_of run
low_routine s q e =
    low_verdict q.blocks (run_of q)
    (low_steps (exec q) q.blocks 512
    (λ i h. let r : Ruled (length q.code) q.blocks i = rules s q e i h in omega (arith, r.inside, few s q e))
    (λ i x h. low_exec q 512 i x (rules s q e i h) (few s q e))
    (most_visits (length q.blocks) q.locals) _ tt)

pub low_answer : (words : ℕ) (s : List ℕ) → Low (verify words s).verdict
low_answer words s = verify_either words s (λ a. Low a.verdict) (omega arith) (λ _. bytes s)
  where
    go : (s : List ℕ) (x : Listed Routine) → read_listing s ≡ x → LowListed s 65536 Any x → Low (answer_to x).verdict
    go s (read q) h l = low_routine s q h
    go s nothing h l = absurd l
    go s (S.refused n p) h l = l.0

    bytes : (s : List ℕ) → Low (answer_to (read_listing s)).verdict
    bytes [] = subst (λ (x : Listed Routine). Low (answer_to x).verdict) (sym (no_bytes [] refl)) tt
    bytes (x ∷ xs) = go (x ∷ xs) (read_listing (x ∷ xs)) refl (low_bytes x xs)
