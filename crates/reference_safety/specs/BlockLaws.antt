-- Laws of a block's run: one instruction after the other, and its end.
use Rattle.std.specs.Prelude.{◌≡◌, ℕ, zero, suc, ◌+◌, ◌-◌, ◌<◌, ◌≤◌, min, Bool, true, false, cond, ◌&&◌, List, [], ◌∷◌, map, length, take, drop, ◌==◌, ◌≢◌, slice_index, slice_range, Result, ⊤}
use Rattle.std.proofs.Math.Path.{refl}
use Rattle.std.proofs.Common.{sym, ap, ◌∙◌, subst, true≢false, add-one, arith, length-drop, length-take}
use Rattle.std.proofs.lemmas.List.{length-map, take_min}
use Rattle.meaning.specs.Answers.{Outcome, done, violated, refused, then}
use Rattle.meaning.specs.AbstractState.{State, Operand}
use Rattle.meaning.proofs.Laws.Array.{front_map_step}
use Rattle.meaning.specs.EntryPoints.{Running}
use Rattle.meaning.specs.Steps.{Instr, Machine, step_on, step}
use Rattle.meaning.specs.Loop as L
use Rattle.meaning.specs.Loop.{Block}
use Rattle.meaning.specs.Blocks.{Routine, instrs_of, start_machine, finish, settle, run_from, run_block, machine_at}
use Rattle.borrow_graph.specs.Models.{Tells}
use Rattle.abstract_state.specs.ModelLaws.{then_done, then_then, goes}
use Rattle.abstract_state.specs.Models.{Words, words, Fits, halted, running_of, state_of}
use Rattle.abstract_state.specs.declared.state.AbstractState.{AbstractState}
use Rattle.meaning.specs.Listing.{token_as}
use Rattle.listing.specs.Models.{with_parts, decoded_of}
use Rattle.listing.specs.declared.decode.Instruction.{Instruction}
use Rattle.listing.specs.declared.decode.Decoded.{Decoded}
use Rattle.abstract_state_join.specs.Models.{canonical_end}
use Rattle.reference_safety.specs.Models.{with, placed, Board, Runs, Steps, StepsTo, Ends, state_in, machine_of}
use Rattle.reference_safety.specs.MachineLaws.{steps_from}
use Rattle.vm_status.specs.declared.Refusal.{Refusal}
use Rattle.operand_stack.specs.Models.{held}

-- ---- one instruction

pub stepped : {a b : Board} {r : Result ⊤ Refusal} (returns : ℕ) (d : Decoded) {i : Instruction} → d.instruction ≡ i
    → Runs (step_on returns (with_parts (take d.acquired_count d.acquired) (map token_as (take d.token_count d.tokens)) i) (held a.stack)) a.words r b
    → StepsTo (step returns (decoded_of d)) a r b
unfolding decoded_of step
stepped {a} {b} {r} returns d e p =
    steps_from (λ vs r. step_on returns (with_parts (take d.acquired_count d.acquired) (map token_as (take d.token_count d.tokens)) d.instruction) vs r)
    (subst (λ (j : Instruction). Runs (step_on returns (with_parts (take d.acquired_count d.acquired) (map token_as (take d.token_count d.tokens)) j) (held a.stack)) a.words r b) (sym e) p)

-- ---- the instructions in turn

pub going : (v n : ℕ) → v ≡ 0 → n ≡ 0 → (v == 0 && n == 0) ≡ true
going v n e f = ap (λ (x : ℕ). (x == 0) && n == 0) e ∙ ap (λ (x : ℕ). (0 == 0) && x == 0) f

-- a state without a number goes on
pub not_halted : {A : Type 0} (k v o n : ℕ) (a : A) → (v == 0 && n == 0) ≡ true → halted k v o n a ≡ done a
not_halted k v o n a e = then_done (halted k v o n a) ∙ sym (goes k v o n a done e)

-- a block ends behind its exit, or with the code
block_start : (q : Routine) (b : Block) (s : State) (end : ℕ) (r : Running) (vs : List Operand) → r ≡ (start_machine q.locals s).state → vs ≡ [] → end ≡ min (length q.code) (b.entry + suc (b.exit - b.entry))
    → run_from q.returns b b.entry (take (end - b.entry) (drop b.entry q.code)) (with vs r) ≡ run_block q b s
unfolding run_block instrs_of
block_start q b s end r vs e f g =
    let n : end - b.entry ≡ min (suc (b.exit - b.entry)) (length (drop b.entry q.code)) = omega (arith, length-drop b.entry q.code) in
    ap (λ (k : ℕ). run_from q.returns b b.entry (take k (drop b.entry q.code)) (with vs r)) n
    ∙ ap (λ (is : List Instr). run_from q.returns b b.entry is (with vs r)) (take_min (suc (b.exit - b.entry)) (drop b.entry q.code))
    ∙ ap (λ (ws : List Operand). run_from q.returns b b.entry (take (suc (b.exit - b.entry)) (drop b.entry q.code)) (with ws r)) f
    ∙ ap (λ (t : Running). run_from q.returns b b.entry (take (suc (b.exit - b.entry)) (drop b.entry q.code)) (with [] t)) e

-- the instruction at k, and the others up to the end
pub next_instr : (f : ℕ → Instr) (code : List ℕ) (count end k : ℕ) → k < end → end ≤ length (map f (take count code))
    → slice_range (map f (take count code)) k end ≡ f (slice_index code k) ∷ take (end - (k + 1)) (drop (k + 1) (map f (take count code)))
next_instr f code count end k h g =
    let n : end - k ≡ suc (end - (k + 1)) = omega arith in
    ap (λ (j : ℕ). take j (drop k (map f (take count code)))) n ∙ ap (take (suc (end - (k + 1)))) (front_map_step f count code 0 k (omega arith))

pub code_length : (f : ℕ → Instr) (code : List ℕ) (count : ℕ) → length (map f (take count code)) ≡ min count (length code)
code_length f code count = simp (length-map, length-take)

-- what the block comes to, once the instruction at k has this outcome
block_next : (returns : ℕ) (b : Block) (k : ℕ) (i j : Instr) (is js : List Instr) (u v w n : ℕ) (m : Machine) (o : L.Result State) → js ≡ i ∷ is → j ≡ i
    → (v == 0 && n == 0) ≡ true → run_from returns b k js m ≡ o
    → (q : Outcome Machine) → q ≡ then (halted u v w n m) (λ x. step returns j (machine_at k x)) → settle k q (λ x. run_from returns b (k + 1) is x) ≡ o
unfolding run_from
block_next returns b k i j is js u v w n m o l d e h q p =
    ap (λ (a : ℕ). settle k q (λ x. run_from returns b a is x)) (add-one k)
    ∙ ap (λ (x : Outcome Machine). settle k x (λ y. run_from returns b (suc k) is y)) (p ∙ sym (goes u v w n m (λ x. step returns j (machine_at k x)) e) ∙ ap (λ (x : Instr). step returns x (machine_at k m)) d)
    ∙ ap (λ (xs : List Instr). run_from returns b k xs m) (sym l)
    ∙ h

module _ (k u v w n : ℕ) (r : Running) (vs : List Operand) (f : Machine → L.Result State) (o : L.Result State) (h : settle k (halted u v w n (with vs r)) f ≡ o) where
  block_turn : (v == 0 && n == 0) ≡ true → f (with vs r) ≡ o
  block_turn z = go (v == 0) (n == 0) z ∙ h
    where
      go : (x y : Bool) → (x && y) ≡ true → f (with vs r) ≡ settle k (cond x (cond y (done (with vs r)) (refused n)) (violated u v w)) f
      go true true z = refl
      go true false z = absurd (true≢false (sym z))
      go false y z = absurd (true≢false (sym z))

  block_stop : (es : List ℕ) → (v == 0 && n == 0) ≡ false → placed es k (halted u v w n r) ≡ o
  block_stop es z = go (v == 0) (n == 0) z ∙ h
    where
      go : (x y : Bool) → (x && y) ≡ false → placed es k (cond x (cond y (done r) (refused n)) (violated u v w)) ≡ settle k (cond x (cond y (done (with vs r)) (refused n)) (violated u v w)) f
      go true true z = absurd (true≢false z)
      go true false z = refl
      go false y z = refl

block_end : (returns : ℕ) (b : Block) (k n : ℕ) (is : List Instr) (m : Machine) (o : L.Result State) → n ≡ 0 → run_from returns b k (take n is) m ≡ o → finish b m.state m.stack ≡ o
unfolding run_from
block_end returns b k n is m o z h = ap (λ (j : ℕ). run_from returns b k (take j is) m) (sym z) ∙ h

-- ---- the end

module _ (entry exit n a c : ℕ) (r : Running) (vs : List Operand) where
  abbrev block : Block
  block = record { entry = entry; exit = exit; successors = take n (a ∷ c ∷ []) }

  pub finish_left : (length vs ≢ 0) → L.Result.refused 14 exit ≡ finish block r vs
  finish_left h = go vs h
    where
      go : (ws : List Operand) → (length ws ≢ 0) → L.Result.refused 14 exit ≡ finish block r ws
      go [] h = absurd (h refl)
      go (w ∷ ws) h = refl

  module _ (z : length vs ≡ 0) where
    nothing : (f : List Operand → L.Result State) → f [] ≡ f vs
    nothing f = go vs z
      where
        go : (ws : List Operand) → length ws ≡ 0 → f [] ≡ f ws
        go [] e = refl
        go (w ∷ ws) e = absurd (omega arith)

    -- whatever state it ended in
    pub finish_none : n ≡ 0 → placed (take n (a ∷ c ∷ [])) exit (done r) ≡ finish block r vs
    finish_none e = go n e ∙ nothing (finish block r)
      where
        go : (k : ℕ) → k ≡ 0 → placed (take k (a ∷ c ∷ [])) exit (done r) ≡ finish (record { entry = entry; exit = exit; successors = take k (a ∷ c ∷ []) }) r []
        go zero e = refl
        go (suc k) e = absurd (omega arith)

    pub finish_some : (n ≢ 0) → placed (take n (a ∷ c ∷ [])) exit (canonical_end r) ≡ finish block r vs
    unfolding canonical_end
    finish_some e = go n e ∙ nothing (finish block r)
      where
        go : (k : ℕ) → (k ≢ 0) → placed (take k (a ∷ c ∷ [])) exit (canonical_end r) ≡ finish (record { entry = entry; exit = exit; successors = take k (a ∷ c ∷ []) }) r []
        go zero e = absurd (e refl)
        go (suc k) e = refl

-- ---- the run, on its arrays

-- From the words a on the block comes to o, if it does so from the machine w on, with these instructions left, the first one at k.
pub record Going (returns : ℕ) (b : Block) (is : List Instr) (k : ℕ) (w : Board) (a : Words) (o : L.Result State) : Type 0 where
  pub goes : (w.words.state.violation == 0 && w.words.state.refusal == 0) ≡ true
  pub fits : Fits a → Fits w.words
  pub runs : Fits a → run_from returns b k is (with (held w.stack) (running_of w.words)) ≡ o

abbrev state_from : Running → State
state_from r = record { locals = r.locals; graph = r.graph }

pub begins : (q : Routine) (b : Block) (end : ℕ) (w : Board) (s : State) → (w.words.state.violation == 0 && w.words.state.refusal == 0) ≡ true → held w.stack ≡ []
    → running_of w.words ≡ (start_machine q.locals s).state → end ≡ min (length q.code) (b.entry + suc (b.exit - b.entry))
    → Going q.returns b (take (end - b.entry) (drop b.entry q.code)) b.entry w w.words (run_block q b (state_of w.words))
begins q b end w s e d r n = record {
  goes = e;
  fits = λ h. h;
  runs = λ h. block_start q b (state_of w.words) end (running_of w.words) (held w.stack) (r ∙ ap {B = Running} (λ (x : State). (start_machine q.locals x).state) (sym (ap {B = State} state_from r))) d n;
}

-- an instruction's step, once the machine has its offset
pub at_step : {w u v : Board} (k : ℕ) (f : Machine → Outcome Machine) → Steps (λ x. done (machine_at k x)) w u → Steps f u v → Steps (λ x. f (machine_at k x)) w v
at_step {w} k f p q = record {
  fits = λ h. q.fits (p.fits h);
  steps = λ h. q.steps (p.fits h) ∙ ap (λ (o : Outcome Machine). then o f) (p.steps h) ∙ then_then (machine_of w) (λ x. done (machine_at k x)) f;
}

module _ {returns k : ℕ} {b : Block} {is js : List Instr} {w : Board} {a : Words} {o : L.Result State} where
  module _ {v : Board} (i j : Instr) (l : js ≡ i ∷ is) (d : j ≡ i) (p : Steps (λ x. step returns j (machine_at k x)) w v) (g : Going returns b js k w a o) where
    settled : Fits a → settle k (machine_of v) (λ x. run_from returns b (k + 1) is x) ≡ o
    settled h = block_next returns b k i j is js w.words.state.blurred w.words.state.violation w.words.state.borrowed_at.0 w.words.state.refusal (with (held w.stack) (running_of w.words)) o l d g.goes (g.runs h) (machine_of v) (p.steps (g.fits h))

    pub turns : (v.words.state.violation == 0 && v.words.state.refusal == 0) ≡ true → Going returns b is (k + 1) v a o
    turns z = record {
      goes = z;
      fits = λ h. p.fits (g.fits h);
      runs = λ h. block_turn k v.words.state.blurred v.words.state.violation v.words.state.borrowed_at.0 v.words.state.refusal (running_of v.words) (held v.stack) (λ x. run_from returns b (k + 1) is x) o (settled h) z;
    }

    pub stops : (v.words.state.violation == 0 && v.words.state.refusal == 0) ≡ false → Ends b a v.words k o
    stops z = record {
      fits = λ h. p.fits (g.fits h);
      ends = λ h. block_stop k v.words.state.blurred v.words.state.violation v.words.state.borrowed_at.0 v.words.state.refusal (running_of v.words) (held v.stack) (λ x. run_from returns b (k + 1) is x) o (settled h) b.successors z;
    }

pub finishes : {returns k : ℕ} {b : Block} {w : Board} {a : Words} {o : L.Result State} {c : Words} {p : ℕ} (n : ℕ) (is : List Instr)
    → n ≡ 0 → Ends b w.words c p (finish b (running_of w.words) (held w.stack))
    → Going returns b (take n is) k w a o → Ends b a c p o
finishes {returns} {k} {b} {w} {o = o} n is z e g = record {
  fits = λ h. e.fits (g.fits h);
  ends = λ h. e.ends (g.fits h) ∙ block_end returns b k n is (with (held w.stack) (running_of w.words)) o z (g.runs h);
}

-- the state that it was given, and the one that it began with
pub begun : {c : Words} {p : ℕ} (q : Routine) (b : Block) (ls ns : List ℕ) (es : List (List ℕ)) (s t : AbstractState) → t.borrow_graph ≡ s.borrow_graph → running_of (words ls ns es t) ≡ (start_machine q.locals (state_in q.locals (words ls ns es s))).state
    → Ends b (words ls ns es t) c p (run_block q b (state_of (words ls ns es t))) → Ends b (words ls ns es s) c p (run_block q b (state_in q.locals (words ls ns es s)))
begun q b ls ns es s t e r x = record {
  fits = λ h. x.fits (same h);
  ends = λ h. x.ends (same h) ∙ ap (run_block q b) (ap {B = State} state_from r);
}
  where
    same : Fits (words ls ns es s) → Fits (words ls ns es t)
    same h = record { locals = h.locals; tells = subst (Tells ns es) (sym e) h.tells }
