-- One turn of the loop, its start and its end, as the definitions have them.
use Rattle.std.specs.Prelude.{ℕ, zero, suc, ◌+◌, ◌*◌, ◌≤◌, ◌<◌, min, ◌≡◌, ◌⊎◌, Bool, ◌&&◌, cond, List, [], ◌∷◌, map, eqb, leb, ltb, length, take, drop, get_or, set, Some, None}
use Rattle.std.specs.Prelude as P
use Rattle.std.specs.Option.{is_some}
use Rattle.std.proofs.Common.{zero-le, mul-le-mul, add-one, arith, sym, ◌∙◌, inl, inr, true≢false, ne_eqb, eq-eqb, lt-ltb, le-ltb, ltb-false}
use Rattle.std.proofs.Math.Path.{refl, ap, subst}
use Rattle.std.proofs.Math.Bool.{true, false, not}
use Rattle.std.proofs.Math.Option.{none, some}
use Rattle.std.proofs.Math.ListN.{get_or-map}
use Rattle.std.proofs.lemmas.List.{length-map, get_or-take}
use Rattle.meaning.proofs.Laws.Array.{front_all}
use Rattle.meaning.specs.Limits.{area_words, u32_most}
use Rattle.meaning.specs.Area.{local_in, kept_of, Stored, forgotten}
use Rattle.meaning.proofs.Laws.Area.{Forgotten, forgotten_law}
use Rattle.meaning.specs.AbstractState.{State, join, join_blurs, changed, first_state}
use Rattle.meaning.specs.EntryPoints as R
use Rattle.meaning.specs.AbstractState as S
use Rattle.meaning.specs.Answers as A
use Rattle.meaning.specs.Answers.{Outcome, done}
use Rattle.meaning.specs.EntryPoints.{Running}
use Rattle.meaning.proofs.Laws.Base.{and_l, leb_le}
use Rattle.meaning.specs.Lists.{all}
use Rattle.meaning.specs.Blocks.{Routine, exec, run_block, instrs_of}
use Rattle.meaning.specs.Laws.Forms.{Strong}
use Rattle.meaning.specs.Laws.Promised.{promised, within_frame, rets_placed as placed-rets}
use Rattle.meaning.proofs.Laws.Block.{exec_keeps}
use Rattle.meaning.specs.Loop as M
use Rattle.meaning.specs.Loop.{most_changes, most_visits, Result, Status, fine, failed, Next, at, stopped, Run, no_block, turn, turns, run, has_ended}
use Rattle.meaning.proofs.Laws.Fit as F
use Rattle.meaning.specs.Laws.Fit.{Does, Passes, Reached, propagate_on, propagate_blurs_on}
use Rattle.meaning.proofs.Laws.Run as RunLaws
use Rattle.meaning.specs.Verify.{run_with, run_of}
use Rattle.listing.specs.Models.{block_of, blocks_in, routine_of}
use Rattle.listing.specs.declared.Block.{Block}
use Rattle.listing.specs.declared.Routine as D
use Rattle.abstract_state.specs.Models.{Words, halted, locals_in, running_of, answer_of, operand_of, state_of}
use Rattle.abstract_state_join.specs.Models.{first_running}
use Rattle.reference_safety.specs.Models.{placed, end_for}
use Rattle.absint.specs.Models.{statuses_of, next_by, next_of, turns_end, turn_most, Propagated, At, Readable, Ready, Turned, Started, Analyzed}
use Rattle.absint.specs.LoopLaws.{past_block}
use Rattle.absint.specs.PropagateLaws.{going, no_stop, some_stop, stored_here}
use Rattle.absint.specs.declared.run_state.Stop.{Stop}
use Rattle.absint.specs.declared.run_state.RunState.{RunState}

-- ---- states and their outcomes

abbrev given : {A : Type 0} → A → Outcome A → A
given d (done a) = a
given d (A.violated k c o) = d
given d (A.refused n) = d

-- a state whose outcome is known goes on with it
pub done_inv : {T : Type 0} (k v o n : ℕ) (a b : T) → halted k v o n a ≡ done b → a ≡ b
done_inv {T} k v o n a b e = go (eqb v 0) (eqb n 0) e
  where
    go : (x y : Bool) → cond x (cond y (done a) (A.refused n)) (A.violated k v o) ≡ done b → a ≡ b
    go true true e = ap (given a) e
    go true false e = ap (given a) e
    go false y e = ap (given a) e

module _ (es : List ℕ) (k v w n : ℕ) (a : Running) (p : ℕ) (o : Result State) (e : placed es p (halted k v w n a) ≡ o) where
  pub placed_violated : (v ≡ 0 → ⊥) → o ≡ Result.violated k v p w
  placed_violated h = sym e ∙ ap (λ (x : Bool). placed es p (cond x (cond (eqb n 0) (done a) (A.refused n)) (A.violated k v w))) (ne_eqb v 0 h)

  pub placed_refused : v ≡ 0 → (n ≡ 0 → ⊥) → o ≡ Result.refused n p
  placed_refused z h = sym e ∙ (λ i. placed es p (cond (eq-eqb v 0 z i) (cond (ne_eqb n 0 h i) (done a) (A.refused n)) (A.violated k v w)))

  pub placed_end : v ≡ 0 → n ≡ 0 → o ≡ end_for es a
  placed_end z h = sym e ∙ (λ i. placed es p (cond (eq-eqb v 0 z i) (cond (eq-eqb n 0 h i) (done a) (A.refused n)) (A.violated k v w)))

-- words read the same in routines of as many locals
pub kept_root : (m l : ℕ) → m ≡ l → (ws : List ℕ) (j : ℕ) → kept_of m ws j ≡ kept_of l ws j
kept_root m l e ws j = ap (λ (n : ℕ). kept_of n ws j) e

-- a state that has l locals, with that number
pub locals_same : (xs : List ℕ) (m l : ℕ) → length (locals_in xs m) ≡ l → locals_in xs l ≡ locals_in xs m
unfolding locals_in
locals_same xs m l e =
    ap (map local_in) (ap (λ (k : ℕ). take k xs) (sym (sym (length-map (take m xs) local_in) ∙ e)) ∙ front_all m xs)

-- a block that was run
pub ran : (q : Routine) (i : ℕ) (b : M.Block) (s s' : State) (o : Result State) → b ≡ get_or q.blocks i no_block → s' ≡ s → o ≡ run_block q b s' → exec q i s ≡ o
unfolding exec
ran q i b s s' o x y e = (λ k. run_block q (sym x k) (sym y k)) ∙ sym e

-- the block at a position
pub block_at_lem : (xs : List Block) (n i : ℕ) → i < n → block_of (get_or xs i past_block) ≡ get_or (blocks_in xs n) i no_block
unfolding blocks_in
block_at_lem xs n i h = sym (get_or-map block_of (take n xs) i past_block ∙ ap block_of (get_or-take n xs i past_block h))

-- ---- one turn

module _ (s cs : List ℕ) (d : D.Routine) (ws : List ℕ) (t : RunState) (p : Ready s cs d ws t) where
  abbrev q : Routine
  q = routine_of s cs d

  abbrev i : ℕ
  i = t.next

  inside : i < length q.blocks
  inside = omega (arith, p.count, p.within)

  at_next : (x : Run State) → At s cs d x ws t → Reached State join join_blurs changed (exec q) q.blocks x (kept_of d.locals ws) (statuses_of t) (at i) t.visits t.blurred
  at_next x a = subst (λ (n : Next). Reached State join join_blurs changed (exec q) q.blocks x (kept_of d.locals ws) (statuses_of t) n t.visits t.blurred) (going t p.going) a

  -- where the code stands after the turn
  moved : (x : Run State) (ws' : List ℕ) (r : RunState) (xs : List Status) (n : Next) (v k : ℕ) → statuses_of r ≡ xs → next_of r ≡ n → r.visits ≡ v → r.blurred ≡ k
      → Reached State join join_blurs changed (exec q) q.blocks x (kept_of d.locals ws') xs n v k → At s cs d x ws' r
  moved x ws' r xs n v k a b c e h =
      subst (λ (m : ℕ). Reached State join join_blurs changed (exec q) q.blocks x (kept_of d.locals ws') (statuses_of r) (next_of r) r.visits m) (sym e)
      (subst (λ (m : ℕ). Reached State join join_blurs changed (exec q) q.blocks x (kept_of d.locals ws') (statuses_of r) (next_of r) m k) (sym c)
      (subst (λ (m : Next). Reached State join join_blurs changed (exec q) q.blocks x (kept_of d.locals ws') (statuses_of r) m v k) (sym b)
      (subst (λ (ys : List Status). Reached State join join_blurs changed (exec q) q.blocks x (kept_of d.locals ws') ys n v k) (sym a) h)))

  -- one turn more, with its visit and at most two joins
  few_more : (r : RunState) (k : ℕ) → k ≤ turn_most → r.turns ≡ t.turns + 1 → r.blurred ≡ t.blurred + k → r.blurred ≤ r.turns * turn_most
  few_more r k few m e = let z : t.blurred ≤ t.turns * turn_most = p.small in omega (arith, few, m, e, z)

  pub turned_over : (r : RunState) → kept_of d.locals ws i ≡ none → statuses_of r ≡ statuses_of t → next_of r ≡ at (suc i) → r.visits ≡ t.visits → r.turns ≡ t.turns + 1 → r.blurred ≡ t.blurred → Turned s cs d ws ws t r
  turned_over r e a b c k y =
      record {
        step = λ x h. moved (turn State join join_blurs changed (exec q) q.blocks x) ws r (statuses_of t) (at (suc i)) t.visits t.blurred a b c y (F.step_over State join join_blurs changed (exec q) q.blocks x (kept_of d.locals ws) (statuses_of t) i t.visits t.blurred (at_next x h) inside e);
        turns = k;
        fewer = let z : t.visits ≤ t.turns = p.fewer in omega (arith, c, k, z);
        small = few_more r 0 zero-le k (omega (arith, y));
        beyond = refl;
      }

  module _ (k : State) (old : kept_of d.locals ws i ≡ some k) (sts : length (statuses_of t) ≡ 16) where
    room : length q.blocks ≤ length (statuses_of t)
    room = let z : d.block_count ≤ 16 = p.blocks in let c = p.count in omega (arith, c, sts, z)

    pub turned_violated : (r : RunState) (j c o u : ℕ) → exec q i k ≡ Result.violated j c o u → statuses_of r ≡ set (statuses_of t) i (failed c o u) → next_of r ≡ at (suc i) → r.visits ≡ suc t.visits → r.turns ≡ t.turns + 1 → r.blurred ≡ t.blurred + j → j ≤ u32_most
        → Turned s cs d ws ws t r
    turned_violated r j c o u e a b v m y f =
        record {
          step = λ x h. moved (turn State join join_blurs changed (exec q) q.blocks x) ws r (set (statuses_of t) i (failed c o u)) (at (suc i)) (suc t.visits) (t.blurred + j) a b v y
              (F.step_violated State join join_blurs changed (exec q) q.blocks x (kept_of d.locals ws) (statuses_of t) i t.visits t.blurred (at_next x h) inside k old j c o u room e);
          turns = m;
          fewer = let z : t.visits ≤ t.turns = p.fewer in omega (arith, v, m, z);
          small = few_more r j (omega (arith, f)) m y;
          beyond = refl;
        }

    pub turned_refused : (r : RunState) (n o : ℕ) → exec q i k ≡ Result.refused n o → statuses_of r ≡ statuses_of t → next_of r ≡ stopped n o → r.visits ≡ suc t.visits → r.turns ≡ t.turns + 1 → r.blurred ≡ t.blurred → Turned s cs d ws ws t r
    turned_refused r n o e a b v m y =
        record {
          step = λ x h. moved (turn State join join_blurs changed (exec q) q.blocks x) ws r (statuses_of t) (stopped n o) (suc t.visits) t.blurred a b v y
              (F.step_refused State join join_blurs changed (exec q) q.blocks x (kept_of d.locals ws) (statuses_of t) i t.visits t.blurred (at_next x h) inside k old n o e);
          turns = m;
          fewer = let z : t.visits ≤ t.turns = p.fewer in omega (arith, v, m, z);
          small = few_more r 0 zero-le m (omega (arith, y));
          beyond = refl;
        }

    -- the block ended and has no successors
    pub turned_returned : (r : RunState) (j : ℕ) → exec q i k ≡ Result.returned j → statuses_of r ≡ set (statuses_of t) i fine → next_of r ≡ at (suc i) → r.visits ≡ suc t.visits → r.turns ≡ t.turns + 1 → r.blurred ≡ t.blurred + j → j ≤ u32_most
        → Turned s cs d ws ws t r
    turned_returned r j e a b v m y f =
        record {
          step = λ x h. moved (turn State join join_blurs changed (exec q) q.blocks x) ws r (set (statuses_of t) i fine) (at (suc i)) (suc t.visits) (t.blurred + j) a b v y
              (F.step_returned State join join_blurs changed (exec q) q.blocks x (kept_of d.locals ws) (statuses_of t) i t.visits t.blurred (at_next x h) inside k old j room e);
          turns = m;
          fewer = let z : t.visits ≤ t.turns = p.fewer in omega (arith, v, m, z);
          small = few_more r j (omega (arith, f)) m y;
          beyond = refl;
        }

    -- the block ended: u is what the code had before its end state was propagated
    pub turned_ended : (j : ℕ) (e : State) (b : M.Block) (ws' : List ℕ) (u r : RunState) → exec q i k ≡ Result.ended j e → b ≡ get_or q.blocks i no_block → statuses_of u ≡ set (statuses_of t) i fine → next_of u ≡ at (suc i) → u.visits ≡ suc t.visits → u.turns ≡ t.turns + 1
        → u.blurred ≡ t.blurred + j → j ≤ u32_most → Propagated q.blocks d.locals b e ws ws' u r → Turned s cs d ws ws' t r
    turned_ended j e b ws' u r ran same a c v m y f h =
        let x : r.blurred ≡ u.blurred + h.passed.more = h.passed.blurred in
        let z : h.passed.more ≤ 2 * u32_most = h.passed.few in
        let n : r.turns ≡ t.turns + 1 = h.passed.turns ∙ m in
        record {
          step = λ x y. moved (turn State join join_blurs changed (exec q) q.blocks x) ws' r (statuses_of r) (next_of r) (suc t.visits) (t.blurred + j + h.passed.more) refl refl (h.passed.visits ∙ v) (h.passed.blurred ∙ ap (λ (k : ℕ). k + h.passed.more) y')
              (F.step_ended State join join_blurs changed (exec q) q.blocks x (kept_of d.locals ws) (statuses_of t) i t.visits t.blurred (at_next x y) inside k old j e (kept_of d.locals ws') (statuses_of r) (next_of r) h.passed.more room ran
              (subst (λ (f : M.Block). Does State join join_blurs changed (exec q) q.blocks (propagate_on State join join_blurs changed (exec q) q.blocks f e f.successors) (kept_of d.locals ws) (set (statuses_of t) i fine) (at (suc i)) (kept_of d.locals ws') (statuses_of r) (next_of r)) same
              (subst (λ (n : Next). Does State join join_blurs changed (exec q) q.blocks (propagate_on State join join_blurs changed (exec q) q.blocks b e b.successors) (kept_of d.locals ws) (set (statuses_of t) i fine) n (kept_of d.locals ws') (statuses_of r) (next_of r)) c
              (subst (λ (xs : List Status). Does State join join_blurs changed (exec q) q.blocks (propagate_on State join join_blurs changed (exec q) q.blocks b e b.successors) (kept_of d.locals ws) xs (next_of u) (kept_of d.locals ws') (statuses_of r) (next_of r)) a (h.does (exec q)))))
              (subst (λ (f : M.Block). Passes State join join_blurs changed (exec q) q.blocks (propagate_blurs_on State join join_blurs changed (exec q) q.blocks f e f.successors) (kept_of d.locals ws) (set (statuses_of t) i fine) (at (suc i)) h.passed.more) same
              (subst (λ (n : Next). Passes State join join_blurs changed (exec q) q.blocks (propagate_blurs_on State join join_blurs changed (exec q) q.blocks b e b.successors) (kept_of d.locals ws) (set (statuses_of t) i fine) n h.passed.more) c
              (subst (λ (xs : List Status). Passes State join join_blurs changed (exec q) q.blocks (propagate_blurs_on State join join_blurs changed (exec q) q.blocks b e b.successors) (kept_of d.locals ws) xs (next_of u) h.passed.more) a (h.passed.passes (exec q))))));
          turns = n;
          fewer = let z : t.visits ≤ t.turns = p.fewer in let y : r.visits ≡ suc t.visits = h.passed.visits ∙ v in omega (arith, y, n, z);
          small = few_more r (j + h.passed.more) (omega (arith, f, z)) n (omega (arith, x, y));
          beyond = h.beyond;
        }
      where
        y' : u.blurred ≡ t.blurred + j
        y' = y

    -- the end state has the form too
    pub ended_strong : (j : ℕ) (e : State) → exec q i k ≡ Result.ended j e → Strong d.locals e
    ended_strong j e ran = exec_keeps q p.promise i j k e ran (p.sound i k old)

-- ---- the whole run

-- the bound on visits within the limits: 16 blocks of 16 locals
pub most_few : (b l n : ℕ) → b ≤ 16 → l ≤ 16 → n < most_visits b l → n < turns_end
most_few b l n h k m =
    let x : l * l ≤ 16 * 16 = mul-le-mul k k in
    let y : most_changes l ≤ 2832 = omega (arith, x, k) in
    let z : b * most_changes l ≤ 16 * 2832 = mul-le-mul h y in
    let v : 1 + b * most_changes l ≤ 45313 = omega (arith, z) in
    let w : most_visits b l ≤ 16 * 45313 = mul-le-mul h v in
    omega (arith, w, m)

module _ (s cs : List ℕ) (d : D.Routine) (promise : promised (routine_of s cs d) ≡ true) (count : length (routine_of s cs d).blocks ≡ d.block_count) (some_block : 0 < length (routine_of s cs d).blocks) where
  abbrev pub whole : ℕ → Run State
  whole k = run_with (routine_of s cs d) k

  -- the run after as many steps as the program has made turns
  pub record Going (ws₀ ws : List ℕ) (t : RunState) : Type 0 where
    pub here : At s cs d (whole t.turns) ws t
    pub fewer : t.visits ≤ t.turns
    pub small : t.blurred ≤ t.turns * turn_most
    pub beyond : drop area_words ws ≡ drop area_words ws₀

  abbrev r : Routine
  r = routine_of s cs d

  begun : (k : ℕ) → whole k ≡ turns State join join_blurs changed (exec r) r.blocks k (F.first State join join_blurs changed (exec r) r.blocks (first_state r.locals r.params))
  unfolding run
  begun k = refl

  more : (k : ℕ) → whole (suc k) ≡ turn State join join_blurs changed (exec r) r.blocks (whole k)
  unfolding run
  more k = F.steps_more State join join_blurs changed (exec r) r.blocks k (F.first State join join_blurs changed (exec r) r.blocks (first_state r.locals r.params))

  -- the first block has the first state, no other one has any
  pub goes : (ws₀ ws₁ ws : List ℕ) (t : RunState) → area_words ≤ length ws₀ → Forgotten ws₀ ws₁ → Stored d.locals (first_state r.locals r.params) 0 ws₁ ws → Started t → Going ws₀ ws t
  unfolding turns
  goes ws₀ ws₁ ws t area f w p =
      record {
        here = subst (λ (n : ℕ). At s cs d (whole n) ws t) (sym p.turns)
            (subst (λ (x : Run State). At s cs d x ws t) (sym (begun 0))
            (subst (λ (n : Next). Reached State join join_blurs changed (exec r) r.blocks (F.first State join join_blurs changed (exec r) r.blocks (first_state r.locals r.params)) (kept_of d.locals ws) (statuses_of t) n t.visits t.blurred) (sym p.next)
            (subst (λ (n : ℕ). Reached State join join_blurs changed (exec r) r.blocks (F.first State join join_blurs changed (exec r) r.blocks (first_state r.locals r.params)) (kept_of d.locals ws) (statuses_of t) (at 0) n t.blurred) (sym p.visits)
            (subst (λ (n : ℕ). Reached State join join_blurs changed (exec r) r.blocks (F.first State join join_blurs changed (exec r) r.blocks (first_state r.locals r.params)) (kept_of d.locals ws) (statuses_of t) (at 0) 0 n) (sym p.blurred)
            (F.starts State join join_blurs changed (exec r) r.blocks (first_state r.locals r.params) (kept_of d.locals ws) (statuses_of t)
            some_block (stored_here d.locals 0 (first_state r.locals r.params) ws₁ ws (omega (arith, area, f.size)) (omega arith) w)
            (λ j z. w.others d.locals j z ∙ f.kept d.locals j)
            p.fines)))));
        fewer = let a = p.visits in let b = p.turns in omega (arith, a, b);
        small = let a = p.blurred in omega (arith, a);
        beyond = w.beyond ∙ f.beyond;
      }

  module _ (ws₀ ws : List ℕ) (t : RunState) (g : Going ws₀ ws t) where
    -- a block is next: the run has not ended
    module _ (on : t.stopped ≡ None) (m : t.next < d.block_count) where
      unended : has_ended State join join_blurs changed (exec r) r.blocks (whole t.turns) ≡ false
      unended =
          ap (M.ended_at State join join_blurs changed (exec r) r.blocks) (sym g.here.next ∙ going t on)
          ∙ ap not (lt-ltb t.next (length r.blocks) (omega (arith, count, m)))

      pub bound : t.turns < most_visits (length r.blocks) r.locals
      bound = RunLaws.unsettled r promise t.turns unended

      pub ready : d.block_count ≤ 16 → d.locals ≤ 16 → area_words ≤ length ws → Ready s cs d ws t
      ready few small area =
          record {
            promise = promise;
            blocks = few;
            count = count;
            area = area;
            going = on;
            within = m;
            sound = λ j k e. RunLaws.kept_strong r promise t.turns j k (sym (g.here.fits.kept j) ∙ e);
            few = most_few d.block_count d.locals t.turns few small (subst (λ (n : ℕ). t.turns < most_visits n d.locals) count bound);
            fewer = g.fewer;
            small = g.small;
          }

      pub goes_on : (ws' : List ℕ) (u : RunState) → Turned s cs d ws ws' t u → Going ws₀ ws' u
      goes_on ws' u h =
          record {
            here = subst (λ (n : ℕ). At s cs d (whole n) ws' u) (sym (h.turns ∙ add-one t.turns))
                (subst (λ (x : Run State). At s cs d x ws' u) (sym (more t.turns))
                (h.step (whole t.turns) g.here));
            fewer = h.fewer;
            small = h.small;
            beyond = h.beyond ∙ g.beyond;
          }

    -- no block is next, or the run was stopped: it is the whole run
    pub ends : ((v : Stop) × (t.stopped ≡ Some v)) ⊎ (d.block_count ≤ t.next) → Analyzed s cs d ws₀ ws t
    unfolding run_of
    ends o =
        record {
          end = subst (λ (x : Run State). At s cs d x ws t) (RunLaws.settled r promise t.turns (ap (M.ended_at State join join_blurs changed (exec r) r.blocks) (sym g.here.next) ∙ over o)) g.here;
          beyond = g.beyond;
        }
      where
        past : (o : P.Option Stop) → d.block_count ≤ t.next → M.ended_at State join join_blurs changed (exec r) r.blocks (next_by t.next o) ≡ true
        past (Some v) h = refl
        past None h = ap not (le-ltb t.next (length r.blocks) (omega (arith, count, h)))

        over : ((v : Stop) × (t.stopped ≡ Some v)) ⊎ (d.block_count ≤ t.next) → M.ended_at State join join_blurs changed (exec r) r.blocks (next_of t) ≡ true
        over (inl h) = ap (λ (o : P.Option Stop). M.ended_at State join join_blurs changed (exec r) r.blocks (next_by t.next o)) h.1
        over (inr h) = past t.stopped h

-- ---- the loop's invariant

pub record Loops (s cs : List ℕ) (d : D.Routine) (ws₀ ws : List ℕ) (t : RunState) : Type 0 where
  pub read : Readable s cs d
  pub long : length ws ≡ length ws₀
  pub going : Going s cs d read.promise read.count read.some ws₀ ws t

pub promised_small : (q : Routine) → promised q ≡ true → q.locals ≤ 16
unfolding promised
promised_small q e = leb_le (and_l (leb q.locals 16) (leb (length q.code) 512) (and_l (leb q.locals 16 && leb (length q.code) 512) (all (within_frame q.locals) q.code && all (λ b. placed-rets b.successors (instrs_of b q.code)) q.blocks) e))

-- the loop's test
pub test_on : (o : P.Option Stop) (a b : Bool) → is_some o ≡ not a → a && b ≡ true → (o ≡ None) × (b ≡ true)
test_on o true b h e = (no_stop o h, e)
test_on o false b h e = absurd (true≢false (sym e))

pub test_off : (o : P.Option Stop) (a : Bool) (i n : ℕ) → is_some o ≡ not a → a && ltb i n ≡ false → ((v : Stop) × (o ≡ Some v)) ⊎ (n ≤ i)
test_off o true i n h e = inr (ltb-false i n e)
test_off o false i n h e = inl (some_stop o h)

-- the first state, as the code makes it
pub first_made : (a : Words) (l : ℕ) (ts : List S.Token) → l ≤ 16 → answer_of a ≡ R.answer (first_running (min l 16) ts) S.Operand.non_ref → (a.state.num_locals ≡ l) × (state_of a ≡ first_state l ts)
unfolding first_running
first_made a l ts h e =
    let z : min l 16 ≡ l = omega (arith, h) in
    let x : running_of a ≡ first_running (min l 16) ts = ap (λ (y : R.Answer). y.state) (done_inv a.state.blurred a.state.violation a.state.borrowed_at.0 a.state.refusal (record { state = running_of a; operand = operand_of a.state.value }) (record { state = first_running (min l 16) ts; operand = S.Operand.non_ref }) e) in
    (ap (λ (y : Running). y.root) x ∙ z, (λ k. record { locals = (x k).locals; graph = (x k).graph }) ∙ ap (λ (n : ℕ). first_state n ts) z)

pub stored_as : (m l : ℕ) (a b : State) (ws ws' : List ℕ) → m ≡ l → a ≡ b → Stored m a 0 ws ws' → Stored l b 0 ws ws'
stored_as m l a b ws ws' e f w = subst (λ (n : ℕ). Stored n b 0 ws ws') e (subst (λ (x : State). Stored m x 0 ws ws') f w)

-- the loop starts from the area with the first state in it
pub goes_again : (s cs : List ℕ) (d : D.Routine) (promise : promised (routine_of s cs d) ≡ true) (count : length (routine_of s cs d).blocks ≡ d.block_count) (some_block : 0 < length (routine_of s cs d).blocks) (ws₀ ws₁ ws : List ℕ) (t : RunState)
    → area_words ≤ length ws₀ → Forgotten ws₀ ws₁ → Stored d.locals (first_state (routine_of s cs d).locals (routine_of s cs d).params) 0 ws₁ ws → Started t → Going s cs d promise count some_block ws ws t
goes_again s cs d promise count some_block ws₀ ws₁ ws t area f w p =
    let g = goes s cs d promise count some_block ws₀ ws₁ ws t area f w p in
    record { here = g.here; fewer = g.fewer; small = g.small; beyond = refl }

pub from : (s cs : List ℕ) (d : D.Routine) (ws₀ ws₁ ws : List ℕ) (t : RunState) → drop area_words ws₁ ≡ drop area_words ws₀ → Analyzed s cs d ws₁ ws t → Analyzed s cs d ws₀ ws t
from s cs d ws₀ ws₁ ws t e a = record { end = a.end; beyond = a.beyond ∙ e }

pub positive : (n : ℕ) → (n ≡ 0 → ⊥) → 1 ≤ n
positive zero h = absurd (h refl)
positive (suc n) h = omega arith

-- what `forget` left
pub forgot : (ws us : List ℕ) → area_words ≤ length ws → us ≡ forgotten ws → Forgotten ws us
forgot ws us h e = subst (λ (vs : List ℕ). Forgotten ws vs) (sym e) (forgotten_law ws h)
