-- A run by document 01, whose blocks end by the Rust's renaming and are refused with 16 where names cross: as long as none is, it is the run of A2.
use Prim.Native.Nat.{ℕ, zero, suc, ◌≤◌, ◌+◌, ◌*◌}
use Rattle.std.proofs.Common.{le_refl, sym, ◌∙◌}
use Rattle.std.specs.Prelude.{true, false, Bool, cond, ◌⊎◌, ◌≡◌, ltb, length, get_or}
use Rattle.std.proofs.lemmas.Bool.{false≢true}
use mathlib.Core.List.{List, [], ◌∷◌}
use Rattle.std.proofs.Math.Logic.{inl, inr}
use Rattle.std.proofs.Math.Option.{Option, none, some}
use Rattle.std.proofs.Math.Path.{refl, ap, subst}
use Rattle.meaning.specs.Lists.{empty}
use Rattle.meaning.specs.AbstractState.{State, Operand, join, join_blurs, changed, canonical, first_state}
use Rattle.meaning.specs.EntryPoints.{Running}
use Rattle.meaning.specs.Steps.{Instr, Machine}
use Rattle.meaning.specs.Blocks.{Routine, instrs_of, start_machine, end_of, finish, run_block, exec}
use Rattle.meaning.specs.Loop.{Result, Block, no_block, blank, Next, at, stopped, Run, Propagation, fine, Slot, to_successor, propagate, successor_blurs, propagate_blurs, mark, after_block, visit_block, turn_at, turn, turns, start_slots, run}
use Rattle.meaning.specs.Verify.{run_with}
use Rattle.meaning.proofs.Laws.Base.{decide}
use Rattle.meaning.proofs.Laws.Block.{Enters, enters, run_relates, run_to_lem}
use Rattle.meaning.specs.Laws.Forms.{Strong}
use Rattle.meaning.proofs.Laws.InTurn.{remapped_canonical}
use Rattle.meaning.specs.Laws.Promised.{promised}
use Rattle.meaning.proofs.Laws.Run.{KeptOk, RunOk, step_ok, first_ok}
use Rattle.meaning.proofs.Laws.Step.{Good}
use Rattle.meaning.specs.Refinement.InTurn.{crosses, remapped, run_to, end_in_turn, finish_in_turn, exec_in_turn, run_in_turn}

-- ---- one block's run

-- the same, or the second is refused with 16
abbrev Agree : Result State → Result State → Type 0
Agree a b = (a ≡ b) ⊎ ((p : ℕ) × (b ≡ Result.refused 16 p))

module _ (l : ℕ) (small : l ≤ 16) (b : Block) where
  finish_agrees : (m : ℕ) (r : Running) (vs : List Operand) → Good l m vs r → Agree (finish b r vs) (finish_in_turn b r vs)
  finish_agrees m r (v ∷ vs) g = inl refl
  finish_agrees m r [] g = go b.successors
    where
      s : State
      s = record { locals = r.locals; graph = r.graph }

      same : crosses r.locals 0 r.locals ≡ false → canonical r.root s ≡ remapped r.root s
      same c =
          subst (λ (k : ℕ). canonical k s ≡ remapped k s) (sym g.keeps.root)
          (sym (remapped_canonical l m r.locals r.graph r.next small g.count g.keeps.own c))

      go : (es : List ℕ) → Agree (end_of b es r) (end_in_turn b es r)
      go [] = inl refl
      go (e ∷ es) =
          decide (crosses r.locals 0 r.locals)
          (λ c. inr (b.exit, rw c refl))
          (λ c. inl (rw c (ap (Result.ended r.blurs) (same c))))

return_agrees : (b : Block) (r : Running) (vs : List Operand) → empty b.successors ≡ true → Agree (finish b r vs) (finish_in_turn b r vs)
return_agrees b r (v ∷ vs) w = inl refl
return_agrees b r [] w = go b.successors w
  where
    go : (es : List ℕ) → empty es ≡ true → Agree (end_of b es r) (end_in_turn b es r)
    go [] w = inl refl
    go (e ∷ es) w = absurd (false≢true w)

exec_agrees : (q : Routine) → promised q ≡ true → (i : ℕ) (s : State) → Strong q.locals s → Agree (exec q i s) (exec_in_turn q i s)
unfolding exec run_block exec_in_turn
exec_agrees q h i s strong =
    let b : Block = get_or q.blocks i no_block in
    let is : List Instr = instrs_of b q.code in
    let m : Machine = start_machine q.locals s in
    let e : Enters q b is s = enters q h i s strong in
    subst (λ (a : Result State). Agree a (run_to (finish_in_turn b) q.returns b.entry is m)) (sym (run_to_lem q.returns b b.entry is m))
    (run_relates q.locals e.small q.returns b (finish b) (finish_in_turn b) Agree (λ k c o a. inl refl) (λ n o k. inl refl)
    (finish_agrees q.locals e.small b) (return_agrees b)
    b.entry is (17 * length is) m e.within e.placed e.fine (le_refl (17 * length is)))

-- ---- the loop

-- what the loop does with a block's result does not ask how blocks run
module _ (x y : ℕ → State → Result State) (bs : List Block) where
  propagate_any : (b : Block) (t : State) (es : List ℕ) (a : Propagation State)
      → propagate State join join_blurs changed x bs b t es a ≡ propagate State join join_blurs changed y bs b t es a
  unfolding propagate
  propagate_any b t [] a = refl
  propagate_any b t (e ∷ es) a = propagate_any b t es (to_successor State join join_blurs changed x bs b t e a.slots a.next)

  propagate_blurs_any : (b : Block) (t : State) (es : List ℕ) (a : Propagation State)
      → propagate_blurs State join join_blurs changed x bs b t es a ≡ propagate_blurs State join join_blurs changed y bs b t es a
  unfolding propagate_blurs
  propagate_blurs_any b t [] a = refl
  propagate_blurs_any b t (e ∷ es) a =
      ap (λ (n : ℕ). successor_blurs State join join_blurs changed x bs t e a.slots a.next + n)
      (propagate_blurs_any b t es (to_successor State join join_blurs changed x bs b t e a.slots a.next))

  after_any : (r : Run State) (i : ℕ) (z : Result State) → after_block State join join_blurs changed x bs r i z ≡ after_block State join join_blurs changed y bs r i z
  after_any r i (Result.ended k t) =
      let b : Block = get_or bs i no_block in
      let first : Propagation State = record { slots = mark State join join_blurs changed x bs r.slots i fine; next = at (suc i) } in
      λ j. record {
        slots = (propagate_any b t b.successors first j).slots;
        next = (propagate_any b t b.successors first j).next;
        trail = i ∷ r.trail;
        blurs = r.blurs + k + propagate_blurs_any b t b.successors first j;
      }
  after_any r i (Result.returned k) = refl
  after_any r i (Result.violated k c o a) = refl
  after_any r i (Result.refused n p) = refl

  start_any : (cs : List Block) (s : State) → start_slots State join join_blurs changed x bs cs s ≡ start_slots State join join_blurs changed y bs cs s
  unfolding start_slots
  start_any [] s = refl
  start_any (c ∷ cs) s = refl

-- a run that a refusal ended stays
still : (x : ℕ → State → Result State) (bs : List Block) (f : ℕ) (r : Run State) (n p : ℕ) → r.next ≡ stopped n p → (turns State join join_blurs changed x bs f r).next ≡ stopped n p
unfolding turns turn
still x bs zero r n p e = e
still x bs (suc f) r n p e =
    ap (λ (z : Next). (turns State join join_blurs changed x bs f (turn_at State join join_blurs changed x bs r z)).next) e ∙ still x bs f r n p e

-- the same, or the second ended by 16
abbrev pub Along : Run State → Run State → Type 0
Along a b = (a ≡ b) ⊎ ((p : ℕ) × (b.next ≡ stopped 16 p))

module _ (q : Routine) (h : promised q ≡ true) where
  abbrev x : ℕ → State → Result State
  x = exec q

  abbrev y : ℕ → State → Result State
  y = exec_in_turn q

  abbrev bs : List Block
  bs = q.blocks

  turn_along : (r : Run State) (n : Next) → RunOk q h r → Along (turn_at State join join_blurs changed x bs r n) (turn_at State join join_blurs changed y bs r n)
  turn_along r (stopped n p) ok = inl refl
  turn_along r (at i) ok = go (ltb i (length bs)) (get_or r.slots i blank).kept (ok.0 i)
    where
      ran : (s : State) → Agree (x i s) (y i s) → Along (after_block State join join_blurs changed x bs r i (x i s)) (after_block State join join_blurs changed y bs r i (y i s))
      ran s (inl e) = inl (ap (after_block State join join_blurs changed x bs r i) e ∙ after_any x y bs r i (y i s))
      ran s (inr e) = inr (e.0, ap (λ (z : Result State). (after_block State join join_blurs changed y bs r i z).next) e.1)

      go : (b : Bool) (k : Option State) → KeptOk q h k → Along (cond b (visit_block State join join_blurs changed x bs r i k) r) (cond b (visit_block State join join_blurs changed y bs r i k) r)
      go true none w = inl refl
      go true (some s) w = ran s (exec_agrees q h i s w)
      go false k w = inl refl

  turns_along : (f : ℕ) (r : Run State) → RunOk q h r → Along (turns State join join_blurs changed x bs f r) (turns State join join_blurs changed y bs f r)
  unfolding turns turn
  turns_along zero r ok = inl refl
  turns_along (suc f) r ok =
      let r₁ : Run State = turn_at State join join_blurs changed x bs r r.next in
      go (turn_at State join join_blurs changed y bs r r.next) (turn_along r r.next ok) (turns_along f r₁ (step_ok q h r r.next ok))
    where
      go : (s : Run State) → Along (turn_at State join join_blurs changed x bs r r.next) s
          → Along (turns State join join_blurs changed x bs f (turn_at State join join_blurs changed x bs r r.next)) (turns State join join_blurs changed y bs f (turn_at State join join_blurs changed x bs r r.next))
          → Along (turns State join join_blurs changed x bs f (turn_at State join join_blurs changed x bs r r.next)) (turns State join join_blurs changed y bs f s)
      go s (inl e) w = subst (λ (z : Run State). Along (turns State join join_blurs changed x bs f (turn_at State join join_blurs changed x bs r r.next)) (turns State join join_blurs changed y bs f z)) e w
      go s (inr e) w = inr (e.0, still y bs f s 16 e.0 e.1)

  -- whatever the budget: verdict, visits, blurred sets and kept states are the same, or document 01's run was refused with 16
  pub run_in_turn_lem : (f : ℕ) → Along (run_with q f) (run_in_turn q f)
  unfolding run
  run_in_turn_lem f =
      subst (λ (ss : List (Slot State)). Along (run_with q f) (turns State join join_blurs changed y bs f (record { slots = ss; next = at 0; trail = []; blurs = 0 })))
      (start_any x y bs bs (first_state q.locals q.params))
      (turns_along f (record { slots = start_slots State join join_blurs changed x bs bs (first_state q.locals q.params); next = at 0; trail = []; blurs = 0 })
      (first_ok q h bs, tt))
