-- The loop ends by itself: a bound on its visits and on the changes of each kept state.
use Prim.Native.Nat.{ℕ, zero, suc, ◌+◌, ◌*◌, ◌-◌, ◌≤◌, ◌<◌, zero-le}
use native.Mathlib.Omega.{arith}
use Rattle.std.specs.Prelude.{Bool, cond, ◌⊎◌, ◌≡◌, leb, eqb, get_or, set}
use Rattle.std.proofs.Math.Bool.{true, false, not}
use Rattle.std.proofs.Common.{true≢false, inl, inr, sym, ◌∙◌, le_refl, not-suc-le-zero, add-sub_of_le, zero-add, suc-add, length-set, get_or-set_same, get_or-set_other}
use mathlib.Core.List.{List, [], ◌∷◌, map}
use Rattle.std.proofs.Math.Option.{Option, none, some}
use Rattle.std.proofs.Math.Path.{refl, ap, subst}
use Rattle.std.proofs.Math.Nat.{mul-le-mul_left}
use Rattle.std.proofs.Math.Dec.{ltb}
use Rattle.std.proofs.Math.ListN.{length, get_or-eq_default}
use Rattle.std.proofs.lemmas.List.{length-map}
use Rattle.std.proofs.Math.Seq.{set_out}
use Rattle.meaning.specs.Answers.{Ans, ok, refuse}
use Rattle.meaning.specs.Loop.{Result, ended, returned, violated, refused, Block, Status, fine, failed, Slot, Next, at, stopped, Run, visits, Propagation, position, no_block, blank, after_change, after_join, to_kept, to_successor, propagate, mark, after_block, visit_block, turn_at, turn, turns, start_slots, run, ended_at, has_ended}
use Rattle.meaning.proofs.Laws.Base.{decide, not_true, eqb_eq, eqb_ne, leb_le, leb_gt}

-- a pass over b blocks, and one more for each change of a kept state
abbrev pub passes : ℕ → ℕ → ℕ
passes b cap = b * (1 + b * cap)

-- What holds of the runs from s, whatever their budget f. Form: what every kept state has; cap: the most that one is changed.
pub record Bounds (St : Type 0) (join : St → St → Ans St) (join_blurs : St → St → ℕ) (changed : St → St → Bool) (exec : ℕ → St → Result St) (blocks : List Block) (Form : St → Type 0) (cap : ℕ) (s : St) : Type 0 where
  pub few_visits : (f : ℕ) → visits (run St join join_blurs changed exec blocks f s) ≤ passes (length blocks) cap
  pub few_changes : (f j : ℕ) → (get_or (run St join join_blurs changed exec blocks f s).slots j blank).changes ≤ cap
  pub forms : (f j : ℕ) (k : St) → (get_or (run St join join_blurs changed exec blocks f s).slots j blank).kept ≡ some k → Form k
  -- with a budget of that many turns, or any larger one, the run ends by itself,
  pub ends : (f : ℕ) → passes (length blocks) cap ≤ f → has_ended St join join_blurs changed exec blocks (run St join join_blurs changed exec blocks f s) ≡ true
  -- and is the same run: the same kept states, statuses, counts, visits, and the same end
  pub same : (f : ℕ) → passes (length blocks) cap ≤ f → run St join join_blurs changed exec blocks f s ≡ run St join join_blurs changed exec blocks (passes (length blocks) cap) s
  -- a run that has ended is the whole run
  pub settled : (f : ℕ) → has_ended St join join_blurs changed exec blocks (run St join join_blurs changed exec blocks f s) ≡ true → run St join join_blurs changed exec blocks f s ≡ run St join join_blurs changed exec blocks (passes (length blocks) cap) s

module _ (St : Type 0) (join : St → St → Ans St) (join_blurs : St → St → ℕ) (changed : St → St → Bool) (exec : ℕ → St → Result St) (blocks : List Block)
    (Form : St → Type 0) (rank : St → ℕ) (cap : ℕ)
    (rank-cap : (s : St) → rank s ≤ cap)
    (join_form : (s o t : St) → join s o ≡ ok t → Form s → Form o → Form t)
    (join-rank : (s o t : St) → join s o ≡ ok t → Form s → Form o → changed s t ≡ true → rank s < rank t)
    (exec-form : (i k : ℕ) (s t : St) → exec i s ≡ ended k t → Form s → Form t) where
  -- ---- what a slot can still change

  abbrev left : Option St → ℕ
  left none = cap
  left (some s) = cap - rank s

  left_le : (k : Option St) → left k ≤ cap
  left_le none = le_refl cap
  left_le (some s) = omega arith

  abbrev KeptOk : Option St → Type 0
  KeptOk none = Unit {0}
  KeptOk (some s) = Form s

  record SlotOk (x : Slot St) : Type 0 where
    form : KeptOk x.kept
    spent : x.changes + left x.kept ≤ cap

  blank_ok : SlotOk blank
  blank_ok = record { form = tt; spent = omega arith }

  abbrev AllOk : List (Slot St) → Type 0
  AllOk ss = (j : ℕ) → SlotOk (get_or ss j blank)

  set_ok_lem : (ss : List (Slot St)) (j : ℕ) (v : Slot St) → AllOk ss → SlotOk v → AllOk (set ss j v)
  set_ok_lem ss j v a h i =
      decide (eqb i j)
      (λ e. decide (leb (length ss) j)
      (λ l. subst (λ (xs : List (Slot St)). SlotOk (get_or xs i blank)) (sym (set_out ss j v (leb_le l))) (a i))
      (λ l. subst (λ (k : ℕ). SlotOk (get_or (set ss j v) k blank)) (sym (eqb_eq {m = i} {n = j} e)) (subst SlotOk (sym (get_or-set_same ss j v blank (leb_gt l))) h)))
      (λ e. subst SlotOk (sym (get_or-set_other ss j i v blank (eqb_ne {m = i} {n = j} e))) (a i))

  total : List (Slot St) → ℕ
  total [] = 0
  total (x ∷ xs) = left x.kept + total xs

  total_set : (ss : List (Slot St)) (j : ℕ) (v : Slot St) → left v.kept ≤ left (get_or ss j blank).kept → total (set ss j v) ≤ total ss
  unfolding total
  total_set [] j v h = zero-le
  total_set (x ∷ xs) zero v h = omega arith
  total_set (x ∷ xs) (suc j) v h = let k : total (set xs j v) ≤ total xs = total_set xs j v h in omega arith

  total_set_lt : (ss : List (Slot St)) (j : ℕ) (v : Slot St) → j < length ss → left v.kept < left (get_or ss j blank).kept → total (set ss j v) < total ss
  unfolding total
  total_set_lt [] j v l h = absurd (not-suc-le-zero l)
  total_set_lt (x ∷ xs) zero v l h = omega arith
  total_set_lt (x ∷ xs) (suc j) v l h = let k : total (set xs j v) < total xs = total_set_lt xs j v (omega arith) h in omega arith

  abbrev is_some : Option St → Type 0
  is_some none = ⊥
  is_some (some s) = Unit {0}

  some_in : (ss : List (Slot St)) (j : ℕ) (s : St) → (get_or ss j blank).kept ≡ some s → j < length ss
  some_in ss j s e =
      decide (leb (length ss) j)
      (λ l. absurd (subst is_some (sym e ∙ ap (λ (x : Slot St). x.kept) (get_or-eq_default ss blank {n = j} (leb_le l))) tt))
      (λ l. leb_gt l)

  -- ---- the end state handed on

  abbrev NextFrom : List (Slot St) → ℕ → List (Slot St) → Next → Type 0
  NextFrom ss₀ n₀ ss (at n) = (n ≡ n₀) ⊎ (total ss < total ss₀)
  NextFrom ss₀ n₀ ss (stopped r p) = Unit {0}

  record Propagated (ss₀ : List (Slot St)) (n₀ : ℕ) (a : Propagation St) : Type 0 where
    okay : AllOk a.slots
    same : length a.slots ≡ length ss₀
    less : total a.slots ≤ total ss₀
    next : NextFrom ss₀ n₀ a.slots a.next

  module _ (ss₀ : List (Slot St)) (n₀ : ℕ) (b : Block) (t : St) (ft : Form t) (e : ℕ) (ss : List (Slot St)) (n : ℕ) (h : Propagated ss₀ n₀ (record { slots = ss; next = at n })) where
    j : ℕ
    j = position blocks e

    next_weaker : (ss' : List (Slot St)) → total ss' ≤ total ss → (n ≡ n₀) ⊎ (total ss < total ss₀) → (n ≡ n₀) ⊎ (total ss' < total ss₀)
    next_weaker ss' l (inl p) = inl p
    next_weaker ss' l (inr p) = inr (omega arith)

    taken : (get_or ss j blank).kept ≡ none → Propagated ss₀ n₀ (record { slots = set ss j (record { kept = some t; status = fine; changes = (get_or ss j blank).changes }); next = at n })
    taken z =
        let v : Slot St = record { kept = some t; status = fine; changes = (get_or ss j blank).changes } in
        let c : left (get_or ss j blank).kept ≡ cap = ap left z in
        let k : total (set ss j v) ≤ total ss = total_set ss j v (omega arith) in
        let f : (get_or ss j blank).changes + left (get_or ss j blank).kept ≤ cap = (h.okay j).spent in
        let d : total ss ≤ total ss₀ = h.less in
        record {
          okay = set_ok_lem ss j v h.okay (record { form = ft; spent = omega arith });
          same = length-set ss j v ∙ h.same;
          less = omega arith;
          next = next_weaker (set ss j v) k h.next;
        }

    moved : (s k : St) → (get_or ss j blank).kept ≡ some s → join s t ≡ ok k → (d : Bool) → changed s k ≡ d → Propagated ss₀ n₀ (after_change St join join_blurs changed exec blocks b e j ss n k d)
    moved s k z g false c = h
    moved s k z g true c =
        let v : Slot St = record { kept = some k; status = fine; changes = suc (get_or ss j blank).changes } in
        let fs : Form s = subst KeptOk z (h.okay j).form in
        let r : rank s < rank k = join-rank s t k g fs ft c in
        let rk : rank k ≤ cap = rank-cap k in
        let m : left (get_or ss j blank).kept ≡ cap - rank s = ap left z in
        let q : total (set ss j v) < total ss = total_set_lt ss j v (some_in ss j s z) (omega arith) in
        let f : (get_or ss j blank).changes + left (get_or ss j blank).kept ≤ cap = (h.okay j).spent in
        let d : total ss ≤ total ss₀ = h.less in
        record {
          okay = set_ok_lem ss j v h.okay (record { form = join_form s t k g fs ft; spent = omega arith });
          same = length-set ss j v ∙ h.same;
          less = omega arith;
          next = inr (omega arith);
        }

    joined : (s : St) → (get_or ss j blank).kept ≡ some s → (a : Ans St) → join s t ≡ a → Propagated ss₀ n₀ (after_join St join join_blurs changed exec blocks b e j ss n s a)
    joined s z (ok k) g = moved s k z g (changed s k) refl
    joined s z (refuse r) g = record { okay = h.okay; same = h.same; less = h.less; next = tt }

    propagated_kept : (o : Option St) → (get_or ss j blank).kept ≡ o → Propagated ss₀ n₀ (to_kept St join join_blurs changed exec blocks b t e j ss n o)
    propagated_kept none z = taken z
    propagated_kept (some s) z = joined s z (join s t) refl

  propagated_next : (ss₀ : List (Slot St)) (n₀ : ℕ) (b : Block) (t : St) → Form t → (e : ℕ) (ss : List (Slot St)) (m : Next) → Propagated ss₀ n₀ (record { slots = ss; next = m })
      → Propagated ss₀ n₀ (to_successor St join join_blurs changed exec blocks b t e ss m)
  unfolding j
  propagated_next ss₀ n₀ b t ft e ss (at n) h = propagated_kept ss₀ n₀ b t ft e ss n h (get_or ss (position blocks e) blank).kept refl
  propagated_next ss₀ n₀ b t ft e ss (stopped r p) h = h

  propagated_all : (ss₀ : List (Slot St)) (n₀ : ℕ) (b : Block) (t : St) → Form t → (es : List ℕ) (a : Propagation St) → Propagated ss₀ n₀ a → Propagated ss₀ n₀ (propagate St join join_blurs changed exec blocks b t es a)
  unfolding propagate
  propagated_all ss₀ n₀ b t ft [] a h = h
  propagated_all ss₀ n₀ b t ft (e ∷ es) a h =
      propagated_all ss₀ n₀ b t ft es (to_successor St join join_blurs changed exec blocks b t e a.slots a.next) (propagated_next ss₀ n₀ b t ft e a.slots a.next h)

  -- ---- a step

  abbrev size : ℕ
  size = length blocks

  -- what the loop can still do: a pass over the blocks for each change that is left, and the rest of this pass
  abbrev pot_at : List (Slot St) → Next → ℕ
  pot_at ss (at i) = size * total ss + (size - i)
  pot_at ss (stopped n p) = size * total ss

  abbrev pot : Run St → ℕ
  pot r = pot_at r.slots r.next

  record Progress (v : ℕ) (p : ℕ) (r : Run St) : Type 0 where
    okay : AllOk r.slots
    falls : pot r < p
    seen : visits r ≤ suc v

  mark_ok : (ss : List (Slot St)) (i : ℕ) (x : Status) → AllOk ss → AllOk (mark St join join_blurs changed exec blocks ss i x)
  mark_ok ss i x a = set_ok_lem ss i (record { kept = (get_or ss i blank).kept; status = x; changes = (get_or ss i blank).changes }) a (record { form = (a i).form; spent = (a i).spent })

  mark_less : (ss : List (Slot St)) (i : ℕ) (x : Status) → total (mark St join join_blurs changed exec blocks ss i x) ≤ total ss
  mark_less ss i x = total_set ss i (record { kept = (get_or ss i blank).kept; status = x; changes = (get_or ss i blank).changes }) (le_refl (left (get_or ss i blank).kept))

  module _ (r : Run St) (i : ℕ) (a : AllOk r.slots) (l : i < size) where
    p₀ : ℕ
    p₀ = size * total r.slots + (size - i)

    falls_on : (ss : List (Slot St)) → total ss ≤ total r.slots → size * total ss + (size - suc i) < p₀
    unfolding p₀
    falls_on ss h = let k : size * total ss ≤ size * total r.slots = mul-le-mul_left size h in omega arith

    falls_stop : (ss : List (Slot St)) → total ss ≤ total r.slots → size * total ss < p₀
    unfolding p₀
    falls_stop ss h = let k : size * total ss ≤ size * total r.slots = mul-le-mul_left size h in omega arith

    falls_back : (ss : List (Slot St)) (n : ℕ) → total ss < total r.slots → size * total ss + (size - n) < p₀
    unfolding p₀
    falls_back ss n h = let k : size * suc (total ss) ≤ size * total r.slots = mul-le-mul_left size h in omega arith

    falls_next : (ss : List (Slot St)) (m : Next) → total ss ≤ total r.slots → NextFrom r.slots (suc i) ss m → pot_at ss m < p₀
    falls_next ss (at n) h (inl e) = subst (λ (k : ℕ). size * total ss + (size - k) < p₀) (sym e) (falls_on ss h)
    falls_next ss (at n) h (inr k) = falls_back ss n k
    falls_next ss (stopped c o) h k = falls_stop ss h

    ran : (x : Result St) (s : St) → Form s → exec i s ≡ x → Progress (visits r) p₀ (after_block St join join_blurs changed exec blocks r i x)
    ran (ended k t) s fs e =
        let b : Block = get_or blocks i no_block in
        let z : Propagation St = propagate St join join_blurs changed exec blocks b t b.successors (record { slots = mark St join join_blurs changed exec blocks r.slots i fine; next = at (suc i) }) in
        let h : Propagated r.slots (suc i) z =
        propagated_all r.slots (suc i) b t (exec-form i k s t e fs) b.successors (record { slots = mark St join join_blurs changed exec blocks r.slots i fine; next = at (suc i) })
        (record { okay = mark_ok r.slots i fine a; same = length-set r.slots i (record { kept = (get_or r.slots i blank).kept; status = fine; changes = (get_or r.slots i blank).changes }); less = mark_less r.slots i fine; next = inl refl }) in
        record { okay = h.okay; falls = falls_next z.slots z.next h.less h.next; seen = le_refl (suc (visits r)) }
    ran (returned k) s fs e =
        record { okay = mark_ok r.slots i fine a; falls = falls_on (mark St join join_blurs changed exec blocks r.slots i fine) (mark_less r.slots i fine); seen = le_refl (suc (visits r)) }
    ran (violated k c o p) s fs e =
        record { okay = mark_ok r.slots i (failed c o p) a; falls = falls_on (mark St join join_blurs changed exec blocks r.slots i (failed c o p)) (mark_less r.slots i (failed c o p)); seen = le_refl (suc (visits r)) }
    ran (refused n p) s fs e = record { okay = a; falls = falls_stop r.slots (le_refl (total r.slots)); seen = le_refl (suc (visits r)) }

    visited : (o : Option St) → (get_or r.slots i blank).kept ≡ o → Progress (visits r) p₀ (visit_block St join join_blurs changed exec blocks r i o)
    visited none e = record { okay = a; falls = falls_on r.slots (le_refl (total r.slots)); seen = omega arith }
    visited (some s) e = ran (exec i s) s (subst KeptOk e (a i).form) refl

  lt_size : (i : ℕ) → ltb i size ≡ true → i < size
  lt_size i e = leb_le e

  step_at : (r : Run St) (m : Next) → r.next ≡ m → AllOk r.slots → ended_at St join join_blurs changed exec blocks m ≡ false → Progress (visits r) (pot_at r.slots m) (turn_at St join join_blurs changed exec blocks r m)
  unfolding p₀
  step_at r (at i) q a e =
      let t : ltb i size ≡ true = not_no (ltb i size) e in
      subst (λ (b : Bool). Progress (visits r) (size * total r.slots + (size - i)) (cond b (visit_block St join join_blurs changed exec blocks r i (get_or r.slots i blank).kept) r)) (sym t)
      (visited r i a (lt_size i t) (get_or r.slots i blank).kept refl)
    where
      not_no : (b : Bool) → not b ≡ false → b ≡ true
      not_no true h = refl
      not_no false h = absurd (true≢false h)
  step_at r (stopped n p) q a e = absurd (true≢false e)

  step_progress : (r : Run St) → AllOk r.slots → has_ended St join join_blurs changed exec blocks r ≡ false → Progress (visits r) (pot r) (turn St join join_blurs changed exec blocks r)
  unfolding turn
  step_progress r a e = step_at r r.next refl a e

  -- a run that has ended stays as it is
  still_at : (r : Run St) (m : Next) → ended_at St join join_blurs changed exec blocks m ≡ true → turn_at St join join_blurs changed exec blocks r m ≡ r
  still_at r (at i) e =
      let n : ltb i size ≡ false = not_true {a = ltb i size} e in
      ap (λ (b : Bool). cond b (visit_block St join join_blurs changed exec blocks r i (get_or r.slots i blank).kept) r) n
  still_at r (stopped n p) e = refl

  step_still : (r : Run St) → has_ended St join join_blurs changed exec blocks r ≡ true → turn St join join_blurs changed exec blocks r ≡ r
  unfolding turn
  step_still r e = still_at r r.next e

  steps_still : (f : ℕ) (r : Run St) → has_ended St join join_blurs changed exec blocks r ≡ true → turns St join join_blurs changed exec blocks f r ≡ r
  unfolding turns
  steps_still zero r e = refl
  steps_still (suc f) r e = ap (turns St join join_blurs changed exec blocks f) (step_still r e) ∙ steps_still f r e

  -- ---- a run

  record Bounded (v : ℕ) (r : Run St) : Type 0 where
    okay : AllOk r.slots
    sum : visits r + pot r ≤ v

  steps_bounded : (f : ℕ) (r : Run St) (v : ℕ) → Bounded v r → Bounded v (turns St join join_blurs changed exec blocks f r)
  unfolding turns
  steps_bounded zero r v b = b
  steps_bounded (suc f) r v b =
      decide (has_ended St join join_blurs changed exec blocks r)
      (λ e. subst (λ (q : Run St). Bounded v (turns St join join_blurs changed exec blocks f q)) (sym (step_still r e)) (steps_bounded f r v b))
      (λ e. let p : Progress (visits r) (pot r) (turn St join join_blurs changed exec blocks r) = step_progress r b.okay e in
      let h1 : pot (turn St join join_blurs changed exec blocks r) < pot r = p.falls in
      let h2 : visits (turn St join join_blurs changed exec blocks r) ≤ suc (visits r) = p.seen in
      let h3 : visits r + pot r ≤ v = b.sum in
      steps_bounded f (turn St join join_blurs changed exec blocks r) v (record { okay = p.okay; sum = omega arith }))

  ended_zero : (ss : List (Slot St)) (m : Next) → pot_at ss m ≡ 0 → ended_at St join join_blurs changed exec blocks m ≡ true
  ended_zero ss (at i) h = decide (ltb i size) (λ e. let l : i < size = lt_size i e in absurd (omega arith)) (λ e. ap not e)
  ended_zero ss (stopped n p) h = refl

  -- with a budget that is at least the potential, the run ends by itself
  steps_end : (f : ℕ) (r : Run St) → AllOk r.slots → pot r ≤ f → has_ended St join join_blurs changed exec blocks (turns St join join_blurs changed exec blocks f r) ≡ true
  unfolding turns
  steps_end zero r a h = ended_zero r.slots r.next (omega arith)
  steps_end (suc f) r a h =
      decide (has_ended St join join_blurs changed exec blocks r)
      (λ e. ap (λ (q : Run St). has_ended St join join_blurs changed exec blocks (turns St join join_blurs changed exec blocks f q)) (step_still r e)
      ∙ ap (λ (q : Run St). has_ended St join join_blurs changed exec blocks q) (steps_still f r e) ∙ e)
      (λ e. let p : Progress (visits r) (pot r) (turn St join join_blurs changed exec blocks r) = step_progress r a e in
      let h1 : pot (turn St join join_blurs changed exec blocks r) < pot r = p.falls in
      steps_end f (turn St join join_blurs changed exec blocks r) p.okay (omega arith))

  steps_add : (f g : ℕ) (r : Run St) → turns St join join_blurs changed exec blocks (f + g) r ≡ turns St join join_blurs changed exec blocks g (turns St join join_blurs changed exec blocks f r)
  unfolding turns
  steps_add zero g r = ap (λ (k : ℕ). turns St join join_blurs changed exec blocks k r) (zero-add g)
  steps_add (suc f) g r = ap (λ (k : ℕ). turns St join join_blurs changed exec blocks k r) (suc-add f g) ∙ steps_add f g (turn St join join_blurs changed exec blocks r)

  -- ---- the run from the start

  blanks_ok : (bs : List Block) → AllOk (map (λ c. blank) bs)
  blanks_ok [] k = blank_ok
  blanks_ok (c ∷ cs) zero = blank_ok
  blanks_ok (c ∷ cs) (suc k) = blanks_ok cs k

  start_ok : (bs : List Block) (s : St) → Form s → AllOk (start_slots St join join_blurs changed exec blocks bs s)
  unfolding start_slots
  start_ok [] s f i = blank_ok
  start_ok (b ∷ bs) s f zero = record { form = f; spent = omega arith }
  start_ok (b ∷ bs) s f (suc i) = blanks_ok bs i

  total_le : (ss : List (Slot St)) → total ss ≤ length ss * cap
  unfolding total
  total_le [] = zero-le
  total_le (x ∷ xs) =
      let a : total xs ≤ length xs * cap = total_le xs in
      let b : left x.kept ≤ cap = left_le x.kept in
      omega arith

  length_start : (bs : List Block) (s : St) → length (start_slots St join join_blurs changed exec blocks bs s) ≡ length bs
  unfolding start_slots
  length_start [] s = refl
  length_start (b ∷ bs) s = ap suc (length-map bs (λ c. blank))

  unfoldable most : ℕ
  most = passes size cap

  start : St → Run St
  unfolding start_slots
  start s = record { slots = start_slots St join join_blurs changed exec blocks blocks s; next = at 0; trail = []; blurs = 0 }

  start_pot : (s : St) → pot (start s) ≤ most
  unfolding start most
  start_pot s =
      let ss : List (Slot St) = start_slots St join join_blurs changed exec blocks blocks s in
      let a : total ss ≤ length ss * cap = total_le ss in
      let b : length ss * cap ≡ size * cap = ap (λ (n : ℕ). n * cap) (length_start blocks s) in
      let d : size * total ss ≤ size * (size * cap) = mul-le-mul_left size (le_of_both (total ss) (length ss * cap) (size * cap) a b) in
      omega arith
    where
      le_of_both : (x y z : ℕ) → x ≤ y → y ≡ z → x ≤ z
      le_of_both x y z p q = omega arith

  module _ (s : St) (fs : Form s) where
    first_pot : pot (start s) ≤ most
    first_pot = start_pot s

    bounded : (f : ℕ) → Bounded most (turns St join join_blurs changed exec blocks f (start s))
    unfolding start
    bounded f = steps_bounded f (start s) most (record { okay = start_ok blocks s fs; sum = omega (arith, first_pot) })

    run_ends : (f : ℕ) → most ≤ f → has_ended St join join_blurs changed exec blocks (turns St join join_blurs changed exec blocks f (start s)) ≡ true
    unfolding start
    run_ends f h = steps_end f (start s) (start_ok blocks s fs) (omega (arith, first_pot, h))

    run_same : (f : ℕ) → most ≤ f → turns St join join_blurs changed exec blocks f (start s) ≡ turns St join join_blurs changed exec blocks most (start s)
    run_same f h =
        ap (λ (n : ℕ). turns St join join_blurs changed exec blocks n (start s)) (sym (add-sub_of_le h))
        ∙ steps_add most (f - most) (start s)
        ∙ steps_still (f - most) (turns St join join_blurs changed exec blocks most (start s)) (run_ends most (le_refl most))

    run_settled : (f : ℕ) → has_ended St join join_blurs changed exec blocks (turns St join join_blurs changed exec blocks f (start s)) ≡ true → turns St join join_blurs changed exec blocks f (start s) ≡ turns St join join_blurs changed exec blocks most (start s)
    run_settled f e = sym (steps_still most (turns St join join_blurs changed exec blocks f (start s)) e) ∙ sym (steps_add f most (start s)) ∙ run_same (f + most) (omega arith)

    pub bounds : Bounds St join join_blurs changed exec blocks Form cap s
    unfolding run start most
    bounds = record {
      few_visits = λ f. omega (arith, (bounded f).sum);
      few_changes = λ f j. omega (arith, ((bounded f).okay j).spent);
      forms = λ f j k e. subst KeptOk e ((bounded f).okay j).form;
      ends = run_ends;
      same = run_same;
      settled = run_settled;
    }
