-- Each step keeps the invariant of a running block, and is never refused with 8, 9, 16 or 23.
use Prim.Native.Nat.{ℕ, ◌+◌, zero, suc, ◌<◌, ◌≤◌, zero-le}
use native.Mathlib.Omega.{arith}
use Rattle.std.specs.Prelude.{Bool, true, false, ◌≡◌, ltb, eqb, set}
use Rattle.std.proofs.Common.{true≢false, ap, sym, ◌∙◌, length-append, length-set}
use Rattle.std.proofs.lemmas.Bool.{false≢true}
use mathlib.Core.List.{List, [], ◌∷◌, ◌++◌}
use Rattle.std.proofs.Math.Option.{some}
use Rattle.std.proofs.Math.Path.{refl, subst}
use Rattle.std.proofs.Math.ListN.{length, get_or, get_or-eq_default}
use Rattle.meaning.specs.Answers.{ordinary, Outcome, done, refused, then}
use Rattle.meaning.specs.Labels.{local_label}
use Rattle.meaning.specs.BorrowGraph.{is_mutable, borrows, borrows_mutably}
use Rattle.meaning.specs.AbstractState.{Local, absent, value, ref, Operand, non_ref, reference, count1, Token}
use Rattle.meaning.specs.EntryPoints.{local_names, operand_names, local_of, Running, Answer, with_local, add_copy, release_value, copy_of, copy_loc, move_of, move_loc, overwrite, st_loc, freeze_ref, comparison, read_ref, write_ref, borrow_field, borrow_global, move_from, vector_op, vector_element_borrow, call, ret}
use Rattle.meaning.specs.Steps.{Machine, Instr, Pop, CopyLoc, MoveLoc, StLoc, FreezeRef, Compare, ReadRef, WriteRef, BorrowLoc, BorrowField, BorrowGlobal, MoveFrom, Call, Ret, Values, MoveTo, VectorOp, BorrowElement, pop, pop_ref, pop_value, pop_values, pop_many, push, pushed, push_all, push_new, unchanged, step_on, step, is_ret}
use Rattle.meaning.proofs.Laws.Base.{decide, leb_le, leb_gt, eqb_self}
use Rattle.meaning.proofs.Laws.Own.{times, count_yes, owns_room, times_append}
use Rattle.meaning.specs.Laws.Promised.{within_frame}
use Rattle.meaning.proofs.Laws.Running.{Keeps, Meets, met, broke, barred, meets_done, meets_refused, meets_then, meets_fails, meets_needs, keeps_less, keeps_as, Uses, known_keeps, known_root, borrow_keeps, strong_keeps, release_keeps, Made, value_for_keeps, release_value_keeps, freeze_ref_keeps, comparison_keeps, read_ref_keeps, write_ref_keeps, borrow_loc_keeps, borrow_field_keeps, borrow_global_keeps, move_from_keeps, vector_op_keeps, element_keeps, call_keeps, ret_meets}
use Rattle.meaning.proofs.Laws.State.{absent≢ref}

-- ---- names in locals

local_cons : (x : Local) (xs : List Local) (n : ℕ) → times n (local_names (x ∷ xs)) ≡ times n (local_names (x ∷ [])) + times n (local_names xs)
local_cons absent xs n = omega arith
local_cons value xs n = omega arith
local_cons (ref k) xs n = omega arith

operand_cons : (v : Operand) (vs : List Operand) (n : ℕ) → times n (operand_names (v ∷ vs)) ≡ times n (operand_names (v ∷ [])) + times n (operand_names vs)
operand_cons non_ref vs n = omega arith
operand_cons (reference k) vs n = omega arith

stored : (v : Operand) (n : ℕ) → times n (local_names (local_of v ∷ [])) ≡ times n (operand_names (v ∷ []))
stored non_ref n = refl
stored (reference k) n = refl

set_times : (xs : List Local) (i : ℕ) (y : Local) (n : ℕ) → i < length xs → times n (local_names (set xs i y)) + times n (local_names (get_or xs i absent ∷ [])) ≡ times n (local_names xs) + times n (local_names (y ∷ []))
set_times [] i y n h = absurd (omega arith)
set_times (x ∷ xs) zero y n h =
    let a : times n (local_names (x ∷ xs)) ≡ times n (local_names (x ∷ [])) + times n (local_names xs) = local_cons x xs n in
    let b : times n (local_names (y ∷ xs)) ≡ times n (local_names (y ∷ [])) + times n (local_names xs) = local_cons y xs n in
    omega arith
set_times (x ∷ xs) (suc i) y n h =
    let a : times n (local_names (x ∷ xs)) ≡ times n (local_names (x ∷ [])) + times n (local_names xs) = local_cons x xs n in
    let b : times n (local_names (x ∷ set xs i y)) ≡ times n (local_names (x ∷ [])) + times n (local_names (set xs i y)) = local_cons x (set xs i y) n in
    let r : times n (local_names (set xs i y)) + times n (local_names (get_or xs i absent ∷ [])) ≡ times n (local_names xs) + times n (local_names (y ∷ [])) = set_times xs i y n (omega arith) in
    omega arith

pub in_range : (xs : List Local) (i : ℕ) → (get_or xs i absent ≡ absent → ⊥) → i < length xs
in_range xs i h = decide (ltb i (length xs)) (λ e. leb_le e)
    (λ e. let k : length xs < suc i = leb_gt {m = suc i} {n = length xs} e in absurd (h (get_or-eq_default xs absent {n = i} (omega arith))))

pub local_use : (xs : List Local) (i n : ℕ) → get_or xs i absent ≡ ref n → 1 ≤ times n (local_names xs)
local_use [] i n h = absurd (absent≢ref h)
local_use (x ∷ xs) zero n h =
    let a : times n (local_names (x ∷ xs)) ≡ times n (local_names (x ∷ [])) + times n (local_names xs) = local_cons x xs n in
    let b : times n (local_names (x ∷ [])) ≡ times n (n ∷ []) = ap (λ (z : Local). times n (local_names (z ∷ []))) h in
    let c : count1 (eqb n n) ≡ 1 = count_yes (eqb_self n) in
    omega arith
local_use (x ∷ xs) (suc i) n h =
    let a : times n (local_names (x ∷ xs)) ≡ times n (local_names (x ∷ [])) + times n (local_names xs) = local_cons x xs n in
    let b : 1 ≤ times n (local_names xs) = local_use xs i n h in
    omega arith

pub names_le : (vs : List Operand) → length (operand_names vs) ≤ length vs
names_le [] = zero-le
names_le (non_ref ∷ vs) = let h : length (operand_names vs) ≤ length vs = names_le vs in omega arith
names_le (reference n ∷ vs) = let h : length (operand_names vs) ≤ length vs = names_le vs in omega arith

pub locals_le : (xs : List Local) → length (local_names xs) ≤ length xs
locals_le [] = zero-le
locals_le (absent ∷ xs) = let h : length (local_names xs) ≤ length xs = locals_le xs in omega arith
locals_le (value ∷ xs) = let h : length (local_names xs) ≤ length xs = locals_le xs in omega arith
locals_le (ref n ∷ xs) = let h : length (local_names xs) ≤ length xs = locals_le xs in omega arith

-- ---- the invariant

-- vs: the operands on the stack or in hand; the names in use are theirs and those of the locals
pub record Good (l : ℕ) (m : ℕ) (vs : List Operand) (r : Running) : Type 0 where
  pub count : length r.locals ≡ l
  pub keeps : Keeps l r.locals (operand_names vs ++ local_names r.locals) m r

pub record Fine (l : ℕ) (m : ℕ) (h : Machine) : Type 0 where
  pub good : Good l m h.stack h.state
  pub few : length h.stack ≤ 16

module _ (l : ℕ) (small : l ≤ 16) where
  pub good_less : (m k : ℕ) (vs : List Operand) (r : Running) → Good l m vs r → k ≤ m → Good l k vs r
  good_less m k vs r h b = record { count = h.count; keeps = keeps_less l r.locals (operand_names vs ++ local_names r.locals) m k r h.keeps b }

  good_as : (vs ws : List Operand) (m : ℕ) (r : Running) → Good l m vs r → ((n : ℕ) → times n (operand_names ws) ≡ times n (operand_names vs)) → Good l m ws r
  good_as vs ws m r h e = record {
    count = h.count;
    keeps = keeps_as l r.locals (operand_names vs ++ local_names r.locals) (operand_names ws ++ local_names r.locals) m r h.keeps
        (λ n. times_append n (operand_names ws) (local_names r.locals) ∙ ap (λ (k : ℕ). k + times n (local_names r.locals)) (e n) ∙ sym (times_append n (operand_names vs) (local_names r.locals)));
  }

  -- the locals are as they were
  good_from : (ls : List Local) (ws : List Operand) (m : ℕ) (s : Running) → length ls ≡ l → Keeps l ls (operand_names ws ++ local_names ls) m s → Good l m ws s
  good_from ls ws m s c k =
      let e : ls ≡ s.locals = sym k.locals in
      record { count = ap length (sym e) ∙ c; keeps = subst (λ (zs : List Local). Keeps l zs (operand_names ws ++ local_names zs) m s) e k }

  -- a local changed
  good_local : (vs ws : List Operand) (i : ℕ) (y : Local) (m : ℕ) (r : Running) → Good l m vs r
      → ((n : ℕ) → times n (operand_names ws) + times n (local_names (set r.locals i y)) ≡ times n (operand_names vs) + times n (local_names r.locals)) → Good l m ws (with_local r i y)
  good_local vs ws i y m r h e =
      let xs : List ℕ = operand_names vs ++ local_names r.locals in
      let ys : List ℕ = operand_names ws ++ local_names (set r.locals i y) in
      let k : Keeps l r.locals ys m r = keeps_as l r.locals xs ys m r h.keeps
      (λ n. times_append n (operand_names ws) (local_names (set r.locals i y)) ∙ e n ∙ sym (times_append n (operand_names vs) (local_names r.locals))) in
      record { count = length-set r.locals i y ∙ h.count; keeps = record { root = k.root; locals = refl; own = k.own } }

  room : (ls : List Local) (vs : List Operand) → length ls ≡ l → length (operand_names vs ++ local_names ls) ≤ length vs + 16
  room ls vs c =
      let a : length (operand_names vs ++ local_names ls) ≡ length (operand_names vs) + length (local_names ls) = length-append (operand_names vs) (local_names ls) in
      let p : length (operand_names vs) ≤ length vs = names_le vs in
      let q : length (local_names ls) ≤ length ls = locals_le ls in
      omega arith

  -- ---- locals

  abbrev Result : List Operand → ℕ → Answer → Type 0
  Result vs m a = Good l m (a.operand ∷ vs) a.state

  made : (ls : List Local) (vs : List Operand) (m : ℕ) (a : Answer) → length ls ≡ l → Made l ls (operand_names vs ++ local_names ls) m a → Result vs m a
  made ls vs m a c k = go a.operand k
    where
      go : (v : Operand) → Keeps l ls (operand_names (v ∷ []) ++ (operand_names vs ++ local_names ls)) m a.state → Good l m (v ∷ vs) a.state
      go non_ref h = good_from ls (non_ref ∷ vs) m a.state c h
      go (reference n) h = good_from ls (reference n ∷ vs) m a.state c h

  copy_loc_good : (i : ℕ) (vs : List Operand) (m : ℕ) (r : Running) → Good l (suc m) vs r → length vs ≤ 30 → Meets (Result vs m) (copy_loc i r)
  unfolding copy_loc add_copy
  copy_loc_good i vs m r h b = go (get_or r.locals i absent) refl
    where
      xs : List ℕ
      xs = operand_names vs ++ local_names r.locals

      go : (x : Local) → get_or r.locals i absent ≡ x → Meets (Result vs m) (copy_of r i x)
      go absent e = barred refl
      go value e =
          known_root l r.locals xs (suc m) r h.keeps
          (meets_fails r (borrows_mutably r.graph r.root (some (local_label i))) 101
          (met (good_as vs (non_ref ∷ vs) m r (good_less (suc m) m vs r h (omega arith)) (λ n. refl))))
      go (ref n) e =
          let u : 1 ≤ times n (local_names r.locals) = local_use r.locals i n e in
          let a : times n xs ≡ times n (operand_names vs) + times n (local_names r.locals) = times_append n (operand_names vs) (local_names r.locals) in
          let w : Uses l r.locals n xs = omega arith in
          let d : length xs ≤ length vs + 16 = room r.locals vs h.count in
          known_keeps l r.locals n xs (suc m) r h.keeps w
          (weaken (borrow_keeps l r.locals (is_mutable r.graph n) (add_copy n r.next) xs m r h.keeps (omega arith) (λ s f. strong_keeps l r.locals n [] r.next xs m s f w)))
        where
          weaken : {a : Outcome Answer} → Meets (Made l r.locals xs m) a → Meets (Result vs m) a
          weaken (met {a} p) = met (made r.locals vs m a h.count p)
          weaken broke = broke
          weaken (barred z) = barred z

  move_loc_good : (i : ℕ) (vs : List Operand) (m : ℕ) (r : Running) → Good l m vs r → Meets (Result vs m) (move_loc i r)
  unfolding move_loc
  move_loc_good i vs m r h = go (get_or r.locals i absent) refl
    where
      after : (x : Local) → get_or r.locals i absent ≡ x → (x ≡ absent → ⊥) → (n : ℕ) → times n (local_names (set r.locals i absent)) + times n (local_names (x ∷ [])) ≡ times n (local_names r.locals) + 0
      after x e d n = subst (λ (z : Local). times n (local_names (set r.locals i absent)) + times n (local_names (z ∷ [])) ≡ times n (local_names r.locals) + 0) e
          (set_times r.locals i absent n (in_range r.locals i (λ q. d (sym e ∙ q))))

      go : (x : Local) → get_or r.locals i absent ≡ x → Meets (Result vs m) (move_of r i x)
      go absent e = barred refl
      go value e =
          known_root l r.locals (operand_names vs ++ local_names r.locals) m r h.keeps
          (meets_fails r (borrows r.root (some (local_label i))) 102
          (met (good_local vs (non_ref ∷ vs) i absent m r h (λ n. let a : times n (local_names (set r.locals i absent)) + 0 ≡ times n (local_names r.locals) + 0 = after value e value≢absent n in omega arith))))
        where
          value≢absent : value ≡ absent → ⊥
          value≢absent q = subst (λ (z : Local). not_absent z) q tt
            where
              not_absent : Local → Type 0
              not_absent absent = ⊥
              not_absent value = Unit {0}
              not_absent (ref n) = Unit {0}
      go (ref k) e =
          met (good_local vs (reference k ∷ vs) i absent m r h
          (λ n. let a : times n (local_names (set r.locals i absent)) + times n (k ∷ []) ≡ times n (local_names r.locals) + 0 = after (ref k) e (λ q. absent≢ref (sym q)) n in omega arith))

  st_loc_good : (i : ℕ) (v : Operand) (vs : List Operand) (m : ℕ) (r : Running) → i < l → Good l m (v ∷ vs) r → Meets (Good l m vs) (st_loc i v r)
  unfolding st_loc
  st_loc_good i v vs m r b h = go (get_or r.locals i absent) refl
    where
      s : Running
      s = with_local r i (local_of v)

      law : (x : Local) → get_or r.locals i absent ≡ x → (n : ℕ) → times n (local_names (set r.locals i (local_of v))) + times n (local_names (x ∷ [])) ≡ times n (local_names r.locals) + times n (operand_names (v ∷ []))
      law x e n =
          subst (λ (z : Local). times n (local_names (set r.locals i (local_of v))) + times n (local_names (z ∷ [])) ≡ times n (local_names r.locals) + times n (operand_names (v ∷ []))) e
          (set_times r.locals i (local_of v) n (let c : length r.locals ≡ l = h.count in omega arith) ∙ ap (λ (k : ℕ). times n (local_names r.locals) + k) (stored v n))

      plain : (x : Local) → get_or r.locals i absent ≡ x → ((n : ℕ) → times n (local_names (x ∷ [])) ≡ 0) → Good l m vs s
      plain x e z = good_local (v ∷ vs) vs i (local_of v) m r h
          (λ n. let a : times n (local_names (set r.locals i (local_of v))) + times n (local_names (x ∷ [])) ≡ times n (local_names r.locals) + times n (operand_names (v ∷ [])) = law x e n in
          let c : times n (operand_names (v ∷ vs)) ≡ times n (operand_names (v ∷ [])) + times n (operand_names vs) = operand_cons v vs n in
          let d : times n (local_names (x ∷ [])) ≡ 0 = z n in
          omega arith)

      go : (x : Local) → get_or r.locals i absent ≡ x → Meets (Good l m vs) (overwrite i s x)
      go absent e = met (plain absent e (λ n. refl))
      go value e =
          let k : Good l m vs s = plain value e (λ n. refl) in
          known_root l s.locals (operand_names vs ++ local_names s.locals) m s k.keeps (meets_fails s (borrows s.root (some (local_label i))) 103 (met k))
      go (ref j) e =
          let k : Good l m (reference j ∷ vs) s = good_local (v ∷ vs) (reference j ∷ vs) i (local_of v) m r h
          (λ n. let a : times n (local_names (set r.locals i (local_of v))) + times n (j ∷ []) ≡ times n (local_names r.locals) + times n (operand_names (v ∷ [])) = law (ref j) e n in
          let c : times n (operand_names (v ∷ vs)) ≡ times n (operand_names (v ∷ [])) + times n (operand_names vs) = operand_cons v vs n in
          omega arith) in
          weaken k.count (release_keeps l s.locals j (operand_names vs ++ local_names s.locals) m s k.keeps)
        where
          weaken : {ls : List Local} {a : Outcome Running} → length ls ≡ l → Meets (Keeps l ls (operand_names vs ++ local_names ls) m) a → Meets (Good l m vs) a
          weaken {ls} c (met {a} p) = met (good_from ls vs m a c p)
          weaken c broke = broke
          weaken c (barred z) = barred z

  -- ---- the stack

  push_fine : (v : Operand) (vs : List Operand) (m : ℕ) (r : Running) → Good l m (v ∷ vs) r → Meets (Fine l m) (push vs v r)
  unfolding push
  push_fine v vs m r h = meets_needs (ltb (length vs) 16) 20 refl (λ e. met (record { good = h; few = let k : length vs < 16 = leb_le e in omega arith }))

  pushed_fine : (vs : List Operand) (m : ℕ) {a : Outcome Answer} → Meets (Result vs m) a → Meets (Fine l m) (pushed vs a)
  pushed_fine vs m p = meets_then p (λ x. push vs x.operand x.state) (λ x h. push_fine x.operand vs m x.state h)

  made_fine : (ls : List Local) (vs : List Operand) (m : ℕ) {a : Outcome Answer} → length ls ≡ l → Meets (Made l ls (operand_names vs ++ local_names ls) m) a → Meets (Fine l m) (pushed vs a)
  made_fine ls vs m c p = meets_then p (λ x. push vs x.operand x.state) (λ x h. push_fine x.operand vs m x.state (made ls vs m x c h))

  same_fine : (ls : List Local) (vs : List Operand) (m : ℕ) {a : Outcome Running} → length ls ≡ l → length vs ≤ 16 → Meets (Keeps l ls (operand_names vs ++ local_names ls) m) a → Meets (Fine l m) (unchanged vs a)
  same_fine ls vs m c b p = meets_then p (λ s. done (record { state = s; stack = vs })) (λ s h. met (record { good = good_from ls vs m s c h; few = b }))

  push_three : (us : List Operand) (j : ℕ) (v : Operand) (s : Running) → Good l j (v ∷ us) s → Meets (λ w. (Good l j w.stack w.state) × (length w.stack ≤ 16) × (length w.stack ≡ suc (length us))) (push us v s)
  unfolding push
  push_three us j v s q = meets_needs (ltb (length us) 16) 20 refl (λ e. met (q, (let k : length us < 16 = leb_le e in omega arith), refl))

  push_new_fine : (n : ℕ) (t : Token) (vs : List Operand) (m k : ℕ) (r : Running) → Good l k vs r → length vs ≤ 16 → m + 17 ≤ k + length vs → Meets (Fine l m) (push_new n t vs r)
  unfolding push_new
  push_new_fine zero t vs m k r h b c = met (record { good = good_less k m vs r h (omega arith); few = b })
  push_new_fine (suc n) t vs m zero r h b c = absurd (omega arith)
  push_new_fine (suc n) t vs m (suc k) r h b c =
      let d : length (operand_names vs ++ local_names r.locals) ≤ length vs + 16 = room r.locals vs h.count in
      meets_then
      (meets_then (value_for_keeps l r.locals t (operand_names vs ++ local_names r.locals) k r h.keeps (omega arith)) (λ x. push vs x.operand x.state)
      (λ x p. push_three vs k x.operand x.state (made r.locals vs k x h.count p)))
      (λ w. push_new n t w.stack w.state)
      (λ w p. push_new_fine n t w.stack m k w.state p.0 p.1 (let e : length w.stack ≡ suc (length vs) = p.2 in omega arith))

  push_all_fine : (ls : List Local) (vs ws : List Operand) (m : ℕ) (r : Running) → length ls ≡ l → Keeps l ls (operand_names ws ++ (operand_names vs ++ local_names ls)) m r → length vs ≤ 16 → Meets (Fine l m) (push_all vs ws r)
  unfolding push_all push
  push_all_fine ls vs [] m r c h b = met (record { good = good_from ls vs m r c h; few = b })
  push_all_fine ls vs (w ∷ ws) m r c h b =
      meets_then {P = λ (x : Machine). (Keeps l ls (operand_names ws ++ (operand_names x.stack ++ local_names ls)) m x.state) × (length x.stack ≤ 16)}
      (meets_needs (ltb (length vs) 16) 20 refl (λ e. met
      (keeps_as l ls (operand_names (w ∷ ws) ++ (operand_names vs ++ local_names ls)) (operand_names ws ++ (operand_names (w ∷ vs) ++ local_names ls)) m r h turn, (let k : length vs < 16 = leb_le e in omega arith))))
      (λ x. push_all x.stack ws x.state) (λ x p. push_all_fine ls x.stack ws m x.state c p.0 p.1)
    where
      turn : (n : ℕ) → times n (operand_names ws ++ (operand_names (w ∷ vs) ++ local_names ls)) ≡ times n (operand_names (w ∷ ws) ++ (operand_names vs ++ local_names ls))
      turn n =
          let a : times n (operand_names ws ++ (operand_names (w ∷ vs) ++ local_names ls)) ≡ times n (operand_names ws) + times n (operand_names (w ∷ vs) ++ local_names ls) = times_append n (operand_names ws) (operand_names (w ∷ vs) ++ local_names ls) in
          let d : times n (operand_names (w ∷ vs) ++ local_names ls) ≡ times n (operand_names (w ∷ vs)) + times n (local_names ls) = times_append n (operand_names (w ∷ vs)) (local_names ls) in
          let e : times n (operand_names (w ∷ ws) ++ (operand_names vs ++ local_names ls)) ≡ times n (operand_names (w ∷ ws)) + times n (operand_names vs ++ local_names ls) = times_append n (operand_names (w ∷ ws)) (operand_names vs ++ local_names ls) in
          let f : times n (operand_names vs ++ local_names ls) ≡ times n (operand_names vs) + times n (local_names ls) = times_append n (operand_names vs) (local_names ls) in
          let g : times n (operand_names (w ∷ vs)) ≡ times n (operand_names (w ∷ [])) + times n (operand_names vs) = operand_cons w vs n in
          let j : times n (operand_names (w ∷ ws)) ≡ times n (operand_names (w ∷ [])) + times n (operand_names ws) = operand_cons w ws n in
          omega arith

  pop_values_meets : {A : Type 0} {Q : A → Type 0} (n : ℕ) (vs : List Operand) (k : List Operand → Outcome A)
      → ((ws : List Operand) → ((j : ℕ) → times j (operand_names ws) ≡ times j (operand_names vs)) → length ws ≤ length vs → Meets Q (k ws)) → Meets Q (pop_values n vs k)
  unfolding pop_values
  pop_values_meets zero vs k h = h vs (λ j. refl) (omega arith)
  pop_values_meets (suc n) [] k h = barred refl
  pop_values_meets (suc n) (non_ref ∷ vs) k h = pop_values_meets n vs k (λ ws e b. h ws e (omega arith))
  pop_values_meets (suc n) (reference i ∷ vs) k h = barred refl

  pop_many_meets : {A : Type 0} {Q : A → Type 0} (n : ℕ) (taken vs : List Operand) (k : List Operand → List Operand → Outcome A)
      → ((us ws : List Operand) → ((j : ℕ) → times j (operand_names us) + times j (operand_names ws) ≡ times j (operand_names taken) + times j (operand_names vs)) → length us + length ws ≡ length taken + length vs → Meets Q (k us ws))
      → Meets Q (pop_many n taken vs k)
  unfolding pop_many
  pop_many_meets zero taken vs k h = h taken vs (λ j. refl) refl
  pop_many_meets (suc n) taken [] k h = barred refl
  pop_many_meets (suc n) taken (v ∷ vs) k h =
      pop_many_meets n (v ∷ taken) vs k (λ us ws e b. h us ws
      (λ j. let a : times j (operand_names (v ∷ taken)) ≡ times j (operand_names (v ∷ [])) + times j (operand_names taken) = operand_cons v taken j in
      let c : times j (operand_names (v ∷ vs)) ≡ times j (operand_names (v ∷ [])) + times j (operand_names vs) = operand_cons v vs j in
      let d : times j (operand_names us) + times j (operand_names ws) ≡ times j (operand_names (v ∷ taken)) + times j (operand_names vs) = e j in
      omega arith) (omega arith))

  -- ---- the steps

  -- the operand on top, and the rest
  top : (v : Operand) (ws : List Operand) (m : ℕ) (r : Running) → Good l m (v ∷ ws) r → Keeps l r.locals (operand_names (v ∷ []) ++ (operand_names ws ++ local_names r.locals)) m r
  top non_ref ws m r h = h.keeps
  top (reference n) ws m r h = h.keeps

  step_pop : (vs : List Operand) (m : ℕ) (r : Running) → Good l m vs r → length vs ≤ 16 → Meets (Fine l m) (pop vs (λ v ws. unchanged ws (release_value v r)))
  step_pop [] m r h b = barred refl
  step_pop (v ∷ ws) m r h b = same_fine r.locals ws m h.count (omega arith) (release_value_keeps l r.locals v (operand_names ws ++ local_names r.locals) m r (top v ws m r h))

  step_st : (i : ℕ) (vs : List Operand) (m : ℕ) (r : Running) → i < l → Good l m vs r → length vs ≤ 16 → Meets (Fine l m) (pop vs (λ v ws. unchanged ws (st_loc i v r)))
  step_st i [] m r c h b = barred refl
  step_st i (v ∷ ws) m r c h b = meets_then (st_loc_good i v ws m r c h) (λ s. done (record { state = s; stack = ws })) (λ s q. met (record { good = q; few = omega arith }))

  -- the names below a popped one, and how many
  abbrev under : List Operand → Running → List ℕ
  under ws r = operand_names ws ++ local_names r.locals

  step_ref : (vs : List Operand) (m k : ℕ) (r : Running) (f : ℕ → Outcome Answer) → Good l k vs r → length vs ≤ 16
      → ((n : ℕ) (ws : List Operand) → Keeps l r.locals (n ∷ under ws r) k r → length (under ws r) ≤ 45 → Meets (Made l r.locals (under ws r) m) (f n))
      → Meets (Fine l m) (pop_ref vs (λ n ws. pushed ws (f n)))
  step_ref [] m k r f h b q = barred refl
  step_ref (non_ref ∷ ws) m k r f h b q = barred refl
  step_ref (reference n ∷ ws) m k r f h b q =
      let d : length (under ws r) ≤ length ws + 16 = room r.locals ws h.count in
      made_fine r.locals ws m h.count (q n ws h.keeps (omega arith))

  step_value : (vs : List Operand) (m k : ℕ) (r : Running) (a : Outcome Answer) → Good l k vs r → length vs ≤ 16
      → ((ws : List Operand) → Keeps l r.locals (under ws r) k r → length (under ws r) ≤ 46 → Meets (Made l r.locals (under ws r) m) a)
      → Meets (Fine l m) (pop_value vs (λ ws. pushed ws a))
  step_value [] m k r a h b q = barred refl
  step_value (reference n ∷ ws) m k r a h b q = barred refl
  step_value (non_ref ∷ ws) m k r a h b q =
      let d : length (under ws r) ≤ length ws + 16 = room r.locals ws h.count in
      made_fine r.locals ws m h.count (q ws h.keeps (omega arith))

  step_compare : (vs : List Operand) (m : ℕ) (r : Running) → Good l m vs r → Meets (Fine l m) (pop vs (λ v ws. pop ws (λ w us. pushed us (comparison v w r))))
  step_compare [] m r h = barred refl
  step_compare (v ∷ []) m r h = barred refl
  step_compare (v ∷ w ∷ us) m r h = made_fine r.locals us m h.count (comparison_keeps l r.locals v w (under us r) m r (two v w h))
    where
      two : (v w : Operand) → Good l m (v ∷ w ∷ us) r → Keeps l r.locals (operand_names (v ∷ []) ++ (operand_names (w ∷ []) ++ under us r)) m r
      two non_ref non_ref k = k.keeps
      two non_ref (reference n) k = k.keeps
      two (reference i) non_ref k = k.keeps
      two (reference i) (reference n) k = k.keeps

  step_write : (vs : List Operand) (m : ℕ) (r : Running) → Good l m vs r → length vs ≤ 16 → Meets (Fine l m) (pop_ref vs (λ n ws. pop_value ws (λ us. unchanged us (write_ref n r))))
  step_write [] m r h b = barred refl
  step_write (non_ref ∷ ws) m r h b = barred refl
  step_write (reference n ∷ []) m r h b = barred refl
  step_write (reference n ∷ reference i ∷ us) m r h b = barred refl
  step_write (reference n ∷ non_ref ∷ us) m r h b = same_fine r.locals us m h.count (omega arith) (write_ref_keeps l r.locals n (under us r) m r h.keeps)

  step_move_to : (vs : List Operand) (m : ℕ) (r : Running) → Good l m vs r → length vs ≤ 16 → Meets (Fine l m) (pop_value vs (λ ws. pop ws (λ v us. unchanged us (release_value v r))))
  step_move_to [] m r h b = barred refl
  step_move_to (reference n ∷ ws) m r h b = barred refl
  step_move_to (non_ref ∷ ws) m r h b = step_pop ws m r (good_as (non_ref ∷ ws) ws m r h (λ n. refl)) (omega arith)

  step_element : (c : Bool) (vs : List Operand) (m : ℕ) (r : Running) → Good l (suc m) vs r → length vs ≤ 16 → Meets (Fine l m) (pop_value vs (λ ws. pop ws (λ v us. pushed us (vector_element_borrow v c r))))
  step_element c [] m r h b = barred refl
  step_element c (reference n ∷ ws) m r h b = barred refl
  step_element c (non_ref ∷ []) m r h b = barred refl
  step_element c (non_ref ∷ v ∷ us) m r h b =
      let d : length (under us r) ≤ length us + 16 = room r.locals us h.count in
      made_fine r.locals us m h.count (element_keeps l r.locals v c (under us r) m r (top v us (suc m) r (good_as (non_ref ∷ v ∷ us) (v ∷ us) (suc m) r h (λ n. refl))) (omega arith))

  step_vector : (takes : ℕ) (c : Bool) (n : ℕ) (t : Token) (vs : List Operand) (m : ℕ) (r : Running) → Good l (m + 17) vs r → length vs ≤ 16
      → Meets (Fine l m) (pop_values takes vs (λ ws. pop ws (λ v us. then (vector_op v c r) (λ s. push_new n t us s))))
  step_vector takes c n t vs m r h b = pop_values_meets takes vs (λ ws. pop ws (λ v us. then (vector_op v c r) (λ s. push_new n t us s))) (λ ws e d. go ws (good_as vs ws (m + 17) r h e) (omega arith))
    where
      go : (ws : List Operand) → Good l (m + 17) ws r → length ws ≤ 16 → Meets (Fine l m) (pop ws (λ v us. then (vector_op v c r) (λ s. push_new n t us s)))
      go [] k d = barred refl
      go (v ∷ us) k d =
          meets_then (vector_op_keeps l r.locals v c (under us r) (m + 17) r (top v us (m + 17) r k)) (λ s. push_new n t us s)
          (λ s q. push_new_fine n t us m (m + 17) s (good_from r.locals us (m + 17) s k.count q) (omega arith) (omega arith))

  step_call : (n : ℕ) (acquired : List ℕ) (ts : List Token) (vs : List Operand) (m : ℕ) (r : Running) → length ts ≤ 8 → Good l (m + 17) vs r → length vs ≤ 16
      → Meets (Fine l m) (pop_many n [] vs (λ us ws. then (call us acquired ts r) (λ a. push_all ws a.operands a.state)))
  step_call n acquired ts vs m r c h b =
      pop_many_meets n [] vs (λ us ws. then (call us acquired ts r) (λ a. push_all ws a.operands a.state))
      (λ us ws e d.
      let o : Keeps l r.locals (operand_names us ++ under ws r) (length ts + m) r =
      keeps_as l r.locals (under vs r) (operand_names us ++ under ws r) (length ts + m) r (keeps_less l r.locals (under vs r) (m + 17) (length ts + m) r h.keeps (omega arith)) (turn us ws e) in
      let x : length (operand_names us ++ under ws r) ≡ length (operand_names us) + length (under ws r) = length-append (operand_names us) (under ws r) in
      let y : length (operand_names us) ≤ length us = names_le us in
      let z : length (under ws r) ≤ length ws + 16 = room r.locals ws h.count in
      meets_then (call_keeps l r.locals us acquired ts (under ws r) m r o (omega arith)) (λ a. push_all ws a.operands a.state)
      (λ a q. push_all_fine r.locals ws a.operands m a.state h.count q.keeps (omega arith)))
    where
      turn : (us ws : List Operand) → ((j : ℕ) → times j (operand_names us) + times j (operand_names ws) ≡ 0 + times j (operand_names vs)) → (j : ℕ) → times j (operand_names us ++ under ws r) ≡ times j (under vs r)
      turn us ws e j =
          let a : times j (operand_names us ++ under ws r) ≡ times j (operand_names us) + times j (under ws r) = times_append j (operand_names us) (under ws r) in
          let c : times j (under ws r) ≡ times j (operand_names ws) + times j (local_names r.locals) = times_append j (operand_names ws) (local_names r.locals) in
          let d : times j (under vs r) ≡ times j (operand_names vs) + times j (local_names r.locals) = times_append j (operand_names vs) (local_names r.locals) in
          let f : times j (operand_names us) + times j (operand_names ws) ≡ 0 + times j (operand_names vs) = e j in
          omega arith

  -- a step that is no return, of an instruction that fits
  pub step_fine : (returns : ℕ) (i : Instr) (vs : List Operand) (m : ℕ) (r : Running) → within_frame l i ≡ true → is_ret i ≡ false → Good l (m + 17) vs r → length vs ≤ 16 → Meets (Fine l m) (step_on returns i vs r)
  step_fine q i vs m r f n h b = go i f n
    where
      k₀ : Good l m vs r
      k₀ = good_less (m + 17) m vs r h (omega arith)

      k₁ : Good l (suc m) vs r
      k₁ = good_less (m + 17) (suc m) vs r h (omega arith)

      wide : length (under vs r) ≤ 46
      wide = let d : length (under vs r) ≤ length vs + 16 = room r.locals vs h.count in omega arith

      go : (i : Instr) → within_frame l i ≡ true → is_ret i ≡ false → Meets (Fine l m) (step_on q i vs r)
      go Pop f n = step_pop vs m r k₀ b
      go (CopyLoc i) f n = pushed_fine vs m (copy_loc_good i vs m r k₁ (omega arith))
      go (MoveLoc i) f n = pushed_fine vs m (move_loc_good i vs m r k₀)
      go (StLoc i) f n = step_st i vs m r (leb_le f) k₀ b
      go FreezeRef f n = step_ref vs m (suc m) r (λ j. freeze_ref j r) k₁ b (λ j ws p w. freeze_ref_keeps l r.locals j (under ws r) m r p w)
      go Compare f n = step_compare vs m r k₀
      go ReadRef f n = step_ref vs m m r (λ j. read_ref j r) k₀ b (λ j ws p w. read_ref_keeps l r.locals j (under ws r) m r p)
      go WriteRef f n = step_write vs m r k₀ b
      go (BorrowLoc i c) f n = made_fine r.locals vs m h.count (borrow_loc_keeps l r.locals c i (under vs r) m r k₁.keeps wide)
      go (BorrowField i c) f n = step_ref vs m (suc m) r (λ j. borrow_field c j i r) k₁ b (λ j ws p w. borrow_field_keeps l r.locals c j i (under ws r) m r p w)
      go (BorrowGlobal i c) f n = step_value vs m (suc m) r (borrow_global c i r) k₁ b (λ ws p w. borrow_global_keeps l r.locals c i (under ws r) m r p w)
      go (MoveFrom i) f n = step_value vs m m r (move_from i r) k₀ b (λ ws p w. move_from_keeps l r.locals i (under ws r) m r p)
      go (Call p «as» ts) f n = step_call p «as» ts vs m r (leb_le f) h b
      go Ret f n = absurd (true≢false n)
      go (Values p c t) f n = pop_values_meets p vs (λ ws. push_new c t ws r) (λ ws e d. push_new_fine c t ws m (m + 17) r (good_as vs ws (m + 17) r h e) (omega arith) (omega arith))
      go MoveTo f n = step_move_to vs m r k₀ b
      go (VectorOp p c j t) f n = step_vector p c j t vs m r h b
      go (BorrowElement c) f n = step_element c vs m r k₁ b

  -- a return: the numbers of its refusals
  pub step_ret : (returns : ℕ) (vs : List Operand) (m : ℕ) (r : Running) → Good l m vs r → Meets (λ w. Unit {0}) (step_on returns Ret vs r)
  step_ret q vs m r h =
      pop_many_meets q [] vs (λ us ws. unchanged ws (ret us r))
      (λ us ws e d. meets_then (ret_meets l r.locals us (operand_names ws) m r (keeps_as l r.locals (under vs r) (operand_names us ++ under ws r) m r h.keeps (turn us ws e))) (λ s. done (record { state = s; stack = ws })) (λ s u. met tt))
    where
      turn : (us ws : List Operand) → ((j : ℕ) → times j (operand_names us) + times j (operand_names ws) ≡ 0 + times j (operand_names vs)) → (j : ℕ) → times j (operand_names us ++ under ws r) ≡ times j (under vs r)
      turn us ws e j =
          let a : times j (operand_names us ++ under ws r) ≡ times j (operand_names us) + times j (under ws r) = times_append j (operand_names us) (under ws r) in
          let c : times j (under ws r) ≡ times j (operand_names ws) + times j (local_names r.locals) = times_append j (operand_names ws) (local_names r.locals) in
          let d : times j (under vs r) ≡ times j (operand_names vs) + times j (local_names r.locals) = times_append j (operand_names vs) (local_names r.locals) in
          let f : times j (operand_names us) + times j (operand_names ws) ≡ 0 + times j (operand_names vs) = e j in
          omega arith

  -- a return, by its test
  pub any_ret : (returns : ℕ) (i : Instr) → is_ret i ≡ true → (m : ℕ) (vs : List Operand) (r : Running) → Good l m vs r → Meets (λ w. Unit {0}) (step_on returns i vs r)
  any_ret q Pop e m vs r h = absurd (false≢true e)
  any_ret q (CopyLoc a) e m vs r h = absurd (false≢true e)
  any_ret q (MoveLoc a) e m vs r h = absurd (false≢true e)
  any_ret q (StLoc a) e m vs r h = absurd (false≢true e)
  any_ret q FreezeRef e m vs r h = absurd (false≢true e)
  any_ret q Compare e m vs r h = absurd (false≢true e)
  any_ret q ReadRef e m vs r h = absurd (false≢true e)
  any_ret q WriteRef e m vs r h = absurd (false≢true e)
  any_ret q (BorrowLoc a c) e m vs r h = absurd (false≢true e)
  any_ret q (BorrowField a c) e m vs r h = absurd (false≢true e)
  any_ret q (BorrowGlobal a c) e m vs r h = absurd (false≢true e)
  any_ret q (MoveFrom a) e m vs r h = absurd (false≢true e)
  any_ret q (Call a c d) e m vs r h = absurd (false≢true e)
  any_ret q Ret e m vs r h = step_ret q vs m r h
  any_ret q (Values a c d) e m vs r h = absurd (false≢true e)
  any_ret q MoveTo e m vs r h = absurd (false≢true e)
  any_ret q (VectorOp a c d u) e m vs r h = absurd (false≢true e)
  any_ret q (BorrowElement a) e m vs r h = absurd (false≢true e)

  -- ---- read off

  -- between steps at most 33 names are held (and never 49)
  pub names_bound : (m : ℕ) (h : Machine) → Fine l m h → length h.state.graph.names ≤ 33
  names_bound m h f =
      let g : Good l m h.stack h.state = f.good in
      let a : length h.state.graph.names ≤ suc (length (under h.stack h.state)) = owns_room l h.state.graph h.state.next (under h.stack h.state) m g.keeps.own in
      let b : length (under h.stack h.state) ≤ length h.stack + 16 = room h.state.locals h.stack g.count in
      let c : length h.stack ≤ 16 = f.few in
      omega arith

  pub step_keeps : (returns : ℕ) (i : Instr) (m : ℕ) (h k : Machine) → within_frame l i ≡ true → is_ret i ≡ false → Fine l (m + 17) h → step returns i h ≡ done k → Fine l m k
  unfolding step
  step_keeps q i m h k f n w e = meets_done (step_fine q i h.stack m h.state f n w.good w.few) k e

  pub step_refuses : (returns : ℕ) (i : Instr) (m : ℕ) (h : Machine) (n : ℕ) → within_frame l i ≡ true → Fine l (m + 17) h → step returns i h ≡ refused n → ordinary n ≡ true
  unfolding step
  step_refuses q i m h n f w e =
      decide (is_ret i)
      (λ r. meets_refused (any_ret q i r (m + 17) h.stack h.state w.good) n e)
      (λ r. meets_refused (step_fine q i h.stack m h.state f r w.good w.few) n e)
