-- A visit's number is small: a graph call that is not refused leaves at most 96 edges and so blurs at most 96 sets, an instruction makes at
-- most 144 such calls, and a block has at most 512 instructions. (So a count of 32 bits never reaches its most.)
use Prim.Native.Nat.{ℕ, zero, suc, ◌+◌, ◌*◌, ◌≤◌, zero-le}
use Rattle.std.proofs.Common.{arith, le_refl}
use Rattle.std.specs.Prelude.{Bool, ◌&&◌, ◌||◌, cond, ◌≡◌, refl, ltb, eqb, get_or}
use Rattle.std.proofs.Math.Bool.{true, false, not}
use Rattle.std.proofs.lemmas.Bool.{false≢true}
use mathlib.Core.List.{List, [], ◌∷◌, ◌++◌, map}
use Rattle.std.proofs.Math.Option.{Option, none, some}
use Rattle.std.proofs.Math.Path.{subst}
use Rattle.std.proofs.Math.ListN.{length}
use Rattle.meaning.specs.Answers.{Ans, ok, refuse, and_then, guard, Outcome, done, violated, refused, then, lift, fails_at, needs}
use Rattle.meaning.specs.Lists.{all, keep, empty}
use Rattle.meaning.specs.Labels.{field_label, local_label, global_label}
use Rattle.meaning.specs.BorrowGraph.{Graph, GEdge, between, pair_ok, moves, shift, spliced, without, add_all, newly_blurred, limit, release, new_name, borrow_weak, borrow_strong, well_formed, held, is_mutable, borrows, borrows_mutably, lowest_of}
use Rattle.meaning.specs.AbstractState.{State, Local, absent, value, ref, Operand, non_ref, reference, Token, of_value, of_ref}
use Rattle.meaning.specs.EntryPoints.{Running, Answer, Answers, count_on, with_local, answer, fails, bars_reading, bars_handing_over, bars_local_borrow, bars_field_borrow, bars_resource_borrow, needs_name, new_ref, on_graph, add_copy, add_borrow, add_field_borrow, add_local_borrow, add_resource_borrow, release_name, value_for, release_value, copy_of, copy_loc, move_of, move_loc, local_of, overwrite, st_loc, freeze_ref, comparison, read_ref, write_ref, borrow_loc, borrow_field, borrow_global, move_from, vector_test, vector_op, vector_element_borrow, operand_names, local_names, put_number, ascend, release_all, borrow_from, hand_over, none_borrowed, not_acquired, parents_of, return_values, call, ret}
use Rattle.meaning.specs.Steps.{Machine, Instr, Pop, CopyLoc, MoveLoc, StLoc, FreezeRef, Compare, ReadRef, WriteRef, BorrowLoc, BorrowField, BorrowGlobal, MoveFrom, Call, Ret, Values, MoveTo, VectorOp, BorrowElement, pop, pop_ref, pop_value, pop_values, pop_many, push, pushed, push_all, push_new, unchanged, step_on, step, is_ret}
use Rattle.meaning.specs.Blocks.{Routine, machine_at, settle, end_of, finish, run_from, instrs_of, run_block, exec, start_machine}
use Rattle.meaning.specs.Loop.{Result, Block, no_block, passed_up}
use Rattle.meaning.proofs.Laws.Add.{keep_few}
use Rattle.meaning.proofs.Laws.Base.{guard_ok, and_then_ok, leb_le, decide, and_l, and_r}
use Rattle.meaning.proofs.Laws.Block.{Enters, enters, at_good}
use Rattle.meaning.proofs.Laws.Blurs.{newly_few}
use Rattle.meaning.specs.Laws.Forms.{Strong}
use Rattle.meaning.proofs.Laws.Graph.{limit_ok}
use Rattle.meaning.specs.Laws.Promised.{promised, within_frame, rets_placed}
use Rattle.meaning.proofs.Laws.Running.{Meets, met}
use Rattle.meaning.proofs.Laws.Step.{names_le, locals_le, Fine, good_less, step_fine, any_ret}

-- ---- outcomes

-- what is done, or violated, has a number of at most k; a refusal has none
data Adds {A : Type 0} (number : A → ℕ) (k : ℕ) : Outcome A → Type 0 where
  adds : {a : A} → number a ≤ k → Adds number k (done a)
  broke : {j c o : ℕ} → j ≤ k → Adds number k (violated j c o)
  barred : {n : ℕ} → Adds number k (refused n)

adds_more : {A : Type 0} {number : A → ℕ} {k n : ℕ} {a : Outcome A} → Adds number k a → k ≤ n → Adds number n a
adds_more (adds {a} p) h = adds {a = a} (omega (arith, p, h))
adds_more (broke {j} p) h = broke {j = j} (omega (arith, p, h))
adds_more barred h = barred

adds_then : {A B : Type 0} {number : A → ℕ} {result : B → ℕ} {k n : ℕ} {a : Outcome A} → Adds number k a → k ≤ n → (f : A → Outcome B) → ((x : A) → number x ≤ k → Adds result n (f x)) → Adds result n (then a f)
adds_then (adds {a} p) h f g = g a p
adds_then (broke {j} p) h f g = broke {j = j} (omega (arith, p, h))
adds_then barred h f g = barred

adds_fails_at : {A : Type 0} {number : A → ℕ} {k : ℕ} (n : ℕ) (x : Option ℕ) (c : ℕ) {a : Outcome A} → n ≤ k → Adds number k a
    → Adds number k (fails_at n x c a)
adds_fails_at n none c p h = h
adds_fails_at n (some o) c p h = broke p

adds_fails : {A : Type 0} {number : A → ℕ} {k : ℕ} (r : Running) (q : GEdge → Bool) (c : ℕ) {a : Outcome A} → r.blurs ≤ k → Adds number k a
    → Adds number k (fails r q c a)
adds_fails r q c p h = adds_fails_at r.blurs (lowest_of q r.graph.edges) c p h

adds_needs : {A : Type 0} {number : A → ℕ} {k : ℕ} (b : Bool) (n : ℕ) {a : Outcome A} → Adds number k a → Adds number k (needs b n a)
adds_needs true n h = h
adds_needs false n h = barred

-- ---- graph calls

-- the most that one instruction adds
abbrev pub per_step : ℕ
per_step = 144 * 96

abbrev blurs : Running → ℕ
blurs r = r.blurs

limited : (b : Bool) (x : Ans Graph) (g : Graph) → guard b 9 (and_then x limit) ≡ ok g → length g.edges ≤ 96
limited b x g e =
    let z = guard_ok b 9 (and_then x limit) g e in
    let y = and_then_ok x limit g z.1 in
    let l = limit_ok y.0 g y.2 in
    subst (λ (h : Graph). length h.edges ≤ 96) l.0 (leb_le l.1)

graph_few : (r : Running) (a : Ans Graph) → ((g : Graph) → a ≡ ok g → length g.edges ≤ 96) → Adds blurs (r.blurs + 96) (on_graph r a)
graph_few r (ok g) h =
    let p : newly_blurred r.graph.edges g.edges ≤ length g.edges = newly_few r.graph.edges g.edges in
    let q : length g.edges ≤ 96 = h g refl in
    adds (at_most (newly_blurred r.graph.edges g.edges) (omega (arith, p, q)))
  where
    at_most : (k : ℕ) → k ≤ 96 → count_on r.blurs k ≤ r.blurs + 96
    at_most k l = omega (arith, l)
graph_few r (refuse n) h = barred

release_limit : (g : Graph) (n : ℕ) (h : Graph) → release g n ≡ ok h → length h.edges ≤ 96
unfolding release
release_limit g n h e = limited (well_formed g && held g n) (add_all (spliced g n) (without g n)) h e

weak_limit : (g : Graph) (p : ℕ) (path : List ℕ) (c o : ℕ) (h : Graph) → borrow_weak g p path c o ≡ ok h → length h.edges ≤ 96
unfolding borrow_weak
weak_limit g p path c o h e =
    limited (well_formed g && pair_ok g.names p c) (add_all (between p (record { strong = false; path = path; offset = o }) c ∷ []) g) h e

strong_limit : (g : Graph) (p : ℕ) (path : List ℕ) (c o : ℕ) (h : Graph) → borrow_strong g p path c o ≡ ok h → length h.edges ≤ 96
unfolding borrow_strong
strong_limit g p path c o h e =
    limited (well_formed g && (pair_ok g.names p c && all (λ x. not (eqb c x.child)) (keep (moves p path) g.edges)))
    (add_all (map (shift c path) (keep (moves p path) g.edges) ++ (between p (record { strong = true; path = path; offset = o }) c ∷ []))
    (record { names = g.names; edges = keep (λ x. not (moves p path x)) g.edges })) h e

release_few : (n : ℕ) (r : Running) → Adds blurs (r.blurs + 96) (release_name n r)
unfolding release_name
release_few n r = graph_few r (release r.graph n) (release_limit r.graph n)

weak_few : (p : ℕ) (path : List ℕ) (c : ℕ) (r : Running) → Adds blurs (r.blurs + 96) (on_graph r (borrow_weak r.graph p path c r.offset))
weak_few p path c r = graph_few r (borrow_weak r.graph p path c r.offset) (weak_limit r.graph p path c r.offset)

strong_few : (p : ℕ) (path : List ℕ) (c : ℕ) (r : Running) → Adds blurs (r.blurs + 96) (on_graph r (borrow_strong r.graph p path c r.offset))
strong_few p path c r = graph_few r (borrow_strong r.graph p path c r.offset) (strong_limit r.graph p path c r.offset)

-- a new name adds none
new_ref_few : (m : Bool) (r : Running) → Adds blurs r.blurs (new_ref m r)
unfolding new_ref
new_ref_few m r = adds_needs (ltb r.next 65536) 9 (go (new_name r.graph r.next m))
  where
    go : (a : Ans Graph) → Adds blurs r.blurs (then (lift a) (λ g. done (record { locals = r.locals; graph = g; next = suc r.next; root = r.root; blurs = r.blurs; offset = r.offset })))
    go (ok g) = adds (le_refl r.blurs)
    go (refuse n) = barred

-- names released one after the other, or borrowed from
release_all_few : (ns : List ℕ) (r : Running) → Adds blurs (r.blurs + 96 * length ns) (release_all ns r)
unfolding release_all
release_all_few [] r = adds {a = r} (omega arith)
release_all_few (n ∷ ns) r =
    adds_then (release_few n r) (omega arith) (λ s. release_all ns s)
    (λ s p. adds_more (release_all_few ns s) (omega (arith, p)))

borrow_from_few : (ps : List ℕ) (c : ℕ) (r : Running) → Adds blurs (r.blurs + 96 * length ps) (borrow_from ps c r)
unfolding borrow_from add_borrow
borrow_from_few [] c r = adds {a = r} (omega arith)
borrow_from_few (p ∷ ps) c r =
    adds_then (weak_few p [] c r) (omega arith) (λ s. borrow_from ps c s)
    (λ s q. adds_more (borrow_from_few ps c s) (omega (arith, q)))

-- ---- entry points

abbrev of_answer : Answer → ℕ
of_answer a = a.state.blurs

-- a new name, edges to it
borrow_few : (m : Bool) (add : Running → Outcome Running) (r : Running) → ((s : Running) → Adds blurs (s.blurs + 96) (add s))
    → Adds of_answer (r.blurs + 96) (then (new_ref m r) (λ s. then (add s) (λ t. answer t (reference r.next))))
borrow_few m add r a =
    adds_then (new_ref_few m r) (omega arith) (λ s. then (add s) (λ t. answer t (reference r.next)))
    (λ s p. adds_then (a s) (omega (arith, p)) (λ t. answer t (reference r.next)) (λ t q. adds (omega (arith, p, q))))

-- a new name, edges to it, and the old one released
replace_few : (m : Bool) (add : Running → Outcome Running) (n : ℕ) (r : Running) → ((s : Running) → Adds blurs (s.blurs + 96) (add s))
    → Adds of_answer (r.blurs + 192) (then (new_ref m r) (λ s. then (add s) (λ t. then (release_name n t) (λ u. answer u (reference r.next)))))
replace_few m add n r a =
    adds_then (new_ref_few m r) (omega arith) (λ s. then (add s) (λ t. then (release_name n t) (λ u. answer u (reference r.next))))
    (λ s p. adds_then (a s) (omega (arith, p)) (λ t. then (release_name n t) (λ u. answer u (reference r.next)))
    (λ t q. adds_then (release_few n t) (omega (arith, p, q)) (λ u. answer u (reference r.next)) (λ u w. adds (omega (arith, p, q, w)))))

module _ (r : Running) where
  -- the bound of each entry point but call and return: two graph calls
  abbrev two : ℕ
  two = r.blurs + 192

  known : {A : Type 0} {number : A → ℕ} {k : ℕ} (n : ℕ) {a : Outcome A} → Adds number k a → Adds number k (needs_name r.graph n a)
  known n h = adds_needs (well_formed r.graph && held r.graph n) 9 h

  test : {A : Type 0} {number : A → ℕ} (q : GEdge → Bool) (c : ℕ) {a : Outcome A} → Adds number two a → Adds number two (fails r q c a)
  test q c h = adds_fails r q c (omega arith) h

  plain : (v : Operand) → Adds of_answer two (answer r v)
  plain v = adds {a = record { state = r; operand = v }} (omega arith)

  released : (n : ℕ) → Adds blurs two (release_name n r)
  released n = adds_more (release_few n r) (omega arith)

  value_for_few : (t : Token) → Adds of_answer r.blurs (value_for t r)
  unfolding value_for
  value_for_few of_value = adds (le_refl r.blurs)
  value_for_few (of_ref m) = adds_then (new_ref_few m r) (le_refl r.blurs) (λ s. answer s (reference r.next)) (λ s p. adds p)

  release_value_few : (v : Operand) → Adds blurs two (release_value v r)
  unfolding release_value
  release_value_few non_ref = adds {a = r} (omega arith)
  release_value_few (reference n) = released n

  copy_loc_few : (i : ℕ) → Adds of_answer two (copy_loc i r)
  unfolding copy_loc add_copy
  copy_loc_few i = go (get_or r.locals i absent)
    where
      go : (x : Local) → Adds of_answer two (copy_of r i x)
      go absent = barred
      go value = known r.root (test (borrows_mutably r.graph r.root (some (local_label i))) 101 (plain non_ref))
      go (ref n) = known n (adds_more (borrow_few (is_mutable r.graph n) (add_copy n r.next) r (λ s. strong_few n [] r.next s)) (omega arith))

  move_loc_few : (i : ℕ) → Adds of_answer two (move_loc i r)
  unfolding move_loc
  move_loc_few i = go (get_or r.locals i absent)
    where
      moved : (v : Operand) → Adds of_answer two (answer (with_local r i absent) v)
      moved v = adds {a = record { state = with_local r i absent; operand = v }} (omega arith)

      go : (x : Local) → Adds of_answer two (move_of r i x)
      go absent = barred
      go value = known r.root (test (borrows r.root (some (local_label i))) 102 (moved non_ref))
      go (ref n) = moved (reference n)

  freeze_ref_few : (n : ℕ) → Adds of_answer two (freeze_ref n r)
  unfolding freeze_ref add_copy
  freeze_ref_few n =
      known n (adds_needs (is_mutable r.graph n) 13 (test (borrows_mutably r.graph n none) 104
      (replace_few false (add_copy n r.next) n r (λ s. strong_few n [] r.next s))))

  comparison_few : (v w : Operand) → Adds of_answer two (comparison v w r)
  unfolding comparison
  comparison_few non_ref non_ref = plain non_ref
  comparison_few non_ref (reference n) = barred
  comparison_few (reference m) non_ref = barred
  comparison_few (reference m) (reference n) =
      known m (test (bars_reading r.graph m none) 105 (known n (test (bars_reading r.graph n none) 105
      (adds_then (release_few m r) (omega arith) (λ s. then (release_name n s) (λ t. answer t non_ref))
      (λ s p. adds_then (release_few n s) (omega (arith, p)) (λ t. answer t non_ref) (λ t q. adds (omega (arith, p, q))))))))

  read_ref_few : (n : ℕ) → Adds of_answer two (read_ref n r)
  unfolding read_ref
  read_ref_few n = known n (test (bars_reading r.graph n none) 105 (adds_then (released n) (omega arith) (λ s. answer s non_ref) (λ s p. adds p)))

  write_ref_few : (n : ℕ) → Adds blurs two (write_ref n r)
  unfolding write_ref
  write_ref_few n = known n (adds_needs (is_mutable r.graph n) 13 (test (borrows n none) 106 (released n)))

  borrow_loc_few : (m : Bool) (i : ℕ) → Adds of_answer two (borrow_loc m i r)
  unfolding borrow_loc add_local_borrow
  borrow_loc_few m i =
      known r.root (test (bars_local_borrow m r.graph r.root i) 107
      (adds_more (borrow_few m (add_local_borrow i r.next) r (λ s. strong_few s.root (local_label i ∷ []) r.next s)) (omega arith)))

  borrow_field_few : (m : Bool) (n f : ℕ) → Adds of_answer two (borrow_field m n f r)
  unfolding borrow_field add_field_borrow
  borrow_field_few m n f =
      known n (test (bars_field_borrow m r.graph n f) 108
      (replace_few m (add_field_borrow n f r.next) n r (λ s. strong_few n (field_label f ∷ []) r.next s)))

  borrow_global_few : (m : Bool) (i : ℕ) → Adds of_answer two (borrow_global m i r)
  unfolding borrow_global add_resource_borrow
  borrow_global_few m i =
      known r.root (test (bars_resource_borrow m r.graph r.root i) 109
      (adds_more (borrow_few m (add_resource_borrow i r.next) r (λ s. weak_few s.root (global_label i ∷ []) r.next s)) (omega arith)))

  move_from_few : (i : ℕ) → Adds of_answer two (move_from i r)
  unfolding move_from
  move_from_few i = known r.root (test (borrows r.root (some (global_label i))) 109 (plain non_ref))

  vector_few : {A : Type 0} {number : A → ℕ} (m : Bool) (n c : ℕ) {a : Outcome A} → Adds number two a → Adds number two (vector_test m r n c a)
  vector_few true n c h = adds_needs (is_mutable r.graph n) 13 (test (borrows n none) c h)
  vector_few false n c h = h

  vector_op_few : (v : Operand) (m : Bool) → Adds blurs two (vector_op v m r)
  unfolding vector_op
  vector_op_few non_ref m = barred
  vector_op_few (reference n) m = known n (vector_few m n 110 (released n))

  element_few : (v : Operand) (m : Bool) → Adds of_answer two (vector_element_borrow v m r)
  unfolding vector_element_borrow add_borrow
  element_few non_ref m = barred
  element_few (reference n) m = known n (vector_few m n 111 (replace_few m (add_borrow n r.next) n r (λ s. weak_few n [] r.next s)))

st_loc_few : (i : ℕ) (v : Operand) (r : Running) → Adds blurs (two r) (st_loc i v r)
unfolding st_loc
st_loc_few i v r = go (get_or r.locals i absent)
  where
    s : Running
    s = with_local r i (local_of v)

    go : (x : Local) → Adds blurs (two s) (overwrite i s x)
    go absent = adds {a = s} (omega arith)
    go value = known s s.root (test s (borrows s.root (some (local_label i))) 103 (adds {a = s} (omega arith)))
    go (ref n) = released s n

-- ---- call and return

place_few : (n : ℕ) (ms : List ℕ) → length (put_number n ms) ≤ suc (length ms)
unfolding put_number
place_few n [] = omega arith
place_few n (m ∷ ms) = go (ltb n m) (eqb n m) (place_few n ms)
  where
    go : (a b : Bool) → length (put_number n ms) ≤ suc (length ms) → length (cond a (n ∷ m ∷ ms) (cond b (m ∷ ms) (m ∷ put_number n ms))) ≤ suc (suc (length ms))
    go true b h = omega arith
    go false true h = omega arith
    go false false h = omega (arith, h)

ascend_few : (ns : List ℕ) → length (ascend ns) ≤ length ns
unfolding ascend
ascend_few [] = omega arith
ascend_few (n ∷ ns) =
    let a : length (put_number n (ascend ns)) ≤ suc (length (ascend ns)) = place_few n (ascend ns) in
    let b : length (ascend ns) ≤ length ns = ascend_few ns in
    omega (arith, a, b)

hand_over_few : {A : Type 0} {number : A → ℕ} {k : ℕ} (ns : List ℕ) (c : ℕ) (r : Running) {a : Outcome A} → r.blurs ≤ k → Adds number k a → Adds number k (hand_over ns c r a)
unfolding hand_over
hand_over_few [] c r p h = h
hand_over_few (n ∷ ns) c r p h = known r n (adds_fails r (bars_handing_over r.graph n) c p (hand_over_few ns c r p h))

none_borrowed_few : {A : Type 0} {number : A → ℕ} {k : ℕ} (is : List ℕ) (r : Running) {a : Outcome A} → r.blurs ≤ k → Adds number k a
    → Adds number k (none_borrowed is r a)
unfolding none_borrowed
none_borrowed_few [] r p h = h
none_borrowed_few (i ∷ is) r p h = adds_fails r (borrows r.root (some (global_label i))) 109 p (none_borrowed_few is r p h)

abbrev of_answers : Answers → ℕ
of_answers a = a.state.blurs

parents_few : (m : Bool) (muts alls : List ℕ) → length muts ≤ 16 → length alls ≤ 16 → length (parents_of m muts alls) ≤ 16
parents_few true muts alls u w = u
parents_few false muts alls u w = w

-- each value returned borrows from at most 16 arguments
return_values_few : (ts : List Token) (muts alls : List ℕ) (r : Running) → length muts ≤ 16 → length alls ≤ 16 → Adds of_answers (r.blurs + 1536 * length ts) (return_values ts muts alls r)
unfolding return_values
return_values_few [] muts alls r u w = adds {a = record { state = r; operands = [] }} (omega arith)
return_values_few (of_value ∷ ts) muts alls r u w =
    adds_then (return_values_few ts muts alls r u w) (omega arith) (λ a. done (record { state = a.state; operands = non_ref ∷ a.operands })) (λ a p. adds {a = record { state = a.state; operands = non_ref ∷ a.operands }} (omega (arith, p)))
return_values_few (of_ref m ∷ ts) muts alls r u w =
    let f₃ : Answers → Outcome Answers = λ a. done (record { state = a.state; operands = reference r.next ∷ a.operands }) in
    let f₂ : Running → Outcome Answers = λ t. then (return_values ts muts alls t) f₃ in
    let d : length (parents_of m muts alls) ≤ 16 = parents_few m muts alls u w in
    adds_then (new_ref_few m r) (omega arith) (λ s. then (borrow_from (parents_of m muts alls) r.next s) f₂)
    (λ s p. adds_then (borrow_from_few (parents_of m muts alls) r.next s) (omega (arith, p, d)) f₂
    (λ t q. adds_then (return_values_few ts muts alls t u w) (omega (arith, p, q, d)) f₃
    (λ a z. adds {a = record { state = a.state; operands = reference r.next ∷ a.operands }} (omega (arith, p, q, d, z)))))

-- 8 values returned, each from 16 arguments, and 16 releases: 144 calls
call_few : (args : List Operand) (acquired : List ℕ) (ts : List Token) (r : Running) → length args ≤ 16 → length ts ≤ 8 → Adds of_answers (r.blurs + per_step) (call args acquired ts r)
unfolding call not_acquired
call_few args acquired ts r l t =
    let names : List ℕ = operand_names args in
    let alls : List ℕ = ascend names in
    let muts : List ℕ = keep (is_mutable r.graph) alls in
    let a : length names ≤ length args = names_le args in
    let b : length alls ≤ length names = ascend_few names in
    let c : length muts ≤ length alls = keep_few (is_mutable r.graph) alls in
    known r r.root (none_borrowed_few (ascend acquired) r (omega arith)
    (hand_over_few names 112 r (omega arith)
    (adds_then (return_values_few ts muts alls r (omega (arith, a, b, c, l)) (omega (arith, a, b, l))) (omega (arith, t)) (λ x. then (release_all alls x.state) (λ s. done (record { state = s; operands = x.operands })))
    (λ x p. adds_then (release_all_few alls x.state) (omega (arith, a, b, l, t, p)) (λ s. done (record { state = s; operands = x.operands }))
    (λ s q. adds {a = record { state = s; operands = x.operands }} (omega (arith, a, b, l, t, p, q)))))))

ret_few : (vs : List Operand) (r : Running) → length r.locals ≤ 16 → Adds blurs (r.blurs + per_step) (ret vs r)
unfolding ret
ret_few vs r l =
    let names : List ℕ = local_names r.locals in
    let a : length names ≤ length r.locals = locals_le r.locals in
    let b : length (ascend names) ≤ length names = ascend_few names in
    adds_then (release_all_few (ascend names) r) (omega (arith, a, b, l)) (λ s. needs_name s.graph s.root (fails s (borrows s.root none) 113 (hand_over (operand_names vs) 114 s (done s))))
    (λ s p. let h : s.blurs ≤ r.blurs + per_step = omega (arith, a, b, l, p) in
    known s s.root (adds_fails s (borrows s.root none) 113 h (hand_over_few (operand_names vs) 114 s h (adds h))))

-- ---- the stack, and one instruction

abbrev of_machine : Machine → ℕ
of_machine m = m.state.blurs

module _ {A : Type 0} {number : A → ℕ} {k : ℕ} where
  pop_few : (vs : List Operand) (f : Operand → List Operand → Outcome A) → ((v : Operand) (ws : List Operand) → Adds number k (f v ws)) → Adds number k (pop vs f)
  pop_few [] f h = barred
  pop_few (v ∷ vs) f h = h v vs

  pop_ref_few : (vs : List Operand) (f : ℕ → List Operand → Outcome A) → ((n : ℕ) (ws : List Operand) → Adds number k (f n ws)) → Adds number k (pop_ref vs f)
  pop_ref_few [] f h = barred
  pop_ref_few (non_ref ∷ vs) f h = barred
  pop_ref_few (reference n ∷ vs) f h = h n vs

  pop_value_few : (vs : List Operand) (f : List Operand → Outcome A) → ((ws : List Operand) → Adds number k (f ws)) → Adds number k (pop_value vs f)
  pop_value_few [] f h = barred
  pop_value_few (non_ref ∷ vs) f h = h vs
  pop_value_few (reference n ∷ vs) f h = barred

  pop_values_few : (n : ℕ) (vs : List Operand) (f : List Operand → Outcome A) → ((ws : List Operand) → Adds number k (f ws)) → Adds number k (pop_values n vs f)
  unfolding pop_values
  pop_values_few zero vs f h = h vs
  pop_values_few (suc n) vs f h = pop_value_few vs (λ ws. pop_values n ws f) (λ ws. pop_values_few n ws f h)

  -- no more are taken than there are
  pop_many_few : (n : ℕ) (taken vs : List Operand) (f : List Operand → List Operand → Outcome A)
      → ((us ws : List Operand) → length us ≤ length taken + length vs → Adds number k (f us ws)) → Adds number k (pop_many n taken vs f)
  unfolding pop_many
  pop_many_few zero taken vs f h = h taken vs (omega arith)
  pop_many_few (suc n) taken [] f h = barred
  pop_many_few (suc n) taken (v ∷ vs) f h = pop_many_few n (v ∷ taken) vs f (λ us ws l. h us ws (omega (arith, l)))

push_few : (vs : List Operand) (v : Operand) (r : Running) {k : ℕ} → r.blurs ≤ k → Adds of_machine k (push vs v r)
unfolding push
push_few vs v r p = adds_needs (ltb (length vs) 16) 20 (adds p)

pushed_few : (vs : List Operand) {k : ℕ} {a : Outcome Answer} → Adds of_answer k a → Adds of_machine k (pushed vs a)
pushed_few vs {k} h = adds_then h (le_refl k) (λ x. push vs x.operand x.state) (λ x p. push_few vs x.operand x.state p)

push_all_few : (vs ws : List Operand) (r : Running) {k : ℕ} → r.blurs ≤ k → Adds of_machine k (push_all vs ws r)
unfolding push_all
push_all_few vs [] r p = adds p
push_all_few vs (v ∷ ws) r {k} p = adds_then (push_few vs v r p) (le_refl k) (λ m. push_all m.stack ws m.state) (λ m q. push_all_few m.stack ws m.state q)

push_new_few : (n : ℕ) (t : Token) (vs : List Operand) (r : Running) {k : ℕ} → r.blurs ≤ k → Adds of_machine k (push_new n t vs r)
unfolding push_new
push_new_few zero t vs r p = adds p
push_new_few (suc n) t vs r {k} p =
    adds_then (pushed_few vs (adds_more (value_for_few r t) p)) (le_refl k) (λ m. push_new n t m.stack m.state) (λ m q. push_new_few n t m.stack m.state q)

unchanged_few : (vs : List Operand) {k : ℕ} {a : Outcome Running} → Adds blurs k a → Adds of_machine k (unchanged vs a)
unchanged_few vs {k} h = adds_then h (le_refl k) (λ r. done (record { state = r; stack = vs })) (λ r p. adds p)

module _ (l : ℕ) (returns : ℕ) (vs : List Operand) (r : Running) (few : length vs ≤ 16) (locals : length r.locals ≤ 16) where
  abbrev bound : ℕ
  bound = r.blurs + per_step

  -- an entry point with an operand, or without one
  made : (ws : List Operand) {a : Outcome Answer} → Adds of_answer (two r) a → Adds of_machine bound (pushed ws a)
  made ws h = pushed_few ws (adds_more h (omega arith))

  left : (ws : List Operand) {a : Outcome Running} → Adds blurs (two r) a → Adds of_machine bound (unchanged ws a)
  left ws h = unchanged_few ws (adds_more h (omega arith))

  step_few : (i : Instr) → within_frame l i ≡ true → Adds of_machine bound (step_on returns i vs r)
  step_few Pop f = pop_few vs (λ v ws. unchanged ws (release_value v r)) (λ v ws. left ws (release_value_few r v))
  step_few (CopyLoc i) f = made vs (copy_loc_few r i)
  step_few (MoveLoc i) f = made vs (move_loc_few r i)
  step_few (StLoc i) f = pop_few vs (λ v ws. unchanged ws (st_loc i v r)) (λ v ws. left ws (st_loc_few i v r))
  step_few FreezeRef f = pop_ref_few vs (λ n ws. pushed ws (freeze_ref n r)) (λ n ws. made ws (freeze_ref_few r n))
  step_few Compare f = pop_few vs (λ v ws. pop ws (λ w us. pushed us (comparison v w r))) (λ v ws. pop_few ws (λ w us. pushed us (comparison v w r)) (λ w us. made us (comparison_few r v w)))
  step_few ReadRef f = pop_ref_few vs (λ n ws. pushed ws (read_ref n r)) (λ n ws. made ws (read_ref_few r n))
  step_few WriteRef f = pop_ref_few vs (λ n ws. pop_value ws (λ us. unchanged us (write_ref n r))) (λ n ws. pop_value_few ws (λ us. unchanged us (write_ref n r)) (λ us. left us (write_ref_few r n)))
  step_few (BorrowLoc i m) f = made vs (borrow_loc_few r m i)
  step_few (BorrowField j m) f = pop_ref_few vs (λ n ws. pushed ws (borrow_field m n j r)) (λ n ws. made ws (borrow_field_few r m n j))
  step_few (BorrowGlobal i m) f = pop_value_few vs (λ ws. pushed ws (borrow_global m i r)) (λ ws. made ws (borrow_global_few r m i))
  step_few (MoveFrom i) f = pop_value_few vs (λ ws. pushed ws (move_from i r)) (λ ws. made ws (move_from_few r i))
  step_few (Call params acquired ts) f =
      pop_many_few params [] vs (λ args ws. then (call args acquired ts r) (λ a. push_all ws a.operands a.state))
      (λ args ws h. adds_then (call_few args acquired ts r (omega (arith, h, few)) (leb_le f)) (le_refl bound) (λ a. push_all ws a.operands a.state) (λ a p. push_all_few ws a.operands a.state p))
  step_few Ret f = pop_many_few returns [] vs (λ values ws. unchanged ws (ret values r)) (λ values ws h. unchanged_few ws (ret_few values r locals))
  step_few (Values takes pushes t) f = pop_values_few takes vs (λ ws. push_new pushes t ws r) (λ ws. push_new_few pushes t ws r (omega arith))
  step_few MoveTo f = pop_value_few vs (λ ws. pop ws (λ v us. unchanged us (release_value v r))) (λ ws. pop_few ws (λ v us. unchanged us (release_value v r)) (λ v us. left us (release_value_few r v)))
  step_few (VectorOp takes m pushes t) f =
      pop_values_few takes vs (λ ws. pop ws (λ v us. then (vector_op v m r) (λ s. push_new pushes t us s)))
      (λ ws. pop_few ws (λ v us. then (vector_op v m r) (λ s. push_new pushes t us s))
      (λ v us. adds_then (vector_op_few r v m) (omega arith) (λ s. push_new pushes t us s) (λ s p. push_new_few pushes t us s (omega (arith, p)))))
  step_few (BorrowElement m) f = pop_value_few vs (λ ws. pop ws (λ v us. pushed us (vector_element_borrow v m r))) (λ ws. pop_few ws (λ v us. pushed us (vector_element_borrow v m r)) (λ v us. made us (element_few r v m)))

-- ---- a block

settle_few : {P : Machine → Type 0} (o k n : ℕ) {a : Outcome Machine} (f : Machine → Result State) → Meets P a → Adds of_machine k a → k ≤ n → ((x : Machine) → P x → x.state.blurs ≤ k → passed_up (f x) ≤ n) → passed_up (settle o a f) ≤ n
settle_few o k n f (met {a} p) (adds q) h g = g a p q
settle_few o k n f m (broke q) h g = omega (arith, q, h)
settle_few o k n f m barred h g = zero-le

module _ (l : ℕ) (small : l ≤ 16) (returns : ℕ) (b : Block) where
  finish_few : (r : Running) (vs : List Operand) → passed_up (finish b r vs) ≤ r.blurs
  finish_few r (v ∷ vs) = zero-le
  finish_few r [] = go b.successors
    where
      go : (es : List ℕ) → passed_up (end_of b es r) ≤ r.blurs
      go [] = le_refl r.blurs
      go (e ∷ es) = le_refl r.blurs

  -- after a return
  after_few : (o : ℕ) (is : List Instr) (m : Machine) → empty is ≡ true → passed_up (run_from returns b o is m) ≤ m.state.blurs
  unfolding run_from
  after_few o [] m p = finish_few m.state m.stack
  after_few o (i ∷ is) m p = absurd (false≢true p)

  run_few : (o : ℕ) (is : List Instr) (k : ℕ) (m : Machine) → all (within_frame l) is ≡ true → rets_placed b.successors is ≡ true → Fine l k m → 17 * length is ≤ k → passed_up (run_from returns b o is m) ≤ m.state.blurs + per_step * length is
  unfolding run_from rets_placed step
  run_few o [] k m f p h c = let a : passed_up (finish b m.state m.stack) ≤ m.state.blurs = finish_few m.state m.stack in omega (arith, a)
  run_few o (i ∷ is) k m f p h c =
      let r : Running = (machine_at o m).state in
      let w : not (is_ret i) || (empty is && empty b.successors) ≡ true = and_l (not (is_ret i) || (empty is && empty b.successors)) (rets_placed b.successors is) p in
      let count : length r.locals ≡ l = h.good.count in
      let this : Adds of_machine (r.blurs + per_step) (step_on returns i m.stack r) = step_few l returns m.stack r h.few (omega (arith, count, small)) i (and_l (within_frame l i) (all (within_frame l) is) f) in
      let next : Machine → Result State = λ n. run_from returns b (suc o) is n in
      decide (is_ret i)
      (λ q. let z : empty is && empty b.successors ≡ true = subst (λ (x : Bool). not x || (empty is && empty b.successors) ≡ true) q w in
      settle_few o (r.blurs + per_step) (r.blurs + per_step * suc (length is)) next (any_ret l small returns i q k m.stack r (at_good l o k m h.good)) this (omega arith)
      (λ n u t. let a : passed_up (next n) ≤ n.state.blurs = after_few (suc o) is n (and_l (empty is) (empty b.successors) z) in omega (arith, a, t)))
      (λ q. settle_few o (r.blurs + per_step) (r.blurs + per_step * suc (length is)) next
      (step_fine l small returns i m.stack (17 * length is) r (and_l (within_frame l i) (all (within_frame l) is) f) q (good_less l small k (17 * length is + 17) m.stack r (at_good l o k m h.good) (omega arith)) h.few)
      this (omega arith)
      (λ n u t. let a : passed_up (next n) ≤ n.state.blurs + per_step * length is =
      run_few (suc o) is (17 * length is) n (and_r (within_frame l i) (all (within_frame l) is) f) (and_r (not (is_ret i) || (empty is && empty b.successors)) (rets_placed b.successors is) p) u (omega arith) in
      omega (arith, a, t)))

pub exec_few : (q : Routine) → promised q ≡ true → (i : ℕ) (s : State) → Strong q.locals s → passed_up (exec q i s) ≤ 512 * per_step
unfolding exec run_block
exec_few q h i s strong =
    let b : Block = get_or q.blocks i no_block in
    let is : List Instr = instrs_of b q.code in
    let e : Enters q b is s = enters q h i s strong in
    let short : length is ≤ 512 = e.short in
    let a : passed_up (exec q i s) ≤ 0 + per_step * length is = run_few q.locals e.small q.returns b b.entry is (17 * length is) (start_machine q.locals s) e.within e.placed e.fine (omega arith) in
    omega (arith, a, short)
