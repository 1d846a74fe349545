-- Offsets changed by a function that keeps minima (Redate): the entry points and one instruction's step commute with the change.
use Prim.Native.Nat.{ℕ, zero, suc, min}
use Rattle.std.specs.Prelude.{Bool, ◌&&◌, cond, ◌≡◌, ltb, length, get_or}
use Rattle.std.proofs.Math.Bool.{true, false}
use mathlib.Core.List.{List, [], ◌∷◌}
use Rattle.std.proofs.Math.Option.{Option, none, some, map}
use Rattle.std.proofs.Math.Path.{refl}
use Rattle.std.proofs.Common.{ap}
use Rattle.meaning.specs.Limits.{max_operands, u16_end}
use Rattle.meaning.specs.Lists.{any, keep}
use Rattle.meaning.specs.Labels.{field_label, local_label, global_label}
use Rattle.meaning.specs.Answers.{Ans, ok, refuse, Outcome, done, violated, refused, then, lift, needs, fails_at}
use Rattle.meaning.specs.BorrowGraph.{Graph, GEdge, well_formed, held, new_name, borrow_strong, borrow_weak, release, is_mutable, lowest_of}
use Rattle.meaning.specs.AbstractState.{Local, absent, value, ref, Operand, non_ref, reference, Token, of_value, of_ref}
use Rattle.meaning.specs.EntryPoints.{Running, Answer, Answers, with_local, fails, needs_name, new_ref, on_graph, add_copy, add_borrow, add_field_borrow, add_local_borrow, add_resource_borrow, release_name, value_for, release_value, copy_of, copy_loc, move_of, move_loc, local_of, overwrite, st_loc, freeze_ref, comparison, read_ref, write_ref, borrow_loc, borrow_field, borrow_global, move_from, vector_test, vector_op, vector_element_borrow, operand_names, local_names, ascend, release_all, borrow_from, hand_over, none_borrowed, not_acquired, parents_of, return_values, call, ret}
use Rattle.meaning.specs.Steps.{Instr, Pop, CopyLoc, MoveLoc, StLoc, FreezeRef, Compare, ReadRef, WriteRef, BorrowLoc, BorrowField, BorrowGlobal, MoveFrom, Call, Ret, Values, MoveTo, VectorOp, BorrowElement, Machine, pop, pop_ref, pop_value, pop_values, pop_many, push, pushed, push_all, push_new, unchanged, step_on, step}
use Rattle.meaning.proofs.Laws.Tests.{is_some, lowest_some}
use Rattle.meaning.proofs.Laws.Redate.{redate_gedge, redate_graph, map_ans, well_formed_redate, blurs_redate, new_name_redate, borrow_weak_redate, borrow_strong_redate, release_redate, lowest_redate}

-- ---- the changes

abbrev pub redate_running : (ℕ → ℕ) → Running → Running
redate_running f r =
    record { locals = r.locals; graph = redate_graph f r.graph; next = r.next; root = r.root; blurs = r.blurs; offset = f r.offset }

abbrev pub redate_answer : (ℕ → ℕ) → Answer → Answer
redate_answer f a = record { state = redate_running f a.state; operand = a.operand }

abbrev pub redate_answers : (ℕ → ℕ) → Answers → Answers
redate_answers f a = record { state = redate_running f a.state; operands = a.operands }

abbrev pub redate_machine : (ℕ → ℕ) → Machine → Machine
redate_machine f m = record { state = redate_running f m.state; stack = m.stack }

-- what is done by h, and a violation's borrow; its code and its number of blurred sets stay
abbrev pub redate_outcome : {X Y : Type 0} → (ℕ → ℕ) → (X → Y) → Outcome X → Outcome Y
redate_outcome f h (done x) = done (h x)
redate_outcome f h (violated k c o) = violated k c (f o)
redate_outcome f h (refused n) = refused n

-- b is a with its offsets changed (a record, so that a use of a law shows the outcomes)
pub record Redates (f : ℕ → ℕ) {X Y : Type 0} (h : X → Y) (a : Outcome X) (b : Outcome Y) : Type 0 where
  pub same : redate_outcome f h a ≡ b

module _ (f : ℕ → ℕ) (minima : (a b : ℕ) → f (min a b) ≡ min (f a) (f b)) where
  -- ---- outcomes

  to_done : {X Y : Type 0} {h : X → Y} {x : X} → Redates f h (done x) (done (h x))
  to_done = record { same = refl }

  to_refused : {X Y : Type 0} {h : X → Y} {n : ℕ} → Redates f h (refused n) (refused n)
  to_refused = record { same = refl }

  to_then : {X Y Z W : Type 0} {h : X → Y} {j : Z → W} {a : Outcome X} {b : Outcome Y} → Redates f h a b → (k : X → Outcome Z) (l : Y → Outcome W)
      → ((x : X) → Redates f j (k x) (l (h x))) → Redates f j (then a k) (then b l)
  to_then {X} {h} {j} {a} {b} d k l e = go a d.same
    where
      go : (x : Outcome X) → redate_outcome f h x ≡ b → Redates f j (then x k) (then b l)
      go (done y) p = rw (← p) (e y)
      go (violated n c o) p = rw (← p) (record { same = refl })
      go (refused n) p = rw (← p) to_refused

  to_needs : {X Y : Type 0} {h : X → Y} (b c : Bool) (n : ℕ) {k : Outcome X} {l : Outcome Y} → c ≡ b → Redates f h k l
      → Redates f h (needs b n k) (needs c n l)
  to_needs {h} b c n {k} {l} e d = rw e (go b)
    where
      go : (x : Bool) → Redates f h (needs x n k) (needs x n l)
      go true = d
      go false = to_refused

  -- a test on the edges
  to_fails : {X Y : Type 0} {h : X → Y} (r : Running) (p q : GEdge → Bool) (c : ℕ) {k : Outcome X} {l : Outcome Y}
      → ((x : GEdge) → q (redate_gedge f x) ≡ p x) → Redates f h k l
      → Redates f h (fails r p c k) (fails (redate_running f r) q c l)
  to_fails {h} r p q c {k} {l} e d = rw (lowest_redate f minima p q e r.graph.edges) (go (lowest_of p r.graph.edges))
    where
      go : (m : Option ℕ) → Redates f h (fails_at r.blurs m c k) (fails_at r.blurs (map f m) c l)
      go none = d
      go (some o) = record { same = refl }

  to_name : {X Y : Type 0} {h : X → Y} (g : Graph) (n : ℕ) {k : Outcome X} {l : Outcome Y} → Redates f h k l
      → Redates f h (needs_name g n k) (needs_name (redate_graph f g) n l)
  to_name g n d =
      to_needs (well_formed g && held g n) (well_formed (redate_graph f g) && held g n) 9 (ap (λ (b : Bool). b && held g n) (well_formed_redate f g)) d

  -- ---- core calls

  on_graph_redate : (r : Running) (a b : Ans Graph) → b ≡ map_ans (redate_graph f) a
      → Redates f (redate_running f) (on_graph r a) (on_graph (redate_running f r) b)
  on_graph_redate r a b e = rw e (go a)
    where
      go : (x : Ans Graph) → Redates f (redate_running f) (on_graph r x) (on_graph (redate_running f r) (map_ans (redate_graph f) x))
      go (ok g) = rw (blurs_redate f r.graph.edges g.edges) to_done
      go (refuse n) = to_refused

  new_ref_redate : (m : Bool) (r : Running) → Redates f (redate_running f) (new_ref m r) (new_ref m (redate_running f r))
  unfolding new_ref
  new_ref_redate m r =
      to_needs (ltb r.next u16_end) (ltb r.next u16_end) 9 refl
      (rw (new_name_redate f r.graph r.next m) (go (new_name r.graph r.next m)))
    where
      after : ℕ → Graph → Running
      after o g = record { locals = r.locals; graph = g; next = suc r.next; root = r.root; blurs = r.blurs; offset = o }

      go : (a : Ans Graph)
          → Redates f (redate_running f) (then (lift a) (λ g. done (after r.offset g))) (then (lift (map_ans (redate_graph f) a)) (λ g. done (after (f r.offset) g)))
      go (ok g) = to_done
      go (refuse n) = to_refused

  add_copy_redate : (p c : ℕ) (r : Running) → Redates f (redate_running f) (add_copy p c r) (add_copy p c (redate_running f r))
  unfolding add_copy
  add_copy_redate p c r = on_graph_redate r (borrow_strong r.graph p [] c r.offset) _ (borrow_strong_redate f r.graph p [] c r.offset)

  add_borrow_redate : (p c : ℕ) (r : Running) → Redates f (redate_running f) (add_borrow p c r) (add_borrow p c (redate_running f r))
  unfolding add_borrow
  add_borrow_redate p c r = on_graph_redate r (borrow_weak r.graph p [] c r.offset) _ (borrow_weak_redate f r.graph p [] c r.offset)

  add_field_borrow_redate : (p i c : ℕ) (r : Running) → Redates f (redate_running f) (add_field_borrow p i c r) (add_field_borrow p i c (redate_running f r))
  unfolding add_field_borrow
  add_field_borrow_redate p i c r =
      on_graph_redate r (borrow_strong r.graph p (field_label i ∷ []) c r.offset) _
      (borrow_strong_redate f r.graph p (field_label i ∷ []) c r.offset)

  add_local_borrow_redate : (i c : ℕ) (r : Running) → Redates f (redate_running f) (add_local_borrow i c r) (add_local_borrow i c (redate_running f r))
  unfolding add_local_borrow
  add_local_borrow_redate i c r =
      on_graph_redate r (borrow_strong r.graph r.root (local_label i ∷ []) c r.offset) _
      (borrow_strong_redate f r.graph r.root (local_label i ∷ []) c r.offset)

  add_resource_borrow_redate : (i c : ℕ) (r : Running)
      → Redates f (redate_running f) (add_resource_borrow i c r) (add_resource_borrow i c (redate_running f r))
  unfolding add_resource_borrow
  add_resource_borrow_redate i c r =
      on_graph_redate r (borrow_weak r.graph r.root (global_label i ∷ []) c r.offset) _
      (borrow_weak_redate f r.graph r.root (global_label i ∷ []) c r.offset)

  release_name_redate : (n : ℕ) (r : Running) → Redates f (redate_running f) (release_name n r) (release_name n (redate_running f r))
  unfolding release_name
  release_name_redate n r = on_graph_redate r (release r.graph n) _ (release_redate f r.graph n)

  -- ---- entry points

  value_for_redate : (t : Token) (r : Running) → Redates f (redate_answer f) (value_for t r) (value_for t (redate_running f r))
  unfolding value_for
  value_for_redate of_value r = to_done
  value_for_redate (of_ref m) r = to_then (new_ref_redate m r) _ _ (λ s. to_done)

  release_value_redate : (v : Operand) (r : Running) → Redates f (redate_running f) (release_value v r) (release_value v (redate_running f r))
  unfolding release_value
  release_value_redate non_ref r = to_done
  release_value_redate (reference n) r = release_name_redate n r

  copy_loc_redate : (i : ℕ) (r : Running) → Redates f (redate_answer f) (copy_loc i r) (copy_loc i (redate_running f r))
  unfolding copy_loc is_mutable
  copy_loc_redate i r = go (get_or r.locals i absent)
    where
      go : (x : Local) → Redates f (redate_answer f) (copy_of r i x) (copy_of (redate_running f r) i x)
      go absent = to_refused
      go value = to_name r.graph r.root (to_fails r _ _ _ (λ x. refl) to_done)
      go (ref n) =
          to_name r.graph n
          (to_then (new_ref_redate (is_mutable r.graph n) r) _ _ (λ s.
          to_then (add_copy_redate n r.next s) _ _ (λ t. to_done)))

  move_loc_redate : (i : ℕ) (r : Running) → Redates f (redate_answer f) (move_loc i r) (move_loc i (redate_running f r))
  unfolding move_loc
  move_loc_redate i r = go (get_or r.locals i absent)
    where
      go : (x : Local) → Redates f (redate_answer f) (move_of r i x) (move_of (redate_running f r) i x)
      go absent = to_refused
      go value = to_name r.graph r.root (to_fails r _ _ _ (λ x. refl) to_done)
      go (ref n) = to_done

  st_loc_redate : (i : ℕ) (v : Operand) (r : Running) → Redates f (redate_running f) (st_loc i v r) (st_loc i v (redate_running f r))
  unfolding st_loc
  st_loc_redate i v r = go (with_local r i (local_of v)) (get_or r.locals i absent)
    where
      go : (s : Running) (x : Local) → Redates f (redate_running f) (overwrite i s x) (overwrite i (redate_running f s) x)
      go s absent = to_done
      go s value = to_name s.graph s.root (to_fails s _ _ _ (λ x. refl) to_done)
      go s (ref n) = release_name_redate n s

  freeze_ref_redate : (n : ℕ) (r : Running) → Redates f (redate_answer f) (freeze_ref n r) (freeze_ref n (redate_running f r))
  unfolding freeze_ref is_mutable
  freeze_ref_redate n r =
      to_name r.graph n
      (to_needs (is_mutable r.graph n) (is_mutable r.graph n) 13 refl
      (to_fails r _ _ _ (λ x. refl)
      (to_then (new_ref_redate false r) _ _ (λ s.
      to_then (add_copy_redate n r.next s) _ _ (λ t.
      to_then (release_name_redate n t) _ _ (λ u. to_done))))))

  comparison_redate : (v w : Operand) (r : Running) → Redates f (redate_answer f) (comparison v w r) (comparison v w (redate_running f r))
  unfolding comparison is_mutable
  comparison_redate non_ref non_ref r = to_done
  comparison_redate non_ref (reference n) r = to_refused
  comparison_redate (reference m) non_ref r = to_refused
  comparison_redate (reference m) (reference n) r =
      to_name r.graph m
      (to_fails r _ _ _ (λ x. refl)
      (to_name r.graph n
      (to_fails r _ _ _ (λ x. refl)
      (to_then (release_name_redate m r) _ _ (λ s.
      to_then (release_name_redate n s) _ _ (λ t. to_done))))))

  read_ref_redate : (n : ℕ) (r : Running) → Redates f (redate_answer f) (read_ref n r) (read_ref n (redate_running f r))
  unfolding read_ref is_mutable
  read_ref_redate n r =
      to_name r.graph n
      (to_fails r _ _ _ (λ x. refl)
      (to_then (release_name_redate n r) _ _ (λ s. to_done)))

  write_ref_redate : (n : ℕ) (r : Running) → Redates f (redate_running f) (write_ref n r) (write_ref n (redate_running f r))
  unfolding write_ref is_mutable
  write_ref_redate n r =
      to_name r.graph n
      (to_needs (is_mutable r.graph n) (is_mutable r.graph n) 13 refl
      (to_fails r _ _ _ (λ x. refl) (release_name_redate n r)))

  borrow_loc_redate : (m : Bool) (i : ℕ) (r : Running) → Redates f (redate_answer f) (borrow_loc m i r) (borrow_loc m i (redate_running f r))
  unfolding borrow_loc is_mutable
  borrow_loc_redate m i r =
      to_name r.graph r.root
      (to_fails r _ _ _ (λ x. refl)
      (to_then (new_ref_redate m r) _ _ (λ s.
      to_then (add_local_borrow_redate i r.next s) _ _ (λ t. to_done))))

  borrow_field_redate : (m : Bool) (n i : ℕ) (r : Running) → Redates f (redate_answer f) (borrow_field m n i r) (borrow_field m n i (redate_running f r))
  unfolding borrow_field is_mutable
  borrow_field_redate m n i r =
      to_name r.graph n
      (to_fails r _ _ _ (λ x. refl)
      (to_then (new_ref_redate m r) _ _ (λ s.
      to_then (add_field_borrow_redate n i r.next s) _ _ (λ t.
      to_then (release_name_redate n t) _ _ (λ u. to_done)))))

  borrow_global_redate : (m : Bool) (i : ℕ) (r : Running) → Redates f (redate_answer f) (borrow_global m i r) (borrow_global m i (redate_running f r))
  unfolding borrow_global is_mutable
  borrow_global_redate m i r =
      to_name r.graph r.root
      (to_fails r _ _ _ (λ x. refl)
      (to_then (new_ref_redate m r) _ _ (λ s.
      to_then (add_resource_borrow_redate i r.next s) _ _ (λ t. to_done))))

  move_from_redate : (i : ℕ) (r : Running) → Redates f (redate_answer f) (move_from i r) (move_from i (redate_running f r))
  unfolding move_from
  move_from_redate i r = to_name r.graph r.root (to_fails r _ _ _ (λ x. refl) to_done)

  vector_test_redate : {X Y : Type 0} {h : X → Y} (m : Bool) (r : Running) (n c : ℕ) {k : Outcome X} {l : Outcome Y} → Redates f h k l
      → Redates f h (vector_test m r n c k) (vector_test m (redate_running f r) n c l)
  unfolding is_mutable
  vector_test_redate true r n c d = to_needs (is_mutable r.graph n) (is_mutable r.graph n) 13 refl (to_fails r _ _ _ (λ x. refl) d)
  vector_test_redate false r n c d = d

  vector_op_redate : (v : Operand) (m : Bool) (r : Running) → Redates f (redate_running f) (vector_op v m r) (vector_op v m (redate_running f r))
  unfolding vector_op
  vector_op_redate non_ref m r = to_refused
  vector_op_redate (reference n) m r = to_name r.graph n (vector_test_redate m r n _ (release_name_redate n r))

  vector_element_borrow_redate : (v : Operand) (m : Bool) (r : Running)
      → Redates f (redate_answer f) (vector_element_borrow v m r) (vector_element_borrow v m (redate_running f r))
  unfolding vector_element_borrow
  vector_element_borrow_redate non_ref m r = to_refused
  vector_element_borrow_redate (reference n) m r =
      to_name r.graph n
      (vector_test_redate m r n _
      (to_then (new_ref_redate m r) _ _ (λ s.
      to_then (add_borrow_redate n r.next s) _ _ (λ t.
      to_then (release_name_redate n t) _ _ (λ u. to_done)))))

  -- ---- call and return

  release_all_redate : (ns : List ℕ) (r : Running) → Redates f (redate_running f) (release_all ns r) (release_all ns (redate_running f r))
  unfolding release_all
  release_all_redate [] r = to_done
  release_all_redate (n ∷ ns) r = to_then (release_name_redate n r) _ _ (λ s. release_all_redate ns s)

  borrow_from_redate : (ps : List ℕ) (c : ℕ) (r : Running) → Redates f (redate_running f) (borrow_from ps c r) (borrow_from ps c (redate_running f r))
  unfolding borrow_from
  borrow_from_redate [] c r = to_done
  borrow_from_redate (p ∷ ps) c r = to_then (add_borrow_redate p c r) _ _ (λ s. borrow_from_redate ps c s)

  hand_over_redate : {X Y : Type 0} {h : X → Y} (ns : List ℕ) (c : ℕ) (r : Running) {k : Outcome X} {l : Outcome Y} → Redates f h k l
      → Redates f h (hand_over ns c r k) (hand_over ns c (redate_running f r) l)
  unfolding hand_over is_mutable
  hand_over_redate [] c r d = d
  hand_over_redate (n ∷ ns) c r d = to_name r.graph n (to_fails r _ _ _ (λ x. refl) (hand_over_redate ns c r d))

  none_borrowed_redate : {X Y : Type 0} {h : X → Y} (is : List ℕ) (r : Running) {k : Outcome X} {l : Outcome Y} → Redates f h k l
      → Redates f h (none_borrowed is r k) (none_borrowed is (redate_running f r) l)
  unfolding none_borrowed
  none_borrowed_redate [] r d = d
  none_borrowed_redate (i ∷ is) r d = to_fails r _ _ _ (λ x. refl) (none_borrowed_redate is r d)

  not_acquired_redate : {X Y : Type 0} {h : X → Y} (is : List ℕ) (r : Running) {k : Outcome X} {l : Outcome Y} → Redates f h k l
      → Redates f h (not_acquired is r k) (not_acquired is (redate_running f r) l)
  unfolding not_acquired
  not_acquired_redate is r d = to_name r.graph r.root (none_borrowed_redate (ascend is) r d)

  return_values_redate : (ts : List Token) (muts alls : List ℕ) (r : Running)
      → Redates f (redate_answers f) (return_values ts muts alls r) (return_values ts muts alls (redate_running f r))
  unfolding return_values
  return_values_redate [] muts alls r = to_done
  return_values_redate (of_value ∷ ts) muts alls r = to_then (return_values_redate ts muts alls r) _ _ (λ a. to_done)
  return_values_redate (of_ref m ∷ ts) muts alls r =
      to_then (new_ref_redate m r) _ _ (λ s.
      to_then (borrow_from_redate (parents_of m muts alls) r.next s) _ _ (λ t.
      to_then (return_values_redate ts muts alls t) _ _ (λ a. to_done)))

  call_redate : (args : List Operand) (acquired : List ℕ) (ts : List Token) (r : Running)
      → Redates f (redate_answers f) (call args acquired ts r) (call args acquired ts (redate_running f r))
  unfolding call is_mutable
  call_redate args acquired ts r =
      not_acquired_redate acquired r
      (hand_over_redate (operand_names args) _ r
      (to_then (return_values_redate ts (keep (is_mutable r.graph) (ascend (operand_names args))) (ascend (operand_names args)) r) _ _ (λ a.
      to_then (release_all_redate (ascend (operand_names args)) a.state) _ _ (λ s. to_done))))

  ret_redate : (vs : List Operand) (r : Running) → Redates f (redate_running f) (ret vs r) (ret vs (redate_running f r))
  unfolding ret
  ret_redate vs r =
      to_then (release_all_redate (ascend (local_names r.locals)) r) _ _ (λ s.
      to_name s.graph s.root
      (to_fails s _ _ _ (λ x. refl)
      (hand_over_redate (operand_names vs) _ s to_done)))

  -- ---- the stack: what goes on agrees, so the whole does

  module _ {X Y : Type 0} (h : X → Y) where
    pop_redate : (vs : List Operand) (k : Operand → List Operand → Outcome X) (l : Operand → List Operand → Outcome Y)
        → ((v : Operand) (ws : List Operand) → Redates f h (k v ws) (l v ws)) → Redates f h (pop vs k) (pop vs l)
    pop_redate [] k l e = to_refused
    pop_redate (v ∷ vs) k l e = e v vs

    pop_ref_redate : (vs : List Operand) (k : ℕ → List Operand → Outcome X) (l : ℕ → List Operand → Outcome Y)
        → ((n : ℕ) (ws : List Operand) → Redates f h (k n ws) (l n ws)) → Redates f h (pop_ref vs k) (pop_ref vs l)
    pop_ref_redate [] k l e = to_refused
    pop_ref_redate (non_ref ∷ vs) k l e = to_refused
    pop_ref_redate (reference n ∷ vs) k l e = e n vs

    pop_value_redate : (vs : List Operand) (k : List Operand → Outcome X) (l : List Operand → Outcome Y)
        → ((ws : List Operand) → Redates f h (k ws) (l ws)) → Redates f h (pop_value vs k) (pop_value vs l)
    pop_value_redate [] k l e = to_refused
    pop_value_redate (non_ref ∷ vs) k l e = e vs
    pop_value_redate (reference n ∷ vs) k l e = to_refused

    pop_values_redate : (n : ℕ) (vs : List Operand) (k : List Operand → Outcome X) (l : List Operand → Outcome Y)
        → ((ws : List Operand) → Redates f h (k ws) (l ws)) → Redates f h (pop_values n vs k) (pop_values n vs l)
    unfolding pop_values
    pop_values_redate zero vs k l e = e vs
    pop_values_redate (suc n) vs k l e = pop_value_redate vs _ _ (λ ws. pop_values_redate n ws k l e)

    pop_many_redate : (n : ℕ) (taken vs : List Operand) (k : List Operand → List Operand → Outcome X) (l : List Operand → List Operand → Outcome Y)
        → ((us ws : List Operand) → Redates f h (k us ws) (l us ws))
        → Redates f h (pop_many n taken vs k) (pop_many n taken vs l)
    unfolding pop_many
    pop_many_redate zero taken vs k l e = e taken vs
    pop_many_redate (suc n) taken vs k l e = pop_redate vs _ _ (λ v ws. pop_many_redate n (v ∷ taken) ws k l e)

  push_redate : (vs : List Operand) (v : Operand) (r : Running) → Redates f (redate_machine f) (push vs v r) (push vs v (redate_running f r))
  unfolding push
  push_redate vs v r = to_needs (ltb (length vs) max_operands) (ltb (length vs) max_operands) 20 refl to_done

  pushed_redate : (vs : List Operand) {a b : Outcome Answer} → Redates f (redate_answer f) a b
      → Redates f (redate_machine f) (pushed vs a) (pushed vs b)
  pushed_redate vs d = to_then d _ _ (λ x. push_redate vs x.operand x.state)

  push_all_redate : (vs ws : List Operand) (r : Running) → Redates f (redate_machine f) (push_all vs ws r) (push_all vs ws (redate_running f r))
  unfolding push_all
  push_all_redate vs [] r = to_done
  push_all_redate vs (v ∷ ws) r = to_then (push_redate vs v r) _ _ (λ m. push_all_redate m.stack ws m.state)

  push_new_redate : (n : ℕ) (t : Token) (vs : List Operand) (r : Running)
      → Redates f (redate_machine f) (push_new n t vs r) (push_new n t vs (redate_running f r))
  unfolding push_new
  push_new_redate zero t vs r = to_done
  push_new_redate (suc n) t vs r = to_then (pushed_redate vs (value_for_redate t r)) _ _ (λ m. push_new_redate n t m.stack m.state)

  unchanged_redate : (vs : List Operand) {a b : Outcome Running} → Redates f (redate_running f) a b
      → Redates f (redate_machine f) (unchanged vs a) (unchanged vs b)
  unchanged_redate vs d = to_then d _ _ (λ r. to_done)

  -- ---- one instruction

  step_on_redate : (returns : ℕ) (i : Instr) (vs : List Operand) (r : Running)
      → Redates f (redate_machine f) (step_on returns i vs r) (step_on returns i vs (redate_running f r))
  step_on_redate returns Pop vs r = pop_redate (redate_machine f) vs _ _ (λ v ws. unchanged_redate ws (release_value_redate v r))
  step_on_redate returns (CopyLoc i) vs r = pushed_redate vs (copy_loc_redate i r)
  step_on_redate returns (MoveLoc i) vs r = pushed_redate vs (move_loc_redate i r)
  step_on_redate returns (StLoc i) vs r = pop_redate (redate_machine f) vs _ _ (λ v ws. unchanged_redate ws (st_loc_redate i v r))
  step_on_redate returns FreezeRef vs r = pop_ref_redate (redate_machine f) vs _ _ (λ n ws. pushed_redate ws (freeze_ref_redate n r))
  step_on_redate returns Compare vs r =
      pop_redate (redate_machine f) vs _ _ (λ v ws. pop_redate (redate_machine f) ws _ _ (λ w us. pushed_redate us (comparison_redate v w r)))
  step_on_redate returns ReadRef vs r = pop_ref_redate (redate_machine f) vs _ _ (λ n ws. pushed_redate ws (read_ref_redate n r))
  step_on_redate returns WriteRef vs r =
      pop_ref_redate (redate_machine f) vs _ _ (λ n ws. pop_value_redate (redate_machine f) ws _ _ (λ us. unchanged_redate us (write_ref_redate n r)))
  step_on_redate returns (BorrowLoc i m) vs r = pushed_redate vs (borrow_loc_redate m i r)
  step_on_redate returns (BorrowField i m) vs r = pop_ref_redate (redate_machine f) vs _ _ (λ n ws. pushed_redate ws (borrow_field_redate m n i r))
  step_on_redate returns (BorrowGlobal i m) vs r = pop_value_redate (redate_machine f) vs _ _ (λ ws. pushed_redate ws (borrow_global_redate m i r))
  step_on_redate returns (MoveFrom i) vs r = pop_value_redate (redate_machine f) vs _ _ (λ ws. pushed_redate ws (move_from_redate i r))
  step_on_redate returns (Call params acquired ts) vs r =
      pop_many_redate (redate_machine f) params [] vs _ _ (λ args ws.
      to_then (call_redate args acquired ts r) _ _ (λ a. push_all_redate ws a.operands a.state))
  step_on_redate returns Ret vs r = pop_many_redate (redate_machine f) returns [] vs _ _ (λ us ws. unchanged_redate ws (ret_redate us r))
  step_on_redate returns (Values takes pushes t) vs r = pop_values_redate (redate_machine f) takes vs _ _ (λ ws. push_new_redate pushes t ws r)
  step_on_redate returns MoveTo vs r =
      pop_value_redate (redate_machine f) vs _ _ (λ ws. pop_redate (redate_machine f) ws _ _ (λ v us. unchanged_redate us (release_value_redate v r)))
  step_on_redate returns (VectorOp takes m pushes t) vs r =
      pop_values_redate (redate_machine f) takes vs _ _ (λ ws. pop_redate (redate_machine f) ws _ _ (λ v us.
      to_then (vector_op_redate v m r) _ _ (λ s. push_new_redate pushes t us s)))
  step_on_redate returns (BorrowElement m) vs r =
      pop_value_redate (redate_machine f) vs _ _ (λ ws. pop_redate (redate_machine f) ws _ _ (λ v us.
      pushed_redate us (vector_element_borrow_redate v m r)))

  pub step_redate : (returns : ℕ) (i : Instr) (m : Machine) → Redates f (redate_machine f) (step returns i m) (step returns i (redate_machine f m))
  unfolding step
  step_redate returns i m = step_on_redate returns i m.stack m.state

-- ---- a state without offsets

-- its test fails where some edge fails it, as before A9
pub fails_undated : {A : Type 0} (r : Running) (p q : GEdge → Bool) (c : ℕ) (k : Outcome A) → ((x : GEdge) → q (redate_gedge (λ o. 0) x) ≡ p x)
    → fails (redate_running (λ o. 0) r) q c k ≡ cond (any p r.graph.edges) (violated r.blurs c 0) k
fails_undated r p q c k e =
    rw (lowest_redate (λ o. 0) (λ a b. refl) p q e r.graph.edges, ← (lowest_some p r.graph.edges)) (go (lowest_of p r.graph.edges))
  where
    go : (m : Option ℕ) → fails_at r.blurs (map (λ o. 0) m) c k ≡ cond (is_some m) (violated r.blurs c 0) k
    go none = refl
    go (some o) = refl
