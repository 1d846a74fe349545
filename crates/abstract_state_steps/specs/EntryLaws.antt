-- The entry points as the code makes them: one call after the other, each on the state that the last one left.
use Rattle.std.specs.Prelude.{◌≡◌, ℕ, Bool, true, false, cond, ◌&&◌, ◌==◌, nat_lt, slice_index_or}
use Rattle.std.proofs.Math.Path.{refl, ap}
use Rattle.std.proofs.Common.{sym, ◌∙◌}
use Rattle.std.specs.Prelude as P
use Rattle.std.proofs.Math.Option.{Option, none, some}
use Rattle.meaning.specs.Answers.{Ans, ok, refuse, guard, Outcome, done, refused, then, fails_at, needs}
use Rattle.meaning.proofs.Laws.Base.{ok_inj, refuse≢ok}
use Rattle.meaning.specs.Labels.{local_label, global_label}
use Rattle.meaning.specs.BorrowGraph.{Graph, GEdge, well_formed, held, is_mutable, borrows, borrows_mutably, lowest_of}
use Rattle.meaning.specs.BorrowGraph as L
use Rattle.meaning.specs.AbstractState.{Local, absent, value, ref, Operand, non_ref, reference, of_ref}
use Rattle.meaning.specs.EntryPoints.{needs_name, Running, Answer, answer, with_local, fails, bars_reading, bars_local_borrow, bars_field_borrow, bars_resource_borrow, new_ref, add_copy, add_borrow, add_field_borrow}
use Rattle.meaning.specs.EntryPoints.{add_local_borrow, add_resource_borrow, release_name, value_for, copy_of, copy_loc, move_of, move_loc, local_of, overwrite}
use Rattle.meaning.specs.EntryPoints.{st_loc, freeze_ref, comparison, read_ref, write_ref, borrow_loc, borrow_field, borrow_global, move_from, vector_test}
use Rattle.meaning.specs.EntryPoints.{vector_op, vector_element_borrow}
use Rattle.std.specs.Prelude.{Result, Ok, Err}
use Rattle.std.specs.Result.{result_unwrap_or}
use Rattle.vm_status.specs.declared.Refusal.{Refusal}
use Rattle.borrow_graph.specs.Models.{told_of}
use Rattle.abstract_state.specs.Models as M
use Rattle.abstract_state.specs.Models.{heeding, failing, needing, operand_of}
use Rattle.abstract_state.specs.declared.state.AbstractValue.{AbstractValue}
use Rattle.abstract_state.specs.ModelLaws.{then_done, under, heed_at, fail_at, known_then, fails_then, made}

-- ---- questions of a name, on the state that was asked

module _ {A : Type 0} (g : Graph) (n : ℕ) (b : Bool) (r : Running) (k : Running → Outcome A) where
  pub need_at : (c : ℕ) → (c == 0) ≡ false → then (needing (L.of_name g n b) c r) k ≡ needs_name g n (needs b c (k r))
  need_at c z = go (well_formed g && held g n) b
    where
      go : (x y : Bool) → then (needing (guard x 9 (ok y)) c r) k ≡ needs x 9 (needs y c (k r))
      go true true = refl
      go true false = rw z refl
      go false y = refl

abbrev number : {A : Type 0} → Ans A → ℕ
number (ok a) = 0
number (refuse n) = n

-- the answer itself goes into what follows
pub heed_told : {A : Type 0} (g : Graph) (n : ℕ) (m : Result Bool Refusal) (y : Bool) (r : Running) (k : Bool → Running → Outcome A) → told_of m ≡ L.of_name g n y
    → then (heeding (told_of m) r) (k (result_unwrap_or m false)) ≡ needs_name g n (k y r)
heed_told {A} g n m y r k e = go m (well_formed g && held g n) e
  where
    go : (t : Result Bool Refusal) (x : Bool) → told_of t ≡ guard x 9 (ok y) → then (heeding (told_of t) r) (k (result_unwrap_or t false)) ≡ needs x 9 (k y r)
    go (Ok b) true e = ap (λ (c : Bool). k c r) (ok_inj e)
    go (Ok b) false e = absurd (refuse≢ok (sym e))
    go (Err z) true e = absurd (refuse≢ok e)
    go (Err z) false e = ap {B = Outcome A} refused (ap number e)

module _ {A : Type 0} (g : Graph) (n : ℕ) where
  -- known once, known again
  pub known_needs : (b : Bool) (c : ℕ) (k : Outcome A) → needs_name g n (needs b c (needs_name g n k)) ≡ needs_name g n (needs b c k)
  known_needs b c k = go (well_formed g && held g n)
    where
      go : (x : Bool) → needs x 9 (needs b c (needs x 9 k)) ≡ needs x 9 (needs b c k)
      go true = refl
      go false = refl

  pub known_under : (k l : Outcome A) → k ≡ l → needs_name g n k ≡ needs_name g n l
  known_under k l e = ap (λ (o : Outcome A). needs_name g n o) e

pub vector_then : {A B : Type 0} (m : Bool) (r : Running) (n c : ℕ) (k : Outcome A) (f : A → Outcome B) → then (vector_test m r n c k) f ≡ vector_test m r n c (then k f)
vector_then {A} {B} true r n c k f = go (is_mutable r.graph n) (lowest_of (borrows n none) r.graph.edges)
  where
    go : (x : Bool) (l : Option ℕ) → then (needs x 13 (fails_at r.blurs l c k)) f ≡ needs x 13 (fails_at r.blurs l c (then k f))
    go true l = fails_then r.blurs l c k f
    go false l = refl
vector_then false r n c k f = refl

pub fails_under : {A : Type 0} (r : Running) (p : GEdge → Bool) (c : ℕ) (k l : Outcome A) → k ≡ l → fails r p c k ≡ fails r p c l
fails_under {A} r p c k l e = ap (λ (o : Outcome A). fails r p c o) e

pub needs_under : {A : Type 0} (b : Bool) (c : ℕ) (k l : Outcome A) → k ≡ l → needs b c k ≡ needs b c l
needs_under {A} b c k l e = ap (λ (o : Outcome A). needs b c o) e

-- ---- a new name, and what is done with it

-- a new reference x borrows as `f` says, and is the answer
abbrev pub lend : (ℕ → Running → Outcome Running) → ℕ → Running → Outcome Answer
lend f x s = then (f x s) (λ t. answer t (reference x))

-- then the reference n, which it was borrowed from, is released
abbrev pub pass : (ℕ → Running → Outcome Running) → ℕ → ℕ → Running → Outcome Answer
pass f n x s = then (f x s) (λ t. then (release_name n t) (λ u. answer u (reference x)))

-- ---- the entry points, on the state r that goes on

-- what a local holds, as the code sees it
pub local_told : (x : P.Option AbstractValue) (v w : AbstractValue) (l : Local) → M.local_of x ≡ l → x ≡ P.Some v → v ≡ w → l ≡ local_of (operand_of w)
local_told x v w l e p q = sym e ∙ ap M.local_of (p ∙ ap P.Some q)

pub local_absent : (x : P.Option AbstractValue) (l : Local) → M.local_of x ≡ l → x ≡ P.None → l ≡ absent
local_absent x l e p = sym e ∙ ap M.local_of p

-- `x` is the name that the code foresees
module _ (r : Running) (x : ℕ) (z : x ≡ cond (nat_lt r.next 65536) r.next 0) where
  pub value_at : (m : Bool) → then (new_ref m r) (λ s. answer s (reference x)) ≡ value_for (of_ref m) r
  unfolding value_for
  value_at m = made m r x (λ y s. answer s (reference y)) z

  pub copy_at : (k : ℕ) (m : Result Bool Refusal) → told_of m ≡ L.of_name r.graph k (is_mutable r.graph k)
      → then (heeding (told_of m) r) (λ t. then (new_ref (result_unwrap_or m false) t) (lend (add_copy k) x)) ≡ copy_of r 0 (ref k)
  copy_at k m e =
      heed_told r.graph k m (is_mutable r.graph k) r (λ c t. then (new_ref c t) (lend (add_copy k) x)) e
      ∙ known_under r.graph k _ _ (made (is_mutable r.graph k) r x (lend (add_copy k)) z)

  pub freeze_at : (k : ℕ) (t : Ans Bool) (u : Ans (Option ℕ)) → t ≡ L.of_name r.graph k (is_mutable r.graph k)
      → u ≡ L.of_name r.graph k (lowest_of (borrows_mutably r.graph k none) r.graph.edges)
      → then (needing t 13 r) (λ s. then (failing u 104 s) (λ s. then (new_ref false s) (pass (add_copy k) k x))) ≡ freeze_ref k r
  unfolding freeze_ref
  freeze_at k t u e h =
      let g : Graph = r.graph in
      let b : Bool = is_mutable g k in
      let p : (GEdge → Bool) = borrows_mutably g k none in
      let l : Option ℕ = lowest_of p g.edges in
      rw (e, h)
      (need_at g k b r (λ s. then (failing (L.of_name g k l) 104 s) (λ s. then (new_ref false s) (pass (add_copy k) k x))) 13 refl
      ∙ known_under g k _ _ (needs_under b 13 _ _ (fail_at g k l r (λ s. then (new_ref false s) (pass (add_copy k) k x)) 104 refl))
      ∙ known_needs g k b 13 (fails r p 104 (then (new_ref false r) (pass (add_copy k) k x)))
      ∙ known_under g k _ _ (needs_under b 13 _ _ (fails_under r p 104 _ _ (made false r x (pass (add_copy k) k) z))))

  pub borrow_loc_at : (m : Bool) (i : ℕ) (t : Ans (Option ℕ)) → t ≡ L.of_name r.graph r.root (lowest_of (bars_local_borrow m r.graph r.root i) r.graph.edges)
      → then (failing t 107 r) (λ s. then (new_ref m s) (lend (add_local_borrow i) x)) ≡ borrow_loc m i r
  unfolding borrow_loc
  borrow_loc_at m i t e =
      let p : (GEdge → Bool) = bars_local_borrow m r.graph r.root i in
      rw e
      (fail_at r.graph r.root (lowest_of p r.graph.edges) r (λ s. then (new_ref m s) (lend (add_local_borrow i) x)) 107 refl
      ∙ known_under r.graph r.root _ _ (fails_under r p 107 _ _ (made m r x (lend (add_local_borrow i)) z)))

  -- a test of the name k, then a new reference and what `f` does with it
  tested_then : (k : ℕ) (p : GEdge → Bool) (c : ℕ) (m : Bool) (f : ℕ → Running → Outcome Answer)
      → then (needs_name r.graph k (fails r p c (done r))) (λ s. then (new_ref m s) (f x)) ≡ needs_name r.graph k (fails r p c (then (new_ref m r) (f r.next)))
  tested_then k p c m f =
      known_then r.graph k (fails r p c (done r)) (λ s. then (new_ref m s) (f x))
      ∙ known_under r.graph k _ _
      (fails_then r.blurs (lowest_of p r.graph.edges) c (done r) (λ s. then (new_ref m s) (f x)) ∙ fails_under r p c _ _ (made m r x f z))

  pub borrow_global_at : (m : Bool) (i : ℕ)
      → then (needs_name r.graph r.root (fails r (bars_resource_borrow m r.graph r.root i) 109 (done r))) (λ s. then (new_ref m s) (lend (add_resource_borrow i) x))
      ≡ borrow_global m i r
  unfolding borrow_global
  borrow_global_at m i = tested_then r.root (bars_resource_borrow m r.graph r.root i) 109 m (lend (add_resource_borrow i))

  pub borrow_field_at : (m : Bool) (k i : ℕ)
      → then (needs_name r.graph k (fails r (bars_field_borrow m r.graph k i) 108 (done r))) (λ s. then (new_ref m s) (pass (add_field_borrow k i) k x)) ≡ borrow_field m k i r
  unfolding borrow_field
  borrow_field_at m k i = tested_then k (bars_field_borrow m r.graph k i) 108 m (pass (add_field_borrow k i) k)

  pub element_at : (m : Bool) (k : ℕ) → then (needs_name r.graph k (vector_test m r k 111 (done r))) (λ s. then (new_ref m s) (pass (add_borrow k) k x)) ≡ vector_element_borrow (reference k) m r
  unfolding vector_element_borrow
  element_at m k =
      known_then r.graph k (vector_test m r k 111 (done r)) (λ s. then (new_ref m s) (pass (add_borrow k) k x))
      ∙ known_under r.graph k _ _ (vector_then m r k 111 (done r) (λ s. then (new_ref m s) (pass (add_borrow k) k x)) ∙ ap {B = Outcome Answer} (λ (o : Outcome Answer). vector_test m r k 111 o) (made m r x (pass (add_borrow k) k) z))

module _ (r : Running) where
  pub copy_over : (i : ℕ) (l : Local) → slice_index_or r.locals i absent ≡ l → copy_of r i l ≡ copy_loc i r
  unfolding copy_loc
  copy_over i l e = ap (copy_of r i) (sym e)

  pub copy_value : (i : ℕ) (t : Ans (Option ℕ)) → slice_index_or r.locals i absent ≡ value
      → t ≡ L.of_name r.graph r.root (lowest_of (borrows_mutably r.graph r.root (some (local_label i))) r.graph.edges)
      → then (failing t 101 r) (λ s. answer s non_ref) ≡ copy_loc i r
  copy_value i t l e = rw e (fail_at r.graph r.root (lowest_of (borrows_mutably r.graph r.root (some (local_label i))) r.graph.edges) r (λ s. answer s non_ref) 101 refl ∙ copy_over i value l)

  pub move_over : (i : ℕ) (l : Local) → slice_index_or r.locals i absent ≡ l → move_of r i l ≡ move_loc i r
  unfolding move_loc
  move_over i l e = ap (move_of r i) (sym e)

  pub move_value : (i : ℕ) (t : Ans (Option ℕ)) → slice_index_or r.locals i absent ≡ value
      → t ≡ L.of_name r.graph r.root (lowest_of (borrows r.root (some (local_label i))) r.graph.edges)
      → then (failing t 102 r) (λ s. answer (with_local s i absent) non_ref) ≡ move_loc i r
  move_value i t l e =
      rw e
      (fail_at r.graph r.root (lowest_of (borrows r.root (some (local_label i))) r.graph.edges) r (λ s. answer (with_local s i absent) non_ref) 102 refl
      ∙ move_over i value l)

  pub store_over : (i : ℕ) (w : Operand) (l : Local) → slice_index_or r.locals i absent ≡ l → overwrite i (with_local r i (local_of w)) l ≡ st_loc i w r
  unfolding st_loc
  store_over i w l e = ap (overwrite i (with_local r i (local_of w))) (sym e)

  pub store_value : (i : ℕ) (w : Operand) (t : Ans (Option ℕ)) → slice_index_or r.locals i absent ≡ value
      → t ≡ L.of_name r.graph r.root (lowest_of (borrows r.root (some (local_label i))) r.graph.edges)
      → failing t 103 (with_local r i (local_of w)) ≡ st_loc i w r
  store_value i w t l e =
      let b : Option ℕ = lowest_of (borrows r.root (some (local_label i))) r.graph.edges in
      rw e
      (then_done (failing (L.of_name r.graph r.root b) 103 (with_local r i (local_of w)))
      ∙ fail_at r.graph r.root b (with_local r i (local_of w)) done 103 refl
      ∙ store_over i w value l)

  -- a test alone
  pub test_at : (k c : ℕ) (p : GEdge → Bool) (t : Ans (Option ℕ)) → (c == 0) ≡ false → t ≡ L.of_name r.graph k (lowest_of p r.graph.edges)
      → failing t c r ≡ needs_name r.graph k (fails r p c (done r))
  test_at k c p t z e =
      rw e (then_done (failing (L.of_name r.graph k (lowest_of p r.graph.edges)) c r) ∙ fail_at r.graph k (lowest_of p r.graph.edges) r done c z)

  pub unreadable_then : {A : Type 0} (k : ℕ) (at : Option ℕ) (c : ℕ) (f : Running → Outcome A)
      → then (needs_name r.graph k (fails r (bars_reading r.graph k at) c (done r))) f ≡ needs_name r.graph k (fails r (bars_reading r.graph k at) c (f r))
  unreadable_then k at c f =
      known_then r.graph k (fails r (bars_reading r.graph k at) c (done r)) f
      ∙ known_under r.graph k _ _ (fails_then r.blurs (lowest_of (bars_reading r.graph k at) r.graph.edges) c (done r) f)

  pub read_at : (k : ℕ) → then (needs_name r.graph k (fails r (bars_reading r.graph k none) 105 (done r))) (λ s. then (release_name k s) (λ t. answer t non_ref)) ≡ read_ref k r
  unfolding read_ref
  read_at k = unreadable_then k none 105 (λ s. then (release_name k s) (λ t. answer t non_ref))

  -- a mutable reference with no borrow, then f
  pub writable_then : {A : Type 0} (k c : ℕ) (t : Ans Bool) (u : Ans (Option ℕ)) (f : Running → Outcome A) → (c == 0) ≡ false
      → t ≡ L.of_name r.graph k (is_mutable r.graph k) → u ≡ L.of_name r.graph k (lowest_of (borrows k none) r.graph.edges)
      → then (needing t 13 r) (λ s. then (failing u c s) f) ≡ needs_name r.graph k (vector_test true r k c (f r))
  writable_then {A} k c t u f z e h =
      let g : Graph = r.graph in
      let b : Bool = is_mutable g k in
      let l : Option ℕ = lowest_of (borrows k none) g.edges in
      rw (e, h)
      (need_at g k b r (λ s. then (failing (L.of_name g k l) c s) f) 13 refl
      ∙ known_under g k _ _ (needs_under b 13 _ _ (fail_at g k l r f c z))
      ∙ known_needs g k b 13 (fails_at r.blurs l c (f r)))

  pub write_at : (k : ℕ) (t : Ans Bool) (u : Ans (Option ℕ)) → t ≡ L.of_name r.graph k (is_mutable r.graph k)
      → u ≡ L.of_name r.graph k (lowest_of (borrows k none) r.graph.edges)
      → then (needing t 13 r) (λ s. then (failing u 106 s) (release_name k)) ≡ write_ref k r
  unfolding write_ref
  write_at k t u e h = writable_then k 106 t u (release_name k) refl e h

  pub vector_mutable : (k c : ℕ) (t : Ans Bool) (u : Ans (Option ℕ)) → (c == 0) ≡ false → t ≡ L.of_name r.graph k (is_mutable r.graph k)
      → u ≡ L.of_name r.graph k (lowest_of (borrows k none) r.graph.edges)
      → then (needing t 13 r) (failing u c) ≡ needs_name r.graph k (vector_test true r k c (done r))
  vector_mutable k c t u z e h =
      under (needing t 13 r) (failing u c) (λ s. then (failing u c s) done) (λ s. then_done (failing u c s)) ∙ writable_then k c t u done z e h

  pub heed_alone : (k : ℕ) (b : Bool) (t : Ans Bool) → t ≡ L.of_name r.graph k b → heeding t r ≡ needs_name r.graph k (done r)
  heed_alone k b t e = rw e (then_done (heeding (L.of_name r.graph k b) r) ∙ heed_at r.graph k b r done)

  pub move_from_at : (i : ℕ) (t : Ans (Option ℕ)) → t ≡ L.of_name r.graph r.root (lowest_of (borrows r.root (some (global_label i))) r.graph.edges)
      → then (failing t 109 r) (λ s. answer s non_ref) ≡ move_from i r
  unfolding move_from
  move_from_at i t e = rw e (fail_at r.graph r.root (lowest_of (borrows r.root (some (global_label i))) r.graph.edges) r (λ s. answer s non_ref) 109 refl)

  pub vector_op_at : (m : Bool) (k : ℕ) → then (needs_name r.graph k (vector_test m r k 110 (done r))) (release_name k) ≡ vector_op (reference k) m r
  unfolding vector_op
  vector_op_at m k =
      known_then r.graph k (vector_test m r k 110 (done r)) (release_name k)
      ∙ known_under r.graph k _ _ (vector_then m r k 110 (done r) (release_name k))

-- the state goes on where the reference is readable
abbrev pub unreadable : ℕ → Option ℕ → ℕ → Running → Outcome Running
unreadable k at c s = needs_name s.graph k (fails s (bars_reading s.graph k at) c (done s))

pub compare_at : (r : Running) (j k : ℕ)
    → then (unreadable j none 105 r) (λ s. then (unreadable k none 105 s) (λ t. then (release_name j t) (λ u. then (release_name k u) (λ v. answer v non_ref)))) ≡ comparison (reference j) (reference k) r
unfolding comparison
compare_at r j k =
    let end : Running → Outcome Answer = λ s. then (release_name j s) (λ t. then (release_name k t) (λ u. answer u non_ref)) in
    unreadable_then r j none 105 (λ s. then (unreadable k none 105 s) end)
    ∙ known_under r.graph j _ _ (fails_under r (bars_reading r.graph j none) 105 _ _ (unreadable_then r k none 105 end))
