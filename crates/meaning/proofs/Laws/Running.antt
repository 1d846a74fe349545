-- The entry points keep the names in use right, and are never refused with 8, 9, 16 or 23.
use Prim.Native.Nat.{ℕ, suc, ◌+◌, ◌≤◌, ◌<◌, zero-le}
use native.Mathlib.Omega.{arith}
use Rattle.std.specs.Prelude.{true, Bool, ◌&&◌, cond, ◌≡◌, eqb, ltb, length}
use Rattle.std.proofs.Math.Bool.{false}
use Rattle.std.proofs.lemmas.Bool.{false≢true}
use mathlib.Core.List.{List, [], ◌∷◌, ◌++◌}
use Rattle.std.proofs.Math.Option.{Option, none, some}
use Rattle.std.proofs.Math.Path.{refl, ap}
use Rattle.std.proofs.Common.{sym, subst, ◌∙◌, lt-ltb}
use Rattle.meaning.specs.Answers.{ordinary, Outcome, done, violated, refused, then, Ans, ok, refuse, lift, fails_at, needs}
use Rattle.meaning.specs.Lists.{keep}
use Rattle.meaning.specs.Labels.{local_label, global_label, field_label}
use Rattle.meaning.specs.BorrowGraph.{GEdge, held, on_pairs, well_formed, release, new_name, borrow_weak, borrow_strong, is_mutable, borrows, borrows_mutably, lowest_of}
use Rattle.meaning.specs.AbstractState.{Local, count1, Operand, non_ref, reference, Token, of_value, of_ref}
use Rattle.meaning.specs.EntryPoints.{Running, Answer, Answers, with_graph, answer, fails, bars_reading, bars_handing_over, bars_local_borrow, bars_field_borrow, bars_resource_borrow, needs_name, new_ref, on_graph, add_copy, add_borrow, add_field_borrow, add_local_borrow, add_resource_borrow, release_name, value_for, release_value, freeze_ref, comparison, read_ref, write_ref, borrow_loc, borrow_field, borrow_global, move_from, vector_test, vector_op, vector_element_borrow, operand_names, release_all, borrow_from, hand_over, parents_of, return_values, put_number, ascend, local_names, none_borrowed, not_acquired, call, ret}
use Rattle.meaning.proofs.Laws.Base.{and_i, eqb_self}
use Rattle.meaning.proofs.Laws.Call.{ends_not}
use Rattle.meaning.proofs.Laws.Own.{fair, Owns, times, in_front, count_yes, times_append, owns_held, owns_as, owns_less, release_fair, release_own, new_name_fair, new_name_own, borrow_weak_fair, borrow_weak_own, borrow_strong_fair, borrow_strong_own, owns_once}

-- ---- outcomes

-- what is done has the property; what is refused is not refused with 8, 9, 16 or 23
pub data Meets {A : Type 0} (P : A → Type 0) : Outcome A → Type 0 where
  met : {a : A} → P a → Meets P (done a)
  broke : {k c o : ℕ} → Meets P (violated k c o)
  barred : {n : ℕ} → ordinary n ≡ true → Meets P (refused n)

pub meets_then : {A B : Type 0} {P : A → Type 0} {Q : B → Type 0} {a : Outcome A} → Meets P a → (f : A → Outcome B) → ((x : A) → P x → Meets Q (f x)) → Meets Q (then a f)
meets_then (met {a} p) f k = k a p
meets_then broke f k = broke
meets_then (barred e) f k = barred e

pub meets_lift : {A : Type 0} {P : A → Type 0} (a : Ans A) → fair a ≡ true → ((x : A) → a ≡ ok x → P x) → Meets P (lift a)
meets_lift (ok x) e k = met (k x refl)
meets_lift (refuse n) e k = barred e

meets_fails_at : {A : Type 0} {P : A → Type 0} (b : ℕ) (a : Option ℕ) (c : ℕ) {k : Outcome A} → Meets P k → Meets P (fails_at b a c k)
meets_fails_at b none c h = h
meets_fails_at b (some o) c h = broke

pub meets_fails : {A : Type 0} {P : A → Type 0} (r : Running) (p : GEdge → Bool) (c : ℕ) {k : Outcome A} → Meets P k → Meets P (fails r p c k)
meets_fails r p c h = meets_fails_at r.blurs (lowest_of p r.graph.edges) c h

pub meets_needs : {A : Type 0} {P : A → Type 0} (b : Bool) (n : ℕ) {k : Outcome A} → ordinary n ≡ true → (b ≡ true → Meets P k) → Meets P (needs b n k)
meets_needs true n e h = h refl
meets_needs false n e h = barred e

-- read off
abbrev IsDone : {A : Type 0} → Outcome A → Type 0
IsDone (done a) = Unit {0}
IsDone (violated k c o) = ⊥
IsDone (refused n) = ⊥

abbrev IsRefused : {A : Type 0} → Outcome A → Type 0
IsRefused (done a) = ⊥
IsRefused (violated k c o) = ⊥
IsRefused (refused n) = Unit {0}

abbrev from_done : {A : Type 0} → A → Outcome A → A
from_done d (done a) = a
from_done d (violated k c o) = d
from_done d (refused n) = d

abbrev from_refused : {A : Type 0} → ℕ → Outcome A → ℕ
from_refused d (done a) = d
from_refused d (violated k c o) = d
from_refused d (refused n) = n

pub meets_done : {A : Type 0} {P : A → Type 0} {a : Outcome A} → Meets P a → (x : A) → a ≡ done x → P x
meets_done {P} (met {a} p) x e = subst P (ap (from_done a) e) p
meets_done {P} broke x e = absurd (subst IsDone (sym e) tt)
meets_done {P} (barred w) x e = absurd (subst IsDone (sym e) tt)

pub meets_refused : {A : Type 0} {P : A → Type 0} {a : Outcome A} → Meets P a → (n : ℕ) → a ≡ refused n → ordinary n ≡ true
meets_refused (met p) n e = absurd (subst IsRefused (sym e) tt)
meets_refused broke n e = absurd (subst IsRefused (sym e) tt)
meets_refused (barred {n = k} w) n e = subst (λ (j : ℕ). ordinary j ≡ true) (ap (from_refused n) e) w

meets_known : {A : Type 0} {P : A → Type 0} (b : Bool) {k : Outcome A} → b ≡ true → Meets P k → Meets P (needs b 9 k)
meets_known true e h = h
meets_known false e h = absurd (false≢true e)

-- ---- the running state

-- l: the root; ls: the locals; xs: the names in use beside the root's; m: how many fresh names may still be made
pub record Keeps (l : ℕ) (ls : List Local) (xs : List ℕ) (m : ℕ) (r : Running) : Type 0 where
  pub root : r.root ≡ l
  pub locals : r.locals ≡ ls
  pub own : Owns l r.graph r.next xs m

module _ (l : ℕ) (ls : List Local) where
  pub keeps_less : (xs : List ℕ) (m k : ℕ) (r : Running) → Keeps l ls xs m r → k ≤ m → Keeps l ls xs k r
  keeps_less xs m k r h b = record { root = h.root; locals = h.locals; own = owns_less l r.graph r.next xs m h.own k b }

  -- only the number of times counts
  pub keeps_as : (xs ys : List ℕ) (m : ℕ) (r : Running) → Keeps l ls xs m r → ((n : ℕ) → times n ys ≡ times n xs) → Keeps l ls ys m r
  keeps_as xs ys m r h e = record { root = h.root; locals = h.locals; own = owns_as l r.graph r.next xs m h.own ys e }

  -- ---- core calls

  pub release_keeps : (n : ℕ) (xs : List ℕ) (m : ℕ) (r : Running) → Keeps l ls (n ∷ xs) m r → Meets (Keeps l ls xs m) (release_name n r)
  unfolding release_name
  release_keeps n xs m r h =
      meets_then (meets_lift (release r.graph n) (release_fair l r.graph r.next n xs m h.own) (λ g e. release_own l r.graph r.next n xs m g h.own e))
      (λ g. done (with_graph r g)) (λ g o. met (record { root = h.root; locals = h.locals; own = o }))

  pub release_all_keeps : (ns xs : List ℕ) (m : ℕ) (r : Running) → Keeps l ls (ns ++ xs) m r → Meets (Keeps l ls xs m) (release_all ns r)
  unfolding release_all
  release_all_keeps [] xs m r h = met h
  release_all_keeps (n ∷ ns) xs m r h = meets_then (release_keeps n (ns ++ xs) m r h) (λ s. release_all ns s) (λ s k. release_all_keeps ns xs m s k)

  -- the fresh name c: no edge ends there
  pub record Fresh (c : ℕ) (xs : List ℕ) (m : ℕ) (r : Running) : Type 0 where
    pub keeps : Keeps l ls (c ∷ xs) m r
    pub no_edge : on_pairs (ends_not c) r.graph.edges ≡ true

  new_ref_keeps : (b : Bool) (xs : List ℕ) (m : ℕ) (r : Running) → Keeps l ls xs (suc m) r → length xs ≤ 46 → Meets (Fresh r.next xs m) (new_ref b r)
  unfolding new_ref
  new_ref_keeps b xs m r h k =
      let u : r.next + suc m ≤ 65536 = h.own.left in
      let s : r.next < 65536 = omega arith in
      rw (lt-ltb r.next 65536 s)
      (meets_then (meets_lift (new_name r.graph r.next b) (new_name_fair l r.graph r.next xs (suc m) b h.own k) (λ g e. new_name_own l r.graph r.next xs m b g h.own e))
      (λ g. done (record { locals = r.locals; graph = g; next = suc r.next; root = r.root; blurs = r.blurs; offset = r.offset }))
      (λ g o. met (record { keeps = record { root = h.root; locals = h.locals; own = o.0 }; no_edge = o.1 })))

  -- a borrow from the root, or from a name in use beside c
  abbrev pub Uses : ℕ → List ℕ → Type 0
  Uses p xs = 1 ≤ times p (l ∷ xs)

  weak_keeps : (p : ℕ) (path : List ℕ) (c : ℕ) (xs : List ℕ) (m : ℕ) (r : Running) → Keeps l ls (c ∷ xs) m r → Uses p xs → Meets (Keeps l ls (c ∷ xs) m) (on_graph r (borrow_weak r.graph p path c r.offset))
  weak_keeps p path c xs m r h u =
      meets_then (meets_lift (borrow_weak r.graph p path c r.offset) (borrow_weak_fair l r.graph r.next c xs m h.own p path r.offset u) (λ g e. borrow_weak_own l r.graph r.next c xs m h.own p path r.offset g e))
      (λ g. done (with_graph r g)) (λ g o. met (record { root = h.root; locals = h.locals; own = o }))

  pub strong_keeps : (p : ℕ) (path : List ℕ) (c : ℕ) (xs : List ℕ) (m : ℕ) (r : Running) → Fresh c xs m r → Uses p xs → Meets (Keeps l ls (c ∷ xs) m) (on_graph r (borrow_strong r.graph p path c r.offset))
  strong_keeps p path c xs m r f u =
      let h : Keeps l ls (c ∷ xs) m r = f.keeps in
      meets_then (meets_lift (borrow_strong r.graph p path c r.offset) (borrow_strong_fair l r.graph r.next c xs m h.own p path r.offset u f.no_edge) (λ g e. borrow_strong_own l r.graph r.next c xs m h.own p path r.offset g e))
      (λ g. done (with_graph r g)) (λ g o. met (record { root = h.root; locals = h.locals; own = o }))

  uses_root : (xs : List ℕ) (m : ℕ) (r : Running) → Keeps l ls xs m r → (ys : List ℕ) → Uses r.root ys
  uses_root xs m r h ys = subst (λ (n : ℕ). Uses n ys) (sym h.root) (in_front l ys)

  uses_head : (n : ℕ) (xs : List ℕ) → Uses n (n ∷ xs)
  uses_head n xs = let c : count1 (eqb n n) ≡ 1 = count_yes (eqb_self n) in omega arith

  -- a look-up of a name in use
  pub known_keeps : {A : Type 0} {P : A → Type 0} (n : ℕ) (xs : List ℕ) (m : ℕ) (r : Running) {k : Outcome A} → Keeps l ls xs m r → Uses n xs → Meets P k → Meets P (needs_name r.graph n k)
  known_keeps n xs m r h u k = meets_known (well_formed r.graph && held r.graph n) (and_i h.own.formed (owns_held l r.graph r.next xs m h.own n u)) k

  pub known_root : {A : Type 0} {P : A → Type 0} (xs : List ℕ) (m : ℕ) (r : Running) {k : Outcome A} → Keeps l ls xs m r → Meets P k → Meets P (needs_name r.graph r.root k)
  known_root xs m r h k = known_keeps r.root xs m r h (uses_root xs m r h xs) k

  -- ---- entry points

  -- the operand made is in use too
  abbrev pub Made : List ℕ → ℕ → Answer → Type 0
  Made xs m a = Keeps l ls (operand_names (a.operand ∷ []) ++ xs) m a.state

  pub value_for_keeps : (t : Token) (xs : List ℕ) (m : ℕ) (r : Running) → Keeps l ls xs (suc m) r → length xs ≤ 46 → Meets (Made xs m) (value_for t r)
  unfolding value_for
  value_for_keeps of_value xs m r h k = met (keeps_less xs (suc m) m r h (omega arith))
  value_for_keeps (of_ref b) xs m r h k = meets_then (new_ref_keeps b xs m r h k) (λ s. answer s (reference r.next)) (λ s f. met f.keeps)

  pub release_value_keeps : (v : Operand) (xs : List ℕ) (m : ℕ) (r : Running) → Keeps l ls (operand_names (v ∷ []) ++ xs) m r → Meets (Keeps l ls xs m) (release_value v r)
  unfolding release_value
  release_value_keeps non_ref xs m r h = met h
  release_value_keeps (reference n) xs m r h = release_keeps n xs m r h

  -- a new name, edges to it
  pub borrow_keeps : (b : Bool) (add : Running → Outcome Running) (xs : List ℕ) (m : ℕ) (r : Running) → Keeps l ls xs (suc m) r → length xs ≤ 46
      → ((s : Running) → Fresh r.next xs m s → Meets (Keeps l ls (r.next ∷ xs) m) (add s))
      → Meets (Made xs m) (then (new_ref b r) (λ s. then (add s) (λ t. answer t (reference r.next))))
  borrow_keeps b add xs m r h k a =
      meets_then (new_ref_keeps b xs m r h k) (λ s. then (add s) (λ t. answer t (reference r.next)))
      (λ s f. meets_then (a s f) (λ t. answer t (reference r.next)) (λ t g. met g))

  -- a new name, edges to it, and the old one released
  replace_keeps : (b : Bool) (add : Running → Outcome Running) (n : ℕ) (xs : List ℕ) (m : ℕ) (r : Running) → Keeps l ls (n ∷ xs) (suc m) r → length xs ≤ 45
      → ((s : Running) → Fresh r.next (n ∷ xs) m s → Meets (Keeps l ls (r.next ∷ n ∷ xs) m) (add s))
      → Meets (Made xs m) (then (new_ref b r) (λ s. then (add s) (λ t. then (release_name n t) (λ u. answer u (reference r.next)))))
  replace_keeps b add n xs m r h k a =
      meets_then (new_ref_keeps b (n ∷ xs) m r h (omega arith)) (λ s. then (add s) (λ t. then (release_name n t) (λ u. answer u (reference r.next))))
      (λ s f. meets_then (a s f) (λ t. then (release_name n t) (λ u. answer u (reference r.next)))
      (λ t g. meets_then (release_keeps n (r.next ∷ xs) m t (keeps_as (r.next ∷ n ∷ xs) (n ∷ r.next ∷ xs) m t g (λ j. omega arith))) (λ u. answer u (reference r.next))
      (λ u q. met q)))

  pub freeze_ref_keeps : (n : ℕ) (xs : List ℕ) (m : ℕ) (r : Running) → Keeps l ls (n ∷ xs) (suc m) r → length xs ≤ 45 → Meets (Made xs m) (freeze_ref n r)
  unfolding freeze_ref add_copy
  freeze_ref_keeps n xs m r h k =
      known_keeps n (n ∷ xs) (suc m) r h (uses_head n xs)
      (meets_needs (is_mutable r.graph n) 13 refl (λ e.
      meets_fails r (borrows_mutably r.graph n none) 104
      (replace_keeps false (add_copy n r.next) n xs m r h k (λ s f. strong_keeps n [] r.next (n ∷ xs) m s f (uses_head n xs)))))

  pub comparison_keeps : (v w : Operand) (xs : List ℕ) (m : ℕ) (r : Running) → Keeps l ls (operand_names (v ∷ []) ++ (operand_names (w ∷ []) ++ xs)) m r → Meets (Made xs m) (comparison v w r)
  unfolding comparison
  comparison_keeps non_ref non_ref xs m r h = met h
  comparison_keeps non_ref (reference n) xs m r h = barred refl
  comparison_keeps (reference k) non_ref xs m r h = barred refl
  comparison_keeps (reference k) (reference n) xs m r h =
      known_keeps k (k ∷ n ∷ xs) m r h (uses_head k (n ∷ xs))
      (meets_fails r (bars_reading r.graph k none) 105
      (known_keeps n (k ∷ n ∷ xs) m r h (let u : Uses n (n ∷ xs) = uses_head n xs in omega arith)
      (meets_fails r (bars_reading r.graph n none) 105
      (meets_then (release_keeps k (n ∷ xs) m r h) (λ s. then (release_name n s) (λ t. answer t non_ref))
      (λ s p. meets_then (release_keeps n xs m s p) (λ t. answer t non_ref) (λ t q. met q))))))

  pub read_ref_keeps : (n : ℕ) (xs : List ℕ) (m : ℕ) (r : Running) → Keeps l ls (n ∷ xs) m r → Meets (Made xs m) (read_ref n r)
  unfolding read_ref
  read_ref_keeps n xs m r h =
      known_keeps n (n ∷ xs) m r h (uses_head n xs)
      (meets_fails r (bars_reading r.graph n none) 105
      (meets_then (release_keeps n xs m r h) (λ s. answer s non_ref) (λ s q. met q)))

  pub write_ref_keeps : (n : ℕ) (xs : List ℕ) (m : ℕ) (r : Running) → Keeps l ls (n ∷ xs) m r → Meets (Keeps l ls xs m) (write_ref n r)
  unfolding write_ref
  write_ref_keeps n xs m r h =
      known_keeps n (n ∷ xs) m r h (uses_head n xs)
      (meets_needs (is_mutable r.graph n) 13 refl (λ e.
      meets_fails r (borrows n none) 106 (release_keeps n xs m r h)))

  pub borrow_loc_keeps : (b : Bool) (i : ℕ) (xs : List ℕ) (m : ℕ) (r : Running) → Keeps l ls xs (suc m) r → length xs ≤ 46 → Meets (Made xs m) (borrow_loc b i r)
  unfolding borrow_loc add_local_borrow
  borrow_loc_keeps b i xs m r h k =
      known_root xs (suc m) r h
      (meets_fails r (bars_local_borrow b r.graph r.root i) 107
      (borrow_keeps b (add_local_borrow i r.next) xs m r h k (λ s f. strong_keeps s.root (local_label i ∷ []) r.next xs m s f (uses_root (r.next ∷ xs) m s f.keeps xs))))

  pub borrow_field_keeps : (b : Bool) (n j : ℕ) (xs : List ℕ) (m : ℕ) (r : Running) → Keeps l ls (n ∷ xs) (suc m) r → length xs ≤ 45 → Meets (Made xs m) (borrow_field b n j r)
  unfolding borrow_field add_field_borrow
  borrow_field_keeps b n j xs m r h k =
      known_keeps n (n ∷ xs) (suc m) r h (uses_head n xs)
      (meets_fails r (bars_field_borrow b r.graph n j) 108
      (replace_keeps b (add_field_borrow n j r.next) n xs m r h k (λ s f. strong_keeps n (field_label j ∷ []) r.next (n ∷ xs) m s f (uses_head n xs))))

  pub borrow_global_keeps : (b : Bool) (i : ℕ) (xs : List ℕ) (m : ℕ) (r : Running) → Keeps l ls xs (suc m) r → length xs ≤ 46 → Meets (Made xs m) (borrow_global b i r)
  unfolding borrow_global add_resource_borrow
  borrow_global_keeps b i xs m r h k =
      known_root xs (suc m) r h
      (meets_fails r (bars_resource_borrow b r.graph r.root i) 109
      (borrow_keeps b (add_resource_borrow i r.next) xs m r h k (λ s f. weak_keeps s.root (global_label i ∷ []) r.next xs m s f.keeps (uses_root (r.next ∷ xs) m s f.keeps xs))))

  pub move_from_keeps : (i : ℕ) (xs : List ℕ) (m : ℕ) (r : Running) → Keeps l ls xs m r → Meets (Made xs m) (move_from i r)
  unfolding move_from
  move_from_keeps i xs m r h = known_root xs m r h (meets_fails r (borrows r.root (some (global_label i))) 109 (met h))

  meets_vector : {A : Type 0} {P : A → Type 0} (b : Bool) (r : Running) (n c : ℕ) {k : Outcome A} → Meets P k → Meets P (vector_test b r n c k)
  meets_vector true r n c h = meets_needs (is_mutable r.graph n) 13 refl (λ e. meets_fails r (borrows n none) c h)
  meets_vector false r n c h = h

  pub vector_op_keeps : (v : Operand) (b : Bool) (xs : List ℕ) (m : ℕ) (r : Running) → Keeps l ls (operand_names (v ∷ []) ++ xs) m r → Meets (Keeps l ls xs m) (vector_op v b r)
  unfolding vector_op
  vector_op_keeps non_ref b xs m r h = barred refl
  vector_op_keeps (reference n) b xs m r h =
      known_keeps n (n ∷ xs) m r h (uses_head n xs) (meets_vector b r n 110 (release_keeps n xs m r h))

  pub element_keeps : (v : Operand) (b : Bool) (xs : List ℕ) (m : ℕ) (r : Running) → Keeps l ls (operand_names (v ∷ []) ++ xs) (suc m) r → length xs ≤ 45 → Meets (Made xs m) (vector_element_borrow v b r)
  unfolding vector_element_borrow add_borrow
  element_keeps non_ref b xs m r h k = barred refl
  element_keeps (reference n) b xs m r h k =
      known_keeps n (n ∷ xs) (suc m) r h (uses_head n xs)
      (meets_vector b r n 111
      (replace_keeps b (add_borrow n r.next) n xs m r h k (λ s f. weak_keeps n [] r.next (n ∷ xs) m s f.keeps (uses_head n xs))))

  -- ---- call and return

  -- each number of ps is in use in xs
  abbrev pub Within : List ℕ → List ℕ → Type 0
  Within ps xs = (p : ℕ) → 1 ≤ times p ps → 1 ≤ times p xs

  within_head : (p : ℕ) (ps xs : List ℕ) → Within (p ∷ ps) xs → 1 ≤ times p xs
  within_head p ps xs w = w p (in_front p ps)

  borrow_from_keeps : (ps : List ℕ) (c : ℕ) (xs : List ℕ) (m : ℕ) (r : Running) → Keeps l ls (c ∷ xs) m r → Within ps xs → Meets (Keeps l ls (c ∷ xs) m) (borrow_from ps c r)
  unfolding borrow_from add_borrow
  borrow_from_keeps [] c xs m r h w = met h
  borrow_from_keeps (p ∷ ps) c xs m r h w =
      meets_then (weak_keeps p [] c xs m r h (let a : 1 ≤ times p xs = within_head p ps xs w in omega arith)) (λ s. borrow_from ps c s)
      (λ s k. borrow_from_keeps ps c xs m s k (λ q e. w q (omega arith)))

  hand_over_keeps : {A : Type 0} {P : A → Type 0} (ns : List ℕ) (c : ℕ) (xs : List ℕ) (m : ℕ) (r : Running) {k : Outcome A} → Keeps l ls xs m r → Within ns xs → Meets P k → Meets P (hand_over ns c r k)
  unfolding hand_over
  hand_over_keeps [] c xs m r h w k = k
  hand_over_keeps (n ∷ ns) c xs m r h w k =
      known_keeps n xs m r h (let a : 1 ≤ times n xs = within_head n ns xs w in omega arith)
      (meets_fails r (bars_handing_over r.graph n) c (hand_over_keeps ns c xs m r h (λ q e. w q (omega arith)) k))

  -- the values returned are in use too, each a place of its own
  pub record Returned (ts : List Token) (xs : List ℕ) (m : ℕ) (a : Answers) : Type 0 where
    pub count : length a.operands ≡ length ts
    pub keeps : Keeps l ls (operand_names a.operands ++ xs) m a.state

  parents_within : (b : Bool) (muts alls xs : List ℕ) → Within muts xs → Within alls xs → Within (parents_of b muts alls) xs
  parents_within true muts alls xs u w = u
  parents_within false muts alls xs u w = w

  return_values_keeps : (ts : List Token) (muts alls xs : List ℕ) (m : ℕ) (r : Running) → Keeps l ls xs (length ts + m) r → length xs + length ts ≤ 46 → Within muts xs → Within alls xs
      → Meets (Returned ts xs m) (return_values ts muts alls r)
  unfolding return_values
  return_values_keeps [] muts alls xs m r h k u w = met (record { count = refl; keeps = keeps_less xs (0 + m) m r h (omega arith) })
  return_values_keeps (of_value ∷ ts) muts alls xs m r h k u w =
      meets_then (return_values_keeps ts muts alls xs m r (keeps_less xs (suc (length ts) + m) (length ts + m) r h (omega arith)) (omega arith) u w)
      (λ a. done (record { state = a.state; operands = non_ref ∷ a.operands })) (λ a q. met (record { count = ap suc q.count; keeps = q.keeps }))
  return_values_keeps (of_ref b ∷ ts) muts alls xs m r h k u w =
      let c : ℕ = r.next in
      let f₃ : Answers → Outcome Answers = λ a. done (record { state = a.state; operands = reference c ∷ a.operands }) in
      let f₂ : Running → Outcome Answers = λ t. then (return_values ts muts alls t) f₃ in
      meets_then (new_ref_keeps b xs (length ts + m) r (keeps_less xs (suc (length ts) + m) (suc (length ts + m)) r h (omega arith)) (omega arith)) (λ s. then (borrow_from (parents_of b muts alls) c s) f₂)
      (λ s f. meets_then (borrow_from_keeps (parents_of b muts alls) c xs (length ts + m) s f.keeps (parents_within b muts alls xs u w)) f₂
      (λ t p. meets_then (return_values_keeps ts muts alls (c ∷ xs) m t p (omega arith) (λ q e. let z : 1 ≤ times q xs = u q e in omega arith) (λ q e. let z : 1 ≤ times q xs = w q e in omega arith)) f₃
      (λ a q. met (record { count = ap suc q.count; keeps = keeps_as (operand_names a.operands ++ (c ∷ xs)) (c ∷ (operand_names a.operands ++ xs)) m a.state q.keeps (λ n. move n c (operand_names a.operands) xs) }))))
    where
      move : (n c : ℕ) (ys zs : List ℕ) → times n (c ∷ (ys ++ zs)) ≡ times n (ys ++ (c ∷ zs))
      move n c ys zs =
          let a : times n (ys ++ zs) ≡ times n ys + times n zs = times_append n ys zs in
          let b : times n (ys ++ (c ∷ zs)) ≡ times n ys + times n (c ∷ zs) = times_append n ys (c ∷ zs) in
          omega arith

-- ascending, each once: the same numbers, if each stands there once
place_times : (n : ℕ) (ms : List ℕ) → times n ms ≡ 0 → (k : ℕ) → times k (put_number n ms) ≡ times k (n ∷ ms)
unfolding put_number
place_times n [] h k = refl
place_times n (m ∷ ms) h k = go (ltb n m) (eqb n m) refl (place_times n ms (omega arith) k)
  where
    go : (a b : Bool) → eqb n m ≡ b → times k (put_number n ms) ≡ times k (n ∷ ms) → times k (cond a (n ∷ m ∷ ms) (cond b (m ∷ ms) (m ∷ put_number n ms))) ≡ times k (n ∷ m ∷ ms)
    go true b e r = refl
    go false true e r = let c : count1 (eqb n m) ≡ 1 = count_yes e in absurd (omega arith)
    go false false e r = omega arith

pub ascend_times : (xs : List ℕ) → ((n : ℕ) → times n xs ≤ 1) → (k : ℕ) → times k (ascend xs) ≡ times k xs
unfolding ascend
ascend_times [] h k = refl
ascend_times (x ∷ xs) h k =
    let r : (j : ℕ) → times j (ascend xs) ≡ times j xs = ascend_times xs (λ n. let a : times n (x ∷ xs) ≤ 1 = h n in omega arith) in
    let a : times x (x ∷ xs) ≤ 1 = h x in
    let b : count1 (eqb x x) ≡ 1 = count_yes (eqb_self x) in
    let c : times x (ascend xs) ≡ times x xs = r x in
    let d : times k (put_number x (ascend xs)) ≡ times k (x ∷ ascend xs) = place_times x (ascend xs) (omega arith) k in
    let e : times k (ascend xs) ≡ times k xs = r k in
    omega arith

keep_times : (f : ℕ → Bool) (xs : List ℕ) (k : ℕ) → times k (keep f xs) ≤ times k xs
keep_times f [] k = zero-le
keep_times f (x ∷ xs) k = go (f x) (keep_times f xs k)
  where
    go : (b : Bool) → times k (keep f xs) ≤ times k xs → times k (cond b (x ∷ keep f xs) (keep f xs)) ≤ times k (x ∷ xs)
    go true h = omega arith
    go false h = omega arith

none_borrowed_meets : {A : Type 0} {P : A → Type 0} (is : List ℕ) (r : Running) {k : Outcome A} → Meets P k → Meets P (none_borrowed is r k)
unfolding none_borrowed
none_borrowed_meets [] r k = k
none_borrowed_meets (i ∷ is) r k = meets_fails r (borrows r.root (some (global_label i))) 109 (none_borrowed_meets is r k)

module _ (l : ℕ) (ls : List Local) where
  -- ys: the names among the arguments; xs: those elsewhere
  pub call_keeps : (args : List Operand) (acquired : List ℕ) (ts : List Token) (xs : List ℕ) (m : ℕ) (r : Running) → Keeps l ls (operand_names args ++ xs) (length ts + m) r → length (operand_names args ++ xs) + length ts ≤ 46
      → Meets (Returned l ls ts xs m) (call args acquired ts r)
  unfolding call not_acquired
  call_keeps args acquired ts xs m r h k =
      let ys : List ℕ = operand_names args in
      let alls : List ℕ = ascend ys in
      let muts : List ℕ = keep (is_mutable r.graph) alls in
      let f₂ : Answers → Outcome Answers = λ a. then (release_all alls a.state) (λ s. done (record { state = s; operands = a.operands })) in
      known_root l ls (ys ++ xs) (length ts + m) r h
      (none_borrowed_meets (ascend acquired) r
      (hand_over_keeps l ls ys 112 (ys ++ xs) (length ts + m) r h (λ p e. let a : times p (ys ++ xs) ≡ times p ys + times p xs = times_append p ys xs in omega arith)
      (meets_then
      (return_values_keeps l ls ts muts alls (ys ++ xs) m r h k
      (λ p e. let a : times p (ys ++ xs) ≡ times p ys + times p xs = times_append p ys xs in
      let b : times p muts ≤ times p alls = keep_times (is_mutable r.graph) alls p in
      let c : times p alls ≡ times p ys = same p in omega arith)
      (λ p e. let a : times p (ys ++ xs) ≡ times p ys + times p xs = times_append p ys xs in
      let c : times p alls ≡ times p ys = same p in omega arith)) f₂
      (λ a q. meets_then (release_all_keeps l ls alls (operand_names a.operands ++ xs) m a.state
      (keeps_as l ls (operand_names a.operands ++ (ys ++ xs)) (alls ++ (operand_names a.operands ++ xs)) m a.state q.keeps (λ n. turn n (operand_names a.operands))))
      (λ s. done (record { state = s; operands = a.operands })) (λ s z. met (record { count = q.count; keeps = z }))))))
    where
      same : (p : ℕ) → times p (ascend (operand_names args)) ≡ times p (operand_names args)
      same p = ascend_times (operand_names args)
          (λ n. let a : times n (l ∷ (operand_names args ++ xs)) ≤ 1 = owns_once l r.graph r.next (operand_names args ++ xs) (length ts + m) h.own n in
          let b : times n (operand_names args ++ xs) ≡ times n (operand_names args) + times n xs = times_append n (operand_names args) xs in
          omega arith) p

      turn : (n : ℕ) (zs : List ℕ) → times n (ascend (operand_names args) ++ (zs ++ xs)) ≡ times n (zs ++ (operand_names args ++ xs))
      turn n zs =
          let a : times n (ascend (operand_names args) ++ (zs ++ xs)) ≡ times n (ascend (operand_names args)) + times n (zs ++ xs) = times_append n (ascend (operand_names args)) (zs ++ xs) in
          let b : times n (zs ++ xs) ≡ times n zs + times n xs = times_append n zs xs in
          let c : times n (zs ++ (operand_names args ++ xs)) ≡ times n zs + times n (operand_names args ++ xs) = times_append n zs (operand_names args ++ xs) in
          let d : times n (operand_names args ++ xs) ≡ times n (operand_names args) + times n xs = times_append n (operand_names args) xs in
          let e : times n (ascend (operand_names args)) ≡ times n (operand_names args) = same n in
          omega arith

  -- after a return nothing is asked of the state
  pub ret_meets : (vs : List Operand) (xs : List ℕ) (m : ℕ) (r : Running) → Keeps l ls (operand_names vs ++ (xs ++ local_names ls)) m r → Meets (λ s. Unit {0}) (ret vs r)
  unfolding ret
  ret_meets vs xs m r h =
      let ys : List ℕ = operand_names vs in
      meets_then (release_all_keeps l ls (ascend (local_names r.locals)) (ys ++ xs) m r (keeps_as l ls (ys ++ (xs ++ local_names ls)) (ascend (local_names r.locals) ++ (ys ++ xs)) m r h turn))
      (λ s. needs_name s.graph s.root (fails s (borrows s.root none) 113 (hand_over ys 114 s (done s))))
      (λ s k. known_root l ls (ys ++ xs) m s k
      (meets_fails s (borrows s.root none) 113
      (hand_over_keeps l ls ys 114 (ys ++ xs) m s k (λ p e. let a : times p (ys ++ xs) ≡ times p ys + times p xs = times_append p ys xs in omega arith) (met tt))))
    where
      split : (n : ℕ) → times n (operand_names vs ++ (xs ++ local_names ls)) ≡ times n (operand_names vs) + (times n xs + times n (local_names ls))
      split n =
          let a : times n (operand_names vs ++ (xs ++ local_names ls)) ≡ times n (operand_names vs) + times n (xs ++ local_names ls) = times_append n (operand_names vs) (xs ++ local_names ls) in
          let b : times n (xs ++ local_names ls) ≡ times n xs + times n (local_names ls) = times_append n xs (local_names ls) in
          omega arith

      same : (p : ℕ) → times p (ascend (local_names r.locals)) ≡ times p (local_names ls)
      same p = ap (λ (zs : List Local). times p (ascend (local_names zs))) h.locals ∙ ascend_times (local_names ls)
          (λ n. let a : times n (l ∷ (operand_names vs ++ (xs ++ local_names ls))) ≤ 1 = owns_once l r.graph r.next (operand_names vs ++ (xs ++ local_names ls)) m h.own n in
          let b : times n (operand_names vs ++ (xs ++ local_names ls)) ≡ times n (operand_names vs) + (times n xs + times n (local_names ls)) = split n in
          omega arith) p

      turn : (n : ℕ) → times n (ascend (local_names r.locals) ++ (operand_names vs ++ xs)) ≡ times n (operand_names vs ++ (xs ++ local_names ls))
      turn n =
          let a : times n (ascend (local_names r.locals) ++ (operand_names vs ++ xs)) ≡ times n (ascend (local_names r.locals)) + times n (operand_names vs ++ xs) = times_append n (ascend (local_names r.locals)) (operand_names vs ++ xs) in
          let b : times n (operand_names vs ++ xs) ≡ times n (operand_names vs) + times n xs = times_append n (operand_names vs) xs in
          let c : times n (ascend (local_names r.locals)) ≡ times n (local_names ls) = same n in
          let d : times n (operand_names vs ++ (xs ++ local_names ls)) ≡ times n (operand_names vs) + (times n xs + times n (local_names ls)) = split n in
          omega arith
