-- Laws of states that stop, of calls in a row, and of locals read and written.
use Rattle.std.specs.Prelude.{◌≡◌, ℕ, zero, suc, ◌+◌, ◌<◌, ◌≤◌, Bool, true, false, cond, not, ◌&&◌, ltb, List, [], ◌∷◌, length, ◌==◌, nat_eq, nat_lt, slice_index_or, slice_set}
use Rattle.std.specs.Prelude.{refl}
use Rattle.std.proofs.Common.{sym, ap, ◌∙◌, true≢false, not-suc-le-zero, le_of_suc-le-suc, add-one, arith, ne_eqb, le-ltb}
use Rattle.std.proofs.Math.Option.{Option, none, some}
use Rattle.meaning.specs.Answers.{Ans, ok, refuse, guard, and_then, Outcome, done, violated, refused, then, lift, needs, fails_at}
use Rattle.meaning.proofs.Laws.Lowest.{lowest_guard}
use Rattle.meaning.specs.BorrowGraph.{Graph, GEdge, blurs_by, Borrows, well_formed, held, is_mutable, new_name, borrows_fully, borrows, borrows_mutably, lowest_of, borrowed_by}
use Rattle.meaning.specs.BorrowGraph as L
use Rattle.meaning.specs.AbstractState as S
use Rattle.meaning.specs.AbstractState.{Operand, non_ref, reference}
use Rattle.meaning.specs.Area.{local_as, local_in}
use Rattle.meaning.specs.EntryPoints as R
use Rattle.meaning.specs.EntryPoints.{Running, Answer, count_on, on_graph, needs_name, new_ref}
use Rattle.abstract_state.specs.Models.{Words, words, Fits, Does, Gives, running_of, outcome_of, halted, heeding, failing, locals_in}
use Rattle.abstract_state.specs.declared.state.AbstractState.{AbstractState}

-- ---- states that stop

module _ {A B : Type 0} (k v o n : ℕ) (a : A) where
  -- a stopped state stays as it is
  pub stays : (b : B) (f : A → Outcome B) → (v == 0 && n == 0) ≡ false → halted k v o n b ≡ then (halted k v o n a) f
  stays b f e = go (v == 0) (n == 0) e
    where
      go : (x y : Bool) → (x && y) ≡ false → cond x (cond y (done b) (refused n)) (violated k v o) ≡ then (cond x (cond y (done a) (refused n)) (violated k v o)) f
      go true true e = absurd (true≢false e)
      go true false e = refl
      go false y e = refl

  -- one that goes on does the next thing
  pub goes : (f : A → Outcome B) → (v == 0 && n == 0) ≡ true → f a ≡ then (halted k v o n a) f
  goes f e = go (v == 0) (n == 0) e
    where
      go : (x y : Bool) → (x && y) ≡ true → f a ≡ then (cond x (cond y (done a) (refused n)) (violated k v o)) f
      go true true e = refl
      go true false e = absurd (true≢false (sym e))
      go false y e = absurd (true≢false (sym e))

  -- what comes next is judged on the state that goes on only
  pub here : (f g : A → Outcome B) → f a ≡ g a → then (halted k v o n a) f ≡ then (halted k v o n a) g
  here f g e = go (v == 0) (n == 0)
    where
      go : (x y : Bool) → then (cond x (cond y (done a) (refused n)) (violated k v o)) f ≡ then (cond x (cond y (done a) (refused n)) (violated k v o)) g
      go true true = e
      go true false = refl
      go false y = refl

  pub halted_then : (f : A → B) → halted k v o n (f a) ≡ then (halted k v o n a) (λ x. done (f x))
  halted_then f = go (v == 0) (n == 0)
    where
      go : (x y : Bool) → cond x (cond y (done (f a)) (refused n)) (violated k v o) ≡ then (cond x (cond y (done a) (refused n)) (violated k v o)) (λ x. done (f x))
      go true true = refl
      go true false = refl
      go false y = refl

pub then_done : {A : Type 0} (o : Outcome A) → o ≡ then o done
then_done (done a) = refl
then_done (violated k c o) = refl
then_done (refused n) = refl

-- ---- calls in a row

pub then_then : {A B C : Type 0} (o : Outcome A) (f : A → Outcome B) (g : B → Outcome C) → then (then o f) g ≡ then o (λ a. then (f a) g)
then_then (done a) f g = refl
then_then (violated k c o) f g = refl
then_then (refused n) f g = refl

pub under : {A B : Type 0} (o : Outcome A) (f g : A → Outcome B) → ((a : A) → f a ≡ g a) → then o f ≡ then o g
under (done a) f g e = e a
under (violated k c o) f g e = refl
under (refused n) f g e = refl

-- a state with something beside it
pub beside : {A B C : Type 0} (j v o n : ℕ) (a : A) (f : A → B) (k : B → Outcome C) → then (halted j v o n (f a)) k ≡ then (halted j v o n a) (λ x. k (f x))
beside {A} {B} {C} j v o n a f k = ap (λ (x : Outcome B). then x k) (halted_then j v o n a f) ∙ then_then (halted j v o n a) (λ x. done (f x)) k

pub does_then : (f g : Running → Outcome Running) (a b c : Words) → Does f a b → Does g b c → Does (λ s. then (f s) g) a c
does_then f g a b c p q = record {
  fits = λ h. q.fits (p.fits h);
  does = λ h. q.does (p.fits h) ∙ ap (λ (o : Outcome Running). then o g) (p.does h) ∙ then_then (outcome_of a) f g;
}

pub gives_then : (f : Running → Outcome Running) (g : Running → Outcome Answer) (a b c : Words) → Does f a b → Gives g b c → Gives (λ s. then (f s) g) a c
gives_then f g a b c p q = record {
  fits = λ h. q.fits (p.fits h);
  gives = λ h. q.gives (p.fits h) ∙ ap (λ (o : Outcome Running). then o g) (p.does h) ∙ then_then (outcome_of a) f g;
}

-- what a call does is judged on the state that goes on, of words that fit
pub does_as : (f g : Running → Outcome Running) (a b : Words) → (Fits a → f (running_of a) ≡ g (running_of a)) → Does f a b → Does g a b
does_as f g a b e p = record {
  fits = p.fits;
  does = λ h. p.does h ∙ here a.state.blurred a.state.violation a.state.borrowed_at.0 a.state.refusal (running_of a) f g (e h);
}

pub gives_as : (f g : Running → Outcome Answer) (a b : Words) → (Fits a → f (running_of a) ≡ g (running_of a)) → Gives f a b → Gives g a b
gives_as f g a b e p = record {
  fits = p.fits;
  gives = λ h. p.gives h ∙ here a.state.blurred a.state.violation a.state.borrowed_at.0 a.state.refusal (running_of a) f g (e h);
}

-- nothing is done
pub does_nothing : (a : Words) → Does done a a
does_nothing a = record { fits = λ h. h; does = λ h. then_done (outcome_of a) }

-- a call that leaves the arrays and the graph as they are
pub does_here : (f : Running → Outcome Running) (ls ns : List ℕ) (es : List (List ℕ)) (s t : AbstractState) → t.borrow_graph ≡ s.borrow_graph
    → outcome_of (words ls ns es t) ≡ then (outcome_of (words ls ns es s)) f → Does f (words ls ns es s) (words ls ns es t)
does_here f ls ns es s t g e = record { fits = λ h. record { locals = h.locals; tells = rw g h.tells }; does = λ h. e }

-- a state that goes on gets a number more
module _ {A : Type 0} (k v o n : ℕ) (a : A) (e : (v == 0 && n == 0) ≡ true) where
  pub going : halted k v o n a ≡ done a
  going = then_done (halted k v o n a) ∙ sym (goes k v o n a done e)

  pub new_violation : (c w : ℕ) → halted k c w n a ≡ halted k c w 0 a
  new_violation c w = go (v == 0) (n == 0) e
    where
      go : (x y : Bool) → (x && y) ≡ true → cond (c == 0) (cond y (done a) (refused n)) (violated k c w) ≡ halted k c w 0 a
      go true true e = refl
      go true false e = absurd (true≢false (sym e))
      go false y e = absurd (true≢false (sym e))

  -- (it has no violation, so that the sets blurred and the borrow are not asked for)
  pub new_refusal : (j m : ℕ) → halted k v o m a ≡ halted j 0 0 m a
  new_refusal j m = go (v == 0) e
    where
      go : (x : Bool) → (x && n == 0) ≡ true → cond x (cond (m == 0) (done a) (refused m)) (violated k v o) ≡ halted j 0 0 m a
      go true e = refl
      go false e = absurd (true≢false (sym e))

  -- refused by a number of its own
  pub stopped_by : (m : ℕ) → halted k v o m a ≡ then (halted k v o n a) (λ s. halted 0 0 0 m s)
  stopped_by m = new_refusal 0 m ∙ goes k v o n a (λ s. halted 0 0 0 m s) e

-- a number that is not 0 refuses
pub halted_known : {A : Type 0} (m : ℕ) (a : A) → (m == 0) ≡ false → halted 0 0 0 m a ≡ refused m
halted_known m a z = rw z refl

-- ---- questions

-- there is no edge of the kind
pub none_fails : (c : ℕ) (s : Running) → done s ≡ failing (ok none) c s
none_fails c s = go (c == 0)
  where
    go : (x : Bool) → done s ≡ cond x (done s) (done s)
    go true = refl
    go false = refl

-- an answer made of another one
pub asked_map : {A B : Type 0} (g : Graph) (n : ℕ) (f : A → B) (t : Ans A) (a : A) → t ≡ L.of_name g n a → and_then t (λ x. ok (f x)) ≡ L.of_name g n (f a)
asked_map {A} {B} g n f t a e = ap {B = Ans B} (λ (u : Ans A). and_then u (λ x. ok (f x))) e ∙ go (well_formed g && held g n)
  where
    go : (b : Bool) → and_then (guard b 9 (ok a)) (λ x. ok (f x)) ≡ guard b 9 (ok (f a))
    go true = refl
    go false = refl

-- only a mutable reference is barred: the second look-up counts where the first says yes
pub barred : (g : Graph) (n : ℕ) (p : GEdge → Bool) (t : Ans Bool) → t ≡ L.of_name g n (is_mutable g n)
    → and_then t (λ m. cond m (L.of_name g n (lowest_of p g.edges)) (ok none)) ≡ L.of_name g n (lowest_of (λ x. is_mutable g n && p x) g.edges)
barred g n p t e =
    let l : Option ℕ = lowest_of p g.edges in
    ap {B = Ans (Option ℕ)} (λ (u : Ans Bool). and_then u (λ m. cond m (L.of_name g n l) (ok none))) e
    ∙ go (well_formed g && held g n) (is_mutable g n) l
    ∙ ap (L.of_name g n) (sym (lowest_guard (is_mutable g n) p g.edges))
  where
    go : (b m : Bool) (l : Option ℕ) → and_then (guard b 9 (ok m)) (λ y. cond y (guard b 9 (ok l)) (ok none)) ≡ guard b 9 (ok (cond m l none))
    go true true l = refl
    go true false l = refl
    go false m l = refl

-- one of the three answers of a look-up
pub asked : (g : Graph) (n : ℕ) (at : Option ℕ) (f : Borrows → Option ℕ) (t : Ans Borrows) → t ≡ borrowed_by g n at
    → and_then t (λ b. ok (f b)) ≡ L.of_name g n (f (record { full = lowest_of (borrows_fully n) g.edges; consistent = lowest_of (borrows n at) g.edges; mutable = lowest_of (borrows_mutably g n at) g.edges }))
unfolding borrowed_by
asked g n at f t e =
    asked_map {A = Borrows} g n f t (record { full = lowest_of (borrows_fully n) g.edges; consistent = lowest_of (borrows n at) g.edges; mutable = lowest_of (borrows_mutably g n at) g.edges }) e

-- ---- calls on the graph

-- the state after a call that left the graph h and blurred b sets
abbrev pub counted : ℕ → Running → Graph → Running
counted b r h = record { locals = r.locals; graph = h; next = r.next; root = r.root; blurs = count_on r.blurs b; offset = r.offset }

pub passed_up : (r : Running) (b : ℕ) (g : Graph) (x : Ans Graph) → ok g ≡ x → b ≡ blurs_by r.graph x → done (counted b r g) ≡ on_graph r x
passed_up r b g x e q = ap {B = Outcome Running} (λ (k : ℕ). done (counted k r g)) (q ∙ ap (blurs_by r.graph) (sym e)) ∙ ap (on_graph r) e

-- the state with a fresh name
abbrev pub named : Running → Graph → Running
named r g = record { locals = r.locals; graph = g; next = r.next + 1; root = r.root; blurs = r.blurs; offset = r.offset }

pub next_named : (m : Bool) (r : Running) (a : Ans Graph) → nat_lt r.next 65536 ≡ true → a ≡ new_name r.graph r.next m → then (lift a) (λ g. done (named r g)) ≡ new_ref m r
unfolding new_ref
next_named m r a e h = rw (e, sym h) (go a)
  where
    go : (b : Ans Graph) → then (lift b) (λ g. done (named r g)) ≡ then {B = Running} (lift b) (λ g. done (record { locals = r.locals; graph = g; next = suc r.next; root = r.root; blurs = r.blurs; offset = r.offset }))
    go (ok g) = ap (λ (k : ℕ). done (record { locals = r.locals; graph = g; next = k; root = r.root; blurs = r.blurs; offset = r.offset })) (add-one r.next)
    go (refuse k) = refl

-- ---- the word of a local

-- the kind of a local that is present is 1 for a value, 2 for a reference
pub local_kind : (k n : ℕ) (v : Operand) → v ≡ cond (nat_lt k 2) non_ref (reference n) → cond (not (k == 0)) (R.local_of v) S.Local.absent ≡ local_as k n
local_kind zero n v e = refl
local_kind (suc zero) n v e = ap R.local_of e
local_kind (suc (suc k)) n v e =
    let p : nat_eq (suc (suc k)) 0 ≡ false = ne_eqb (suc (suc k)) 0 (λ (h : suc (suc k) ≡ 0). omega arith) in
    let q : nat_eq (suc (suc k)) 1 ≡ false = ne_eqb (suc (suc k)) 1 (λ (h : suc (suc k) ≡ 1). omega arith) in
    let d : ltb (suc (suc k)) 2 ≡ false = le-ltb (suc (suc k)) 2 (omega arith) in
    let u : v ≡ reference n = rw d at e in
    rw (p, q) (ap R.local_of u)

-- ---- locals

pub local_in_lem : (ws : List ℕ) (n i d : ℕ) → i < n → i < length ws → local_in (slice_index_or ws i d) ≡ slice_index_or (locals_in ws n) i S.Local.absent
unfolding locals_in
local_in_lem [] zero i d h k = absurd (not-suc-le-zero h)
local_in_lem [] (suc n) i d h k = absurd (not-suc-le-zero k)
local_in_lem (w ∷ ws) zero i d h k = absurd (not-suc-le-zero h)
local_in_lem (w ∷ ws) (suc n) zero d h k = refl
local_in_lem (w ∷ ws) (suc n) (suc i) d h k = local_in_lem ws n i d (le_of_suc-le-suc h) (le_of_suc-le-suc k)

pub local_out : (ws : List ℕ) (n i : ℕ) → n ≤ i → S.Local.absent ≡ slice_index_or (locals_in ws n) i S.Local.absent
unfolding locals_in
local_out [] zero i h = refl
local_out [] (suc n) i h = refl
local_out (w ∷ ws) zero i h = refl
local_out (w ∷ ws) (suc n) zero h = absurd (not-suc-le-zero h)
local_out (w ∷ ws) (suc n) (suc i) h = local_out ws n i (le_of_suc-le-suc h)

pub local_over : (ws : List ℕ) (n i : ℕ) → length ws ≤ i → S.Local.absent ≡ slice_index_or (locals_in ws n) i S.Local.absent
unfolding locals_in
local_over [] zero i h = refl
local_over [] (suc n) i h = refl
local_over (w ∷ ws) zero i h = refl
local_over (w ∷ ws) (suc n) zero h = absurd (not-suc-le-zero h)
local_over (w ∷ ws) (suc n) (suc i) h = local_over ws n i (le_of_suc-le-suc h)

pub local_set : (ws : List ℕ) (n i w : ℕ) (x : S.Local) → local_in w ≡ x → locals_in (slice_set ws i w) n ≡ slice_set (locals_in ws n) i x
unfolding locals_in
local_set [] zero i w x e = refl
local_set [] (suc n) i w x e = refl
local_set (u ∷ ws) zero zero w x e = refl
local_set (u ∷ ws) zero (suc i) w x e = refl
local_set (u ∷ ws) (suc n) zero w x e = ap (λ (y : S.Local). y ∷ locals_in ws n) e
local_set (u ∷ ws) (suc n) (suc i) w x e = ap (λ (l : List S.Local). local_in u ∷ l) (local_set ws n i w x e)

pub local_unset : (ws : List ℕ) (n i : ℕ) (x : S.Local) → length ws ≤ i → locals_in ws n ≡ slice_set (locals_in ws n) i x
unfolding locals_in
local_unset [] zero i x h = refl
local_unset [] (suc n) i x h = refl
local_unset (u ∷ ws) zero i x h = refl
local_unset (u ∷ ws) (suc n) zero x h = absurd (not-suc-le-zero h)
local_unset (u ∷ ws) (suc n) (suc i) x h = ap (λ (l : List S.Local). local_in u ∷ l) (local_unset ws n i x (le_of_suc-le-suc h))

-- the state with other locals
pub relocated : (k v o n : ℕ) (r : Running) (i : ℕ) (x : S.Local) (l : List S.Local) → l ≡ slice_set r.locals i x
    → halted k v o n (record { locals = l; graph = r.graph; next = r.next; root = r.root; blurs = r.blurs; offset = r.offset }) ≡ then (halted k v o n r) (λ s. done (R.with_local s i x))
relocated k v o n r i x l e =
    ap {B = Outcome Running} (λ (y : List S.Local). halted k v o n (record { locals = y; graph = r.graph; next = r.next; root = r.root; blurs = r.blurs; offset = r.offset })) e
    ∙ halted_then {B = Running} k v o n r (λ s. R.with_local s i x)

-- ---- what comes after a question, on the state that was asked

pub heed_at : {A : Type 0} (g : Graph) (n : ℕ) (b : Bool) (r : Running) (k : Running → Outcome A) → then (heeding (L.of_name g n b) r) k ≡ needs_name g n (k r)
heed_at g n b r k = go (well_formed g && held g n)
  where
    go : (x : Bool) → then (heeding (guard x 9 (ok b)) r) k ≡ needs x 9 (k r)
    go true = refl
    go false = refl

-- a test on edges, whose lowest is l
pub fail_at : {A : Type 0} (g : Graph) (n : ℕ) (l : Option ℕ) (r : Running) (k : Running → Outcome A) (c : ℕ) → (c == 0) ≡ false
    → then (failing (L.of_name g n l) c r) k ≡ needs_name g n (fails_at r.blurs l c (k r))
fail_at {A} g n l r k c z = go (well_formed g && held g n) l
  where
    go : (x : Bool) (m : Option ℕ) → then (failing (guard x 9 (ok m)) c r) k ≡ needs x 9 (fails_at r.blurs m c (k r))
    go true none = rw z refl
    go true (some o) = rw z refl
    go false m = refl

pub known_then : {A B : Type 0} (g : Graph) (n : ℕ) (k : Outcome A) (f : A → Outcome B) → then (needs_name g n k) f ≡ needs_name g n (then k f)
known_then g n k f = go (well_formed g && held g n)
  where
    go : (x : Bool) → then (needs x 9 k) f ≡ needs x 9 (then k f)
    go true = refl
    go false = refl

pub fails_then : {A B : Type 0} (j : ℕ) (l : Option ℕ) (c : ℕ) (k : Outcome A) (f : A → Outcome B) → then (fails_at j l c k) f ≡ fails_at j l c (then k f)
fails_then j none c k f = refl
fails_then j (some o) c k f = refl

-- the name that the code foresees is the one that a new reference gets
pub made : {A : Type 0} (m : Bool) (r : Running) (x : ℕ) (k : ℕ → Running → Outcome A) → x ≡ cond (nat_lt r.next 65536) r.next 0 → then (new_ref m r) (k x) ≡ then (new_ref m r) (k r.next)
unfolding new_ref
made {A} m r x k e = ap (λ (y : ℕ). then (new_ref m r) (k y)) e ∙ go (nat_lt r.next 65536)
  where
    go : (b : Bool) → then (needs b 9 (then (lift (new_name r.graph r.next m)) (λ g. done (record { locals = r.locals; graph = g; next = suc r.next; root = r.root; blurs = r.blurs; offset = r.offset })))) (k (cond b r.next 0))
        ≡ then (needs b 9 (then (lift (new_name r.graph r.next m)) (λ g. done (record { locals = r.locals; graph = g; next = suc r.next; root = r.root; blurs = r.blurs; offset = r.offset })))) (k r.next)
    go true = refl
    go false = refl
