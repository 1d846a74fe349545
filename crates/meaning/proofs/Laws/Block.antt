-- A block's run from a state of the strong form ends in one, and is never refused with 8, 9, 16 or 23. So the loop's theorems hold for the blocks of a
-- routine.
use Prim.Native.Nat.{ℕ, zero, suc, ◌≤◌, ◌<◌, zero-le, ◌+◌, ◌*◌, ◌-◌}
use Rattle.std.proofs.Common.{arith, inl, inr, sym, ap, ◌∙◌}
use Rattle.std.proofs.Math.Bool.{true, not}
use Rattle.std.specs.Prelude.{false, Bool, ◌&&◌, ◌||◌, ◌⊎◌, ◌≢◌, ◌≡◌, eqb, leb, ltb, get_or, take, drop}
use Rattle.std.proofs.lemmas.Bool.{false≢true}
use mathlib.Core.List.{List, [], ◌∷◌}
use Rattle.std.proofs.Math.Path.{refl, subst}
use Rattle.std.proofs.Math.ListN.{length, get_or-eq_default}
use Rattle.meaning.specs.Answers.{ordinary, Outcome}
use Rattle.meaning.specs.Lists.{all, empty}
use Rattle.meaning.specs.BorrowGraph.{held, Graph}
use Rattle.meaning.specs.AbstractState.{Local, absent, value, ref, count1, State, Form, canonical, Operand}
use Rattle.meaning.specs.EntryPoints.{local_names, Running}
use Rattle.meaning.specs.Steps.{Machine, Instr, step, is_ret}
use Rattle.meaning.specs.Blocks.{start_machine, machine_at, settle, end_of, finish, run_from, instrs_of, Routine, run_block, exec}
use Rattle.meaning.specs.Loop.{Result, Block, no_block}
use Rattle.meaning.proofs.Laws.Base.{decide, eqb_eq, leb_le, leb_gt, eqb_self, both, eqb_no, and_l, and_r, and_i}
use Rattle.meaning.specs.Laws.Forms.{Strong, Open, Settled}
use Rattle.meaning.proofs.Laws.Own.{times, count_no, count_le, count_yes, Owns, owns_held, owns_root, owns_once}
use Rattle.meaning.specs.Laws.Promised.{within_frame, rets_placed, promised}
use Rattle.meaning.proofs.Laws.Rename.{canonical_form, canonical_holds}
use Rattle.meaning.proofs.Laws.Running.{Meets, met, broke, barred}
use Rattle.meaning.proofs.Laws.State.{absent≢ref, value≢ref, ref_inj, name_le}
use Rattle.meaning.proofs.Laws.Step.{local_use, Good, Fine, good_less, step_fine, any_ret}
use Rattle.meaning.specs.Refinement.InTurn.{run_to}

-- ---- references in locals

pub local_found : (xs : List Local) (n : ℕ) → 1 ≤ times n (local_names xs) → (i : ℕ) × (get_or xs i absent ≡ ref n)
local_found [] n h = absurd (omega arith)
local_found (absent ∷ xs) n h = let z = local_found xs n h in (suc z.0, z.1)
local_found (value ∷ xs) n h = let z = local_found xs n h in (suc z.0, z.1)
local_found (ref k ∷ xs) n h =
    decide (eqb n k)
    (λ e. (zero, ap ref (sym (eqb_eq {m = n} {n = k} e))))
    (λ e. let c : count1 (eqb n k) ≡ 0 = count_no e in let z = local_found xs n (omega arith) in (suc z.0, z.1))

-- one place only, and once only
local_once : (xs : List Local) (n : ℕ) → ((i j : ℕ) → get_or xs i absent ≡ ref n → get_or xs j absent ≡ ref n → i ≡ j) → times n (local_names xs) ≤ 1
local_once [] n h = zero-le
local_once (absent ∷ xs) n h = local_once xs n (λ i j p q. let e : suc i ≡ suc j = h (suc i) (suc j) p q in omega arith)
local_once (value ∷ xs) n h = local_once xs n (λ i j p q. let e : suc i ≡ suc j = h (suc i) (suc j) p q in omega arith)
local_once (ref k ∷ xs) n h =
    let r : times n (local_names xs) ≤ 1 = local_once xs n (λ i j p q. let e : suc i ≡ suc j = h (suc i) (suc j) p q in omega arith) in
    decide (eqb n k)
    (λ e. decide (leb 1 (times n (local_names xs)))
    (λ y. let z = local_found xs n (leb_le y) in let w : 0 ≡ suc z.0 = h zero (suc z.0) (ap ref (sym (eqb_eq {m = n} {n = k} e))) z.1 in absurd (omega arith))
    (λ y. let a : times n (local_names xs) < 1 = leb_gt {m = 1} y in let c : count1 (eqb n k) ≤ 1 = count_le (eqb n k) in omega arith))
    (λ e. let c : count1 (eqb n k) ≡ 0 = count_no e in omega arith)

local_unique : (xs : List Local) (n : ℕ) → times n (local_names xs) ≤ 1 → (i j : ℕ) → get_or xs i absent ≡ ref n → get_or xs j absent ≡ ref n → i ≡ j
local_unique [] n b i j p q = absurd (absent≢ref p)
local_unique (absent ∷ xs) n b zero j p q = absurd (absent≢ref p)
local_unique (absent ∷ xs) n b (suc i) zero p q = absurd (absent≢ref q)
local_unique (absent ∷ xs) n b (suc i) (suc j) p q = ap suc (local_unique xs n b i j p q)
local_unique (value ∷ xs) n b zero j p q = absurd (value≢ref p)
local_unique (value ∷ xs) n b (suc i) zero p q = absurd (value≢ref q)
local_unique (value ∷ xs) n b (suc i) (suc j) p q = ap suc (local_unique xs n b i j p q)
local_unique (ref k ∷ xs) n b zero zero p q = refl
local_unique (ref k ∷ xs) n b zero (suc j) p q =
    let c : count1 (eqb n k) ≡ 1 = count_yes (subst (λ (m : ℕ). eqb n m ≡ true) (sym (ref_inj p)) (eqb_self n)) in
    let d : 1 ≤ times n (local_names xs) = local_use xs j n q in
    absurd (omega arith)
local_unique (ref k ∷ xs) n b (suc i) zero p q =
    let c : count1 (eqb n k) ≡ 1 = count_yes (subst (λ (m : ℕ). eqb n m ≡ true) (sym (ref_inj q)) (eqb_self n)) in
    let d : 1 ≤ times n (local_names xs) = local_use xs i n p in
    absurd (omega arith)
local_unique (ref k ∷ xs) n b (suc i) (suc j) p q = ap suc (local_unique xs n (omega arith) i j p q)

-- ---- the start of a block

ref_small : (l : ℕ) (s : State) → Form l s → (i n : ℕ) → get_or s.locals i absent ≡ ref n → (n ≡ i) × (n < l)
ref_small l s f i n e =
    let q : n ≡ i = f.own i n e in
    let c : length s.locals ≡ l = f.count in (
      q,
      decide (ltb i l) (λ z. let y : i < l = leb_le z in omega arith)
          (λ z. let y : l < suc i = leb_gt {m = suc i} {n = l} z in absurd (absent≢ref (sym (get_or-eq_default s.locals absent {n = i} (omega arith)) ∙ e))),
    )

pub strong_owns : (l m : ℕ) (s : State) → suc l + m ≤ 65536 → Strong l s → Owns l s.graph (suc l) (local_names s.locals) m
strong_owns l m s b h =
    let f : Form l s = h.form in
    record {
      formed = f.formed;
      no_root = f.no_root;
      counts = λ n. decide (held s.graph n) (λ e. yes_held f n e (f.among n e)) (λ e. not_held f n e);
      below = λ n e. let k : n ≤ l = name_le l s f n e in omega arith;
      left = b;
    }
  where
    names : List ℕ
    names = local_names s.locals

    once : Form l s → (n : ℕ) → times n names ≤ 1
    once f n = local_once s.locals n (λ i j p q. sym (ref_small l s f i n p).0 ∙ (ref_small l s f j n q).0)

    yes_held : Form l s → (n : ℕ) → held s.graph n ≡ true → (n ≡ l) ⊎ (get_or s.locals n absent ≡ ref n) → times n (l ∷ names) ≡ count1 (held s.graph n)
    yes_held f n e (inl q) =
        let a : count1 (held s.graph n) ≡ 1 = count_yes e in
        let c : count1 (eqb n l) ≡ 1 = count_yes (subst (λ (k : ℕ). eqb n k ≡ true) q (eqb_self n)) in
        let d : times n names < 1 = decide (leb 1 (times n names)) (λ z. let y = local_found s.locals n (leb_le z) in let w : n < l = (ref_small l s f y.0 n y.1).1 in absurd (omega arith)) (λ z. leb_gt {m = 1} z) in
        omega arith
    yes_held f n e (inr q) =
        let a : count1 (held s.graph n) ≡ 1 = count_yes e in
        let w : n < l = (ref_small l s f n n q).1 in
        let c : count1 (eqb n l) ≡ 0 = count_no (eqb_no {m = n} {n = l} (λ z. omega arith)) in
        let d : 1 ≤ times n names = local_use s.locals n n q in
        let g : times n names ≤ 1 = once f n in
        omega arith

    not_held : Form l s → (n : ℕ) → held s.graph n ≡ false → times n (l ∷ names) ≡ count1 (held s.graph n)
    not_held f n e =
        let a : count1 (held s.graph n) ≡ 0 = count_no e in
        let c : count1 (eqb n l) ≡ 0 = count_no (eqb_no {m = n} {n = l} (λ z. both (subst (λ (k : ℕ). held s.graph k ≡ true) (sym z) h.root) e)) in
        let d : times n names < 1 = decide (leb 1 (times n names))
        (λ z. let y = local_found s.locals n (leb_le z) in
        let w : n ≡ y.0 = (ref_small l s f y.0 n y.1).0 in
        absurd (both (h.refs n (subst (λ (i : ℕ). get_or s.locals i absent ≡ ref n) (sym w) y.1)) e)) (λ z. leb_gt {m = 1} z) in
        omega arith

start_good : (l m : ℕ) (s : State) → suc l + m ≤ 65536 → Strong l s → Good l m [] (start_machine l s).state
start_good l m s b h = record { count = h.form.count; keeps = record { root = refl; locals = refl; own = strong_owns l m s b h } }

-- no name hangs on the offset of the instruction that runs
pub at_good : (l o k : ℕ) (m : Machine) → Good l k m.stack m.state → Good l k m.stack (machine_at o m).state
at_good l o k m h = record { count = h.count; keeps = record { root = h.keeps.root; locals = h.keeps.locals; own = h.keeps.own } }

-- ---- the end of a block

pub owns_open : (l m : ℕ) (ls : List Local) (g : Graph) (next : ℕ) → l ≤ 16 → length ls ≡ l → Owns l g next (local_names ls) m → Open l (record { locals = ls; graph = g })
owns_open l m ls g next b c o = record { count = c; small = omega arith; formed = o.formed; among = among; no_root = o.no_root }
  where
    among : (n : ℕ) → held g n ≡ true → (n ≡ l) ⊎ ((i : ℕ) × (get_or ls i absent ≡ ref n))
    among n h =
        let a : times n (l ∷ local_names ls) ≡ count1 (held g n) = o.counts n in
        let d : count1 (held g n) ≡ 1 = count_yes h in
        decide (eqb n l) (λ q. inl (eqb_eq {m = n} {n = l} q)) (λ q. let f : count1 (eqb n l) ≡ 0 = count_no q in inr (local_found ls n (omega arith)))

pub owns_settled : (l m : ℕ) (ls : List Local) (g : Graph) (next : ℕ) → l ≤ 16 → length ls ≡ l → Owns l g next (local_names ls) m → Settled l (record { locals = ls; graph = g })
owns_settled l m ls g next b c o = record {
  opened = owns_open l m ls g next b c o;
  root = owns_root l g next (local_names ls) m o;
  refs = in_use;
  once = λ i j n p q. local_unique ls n (once n) i j p q;
}
  where
    once : (n : ℕ) → times n (local_names ls) ≤ 1
    once n = let a : times n (l ∷ local_names ls) ≤ 1 = owns_once l g next (local_names ls) m o n in omega arith

    in_use : (i n : ℕ) → get_or ls i absent ≡ ref n → (n ≢ l) × (held g n ≡ true)
    in_use i n q =
        let u : 1 ≤ times n (local_names ls) = local_use ls i n q in
        let a : times n (l ∷ local_names ls) ≤ 1 = owns_once l g next (local_names ls) m o n in
        ((λ w. let d : count1 (eqb n l) ≡ 1 = count_yes (subst (λ (k : ℕ). eqb n k ≡ true) w (eqb_self n)) in omega arith), owns_held l g next (local_names ls) m o n (omega arith))

canonical_strong : (l : ℕ) (s : State) → Settled l s → Strong l (canonical l s)
canonical_strong l s h = let z = canonical_holds l s h in record { form = canonical_form l s h.opened; root = z.0; refs = z.1 }

-- the end state has the property; a refusal is an ordinary one
pub data Ends (P : State → Type 0) : Result State → Type 0 where
  ends : {k : ℕ} {t : State} → P t → Ends P (Result.ended k t)
  leaves : {k : ℕ} → Ends P (Result.returned k)
  breaks : {k c o a : ℕ} → Ends P (Result.violated k c o a)
  bars : {n p : ℕ} → ordinary n ≡ true → Ends P (Result.refused n p)

-- Two runs of a block that differ only by its end, x or y: their results are related by R, if its ends are.
module _ (l : ℕ) (small : l ≤ 16) (returns : ℕ) (b : Block) (x y : Running → List Operand → Result State) (R : Result State → Result State → Type 0)
    (violates : (k c o a : ℕ) → R (Result.violated k c o a) (Result.violated k c o a)) (refuses : (n o : ℕ) → ordinary n ≡ true → R (Result.refused n o) (Result.refused n o))
    (at-end : (m : ℕ) (r : Running) (vs : List Operand) → Good l m vs r → R (x r vs) (y r vs))
    (at-ret : (r : Running) (vs : List Operand) → empty b.successors ≡ true → R (x r vs) (y r vs)) where
  settle_relates : {P : Machine → Type 0} (o : ℕ) {a : Outcome Machine} (k h : Machine → Result State) → Meets P a → ((n : Machine) → P n → R (k n) (h n)) → R (settle o a k) (settle o a h)
  settle_relates o k h (met {a} p) f = f a p
  settle_relates o k h (broke {k = n} {c} {o = at}) f = violates n c o at
  settle_relates o k h (barred {n} e) f = refuses n o e

  -- after a return nothing is left to do, and nobody gets a state
  after_ret : (o : ℕ) (is : List Instr) (m : Machine) → empty is ≡ true → empty b.successors ≡ true → R (run_to x returns o is m) (run_to y returns o is m)
  unfolding run_to
  after_ret o (i ∷ is) m p q = absurd (false≢true p)
  after_ret o [] m p q = at-ret m.state m.stack q

  pub run_relates : (o : ℕ) (is : List Instr) (k : ℕ) (m : Machine) → all (within_frame l) is ≡ true → rets_placed b.successors is ≡ true → Fine l k m → 17 * length is ≤ k
      → R (run_to x returns o is m) (run_to y returns o is m)
  unfolding run_to rets_placed step
  run_relates o [] k m f p h c = at-end k m.state m.stack h.good
  run_relates o (i ∷ is) k m f p h c =
      let p₁ : not (is_ret i) || (empty is && empty b.successors) ≡ true = and_l (not (is_ret i) || (empty is && empty b.successors)) (rets_placed b.successors is) p in
      let p₂ : rets_placed b.successors is ≡ true = and_r (not (is_ret i) || (empty is && empty b.successors)) (rets_placed b.successors is) p in
      let e : length (i ∷ is) ≡ suc (length is) = refl in
      decide (is_ret i)
      (λ q. let w : empty is && empty b.successors ≡ true = subst (λ (z : Bool). not z || (empty is && empty b.successors) ≡ true) q p₁ in
      settle_relates o (λ n. run_to x returns (suc o) is n) (λ n. run_to y returns (suc o) is n)
      (any_ret l small returns i q k m.stack (machine_at o m).state (at_good l o k m h.good))
      (λ n u. after_ret (suc o) is n (and_l (empty is) (empty b.successors) w) (and_r (empty is) (empty b.successors) w)))
      (λ q. settle_relates o (λ n. run_to x returns (suc o) is n) (λ n. run_to y returns (suc o) is n)
      (step_fine l small returns i m.stack (17 * length is) (machine_at o m).state (and_l (within_frame l i) (all (within_frame l) is) f) q
      (good_less l small k (17 * length is + 17) m.stack (machine_at o m).state (at_good l o k m h.good) (omega arith)) h.few)
      (λ n u. run_relates (suc o) is (17 * length is) n (and_r (within_frame l i) (all (within_frame l) is) f) p₂ u (omega arith)))

pub run_to_lem : (returns : ℕ) (b : Block) (o : ℕ) (is : List Instr) (m : Machine) → run_from returns b o is m ≡ run_to (finish b) returns o is m
unfolding run_from run_to
run_to_lem returns b o [] m = refl
run_to_lem returns b o (i ∷ is) m = λ j. settle o (step returns i (machine_at o m)) (λ n. run_to_lem returns b (suc o) is n j)

ends_with : {P Q : State → Type 0} {a : Result State} → ((t : State) → P t → Q t) → Ends P a → Ends Q a
ends_with f (ends {t} p) = ends (f t p)
ends_with f leaves = leaves
ends_with f breaks = breaks
ends_with f (bars e) = bars e

-- a state with its names changed at a block's end
pub record Ended (l : ℕ) (t : State) : Type 0 where
  pub before : State
  pub settled : Settled l before
  pub renamed : canonical l before ≡ t

module _ (l : ℕ) (small : l ≤ 16) (returns : ℕ) (b : Block) where
  finish_ends : (m : ℕ) (r : Running) (vs : List Operand) → Good l m vs r → Ends (Ended l) (finish b r vs)
  finish_ends m r (v ∷ vs) h = bars refl
  finish_ends m r [] h = go b.successors
    where
      s : State
      s = record { locals = r.locals; graph = r.graph }

      go : (es : List ℕ) → Ends (Ended l) (end_of b es r)
      go [] = leaves
      go (e ∷ es) = ends (record {
        before = s;
        settled = owns_settled l m r.locals r.graph r.next small h.count h.keeps.own;
        renamed = ap (λ (k : ℕ). canonical k s) (sym h.keeps.root);
      })

  -- nobody gets a state
  return_ends : (r : Running) (vs : List Operand) → empty b.successors ≡ true → Ends (Ended l) (finish b r vs)
  return_ends r (v ∷ vs) w = bars refl
  return_ends r [] w = go b.successors w
    where
      go : (es : List ℕ) → empty es ≡ true → Ends (Ended l) (end_of b es r)
      go [] w = leaves
      go (e ∷ es) w = absurd (false≢true w)

  run_from_ends : (o : ℕ) (is : List Instr) (k : ℕ) (m : Machine) → all (within_frame l) is ≡ true → rets_placed b.successors is ≡ true → Fine l k m → 17 * length is ≤ k → Ends (Ended l) (run_from returns b o is m)
  run_from_ends o is k m f p h c =
      subst (Ends (Ended l)) (sym (run_to_lem returns b o is m))
      (run_relates l small returns b (finish b) (finish b) (λ u v. Ends (Ended l) u) (λ n d a e. breaks) (λ n a e. bars e) finish_ends return_ends o is k m f p h c)

-- ---- the blocks of a routine

module _ {A : Type 0} (f : A → Bool) where
  all_take : (n : ℕ) (xs : List A) → all f xs ≡ true → all f (take n xs) ≡ true
  all_take zero xs h = refl
  all_take (suc n) [] h = refl
  all_take (suc n) (x ∷ xs) h = and_i (and_l (f x) (all f xs) h) (all_take n xs (and_r (f x) (all f xs) h))

  all_drop : (n : ℕ) (xs : List A) → all f xs ≡ true → all f (drop n xs) ≡ true
  all_drop zero xs h = h
  all_drop (suc n) [] h = refl
  all_drop (suc n) (x ∷ xs) h = all_drop n xs (and_r (f x) (all f xs) h)

  pub all_get_d : (xs : List A) (i : ℕ) (d : A) → all f xs ≡ true → f d ≡ true → f (get_or xs i d) ≡ true
  all_get_d [] i d h k = k
  all_get_d (x ∷ xs) zero d h k = and_l (f x) (all f xs) h
  all_get_d (x ∷ xs) (suc i) d h k = all_get_d xs i d (and_r (f x) (all f xs) h) k

module _ {A : Type 0} where
  take_le : (n : ℕ) (xs : List A) → length (take n xs) ≤ length xs
  take_le zero xs = zero-le
  take_le (suc n) [] = zero-le
  take_le (suc n) (x ∷ xs) = let h : length (take n xs) ≤ length xs = take_le n xs in omega arith

  drop_le : (n : ℕ) (xs : List A) → length (drop n xs) ≤ length xs
  drop_le zero xs = omega arith
  drop_le (suc n) [] = zero-le
  drop_le (suc n) (x ∷ xs) = let h : length (drop n xs) ≤ length xs = drop_le n xs in omega arith

no_block_lem : (code : List Instr) → rets_placed no_block.successors (instrs_of no_block code) ≡ true
unfolding rets_placed instrs_of
no_block_lem [] = refl
no_block_lem (i ∷ is) = go (is_ret i)
  where
    go : (x : Bool) → (not x || (true && true)) && true ≡ true
    go true = refl
    go false = refl

-- what a block of a promised routine starts with: its instructions is, and the state s
pub record Enters (q : Routine) (b : Block) (is : List Instr) (s : State) : Type 0 where
  pub small : q.locals ≤ 16
  pub short : length is ≤ 512
  pub within : all (within_frame q.locals) is ≡ true
  pub placed : rets_placed b.successors is ≡ true
  pub fine : Fine q.locals (17 * length is) (start_machine q.locals s)

pub enters : (q : Routine) → promised q ≡ true → (i : ℕ) (s : State) → Strong q.locals s → Enters q (get_or q.blocks i no_block) (instrs_of (get_or q.blocks i no_block) q.code) s
unfolding promised instrs_of
enters q h i s strong =
    let b : Block = get_or q.blocks i no_block in
    let is : List Instr = take (suc (b.exit - b.entry)) (drop b.entry q.code) in
    let f : Block → Bool = λ c. rets_placed c.successors (instrs_of c q.code) in
    let x : Bool = leb q.locals 16 && leb (length q.code) 512 in
    let y : Bool = all (within_frame q.locals) q.code && all f q.blocks in
    let h₁ : x ≡ true = and_l x y h in
    let h₂ : y ≡ true = and_r x y h in
    let small : q.locals ≤ 16 = leb_le (and_l (leb q.locals 16) (leb (length q.code) 512) h₁) in
    let most : length q.code ≤ 512 = leb_le (and_r (leb q.locals 16) (leb (length q.code) 512) h₁) in
    let l₁ : length is ≤ length (drop b.entry q.code) = take_le (suc (b.exit - b.entry)) (drop b.entry q.code) in
    let l₂ : length (drop b.entry q.code) ≤ length q.code = drop_le b.entry q.code in
    record {
      small = small;
      short = omega arith;
      within = all_take (within_frame q.locals) (suc (b.exit - b.entry)) (drop b.entry q.code) (all_drop (within_frame q.locals) b.entry q.code (and_l (all (within_frame q.locals) q.code) (all f q.blocks) h₂));
      placed = all_get_d f q.blocks i no_block (and_r (all (within_frame q.locals) q.code) (all f q.blocks) h₂) (no_block_lem q.code);
      fine = record { good = start_good q.locals (17 * length is) s (omega arith) strong; few = zero-le };
    }

-- What running a block answers: a state with its names changed; a violation; or a refusal that is not 8, 9, 16 or 23.
exec_ended : (q : Routine) → promised q ≡ true → (i : ℕ) (s : State) → Strong q.locals s → Ends (Ended q.locals) (exec q i s)
unfolding exec run_block
exec_ended q h i s strong =
    let b : Block = get_or q.blocks i no_block in
    let is : List Instr = instrs_of b q.code in
    let e : Enters q b is s = enters q h i s strong in
    run_from_ends q.locals e.small q.returns b b.entry is (17 * length is) (start_machine q.locals s) e.within e.placed e.fine (omega arith)

-- such a state has the strong form
pub exec_ends : (q : Routine) → promised q ≡ true → (i : ℕ) (s : State) → Strong q.locals s → Ends (Strong q.locals) (exec q i s)
exec_ends q h i s strong =
    ends_with (λ t z. subst (Strong q.locals) z.renamed (canonical_strong q.locals z.before z.settled)) (exec_ended q h i s strong)

abbrev IsEnded : Result State → Type 0
IsEnded (Result.ended k v) = Unit {0}
IsEnded (Result.returned k) = ⊥
IsEnded (Result.violated k c o a) = ⊥
IsEnded (Result.refused n o) = ⊥

abbrev IsRefused : Result State → Type 0
IsRefused (Result.ended k v) = ⊥
IsRefused (Result.returned k) = ⊥
IsRefused (Result.violated k c o a) = ⊥
IsRefused (Result.refused n o) = Unit {0}

abbrev from_ended : State → Result State → State
from_ended d (Result.ended k v) = v
from_ended d (Result.returned k) = d
from_ended d (Result.violated k c o a) = d
from_ended d (Result.refused n o) = d

abbrev from_refused : ℕ → Result State → ℕ
from_refused d (Result.ended k v) = d
from_refused d (Result.returned k) = d
from_refused d (Result.violated k c o a) = d
from_refused d (Result.refused n o) = n

ends_at : {P : State → Type 0} {a : Result State} → Ends P a → (k : ℕ) (t : State) → a ≡ Result.ended k t → P t
ends_at {P} (ends {t} p) k u e = subst P (ap (from_ended t) e) p
ends_at {P} leaves k u e = absurd (subst IsEnded (sym e) tt)
ends_at {P} breaks k u e = absurd (subst IsEnded (sym e) tt)
ends_at {P} (bars w) k u e = absurd (subst IsEnded (sym e) tt)

ends_refused : {P : State → Type 0} {a : Result State} → Ends P a → (n o : ℕ) → a ≡ Result.refused n o → ordinary n ≡ true
ends_refused (ends p) n o e = absurd (subst IsRefused (sym e) tt)
ends_refused leaves n o e = absurd (subst IsRefused (sym e) tt)
ends_refused breaks n o e = absurd (subst IsRefused (sym e) tt)
ends_refused (bars {n = k} w) n o e = subst (λ (j : ℕ). ordinary j ≡ true) (ap (from_refused n) e) w

-- what a block hands on
pub exec_hands : (q : Routine) → promised q ≡ true → (i k : ℕ) (s t : State) → exec q i s ≡ Result.ended k t → Strong q.locals s → Ended q.locals t
exec_hands q h i k s t e f = ends_at (exec_ended q h i s f) k t e

-- no block's run is refused with 8, 9, 16 or 23
pub exec_refuses : (q : Routine) → promised q ≡ true → (i : ℕ) (s : State) (n o : ℕ) → exec q i s ≡ Result.refused n o → Strong q.locals s → ordinary n ≡ true
exec_refuses q h i s n o e f = ends_refused (exec_ends q h i s f) n o e

-- the hypothesis of the loop's theorems
pub exec_keeps : (q : Routine) → promised q ≡ true → (i k : ℕ) (s t : State) → exec q i s ≡ Result.ended k t → Strong q.locals s → Strong q.locals t
exec_keeps q h i k s t e f = ends_at (exec_ends q h i s f) k t e
