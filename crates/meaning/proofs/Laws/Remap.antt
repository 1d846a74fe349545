-- Where a direct rename is not refused with 16, it keeps names apart: the graph stays well formed. Where besides no new name is a greater old one,
-- the Rust's renaming one by one gives the same.
use Rattle.std.specs.Prelude.{ℕ, ◌<◌, ◌≤◌, true, false, Bool, ◌||◌, cond, ◌&&◌, not, List, [], ◌∷◌, map, ◌⊎◌, ◌≢◌, ◌≡◌, eqb, ltb, leb, drop}
use Rattle.std.proofs.Common.{zero-le, arith, inl, inr, ◌∙◌, sym, subst}
use Rattle.std.proofs.lemmas.Bool.{false≢true}
use Rattle.std.proofs.Math.Path.{refl, ap}
use Rattle.meaning.specs.Answers.{ok, refuse, guard}
use Rattle.meaning.specs.Lists.{any, all}
use Rattle.meaning.specs.BorrowGraph.{Graph, well_formed, renamed, Change, name_after, clash, remap, is_old, alike, twice, Name, holds, collides, ascending, held, rename_names}
use Rattle.meaning.specs.AbstractState.{count1}
use Rattle.meaning.specs.EntryPoints.{ascend}
use Rattle.meaning.proofs.Laws.Base.{or_l, or_r, or_cases, both, and_i, eqb_self, and_r, eqb_eq, decide, and_l, not_false, le_leb, leb_le, guard_ok, ok_inj, not_true, or_no_l, or_no_r}
use Rattle.meaning.proofs.Laws.Call.{holds_all}
use Rattle.meaning.proofs.Laws.Graph.{wf→inv, inv→wf, room}
use Rattle.meaning.proofs.Laws.InTurn.{in_turn_lem, to_apart, ascend_sorted}
use Rattle.meaning.proofs.Laws.Own.{times, count_no, count_yes}
use Rattle.meaning.proofs.Laws.Rename.{rename_inv, rename_length, hold_names}
use Rattle.meaning.proofs.Laws.Running.{ascend_times}
use Rattle.meaning.specs.Refinement.InTurn.{one_by_one, overtaken, overtakes}

-- the refusals
module _ (g : Graph) (ms : List Change) where
  pub remap_9 : well_formed g ≡ false → remap g ms ≡ refuse 9
  unfolding remap
  remap_9 w = rw w

  pub remap_16 : well_formed g ≡ true → clash g.names ms ≡ true → remap g ms ≡ refuse 16
  unfolding remap
  remap_16 w h = rw (w, h)

  pub remap_ok : well_formed g ≡ true → clash g.names ms ≡ false → remap g ms ≡ ok (renamed (name_after ms) g)
  unfolding remap
  remap_ok w h = rw (w, h)

-- one that passes a test, and where it is found, every other test that it passes finds one
some_one : {A : Type 0} (p : A → Bool) (xs : List A) → any p xs ≡ true → (x : A) × (p x ≡ true) × ((q : A → Bool) → q x ≡ true → any q xs ≡ true)
some_one p [] h = absurd (false≢true h)
some_one {A} p (x ∷ xs) h = go (or_cases (p x) (any p xs) h) (some_one p xs)
  where
    go : (p x ≡ true) ⊎ (any p xs ≡ true) → (any p xs ≡ true → (y : A) × (p y ≡ true) × ((q : A → Bool) → q y ≡ true → any q xs ≡ true)) → (y : A) × (p y ≡ true) × ((q : A → Bool) → q y ≡ true → any q (x ∷ xs) ≡ true)
    go (inl e) r = (x, e, λ q z. or_l (any q xs) z)
    go (inr e) r = let w = r e in (w.0, w.1, λ q z. or_r (q x) (w.2 q z))

-- ---- old and new names

hit : (m : Change) (ms : List Change) (n : ℕ) → eqb n m.old ≡ true → name_after (m ∷ ms) n ≡ m.new
unfolding name_after
hit m ms n e = ap (λ (b : Bool). cond b m.new (name_after ms n)) e

miss : (m : Change) (ms : List Change) (n : ℕ) → eqb n m.old ≡ false → name_after (m ∷ ms) n ≡ name_after ms n
unfolding name_after
miss m ms n e = ap (λ (b : Bool). cond b m.new (name_after ms n)) e

stays : (ms : List Change) (n : ℕ) → is_old ms n ≡ false → name_after ms n ≡ n
unfolding is_old name_after
stays [] n h = refl
stays (m ∷ ms) n h =
    miss m ms n (or_no_l (eqb n m.old) (any (λ k. eqb n k.old) ms) h) ∙ stays ms n (or_no_r (eqb n m.old) (any (λ k. eqb n k.old) ms) h)

-- the pair that gives an old name its new one
its_pair : (ms : List Change) (n : ℕ) → is_old ms n ≡ true → any (λ m. eqb n m.old && eqb (name_after ms n) m.new) ms ≡ true
unfolding is_old
its_pair [] n h = absurd (false≢true h)
its_pair (m ∷ ms) n h = go (eqb n m.old) refl (its_pair ms n)
  where
    go : (b : Bool) → eqb n m.old ≡ b → (any (λ k. eqb n k.old) ms ≡ true → any (λ k. eqb n k.old && eqb (name_after ms n) k.new) ms ≡ true)
        → any (λ k. eqb n k.old && eqb (name_after (m ∷ ms) n) k.new) (m ∷ ms) ≡ true
    go true e r = or_l (any (λ k. eqb n k.old && eqb (name_after (m ∷ ms) n) k.new) ms) (and_i e (subst (λ (j : ℕ). eqb j m.new ≡ true) (sym (hit m ms n e)) (eqb_self m.new)))
    go false e r =
        or_r (eqb n m.old && eqb (name_after (m ∷ ms) n) m.new)
        (subst (λ (j : ℕ). any (λ k. eqb n k.old && eqb j k.new) ms ≡ true) (sym (miss m ms n e)) (r (later (or_cases (eqb n m.old) (any (λ k. eqb n k.old) ms) h))))
      where
        later : (eqb n m.old ≡ true) ⊎ (any (λ k. eqb n k.old) ms ≡ true) → any (λ k. eqb n k.old) ms ≡ true
        later (inl z) = absurd (both z e)
        later (inr z) = z

pair_of : (ms : List Change) (n : ℕ) → is_old ms n ≡ true → (k : Change) × (n ≡ k.old) × (name_after ms n ≡ k.new) × ((q : Change → Bool) → q k ≡ true → any q ms ≡ true)
pair_of ms n h =
    let w = some_one (λ k. eqb n k.old && eqb (name_after ms n) k.new) ms (its_pair ms n h) in
    let k : Change = w.0 in
    (k, eqb_eq {m = n} {n = k.old} (and_l (eqb n k.old) (eqb (name_after ms n) k.new) w.1), eqb_eq {m = name_after ms n} {n = k.new} (and_r (eqb n k.old) (eqb (name_after ms n) k.new) w.1), w.2)

-- no two old names get the same new one
olds_apart : (ms : List Change) (m n : ℕ) → twice ms ≡ false → is_old ms m ≡ true → is_old ms n ≡ true → name_after ms m ≡ name_after ms n → m ≡ n
unfolding twice is_old
olds_apart [] m n t hm hn e = absurd (false≢true hm)
olds_apart (k ∷ ks) m n t hm hn e = go (eqb m k.old) (eqb n k.old) refl refl (or_cases (eqb m k.old) (is_old ks m) hm) (or_cases (eqb n k.old) (is_old ks n) hn) (olds_apart ks m n (or_no_r (any (alike k) ks) (twice ks) t))
  where
    -- one of the two has the first pair, the other a later one with the same new name
    never : (i : ℕ) → is_old ks i ≡ true → k.new ≡ name_after ks i → ⊥
    never i h q =
        let w = pair_of ks i h in
        let z : eqb k.new w.0.new ≡ true = subst (λ (x : ℕ). eqb k.new x ≡ true) (q ∙ w.2) (eqb_self k.new) in
        both (w.3 (alike k) (or_r (eqb k.old w.0.old) z)) (or_no_l (any (alike k) ks) (twice ks) t)

    go : (a b : Bool) → eqb m k.old ≡ a → eqb n k.old ≡ b → (eqb m k.old ≡ true) ⊎ (is_old ks m ≡ true) → (eqb n k.old ≡ true) ⊎ (is_old ks n ≡ true)
        → (is_old ks m ≡ true → is_old ks n ≡ true → name_after ks m ≡ name_after ks n → m ≡ n) → m ≡ n
    go true true p q hm hn r = eqb_eq {m = m} {n = k.old} p ∙ sym (eqb_eq {m = n} {n = k.old} q)
    go true false p q hm (inl z) r = absurd (both z q)
    go true false p q hm (inr z) r = absurd (never n z (sym (hit k ks m p) ∙ e ∙ miss k ks n q))
    go false true p q (inl z) hn r = absurd (both z p)
    go false true p q (inr z) hn r = absurd (never m z (sym (hit k ks n q) ∙ sym e ∙ miss k ks m p))
    go false false p q (inl z) hn r = absurd (both z p)
    go false false p q (inr y) (inl z) r = absurd (both z q)
    go false false p q (inr y) (inr z) r = r y z (sym (miss k ks m p) ∙ e ∙ miss k ks n q)

module _ (ns : List Name) (ms : List Change) (c : clash ns ms ≡ false) where
  apart : twice ms ≡ false
  unfolding clash
  apart = or_no_l (twice ms) (any (collides ns ms) ms) c

  clear : any (collides ns ms) ms ≡ false
  unfolding clash
  clear = or_no_r (twice ms) (any (collides ns ms) ms) c

  -- a name outside the old ones is not the new name of an old one
  outside : (m n : ℕ) → holds ns n ≡ true → is_old ms m ≡ true → is_old ms n ≡ false → name_after ms m ≡ n → ⊥
  outside m n h p q e =
      let w = pair_of ms m p in
      both (w.3 (collides ns ms) (subst (λ (j : ℕ). holds ns j && not (is_old ms j) ≡ true) (sym e ∙ w.2) (and_i h (not_false q)))) clear

  pub changed_apart : (m n : ℕ) → holds ns m ≡ true → holds ns n ≡ true → name_after ms m ≡ name_after ms n → m ≡ n
  changed_apart m n hm hn e = go (is_old ms m) (is_old ms n) refl refl
    where
      go : (a b : Bool) → is_old ms m ≡ a → is_old ms n ≡ b → m ≡ n
      go true true p q = olds_apart ms m n apart p q e
      go true false p q = absurd (outside m n hn p q (e ∙ stays ms n q))
      go false true p q = absurd (outside n m hm q p (sym e ∙ stays ms m p))
      go false false p q = sym (stays ms m p) ∙ e ∙ stays ms n q

-- ---- numbers of 16 bits

low : (ns : List Name) → ascending ns ≡ true → all (λ a. ltb a.id 65536) ns ≡ true
unfolding ascending
low [] h = refl
low (a ∷ ns) h =
    let t : Name → Bool = λ m. ltb a.id m.id in
    and_i (and_l (ltb a.id 65536) (all t ns) (and_l (ltb a.id 65536 && all t ns) (ascending ns) h)) (low ns (and_r (ltb a.id 65536 && all t ns) (ascending ns) h))

pub changed_small : (ms : List Change) → all (λ m. ltb m.new 65536) ms ≡ true → (n : ℕ) → n < 65536 → name_after ms n < 65536
unfolding name_after
changed_small [] h n l = l
changed_small (m ∷ ms) h n l = go (eqb n m.old) (changed_small ms (and_r (ltb m.new 65536) (all (λ k. ltb k.new 65536) ms) h) n l)
  where
    go : (b : Bool) → name_after ms n < 65536 → cond b m.new (name_after ms n) < 65536
    go true r = leb_le (and_l (ltb m.new 65536) (all (λ k. ltb k.new 65536) ms) h)
    go false r = r

-- where no name gets a number beyond 16 bits, a well-formed graph stays so
pub rename_formed : (g : Graph) (ms : List Change) → well_formed g ≡ true → clash g.names ms ≡ false → ((n : ℕ) → held g n ≡ true → name_after ms n < 65536) → well_formed (renamed (name_after ms) g) ≡ true
unfolding renamed
rename_formed g ms w c little =
    inv→wf (renamed (name_after ms) g) (rename_inv (name_after ms) g (changed_apart g.names ms c) little (wf→inv g w))
    (subst (λ (k : ℕ). leb k 96 ≡ true) (sym (rename_length (name_after ms) g.edges)) (room g w))

-- that no name does is seen in what comes out
pub renamed_small : (ns : List Name) (ms : List Change) → clash ns ms ≡ false → all (λ a. ltb a.id 65536) (rename_names (name_after ms) ns) ≡ true
    → (n : ℕ) → holds ns n ≡ true → name_after ms n < 65536
renamed_small ns ms c s n h =
    leb_le (holds_all (λ k. ltb k 65536) (rename_names (name_after ms) ns) (name_after ms n) (hold_names (name_after ms) ns (changed_apart ns ms c) n ns h) s)

-- what a rename that is not refused tells
module _ (g h : Graph) (ms : List Change) (r : remap g ms ≡ ok h) where
  pub formed : well_formed g ≡ true
  unfolding remap
  formed = (guard_ok (well_formed g) 9 (guard (not (clash g.names ms)) 16 (ok (renamed (name_after ms) g))) h r).0

  pub sound : clash g.names ms ≡ false
  unfolding remap
  sound =
      not_true (guard_ok (not (clash g.names ms)) 16 (ok (renamed (name_after ms) g)) h
      (guard_ok (well_formed g) 9 (guard (not (clash g.names ms)) 16 (ok (renamed (name_after ms) g))) h r).1).0

  pub made : renamed (name_after ms) g ≡ h
  made = ok_inj (sym (remap_ok g ms formed sound) ∙ r)

  little : all (λ m. ltb m.new 65536) ms ≡ true → (n : ℕ) → held g n ≡ true → name_after ms n < 65536
  little small n q = changed_small ms small n (leb_le (holds_all (λ k. ltb k 65536) g.names n q (low g.names (wf→inv g formed).asc)))

  inj : (m n : ℕ) → held g m ≡ true → held g n ≡ true → name_after ms m ≡ name_after ms n → m ≡ n
  inj = changed_apart g.names ms sound

  pub remap_formed : all (λ m. ltb m.new 65536) ms ≡ true → well_formed h ≡ true
  remap_formed small = subst (λ (k : Graph). well_formed k ≡ true) made (rename_formed g ms formed sound (little small))

-- ---- one by one

old_times : (ms : List Change) (n : ℕ) → is_old ms n ≡ false → times n (map (λ m. m.old) ms) ≡ 0
unfolding is_old
old_times [] n h = refl
old_times (m ∷ ms) n h =
    let a : count1 (eqb n m.old) ≡ 0 = count_no (or_no_l (eqb n m.old) (any (λ k. eqb n k.old) ms) h) in
    let b : times n (map (λ k. k.old) ms) ≡ 0 = old_times ms n (or_no_r (eqb n m.old) (any (λ k. eqb n k.old) ms) h) in
    omega arith

no_times : (ms : List Change) (n : ℕ) → is_old ms n ≡ true → times n (map (λ m. m.old) ms) ≡ 0 → ⊥
unfolding is_old
no_times [] n e z = false≢true e
no_times (k ∷ ks) n e z = go (or_cases (eqb n k.old) (any (λ j. eqb n j.old) ks) e) (no_times ks n)
  where
    go : (eqb n k.old ≡ true) ⊎ (any (λ j. eqb n j.old) ks ≡ true) → (any (λ j. eqb n j.old) ks ≡ true → times n (map (λ m. m.old) ks) ≡ 0 → ⊥) → ⊥
    go (inl y) f = let a : count1 (eqb n k.old) ≡ 1 = count_yes y in omega arith
    go (inr y) f = f y (omega arith)

times_old : (ms : List Change) (n : ℕ) → 1 ≤ times n (map (λ m. m.old) ms) → is_old ms n ≡ true
times_old ms n h = decide (is_old ms n) (λ e. e) (λ e. let z : times n (map (λ m. m.old) ms) ≡ 0 = old_times ms n e in absurd (omega arith))

old_once : (ms : List Change) → twice ms ≡ false → (n : ℕ) → times n (map (λ m. m.old) ms) ≤ 1
unfolding twice is_old
old_once [] t n = zero-le
old_once (m ∷ ms) t n = decide (eqb n m.old)
    (λ e. let q : n ≡ m.old = eqb_eq {m = n} {n = m.old} e in
    let a : count1 (eqb n m.old) ≡ 1 = count_yes e in
    let b : times n (map (λ k. k.old) ms) ≡ 0 = old_times ms n (none n q) in
    omega arith)
    (λ e. let a : count1 (eqb n m.old) ≡ 0 = count_no e in
    let b : times n (map (λ k. k.old) ms) ≤ 1 = old_once ms (or_no_r (any (alike m) ms) (twice ms) t) n in
    omega arith)
  where
    none : (n : ℕ) → n ≡ m.old → is_old ms n ≡ false
    none n q = decide (is_old ms n)
        (λ h. let w = some_one (λ k. eqb n k.old) ms h in
        absurd (both (w.2 (alike m) (or_l (eqb m.new w.0.new) (subst (λ (j : ℕ). eqb j w.0.old ≡ true) q w.1))) (or_no_l (any (alike m) ms) (twice ms) t)))
        (λ h. h)

-- no new name is a greater old one
not_greater : (ms : List Change) → overtakes ms ≡ false → (m n : ℕ) → is_old ms m ≡ true → is_old ms n ≡ true → m < n → name_after ms m ≢ n
not_greater ms c m n hm hn l e =
    let w = pair_of ms m hm in
    let q : n ≡ w.0.new = sym e ∙ w.2 in
    let y : w.0.old < w.0.new = omega (arith, w.1, q, l) in
    both (w.3 (overtaken ms) (and_i (subst (λ (j : ℕ). is_old ms j ≡ true) q hn) (le_leb y))) c

-- Where it is not refused and no new name is a greater old one, the Rust's renaming one by one, ascending by the old name, gives the same.
pub remap_one_by_one : (g h : Graph) (ms : List Change) → all (λ m. ltb m.new 65536) ms ≡ true → overtakes ms ≡ false → remap g ms ≡ ok h
    → one_by_one (name_after ms) (ascend (map (λ m. m.old) ms)) g ≡ h
remap_one_by_one g h ms s v r =
    let olds : List ℕ = map (λ m. m.old) ms in
    let once : (n : ℕ) → times n olds ≤ 1 = old_once ms (apart g.names ms (sound g h ms r)) in
    let same : (n : ℕ) → times n (ascend olds) ≡ times n olds = ascend_times olds once in
    let key : (n : ℕ) → 1 ≤ times n (ascend olds) → is_old ms n ≡ true = λ n q. times_old ms n (subst (λ (k : ℕ). 1 ≤ k) (same n) q) in
    in_turn_lem (name_after ms) g (formed g h ms r) (inj g h ms r) (little g h ms r s) (ascend olds)
    (to_apart (name_after ms) (ascend olds) (ascend_sorted olds) (λ n k x y l. not_greater ms v n k (key n x) (key k y) l))
    (λ n. let a : times n (ascend olds) ≡ times n olds = same n in let b : times n olds ≤ 1 = once n in omega arith)
    (λ n y t. stays ms n (decide (is_old ms n) (λ e. absurd (no_times ms n e (sym (same n) ∙ t))) (λ e. e)))
    ∙ made g h ms r

-- ---- the test for two pairs, pair by pair: `ks` is what remains to be compared with the first of the pairs that remain

unfoldable pub twice_from : List Change → List Change → Bool
unfolding twice
twice_from ks [] = false
twice_from ks (m ∷ ms) = any (alike m) ks || twice ms

module _ (m : Change) (ms : List Change) where
  pub twice_end : twice_from [] (m ∷ ms) ≡ twice ms
  unfolding twice_from
  twice_end = refl

  pub twice_found : (k : Change) (ks : List Change) → alike m k ≡ true → twice_from (k ∷ ks) (m ∷ ms) ≡ true
  unfolding twice_from
  twice_found k ks e = or_l (twice ms) (or_l (any (alike m) ks) e)

  pub twice_next : (k : Change) (ks : List Change) → alike m k ≡ false → twice_from (k ∷ ks) (m ∷ ms) ≡ twice_from ks (m ∷ ms)
  unfolding twice_from
  twice_next k ks e = ap (λ (b : Bool). (b || any (alike m) ks) || twice ms) e

pub twice_open : (ms : List Change) → twice_from (drop 1 ms) ms ≡ twice ms
unfolding twice_from twice
twice_open [] = refl
twice_open (m ∷ ms) = refl
