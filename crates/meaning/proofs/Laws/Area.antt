-- Words written one by one, and what is read where they were written.
use Prim.Native.Nat.{ℕ, zero, suc, ◌+◌, ◌<◌, min, ◌≤◌, ◌/◌, ◌%◌, ◌*◌, ◌-◌}
use native.Mathlib.Omega.{arith}
use Rattle.std.specs.Prelude.{Bool, true, false, not, ◌≢◌, ◌≡◌, eqb, leb, ltb, length, take, get_or, set, drop}
use Rattle.std.proofs.Math.Bool.{cond}
use mathlib.Core.List.{List, [], ◌∷◌, ◌++◌, map}
use Rattle.std.proofs.Math.Option.{none, some, Option}
use Rattle.std.proofs.Math.Path.{refl, ap}
use Rattle.std.proofs.Common.{◌∙◌, sym, subst, below_none, below_more, add-one, length-set, length-drop, length-append, get_or-set_same, get_or-set_other, get_or-drop, ext_get_or, get_or-append-add}
use Rattle.std.proofs.lemmas.Bool.{lt-leb}
use Rattle.std.proofs.lemmas.List.{length-replicate, get_or-replicate}
use Rattle.std.proofs.Math.ListN.{get_or-append}
use Rattle.meaning.specs.Lists.{up_to}
use Rattle.meaning.specs.BorrowGraph.{GEdge, Name}
use Rattle.meaning.specs.AbstractState.{absent, value, ref, State, Local}
use Rattle.meaning.specs.Area.{local_as, local_in, name_in, edge_of, label_in, edge_in, word_at, words_from, decode, has_block, kept_of, Stored, state_in, zeros, cleared, unkept, forgotten}
use Rattle.meaning.proofs.Laws.Base.{eqb_no, and_l, and_r, leb_le, decide, leb_gt, both, le_leb}
use Rattle.meaning.specs.Laws.Area.{bit, Filled, Frame, Written, WrittenEdges, above_local, IsLocal, IsName, IsZero}

-- ---- lists given by their elements

module _ {A : Type 0} where
  pub up_to_ext : (n : ℕ) (f g : ℕ → A) → ((i : ℕ) → i < n → f i ≡ g i) → up_to n f ≡ up_to n g
  unfolding up_to
  up_to_ext zero f g h = refl
  up_to_ext (suc n) f g h =
      ap (λ (x : A). x ∷ up_to n (λ i. f (suc i))) (h 0 (omega arith))
      ∙ ap (λ (l : List A). g 0 ∷ l) (up_to_ext n (λ i. f (suc i)) (λ i. g (suc i)) (λ i k. h (suc i) (omega arith)))

  -- the same number of the same elements
  pub up_to_same : (m n : ℕ) (f g : ℕ → A) → m ≡ n → ((i : ℕ) → i < n → f i ≡ g i) → up_to m f ≡ up_to n g
  up_to_same m n f g e h = ap (λ (k : ℕ). up_to k f) e ∙ up_to_ext n f g h

  up_to_suc : (n : ℕ) (f : ℕ → A) → up_to (suc n) f ≡ up_to n f ++ f n ∷ []
  unfolding up_to
  up_to_suc zero f = refl
  up_to_suc (suc n) f = ap (λ (l : List A). f 0 ∷ l) (up_to_suc n (λ i. f (suc i)))

  -- one element more
  pub up_to_more : (n : ℕ) (f : ℕ → A) → up_to (n + 1) f ≡ up_to n f ++ f n ∷ []
  up_to_more n f = rw add-one (up_to_suc n f)

  -- the first n elements of an array, by what each stands for
  pub up_to_front : {B : Type 0} (g : B → A) (d : B) (xs : List B) (n k : ℕ) (f : ℕ → A) → k ≡ min n (length xs) → ((i : ℕ) → i < k → f i ≡ g (get_or xs i d)) → up_to k f ≡ map g (take n xs)
  unfolding up_to
  up_to_front g d xs zero k f e h = let z : k ≡ 0 = omega arith in ap (λ (m : ℕ). up_to m f) z
  up_to_front g d [] (suc n) k f e h = let z : k ≡ 0 = omega arith in ap (λ (m : ℕ). up_to m f) z
  up_to_front g d (x ∷ xs) (suc n) zero f e h = absurd (omega arith)
  up_to_front g d (x ∷ xs) (suc n) (suc k) f e h =
      ap (λ (y : A). y ∷ up_to k (λ i. f (suc i))) (h 0 (omega arith))
      ∙ ap (λ (l : List A). g x ∷ l) (up_to_front g d xs n k (λ i. f (suc i)) (omega arith) (λ i q. h (suc i) (omega arith)))

module _ {A B : Type 0} (g : B → A) (d : B) (f : ℕ → A) (n : ℕ) where
  pub filled_none : (xs : List B) → length xs ≡ n → Filled g d f n 0 xs
  filled_none xs e = record { size = e; within = below_none (λ j. g (get_or xs j d) ≡ f j) }

  pub filled_one : (i : ℕ) (x : B) (xs : List B) → i < n → g x ≡ f i → Filled g d f n i xs → Filled g d f n (i + 1) (set xs i x)
  filled_one i x xs h e p = record {
    size = length-set xs i x ∙ p.size;
    within = below_more (λ j. g (get_or (set xs i x) j d) ≡ f j) i
        (λ j k. ap g (get_or-set_other xs i j x d (λ q. omega arith)) ∙ p.within j k)
        (ap g (get_or-set_same xs i x d (omega (arith, p.size))) ∙ e);
  }

  pub filled_front : (i m k : ℕ) (xs : List B) → k ≡ min m n → k ≤ i → Filled g d f n i xs → map g (take m xs) ≡ up_to k f
  filled_front i m k xs e h p = sym (up_to_front g d xs m k f (omega (arith, p.size)) (λ j l. sym (p.within j (omega arith))))

-- ---- words outside the n from `at` on stay as they were

pub frame_none : (at n : ℕ) (ws : List ℕ) → Frame at n ws ws
frame_none at n ws = record { size = refl; below = λ k h. refl; above = λ k h. refl }

pub frame_set : {at n : ℕ} {ws us : List ℕ} (k x : ℕ) → at ≤ k → k < at + n → Frame at n ws us → Frame at n ws (set us k x)
frame_set {us = us} k x l h p = record {
  size = length-set us k x ∙ p.size;
  below = λ j q. get_or-set_other us k j x 0 (λ e. omega arith) ∙ p.below j q;
  above = λ j q. get_or-set_other us k j x 0 (λ e. omega arith) ∙ p.above j q;
}

-- then words among those
pub frame_then : {at n a m : ℕ} {ws us vs : List ℕ} → at ≤ a → a + m ≤ at + n → Frame at n ws us → Frame a m us vs → Frame at n ws vs
frame_then l h p q = record {
  size = q.size ∙ p.size;
  below = λ j k. q.below j (omega arith) ∙ p.below j k;
  above = λ j k. q.above j (omega arith) ∙ p.above j k;
}

module _ (P : ℕ → ℕ → Type 0) (at n : ℕ) (ws : List ℕ) where
  pub written_none : Written P at n 0 ws ws
  written_none = record { frame = frame_none at n ws; within = below_none (λ j. P j (get_or ws (at + j) 0)) }

  pub written_one : (i x : ℕ) (us : List ℕ) → i < n → at + i < length us → P i x → Written P at n i ws us → Written P at n (i + 1) ws (set us (at + i) x)
  written_one i x us h l q p = record {
    frame = frame_set (at + i) x (omega arith) (omega arith) p.frame;
    within = below_more (λ j. P j (get_or (set us (at + i) x) (at + j) 0)) i
        (λ j k. subst (P j) (sym (get_or-set_other us (at + i) (at + j) x 0 (λ e. omega arith))) (p.within j k))
        (subst (P i) (sym (get_or-set_same us (at + i) x 0 l)) q);
  }

  pub written_all : (i m : ℕ) (us : List ℕ) → m ≤ i → Written P at n i ws us → Written P at n m ws us
  written_all i m us h p = record { frame = p.frame; within = λ j k. p.within j (omega arith) }

-- ---- what is packed into a word

bit_le : (b : Bool) → bit b ≤ 1
bit_le true = omega arith
bit_le false = omega arith

bit_back : (n : ℕ) (b : Bool) → n ≡ bit b → eqb n 1 ≡ b
bit_back n true e = ap (λ (m : ℕ). eqb m 1) e
bit_back n false e = ap (λ (m : ℕ). eqb m 1) e

pub local_word : (w k n : ℕ) → w / 65536 % 4 ≡ k → w % 65536 ≡ n → local_in w ≡ local_as k n
local_word w k n p q = λ i. local_as (p i) (q i)

pub local_ref : (w : ℕ) → (w / 65536 % 4 ≡ 0 → ⊥) → (w / 65536 % 4 ≡ 1 → ⊥) → local_in w ≡ ref (w % 65536)
local_ref w a b =
    let p = eqb_no a in
    let q = eqb_no b in
    λ i. cond (p i) absent (cond (q i) value (ref (w % 65536)))

pub name_word : (w n : ℕ) (b : Bool) → w ≡ bit b * 65536 + n → n < 65536 → name_in w ≡ record { id = n; mutable = b }
name_word w n b e h =
    let p : w % 65536 ≡ n = omega (arith, bit_le b) in
    let q : w / 65536 ≡ bit b = omega (arith, bit_le b) in
    let m = bit_back (w / 65536) b q in
    λ i. record { id = p i; mutable = m i }

-- an edge's marks, read: its offset o, whether it is blurred and strong, and its n labels
module _ (v o n : ℕ) (b s : Bool) (e : v ≡ o * 65536 + bit b * 32 + bit s * 16 + n) (k : n ≤ 8) where
  pub marks_blurred : eqb (v / 32 % 2) 1 ≡ b
  marks_blurred = bit_back (v / 32 % 2) b (omega (arith, bit_le b, bit_le s))

  pub marks_strong : eqb (v / 16 % 2) 1 ≡ s
  marks_strong = bit_back (v / 16 % 2) s (omega (arith, bit_le b, bit_le s))

  pub marks_count : min (v % 16) 8 ≡ n
  marks_count = omega (arith, bit_le b, bit_le s)

  pub marks_offset : v / 65536 ≡ o
  marks_offset = omega (arith, bit_le b, bit_le s)

edge_words_lem : (u v p c o n : ℕ) (b s : Bool) (f : ℕ → ℕ) → u ≡ p * 65536 + c → c < 65536 → v ≡ o * 65536 + bit b * 32 + bit s * 16 + n → n ≤ 8
    → edge_of u v f ≡ record { parent = p; child = c; blurred = b; edge = record { strong = s; path = up_to n f; offset = o } }
edge_words_lem u v p c o n b s f e h d k =
    let pa : u / 65536 ≡ p = omega arith in
    let ch : u % 65536 ≡ c = omega arith in
    let bl = marks_blurred v o n b s d k in
    let st = marks_strong v o n b s d k in
    let le = marks_count v o n b s d k in
    let off = marks_offset v o n b s d k in
    λ i. record { parent = pa i; child = ch i; blurred = bl i; edge = record { strong = st i; path = up_to (le i) f; offset = off i } }

-- ---- edges

-- an edge by its ten words
pub edge_ext : (w v : ℕ → ℕ) (at : ℕ) → ((k : ℕ) → at ≤ k → k < at + 10 → w k ≡ v k) → edge_in w at ≡ edge_in v at
unfolding edge_in
edge_ext w v at h =
    let e = h at (omega arith) (omega arith) in
    let m = h (at + 1) (omega arith) (omega arith) in
    let p : up_to (min (w (at + 1) % 16) 8) (λ i. label_in (w (at + 2 + i))) ≡ up_to (min (v (at + 1) % 16) 8) (λ i. label_in (v (at + 2 + i))) =
    up_to_same (min (w (at + 1) % 16) 8) (min (v (at + 1) % 16) 8) (λ i. label_in (w (at + 2 + i))) (λ i. label_in (v (at + 2 + i))) (ap (λ (k : ℕ). min (k % 16) 8) m) (λ i k. ap label_in (h (at + 2 + i) (omega arith) (omega arith))) in
    λ i. record {
      parent = e i / 65536;
      child = e i % 65536;
      blurred = eqb (m i / 32 % 2) 1;
      edge = record { strong = eqb (m i / 16 % 2) 1; path = p i; offset = m i / 65536 };
    }

-- an edge of the words from a place on
pub edge_from : (ws : List ℕ) (at k : ℕ) → edge_in (words_from ws at) k ≡ edge_in (word_at ws) (at + k)
unfolding edge_in
edge_from ws at k =
    let m : at + (k + 1) ≡ at + k + 1 = omega arith in
    let p : (i : ℕ) → at + (k + 2 + i) ≡ at + k + 2 + i = λ i. omega arith in
    λ t. edge_of (get_or ws (at + k) 0) (get_or ws (m t) 0) (λ i. label_in (get_or ws (p i t) 0))

abbrev pub IsLabel : (ℕ → ℕ) → ℕ → ℕ → Type 0
IsLabel f i w = label_in w ≡ f i

-- an edge's ends, marks and labels, written
module _ (ws us : List ℕ) (at u v n : ℕ) (f : ℕ → ℕ) (h : at + 10 ≤ length ws) (k : n ≤ 8) (q : Written (IsLabel f) (at + 2) 8 n (set (set ws at u) (at + 1) v) us) where
  pub edge_frame : Frame at 10 ws us
  edge_frame = frame_then (omega arith) (omega arith) (frame_set (at + 1) v (omega arith) (omega arith) (frame_set at u (omega arith) (omega arith) (frame_none at 10 ws))) q.frame

  edge_put_at : get_or us at 0 ≡ u
  edge_put_at = q.frame.below at (omega arith) ∙ get_or-set_other (set ws at u) (at + 1) at v 0 (λ e. omega arith) ∙ get_or-set_same ws at u 0 (omega arith)

  edge_put_next : get_or us (at + 1) 0 ≡ v
  edge_put_next = q.frame.below (at + 1) (omega arith) ∙ get_or-set_same (set ws at u) (at + 1) v 0 (omega (arith, length-set ws at u))

  pub edge_put : (p c o : ℕ) (b s : Bool) → u ≡ p * 65536 + c → c < 65536 → v ≡ o * 65536 + bit b * 32 + bit s * 16 + n
      → edge_in (word_at us) at ≡ record { parent = p; child = c; blurred = b; edge = record { strong = s; path = up_to n f; offset = o } }
  unfolding edge_in
  edge_put p c o b s e l d =
      edge_words_lem (get_or us at 0) (get_or us (at + 1) 0) p c o n b s (λ i. label_in (get_or us (at + 2 + i) 0)) (edge_put_at ∙ e) l (edge_put_next ∙ d) k
      ∙ ap (λ (x : List ℕ). record { parent = p; child = c; blurred = b; edge = record { strong = s; path = x; offset = o } }) (up_to_ext n (λ i. label_in (get_or us (at + 2 + i) 0)) f (λ i m. q.within i m))

-- an edge, read
pub edge_read : (w : ℕ → ℕ) (at : ℕ) (ls : List ℕ) → ls ≡ up_to (min (w (at + 1) % 16) 8) (λ i. label_in (w (at + 2 + i)))
    → ◌≡◌ {A = GEdge} (record {
      parent = w at / 65536;
      child = w at % 65536;
      blurred = eqb (w (at + 1) / 32 % 2) 1;
      edge = record { strong = eqb (w (at + 1) / 16 % 2) 1; path = ls; offset = w (at + 1) / 65536 };
    }) (edge_in w at)
unfolding edge_in
edge_read w at ls e = λ i. record {
  parent = w at / 65536;
  child = w at % 65536;
  blurred = eqb (w (at + 1) / 32 % 2) 1;
  edge = record { strong = eqb (w (at + 1) / 16 % 2) 1; path = e i; offset = w (at + 1) / 65536 };
}

module _ (f : ℕ → GEdge) (at n : ℕ) (ws : List ℕ) where
  pub edges_none : WrittenEdges f at n 0 ws ws
  edges_none = record { frame = frame_none at (10 * n) ws; within = below_none (λ j. edge_in (word_at ws) (at + 10 * j) ≡ f j) }

  pub edges_one : (i : ℕ) (us vs : List ℕ) → i < n → Frame (at + 10 * i) 10 us vs → edge_in (word_at vs) (at + 10 * i) ≡ f i → WrittenEdges f at n i ws us → WrittenEdges f at n (i + 1) ws vs
  edges_one i us vs h q e p = record {
    frame = frame_then (omega arith) (omega arith) p.frame q;
    within = below_more (λ j. edge_in (word_at vs) (at + 10 * j) ≡ f j) i
        (λ j k. edge_ext (word_at vs) (word_at us) (at + 10 * j) (λ m a b. q.below m (omega arith)) ∙ p.within j k)
        e;
  }

  pub edges_all : (i m : ℕ) (us : List ℕ) → m ≤ i → WrittenEdges f at n i ws us → WrittenEdges f at n m ws us
  edges_all i m us h p = record { frame = p.frame; within = λ j k. p.within j (omega arith) }

-- ---- a block's words

pub decode_ext : (l : ℕ) (w v : ℕ → ℕ) → ((k : ℕ) → k < 1024 → w k ≡ v k) → decode l w ≡ decode l v
unfolding decode
decode_ext l w v h =
    let p = h 0 (omega arith) in
    let a : up_to (min l 16) (λ i. local_in (w i)) ≡ up_to (min l 16) (λ i. local_in (v i)) =
    up_to_ext (min l 16) (λ i. local_in (w i)) (λ i. local_in (v i)) (λ i k. ap local_in (h i (omega arith))) in
    let b : up_to (min (w 1 / 262144) 48) (λ i. name_in (w (16 + i))) ≡ up_to (min (v 1 / 262144) 48) (λ i. name_in (v (16 + i))) =
    up_to_same (min (w 1 / 262144) 48) (min (v 1 / 262144) 48) (λ i. name_in (w (16 + i))) (λ i. name_in (v (16 + i))) (ap (λ (n : ℕ). min (n / 262144) 48) (h 1 (omega arith))) (λ i k. ap name_in (h (16 + i) (omega arith))) in
    let c : up_to (min (w 2 / 262144) 96) (λ i. edge_in w (64 + 10 * i)) ≡ up_to (min (v 2 / 262144) 96) (λ i. edge_in v (64 + 10 * i)) =
    up_to_same (min (w 2 / 262144) 96) (min (v 2 / 262144) 96) (λ i. edge_in w (64 + 10 * i)) (λ i. edge_in v (64 + 10 * i)) (ap (λ (n : ℕ). min (n / 262144) 96) (h 2 (omega arith)))
    (λ i k. edge_ext w v (64 + 10 * i) (λ j q r. h j (omega arith))) in
    λ i. cond (eqb (p i / 262144) 0) none (some (record { locals = a i; graph = record { names = b i; edges = c i } }))

-- a block's words, read
pub kept_read : (l at n m : ℕ) (ws : List ℕ) → n ≡ min (get_or ws (at + 1) 0 / 262144) 48 → m ≡ min (get_or ws (at + 2) 0 / 262144) 96
    → cond (not (eqb (get_or ws at 0 / 262144) 0))
    (some (record { locals = up_to (min l 16) (λ i. local_in (words_from ws at i)); graph = record { names = up_to n (λ i. name_in (words_from ws (at + 16) i)); edges = up_to m (λ i. edge_in (word_at ws) (at + 64 + 10 * i)) } }))
    none ≡ decode l (words_from ws at)
unfolding decode
kept_read l at n m ws en em =
    let a : List Local = up_to (min l 16) (λ i. local_in (words_from ws at i)) in
    let z : at ≡ at + 0 = omega arith in
    let b : up_to n (λ i. name_in (words_from ws (at + 16) i)) ≡ up_to (min (words_from ws at 1 / 262144) 48) (λ i. name_in (words_from ws at (16 + i))) =
    up_to_same n (min (words_from ws at 1 / 262144) 48) (λ i. name_in (words_from ws (at + 16) i)) (λ i. name_in (words_from ws at (16 + i))) en
    (λ i k. let e : at + 16 + i ≡ at + (16 + i) = omega arith in ap (λ (j : ℕ). name_in (get_or ws j 0)) e) in
    let c : up_to m (λ i. edge_in (word_at ws) (at + 64 + 10 * i)) ≡ up_to (min (words_from ws at 2 / 262144) 96) (λ i. edge_in (words_from ws at) (64 + 10 * i)) =
    up_to_same m (min (words_from ws at 2 / 262144) 96) (λ i. edge_in (word_at ws) (at + 64 + 10 * i)) (λ i. edge_in (words_from ws at) (64 + 10 * i)) em
    (λ i k. let e : at + 64 + 10 * i ≡ at + (64 + 10 * i) = omega arith in ap (λ (j : ℕ). edge_in (word_at ws) j) e ∙ sym (edge_from ws at (64 + 10 * i))) in
    flip (eqb (get_or ws at 0 / 262144) 0) (some (record { locals = a; graph = record { names = up_to n (λ i. name_in (words_from ws (at + 16) i)); edges = up_to m (λ i. edge_in (word_at ws) (at + 64 + 10 * i)) } }))
    ∙ (λ i. cond (eqb (get_or ws (z i) 0 / 262144) 0) none (some (record { locals = a; graph = record { names = b i; edges = c i } })))
  where
    flip : (b : Bool) (x : Option State) → cond (not b) x none ≡ cond b none x
    flip true x = refl
    flip false x = refl

pub above_none : (names edges i : ℕ) → (i ≡ 0 → ⊥) → (i ≡ 1 → ⊥) → (i ≡ 2 → ⊥) → 0 ≡ above_local names edges i
above_none names edges zero a b c = absurd (a refl)
above_none names edges (suc zero) a b c = absurd (b refl)
above_none names edges (suc (suc zero)) a b c = absurd (c refl)
above_none names edges (suc (suc (suc i))) a b c = refl

module _ (f : ℕ → Local) (g : ℕ → Name) (h : ℕ → GEdge) (at n m : ℕ) (ws as' bs us : List ℕ) (hn : n ≤ 48) (hm : m ≤ 96)
    (p : Written (IsLocal f n m) at 16 16 ws as') (q : Written (IsName g) (at + 16) 48 n as' bs) (r : WrittenEdges h (at + 64) 96 m bs us) where
  pub put_frame : Frame at 1024 ws us
  put_frame = frame_then (omega arith) (omega arith) (frame_then (omega arith) (omega arith) (frame_then (omega arith) (omega arith) (frame_none at 1024 ws) p.frame) q.frame) r.frame

  -- a local's word stays over the writing of names and edges, a name's over that of edges
  word_kept : (k : ℕ) → k < 16 → get_or us (at + k) 0 ≡ get_or as' (at + k) 0
  word_kept k l = r.frame.below (at + k) (omega arith) ∙ q.frame.below (at + k) (omega arith)

  name_kept : (k : ℕ) → k < 48 → get_or us (at + (16 + k)) 0 ≡ get_or bs (at + 16 + k) 0
  name_kept k l =
      let e : at + (16 + k) ≡ at + 16 + k = omega arith in
      ap (λ (j : ℕ). get_or us j 0) e ∙ r.frame.below (at + 16 + k) (omega arith)

  upper : (k : ℕ) → k < 16 → words_from us at k / 262144 ≡ above_local n m k
  upper k l = ap (λ (x : ℕ). x / 262144) (word_kept k l) ∙ (p.within k l).1

  pub put_decode : (l : ℕ) → decode l (words_from us at) ≡ some (record { locals = up_to (min l 16) f; graph = record { names = up_to n g; edges = up_to m h } })
  unfolding decode
  put_decode l =
      let z = upper 0 (omega arith) in
      let a : up_to (min l 16) (λ i. local_in (words_from us at i)) ≡ up_to (min l 16) f =
      up_to_ext (min l 16) (λ i. local_in (words_from us at i)) f (λ i k. ap local_in (word_kept i (omega arith)) ∙ (p.within i (omega arith)).0) in
      let bn : min (words_from us at 1 / 262144) 48 ≡ n = omega (arith, upper 1 (omega arith)) in
      let b : up_to (min (words_from us at 1 / 262144) 48) (λ i. name_in (words_from us at (16 + i))) ≡ up_to n g =
      up_to_same (min (words_from us at 1 / 262144) 48) n (λ i. name_in (words_from us at (16 + i))) g bn (λ i k. ap name_in (name_kept i (omega arith)) ∙ q.within i k) in
      let cn : min (words_from us at 2 / 262144) 96 ≡ m = omega (arith, upper 2 (omega arith)) in
      let c : up_to (min (words_from us at 2 / 262144) 96) (λ i. edge_in (words_from us at) (64 + 10 * i)) ≡ up_to m h =
      up_to_same (min (words_from us at 2 / 262144) 96) m (λ i. edge_in (words_from us at) (64 + 10 * i)) h cn
      (λ i k. let e : at + (64 + 10 * i) ≡ at + 64 + 10 * i = omega arith in
      edge_from us at (64 + 10 * i) ∙ ap (λ (j : ℕ). edge_in (word_at us) j) e ∙ r.within i k) in
      λ i. cond (eqb (z i) 0) none (some (record { locals = a i; graph = record { names = b i; edges = c i } }))

-- ---- the area

pub has_block_lem : (n b : ℕ) → has_block n b ≡ true → (16384 ≤ n) × (b < 16)
has_block_lem n b h = (leb_le (and_l (leb 16384 n) (ltb b 16) h), leb_le (and_r (leb 16384 n) (ltb b 16) h))

kept_cond : {A : Type 0} (b c : Bool) (x y : Option A) → b ≡ c → (c ≡ true → x ≡ y) → cond b x none ≡ cond c y none
kept_cond {A} b true x y e h = ap (λ (t : Bool). cond t x none) e ∙ h refl
kept_cond {A} b false x y e h = ap (λ (t : Bool). cond t x none) e

drop_same : (at n m : ℕ) (ws us : List ℕ) → at + n ≤ m → Frame at n ws us → drop m us ≡ drop m ws
drop_same at n m ws us h p =
    ext_get_or 0 (drop m us) (drop m ws) (length-drop m us ∙ omega (arith, p.size, length-drop m ws)) (λ i k. get_or-drop m us i 0 ∙ p.above (m + i) (omega arith) ∙ sym (get_or-drop m ws i 0))

-- other blocks have the words that they had
other_same : (b c k : ℕ) (ws us : List ℕ) → c ≢ b → k < 1024 → Frame (1024 * b) 1024 ws us → words_from us (1024 * c) k ≡ words_from ws (1024 * c) k
other_same b c k ws us d h p =
    decide (leb (suc c) b)
    (λ e. let l : c < b = leb_le e in p.below (1024 * c + k) (omega arith))
    (λ e. let l : b < suc c = leb_gt e in p.above (1024 * c + k) (omega arith))

pub stored : (l : ℕ) (s : State) (b : ℕ) (ws us : List ℕ) → has_block (length ws) b ≡ true → Frame (1024 * b) 1024 ws us → decode l (words_from us (1024 * b)) ≡ some s → Stored l s b ws us
unfolding kept_of
stored l s b ws us h p e =
    let k : b < 16 = (has_block_lem (length ws) b h).1 in
    record {
      kept = kept_cond (has_block (length us) b) (has_block (length ws) b) (decode l (words_from us (1024 * b))) (some s) (ap (λ (n : ℕ). has_block n b) p.size) (λ t. e);
      others = λ m c d. kept_cond (has_block (length us) c) (has_block (length ws) c) (decode m (words_from us (1024 * c))) (decode m (words_from ws (1024 * c))) (ap (λ (n : ℕ). has_block n c) p.size)
          (λ t. decode_ext m (words_from us (1024 * c)) (words_from ws (1024 * c)) (λ j q. other_same b c j ws us d q p));
      beyond = drop_same (1024 * b) 1024 16384 ws us (omega arith) p;
      short = λ f. absurd (both h f);
    }

pub not_stored : (l : ℕ) (s : State) (b : ℕ) (ws : List ℕ) → has_block (length ws) b ≡ false → Stored l s b ws ws
unfolding kept_of
not_stored l s b ws h = record {
  kept = ap (λ (t : Bool). cond t (decode l (words_from ws (1024 * b))) none) h ∙ sym (ap (λ (t : Bool). cond t (some s) none) h);
  others = λ m c d. refl;
  beyond = refl;
  short = λ f. refl;
}

-- what a block's words say, in an area that has the block, and in one that has not
pub kept_in : (l : ℕ) (ws : List ℕ) (b : ℕ) → has_block (length ws) b ≡ true → kept_of l ws b ≡ decode l (words_from ws (1024 * b))
unfolding kept_of
kept_in l ws b h = ap (λ (t : Bool). cond t (decode l (words_from ws (1024 * b))) none) h

pub kept_out : (l : ℕ) (ws : List ℕ) (b : ℕ) → has_block (length ws) b ≡ false → kept_of l ws b ≡ none
unfolding kept_of
kept_out l ws b h = ap (λ (t : Bool). cond t (decode l (words_from ws (1024 * b))) none) h

-- ---- the cleared area

pub zeros_one : (n : ℕ) (ws : List ℕ) (i : ℕ) (us : List ℕ) → i < n → i < length us → Written IsZero 0 n i ws us → Written IsZero 0 n (i + 1) ws (set us i 0)
zeros_one n ws i us h l p =
    let e : 0 + i ≡ i = omega arith in
    subst (λ (k : ℕ). Written IsZero 0 n (i + 1) ws (set us k 0)) e (written_one IsZero 0 n ws i 0 us h (omega arith) refl p)

zeros_length : (n : ℕ) → length (zeros n) ≡ n
unfolding zeros
zeros_length n = length-replicate n 0

zeros_at : (n i : ℕ) → i < n → get_or (zeros n) i 0 ≡ 0
unfolding zeros
zeros_at n i h = get_or-replicate n i 0 0 h

zeros_front : (n : ℕ) (ws us : List ℕ) → n ≤ length ws → Written IsZero 0 n n ws us → us ≡ zeros n ++ drop n ws
zeros_front n ws us h p =
    let a : length (zeros n ++ drop n ws) ≡ length ws = length-append (zeros n) (drop n ws) ∙ omega (arith, zeros_length n, length-drop n ws) in
    ext_get_or 0 us (zeros n ++ drop n ws) (p.frame.size ∙ sym a) (λ i k. decide (leb (suc i) n)
    (λ e. let l : i < n = leb_le e in
    let z : i ≡ 0 + i = omega arith in
    ap (λ (t : ℕ). get_or us t 0) z ∙ p.within i l ∙ sym (get_or-append (zeros n) (drop n ws) 0 i (omega (arith, zeros_length n)) ∙ zeros_at n i l))
    (λ e. let l : n < suc i = leb_gt e in
    let j : n + (i - n) ≡ i = omega arith in
    let j' : length (zeros n) + (i - n) ≡ i = omega (arith, zeros_length n) in
    p.frame.above i (omega arith)
    ∙ sym (ap (λ (t : ℕ). get_or (zeros n ++ drop n ws) t 0) (sym j') ∙ get_or-append-add (zeros n) (drop n ws) (i - n) 0 ∙ get_or-drop n ws (i - n) 0 ∙ ap (λ (t : ℕ). get_or ws t 0) j)))

pub cleared_long : (ws : List ℕ) → 16384 ≤ length ws → cleared ws ≡ zeros 16384 ++ drop 16384 ws
unfolding cleared
cleared_long ws h = ap (λ (t : Bool). cond t (zeros 16384 ++ drop 16384 ws) ws) (le_leb h)

pub cleared_short : (ws : List ℕ) → length ws < 16384 → cleared ws ≡ ws
unfolding cleared
cleared_short ws h = ap (λ (t : Bool). cond t (zeros 16384 ++ drop 16384 ws) ws) (lt-leb 16384 (length ws) h)

pub cleared_written : (ws us : List ℕ) → 16384 ≤ length ws → Written IsZero 0 16384 16384 ws us → us ≡ cleared ws
cleared_written ws us h p = zeros_front 16384 ws us h p ∙ sym (cleared_long ws h)

-- ---- the area with no kept state

-- the first words of the first i blocks are zero, and words past the blocks are as they were
pub record Emptied (i : ℕ) (ws us : List ℕ) : Type 0 where
  pub frame : Frame 0 16384 ws us
  pub firsts : (b : ℕ) → b < i → get_or us (1024 * b) 0 ≡ 0

emptied : (i : ℕ) (ws : List ℕ) → i ≤ 16 → 16384 ≤ length ws → Emptied i ws (unkept i ws)
unfolding unkept
emptied zero ws h w = record { frame = frame_none 0 16384 ws; firsts = below_none (λ b. get_or ws (1024 * b) 0 ≡ 0) }
emptied (suc i) ws h w =
    let p : Emptied i ws (unkept i ws) = emptied i ws (omega arith) w in
    subst (λ (n : ℕ). Emptied n ws (set (unkept i ws) (1024 * i) 0)) (add-one i)
    (record {
      frame = frame_set (1024 * i) 0 (omega arith) (omega arith) p.frame;
      firsts = below_more (λ b. get_or (set (unkept i ws) (1024 * i) 0) (1024 * b) 0 ≡ 0) i
          (λ b k. get_or-set_other (unkept i ws) (1024 * i) (1024 * b) 0 0 (λ e. omega arith) ∙ p.firsts b k)
          (get_or-set_same (unkept i ws) (1024 * i) 0 0 (omega (arith, p.frame.size)));
    })

pub unkept_length : (i : ℕ) (ws : List ℕ) → length (unkept i ws) ≡ length ws
unfolding unkept
unkept_length zero ws = refl
unkept_length (suc i) ws = length-set (unkept i ws) (1024 * i) 0 ∙ unkept_length i ws

-- the next block's first word
pub unkept_one : (i : ℕ) (ws us : List ℕ) → us ≡ unkept i ws → set us (1024 * i) 0 ≡ unkept (i + 1) ws
unfolding unkept
unkept_one i ws us e = ap (λ (vs : List ℕ). set vs (1024 * i) 0) e ∙ ap (λ (n : ℕ). unkept n ws) (sym (add-one i))

pub forgotten_long : (ws : List ℕ) → 16384 ≤ length ws → forgotten ws ≡ unkept 16 ws
unfolding forgotten
forgotten_long ws h = ap (λ (t : Bool). cond t (unkept 16 ws) ws) (le_leb h)

pub forgotten_short : (ws : List ℕ) → length ws < 16384 → forgotten ws ≡ ws
unfolding forgotten
forgotten_short ws h = ap (λ (t : Bool). cond t (unkept 16 ws) ws) (lt-leb 16384 (length ws) h)

-- no block has a kept state, and words past the blocks are as they were
pub record Forgotten (ws us : List ℕ) : Type 0 where
  pub size : length us ≡ length ws
  pub kept : (l b : ℕ) → kept_of l us b ≡ none
  pub beyond : drop 16384 us ≡ drop 16384 ws

none_kept : (i : ℕ) (ws us : List ℕ) → 16 ≤ i → Emptied i ws us → Forgotten ws us
unfolding kept_of decode
none_kept i ws us h p = record {
  size = p.frame.size;
  kept = λ l b. gone l b (has_block (length us) b) refl;
  beyond = drop_same 0 16384 16384 ws us (omega arith) p.frame;
}
  where
    gone : (l b : ℕ) (t : Bool) → has_block (length us) b ≡ t → cond t (decode l (words_from us (1024 * b))) none ≡ none
    gone l b false e = refl
    gone l b true e =
        let k : b < 16 = (has_block_lem (length us) b e).1 in
        let j : 1024 * b + 0 ≡ 1024 * b = omega arith in
        let z : words_from us (1024 * b) 0 ≡ 0 = ap (λ (m : ℕ). get_or us m 0) j ∙ p.firsts b (omega arith) in
        ap (λ (x : ℕ). cond (eqb (x / 262144) 0) none (some (state_in l (words_from us (1024 * b))))) z

pub forgotten_law : (ws : List ℕ) → 16384 ≤ length ws → Forgotten ws (forgotten ws)
forgotten_law ws h = subst (λ (us : List ℕ). Forgotten ws us) (sym (forgotten_long ws h)) (none_kept 16 ws (unkept 16 ws) (omega arith) (emptied 16 ws (omega arith) h))
