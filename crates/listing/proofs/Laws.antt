-- Laws of the rules on blocks and of the instructions of records.
-- Assumes nothing.
use mathlib.Core.Path.{◌≡◌, refl, sym, ap, ◌∙◌, subst}
use mathlib.Core.Bool.{Bool, true, false, not, ◌&&◌, ◌||◌}
use mathlib.Core.List.{List, [], ◌∷◌, map}
use Prim.Native.Nat.{ℕ, zero, suc, ◌+◌, ◌-◌, ◌≤◌, ◌<◌}
use native.Mathlib.Numerals.{add-one}
use native.Mathlib.Omega.{arith}
use lib.ListN.{length, take, drop, get_or, length-take, length-drop, get_or-map}
use Rattle.std.proofs.lemmas.List.{take-map}
use Rattle.std.proofs.Common.{rules, tests, is_lt, nat_cmp}
use lib.Seq.{get_or-take, take-nil, length-take-le}
use lib.Dec.{leb, ltb, eqb, eqb-suc-zero}
use borrow.Author.Tests.{eq-eqb, ne_eqb}
use Rattle.meaning.specs.Lists.{any, empty, up_to}
use Rattle.meaning.proofs.Laws.Base.{decide, eqb_eq, or_false}
use Rattle.meaning.specs.Loop as M
use Rattle.meaning.specs.Steps as I
use Rattle.meaning.specs.Steps.{is_ret}
use Rattle.meaning.specs.Listing as D
use Rattle.meaning.proofs.Laws.Listing.{Rows, by_row, up_to_length}
use Rattle.meaning.proofs.Laws.Search.{search_at, search_end}
use Rattle.listing.specs.declared.Block.{Block}
use Rattle.listing.specs.Models.{block_of, faulty_successors}
use Rattle.listing_records.specs.Models.{before_ret}
use Rattle.listing_records.specs.ModelLaws.{ret_before, ret_within}
use Rattle.listing_records.proofs.Lists.{or_true, within_list}

-- ---- the blocks of an array

abbrev pub none_block : Block
none_block = record { entry = record { 0 = 0 }; exit = record { 0 = 0 }; count = 0; first = record { 0 = 0 }; second = record { 0 = 0 } }

pub lt_is : (a b : ℕ) → is_lt (nat_cmp a b) ≡ ltb a b
lt_is a b = search (rules, tests)

pub no_successor : (n a b : ℕ) → empty (take n (a ∷ b ∷ [])) ≡ eqb n 0
no_successor zero a b = refl
no_successor (suc n) a b = sym (eqb-suc-zero n)

-- ---- the first number that passes a test: a search through the numbers below n

module _ (p : ℕ → Bool) (i n r : ℕ) where
  abbrev numbers : List ℕ
  numbers = up_to n (λ k. k)

  abbrev first : List ℕ → ℕ
  first ks = D.first_of p i (length ks)

  count : (j : ℕ) → length (drop j numbers) ≡ n - j
  count j = length-drop j numbers ∙ ap (λ (m : ℕ). m - j) (up_to_length n (λ k. k))

  opened : D.first_of p i (n - i) ≡ r → first (drop i numbers) ≡ r
  opened e = ap (D.first_of p i) (count i) ∙ e

  at_first : i < n → D.first_of p i (n - i) ≡ r → first (get_or numbers i 0 ∷ drop (i + 1) numbers) ≡ r
  at_first h e = search_at first numbers i r (opened e) 0 (omega (arith, up_to_length n (λ k. k)))

  pub first_stop : i < n → D.first_of p i (n - i) ≡ r → p i ≡ true → i ≡ r
  unfolding D.first_of
  first_stop h e q = rw q at (at_first h e)

  pub first_turn : i < n → D.first_of p i (n - i) ≡ r → p i ≡ false → D.first_of p (i + 1) (n - (i + 1)) ≡ r
  unfolding D.first_of
  first_turn h e q =
      let t : D.first_of p (suc i) (length (drop (i + 1) numbers)) ≡ r = rw q at (at_first h e) in
      subst (λ (j : ℕ). D.first_of p j (n - (i + 1)) ≡ r) (sym (add-one i)) (sym (ap (D.first_of p (suc i)) (count (i + 1))) ∙ t)

  pub first_end : i ≡ n → D.first_of p i (n - i) ≡ r → n ≡ r
  unfolding D.first_of
  first_end h e = sym h ∙ search_end first numbers i r (opened e) (omega (arith, up_to_length n (λ k. k)))

-- none of the first k numbers passes the test
pub first_skip : (p : ℕ → Bool) (n k : ℕ) → k ≤ n → ((j : ℕ) → j < k → p j ≡ false) → D.first_of p k (n - k) ≡ D.first_of p 0 n
first_skip p n zero h f = let e : n - 0 ≡ n = omega arith in ap (D.first_of p 0) e
first_skip p n (suc k) h f =
    rw add-one at (first_turn p k n (D.first_of p 0 n) h (first_skip p n k (omega arith) (λ j l. f j (omega arith))) (f k (omega arith)))

-- ---- the rules on blocks

module _ (xs : List M.Block) (i e : ℕ) (b : M.Block) where
  pub succ_none : D.entry_in xs e ≡ false → true ≡ D.faulty_successor xs i b e
  succ_none h = rw h

  pub succ_forth : D.entry_in xs e ≡ true → ltb b.entry e ≡ true → not (D.entry_in (drop (i + 1) xs) e) ≡ D.faulty_successor xs i b e
  succ_forth h g = rw (h, g)

-- none, one or two successors under a test
module _ (F : ℕ → Bool) (a c : ℕ) where
  abbrev given : List ℕ → Bool
  given es = D.repeats es || any F es

  pub succ_0 : (n : ℕ) → n ≡ 0 → false ≡ given (take n (a ∷ c ∷ []))
  unfolding D.repeats
  succ_0 n h = rw h

  pub succ_first : (n : ℕ) → (n ≡ 0 → ⊥) → F a ≡ true → true ≡ given (take n (a ∷ c ∷ []))
  unfolding D.repeats
  succ_first zero h q = absurd (h refl)
  succ_first (suc n) h q = rw (q, or_true)

  pub succ_1 : (n : ℕ) → n ≡ 1 → F a ≡ false → false ≡ given (take n (a ∷ c ∷ []))
  unfolding D.repeats
  succ_1 n h q = rw (h, q)

  pub succ_same : (n : ℕ) → (n ≡ 0 → ⊥) → (n ≡ 1 → ⊥) → a ≡ c → true ≡ given (take n (a ∷ c ∷ []))
  unfolding D.repeats
  succ_same zero h g e = absurd (h refl)
  succ_same (suc zero) h g e = absurd (g refl)
  succ_same (suc (suc n)) h g e = subst (λ (l : List ℕ). true ≡ given (a ∷ c ∷ l)) (sym (take-nil n)) (rw (eq-eqb a c e))

  pub succ_second : (n : ℕ) → (n ≡ 0 → ⊥) → (n ≡ 1 → ⊥) → (a ≡ c → ⊥) → F a ≡ false → F c ≡ given (take n (a ∷ c ∷ []))
  unfolding D.repeats
  succ_second zero h g e q = absurd (h refl)
  succ_second (suc zero) h g e q = absurd (g refl)
  succ_second (suc (suc n)) h g e q = subst (λ (l : List ℕ). F c ≡ given (a ∷ c ∷ l)) (sym (take-nil n)) (rw (ne_eqb a c e, q) (sym (or_false (F c))))

module _ (bs : List Block) (i m : ℕ) where
  abbrev this : M.Block
  this = block_of (get_or bs i none_block)

  pub faulty_eq : D.faulty_block m (map block_of bs) i
      ≡ (eqb i 0 && not (eqb this.entry 0)) || (ltb this.exit this.entry || (leb m this.exit || (any (D.overlap this) (map block_of (take i bs)) || faulty_successors (map block_of bs) i this)))
  unfolding D.faulty_block
  faulty_eq = rw (get_or-map block_of bs i none_block, take-map block_of i bs)

-- the row of kind 23 is a Ret, and no other
ret_rows : (k : ℕ) (b : List ℕ) → Rows (λ i. is_ret i ≡ eqb k 23) k (D.instructions b)
unfolding D.call_of
ret_rows k b = (λ e. rw e, (λ e. rw e, (λ e. rw e, (λ e. rw e, (λ e. rw e, (λ e. rw e, (λ e. rw e, (λ e. rw e, (λ e. rw e, (λ e. rw e, (λ e. rw e, (λ e. rw e, (λ e. rw e, (λ e. rw e, (λ e. rw e, (λ e. rw e, (λ e. rw e, (λ e. rw e, tt))))))))))))))))))

is_ret_lem : (k : ℕ) (b : List ℕ) → is_ret (D.instr_of k b) ≡ eqb k 23
unfolding D.instr_of D.instr_in
is_ret_lem k b =
    decide (eqb k 23)
    (λ e. let q : k ≡ 23 = eqb_eq e in rw q)
    (λ e. by_row (λ i. is_ret i ≡ eqb k 23) k (D.instructions b) (sym e) (ret_rows k b))

ret_at : (s : List ℕ) (p : ℕ) → is_ret (D.instr_at s p) ≡ eqb (D.kind_at s p) 23
unfolding D.instr_at
ret_at s p = is_ret_lem (D.kind_at s p) (D.body_at s p)

module _ (s : List ℕ) (code : List ℕ) (m : ℕ) (fits : m ≤ length code) (bs : List M.Block) (k : ℕ) (here : k < m) where
  pub stray_eq : D.stray_ret (map (D.instr_at s) (take m code)) bs k ≡ eqb (D.kind_at s (get_or code k 0)) 23 && not (D.ends_block bs k)
  unfolding D.stray_ret
  stray_eq =
      let l : k < length (take m code) = simp length-take (omega arith) in
      rw (within_list (D.instr_at s) 0 I.Instr.Pop (take m code) k l, get_or-take m code k 0 here, ret_at)

-- no Ret before the first one is stray
pub stray_from : (s code : List ℕ) (m : ℕ) → m ≤ length code → (bs : List M.Block) (k : ℕ) → k ≡ before_ret s (take m code)
    → (k ≤ m) × (D.first_of (D.stray_ret (map (D.instr_at s) (take m code)) bs) k (m - k) ≡ D.first_of (D.stray_ret (map (D.instr_at s) (take m code)) bs) 0 m)
stray_from s code m fits bs k e =
    let w : before_ret s (take m code) ≤ length (take m code) = ret_within s (take m code) in
    let l : length (take m code) ≡ m = length-take-le m code fits in
    let h : k ≤ m = omega arith in (
      h,
      first_skip (D.stray_ret (map (D.instr_at s) (take m code)) bs) m k h
          (λ j i. let z : j < m = omega arith in
          let n : eqb (D.kind_at s (get_or code j 0)) 23 ≡ false = (rw (get_or-take m code j 0 z) at (ret_before s (take m code) j (omega arith))) in
          rw (stray_eq s code m fits bs j z, n)),
    )

-- ---- blocks out of their records

pub two_words : (n : ℕ) (f : ℕ → ℕ) → n ≤ 2 → take n (f 0 ∷ f 1 ∷ []) ≡ up_to n f
unfolding up_to
two_words zero f h = refl
two_words (suc zero) f h = refl
two_words (suc (suc zero)) f h = refl
two_words (suc (suc (suc n))) f h = absurd (omega arith)

pub block_eq : (a b c d : ℕ) (xs ys : List ℕ) → a ≡ c → b ≡ d → xs ≡ ys
    → ◌≡◌ {A = M.Block} (record { entry = a; exit = b; successors = xs }) (record { entry = c; exit = d; successors = ys })
block_eq a b c d xs ys p q r = λ i. record { entry = p i; exit = q i; successors = r i }
