-- Laws of the rows of limits: a record that keeps to the row of its kind has no fault. The rule of the whole table is one computed test.
-- Assumes nothing.
use mathlib.Core.Path.{◌≡◌, refl, sym, ap, ◌∙◌}
use mathlib.Core.Bool.{Bool, true, false, ◌&&◌, false≢true, and-false}
use mathlib.Core.List.{List, [], ◌∷◌}
use mathlib.Core.Option.{none}
use Prim.Native.Nat.{ℕ, zero, suc, ◌+◌, ◌-◌, ◌≤◌, ◌<◌, min}
use native.Mathlib.Nat.{not-suc-le-zero, le_of_suc-le-suc}
use native.Mathlib.Omega.{arith}
use lib.ListN.{length, take, drop, get_or, length-drop}
use lib.Seq.{get_or-drop, take-take}
use lib.Dec.{leb, ltb, eqb}
use borrow.Author.Tests.{ltb-true, ne_eqb}
use Rattle.meaning.specs.Lists.{all, up_to}
use Rattle.meaning.proofs.Laws.Base.{and_l, and_r, and_i, le_leb, leb_le, eqb_eq}
use Rattle.meaning.specs.Listing as D
use Rattle.listing_records.specs.Models.{body_limits, padded, limit_row, limit_rows, keeps_to, place_fault, body_fault}
use Rattle.listing_records.proofs.Lists.{up_to_all}
use Rattle.listing_records.proofs.Laws.{fault_body, inside}

-- each byte is below its limit, and there are as many bytes as limits
abbrev below : List ℕ → List ℕ → Bool
below [] [] = true
below [] (x ∷ xs) = false
below (m ∷ ms) [] = false
below (m ∷ ms) (x ∷ xs) = ltb x m && below ms xs

nothing_below : (ms xs : List ℕ) → below (0 ∷ ms) xs ≡ true → ⊥
nothing_below ms [] e = false≢true e
nothing_below ms (x ∷ xs) e = let h : x < 0 = ltb-true _ _ (and_l (ltb x 0) (below ms xs) e) in omega arith

-- a body below the limits of its fields passes all their tests
fits : (l : ℕ) (fs : List D.Field) (b : List ℕ) → below (body_limits l fs) b ≡ true → (D.fits_body l fs b ≡ true) × (D.within_limits fs b ≡ true)
unfolding body_limits D.fits_body D.within_limits
fits l [] [] e = (refl, refl)
fits l [] (x ∷ xs) e = absurd (false≢true e)
fits l (D.Field.byte r m ∷ fs) [] e = absurd (false≢true e)
fits l (D.Field.byte r m ∷ fs) (x ∷ xs) e =
    let h : x < suc (min r m) = ltb-true _ _ (and_l (ltb x (suc (min r m))) (below (body_limits l fs) xs) e) in
    let w = fits l fs xs (and_r (ltb x (suc (min r m))) (below (body_limits l fs) xs) e) in
    let a : x ≤ r = omega arith in
    let b : x ≤ m = omega arith in
    let c : 1 ≤ length (x ∷ xs) = omega arith in
    (and_i (le_leb c) (and_i (le_leb a) w.0), and_i (le_leb b) w.1)
fits l (D.Field.word ∷ fs) [] e = absurd (false≢true e)
fits l (D.Field.word ∷ fs) (x ∷ []) e = absurd (false≢true (and_r (ltb x 256) false e))
fits l (D.Field.word ∷ fs) (x ∷ y ∷ xs) e =
    let w = fits l fs xs (and_r (ltb y 256) (below (body_limits l fs) xs) (and_r (ltb x 256) (ltb y 256 && below (body_limits l fs) xs) e)) in
    let c : 2 ≤ length (x ∷ y ∷ xs) = omega arith in
    (and_i (le_leb c) w.0, w.1)
fits l (D.Field.local_index ∷ fs) [] e = absurd (false≢true e)
fits l (D.Field.local_index ∷ fs) (x ∷ xs) e =
    let w = fits l fs xs (and_r (ltb x l) (below (body_limits l fs) xs) e) in
    let c : 1 ≤ length (x ∷ xs) = omega arith in
    (and_i (le_leb c) (and_i (and_l (ltb x l) (below (body_limits l fs) xs) e) w.0), w.1)
fits l (D.Field.words r m ∷ fs) b e = absurd (nothing_below (body_limits l fs) b e)
fits l (D.Field.tokens m ∷ fs) b e = absurd (nothing_below (body_limits l fs) b e)
fits l (D.Field.frame ∷ fs) b e = absurd (nothing_below (body_limits l fs) b e)

-- the first n limits
padded_length : (n : ℕ) (ms : List ℕ) → length (padded n ms) ≡ n
unfolding padded
padded_length zero ms = refl
padded_length (suc n) [] = ap suc (padded_length n [])
padded_length (suc n) (m ∷ ms) = ap suc (padded_length n ms)

padded_below : (n : ℕ) (ms ys : List ℕ) → length ms ≤ n → below (padded n ms) ys ≡ true → below ms (take (length ms) ys) ≡ true
unfolding padded
padded_below n [] ys h e = refl
padded_below zero (m ∷ ms) ys h e = absurd (not-suc-le-zero h)
padded_below (suc n) (m ∷ ms) [] h e = absurd (false≢true e)
padded_below (suc n) (m ∷ ms) (y ∷ ys) h e =
    and_i (and_l (ltb y m) (below (padded n ms) ys) e) (padded_below n ms ys (le_of_suc-le-suc h) (and_r (ltb y m) (below (padded n ms) ys) e))

-- five bytes
five : (ys : List ℕ) → 5 ≤ length ys → take 5 ys ≡ get_or ys 0 0 ∷ get_or ys 1 0 ∷ get_or ys 2 0 ∷ get_or ys 3 0 ∷ get_or ys 4 0 ∷ []
five [] h = absurd (omega arith)
five (a ∷ []) h = absurd (omega arith)
five (a ∷ b ∷ []) h = absurd (omega arith)
five (a ∷ b ∷ c ∷ []) h = absurd (omega arith)
five (a ∷ b ∷ c ∷ d ∷ []) h = absurd (omega arith)
five (a ∷ b ∷ c ∷ d ∷ e ∷ ys) h = refl

module _ (a b c d e : ℕ) where
  five_below : (ms : List ℕ) → length ms ≡ 5 → (ltb a (get_or ms 0 0) ≡ true) × (ltb b (get_or ms 1 0) ≡ true) × (ltb c (get_or ms 2 0) ≡ true)
      × (ltb d (get_or ms 3 0) ≡ true) × (ltb e (get_or ms 4 0) ≡ true) → below ms (a ∷ b ∷ c ∷ d ∷ e ∷ []) ≡ true
  five_below [] n h = absurd (omega arith)
  five_below (m ∷ []) n h = absurd (omega arith)
  five_below (m ∷ o ∷ []) n h = absurd (omega arith)
  five_below (m ∷ o ∷ p ∷ []) n h = absurd (omega arith)
  five_below (m ∷ o ∷ p ∷ q ∷ []) n h = absurd (omega arith)
  five_below (m ∷ o ∷ p ∷ q ∷ r ∷ []) n h = and_i h.0 (and_i h.1 (and_i h.2 (and_i h.3 (and_i h.4 refl))))
  five_below (m ∷ o ∷ p ∷ q ∷ r ∷ t ∷ ms) n h = absurd (omega arith)

-- ---- the table

up_to_at : {A : Type 0} (n : ℕ) (f : ℕ → A) (d : A) (i : ℕ) → i < n → get_or (up_to n f) i d ≡ f i
unfolding up_to
up_to_at zero f d i h = absurd (not-suc-le-zero h)
up_to_at (suc n) f d zero h = refl
up_to_at (suc n) f d (suc i) h = up_to_at n (λ j. f (suc j)) d i (le_of_suc-le-suc h)

-- a kind that is in use, whose limits are within the row
abbrev row_right : ℕ → ℕ → Bool
row_right l k = D.kind_in_use k && leb (length (body_limits l (D.fields_of k))) 5

table : (l : ℕ) → all (row_right l) (up_to 18 (λ i. 10 + i)) ≡ true
unfolding up_to body_limits D.kind_in_use D.in_use D.fields_of D.fields_in
table l = refl

module _ (s : List ℕ) (l at k : ℕ) (here : at + 9 ≤ length s) (small : k < 18) (kind : D.kind_at s at ≡ 10 + k)
    (keeps : keeps_to (get_or (limit_rows l) k []) (D.u16_at s at) s at ≡ true) where
  abbrev limits : List ℕ
  limits = body_limits l (D.fields_of (10 + k))

  right : row_right l (10 + k) ≡ true
  right = up_to_all (row_right l) 18 (λ i. 10 + i) (table l) k small

  short : length limits ≤ 5
  short = leb_le (and_r (D.kind_in_use (10 + k)) (leb (length limits) 5) right)

  -- the test of the code, with the row of the kind
  tests : keeps_to (limit_row l (10 + k)) (D.u16_at s at) s at ≡ true
  unfolding limit_rows
  tests = sym (ap (λ (row : List ℕ). keeps_to row (D.u16_at s at) s at) (up_to_at 18 (λ i. limit_row l (10 + i)) [] k small)) ∙ keeps

  abbrev limit : ℕ → ℕ
  limit i = get_or (padded 5 limits) i 0

  abbrev under : ℕ → ℕ → Bool
  under i m = ltb (get_or s (at + i) 0) m

  -- the length, and the five bytes
  parts : (D.u16_at s at ≡ length limits)
      × ((under 4 (limit 0) ≡ true) × (under 5 (limit 1) ≡ true) × (under 6 (limit 2) ≡ true) × (under 7 (limit 3) ≡ true) × (under 8 (limit 4) ≡ true))
  unfolding keeps_to limit_row
  parts =
      let n : Bool = eqb (D.u16_at s at) (length limits) in
      let a : Bool = under 4 (limit 0) in
      let b : Bool = under 5 (limit 1) in
      let c : Bool = under 6 (limit 2) in
      let d : Bool = under 7 (limit 3) in
      let e : Bool = under 8 (limit 4) in
      let p : n && a && b && c && d ≡ true = and_l (n && a && b && c && d) e tests in
      let q : n && a && b && c ≡ true = and_l (n && a && b && c) d p in
      let r : n && a && b ≡ true = and_l (n && a && b) c q in
      let t : n && a ≡ true = and_l (n && a) b r in
      (eqb_eq (and_l n a t), (and_r n a t, and_r (n && a) b r, and_r (n && a && b) c q, and_r (n && a && b && c) d p, and_r (n && a && b && c && d) e tests))

  whole : D.whole_at s at ≡ true
  unfolding D.whole_at
  whole =
      let n : D.u16_at s at ≡ length limits = parts.0 in
      let h : at + 4 + D.u16_at s at ≤ length s = omega (arith, short) in
      le_leb h

  pub keeps_inside : D.next_at s at ≤ length s
  keeps_inside = inside s at whole

  byte : (i j : ℕ) → 4 + i ≡ j → get_or (drop (at + 4) s) i 0 ≡ get_or s (at + j) 0
  byte i j e = let n : at + 4 + i ≡ at + j = omega arith in get_or-drop (at + 4) s i 0 ∙ ap (λ (k : ℕ). get_or s k 0) n

  bytes : below (padded 5 limits) (take 5 (drop (at + 4) s)) ≡ true
  bytes =
      let n : length (drop (at + 4) s) ≡ length s - (at + 4) = length-drop (at + 4) s in
      rw (five (drop (at + 4) s) (omega arith), byte 0 4 refl, byte 1 5 refl, byte 2 6 refl, byte 3 7 refl, byte 4 8 refl)
      (five_below _ _ _ _ _ (padded 5 limits) (padded_length 5 limits) parts.1)

  fit : below limits (D.body_at s at) ≡ true
  unfolding D.body_at
  fit = rw (whole, parts.0, ← take-take (length limits) 5 (drop (at + 4) s) short) (padded_below 5 limits (take 5 (drop (at + 4) s)) short bytes)

  pub keeps_fine : (coded : Bool) → (at ≡ 0 → ⊥) → D.fault_at s l coded at ≡ none
  unfolding body_fault place_fault
  keeps_fine coded z =
      let f = fits l (D.fields_of (10 + k)) (D.body_at s at) fit in
      let u : D.kind_in_use (D.kind_at s at) ≡ true = rw kind (and_l (D.kind_in_use (10 + k)) (leb (length limits) 5) right) in
      let o : eqb (D.kind_at s at) 1 ≡ false = ne_eqb (D.kind_at s at) 1 (λ e. omega arith) in
      let n : eqb (D.kind_at s at) 2 ≡ false = ne_eqb (D.kind_at s at) 2 (λ e. omega arith) in
      let b : none ≡ place_fault (D.kind_at s at) at coded = rw (o, ne_eqb at 0 z, n, and-false) in
      fault_body s at l coded whole u b ∙ rw (kind, f.0, f.1)
