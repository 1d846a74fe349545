-- A body can be recovered from what it means: the bytes of each field follow from what is read of it.
use Prim.Native.Nat.{ℕ, zero, suc, ◌+◌, ◌*◌, ◌/◌, ◌%◌, ◌≤◌, ◌<◌}
use native.Mathlib.Omega.{arith}
use Rattle.std.specs.Prelude.{Bool, false, cond, ◌≢◌, ◌≡◌, refl, eqb, leb, drop}
use Rattle.std.proofs.Math.Bool.{true}
use Rattle.std.proofs.lemmas.Bool.{false≢true}
use mathlib.Core.List.{List, [], ◌∷◌}
use Rattle.std.proofs.Common.{ap, subst, sym, ◌∙◌, add-zero, one-mul, add-one, take-append-drop, drop_of_length-le, get_or-drop, get_or-take}
use Rattle.std.proofs.Math.ListN.{length, get_or, take, length-drop}
use Rattle.std.proofs.Math.Seq.{drop-cons, drop-drop, take-add}
use Rattle.meaning.specs.Lists.{all, each, up_to}
use Rattle.meaning.specs.AbstractState.{Token, of_value, of_ref}
use Rattle.meaning.specs.Steps.{Instr, Call, Pop, CopyLoc, MoveLoc, StLoc, FreezeRef, Compare, ReadRef, WriteRef, BorrowLoc, BorrowField, BorrowGlobal, MoveFrom, Ret, Values, MoveTo, VectorOp, BorrowElement}
use Rattle.meaning.specs.Loop.{Block}
use Rattle.meaning.specs.Listing.{Field, Shape, shape, shapes, in_use, kind_in_use, fields_in, fields_of, field_width, field_right, fits_body, is_token, u16_at, token_as, flag_at, tokens_at, words_at, block_of, call_of, instr_in, instr_of}
use Rattle.meaning.proofs.Laws.Base.{decide, eqb_eq, eqb_no, leb_le}
use Rattle.meaning.proofs.Laws.Block.{all_get_d}
use Rattle.meaning.proofs.Laws.Listing.{fits_cons, up_to_length}

abbrev pub Bytes : List ℕ → Type 0
Bytes b = (i : ℕ) → get_or b i 0 < 256

-- ---- the bytes of what was read, field by field

abbrev of_byte : ℕ → List ℕ
of_byte n = n ∷ []

abbrev pub of_word : ℕ → List ℕ
of_word n = n % 256 ∷ n / 256 ∷ []

abbrev of_flag : Bool → List ℕ
of_flag m = of_byte (cond m 1 0)

abbrev of_token : Token → List ℕ
of_token of_value = of_byte 0
of_token (of_ref false) = of_byte 1
of_token (of_ref true) = of_byte 2

-- a count, and as many
abbrev counted : {A : Type 0} → (A → List ℕ) → List A → List ℕ
counted code xs = length xs ∷ each xs code

-- one after the other
abbrev pub joined : List (List ℕ) → List ℕ
joined ps = each ps (λ p. p)

abbrev of_block : Block → List (List ℕ)
of_block b = of_word b.entry ∷ of_word b.exit ∷ counted of_word b.successors ∷ []

-- the kind, and the fields
abbrev of_instr : Instr → ℕ × List (List ℕ)
of_instr Pop = (10, [])
of_instr (CopyLoc x) = (11, of_byte x ∷ [])
of_instr (MoveLoc x) = (12, of_byte x ∷ [])
of_instr (StLoc x) = (13, of_byte x ∷ [])
of_instr FreezeRef = (14, [])
of_instr Compare = (15, [])
of_instr ReadRef = (16, [])
of_instr WriteRef = (17, [])
of_instr (BorrowLoc x m) = (18, of_byte x ∷ of_flag m ∷ [])
of_instr (BorrowField x m) = (19, of_word x ∷ of_flag m ∷ [])
of_instr (BorrowGlobal x m) = (20, of_word x ∷ of_flag m ∷ [])
of_instr (MoveFrom x) = (21, of_word x ∷ [])
of_instr (Call p rs ts) = (22, of_byte p ∷ counted of_word rs ∷ counted of_token ts ∷ [])
of_instr Ret = (23, [])
of_instr (Values n k t) = (24, of_word n ∷ of_word k ∷ of_token t ∷ [])
of_instr MoveTo = (25, [])
of_instr (VectorOp n m k t) = (26, of_byte n ∷ of_flag m ∷ of_byte k ∷ of_token t ∷ [])
of_instr (BorrowElement m) = (27, of_flag m ∷ [])

flag_byte : (x : ℕ) → x ≤ 1 → of_flag (eqb x 1) ≡ of_byte x
flag_byte zero h = refl
flag_byte (suc zero) h = refl
flag_byte (suc (suc x)) h = absurd (omega arith)

token_byte : (x : ℕ) → x ≤ 2 → of_token (token_as x) ≡ of_byte x
token_byte zero h = refl
token_byte (suc zero) h = refl
token_byte (suc (suc zero)) h = refl
token_byte (suc (suc (suc x))) h = absurd (omega arith)

-- what holds of each row's kind holds of a kind that has a row
data Each (P : ℕ → Type 0) : List Shape → Type 0 where
  end : Each P []
  row : (k : ℕ) {fs : List Field} {rs : List Shape} → P k → Each P rs → Each P (shape k fs ∷ rs)

by_shape : (P : ℕ → Type 0) (k : ℕ) (rs : List Shape) → in_use k rs ≡ true → Each P rs → P k
unfolding in_use
by_shape P k [] e w = absurd (false≢true e)
by_shape P k (r ∷ rs) e (row j p w) = decide (eqb k j) (λ q. subst P (sym (eqb_eq q)) p) (λ q. by_shape P k rs (rw q at e) w)

-- ---- what is read at a place

module _ (s : List ℕ) (bytes : Bytes s) where
  first : (i : ℕ) → get_or (drop i s) 0 0 ≡ get_or s i 0
  first i = get_or-drop i s 0 0 ∙ ap (λ (j : ℕ). get_or s j 0) (add-zero i)

  byte_at : (i : ℕ) → 1 ≤ length (drop i s) → of_byte (get_or s i 0) ≡ take 1 (drop i s)
  byte_at i h = rw (drop-cons s i 0 (omega (arith, length-drop i s)))

  flag_at_lem : (i : ℕ) → 1 ≤ length (drop i s) → leb (get_or (drop i s) 0 0) 1 ≡ true → of_flag (flag_at s i) ≡ take 1 (drop i s)
  flag_at_lem i h r = flag_byte (get_or s i 0) (leb_le (rw (first i) at r)) ∙ byte_at i h

  token_at : (i : ℕ) → 1 ≤ length (drop i s) → leb (get_or (drop i s) 0 0) 2 ≡ true → of_token (token_as (get_or s i 0)) ≡ take 1 (drop i s)
  token_at i h r = token_byte (get_or s i 0) (leb_le (rw (first i) at r)) ∙ byte_at i h

  pub word_at : (i : ℕ) → 2 ≤ length (drop i s) → of_word (u16_at s i) ≡ take 2 (drop i s)
  unfolding u16_at
  word_at i h =
      let x : ℕ = get_or s i 0 in
      let y : ℕ = get_or s (suc i) 0 in
      let k : x < 256 = bytes i in
      let lo : (x + 256 * y) % 256 ≡ x = omega arith in
      let hi : (x + 256 * y) / 256 ≡ y = omega arith in
      rw (add-one i, drop-cons s i 0 (omega (arith, length-drop i s)), drop-cons s (suc i) 0 (omega (arith, length-drop i s)), lo, hi)

  -- n elements of w bytes each, from i on
  each_at : {A : Type 0} (code : A → List ℕ) (w n i : ℕ) (f : ℕ → A) → ((k : ℕ) → k < n → code (f k) ≡ take w (drop (i + w * k) s))
      → each (up_to n f) code ≡ take (w * n) (drop i s)
  unfolding up_to
  each_at code w zero i f h = let z : w * 0 ≡ 0 = omega arith in rw z
  each_at code w (suc n) i f h =
      let a : i + w * 0 ≡ i = omega arith in
      let c : code (f 0) ≡ take w (drop i s) = (rw a at (h 0 (omega arith))) in
      let r : each (up_to n (λ k. f (suc k))) code ≡ take (w * n) (drop (i + w) s) = each_at code w n (i + w) (λ k. f (suc k)) (λ k m.
      let e : i + w * suc k ≡ i + w + w * k = omega arith in
      rw e at (h (suc k) (omega arith))) in
      let e : w * suc n ≡ w + w * n = omega arith in
      rw (c, r, e, take-add w (w * n) (drop i s), drop-drop w i s)

  -- the count at i, and as many elements of w bytes each: v bytes
  counted_at : {A : Type 0} (code : A → List ℕ) (w v i : ℕ) (f : ℕ → A) → v ≡ w * get_or s i 0 → 1 + v ≤ length (drop i s)
      → ((k : ℕ) → k < get_or s i 0 → code (f k) ≡ take w (drop (suc i + w * k) s)) → counted code (up_to (get_or s i 0) f) ≡ take (1 + v) (drop i s)
  counted_at code w v i f e h c =
      let d : 1 + v ≡ suc (w * get_or s i 0) = omega arith in
      rw (d, drop-cons s i 0 (omega (arith, length-drop i s)), up_to_length (get_or s i 0) f, each_at code w (get_or s i 0) (suc i) f c)

  words_at_lem : (i : ℕ) → 1 + 2 * get_or (drop i s) 0 0 ≤ length (drop i s)
      → counted of_word (words_at s (suc i) (get_or s i 0)) ≡ take (1 + 2 * get_or (drop i s) 0 0) (drop i s)
  words_at_lem i h =
      counted_at of_word 2 (2 * get_or (drop i s) 0 0) i (λ k. u16_at s (suc i + 2 * k)) (ap (λ (x : ℕ). 2 * x) (first i)) h
      (λ k m. word_at (suc i + 2 * k) (omega (arith, first i, length-drop i s, length-drop (suc i + 2 * k) s)))

  tokens_at_lem : (i : ℕ) → 1 + get_or (drop i s) 0 0 ≤ length (drop i s) → all is_token (take (get_or (drop i s) 0 0) (drop 1 (drop i s))) ≡ true
      → counted of_token (tokens_at s (suc i) (get_or s i 0)) ≡ take (1 + get_or (drop i s) 0 0) (drop i s)
  tokens_at_lem i h r =
      let n : ℕ = get_or (drop i s) 0 0 in
      let d : List ℕ = drop 1 (drop i s) in
      counted_at of_token 1 n i (λ k. token_as (get_or s (suc i + k) 0)) (omega (arith, first i)) h
      (λ k m.
      let q : k < n = omega (arith, first i) in
      let a : is_token (get_or (take n d) k 0) ≡ true = all_get_d is_token (take n d) k 0 r refl in
      let c : is_token (get_or s (suc i + k) 0) ≡ true = (rw (get_or-take n d k 0 q, drop-drop 1 i s, get_or-drop (i + 1) s k 0, add-one i) at a) in
      let g : 1 ≤ length (drop (suc i + k) s) = omega (arith, first i, length-drop i s, length-drop (suc i + k) s) in
      rw (one-mul k) (token_at (suc i + k) g (rw (first (suc i + k)) c)))

  -- ---- a body, field by field

  module _ (l : ℕ) where
    -- each piece is the bytes of its field, where these are right; the first field starts at i
    abbrev Spelled : List Field → List (List ℕ) → ℕ → Type 0
    Spelled [] ps i = ps ≡ []
    Spelled (f ∷ fs) [] i = ⊥
    Spelled (f ∷ fs) (p ∷ ps) i =
        (field_width f (drop i s) ≤ length (drop i s) → field_right l f (drop i s) ≡ true → p ≡ take (field_width f (drop i s)) (drop i s))
        × Spelled fs ps (i + field_width f (drop i s))

    spelled : (fs : List Field) (ps : List (List ℕ)) (i : ℕ) → fits_body l fs (drop i s) ≡ true → Spelled fs ps i → joined ps ≡ drop i s
    unfolding fits_body
    spelled [] ps i e h =
        let z : length (drop i s) ≡ 0 = eqb_eq e in
        rw h (sym (drop_of_length-le s {i = i} (omega (arith, length-drop i s))))
    spelled (f ∷ fs) [] i e h = absurd h
    spelled (f ∷ fs) (p ∷ ps) i e h =
        let w : ℕ = field_width f (drop i s) in
        let t = fits_cons l f fs (drop i s) e in
        let r : fits_body l fs (drop (i + w) s) ≡ true = (rw (drop-drop w i s) at t.2) in
        rw (h.0 t.0 t.1, spelled fs ps (i + w) r h.1, ← drop-drop w i s) (take-append-drop w (drop i s))

    block_back : fits_body l (fields_of 2) s ≡ true → joined (of_block (block_of s)) ≡ s
    unfolding fields_of fields_in block_of
    block_back e =
        spelled (fields_of 2) (of_block (block_of s)) 0 e
        (λ h _. word_at 0 h, (λ h _. word_at 2 h, (λ h _. words_at_lem 4 h, refl)))

    -- the kind and the fields are those of the record
    abbrev Back : ℕ → Type 0
    Back k = ((of_instr (instr_of k s)).0 ≡ k) × Spelled (fields_of k) (of_instr (instr_of k s)).1 0

    -- all but the first two rows are instructions
    backs : Each Back (drop 2 shapes)
    unfolding fields_of fields_in instr_of instr_in call_of
    backs =
        let n : ℕ = get_or s 1 0 in
        let e : 1 + (1 + 2 * get_or (drop 1 s) 0 0) ≡ 2 + 2 * n = omega (arith, first 1) in
        let g : 3 + 2 * n ≡ suc (2 + 2 * n) = omega arith in
        row 10 (refl, refl)
        (row 11 (refl, (λ h _. byte_at 0 h, refl))
        (row 12 (refl, (λ h _. byte_at 0 h, refl))
        (row 13 (refl, (λ h _. byte_at 0 h, refl))
        (row 14 (refl, refl)
        (row 15 (refl, refl)
        (row 16 (refl, refl)
        (row 17 (refl, refl)
        (row 18 (refl, (λ h _. byte_at 0 h, (flag_at_lem 1, refl)))
        (row 19 (refl, (λ h _. word_at 0 h, (flag_at_lem 2, refl)))
        (row 20 (refl, (λ h _. word_at 0 h, (flag_at_lem 2, refl)))
        (row 21 (refl, (λ h _. word_at 0 h, refl))
        (row 22 (refl, (λ h _. byte_at 0 h, (λ h _. words_at_lem 1 h, (rw (e, g) (tokens_at_lem (2 + 2 * n)), refl))))
        (row 23 (refl, refl)
        (row 24 (refl, (λ h _. word_at 0 h, (λ h _. word_at 2 h, (token_at 4, refl))))
        (row 25 (refl, refl)
        (row 26 (refl, (λ h _. byte_at 0 h, (flag_at_lem 1, (λ h _. byte_at 2 h, (token_at 3, refl)))))
        (row 27 (refl, (flag_at_lem 0, refl))
        end)))))))))))))))))

    instr_back : (k : ℕ) → kind_in_use k ≡ true → k ≢ 1 → k ≢ 2 → fits_body l (fields_of k) s ≡ true
        → ((of_instr (instr_of k s)).0 ≡ k) × (joined (of_instr (instr_of k s)).1 ≡ s)
    unfolding kind_in_use in_use
    instr_back k u o t e =
        let r = by_shape Back k (drop 2 shapes) (rw (eqb_no o, eqb_no t) at u) backs in
        (r.0, spelled (fields_of k) (of_instr (instr_of k s)).1 0 e r.1)

-- ---- bodies that mean the same are the same

pub block_body : (l m : ℕ) (b c : List ℕ) → Bytes b → Bytes c → fits_body l (fields_of 2) b ≡ true → fits_body m (fields_of 2) c ≡ true
    → block_of b ≡ block_of c → b ≡ c
block_body l m b c p q f g e = sym (block_back b p l f) ∙ ap (λ (x : Block). joined (of_block x)) e ∙ block_back c q m g

pub instr_body : (l m j k : ℕ) (b c : List ℕ) → kind_in_use j ≡ true → kind_in_use k ≡ true → (j ≢ 1) → (j ≢ 2) → (k ≢ 1) → (k ≢ 2)
    → Bytes b → Bytes c → fits_body l (fields_of j) b ≡ true → fits_body m (fields_of k) c ≡ true → instr_of j b ≡ instr_of k c → (j ≡ k) × (b ≡ c)
instr_body l m j k b c u v j1 j2 k1 k2 p q f g e =
    let x = instr_back b p l j u j1 j2 f in
    let y = instr_back c q m k v k1 k2 g in
    (sym x.0 ∙ ap (λ (i : Instr). (of_instr i).0) e ∙ y.0, sym x.1 ∙ ap (λ (i : Instr). joined (of_instr i).1) e ∙ y.1)
