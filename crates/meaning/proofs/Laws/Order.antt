-- A5: blocks before code. What the bytes of a listing are once it was read, what number 33 is given for, and what stays of document 01's reading.
use Prim.Native.Nat.{ℕ, zero, suc, ◌+◌, ◌≤◌, ◌<◌}
use Rattle.std.proofs.Common.{arith, append_assoc, append-nil, inl, inr, ap, subst, ◌∙◌, ltb-true, ltb-false, length-take, length-drop, take-add, take_all, get_or-take, get_or-drop, drop-drop}
use Rattle.std.specs.Prelude.{Bool, true, false, cond, not, List, [], ◌∷◌, ◌++◌, map, ◌⊎◌, ◌≡◌, refl, leb, ltb, eqb, length, take, drop}
use Rattle.std.proofs.lemmas.List.{map-append}
use Rattle.std.proofs.Math.Option.{Option, none, some}
use Rattle.std.proofs.Math.Path.{sym}
use Rattle.std.proofs.Math.ListN.{get_or-eq_default}
use Rattle.meaning.specs.Limits.{max_bytes}
use Rattle.meaning.specs.Lists.{all, empty}
use Rattle.meaning.specs.Blocks.{Routine}
use Rattle.meaning.specs.Listing.{u16_at, kind_at, body_at, next_at, locals_of, whole_at, Listed, read, refused, fault_at, Places, no_places, some_code, full_for, put_at, if_fine, if_not, places_from, after_records, read_places, read_listing, block_at, instr_at, routine_at}
use Rattle.meaning.proofs.Laws.Base.{decide, leb_le, eqb_eq, and_l, and_r}
use Rattle.meaning.proofs.Laws.Decode.{Bytes, joined, of_word, word_at, block_body, instr_body}
use Rattle.meaning.proofs.Laws.Listing.{places_step, passed, in_order_lem, fine_read, not_read, read_inj, first_passed, first_kind, read_places_lem, ok_block, ok_code, ok_block_lem, ok_code_lem, only_33, read_keeps, Good, places_good, Accepted, accepted}

-- ---- a listing that was read is its first record, its blocks and its instructions

-- the bytes of the record at a place
abbrev pub record_at : List ℕ → ℕ → List ℕ
record_at s at = take (4 + u16_at s at) (drop at s)

joined_more : (rs : List (List ℕ)) (r : List ℕ) → joined (rs ++ (r ∷ [])) ≡ joined rs ++ r
joined_more [] r = append-nil r
joined_more (x ∷ rs) r = ap (λ (y : List ℕ). x ++ y) (joined_more rs r) ∙ sym (append_assoc x (joined rs) r)

-- the bytes of the records at these places
abbrev bytes_at : List ℕ → List ℕ → List ℕ
bytes_at s ps = joined (map (record_at s) ps)

bytes_more : (s ps : List ℕ) (p : ℕ) → bytes_at s (ps ++ (p ∷ [])) ≡ bytes_at s ps ++ record_at s p
bytes_more s ps p = ap joined (map-append (record_at s) ps (p ∷ [])) ∙ joined_more (map (record_at s) ps) (record_at s p)

-- the first record, the blocks and the instructions so far
abbrev behind : List ℕ → Places → List ℕ
behind s w = record_at s 0 ++ bytes_at s w.blocks ++ bytes_at s w.code

module _ (s : List ℕ) (at : ℕ) (w : Places) where
  abbrev first : List ℕ
  first = record_at s 0

  abbrev bs : List ℕ
  bs = bytes_at s w.blocks

  -- a block goes behind the blocks, since there is no instruction yet
  put_block : (ps : List ℕ) → (not (empty ps) ≡ true → ⊥)
      → first ++ bs ++ bytes_at s ps ++ record_at s at ≡ first ++ bytes_at s (w.blocks ++ (at ∷ [])) ++ bytes_at s ps
  put_block [] n =
      ap (λ (x : List ℕ). x ++ record_at s at) (append-nil (first ++ bs)) ∙ append_assoc first bs (record_at s at)
      ∙ ap (λ (x : List ℕ). first ++ x) (sym (bytes_more s w.blocks at)) ∙ sym (append-nil (first ++ bytes_at s (w.blocks ++ (at ∷ []))))
  put_block (p ∷ ps) n = absurd (n refl)

  behind_put : 0 < at → fault_at s (locals_of (body_at s 0)) (some_code w) at ≡ none → behind s w ++ record_at s at ≡ behind s (put_at (kind_at s at) at w)
  behind_put h e =
      let l : ℕ = locals_of (body_at s 0) in
      decide (eqb (kind_at s at) 1)
      (λ a. let z : at ≡ 0 = eqb_eq (sym (passed s l (some_code w) at e).first ∙ a) in absurd (omega arith))
      (λ a. decide (eqb (kind_at s at) 2)
      (λ b. rw (a, b) (put_block w.code (λ c. in_order_lem s l (some_code w) at e c (eqb_eq b))))
      (λ b. rw (a, b)
      (append_assoc (first ++ bs) (bytes_at s w.code) (record_at s at) ∙ ap (λ (x : List ℕ). first ++ bs ++ x) (sym (bytes_more s w.code at)))))

-- the bytes before a place behind the first record are the records before it
abbrev Behind : List ℕ → ℕ → Places → Type 0
Behind s at w = (0 < at) × (take at s ≡ behind s w)

behind_next : (s : List ℕ) (at : ℕ) (w : Places) → Behind s at w → fault_at s (locals_of (body_at s 0)) (some_code w) at ≡ none
    → Behind s (next_at s at) (put_at (kind_at s at) at w)
behind_next s at w b e =
    let z : next_at s at ≡ at + (4 + u16_at s at) = omega arith in
    (omega (arith, b.0), ap (λ (n : ℕ). take n s) z ∙ take-add at (4 + u16_at s at) s ∙ ap (λ (r : List ℕ). r ++ record_at s at) b.1 ∙ behind_put s at w b.0 e)

-- the first record is of kind 1 and goes neither to the blocks nor to the code
in_turn_lem : (s : List ℕ) (v : Places) → places_from (length s) s 0 no_places ≡ read v → s ≡ behind s v
unfolding places_from u16_at
in_turn_lem [] v e = ap (behind []) (read_inj e)
in_turn_lem (x ∷ xs) v e =
    let s : List ℕ = x ∷ xs in
    let l : ℕ = locals_of (body_at s 0) in
    let k : kind_at s 0 ≡ 1 = first_kind s l (first_passed s v (omega arith) e) in
    let a = fine_read (fault_at s l false 0) 0 _ v (sym (places_step s 0 no_places (omega arith)) ∙ e) in
    let b : places_from (length s) s (next_at s 0) no_places ≡ read v = rw k at (not_read (full_for (kind_at s 0) no_places) 6 0 _ v a.1).1 in
    let c : take (next_at s 0) s ≡ behind s no_places = sym (append-nil (record_at s 0)) ∙ sym (append-nil (record_at s 0 ++ [])) in
    let r = read_keeps s (Behind s) (λ at w h x y. behind_next s at w h x) (next_at s 0) no_places v (omega arith, c) b in
    sym (take_all r.0 s r.1) ∙ r.2.1

pub blocks_first : (s : List ℕ) (v : Places) → read_places s ≡ read v → s ≡ behind s v
blocks_first s v e = in_turn_lem s v (read_places_lem s v e)

-- the records, in two sequences, have one order
same_bytes : (s t : List ℕ) (v w : Places) → s ≡ behind s v → t ≡ behind t w → record_at s 0 ≡ record_at t 0
    → map (record_at s) v.blocks ≡ map (record_at t) w.blocks → map (record_at s) v.code ≡ map (record_at t) w.code → s ≡ t
same_bytes s t v w a b f g h = a ∙ (λ i. f i ++ joined (g i) ++ joined (h i)) ∙ sym b

pub one_order : (s t : List ℕ) (v w : Places) → read_places s ≡ read v → read_places t ≡ read w → record_at s 0 ≡ record_at t 0
    → map (record_at s) v.blocks ≡ map (record_at t) w.blocks → map (record_at s) v.code ≡ map (record_at t) w.code → s ≡ t
one_order s t v w a b f g h = same_bytes s t v w (blocks_first s v a) (blocks_first t w b) f g h

-- ---- so a routine has one listing

module _ (s : List ℕ) (p : ℕ) (whole : whole_at s p ≡ true) where
  room : p + 4 + u16_at s p ≤ length s
  unfolding whole_at
  room = leb_le whole

  body_is : body_at s p ≡ take (u16_at s p) (drop (p + 4) s)
  unfolding body_at
  body_is = rw whole

  body_length : length (body_at s p) ≡ u16_at s p
  body_length = ap length body_is ∙ (let h : p + 4 + u16_at s p ≤ length s = room in simp (length-take, length-drop) (omega arith))

  module _ (bytes : Bytes s) where
    body_bytes : Bytes (body_at s p)
    body_bytes i =
        let n : ℕ = u16_at s p in
        decide (ltb i n)
        (λ h. rw (body_is, get_or-take n (drop (p + 4) s) i 0 (ltb-true _ _ h), get_or-drop (p + 4) s i 0) (bytes (p + 4 + i)))
        (λ h. let k : length (body_at s p) ≤ i = rw body_length (ltb-false i n h) in rw (get_or-eq_default (body_at s p) 0 {n = i} k) (omega arith))

    -- a record is its length, its kind and its body
    record_parts : record_at s p ≡ of_word (length (body_at s p)) ++ of_word (kind_at s p) ++ body_at s p
    record_parts =
        let n : ℕ = u16_at s p in
        let h : p + 4 + n ≤ length s = room in
        let a : 4 + n ≡ 2 + (2 + n) = omega arith in
        let c : p + 2 + 2 ≡ p + 4 = omega arith in
        let x : 2 ≤ length (drop p s) = simp length-drop (omega arith) in
        let y : 2 ≤ length (drop (p + 2) s) = simp length-drop (omega arith) in
        rw (a, take-add 2 (2 + n) (drop p s), drop-drop 2 p s, take-add 2 n (drop (p + 2) s), drop-drop 2 (p + 2) s, c, body_length, body_is, ← word_at s bytes p x, ← word_at s bytes (p + 2) y)

-- the same kind and the same body are the same record
record_same : (s t : List ℕ) (p q : ℕ) → Bytes s → Bytes t → whole_at s p ≡ true → whole_at t q ≡ true → kind_at s p ≡ kind_at t q → body_at s p ≡ body_at t q
    → record_at s p ≡ record_at t q
record_same s t p q bs bt ws wt k b =
    record_parts s p ws bs ∙ (λ i. of_word (length (b i)) ++ of_word (k i) ++ b i) ∙ sym (record_parts t q wt bt)

same_map : {A B : Type 0} (m n : ℕ → Bool) (f g : ℕ → A) (h k : ℕ → B) → ((x y : ℕ) → m x ≡ true → n y ≡ true → f x ≡ g y → h x ≡ k y)
    → (xs ys : List ℕ) → all m xs ≡ true → all n ys ≡ true → map f xs ≡ map g ys → map h xs ≡ map k ys
same_map m n f g h k w [] [] a b e = refl
same_map m n f g h k w [] (y ∷ ys) a b e = let z : ◌≡◌ {A = ℕ} 0 1 = cc in absurd (omega arith)
same_map m n f g h k w (x ∷ xs) [] a b e = let z : ◌≡◌ {A = ℕ} 0 1 = cc in absurd (omega arith)
same_map m n f g h k w (x ∷ xs) (y ∷ ys) a b e =
    let i : f x ≡ g y = cc in
    let j : map f xs ≡ map g ys = cc in
    let u : h x ≡ k y = w x y (and_l (m x) (all m xs) a) (and_l (n y) (all n ys) b) i in
    let v : map h xs ≡ map k ys = same_map m n f g h k w xs ys (and_r (m x) (all m xs) a) (and_r (n y) (all n ys) b) j in
    λ d. u d ∷ v d

module _ (s t : List ℕ) (bs : Bytes s) (bt : Bytes t) where
  block_same : (p q : ℕ) → ok_block s p ≡ true → ok_block t q ≡ true → block_at s p ≡ block_at t q → record_at s p ≡ record_at t q
  unfolding block_at
  block_same p q a b e =
      let l : ℕ = locals_of (body_at s 0) in
      let m : ℕ = locals_of (body_at t 0) in
      let f = ok_block_lem s p a in
      let g = ok_block_lem t q b in
      record_same s t p q bs bt f.0.whole g.0.whole (f.1 ∙ sym g.1)
      (block_body l m (body_at s p) (body_at t q) (body_bytes s p f.0.whole bs) (body_bytes t q g.0.whole bt) (rw f.1 at f.0.fits) (rw g.1 at g.0.fits) e)

  instr_same : (p q : ℕ) → ok_code s p ≡ true → ok_code t q ≡ true → instr_at s p ≡ instr_at t q → record_at s p ≡ record_at t q
  unfolding instr_at
  instr_same p q a b e =
      let l : ℕ = locals_of (body_at s 0) in
      let m : ℕ = locals_of (body_at t 0) in
      let f = ok_code_lem s p a in
      let g = ok_code_lem t q b in
      let r = instr_body l m (kind_at s p) (kind_at t q) (body_at s p) (body_at t q) f.0.kind g.0.kind f.1 f.2 g.1 g.2
      (body_bytes s p f.0.whole bs) (body_bytes t q g.0.whole bt) f.0.fits g.0.fits e in
      record_same s t p q bs bt f.0.whole g.0.whole r.0 r.1

  pub one_listing : (q : Routine) → read_listing s ≡ read q → read_listing t ≡ read q → record_at s 0 ≡ record_at t 0 → s ≡ t
  one_listing q e f h =
      let a : Accepted s q = accepted s q e in
      let b : Accepted t q = accepted t q f in
      let v : Places = a.places in
      let w : Places = b.places in
      let j : Good s v = places_good s v a.read_so in
      let k : Good t w = places_good t w b.read_so in
      let z : routine_at s v ≡ routine_at t w = sym a.routine ∙ b.routine in
      same_bytes s t v w (in_turn_lem s v a.read_so) (in_turn_lem t w b.read_so) h
      (same_map (ok_block s) (ok_block t) (block_at s) (block_at t) (record_at s) (record_at t) block_same v.blocks w.blocks j.blocks k.blocks (ap (λ (x : Routine). x.blocks) z))
      (same_map (ok_code s) (ok_code t) (instr_at s) (instr_at t) (record_at s) (record_at t) instr_same v.code w.code j.code k.code (ap (λ (x : Routine). x.code) z))

-- ---- number 33

-- where a record starts: at 0, and where the one before it ends
pub data Starts (s : List ℕ) : ℕ → Type 0 where
  foremost : Starts s 0
  next : {at : ℕ} → Starts s at → Starts s (next_at s at)

-- "a block record found after an instruction, at that record's start"
pub record Late (s : List ℕ) (p : ℕ) : Type 0 where
  pub starts : Starts s p
  pub block : kind_at s p ≡ 2
  pub place : ℕ
  pub before : place < p
  pub found : Starts s place
  pub instruction : ok_code s place ≡ true

-- ---- what stays of document 01's reading

-- document 01: "Block and instruction records may stand mixed."
unfoldable pub mixed_from : ℕ → List ℕ → ℕ → Places → Listed Places
unfolding fault_at
mixed_from zero s at w = read w
mixed_from (suc f) s at w =
    cond (leb (length s) at) (read w)
    (if_fine (fault_at s (locals_of (body_at s 0)) false at) at
    (if_not (full_for (kind_at s at) w) 6 at
    (mixed_from f s (next_at s at) (put_at (kind_at s at) at w))))

-- document 01's reading: "6 for length; 1 if empty; each record"
unfoldable pub read_before : List ℕ → Listed Routine
unfolding mixed_from
read_before s =
    after_records s
    (if_not (ltb max_bytes (length s)) 6 max_bytes
    (if_not (empty s) 1 0
    (mixed_from (length s) s 0 no_places)))

-- two readings are the same, or the first is refused with 33
abbrev pub Or33 : {A : Type 0} → Listed A → Listed A → Type 0
Or33 x y = (x ≡ y) ⊎ ((p : ℕ) × (x ≡ refused 33 p))

or_fine : {A : Type 0} (x y : Option ℕ) (at : ℕ) (j k : Listed A) → (x ≡ y) ⊎ (x ≡ some 33) → Or33 j k → Or33 (if_fine x at j) (if_fine y at k)
or_fine x y at j k (inr e) h = inr (at, ap (λ (z : Option ℕ). if_fine z at j) e)
or_fine none y at j k (inl e) h = subst (λ (z : Option ℕ). Or33 j (if_fine z at k)) e h
or_fine (some n) y at j k (inl e) h = inl (ap (λ (z : Option ℕ). if_fine z at k) e)

or_not : {A : Type 0} (b : Bool) (n at : ℕ) (j k : Listed A) → Or33 j k → Or33 (if_not b n at j) (if_not b n at k)
or_not true n at j k h = inl refl
or_not false n at j k h = h

or_from : (f : ℕ) (s : List ℕ) (at : ℕ) (w : Places) → Or33 (places_from f s at w) (mixed_from f s at w)
unfolding places_from mixed_from
or_from zero s at w = inl refl
or_from (suc f) s at w =
    let l : ℕ = locals_of (body_at s 0) in
    decide (leb (length s) at)
    (λ d. rw d (inl refl))
    (λ d. rw d
    (or_fine (fault_at s l (some_code w) at) (fault_at s l false at) at _ _ (only_33 s l at (some_code w))
    (or_not (full_for (kind_at s at) w) 6 at _ _ (or_from f s (next_at s at) (put_at (kind_at s at) at w)))))

or_after : (s : List ℕ) (j k : Listed Places) → Or33 j k → Or33 (after_records s j) (after_records s k)
or_after s j k (inl e) = inl (ap (after_records s) e)
or_after s j k (inr h) = inr (h.0, ap (after_records s) h.1)

pub bytes_stay : (x : ℕ) (xs : List ℕ) → Or33 (read_listing (x ∷ xs)) (read_before (x ∷ xs))
unfolding read_places read_before read_listing
bytes_stay x xs =
    let s : List ℕ = x ∷ xs in
    or_after s _ _ (or_not (ltb max_bytes (length s)) 6 max_bytes _ _ (or_from (length s) s 0 no_places))
