-- Laws of the reading of listings: a record after another, and what holds of a listing that was read.
use Prim.Native.Nat.{ℕ, zero, suc, ◌+◌, ◌≤◌, ◌<◌, ◌*◌, ◌-◌}
use native.Mathlib.Omega.{arith}
use Rattle.std.proofs.Math.Bool.{true, false, Bool, not}
use Rattle.std.specs.Prelude.{cond, ◌&&◌, ◌||◌, ◌≢◌, ◌⊎◌, ◌≡◌, ltb, drop, take}
use Rattle.std.proofs.lemmas.Bool.{false≢true}
use Rattle.std.specs.Bool.{beq}
use Rattle.std.proofs.Common.{true≢false, ap, sym, ◌∙◌, not-suc-le-zero, add-suc, suc-add, le_of_suc-le-suc, length-append, length-take, length-drop, drop-drop, get_or-take}
use mathlib.Core.List.{List, ◌∷◌, [], ◌++◌, map}
use Rattle.std.proofs.Math.Logic.{inl, inr}
use Rattle.std.proofs.Math.Option.{Option, none, some, none-ne-some}
use Rattle.std.proofs.Math.Path.{refl, subst}
use borrow.Author.Tests.{le-leb, lt-leb, ltb-false, ltb-true, not-false}
use Rattle.std.proofs.Math.Dec.{leb, eqb}
use Rattle.std.proofs.Math.ListN.{length, get_or}
use Rattle.std.proofs.lemmas.List.{length-map}
use Rattle.std.proofs.Math.Seq.{get_or-drop}
use Rattle.meaning.specs.Lists.{all, any, empty, up_to}
use Rattle.meaning.specs.Steps.{Pop, Instr, is_ret}
use Rattle.meaning.specs.Blocks.{instrs_of, Routine}
use Rattle.meaning.specs.Loop.{Block, no_block}
use Rattle.meaning.specs.Listing.{kind_at, body_at, next_at, locals_of, Listed, read, fault_at, Places, full_for, put_at, if_fine, if_not, places_from, unless, whole_at, kind_in_use, fields_of, fits_body, within_limits, Field, field_width, field_right, field_within, byte, word, words, tokens, frame, fields_in, is_token, nothing, refused, no_places, some_code, Row, instructions, call_of, local_index, token_as, instr_in, instr_of, instr_at, first_of, overlap, repeats, faulty_successor, faulty_block, ends_block, stray_ret, routine_at, read_places, after_records, read_listing}
use Rattle.meaning.proofs.Laws.Base.{and_l, and_r, leb_le, and_i, all_append, leb_gt, eqb_eq, decide, eqb_ne, not_true}
use Rattle.meaning.specs.Laws.Promised.{within_frame, rets_placed, promised}

-- ---- the records in turn

-- more budget than bytes changes nothing
pub places_budget : (f g : ℕ) (s : List ℕ) (at : ℕ) (w : Places) → length s ≤ at + f → length s ≤ at + g → places_from f s at w ≡ places_from g s at w
unfolding places_from
places_budget zero zero s at w h k = refl
places_budget zero (suc g) s at w h k = let e : leb (length s) at ≡ true = (let d : length s ≤ at = omega arith in le-leb _ _ d) in rw e
places_budget (suc f) zero s at w h k = let e : leb (length s) at ≡ true = (let d : length s ≤ at = omega arith in le-leb _ _ d) in rw e
places_budget (suc f) (suc g) s at w h k =
    ap (λ (x : Listed Places). cond (leb (length s) at) (read w) (if_fine (fault_at s (locals_of (body_at s 0)) (some_code w) at) at (if_not (full_for (kind_at s at) w) 6 at x)))
    (places_budget f g s (next_at s at) (put_at (kind_at s at) at w) (omega arith) (omega arith))

module _ (s : List ℕ) (at : ℕ) (w : Places) where
  pub places_end : length s ≤ at → places_from (length s) s at w ≡ read w
  unfolding places_from
  places_end h = places_budget (length s) zero s at w (omega arith) (omega arith)

  step : (n : ℕ) → length s ≡ n → at < n
      → places_from n s at w
      ≡ if_fine (fault_at s (locals_of (body_at s 0)) (some_code w) at) at (if_not (full_for (kind_at s at) w) 6 at (places_from (length s) s (next_at s at) (put_at (kind_at s at) at w)))
  unfolding places_from
  step zero e h = absurd (not-suc-le-zero h)
  step (suc n) e h =
      let d : at < length s = omega arith in
      let q : leb (length s) at ≡ false = lt-leb _ _ d in
      rw q (ap (λ (x : Listed Places). if_fine (fault_at s (locals_of (body_at s 0)) (some_code w) at) at (if_not (full_for (kind_at s at) w) 6 at x))
      (places_budget n (length s) s (next_at s at) (put_at (kind_at s at) at w) (omega arith) (omega arith)))

  pub places_step : at < length s
      → places_from (length s) s at w
      ≡ if_fine (fault_at s (locals_of (body_at s 0)) (some_code w) at) at (if_not (full_for (kind_at s at) w) 6 at (places_from (length s) s (next_at s at) (put_at (kind_at s at) at w)))
  places_step h = step (length s) refl h

-- ---- a record that passed its tests

unless_none : (b : Bool) (n : ℕ) (k : Option ℕ) → unless b n k ≡ none → (b ≡ true) × (k ≡ none)
unless_none true n k e = (refl, e)
unless_none false n k e = let z : ◌≡◌ {A = ℕ} 0 1 = cc in absurd (omega arith)

beq_true : (a b : Bool) → beq a b ≡ true → a ≡ b
beq_true true true e = refl
beq_true true false e = absurd (false≢true e)
beq_true false true e = absurd (false≢true e)
beq_true false false e = refl

pub record Passed (s : List ℕ) (l at : ℕ) : Type 0 where
  pub whole : whole_at s at ≡ true
  pub kind : kind_in_use (kind_at s at) ≡ true
  pub first : eqb (kind_at s at) 1 ≡ eqb at 0
  pub fits : fits_body l (fields_of (kind_at s at)) (body_at s at) ≡ true
  pub within : within_limits (fields_of (kind_at s at)) (body_at s at) ≡ true

module _ (s : List ℕ) (l : ℕ) (at : ℕ) where
  -- an instruction before a record can only add 33 to its faults
  pub only_33 : (coded : Bool) → (fault_at s l coded at ≡ fault_at s l false at) ⊎ (fault_at s l coded at ≡ some 33)
  unfolding fault_at
  only_33 coded =
      decide (coded && eqb (kind_at s at) 2)
      (λ e. rw e (go (whole_at s at) (kind_in_use (kind_at s at)) (beq (eqb (kind_at s at) 1) (eqb at 0)) _))
      (λ e. inl (rw e))
    where
      go : (a b c : Bool) (k : Option ℕ) → (unless a 1 (unless b 2 (unless c 4 (some 33))) ≡ unless a 1 (unless b 2 (unless c 4 k)))
          ⊎ (unless a 1 (unless b 2 (unless c 4 (some 33))) ≡ some 33)
      go true true true k = inr refl
      go true true false k = inl refl
      go true false c k = inl refl
      go false b c k = inl refl

module _ (s : List ℕ) (l : ℕ) (coded : Bool) (at : ℕ) (e : fault_at s l coded at ≡ none) where
  unfolded : Passed s l at × (not (coded && eqb (kind_at s at) 2) ≡ true)
  unfolding fault_at
  unfolded =
      let a = unless_none (whole_at s at) 1 _ e in
      let b = unless_none (kind_in_use (kind_at s at)) 2 _ a.1 in
      let c = unless_none (beq (eqb (kind_at s at) 1) (eqb at 0)) 4 _ b.1 in
      let o = unless_none (not (coded && eqb (kind_at s at) 2)) 33 _ c.1 in
      let d = unless_none (fits_body l (fields_of (kind_at s at)) (body_at s at)) 3 _ o.1 in
      let g = unless_none (within_limits (fields_of (kind_at s at)) (body_at s at)) 6 _ d.1 in
      (record { whole = a.0; kind = b.0; first = beq_true (eqb (kind_at s at) 1) (eqb at 0) c.0; fits = d.0; within = g.0 }, o.0)

  pub passed : Passed s l at
  passed = unfolded.0

  -- no block after an instruction
  pub in_order_lem : coded ≡ true → kind_at s at ≢ 2
  in_order_lem h k = let n : not (coded && eqb (kind_at s at) 2) ≡ true = unfolded.1 in true≢false (sym (rw (h, k) at n))

  -- what passes after an instruction passes before one
  pub passed_first : fault_at s l false at ≡ none
  passed_first = go (only_33 s l at coded)
    where
      go : (fault_at s l coded at ≡ fault_at s l false at) ⊎ (fault_at s l coded at ≡ some 33) → fault_at s l false at ≡ none
      go (inl d) = sym d ∙ e
      go (inr d) = absurd (none-ne-some 33 (sym e ∙ d))

-- a field after another
pub fits_cons : (l : ℕ) (f : Field) (fs : List Field) (b : List ℕ) → fits_body l (f ∷ fs) b ≡ true
    → (field_width f b ≤ length b) × (field_right l f b ≡ true) × (fits_body l fs (drop (field_width f b) b) ≡ true)
unfolding fits_body
fits_cons l f fs b e =
    let x : Bool = leb (field_width f b) (length b) in
    let y : Bool = field_right l f b in
    let z : Bool = fits_body l fs (drop (field_width f b) b) in
    (leb_le (and_l x (y && z) e), and_l y z (and_r x (y && z) e), and_r y z (and_r x (y && z) e))

pub within_cons : (f : Field) (fs : List Field) (b : List ℕ) → within_limits (f ∷ fs) b ≡ true
    → (field_within f b ≡ true) × (within_limits fs (drop (field_width f b) b) ≡ true)
unfolding within_limits
within_cons f fs b e =
    (and_l (field_within f b) (within_limits fs (drop (field_width f b) b)) e, and_r (field_within f b) (within_limits fs (drop (field_width f b) b)) e)

module _ (s : List ℕ) (l at : ℕ) (p : Passed s l at) where
  -- a block has at most two successors
  pub two_successors : kind_at s at ≡ 2 → get_or (body_at s at) 4 0 ≤ 2
  unfolding fields_of fields_in
  two_successors k =
      let b : List ℕ = body_at s at in
      let f : fits_body l (word ∷ word ∷ words 2 2 ∷ []) b ≡ true = (rw k at p.fits) in
      let g = (fits_cons l word (word ∷ words 2 2 ∷ []) b f).2 in
      let h = (fits_cons l word (words 2 2 ∷ []) (drop 2 b) g).2 in
      let r : leb (get_or (drop 2 (drop 2 b)) 0 0) 2 ≡ true = (fits_cons l (words 2 2) [] (drop 2 (drop 2 b)) h).1 in
      leb_le (rw (drop-drop 2 2 b, get_or-drop 4 b 0 0) at r)

  -- a call is within the limits
  pub call_limits : kind_at s at ≡ 22 → (get_or (body_at s at) 1 0 ≤ 16) × (get_or (body_at s at) (2 + 2 * get_or (body_at s at) 1 0) 0 ≤ 8)
  unfolding fields_of fields_in
  call_limits k =
      let b : List ℕ = body_at s at in
      let n : ℕ = get_or b 1 0 in
      let f : within_limits (byte 255 16 ∷ words 255 16 ∷ tokens 8 ∷ []) b ≡ true = (rw k at p.within) in
      let g = (within_cons (byte 255 16) (words 255 16 ∷ tokens 8 ∷ []) b f).1 in
      let x : leb (get_or (drop 1 b) 0 0) 16 ≡ true = (within_cons (words 255 16) (tokens 8 ∷ []) (drop 1 b) g).0 in
      let h = (within_cons (words 255 16) (tokens 8 ∷ []) (drop 1 b) g).1 in
      let y : leb (get_or (drop (1 + 2 * get_or (drop 1 b) 0 0) (drop 1 b)) 0 0) 8 ≡ true = (within_cons (tokens 8) [] (drop (1 + 2 * get_or (drop 1 b) 0 0) (drop 1 b)) h).0 in
      let e : get_or (drop 1 b) 0 0 ≡ n = get_or-drop 1 b 0 0 in
      let y' : leb (get_or b (1 + (1 + 2 * get_or (drop 1 b) 0 0) + 0) 0) 8 ≡ true = (rw (drop-drop, get_or-drop) at y) in
      let z : 1 + (1 + 2 * get_or (drop 1 b) 0 0) + 0 ≡ 2 + 2 * n = omega (arith, e) in
      (leb_le (rw e at x), leb_le (rw z at y'))

  -- the first record: the parameters are locals, the locals within the limit
  pub frame_limits : kind_at s at ≡ 1 → (get_or (body_at s at) 0 0 ≤ locals_of (body_at s at)) × (locals_of (body_at s at) ≤ 16)
  unfolding fields_of fields_in
  frame_limits k =
      let b : List ℕ = body_at s at in
      let f : fits_body l (frame ∷ tokens 8 ∷ []) b ≡ true = (rw k at p.fits) in
      let g : within_limits (frame ∷ tokens 8 ∷ []) b ≡ true = (rw k at p.within) in
      let x = (fits_cons l frame (tokens 8 ∷ []) b f).1 in (
        leb_le (and_l (leb (get_or b 0 0) (get_or b 1 0)) (all is_token (take (get_or b 0 0) (drop 2 b))) x),
        leb_le (within_cons frame (tokens 8 ∷ []) b g).0,
      )

-- ---- what holds of the places that were read

abbrev pub fine : Option ℕ → Bool
fine none = true
fine (some n) = false

fine_none : (x : Option ℕ) → fine x ≡ true → x ≡ none
fine_none none e = refl
fine_none (some n) e = absurd (false≢true e)

abbrev pub ok_block : List ℕ → ℕ → Bool
ok_block s p = fine (fault_at s (locals_of (body_at s 0)) false p) && eqb (kind_at s p) 2

abbrev pub ok_code : List ℕ → ℕ → Bool
ok_code s p = fine (fault_at s (locals_of (body_at s 0)) false p) && (not (eqb (kind_at s p) 1) && not (eqb (kind_at s p) 2))

module _ (s : List ℕ) (p : ℕ) where
  abbrev faultless : Bool
  faultless = fine (fault_at s (locals_of (body_at s 0)) false p)

  ok_passed : faultless ≡ true → Passed s (locals_of (body_at s 0)) p
  ok_passed e = passed s (locals_of (body_at s 0)) false p (fine_none (fault_at s (locals_of (body_at s 0)) false p) e)

  pub ok_block_lem : ok_block s p ≡ true → Passed s (locals_of (body_at s 0)) p × (kind_at s p ≡ 2)
  ok_block_lem e = (ok_passed (and_l faultless (eqb (kind_at s p) 2) e), eqb_eq (and_r faultless (eqb (kind_at s p) 2) e))

  pub ok_code_lem : ok_code s p ≡ true → Passed s (locals_of (body_at s 0)) p × (kind_at s p ≢ 1) × (kind_at s p ≢ 2)
  ok_code_lem e =
      let a : Bool = not (eqb (kind_at s p) 1) in
      let b : Bool = not (eqb (kind_at s p) 2) in
      let c : (a && b) ≡ true = and_r faultless (a && b) e in
      (ok_passed (and_l faultless (a && b) e), eqb_ne (not_true (and_l a b c)), eqb_ne (not_true (and_r a b c)))

pub record Good (s : List ℕ) (w : Places) : Type 0 where
  pub blocks : all (ok_block s) w.blocks ≡ true
  pub code : all (ok_code s) w.code ≡ true
  pub few_blocks : length w.blocks ≤ 16
  pub few : length w.code ≤ 512

refused≢read : {A : Type 0} {n at : ℕ} {a : A} → refused n at ≡ read a → ⊥
refused≢read e = let z : ◌≡◌ {A = ℕ} 0 1 = cc in omega arith

nothing≢read : {A : Type 0} {a : A} → nothing ≡ read a → ⊥
nothing≢read e = let z : ◌≡◌ {A = ℕ} 0 1 = cc in omega arith

pub fine_read : {A : Type 0} (x : Option ℕ) (at : ℕ) (k : Listed A) (a : A) → if_fine x at k ≡ read a → (x ≡ none) × (k ≡ read a)
fine_read none at k a e = (refl, e)
fine_read (some n) at k a e = absurd (refused≢read e)

pub not_read : {A : Type 0} (b : Bool) (n at : ℕ) (k : Listed A) (a : A) → if_not b n at k ≡ read a → (b ≡ false) × (k ≡ read a)
not_read true n at k a e = absurd (refused≢read e)
not_read false n at k a e = (refl, e)

pub read_inj : {A : Type 0} {a b : A} → read a ≡ read b → a ≡ b
read_inj e = cc

-- one induction over the records: P holds of the places so far wherever the reading comes, so R holds of how it ends
pub record Turns (s : List ℕ) (P : ℕ → Places → Type 0) (R : Listed Places → Type 0) : Type 0 where
  pub ends : (at : ℕ) (w : Places) → P at w → length s ≤ at → R (read w)
  pub faulty : (at : ℕ) (w : Places) → P at w → at < length s → (n : ℕ) → fault_at s (locals_of (body_at s 0)) (some_code w) at ≡ some n → R (refused n at)
  pub full : (at : ℕ) (w : Places) → P at w → at < length s → R (refused 6 at)
  pub goes : (at : ℕ) (w : Places) → P at w → at < length s → fault_at s (locals_of (body_at s 0)) (some_code w) at ≡ none → full_for (kind_at s at) w ≡ false
      → P (next_at s at) (put_at (kind_at s at) at w)

module _ (s : List ℕ) (P : ℕ → Places → Type 0) where
  module _ (R : Listed Places → Type 0) (t : Turns s P R) where
    tested : (x : Option ℕ) (b : Bool) (at : ℕ) (k : Listed Places) → ((n : ℕ) → x ≡ some n → R (refused n at)) → R (refused 6 at)
        → (x ≡ none → b ≡ false → R k) → R (if_fine x at (if_not b 6 at k))
    tested none true at k f g h = g
    tested none false at k f g h = h refl refl
    tested (some n) b at k f g h = f n refl

    pub by_records : (f at : ℕ) (w : Places) → length s ≤ at + f → P at w → R (places_from f s at w)
    unfolding places_from
    by_records zero at w h p = t.ends at w p (omega arith)
    by_records (suc f) at w h p =
        decide (leb (length s) at)
        (λ e. rw e (t.ends at w p (leb_le e)))
        (λ e. let k : at < length s = leb_gt e in
        rw e
        (tested (fault_at s (locals_of (body_at s 0)) (some_code w) at) (full_for (kind_at s at) w) at _ (t.faulty at w p k) (t.full at w p k)
        (λ x y. by_records f (next_at s at) (put_at (kind_at s at) at w) (omega arith) (t.goes at w p k x y))))

  pub read_keeps : ((at : ℕ) (w : Places) → P at w → fault_at s (locals_of (body_at s 0)) (some_code w) at ≡ none → full_for (kind_at s at) w ≡ false
      → P (next_at s at) (put_at (kind_at s at) at w)) → (at : ℕ) (w v : Places) → P at w → places_from (length s) s at w ≡ read v → (e : ℕ) × (length s ≤ e) × P e v
  read_keeps goes at w v p =
      by_records (λ (x : Listed Places). x ≡ read v → (e : ℕ) × (length s ≤ e) × P e v)
      (record {
        ends = λ i u q h e. (i, h, subst (P i) (read_inj e) q);
        faulty = λ i u q h n f e. absurd (refused≢read e);
        full = λ i u q h e. absurd (refused≢read e);
        goes = λ i u q h x y. goes i u q x y;
      })
      (length s) at w (omega arith) p

put_good : (s : List ℕ) (at : ℕ) (w : Places) → fault_at s (locals_of (body_at s 0)) false at ≡ none → (a b : Bool) → eqb (kind_at s at) 1 ≡ a → eqb (kind_at s at) 2 ≡ b
    → cond a false (cond b (leb 16 (length w.blocks)) (leb 512 (length w.code))) ≡ false → Good s w
    → Good s (cond a w (cond b (record { blocks = w.blocks ++ (at ∷ []); code = w.code }) (record { blocks = w.blocks; code = w.code ++ (at ∷ []) })))
put_good s at w e true b p q h g = g
put_good s at w e false true p q h g = record {
  blocks = all_append (ok_block s) w.blocks (at ∷ []) g.blocks (and_i (and_i (ap fine e) q) refl);
  code = g.code;
  few_blocks = let l : length w.blocks < 16 = leb_gt h in simp length-append (omega arith);
  few = g.few;
}
put_good s at w e false false p q h g = record {
  blocks = g.blocks;
  code = all_append (ok_code s) w.code (at ∷ []) g.code (and_i (and_i (ap fine e) (and_i (ap not p) (ap not q))) refl);
  few_blocks = g.few_blocks;
  few = let l : length w.code < 512 = leb_gt h in simp length-append (omega arith);
}

pub places_good : (s : List ℕ) (v : Places) → places_from (length s) s 0 no_places ≡ read v → Good s v
places_good s v e =
    (read_keeps s (λ at w. Good s w)
    (λ at w g x y. put_good s at w (passed_first s (locals_of (body_at s 0)) (some_code w) at x) (eqb (kind_at s at) 1) (eqb (kind_at s at) 2) refl refl y g)
    0 no_places v (record { blocks = refl; code = refl; few_blocks = omega arith; few = omega arith }) e).2

-- the first record passed its tests, and is of kind 1
pub first_passed : (s : List ℕ) (v : Places) → 0 < length s → places_from (length s) s 0 no_places ≡ read v → Passed s (locals_of (body_at s 0)) 0
first_passed s v h e = passed s (locals_of (body_at s 0)) false 0 (fine_read (fault_at s (locals_of (body_at s 0)) false 0) 0 _ v (sym (places_step s 0 no_places h) ∙ e)).0

pub first_kind : (s : List ℕ) (l : ℕ) → Passed s l 0 → kind_at s 0 ≡ 1
first_kind s l p = eqb_eq p.first

-- ---- a routine that was read meets what its run asks

pub up_to_length : {A : Type 0} (n : ℕ) (f : ℕ → A) → length (up_to n f) ≡ n
unfolding up_to
up_to_length zero f = refl
up_to_length (suc n) f = ap suc (up_to_length n (λ i. f (suc i)))

-- what holds of Pop, and of each row that is the kind's, holds of the kind's instruction
abbrev pub Rows : (Instr → Type 0) → ℕ → List Row → Type 0
Rows P k [] = Unit {0}
Rows P k (r ∷ rs) = (k ≡ r.kind → P r.instr) × Rows P k rs

pub by_row : (P : Instr → Type 0) (k : ℕ) (rs : List Row) → P Pop → Rows P k rs → P (instr_in k rs)
unfolding instr_in
by_row P k [] h w = h
by_row P k (r ∷ rs) h w =
    decide (eqb k r.kind)
    (λ e. rw e (w.0 (eqb_eq e)))
    (λ e. rw e (by_row P k rs h w.1))

module _ (s : List ℕ) (l at : ℕ) (p : Passed s l at) where
  store_local : kind_at s at ≡ 13 → ltb (get_or (body_at s at) 0 0) l ≡ true
  unfolding fields_of fields_in
  store_local k =
      let f : fits_body l (local_index ∷ []) (body_at s at) ≡ true = (rw k at p.fits) in
      (fits_cons l local_index [] (body_at s at) f).1

  call_returns : kind_at s at ≡ 22 → within_frame l (call_of (body_at s at)) ≡ true
  unfolding call_of
  call_returns k =
      let n : ℕ = get_or (body_at s at) (2 + 2 * get_or (body_at s at) 1 0) 0 in
      rw (up_to_length n (λ j. token_as (get_or (body_at s at) (3 + 2 * get_or (body_at s at) 1 0 + j) 0))) (le-leb _ _ (call_limits s l at p k).1)

  -- a store's local is one, a call returns at most eight; no other kind has anything to meet
  code_fits : within_frame l (instr_at s at) ≡ true
  unfolding instr_at instr_of
  code_fits =
      by_row (λ i. within_frame l i ≡ true) (kind_at s at) (instructions (body_at s at)) refl
      (λ _. refl, (λ _. refl, (λ _. refl, (λ k. store_local k, (λ _. refl, (λ _. refl, (λ _. refl, (λ _. refl, (λ _. refl, (λ _. refl, (λ _. refl, (λ _. refl, (λ k. call_returns k, (λ _. refl, (λ _. refl, (λ _. refl, (λ _. refl, (λ _. refl, tt))))))))))))))))))

all_map : {A : Type 0} (p : ℕ → Bool) (f : A → Bool) (g : ℕ → A) → ((x : ℕ) → p x ≡ true → f (g x) ≡ true) → (xs : List ℕ) → all p xs ≡ true → all f (map g xs) ≡ true
all_map p f g h [] e = refl
all_map p f g h (x ∷ xs) e = and_i (h x (and_l (p x) (all p xs) e)) (all_map p f g h xs (and_r (p x) (all p xs) e))

ok_fits : (s : List ℕ) (x : ℕ) → ok_code s x ≡ true → within_frame (locals_of (body_at s 0)) (instr_at s x) ≡ true
ok_fits s x e = code_fits s (locals_of (body_at s 0)) x (ok_code_lem s x e).0

none_go : (p : ℕ → Bool) (i n k : ℕ) → i ≤ k → (x : Bool) → p i ≡ x → (r : ℕ) → (ltb r (i + suc n) ≡ false → suc i ≤ k → p k ≡ false)
    → ltb (cond x i r) (i + suc n) ≡ false → p k ≡ false
none_go p i n k a true h r f q = let z : i + suc n ≤ i = ltb-false _ _ q in absurd (omega arith)
none_go p i n k a false h r f q =
    decide (eqb k i)
    (λ e. subst (λ (j : ℕ). p j ≡ false) (sym (eqb_eq e)) h)
    (λ e. let d : k ≢ i = eqb_ne e in f q (omega arith))

-- no number passes the test
first_none : (p : ℕ → Bool) (i n : ℕ) → ltb (first_of p i n) (i + n) ≡ false → (k : ℕ) → i ≤ k → k < i + n → p k ≡ false
unfolding first_of
first_none p i zero e k a b = absurd (omega arith)
first_none p i (suc n) e k a b =
    none_go p i n k a (p i) refl (first_of p (suc i) n)
    (λ q h. first_none p (suc i) n (subst (λ (m : ℕ). ltb (first_of p (suc i) n) m ≡ false) (add-suc i n ∙ sym (suc-add i n)) q) k h (omega arith)) e

pub first_none_below : (p : ℕ → Bool) (n : ℕ) → ltb (first_of p 0 n) n ≡ false → (k : ℕ) → k < n → p k ≡ false
first_none_below p n e k h =
    let z : 0 + n ≡ n = omega arith in
    first_none p 0 n (subst (λ (m : ℕ). ltb (first_of p 0 n) m ≡ false) (sym z) e) k (omega arith) (omega arith)

index_go : {A : Type 0} (p : A → Bool) (d x : A) (xs : List A) (b : Bool) → p x ≡ b → (any p xs ≡ true → (j : ℕ) × (j < length xs) × (p (get_or xs j d) ≡ true))
    → (b || any p xs) ≡ true → (j : ℕ) × (j < length (x ∷ xs)) × (p (get_or (x ∷ xs) j d) ≡ true)
index_go p d x xs true h f q = (0, omega arith, h)
index_go p d x xs false h f q = let w = f q in (suc w.0, omega (arith, w.1), w.2)

any_index : {A : Type 0} (p : A → Bool) (d : A) (xs : List A) → any p xs ≡ true → (j : ℕ) × (j < length xs) × (p (get_or xs j d) ≡ true)
any_index p d [] e = absurd (false≢true e)
any_index p d (x ∷ xs) e = index_go p d x xs (p x) refl (λ q. any_index p d xs q) e

or_none_l : (a b : Bool) → (a || b) ≡ false → a ≡ false
or_none_l true b e = e
or_none_l false b e = refl

or_none_r : (a b : Bool) → (a || b) ≡ false → b ≡ false
or_none_r true b e = absurd (true≢false e)
or_none_r false b e = e

any_none : {A : Type 0} (p : A → Bool) (d : A) (xs : List A) → any p xs ≡ false → (j : ℕ) → j < length xs → p (get_or xs j d) ≡ false
any_none p d [] e j h = absurd (not-suc-le-zero h)
any_none p d (x ∷ xs) e zero h = or_none_l (p x) (any p xs) e
any_none p d (x ∷ xs) e (suc j) h = any_none p d xs (or_none_r (p x) (any p xs) e) j (le_of_suc-le-suc h)

-- ---- a block's instructions

-- what the rules of number 5 say of the block at position i
pub record Ruled (n : ℕ) (bs : List Block) (i : ℕ) : Type 0 where
  pub forth : (get_or bs i no_block).entry ≤ (get_or bs i no_block).exit
  pub inside : (get_or bs i no_block).exit < n
  pub apart : any (overlap (get_or bs i no_block)) (take i bs) ≡ false

pub ruled_block : (n : ℕ) (bs : List Block) (i : ℕ) → faulty_block n bs i ≡ false → Ruled n bs i
unfolding faulty_block
ruled_block n bs i e =
    let b : Block = get_or bs i no_block in
    let x1 : Bool = eqb i 0 && not (eqb b.entry 0) in
    let x2 : Bool = ltb b.exit b.entry in
    let x3 : Bool = leb n b.exit in
    let x4 : Bool = any (overlap b) (take i bs) in
    let x5 : Bool = repeats b.successors || any (faulty_successor bs i b) b.successors in
    let e1 : (x2 || (x3 || (x4 || x5))) ≡ false = or_none_r x1 (x2 || (x3 || (x4 || x5))) e in
    let e2 : (x3 || (x4 || x5)) ≡ false = or_none_r x2 (x3 || (x4 || x5)) e1 in
    record {
      forth = ltb-false _ _ (or_none_l x2 (x3 || (x4 || x5)) e1);
      inside = leb_gt (or_none_l x3 (x4 || x5) e2);
      apart = or_none_l x4 x5 (or_none_r x3 (x4 || x5) e2);
    }

module _ (is : List Instr) (bs : List Block) (blocks : (i : ℕ) → i < length bs → Ruled (length is) bs i)
    (rets : (k : ℕ) → k < length is → stray_ret is bs k ≡ false) where
  abbrev block : ℕ → Block
  block i = get_or bs i no_block

  -- two blocks share no instruction
  apart_2 : (i j : ℕ) → j < length bs → i < j → overlap (block j) (block i) ≡ false
  apart_2 i j h l =
      let m : i < length (take j bs) = simp length-take (omega arith) in
      rw (get_or-take j bs i no_block l) at (any_none (overlap (block j)) no_block (take j bs) (blocks j h).apart i m)

  overlap_no : (b c : Block) → overlap b c ≡ false → b.entry ≤ c.exit → c.entry ≤ b.exit → ⊥
  overlap_no b c e h k = true≢false (sym (and_i (le-leb _ _ h) (le-leb _ _ k)) ∙ e)

  -- a Ret of the block at i is its exit, and the block has no successors
  ret_last : (i k : ℕ) → i < length bs → (block i).entry ≤ k → k ≤ (block i).exit → is_ret (get_or is k Pop) ≡ true → (k ≡ (block i).exit) × (empty (block i).successors ≡ true)
  unfolding stray_ret
  ret_last i k h a b r =
      let w : k < length is = omega (arith, (blocks i h).inside) in
      let e : not (ends_block bs k) ≡ false = (rw r at (rets k w)) in
      let f : ends_block bs k ≡ true = not-false _ e in
      let p : Block → Bool = λ x. eqb k x.exit && empty x.successors in
      let g = any_index p no_block bs f in
      let j : ℕ = g.0 in
      let jx : k ≡ (block j).exit = eqb_eq (and_l (eqb k (block j).exit) (empty (block j).successors) g.2) in
      let je : empty (block j).successors ≡ true = and_r (eqb k (block j).exit) (empty (block j).successors) g.2 in
      let jf : (block j).entry ≤ (block j).exit = (blocks j g.1).forth in
      decide (eqb i j)
      (λ q. let m : i ≡ j = eqb_eq q in subst (λ (x : ℕ). (k ≡ (block x).exit) × (empty (block x).successors ≡ true)) (sym m) (jx, je))
      (λ q. let d : i ≢ j = eqb_ne q in
      decide (ltb i j)
      (λ l. absurd (overlap_no (block j) (block i) (apart_2 i j g.1 (ltb-true _ _ l)) (omega arith) (omega arith)))
      (λ l. let m : j ≤ i = ltb-false _ _ l in
      let n : j < i = omega arith in
      absurd (overlap_no (block i) (block j) (apart_2 j i h n) (omega arith) (omega arith))))

  placed_of : (es : List ℕ) (js : List Instr) → ((j : ℕ) → j < length js → is_ret (get_or js j Pop) ≡ true → (suc j ≡ length js) × (empty es ≡ true)) → rets_placed es js ≡ true
  unfolding rets_placed
  placed_of es [] f = refl
  placed_of es (x ∷ js) f =
      and_i (head_ok (is_ret x) refl)
      (placed_of es js (λ j h r. let w = f (suc j) (omega arith) r in (omega (arith, w.0), w.1)))
    where
      no_rest : (ys : List Instr) → 1 ≡ suc (length ys) → empty ys ≡ true
      no_rest [] e = refl
      no_rest (y ∷ ys) e = absurd (omega arith)

      head_ok : (b : Bool) → is_ret x ≡ b → (not b || (empty js && empty es)) ≡ true
      head_ok true e = let w = f 0 (omega arith) e in and_i (no_rest js w.0) w.1
      head_ok false e = refl

  block_placed : (i : ℕ) → i < length bs → rets_placed (block i).successors (instrs_of (block i) is) ≡ true
  unfolding instrs_of
  block_placed i h =
      let b : Block = block i in
      let f : b.entry ≤ b.exit = (blocks i h).forth in
      let g : b.exit < length is = (blocks i h).inside in
      let c : length (take (suc (b.exit - b.entry)) (drop b.entry is)) ≡ suc (b.exit - b.entry) = simp (length-take, length-drop) (omega arith) in
      placed_of b.successors (take (suc (b.exit - b.entry)) (drop b.entry is)) (λ j l r.
      let m : j < suc (b.exit - b.entry) = omega arith in
      let r' : is_ret (get_or is (b.entry + j) Pop) ≡ true = (rw (get_or-take (suc (b.exit - b.entry)) (drop b.entry is) j Pop m, get_or-drop b.entry is j Pop) at r) in
      let w = ret_last i (b.entry + j) h (omega arith) (omega arith) r' in
      (omega (arith, w.0), w.1))

all_index : {A : Type 0} (p : A → Bool) (d : A) (xs : List A) → ((j : ℕ) → j < length xs → p (get_or xs j d) ≡ true) → all p xs ≡ true
all_index p d [] f = refl
all_index p d (x ∷ xs) f = and_i (f 0 (omega arith)) (all_index p d xs (λ j h. f (suc j) (omega arith)))

-- ---- a listing that was read

pub record Accepted (s : List ℕ) (q : Routine) : Type 0 where
  pub places : Places
  pub read_so : places_from (length s) s 0 no_places ≡ read places
  pub routine : q ≡ routine_at s places
  pub some : 0 < length s
  pub some_block : 0 < length (routine_at s places).blocks
  pub fine_blocks : ltb (first_of (faulty_block (length (routine_at s places).code) (routine_at s places).blocks) 0 (length (routine_at s places).blocks)) (length (routine_at s places).blocks) ≡ false
  pub fine_rets : ltb (first_of (stray_ret (routine_at s places).code (routine_at s places).blocks) 0 (length (routine_at s places).code)) (length (routine_at s places).code) ≡ false

not_empty : {A : Type 0} (xs : List A) → empty xs ≡ false → 0 < length xs
not_empty [] e = absurd (true≢false e)
not_empty (x ∷ xs) e = omega arith

-- the places were read: each record passed
pub read_places_lem : (s : List ℕ) (v : Places) → read_places s ≡ read v → places_from (length s) s 0 no_places ≡ read v
unfolding read_places
read_places_lem s v e = (not_read (ltb 65536 (length s)) 6 65536 (places_from (length s) s 0 no_places) v e).1

-- with and without a byte
pub no_bytes : (s : List ℕ) → length s ≡ 0 → read_listing s ≡ nothing
unfolding read_listing
no_bytes [] h = refl
no_bytes (x ∷ xs) h = absurd (omega arith)

pub some_bytes : (s : List ℕ) → (length s ≡ 0 → ⊥) → read_listing s ≡ after_records s (read_places s)
unfolding read_listing
some_bytes [] h = absurd (h refl)
some_bytes (x ∷ xs) h = refl

pub accepted : (s : List ℕ) (q : Routine) → read_listing s ≡ read q → Accepted s q
accepted [] q e = absurd (nothing≢read (sym (no_bytes [] refl) ∙ e))
accepted (x ∷ xs) q e = go (x ∷ xs) (read_places (x ∷ xs)) (omega arith) refl (sym (some_bytes (x ∷ xs) (λ z. omega arith)) ∙ e)
  where
    go : (s : List ℕ) (x : Listed Places) → 0 < length s → read_places s ≡ x → after_records s x ≡ read q → Accepted s q
    go s nothing z h r = absurd (nothing≢read r)
    go s (refused n at) z h r = absurd (refused≢read r)
    go s (read v) z h r =
        let p : Routine = routine_at s v in
        let c = not_read (empty p.blocks) 5 (length s) _ q r in
        let d = not_read (ltb (first_of (faulty_block (length p.code) p.blocks) 0 (length p.blocks)) (length p.blocks)) 5 _ _ q c.1 in
        let f = not_read (ltb (first_of (stray_ret p.code p.blocks) 0 (length p.code)) (length p.code)) 5 _ _ q d.1 in
        record { places = v; read_so = read_places_lem s v h; routine = sym (read_inj f.1); some = z; some_block = not_empty p.blocks c.0; fine_blocks = d.0; fine_rets = f.0 }

pub accepted_block : (s : List ℕ) (q : Routine) → read_listing s ≡ read q → 0 < length q.blocks
accepted_block s q e = let a : Accepted s q = accepted s q e in subst (λ (r : Routine). 0 < length r.blocks) (sym a.routine) a.some_block

pub accepted_promised : (s : List ℕ) (q : Routine) → read_listing s ≡ read q → promised q ≡ true
unfolding promised
accepted_promised s q e =
    let a : Accepted s q = accepted s q e in
    let v : Places = a.places in
    let p : Routine = routine_at s v in
    let l : ℕ = locals_of (body_at s 0) in
    let g : Good s v = places_good s v a.read_so in
    let w = first_passed s v a.some a.read_so in
    let f = frame_limits s l 0 w (first_kind s l w) in
    let bs : List Block = p.blocks in
    let is : List Instr = p.code in
    let rb : (i : ℕ) → i < length bs → Ruled (length is) bs i = λ i h. ruled_block (length is) bs i (first_none_below (faulty_block (length is) bs) (length bs) a.fine_blocks i h) in
    let rr : (k : ℕ) → k < length is → stray_ret is bs k ≡ false = λ k h. first_none_below (stray_ret is bs) (length is) a.fine_rets k h in
    let few : length is ≤ 512 = rw (length-map v.code (instr_at s)) g.few in
    subst (λ (r : Routine). promised r ≡ true) (sym a.routine)
    (and_i
    (and_i (le-leb _ _ f.1) (le-leb _ _ few))
    (and_i
    (all_map (ok_code s) (within_frame l) (instr_at s) (ok_fits s) v.code g.code)
    (all_index (λ b. rets_placed b.successors (instrs_of b is)) no_block bs (λ j h. block_placed is bs rb rr j h))))
