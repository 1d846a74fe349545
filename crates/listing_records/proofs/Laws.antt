-- Laws of shapes, of the tests of a record, and of the records in turn.
-- Assumes nothing.
use mathlib.Core.Path.{◌≡◌, refl, sym, ap, ◌∙◌}
use mathlib.Core.Bool.{Bool, true, false, not, ◌&&◌, ◌||◌, cond, and_assoc, and-true, beq}
use mathlib.Core.List.{List, [], ◌∷◌}
use mathlib.Core.Option.{Option, none, some}
use Prim.Native.Nat.{ℕ, zero, suc, ◌+◌, ◌*◌, ◌-◌, ◌/◌, ◌%◌, ◌≤◌, ◌<◌}
use native.Mathlib.Nat.{not-suc-le-zero}
use native.Mathlib.Numerals.{add-one}
use native.Mathlib.Omega.{arith}
use lib.ListN.{length, take, drop, get_or, set, length-drop, get_or-eq_default}
use lib.Seq.{take-suc-set, take_all, length-take-le}
use lib.Dec.{leb, ltb, eqb}
use borrow.Author.Tests.{lt-leb, lt-ltb, le-ltb, eq-eqb, ne_eqb, ltb-true, ltb-false, not-false}
use Rattle.meaning.specs.Lists.{all, empty}
use Rattle.meaning.proofs.Laws.Base.{decide, leb_le, leb_gt, le_leb, and_i, and_l, and_r, not_true}
use Rattle.meaning.specs.Listing as D
use Rattle.meaning.proofs.Laws.Listing.{places_step}
use Rattle.std.specs.Prelude as Std
use Rattle.std.specs.Prelude.{Result, Ok, Err, Some, None}
use Rattle.vm_status.specs.declared.Refusal.{Refusal}
use Rattle.vm_status.specs.Models.{number_of}
use Rattle.listing_records.specs.declared.Record.{Record}
use Rattle.listing_records.specs.Models.{field_list, field_of, packed, limit_of, Head, found_of, found_at, body_fault, place_fault, full_of}
use Rattle.listing_records.proofs.Lists.{or_none, leb_iff}

-- ---- fields

pub frame_else : (f : ℕ) → 9 ≤ f → field_of f ≡ D.Field.frame
frame_else f h = get_or-eq_default field_list D.Field.frame {n = f} h

-- a kind of no row
pub unused : (k : ℕ) (rs : List D.Shape) → all (λ r. not (eqb k r.kind)) rs ≡ true → (D.in_use k rs ≡ false) × (D.fields_in k rs ≡ [])
unfolding D.in_use D.fields_in
unused k [] h = (refl, refl)
unused k (r ∷ rs) h =
    let a : not (eqb k r.kind) ≡ true = and_l (not (eqb k r.kind)) (all (λ x. not (eqb k x.kind)) rs) h in
    let b : eqb k r.kind ≡ false = not_true a in
    let w : (D.in_use k rs ≡ false) × (D.fields_in k rs ≡ []) = unused k rs (and_r (not (eqb k r.kind)) (all (λ x. not (eqb k x.kind)) rs) h) in
    (rw b w.0, rw b w.1)

-- ---- a body field by field: what is left of it gives the answer r

module _ (l : ℕ) (fs gs : List D.Field) (b : List ℕ) (w : ℕ) (f : D.Field) (here : fs ≡ f ∷ gs) (wide : w ≡ D.field_width f b) where
  pub fit_wide : (r : Bool) → D.fits_body l fs b ≡ r → length b < w → false ≡ r
  unfolding D.fits_body
  fit_wide r e h =
      let n : leb (D.field_width f b) (length b) ≡ false = lt-leb _ _ (rw wide at h) in
      rw (here, n) at e

  pub fit_wrong : (r : Bool) → D.fits_body l fs b ≡ r → w ≤ length b → D.field_right l f b ≡ false → false ≡ r
  unfolding D.fits_body
  fit_wrong r e h q =
      let n : leb (D.field_width f b) (length b) ≡ true = le_leb (rw wide at h) in
      rw (here, n, q) at e

  pub fit_turn : (r : Bool) → D.fits_body l fs b ≡ r → w ≤ length b → D.field_right l f b ≡ true → D.fits_body l gs (drop w b) ≡ r
  unfolding D.fits_body
  fit_turn r e h q =
      let n : leb (D.field_width f b) (length b) ≡ true = le_leb (rw wide at h) in
      rw wide (rw (here, n, q) at e)

  pub within_turn : (x y r : Bool) → (x && D.within_limits fs b) ≡ r → y ≡ D.field_within f b → ((x && y) && D.within_limits gs (drop w b)) ≡ r
  unfolding D.within_limits
  within_turn x y r e q =
      let g : (x && (D.field_within f b && D.within_limits gs (drop (D.field_width f b) b))) ≡ r = rw here at e in
      rw (wide, q, and_assoc) g

  -- the test of the code: the field runs past the end, or is not right
  module _ (q : Bool) where
    pub fit_stop : (r : Bool) → D.fits_body l fs b ≡ r → (D.field_width f b ≤ length b → q ≡ D.field_right l f b)
        → (ltb (length b) w || not q) ≡ true → false ≡ r
    fit_stop r e t h =
        decide (ltb (length b) w)
        (λ y. fit_wide r e (ltb-true (length b) w y))
        (λ m. let a : w ≤ length b = ltb-false (length b) w m in let z : not q ≡ true = rw m at h in fit_wrong r e a (sym (t (rw wide at a)) ∙ not_true z))

    pub fit_go : (ltb (length b) w || not q) ≡ false → (w ≤ length b) × (q ≡ true)
    fit_go h =
        let v : (ltb (length b) w ≡ false) × (not q ≡ false) = or_none (ltb (length b) w) (not q) h in
        (ltb-false (length b) w v.0, not-false q v.1)

module _ (l : ℕ) (fs : List D.Field) (b : List ℕ) (past : fs ≡ []) where
  pub fit_over : (r : Bool) → D.fits_body l fs b ≡ r → 0 < length b → false ≡ r
  unfolding D.fits_body
  fit_over r e h =
      let n : eqb (length b) 0 ≡ false = ne_eqb _ 0 (λ (z : length b ≡ 0). omega arith) in
      rw (past, n) at e

  pub fit_done : (r : Bool) → D.fits_body l fs b ≡ r → length b ≤ 0 → true ≡ r
  unfolding D.fits_body
  fit_done r e h =
      let z : length b ≡ 0 = omega arith in
      let n : eqb (length b) 0 ≡ true = eq-eqb _ 0 z in
      rw (past, n) at e

  pub within_done : (x r : Bool) → (x && D.within_limits fs b) ≡ r → x ≡ r
  unfolding D.within_limits
  within_done x r e = sym (and-true x) ∙ (rw past at e)

-- every field takes a byte
pub some_width : (f : D.Field) (b : List ℕ) → 0 < D.field_width f b
some_width (D.Field.byte r m) b = omega arith
some_width D.Field.word b = omega arith
some_width D.Field.local_index b = omega arith
some_width (D.Field.words r m) b = omega arith
some_width (D.Field.tokens m) b = omega arith
some_width D.Field.frame b = omega arith

below : (x n : ℕ) → ltb x (n + 1) ≡ leb x n
below x n = leb_iff (suc x) (n + 1) x n (λ h. omega arith) (λ h. omega arith)

-- ---- fields of a fixed width: by their numbers, 0 to 5

module _ (l : ℕ) (b : List ℕ) (x : ℕ) (first : x ≡ get_or b 0 0) (byte : x < 256) where
  pub plain_right : (f : ℕ) → f ≤ 5 → ltb x (limit_of l f) ≡ D.field_right l (field_of f) b
  plain_right zero h = below x 0 ∙ ap (λ (n : ℕ). leb n 0) first
  plain_right (suc zero) h = below x 1 ∙ ap (λ (n : ℕ). leb n 1) first
  plain_right (suc (suc zero)) h = below x 2 ∙ ap (λ (n : ℕ). leb n 2) first
  plain_right (suc (suc (suc zero))) h = below x 255 ∙ ap (λ (n : ℕ). leb n 255) first
  plain_right (suc (suc (suc (suc zero)))) h = ap (λ (n : ℕ). ltb n l) first
  plain_right (suc (suc (suc (suc (suc zero))))) h = lt-ltb x 256 byte
  plain_right (suc (suc (suc (suc (suc (suc f)))))) h = absurd (omega arith)

  pub plain_width : (f : ℕ) → f ≤ 5 → 1 + f / 5 ≡ D.field_width (field_of f) b
  plain_width zero h = refl
  plain_width (suc zero) h = refl
  plain_width (suc (suc zero)) h = refl
  plain_width (suc (suc (suc zero))) h = refl
  plain_width (suc (suc (suc (suc zero)))) h = refl
  plain_width (suc (suc (suc (suc (suc zero))))) h = refl
  plain_width (suc (suc (suc (suc (suc (suc f)))))) h = absurd (omega arith)

  pub plain_within : (f : ℕ) → f ≤ 5 → D.field_right l (field_of f) b ≡ true → (not (eqb f 3) || leb x 16) ≡ D.field_within (field_of f) b
  plain_within zero h r = sym r
  plain_within (suc zero) h r = sym r
  plain_within (suc (suc zero)) h r = sym r
  plain_within (suc (suc (suc zero))) h r = ap (λ (n : ℕ). leb n 16) first
  plain_within (suc (suc (suc (suc zero)))) h r = refl
  plain_within (suc (suc (suc (suc (suc zero))))) h r = refl
  plain_within (suc (suc (suc (suc (suc (suc f)))))) h r = absurd (omega arith)

pub limit_low : (l f : ℕ) → f < 3 → f + 1 ≡ limit_of l f
limit_low l zero h = refl
limit_low l (suc zero) h = refl
limit_low l (suc (suc zero)) h = refl
limit_low l (suc (suc (suc f))) h = absurd (omega arith)

pub limit_high : (l f : ℕ) → (f ≡ 4 → ⊥) → 3 ≤ f → 256 ≡ limit_of l f
limit_high l zero n h = absurd (omega arith)
limit_high l (suc zero) n h = absurd (omega arith)
limit_high l (suc (suc zero)) n h = absurd (omega arith)
limit_high l (suc (suc (suc zero))) n h = refl
limit_high l (suc (suc (suc (suc zero)))) n h = absurd (n refl)
limit_high l (suc (suc (suc (suc (suc f))))) n h = refl

-- ---- shapes

-- sixteen to the n
abbrev room : ℕ → ℕ
room zero = 1
room (suc n) = 16 * room n

-- a number of n digits has n fields at most
packed_more : (n x : ℕ) → x < room n → packed n x ≡ packed (suc n) x
unfolding packed
packed_more zero x h = let z : eqb x 0 ≡ true = eq-eqb x 0 (omega arith) in rw z
packed_more (suc n) x h = ap (λ (fs : List D.Field). cond (eqb x 0) [] (field_of (x % 16) ∷ fs)) (packed_more n (x / 16) (omega arith))

pub fields_here : (x : ℕ) → x < 65536 → (x ≡ 0 → ⊥) → packed 4 x ≡ field_of (x % 16) ∷ packed 4 (x / 16)
unfolding packed
fields_here x h z =
    let n : eqb x 0 ≡ false = ne_eqb x 0 z in
    let m : packed 3 (x / 16) ≡ packed 4 (x / 16) = packed_more 3 (x / 16) (omega arith) in
    rw n (ap (λ (fs : List D.Field). field_of (x % 16) ∷ fs) m)

pub fields_end : (x : ℕ) → x ≡ 0 → packed 4 x ≡ []
unfolding packed
fields_end x z = rw z

-- a kind that is not in use
pub unused_kind : (k : ℕ) → (k ≡ 1 → ⊥) → (k ≡ 2 → ⊥) → ((j : ℕ) → 10 ≤ j → j ≤ 27 → k ≡ j → ⊥) → (D.kind_in_use k ≡ false) × (D.fields_of k ≡ [])
unfolding D.kind_in_use D.fields_of
unused_kind k a b far = unused k D.shapes tests
  where
    no : (j : ℕ) → 10 ≤ j → j ≤ 27 → not (eqb k j) ≡ true
    no j p q = ap not (ne_eqb k j (far j p q))

    tests : all (λ r. not (eqb k r.kind)) D.shapes ≡ true
    tests =
        and_i (ap not (ne_eqb k 1 a)) (and_i (ap not (ne_eqb k 2 b))
        (and_i (no 10 (omega arith) (omega arith)) (and_i (no 11 (omega arith) (omega arith)) (and_i (no 12 (omega arith) (omega arith))
        (and_i (no 13 (omega arith) (omega arith)) (and_i (no 14 (omega arith) (omega arith)) (and_i (no 15 (omega arith) (omega arith))
        (and_i (no 16 (omega arith) (omega arith)) (and_i (no 17 (omega arith) (omega arith)) (and_i (no 18 (omega arith) (omega arith))
        (and_i (no 19 (omega arith) (omega arith)) (and_i (no 20 (omega arith) (omega arith)) (and_i (no 21 (omega arith) (omega arith))
        (and_i (no 22 (omega arith) (omega arith)) (and_i (no 23 (omega arith) (omega arith)) (and_i (no 24 (omega arith) (omega arith))
        (and_i (no 25 (omega arith) (omega arith)) (and_i (no 26 (omega arith) (omega arith)) (and_i (no 27 (omega arith) (omega arith))
        refl)))))))))))))))))))

-- ---- the tests of a record

-- where a record stands: a number ends the tests, and else those of the body follow
place_stops : (a b : Bool) (k : Option ℕ) (n : ℕ) → some n ≡ D.unless a 4 (D.unless b 33 none) → D.unless a 4 (D.unless b 33 k) ≡ some n
place_stops true true k n e = cc
place_stops true false k n e = sym e
place_stops false b k n e = sym e

place_goes : (a b : Bool) (k : Option ℕ) → none ≡ D.unless a 4 (D.unless b 33 none) → D.unless a 4 (D.unless b 33 k) ≡ k
place_goes true true k e = refl
place_goes true false k e = cc
place_goes false b k e = cc

-- what was found, known by its constructor
module _ (s : List ℕ) (at : ℕ) (f : Result (Std.Option Record) Refusal) (told : found_of at f ≡ found_at s at) where
  abbrev choice : Bool → Bool → D.Listed (Option Head)
  choice a w = cond a (D.Listed.read none) (D.if_not (not w) 1 at (D.Listed.read (some (record { kind = D.kind_at s at; next = D.next_at s at }))))

  pub record_inv : (r : Record) → f ≡ Ok (Some r) → (D.whole_at s at ≡ true) × (r.kind ≡ D.kind_at s at) × (r.next.at ≡ D.next_at s at)
  unfolding found_at
  record_inv r e = go (leb (length s) at) (D.whole_at s at) (sym (ap (found_of at) e) ∙ told)
    where
      go : (a w : Bool) → D.Listed.read (some (record { kind = r.kind; next = r.next.at })) ≡ choice a w → (w ≡ true) × (r.kind ≡ D.kind_at s at) × (r.next.at ≡ D.next_at s at)
      go true w q = cc
      go false true q =
          let h : ◌≡◌ {A = Head} (record { kind = r.kind; next = r.next.at }) (record { kind = D.kind_at s at; next = D.next_at s at }) = cc in
          (refl, ap (λ (x : Head). x.kind) h, ap (λ (x : Head). x.next) h)
      go false false q = cc

  pub short_inv : (x : Refusal) → f ≡ Err x → (D.whole_at s at ≡ false) × (1 ≡ number_of x)
  unfolding found_at
  short_inv x e = go (leb (length s) at) (D.whole_at s at) (sym (ap (found_of at) e) ∙ told)
    where
      go : (a w : Bool) → D.Listed.refused (number_of x) at ≡ choice a w → (w ≡ false) × (1 ≡ number_of x)
      go true w q = cc
      go false true q = cc
      go false false q = (refl, cc)

  pub end_inv : f ≡ Ok None → D.whole_at s at ≡ false
  unfolding found_at D.whole_at
  end_inv e = go (leb (length s) at) refl (D.whole_at s at) (sym (ap (found_of at) e) ∙ told)
    where
      go : (a : Bool) → leb (length s) at ≡ a → (w : Bool) → D.Listed.read none ≡ choice a w → leb (at + 4 + D.u16_at s at) (length s) ≡ false
      go true h w q = let l : length s ≤ at = leb_le h in let d : length s < at + 4 + D.u16_at s at = omega arith in lt-leb _ _ d
      go false h true q = cc
      go false h false q = cc

module _ (s : List ℕ) (at : ℕ) where
  module _ (l : ℕ) (coded : Bool) where
    pub fault_1 : D.whole_at s at ≡ false → D.fault_at s l coded at ≡ some 1
    unfolding D.fault_at
    fault_1 w = rw w

    pub fault_2 : D.whole_at s at ≡ true → D.kind_in_use (D.kind_at s at) ≡ false → D.fault_at s l coded at ≡ some 2
    unfolding D.fault_at
    fault_2 w k = rw (w, k)

    module _ (whole : D.whole_at s at ≡ true) (used : D.kind_in_use (D.kind_at s at) ≡ true) where
      pub fault_place : (n : ℕ) → some n ≡ place_fault (D.kind_at s at) at coded → D.fault_at s l coded at ≡ some n
      unfolding D.fault_at place_fault
      fault_place n e = rw (whole, used) (place_stops (beq (eqb (D.kind_at s at) 1) (eqb at 0)) (not (coded && eqb (D.kind_at s at) 2)) _ n e)

      pub fault_body : none ≡ place_fault (D.kind_at s at) at coded
          → D.fault_at s l coded at ≡ body_fault l (D.fields_of (D.kind_at s at)) (D.body_at s at)
      unfolding D.fault_at place_fault body_fault
      fault_body e = rw (whole, used) (place_goes (beq (eqb (D.kind_at s at) 1) (eqb at 0)) (not (coded && eqb (D.kind_at s at) 2)) _ e)

  pub inside : D.whole_at s at ≡ true → D.next_at s at ≤ length s
  unfolding D.whole_at
  inside w = leb_le w

pub tail_part : {A : Type 0} (b : List A) (i : ℕ) → take (length b - i) (drop i b) ≡ drop i b
tail_part b i = let d : length (drop i b) ≡ length b - i = length-drop i b in take_all (length b - i) (drop i b) (omega arith)

-- ---- the records in turn

-- room for a record that is taken in
module _ (k nb nc : ℕ) (room : full_of k nb nc ≡ false) where
  pub room_block : k ≡ 2 → nb < 16
  room_block e = leb_gt (rw e at room)

  pub room_code : (k ≡ 1 → ⊥) → (k ≡ 2 → ⊥) → nc < 512
  room_code f g = leb_gt (rw (ne_eqb k 1 f, ne_eqb k 2 g) at room)

-- the code counts the instructions that it found
pub some_code_lem : (cs : List ℕ) (n : ℕ) → n ≤ length cs → not (eqb n 0) ≡ not (empty (take n cs))
some_code_lem cs zero h = refl
some_code_lem [] (suc n) h = absurd (not-suc-le-zero h)
some_code_lem (c ∷ cs) (suc n) h = ap not (ne_eqb (suc n) 0 (λ z. omega arith))

module _ (s bs cs : List ℕ) (nb nc at l : ℕ) (r : D.Listed D.Places) (here : at < length s) (locals : l ≡ D.locals_of (D.body_at s 0))
    (counted : nc ≤ length cs) (inv : D.places_from (length s) s at (record { blocks = take nb bs; code = take nc cs }) ≡ r) where
  abbrev now : D.Places
  now = record { blocks = take nb bs; code = take nc cs }

  opened : D.if_fine (D.fault_at s l (not (eqb nc 0)) at) at (D.if_not (D.full_for (D.kind_at s at) now) 6 at (D.places_from (length s) s (D.next_at s at) (D.put_at (D.kind_at s at) at now))) ≡ r
  opened = rw (locals, some_code_lem cs nc counted) (sym (places_step s at now here) ∙ inv)

  pub stop_fault : (n : ℕ) → D.fault_at s l (not (eqb nc 0)) at ≡ some n → D.Listed.refused n at ≡ r
  stop_fault n e = rw e at opened

  module _ (fine : D.fault_at s l (not (eqb nc 0)) at ≡ none) where
    open_fine : D.if_not (D.full_for (D.kind_at s at) now) 6 at (D.places_from (length s) s (D.next_at s at) (D.put_at (D.kind_at s at) at now)) ≡ r
    open_fine = rw fine at opened

    pub stop_full : nb ≤ length bs → full_of (D.kind_at s at) nb nc ≡ true → D.Listed.refused 6 at ≡ r
    stop_full f h =
        let c : length (take nb bs) ≡ nb = length-take-le nb bs f in
        let d : length (take nc cs) ≡ nc = length-take-le nc cs counted in
        rw (c, d, h) at open_fine

    pub go_block : D.kind_at s at ≡ 2 → nb < 16 → nb < length bs
        → D.places_from (length s) s (D.next_at s at) (record { blocks = take (nb + 1) (set bs nb at); code = take nc cs }) ≡ r
    go_block k h f =
        let i : nb ≤ length bs = omega arith in
        let c : length (take nb bs) ≡ nb = length-take-le nb bs i in
        let g : leb 16 (length (take nb bs)) ≡ false = rw c (lt-leb 16 nb h) in
        rw (add-one, take-suc-set bs nb at f) (rw (k, g) at open_fine)

    pub go_code : (D.kind_at s at ≡ 1 → ⊥) → (D.kind_at s at ≡ 2 → ⊥) → nc < 512 → nc < length cs
        → D.places_from (length s) s (D.next_at s at) (record { blocks = take nb bs; code = take (nc + 1) (set cs nc at) }) ≡ r
    go_code k j h f =
        let c : length (take nc cs) ≡ nc = length-take-le nc cs counted in
        let g : leb 512 (length (take nc cs)) ≡ false = rw c (lt-leb 512 nc h) in
        rw (add-one, take-suc-set cs nc at f) (rw (ne_eqb (D.kind_at s at) 1 k, ne_eqb (D.kind_at s at) 2 j, g) at open_fine)

    pub go_first : D.kind_at s at ≡ 1 → D.places_from (length s) s (D.next_at s at) (record { blocks = take nb bs; code = take nc cs }) ≡ r
    go_first k = rw k at open_fine

module _ (s : List ℕ) where
  pub too_long_lem : 65536 < length s → D.Listed.refused 6 65536 ≡ D.read_places s
  unfolding D.read_places
  too_long_lem h = rw (lt-ltb 65536 (length s) h)

  pub after : length s ≤ 65536 → D.read_places s ≡ D.places_from (length s) s 0 D.no_places
  unfolding D.read_places
  after h = rw (le-ltb 65536 (length s) h)
