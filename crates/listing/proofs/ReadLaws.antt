-- Laws of the whole listing: the rules of number 5 over the places that were read, and what is known of those places.
-- Assumes nothing.
use mathlib.Core.Path.{◌≡◌, refl, sym, ap, ◌∙◌}
use mathlib.Core.Bool.{Bool, true}
use mathlib.Core.List.{List, [], ◌∷◌, map}
use Prim.Native.Nat.{ℕ, zero, suc, ◌+◌, ◌*◌, ◌≤◌, ◌<◌}
use native.Mathlib.Omega.{arith}
use lib.ListN.{length, take, get_or, length-map}
use lib.Seq.{get_or-take, length-take-le}
use lib.Dec.{ltb, eqb, eqb-suc-zero}
use borrow.Author.Tests.{lt-ltb, le-ltb, eq-eqb, ne_eqb}
use Rattle.meaning.specs.Lists.{all, empty, up_to}
use Rattle.meaning.proofs.Laws.Base.{decide, and_l, and_r, eqb_eq, le_leb, all_imp}
use Rattle.meaning.specs.AbstractState.{Token}
use Rattle.meaning.specs.Loop as M
use Rattle.meaning.specs.Steps as I
use Rattle.meaning.specs.Blocks as Q
use Rattle.meaning.specs.Listing as D
use Rattle.meaning.proofs.Laws.Listing.{ok_block_lem, ok_code_lem, two_successors, call_limits, frame_limits, ok_block, ok_code, Good, places_good, first_passed, first_kind, read_places_lem}
use Rattle.listing_records.specs.declared.Places.{Places}
use Rattle.listing.specs.declared.Block.{Block}
use Rattle.listing.specs.Models.{block_of, call_for, decoded_at, two_at, Sound, ruled_places, tokens_at, FirstOf}
use Rattle.std.specs.Prelude.{Ok, Option}
use Rattle.listing_records.specs.Models.{places_in, ReadInto}
use Rattle.listing_records.proofs.Lists.{counted}

-- ---- number 5

empty_take : {A : Type 0} (f : ℕ → A) (n : ℕ) (xs : List ℕ) → n ≤ length xs → empty (map f (take n xs)) ≡ eqb n 0
empty_take f zero xs h = refl
empty_take f (suc n) [] h = absurd (omega arith)
empty_take f (suc n) (x ∷ xs) h = sym (eqb-suc-zero n)

module _ (s ps cs : List ℕ) (n m : ℕ) (fp : n ≤ length ps) (fc : m ≤ length cs) where
  abbrev all_places : D.Places
  all_places = record { blocks = take n ps; code = take m cs }

  abbrev blocks : List M.Block
  blocks = map (D.block_at s) (take n ps)

  abbrev code : List I.Instr
  code = map (D.instr_at s) (take m cs)

  ruled_eq : ruled_places s all_places
      ≡ D.if_not (eqb n 0) 5 (length s)
      (D.if_not (ltb (D.first_of (D.faulty_block m blocks) 0 n) n) 5 (get_or (take n ps) (D.first_of (D.faulty_block m blocks) 0 n) 0)
      (D.if_not (ltb (D.first_of (D.stray_ret code blocks) 0 m) m) 5 (get_or (take m cs) (D.first_of (D.stray_ret code blocks) 0 m) 0)
      (D.Listed.read (D.routine_at s all_places))))
  unfolding ruled_places
  ruled_eq = rw (counted (D.block_at s) ps n fp, counted (D.instr_at s) cs m fc, empty_take (D.block_at s) n ps fp)

  -- what the code asks of the blocks that it made
  module _ (bs : List Block) (told : map block_of (take (length (take n ps)) bs) ≡ blocks) where
    pub same_blocks : map block_of (take n bs) ≡ blocks
    same_blocks = rw (length-take-le n ps fp) at told

    long : length (take n bs) ≡ n
    long = sym (length-map (take n bs) block_of) ∙ ap length same_blocks ∙ counted (D.block_at s) ps n fp

    pub first_bad : (r : Option ℕ) → FirstOf (D.faulty_block m (map block_of (take n bs))) (length (take n bs)) r → FirstOf (D.faulty_block m blocks) n r
    first_bad r h = rw (same_blocks, long) at h

    pub first_lost : (r : Option ℕ) → FirstOf (D.stray_ret code (map block_of (take n bs))) m r → FirstOf (D.stray_ret code blocks) m r
    first_lost r h = rw same_blocks at h

  pub ruled_none : n ≡ 0 → D.Listed.refused 5 (length s) ≡ ruled_places s all_places
  ruled_none h = rw (ruled_eq, eq-eqb n 0 h)

  module _ (some : n ≡ 0 → ⊥) (b : ℕ) (e : b ≡ D.first_of (D.faulty_block m blocks) 0 n) where
    pub ruled_block : b < n → D.Listed.refused 5 (get_or ps b 0) ≡ ruled_places s all_places
    ruled_block h = rw (ruled_eq, ne_eqb n 0 some, ← e, lt-ltb b n h, get_or-take n ps b 0 h)

    module _ (past : n ≤ b) (r : ℕ) (w : r ≡ D.first_of (D.stray_ret code blocks) 0 m) where
      pub ruled_ret : r < m → D.Listed.refused 5 (get_or cs r 0) ≡ ruled_places s all_places
      ruled_ret h = rw (ruled_eq, ne_eqb n 0 some, ← e, le-ltb b n past, ← w, lt-ltb r m h, get_or-take m cs r 0 h)

      pub ruled_read : m ≤ r → D.Listed.read (D.routine_at s all_places) ≡ ruled_places s all_places
      ruled_read h = rw (ruled_eq, ne_eqb n 0 some, ← e, le-ltb b n past, ← w, le-ltb r m h)

-- blocks out of the records at the first places
pub counted_at : (s ps : List ℕ) (n : ℕ) → n ≤ length ps → (xs : List M.Block) → xs ≡ map (D.block_at s) (take n ps) → length xs ≡ n
counted_at s ps n h xs e = ap length e ∙ counted (D.block_at s) ps n h

pub routine_eq : (ps qs : List Token) (l k r t : ℕ) (bs cs : List M.Block) (is js : List I.Instr) → ps ≡ qs → l ≡ k → r ≡ t → bs ≡ cs → is ≡ js
    → ◌≡◌ {A = Q.Routine}
    (record { params = ps; locals = l; returns = r; blocks = bs; code = is })
    (record { params = qs; locals = k; returns = t; blocks = cs; code = js })
routine_eq ps qs l k r t bs cs is js a b c d e = λ i. record { params = a i; locals = b i; returns = c i; blocks = d i; code = e i }

pub params_eq : (head : List ℕ) (ps : List Token) (n : ℕ) → n ≡ get_or head 0 0 → ps ≡ tokens_at head 2 n → ps ≡ D.params_of head
params_eq head ps n e h = h ∙ ap (λ (j : ℕ). up_to j (λ k. D.token_as (get_or head (2 + k) 0))) e

-- ---- what is known of the places

map_same : {A : Type 0} (p : ℕ → Bool) (f g : ℕ → A) → ((x : ℕ) → p x ≡ true → f x ≡ g x) → (xs : List ℕ) → all p xs ≡ true → map f xs ≡ map g xs
map_same p f g h [] e = refl
map_same p f g h (x ∷ xs) e =
    let a : f x ≡ g x = h x (and_l (p x) (all p xs) e) in
    let b : map f xs ≡ map g xs = map_same p f g h xs (and_r (p x) (all p xs) e) in
    rw (a, b)

call_same : (b : List ℕ) → get_or b 1 0 ≤ 16 → get_or b (2 + 2 * get_or b 1 0) 0 ≤ 8 → call_for b ≡ D.call_of b
unfolding call_for
call_same b h k = rw (le_leb h, le_leb k)

decoded_same : (s : List ℕ) (p : ℕ) → ok_code s p ≡ true → decoded_at s p ≡ D.instr_at s p
unfolding decoded_at D.instr_at D.instr_of D.instr_in
decoded_same s p e =
    decide (eqb (D.kind_at s p) 22)
    (λ q. let k : D.kind_at s p ≡ 22 = eqb_eq q in
    let c = call_limits s (D.locals_of (D.body_at s 0)) p (ok_code_lem s p e).0 k in
    let g : call_for (D.body_at s p) ≡ D.call_of (D.body_at s p) = call_same (D.body_at s p) c.0 c.1 in
    rw (k, g))
    (λ q. rw q)

two_of : (s : List ℕ) (p : ℕ) → ok_block s p ≡ true → two_at s p ≡ true
two_of s p e = let f = ok_block_lem s p e in le_leb (two_successors s (D.locals_of (D.body_at s 0)) p f.0 f.1)

module _ (s ps cs : List ℕ) (w : Places) (told : ReadInto (D.read_places s) s ps cs (Ok w)) where
  pub were_read : D.read_places s ≡ D.Listed.read (places_in ps cs w)
  were_read = sym told.places

  pub sound : 0 < length s → (head : List ℕ) → head ≡ D.body_at s 0 → Sound s head w ps cs
  sound some head h =
      let r = read_places_lem s (places_in ps cs w) were_read in
      let g : Good s (places_in ps cs w) = places_good s (places_in ps cs w) r in
      let l : ℕ = D.locals_of (D.body_at s 0) in
      let p = first_passed s (places_in ps cs w) some r in
      let f = frame_limits s l 0 p (first_kind s l p) in
      record {
        first = h;
        blocks = told.counts.blocks;
        code = told.counts.code;
        all_blocks = told.all_blocks;
        all_code = told.all_code;
        ret = told.counts.ret;
        two = all_imp (ok_block s) (two_at s) (two_of s) (take w.block_count ps) g.blocks;
        same = map_same (ok_code s) (decoded_at s) (D.instr_at s) (decoded_same s) (take w.code_count cs) g.code;
        params = rw h (omega (arith, f.0, f.1));
      }
