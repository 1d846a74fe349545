-- Laws of the kinds, by the ranges that the code parts them into.
-- Assumes nothing.
use mathlib.Core.Path.{◌≡◌, refl, sym, ap, ◌∙◌}
use mathlib.Core.Bool.{Bool, false, ◌&&◌, ◌||◌, beq, and-false}
use mathlib.Core.List.{List, ◌∷◌}
use Prim.Native.Nat.{ℕ, ◌≤◌, ◌<◌}
use native.Mathlib.Omega.{arith}
use lib.ListN.{length}
use lib.Dec.{leb, eqb}
use borrow.Author.Tests.{ne_eqb}
use Rattle.meaning.specs.Lists.{up_to}
use Rattle.meaning.proofs.Laws.Base.{decide, beq_eq, eqb_eq, eqb_ne, leb_le, leb_gt}
use Rattle.meaning.specs.Listing as D
use Rattle.listing_records.specs.Models.{packed, body_limits, padded, limit_row}
use Rattle.listing_records.proofs.Lists.{ranged, up_to_all}
use Rattle.listing_records.proofs.Laws.{fields_end, unused_kind}

-- the code's test of a kind
abbrev tested : ℕ → Bool
tested k = eqb k 1 || eqb k 2 || (leb 10 k && leb k 27)

pub in_use_lem : (k : ℕ) → tested k ≡ D.kind_in_use k
unfolding up_to D.kind_in_use D.in_use
in_use_lem k =
    decide (leb k 27)
    (λ h. beq_eq (tested k) (D.kind_in_use k) (up_to_all (λ j. beq (tested j) (D.kind_in_use j)) 28 (λ j. j) refl k (let l : k ≤ 27 = leb_le h in omega arith)))
    (λ h. let l : 27 < k = leb_gt h in
    let n : tested k ≡ false = rw (ne_eqb k 1 (λ e. omega arith), ne_eqb k 2 (λ e. omega arith), h, and-false) in
    n ∙ sym (unused_kind k (λ e. omega arith) (λ e. omega arith) (λ j p q e. omega arith)).0)

-- ---- the fields of a kind, packed into a number

abbrev Packs : ℕ → ℕ → Type 0
Packs x k = packed 4 x ≡ D.fields_of k

-- a kind that is j
pub one_kind : (x j k : ℕ) → Packs x j → k ≡ j → Packs x k
one_kind x j k f e = f ∙ sym (ap D.fields_of e)

-- 11 to 13
pub local_kinds : (k : ℕ) → 11 ≤ k → k < 14 → Packs 4 k
unfolding packed D.fields_of D.fields_in
local_kinds = ranged (Packs 4) 11 3 (((tt, refl), refl), refl)

-- 14 to 17
pub bare_kinds : (k : ℕ) → 14 ≤ k → k < 18 → Packs 0 k
unfolding packed D.fields_of D.fields_in
bare_kinds = ranged (Packs 0) 14 4 ((((tt, refl), refl), refl), refl)

-- 19 and 20
pub borrow_kinds : (k : ℕ) → 19 ≤ k → k < 21 → Packs 21 k
unfolding packed D.fields_of D.fields_in
borrow_kinds = ranged (Packs 21) 19 2 ((tt, refl), refl)

-- j, which has no body, and those that are not in use
pub bare_or_none : (j k : ℕ) → Packs 0 j → (k ≡ 1 → ⊥) → (k ≡ 2 → ⊥) → (10 ≤ k → k ≤ 27 → k ≡ j) → Packs 0 k
bare_or_none j k f a b only =
    decide (eqb k j)
    (λ e. one_kind 0 j k f (eqb_eq e))
    (λ e. fields_end 0 refl ∙ sym (unused_kind k a b (λ i p q h. eqb_ne e (only (omega arith) (omega arith)))).1)

-- above 13: 14 to 17, 25, and those that are not in use
pub rest_kinds : (k : ℕ) → 14 ≤ k → (18 ≤ k → 25 ≤ k) → (k ≡ 26 → ⊥) → (k ≡ 27 → ⊥) → Packs 0 k
unfolding packed D.fields_of D.fields_in
rest_kinds k l far a b =
    decide (leb k 17)
    (λ h. let m : k ≤ 17 = leb_le h in bare_kinds k l (omega arith))
    (λ h. let m : 17 < k = leb_gt h in let n : 25 ≤ k = far (omega arith) in bare_or_none 25 k refl (λ e. omega arith) (λ e. omega arith) (λ p q. omega arith))

-- a row is made of the fields
pub row_of : (l k : ℕ) (fs : List D.Field) → fs ≡ D.fields_of k → length (body_limits l fs) ∷ padded 5 (body_limits l fs) ≡ limit_row l k
unfolding limit_row
row_of l k fs e = ap (λ (gs : List D.Field). length (body_limits l gs) ∷ padded 5 (body_limits l gs)) e
