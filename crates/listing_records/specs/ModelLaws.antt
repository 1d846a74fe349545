-- Laws of the instructions before the first Ret.
-- Assumes nothing.
use Rattle.std.specs.Prelude.{◌≡◌, Bool, not, take, get_or, set}
use Rattle.std.proofs.Math.Path.{refl}
use Rattle.std.proofs.Common.{sym, ap, ◌∙◌, not-suc-le-zero, le_of_suc-le-suc, add-one, take-suc-set, length-take-le}
use Rattle.std.proofs.Math.Bool.{true, false, cond}
use mathlib.Core.List.{List, [], ◌∷◌, ◌++◌}
use Prim.Native.Nat.{ℕ, zero, suc, ◌+◌, ◌≤◌, ◌<◌}
use native.Mathlib.Omega.{arith}
use Rattle.std.proofs.Math.ListN.{length}
use Rattle.std.proofs.Math.Dec.{eqb}
use borrow.Author.Tests.{eq-eqb, ne_eqb}
use Rattle.meaning.proofs.Laws.Base.{decide, eqb_eq, eqb_ne}
use Rattle.meaning.specs.Listing.{kind_at}
use Rattle.listing_records.specs.Models.{before_ret, one_more}

more_up : (k a n : ℕ) → suc (one_more k a n) ≡ one_more k (suc a) (suc n)
more_up k a n =
    decide (eqb a n)
    (λ e. let f : eqb (suc a) (suc n) ≡ true = eq-eqb (suc a) (suc n) (ap suc (eqb_eq e)) in
    decide (not (eqb k 23)) (λ x. rw (e, f, x) (omega arith)) (λ x. rw (e, f, x)))
    (λ e. let z : (a ≡ n → ⊥) = eqb_ne e in
    let f : eqb (suc a) (suc n) ≡ false = ne_eqb (suc a) (suc n) (λ h. z (omega arith)) in
    rw (e, f))

module _ (s : List ℕ) where
  ret_more : (ps : List ℕ) (p : ℕ) → before_ret s (ps ++ (p ∷ [])) ≡ one_more (kind_at s p) (before_ret s ps) (length ps)
  unfolding before_ret
  ret_more [] p = decide (eqb (kind_at s p) 23) (λ e. rw e) (λ e. rw e)
  ret_more (q ∷ ps) p =
      decide (eqb (kind_at s q) 23)
      (λ e. let f : eqb 0 (suc (length ps)) ≡ false = ne_eqb 0 (suc (length ps)) (λ h. omega arith) in rw (e, f))
      (λ e. rw e (ap suc (ret_more ps p) ∙ more_up (kind_at s p) (before_ret s ps) (length ps)))

  -- one more place is put into the array
  pub ret_put : (cs : List ℕ) (n at k first : ℕ) → n < length cs → k ≡ kind_at s at → first ≡ before_ret s (take n cs)
      → one_more k first n ≡ before_ret s (take (n + 1) (set cs n at))
  ret_put cs n at k first h e f =
      let l : length (take n cs) ≡ n = length-take-le n cs (omega arith) in
      let t : take (n + 1) (set cs n at) ≡ take n cs ++ (at ∷ []) = rw add-one (take-suc-set cs n at h) in
      (λ i. one_more (e i) (f i) (sym l i)) ∙ sym (ret_more (take n cs) at) ∙ sym (ap (before_ret s) t)

  pub ret_before : (ps : List ℕ) (i : ℕ) → i < before_ret s ps → eqb (kind_at s (get_or ps i 0)) 23 ≡ false
  unfolding before_ret
  ret_before [] i h = absurd (not-suc-le-zero h)
  ret_before (p ∷ ps) i h = go (eqb (kind_at s p) 23) refl i h (λ j k. ret_before ps j k)
    where
      go : (b : Bool) → eqb (kind_at s p) 23 ≡ b → (j : ℕ) → j < cond b 0 (suc (before_ret s ps))
          → ((i : ℕ) → i < before_ret s ps → eqb (kind_at s (get_or ps i 0)) 23 ≡ false) → eqb (kind_at s (get_or (p ∷ ps) j 0)) 23 ≡ false
      go true e j k f = absurd (not-suc-le-zero k)
      go false e zero k f = e
      go false e (suc j) k f = f j (le_of_suc-le-suc k)

  pub ret_within : (ps : List ℕ) → before_ret s ps ≤ length ps
  unfolding before_ret
  ret_within [] = omega arith
  ret_within (p ∷ ps) = let h : before_ret s ps ≤ length ps = ret_within ps in decide (eqb (kind_at s p) 23) (λ e. rw e (omega arith)) (λ e. rw e (omega arith))
