-- The locals of a state, read and written one by one.
use Rattle.std.specs.Prelude.{ℕ, ◌+◌, ◌≤◌, ◌<◌, min, ◌≡◌, refl, leb, length, take, drop, get_or, set}
use native.Mathlib.Omega.{arith}
use Rattle.std.proofs.Math.Path.{sym, ap}
use Rattle.std.proofs.Common.{◌∙◌, drop_of_length-le, length-take, take_all}
use mathlib.Core.List.{List, [], ◌∷◌, ◌++◌, map, append-nil}
use Rattle.std.proofs.lemmas.List.{length-map}
use Rattle.meaning.proofs.Laws.Base.{decide, leb_le, leb_gt}
use Rattle.meaning.proofs.Laws.Array.{front_map_step, push_map, drop_set}
use Rattle.meaning.specs.Area.{local_in}
use Rattle.meaning.specs.AbstractState as S
use Rattle.abstract_state.specs.Models.{locals_in}

-- a number beyond 16 reads as 16
module _ (xs : List ℕ) (n k : ℕ) (l : length xs ≡ 16) (e : k ≡ min n 16) where
  pub clip : locals_in xs k ≡ locals_in xs n
  unfolding locals_in
  clip =
      decide (leb n 16)
      (λ t. let h : n ≤ 16 = leb_le t in let z : k ≡ n = omega arith in ap (λ (j : ℕ). map local_in (take j xs)) z)
      (λ t. let h : 16 < n = leb_gt t in ap (λ (ys : List ℕ). map local_in ys) (take_all k xs (omega arith) ∙ sym (take_all n xs (omega arith))))

  pub locals_are : length (locals_in xs n) ≡ k
  unfolding locals_in
  locals_are = simp (length-map, length-take) (omega arith)

  pub local_next : (i : ℕ) → i < k → drop i (locals_in xs n) ≡ local_in (get_or xs i 0) ∷ drop (i + 1) (locals_in xs n)
  unfolding locals_in
  local_next i h = let z = locals_are in front_map_step local_in n xs 0 i (omega arith)

  pub locals_end : (i : ℕ) → k ≤ i → drop i (locals_in xs n) ≡ []
  locals_end i h =
      let z : length (locals_in xs n) ≡ k = locals_are in
      let y : length (locals_in xs n) ≤ i = omega arith in
      drop_of_length-le (locals_in xs n) y

  pub locals_all : (i : ℕ) → i ≡ k → locals_in xs n ≡ map local_in (take i xs)
  unfolding locals_in
  locals_all i z = sym clip ∙ ap (λ (j : ℕ). map local_in (take j xs)) (sym z)

-- a loop that writes: one more local, the end, and what is not yet read
module _ (out : List ℕ) (i : ℕ) (rest total : List S.Local) (h : map local_in (take i out) ++ rest ≡ total) where
  pub written : (w : ℕ) (more : List S.Local) → i < length out → rest ≡ local_in w ∷ more → map local_in (take (i + 1) (set out i w)) ++ more ≡ total
  written w more l e = push_map local_in out i (i + 1) w more refl l ∙ ap (λ (ys : List S.Local). map local_in (take i out) ++ ys) (sym e) ∙ h

  pub all_written : (n k : ℕ) → length out ≡ 16 → k ≡ min n 16 → i ≡ k → rest ≡ [] → locals_in out n ≡ total
  all_written n k l e z r = locals_all out n k l e i z ∙ sym (append-nil (map local_in (take i out))) ∙ ap (λ (ys : List S.Local). map local_in (take i out) ++ ys) (sym r) ∙ h

pub unread : (ls : List ℕ) (n i w : ℕ) → drop (i + 1) (locals_in (set ls i w) n) ≡ drop (i + 1) (locals_in ls n)
unfolding locals_in
unread ls n i w = drop_set local_in ls i (i + 1) n w (omega arith)
