-- A search through a list, element by element: what the elements from i on give is the answer r. `P` is what is asked of the list, as
-- whether all or any of it passes a test, or where the first one stands.
use Rattle.std.specs.Prelude.{ℕ, ◌+◌, ◌≤◌, ◌<◌, Bool, true, false, ◌&&◌, ◌||◌, List, [], ◌∷◌, map, ◌≡◌, length, take, drop, get_or}
use Rattle.std.proofs.Common.{add-one, arith, ap, sym, ◌∙◌, length-take, drop_of_length-le, drop-cons}
use Rattle.std.proofs.lemmas.List.{length-map}
use Rattle.std.proofs.Math.Path.{refl}
use Rattle.std.specs.List.{list_all, list_any}
use Rattle.meaning.specs.Lists.{all, any}
use Rattle.meaning.proofs.Laws.Array.{front_map_step}

module _ {A R : Type 0} (P : List A → R) (xs : List A) (i : ℕ) (r : R) (left : P (drop i xs) ≡ r) where
  -- at an element: it and those after it give the answer
  pub search_at : (d : A) → i < length xs → P (get_or xs i d ∷ drop (i + 1) xs) ≡ r
  search_at d h = let e : drop i xs ≡ get_or xs i d ∷ drop (i + 1) xs = rw add-one (drop-cons xs i d h) in sym (ap P e) ∙ left

  -- past the last one
  pub search_end : length xs ≤ i → P [] ≡ r
  search_end h = sym (ap P (drop_of_length-le xs {i = i} h)) ∙ left

-- whether any passes a test: x is next, and b is what the code's test of it gave
module _ {A : Type 0} (p : A → Bool) (x : A) (xs ys : List A) (r : Bool) (step : ys ≡ x ∷ xs) (left : any p ys ≡ r) (b : Bool) (tested : b ≡ p x) where
  next_or_later : b || any p xs ≡ r
  next_or_later = ap (λ (t : Bool). t || any p xs) tested ∙ sym (ap (any p) step) ∙ left

  pub any_found : b ≡ true → true ≡ r
  any_found h = sym (ap (λ (t : Bool). t || any p xs) h) ∙ next_or_later

  pub any_on : b ≡ false → any p xs ≡ r
  any_on h = sym (ap (λ (t : Bool). t || any p xs) h) ∙ next_or_later

pub any_none : {A : Type 0} (p : A → Bool) (ys : List A) (r : Bool) → ys ≡ [] → any p ys ≡ r → false ≡ r
any_none p ys r e left = sym (ap (any p) e) ∙ left

-- std's tests of a list, by what its elements stand for
module _ {A B : Type 0} (p : B → Bool) (f : A → B) where
  pub list_any_of : (xs : List A) → list_any (λ x. p (f x)) xs ≡ any p (map f xs)
  list_any_of [] = refl
  list_any_of (x ∷ xs) = ap (λ (t : Bool). p (f x) || t) (list_any_of xs)

  pub list_all_of : (xs : List A) → list_all (λ x. p (f x)) xs ≡ all p (map f xs)
  list_all_of [] = refl
  list_all_of (x ∷ xs) = ap (λ (t : Bool). p (f x) && t) (list_all_of xs)

-- a test that all of them pass
module _ {A : Type 0} (p : A → Bool) (d : A) (xs : List A) (r : Bool) (i : ℕ) (here : i < length xs) where
  pub all_stop : all p (drop i xs) ≡ r → p (get_or xs i d) ≡ false → false ≡ r
  all_stop e h = rw h at (search_at (all p) xs i r e d here)

  pub all_turn : all p (drop i xs) ≡ r → p (get_or xs i d) ≡ true → all p (drop (i + 1) xs) ≡ r
  all_turn e h = rw h at (search_at (all p) xs i r e d here)

-- the same of the first n structs of an array, each by what it stands for
module _ {A B R : Type 0} (f : A → B) (P : List B → R) (l : List A) (n : ℕ) (fits : n ≤ length l) (i : ℕ) (r : R) (left : P (drop i (map f (take n l))) ≡ r) where
  pub array_at : (d : A) → i < n → P (f (get_or l i d) ∷ drop (i + 1) (map f (take n l))) ≡ r
  array_at d h =
      let m : i < length (map f (take n l)) = simp (length-map, length-take) (omega arith) in
      sym (ap P (front_map_step f n l d i m)) ∙ left

  pub array_end : n ≤ i → P [] ≡ r
  array_end h =
      let m : length (map f (take n l)) ≤ i = simp (length-map, length-take) (omega arith) in
      search_end P (map f (take n l)) i r left m
