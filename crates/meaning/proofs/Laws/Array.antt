-- The first n elements of an array, read and written one by one: what the loops of the code rest on.
use Rattle.std.specs.Prelude.{ℕ, zero, suc, ◌+◌, ◌-◌, ◌≤◌, ◌<◌, ◌≡◌, refl, eqb, length, take, drop, get_or, set}
use Rattle.std.proofs.Common.{arith, sym, ap, ◌∙◌, subst, eq-eqb, ne_eqb, not-suc-le-zero, le_of_suc-le-suc, add-one, length-take, length-drop, drop_of_length-le, drop-cons, get_or-take, take-suc-set, drop-drop}
use mathlib.Core.List.{List, [], ◌∷◌, ◌++◌, map, map-append, append-nil, foldl}
use Rattle.std.proofs.Math.Option.{Option, none, some}
use Rattle.std.proofs.lemmas.List.{length-map, drop-append-le}
use Rattle.std.proofs.Math.ListN.{get_or-map}
use Rattle.std.proofs.Math.Seq.{append_snoc, drop-append-add}
use Rattle.meaning.specs.Lists.{empty}

module _ {A : Type 0} where
  -- at i below the count: the element, and what follows
  pub front_step : (n : ℕ) (l : List A) (d : A) (i : ℕ) → i < length (take n l) → drop i (take n l) ≡ get_or l i d ∷ drop (i + 1) (take n l)
  front_step n l d i h =
      let k : i < n = omega (arith, simp length-take at h) in
      rw add-one (drop-cons (take n l) i d h ∙ ap (λ (x : A). x ∷ drop (suc i) (take n l)) (get_or-take n l i d k))

  pub front_map_step : {B : Type 0} (f : A → B) (n : ℕ) (l : List A) (d : A) (i : ℕ) → i < length (map f (take n l)) → drop i (map f (take n l)) ≡ f (get_or l i d) ∷ drop (i + 1) (map f (take n l))
  front_map_step {B} f n l d i h =
      let k : i < n = omega (arith, simp (length-map, length-take) at h) in
      rw add-one (drop-cons (map f (take n l)) i (f d) h ∙ ap (λ (x : B). x ∷ drop (suc i) (map f (take n l))) (get_or-map f (take n l) i d ∙ ap f (get_or-take n l i d k)))

  -- one more element is written behind the first j
  pub push : (out : List A) (j j' : ℕ) (x : A) (ys : List A) → j' ≡ j + 1 → j < length out → take j' (set out j x) ++ ys ≡ take j out ++ x ∷ ys
  push out j j' x ys e h = rw (e, add-one, take-suc-set out j x) (append_snoc (take j out) x ys)

  pub push_map : {B : Type 0} (f : A → B) (out : List A) (j j' : ℕ) (x : A) (ys : List B) → j' ≡ j + 1 → j < length out → map f (take j' (set out j x)) ++ ys ≡ map f (take j out) ++ f x ∷ ys
  push_map f out j j' x ys e h = rw (e, add-one, take-suc-set out j x, map-append) (append_snoc (map f (take j out)) (f x) ys)

  -- the whole front, and its own front
  pub front_all : (k : ℕ) (l : List A) → take (length (take k l)) l ≡ take k l
  front_all zero l = refl
  front_all (suc k) [] = refl
  front_all (suc k) (x ∷ l) = ap (λ (r : List A). x ∷ r) (front_all k l)

  pub front_take : {B : Type 0} (f : A → B) (n k : ℕ) (l : List A) → k ≤ length (map f (take n l)) → map f (take k l) ≡ take k (map f (take n l))
  front_take f n zero l h = refl
  front_take f zero (suc k) l h = absurd (not-suc-le-zero h)
  front_take f (suc n) (suc k) [] h = absurd (not-suc-le-zero h)
  front_take {B} f (suc n) (suc k) (x ∷ l) h = ap (λ (r : List B). f x ∷ r) (front_take f n k l (le_of_suc-le-suc h))

  drop_map : {B : Type 0} (f : A → B) (l : List A) (i : ℕ) → drop i (map f l) ≡ map f (drop i l)
  drop_map f l zero = refl
  drop_map f [] (suc i) = refl
  drop_map f (x ∷ l) (suc i) = drop_map f l i

  short_next : (i : ℕ) (l : List A) (x : A) (r : List A) → drop i l ≡ x ∷ r → i + 1 ≤ length l
  short_next i l x r h = let e : length l - i ≡ suc (length r) = sym (length-drop i l) ∙ ap length h in omega arith

  short_drop : (i : ℕ) (l : List A) (x : A) (r : List A) → drop i l ≡ x ∷ r → i ≤ length l
  short_drop i l x r h = let e : i + 1 ≤ length l = short_next i l x r h in omega arith

  -- a step in the second of three lists, and in the third
  pub middle_step : (as' bs cs : List A) (j i : ℕ) (x : A) → j ≡ length as' + i → drop i bs ≡ x ∷ drop (i + 1) bs → drop j (as' ++ (bs ++ cs)) ≡ x ∷ drop (j + 1) (as' ++ (bs ++ cs))
  middle_step as' bs cs j i x e h =
      let a : drop j (as' ++ (bs ++ cs)) ≡ drop i bs ++ cs = ap (λ (k : ℕ). drop k (as' ++ (bs ++ cs))) e ∙ drop-append-add as' (bs ++ cs) i ∙ drop-append-le i bs cs (short_drop i bs x (drop (i + 1) bs) h) in
      let n : j + 1 ≡ length as' + (i + 1) = omega arith in
      let b : drop (j + 1) (as' ++ (bs ++ cs)) ≡ drop (i + 1) bs ++ cs = ap (λ (k : ℕ). drop k (as' ++ (bs ++ cs))) n ∙ drop-append-add as' (bs ++ cs) (i + 1) ∙ drop-append-le (i + 1) bs cs (short_next i bs x (drop (i + 1) bs) h) in
      a ∙ ap (λ (l : List A). l ++ cs) h ∙ ap (λ (l : List A). x ∷ l) (sym b)

  pub last_step : (as' bs cs : List A) (j i : ℕ) (x : A) → j ≡ length as' + (length bs + i) → drop i cs ≡ x ∷ drop (i + 1) cs → drop j (as' ++ (bs ++ cs)) ≡ x ∷ drop (j + 1) (as' ++ (bs ++ cs))
  last_step as' bs cs j i x e h =
      let a : drop j (as' ++ (bs ++ cs)) ≡ drop i cs = ap (λ (k : ℕ). drop k (as' ++ (bs ++ cs))) e ∙ drop-append-add as' (bs ++ cs) (length bs + i) ∙ drop-append-add bs cs i in
      let n : j + 1 ≡ length as' + (length bs + (i + 1)) = omega arith in
      let b : drop (j + 1) (as' ++ (bs ++ cs)) ≡ drop (i + 1) cs = ap (λ (k : ℕ). drop k (as' ++ (bs ++ cs))) n ∙ drop-append-add as' (bs ++ cs) (length bs + (i + 1)) ∙ drop-append-add bs cs (i + 1) in
      a ∙ h ∙ ap (λ (l : List A). x ∷ l) (sym b)

  -- a step, of a list that is mapped, and of the end of a list
  pub map_step : {B : Type 0} (f : A → B) (l : List A) (i : ℕ) (x : A) → drop i l ≡ x ∷ drop (i + 1) l → drop i (map f l) ≡ f x ∷ drop (i + 1) (map f l)
  map_step {B} f l i x h = drop_map f l i ∙ ap (map f) h ∙ ap (λ (r : List B). f x ∷ r) (sym (drop_map f l (i + 1)))

  pub drop_step : (l : List A) (k i : ℕ) (x : A) → drop (k + i) l ≡ x ∷ drop (k + i + 1) l → drop i (drop k l) ≡ x ∷ drop (i + 1) (drop k l)
  drop_step l k i x h =
      let e : k + i + 1 ≡ k + (i + 1) = omega arith in
      drop-drop i k l ∙ h ∙ ap (λ (n : ℕ). x ∷ drop n l) e ∙ ap (λ (r : List A). x ∷ r) (sym (drop-drop (i + 1) k l))

  abbrev head : List A → Option A
  head [] = none
  head (x ∷ l) = some x

  pub empty_length : (xs : List A) (n : ℕ) → n ≡ length xs → eqb n 0 ≡ empty xs
  empty_length [] n e = eq-eqb n 0 e
  empty_length (x ∷ xs) n e = ne_eqb n 0 (λ z. omega arith)

-- ---- an array changed in place

module _ {A : Type 0} where
  -- the element below k + 1 moves up to it: k + 1 was free, and then k is
  shift_on : (l : List A) (d : A) (k m : ℕ) → suc k < length l → suc k < m
      → take k (set l (suc k) (get_or l k d)) ++ drop (suc k) (take m (set l (suc k) (get_or l k d))) ≡ take (suc k) l ++ drop (suc (suc k)) (take m l)
  shift_on [] d k m h n = absurd (not-suc-le-zero h)
  shift_on (x ∷ []) d k m h n = absurd (not-suc-le-zero (le_of_suc-le-suc h))
  shift_on (x ∷ y ∷ l) d k zero h n = absurd (not-suc-le-zero n)
  shift_on (x ∷ y ∷ l) d k (suc zero) h n = absurd (not-suc-le-zero (le_of_suc-le-suc n))
  shift_on (x ∷ y ∷ l) d zero (suc (suc m)) h n = refl
  shift_on (x ∷ y ∷ l) d (suc k) (suc (suc m)) h n = ap (λ (r : List A). x ∷ r) (shift_on (y ∷ l) d k (suc m) (le_of_suc-le-suc h) (le_of_suc-le-suc n))

  -- the free place k is filled
  fill_in : {B : Type 0} (f : A → B) (l : List A) (k m : ℕ) (a : A) → k < length l → k < m
      → map f (take m (set l k a)) ≡ take k (map f (take k l ++ drop (suc k) (take m l))) ++ (f a ∷ drop k (map f (take k l ++ drop (suc k) (take m l))))
  fill_in f [] k m a h n = absurd (not-suc-le-zero h)
  fill_in f (x ∷ l) k zero a h n = absurd (not-suc-le-zero n)
  fill_in f (x ∷ l) zero (suc m) a h n = refl
  fill_in {B} f (x ∷ l) (suc k) (suc m) a h n = ap (λ (r : List B). f x ∷ r) (fill_in f l k m a (le_of_suc-le-suc h) (le_of_suc-le-suc n))

  -- what is written at j is not seen from k on
  pub drop_set : {B : Type 0} (f : A → B) (l : List A) (j k m : ℕ) (a : A) → j < k → drop k (map f (take m (set l j a))) ≡ drop k (map f (take m l))
  drop_set f l j zero m a h = absurd (not-suc-le-zero h)
  drop_set f [] j (suc k) m a h = refl
  drop_set f (x ∷ l) j (suc k) zero a h = ap (λ (r : List A). drop (suc k) (map f r)) (none (set (x ∷ l) j a))
    where
      none : (r : List A) → take zero r ≡ []
      none [] = refl
      none (y ∷ r) = refl
  drop_set f (x ∷ l) zero (suc k) (suc m) a h = refl
  drop_set f (x ∷ l) (suc j) (suc k) (suc m) a h = drop_set f l j k m a (le_of_suc-le-suc h)

-- An element is put in among the first of an array: those above its place move up one by one, the last first. Around the free place j, by what
-- they stand for, are those of before.
module _ {A B : Type 0} (f : A → B) where
  abbrev pub around : List A → ℕ → ℕ → List B
  around l j m = map f (take j l ++ drop (suc j) (take m l))

  pub room_start : (l : List A) (m : ℕ) → around l m (m + 1) ≡ map f (take m l)
  room_start l m =
      let a : drop (suc m) (take (m + 1) l) ≡ [] = drop_of_length-le (take (m + 1) l) {i = suc m} (simp length-take (omega arith)) in
      ap (λ (r : List A). map f (take m l ++ r)) a ∙ ap (map f) (append-nil (take m l))

  pub room_on : (l : List A) (d : A) (k j m : ℕ) → j ≡ suc k → j < length l → j < m → around (set l j (get_or l k d)) k m ≡ around l j m
  room_on l d k j m e h n =
      ap (map f) (subst (λ (i : ℕ). take k (set l i (get_or l k d)) ++ drop (suc k) (take m (set l i (get_or l k d))) ≡ take i l ++ drop (suc i) (take m l)) (sym e)
      (shift_on l d k m (subst (λ (i : ℕ). i < length l) e h) (subst (λ (i : ℕ). i < m) e n)))

  pub room_end : (l : List A) (k m : ℕ) (x : A) (xs : List B) → k < length l → k < m → around l k m ≡ xs → map f (take m (set l k x)) ≡ take k xs ++ (f x ∷ drop k xs)
  room_end l k m x xs h n e = fill_in f l k m x h n ∙ ap (λ (ys : List B). take k ys ++ (f x ∷ drop k ys)) e

-- what owning an array of structs tells of its list
pub length_of_map : (A B : Type 0) (f : A → B) (l : List A) (n : ℕ) → length (map f l) ≡ n → length l ≡ n
length_of_map A B f l n e = sym (length-map l f) ∙ e

-- ---- a loop that folds

module _ {B S : Type 0} (step : S → B → S) (xs : List B) (r : S) where
  pub fold_turn : (i : ℕ) (x : B) (s s' : S) → drop i xs ≡ x ∷ drop (i + 1) xs → s' ≡ step s x → foldl step s (drop i xs) ≡ r → foldl step s' (drop (i + 1) xs) ≡ r
  fold_turn i x s s' e p h = ap (λ (t : S). foldl step t (drop (i + 1) xs)) p ∙ sym (ap (λ (l : List B). foldl step s l) e) ∙ h

  pub fold_done : (i : ℕ) (s : S) → drop i xs ≡ [] → foldl step s (drop i xs) ≡ r → s ≡ r
  fold_done i s e h = sym (ap (λ (l : List B). foldl step s l) e) ∙ h

-- one more at place k, by what they stand for
pub map_put : {A B : Type 0} (f : A → B) (x : A) (k : ℕ) (xs : List A) → map f (take k xs ++ (x ∷ drop k xs)) ≡ take k (map f xs) ++ (f x ∷ drop k (map f xs))
map_put f x zero xs = refl
map_put f x (suc k) [] = refl
map_put {A} {B} f x (suc k) (a ∷ xs) = ap (λ (r : List B). f a ∷ r) (map_put f x k xs)
