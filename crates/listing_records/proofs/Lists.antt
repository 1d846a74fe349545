-- Laws of lists and tests: an array that is filled from the front, and the first of an array by what they stand for.
-- Assumes nothing.
use mathlib.Core.Path.{◌≡◌, refl, sym, ap, subst, ◌∙◌}
use mathlib.Core.Bool.{Bool, true, false, ◌||◌}
use mathlib.Core.List.{List, [], ◌∷◌, ◌++◌, map}
use Prim.Native.Nat.{ℕ, zero, suc, ◌+◌, ◌-◌, ◌≤◌, ◌<◌}
use native.Mathlib.Nat.{not-suc-le-zero, le_of_suc-le-suc}
use native.Mathlib.Numerals.{add-one}
use native.Mathlib.Omega.{arith}
use lib.ListN.{length, take, get_or, set, length-take, length-map}
use lib.Seq.{take-suc-set}
use lib.Dec.{leb, eqb}
use Rattle.meaning.specs.Lists.{all, up_to}
use Rattle.meaning.proofs.Laws.Base.{both, decide, leb_le, le_leb, leb_gt, eqb_eq, eqb_ne, and_l, and_r}
use Rattle.meaning.proofs.Laws.Area.{up_to_more}

pub leb_iff : (a b c d : ℕ) → (a ≤ b → c ≤ d) → (c ≤ d → a ≤ b) → leb a b ≡ leb c d
leb_iff a b c d f g =
    decide (leb a b)
    (λ e. e ∙ sym (le_leb (f (leb_le e))))
    (λ e. e ∙ sym (decide (leb c d)
    (λ h. let p : a ≤ b = g (leb_le h) in let q : b < a = leb_gt e in absurd (omega arith))
    (λ h. h)))

pub or_true : (a : Bool) → a || true ≡ true
or_true true = refl
or_true false = refl

pub or_none : (a b : Bool) → a || b ≡ false → (a ≡ false) × (b ≡ false)
or_none true b e = absurd (both refl e)
or_none false b e = (refl, e)

pub map_append : {A B : Type 0} (f : A → B) (xs ys : List A) → map f (xs ++ ys) ≡ map f xs ++ map f ys
map_append f [] ys = refl
map_append f (x ∷ xs) ys = ap (λ l. f x ∷ l) (map_append f xs ys)

-- ---- an array of structs, the first n of them, each by what it stands for

module _ {A B : Type 0} (f : A → B) (xs : List A) (n : ℕ) (fits : n ≤ length xs) where
  pub counted : length (map f (take n xs)) ≡ n
  counted = simp (length-map, length-take) (omega arith)

-- ---- an array that is filled from the front

module _ {A B : Type 0} (g : A → B) (f : ℕ → B) (out : List A) (i : ℕ) (v : A) where
  pub filled : i < length out → map g (take i out) ≡ up_to i f → g v ≡ f i → map g (take (i + 1) (set out i v)) ≡ up_to (i + 1) f
  filled h e w = rw (up_to_more, add-one, take-suc-set out i v, map_append, e, w)

pub map_id : {A : Type 0} (xs : List A) → map (λ x. x) xs ≡ xs
map_id [] = refl
map_id (x ∷ xs) = ap (λ l. x ∷ l) (map_id xs)

pub map_up_to : {A B : Type 0} (g : A → B) (n : ℕ) (f : ℕ → A) → map g (up_to n f) ≡ up_to n (λ k. g (f k))
unfolding up_to
map_up_to g zero f = refl
map_up_to g (suc n) f = ap (λ l. g (f 0) ∷ l) (map_up_to g n (λ k. f (suc k)))

pub up_to_all : (p : ℕ → Bool) (n : ℕ) (f : ℕ → ℕ) → all p (up_to n f) ≡ true → (i : ℕ) → i < n → p (f i) ≡ true
unfolding up_to
up_to_all p zero f e i h = absurd (not-suc-le-zero h)
up_to_all p (suc n) f e zero h = and_l (p (f 0)) (all p (up_to n (λ j. f (suc j)))) e
up_to_all p (suc n) f e (suc i) h = up_to_all p n (λ j. f (suc j)) (and_r (p (f 0)) (all p (up_to n (λ j. f (suc j)))) e) i (le_of_suc-le-suc h)

-- a number that is n or more, and not n
pub up : (n k : ℕ) → n ≤ k → (k ≡ n → ⊥) → n + 1 ≤ k
up n k h e = omega arith

pub within_list : {A B : Type 0} (f : A → B) (d : A) (e : B) (xs : List A) (k : ℕ) → k < length xs → get_or (map f xs) k e ≡ f (get_or xs k d)
within_list f d e [] k h = absurd (not-suc-le-zero h)
within_list f d e (x ∷ xs) zero h = refl
within_list f d e (x ∷ xs) (suc k) h = within_list f d e xs k (le_of_suc-le-suc h)

-- ---- what holds of each number below n, shown one by one

abbrev pub Every : (ℕ → Type 0) → ℕ → Type 0
Every P zero = Unit {0}
Every P (suc n) = Every P n × P n

pub every_at : (P : ℕ → Type 0) (n : ℕ) → Every P n → (i : ℕ) → i < n → P i
every_at P zero e i h = absurd (not-suc-le-zero h)
every_at P (suc n) e i h =
    decide (eqb i n)
    (λ q. subst P (sym (eqb_eq q)) e.1)
    (λ q. let d : (i ≡ n → ⊥) = eqb_ne q in every_at P n e.0 i (omega arith))

-- the same of the n numbers from a on
pub ranged : (P : ℕ → Type 0) (a n : ℕ) → Every (λ i. P (a + i)) n → (k : ℕ) → a ≤ k → k < a + n → P k
ranged P a n e k l h = let w : a + (k - a) ≡ k = omega arith in subst P w (every_at (λ i. P (a + i)) n e (k - a) (omega arith))
