-- Answers that may be refusals, tests over lists, sums over a range.
use Rattle.std.specs.Prelude.{ℕ, ◌≤◌, ◌<◌, zero, suc, ◌*◌, Bool, true, false, ◌&&◌, ◌||◌, not, cond, List, [], ◌∷◌, ◌++◌, ◌⊎◌, ◌≢◌, ◌≡◌, refl, T, eqb, leb, ltb}
use Rattle.std.proofs.Common.{zero-le, arith, true≢false, inl, inr, sym, subst, ap, ◌∙◌, not-suc-le-zero, eqb→eq, leb→le, le→leb, ltb→lt}
use Rattle.std.proofs.lemmas.Bool.{false≢true}
use Rattle.std.specs.Bool.{beq}
use Rattle.std.proofs.Math.Dec.{eqb_refl, nleb→lt}
use Rattle.meaning.specs.Answers.{Ans, ok, refuse, leaves, and_then, guard}
use Rattle.meaning.specs.Lists.{all, any, keep, each, sum}

abbrev IsOk : {A : Type 0} → Ans A → Type 0
IsOk (ok a) = Unit {0}
IsOk (refuse n) = ⊥

pub refuse≢ok : {A : Type 0} {n : ℕ} {a : A} → refuse n ≡ ok a → ⊥
refuse≢ok e = subst IsOk (sym e) tt

abbrev from_ok : {A : Type 0} → A → Ans A → A
from_ok d (ok a) = a
from_ok d (refuse n) = d

pub ok_inj : {A : Type 0} {a b : A} → ok a ≡ ok b → a ≡ b
ok_inj {a = a} e = ap (from_ok a) e

-- a call that answers leaves its answer; one that is refused leaves what it got
pub answered : {A : Type 0} (s t : A) (a : Ans A) → a ≡ ok t → (ok t ≡ a) × (t ≡ leaves s a)
answered {A} s t a e = (sym e, sym (ap (λ (b : Ans A). leaves s b) e))

pub declined : {A : Type 0} (s : A) (n : ℕ) (a : Ans A) → a ≡ refuse n → (refuse n ≡ a) × (s ≡ leaves s a)
declined {A} s n a e = (sym e, sym (ap (λ (b : Ans A). leaves s b) e))

-- an answer that is no refusal had each of its parts answered
pub and_then_ok : {A B : Type 0} (x : Ans A) (f : A → Ans B) (r : B) → and_then x f ≡ ok r → (a : A) × (x ≡ ok a) × (f a ≡ ok r)
and_then_ok (ok a) f r e = (a, refl, e)
and_then_ok (refuse n) f r e = absurd (refuse≢ok e)

pub guard_ok : {A : Type 0} (b : Bool) (n : ℕ) (k : Ans A) (r : A) → guard b n k ≡ ok r → (b ≡ true) × (k ≡ ok r)
guard_ok true n k r e = (refl, e)
guard_ok false n k r e = absurd (refuse≢ok e)

-- ---- tests

pub decide {ℓ} : {X : Type ℓ} (b : Bool) → (b ≡ true → X) → (b ≡ false → X) → X
decide true f g = f refl
decide false f g = g refl

pub both : {b : Bool} → b ≡ true → b ≡ false → ⊥
both p q = true≢false (sym p ∙ q)

pub and_l : (a b : Bool) → a && b ≡ true → a ≡ true
and_l true b e = refl
and_l false b e = e

pub and_r : (a b : Bool) → a && b ≡ true → b ≡ true
and_r true b e = e
and_r false b e = absurd (false≢true e)

pub and_i : {a b : Bool} → a ≡ true → b ≡ true → a && b ≡ true
and_i {a} {b} p q = ap (λ (x : Bool). x && b) p ∙ q

pub and_no_l : (a b : Bool) → a ≡ false → a && b ≡ false
and_no_l a b e = ap (λ (x : Bool). x && b) e

pub and_no_r : (a b : Bool) → b ≡ false → a && b ≡ false
and_no_r true b e = e
and_no_r false b e = refl

pub and_not : (a : Bool) → a && not a ≡ false
and_not true = refl
and_not false = refl

pub or_cases : (a b : Bool) → a || b ≡ true → (a ≡ true) ⊎ (b ≡ true)
or_cases true b e = inl refl
or_cases false b e = inr e

pub or_l : {a : Bool} (b : Bool) → a ≡ true → a || b ≡ true
or_l b p = ap (λ (x : Bool). x || b) p

pub or_r : (a : Bool) {b : Bool} → b ≡ true → a || b ≡ true
or_r true p = refl
or_r false p = p

pub or_none : (a b : Bool) → a || b ≡ false → (a ≡ false) × (b ≡ false)
or_none true b e = absurd (false≢true (sym e))
or_none false b e = (refl, e)

pub or_no_l : (a b : Bool) → a || b ≡ false → a ≡ false
or_no_l a b e = (or_none a b e).0

pub or_no_r : (a b : Bool) → a || b ≡ false → b ≡ false
or_no_r a b e = (or_none a b e).1

pub or_false : (a : Bool) → a || false ≡ a
or_false true = refl
or_false false = refl

pub or_assoc : (a b c : Bool) → (a || b) || c ≡ a || (b || c)
or_assoc true b c = refl
or_assoc false b c = refl

pub not_true : {a : Bool} → not a ≡ true → a ≡ false
not_true {a = true} e = sym e
not_true {a = false} e = refl

pub not_no : {a : Bool} → not a ≡ false → a ≡ true
not_no {a = true} e = refl
not_no {a = false} e = sym e

pub not_false : {a : Bool} → a ≡ false → not a ≡ true
not_false e = ap not e

pub beq_eq : (a b : Bool) → beq a b ≡ true → a ≡ b
beq_eq true true e = refl
beq_eq true false e = absurd (false≢true e)
beq_eq false true e = absurd (false≢true e)
beq_eq false false e = refl

pub T→eq : (b : Bool) → T b → b ≡ true
T→eq true t = refl
T→eq false t = absurd t

pub eq→T : {b : Bool} → b ≡ true → T b
eq→T e = subst T (sym e) tt

pub eqb_eq : {m n : ℕ} → eqb m n ≡ true → m ≡ n
eqb_eq {m} {n} e = eqb→eq m n (eq→T e)

pub eqb_self : (n : ℕ) → eqb n n ≡ true
eqb_self n = T→eq (eqb n n) (eqb_refl n)

pub eqb_no : {m n : ℕ} → m ≢ n → eqb m n ≡ false
eqb_no {m} {n} h = decide (eqb m n) (λ e. absurd (h (eqb_eq e))) (λ e. e)

pub eqb_ne : {m n : ℕ} → eqb m n ≡ false → m ≢ n
eqb_ne {m} {n} e q = both (subst (λ (k : ℕ). eqb m k ≡ true) q (eqb_self m)) e

pub leb_le : {m n : ℕ} → leb m n ≡ true → m ≤ n
leb_le {m} {n} e = leb→le m n (eq→T e)

pub le_leb : {m n : ℕ} → m ≤ n → leb m n ≡ true
le_leb {m} {n} h = T→eq (leb m n) (le→leb m n h)

pub leb_gt : {m n : ℕ} → leb m n ≡ false → n < m
leb_gt {m} {n} e = nleb→lt m n (eq→T (ap not e))

pub ltb_irrefl : (n : ℕ) → ltb n n ≡ false
ltb_irrefl n = decide (ltb n n) (λ e. let h : n < n = ltb→lt n n (eq→T e) in absurd (omega arith)) (λ e. e)

-- ---- tests over a list

module _ {A : Type 0} where
  -- where none passes
  pub none_kept : (f : A → Bool) (xs : List A) → any f xs ≡ false → keep f xs ≡ []
  none_kept f [] e = refl
  none_kept f (x ∷ xs) e = ap (λ (b : Bool). cond b (x ∷ keep f xs) (keep f xs)) (or_none (f x) (any f xs) e).0 ∙ none_kept f xs (or_none (f x) (any f xs) e).1

  pub none_lost : (f : A → Bool) (xs : List A) → any f xs ≡ false → keep (λ x. not (f x)) xs ≡ xs
  none_lost f [] e = refl
  none_lost f (x ∷ xs) e =
      ap (λ (b : Bool). cond (not b) (x ∷ keep (λ y. not (f y)) xs) (keep (λ y. not (f y)) xs)) (or_none (f x) (any f xs) e).0
      ∙ ap (λ (r : List A). x ∷ r) (none_lost f xs (or_none (f x) (any f xs) e).1)

  pub all_append : (f : A → Bool) (xs ys : List A) → all f xs ≡ true → all f ys ≡ true → all f (xs ++ ys) ≡ true
  all_append f [] ys p q = q
  all_append f (x ∷ xs) ys p q = and_i (and_l (f x) (all f xs) p) (all_append f xs ys (and_r (f x) (all f xs) p) q)

  pub all_imp : (f g : A → Bool) → ((x : A) → f x ≡ true → g x ≡ true) → (xs : List A) → all f xs ≡ true → all g xs ≡ true
  all_imp f g h [] p = refl
  all_imp f g h (x ∷ xs) p = and_i (h x (and_l (f x) (all f xs) p)) (all_imp f g h xs (and_r (f x) (all f xs) p))

  pub all_and : (f g : A → Bool) (xs : List A) → all f xs ≡ true → all g xs ≡ true → all (λ x. f x && g x) xs ≡ true
  all_and f g [] p q = refl
  all_and f g (x ∷ xs) p q =
      and_i (and_i (and_l (f x) (all f xs) p) (and_l (g x) (all g xs) q)) (all_and f g xs (and_r (f x) (all f xs) p) (and_r (g x) (all g xs) q))

  cond_all : (f : A → Bool) (b : Bool) (x : A) (ys : List A) → f x ≡ true → all f ys ≡ true → all f (cond b (x ∷ ys) ys) ≡ true
  cond_all f true x ys p q = and_i p q
  cond_all f false x ys p q = q

  pub all_keep : (f q : A → Bool) (xs : List A) → all f xs ≡ true → all f (keep q xs) ≡ true
  all_keep f q [] p = refl
  all_keep f q (x ∷ xs) p = cond_all f (q x) x (keep q xs) (and_l (f x) (all f xs) p) (all_keep f q xs (and_r (f x) (all f xs) p))

  -- what was kept passed the test
  keep_cond : (q : A → Bool) (b : Bool) (x : A) (ys : List A) → q x ≡ b → all q ys ≡ true → all q (cond b (x ∷ ys) ys) ≡ true
  keep_cond q true x ys p h = and_i p h
  keep_cond q false x ys p h = h

  pub keep_passes : (q : A → Bool) (xs : List A) → all q (keep q xs) ≡ true
  keep_passes q [] = refl
  keep_passes q (x ∷ xs) = keep_cond q (q x) x (keep q xs) refl (keep_passes q xs)

pub all_each : {A B : Type 0} (q : A → Bool) (f : B → Bool) (h : A → List B) → ((x : A) → q x ≡ true → all f (h x) ≡ true)
    → (xs : List A) → all q xs ≡ true → all f (each xs h) ≡ true
all_each q f h k [] p = refl
all_each q f h k (x ∷ xs) p =
    all_append f (h x) (each xs h) (k x (and_l (q x) (all q xs) p)) (all_each q f h k xs (and_r (q x) (all q xs) p))

pub all_yes : {A : Type 0} (xs : List A) → all (λ x. true) xs ≡ true
all_yes [] = refl
all_yes (x ∷ xs) = all_yes xs

pub sum_le : (n : ℕ) (f g : ℕ → ℕ) → ((i : ℕ) → i < n → f i ≤ g i) → sum n f ≤ sum n g
sum_le zero f g h = zero-le
sum_le (suc n) f g h =
    let a : sum n f ≤ sum n g = sum_le n f g (λ i k. h i (omega arith)) in
    let b : f n ≤ g n = h n (omega arith) in
    omega arith

-- where one of the terms is less, the sum is
pub sum_lt : (n : ℕ) (f g : ℕ → ℕ) → ((i : ℕ) → i < n → f i ≤ g i) → (j : ℕ) → j < n → f j < g j → sum n f < sum n g
sum_lt zero f g h j k l = absurd (not-suc-le-zero k)
sum_lt (suc n) f g h j k l =
    decide (eqb j n)
    (λ e. let a : sum n f ≤ sum n g = sum_le n f g (λ i m. h i (omega arith)) in
    let b : f n < g n = subst (λ (i : ℕ). f i < g i) (eqb_eq e) l in
    omega arith)
    (λ e. let d : j ≢ n = eqb_ne e in
    let a : sum n f < sum n g = sum_lt n f g (λ i m. h i (omega arith)) j (omega arith) l in
    let b : f n ≤ g n = h n (omega arith) in
    omega arith)

-- n terms, none over k
pub sum_bound : (n k : ℕ) (f : ℕ → ℕ) → ((i : ℕ) → i < n → f i ≤ k) → sum n f ≤ k * n
sum_bound zero k f h = zero-le
sum_bound (suc n) k f h =
    let a : sum n f ≤ k * n = sum_bound n k f (λ i m. h i (omega arith)) in
    let b : f n ≤ k = h n (omega arith) in
    omega arith

-- n + 1 terms, none over k, one of them 0
pub sum_bound_but : (n k : ℕ) (f : ℕ → ℕ) → ((i : ℕ) → i < suc n → f i ≤ k) → (c : ℕ) → c < suc n → f c ≡ 0 → sum (suc n) f ≤ k * n
sum_bound_but zero k f h c l e =
    let d : c ≡ 0 = omega arith in
    let z : f 0 ≡ 0 = subst (λ (i : ℕ). f i ≡ 0) d e in
    omega arith
sum_bound_but (suc n) k f h c l e =
    decide (eqb c (suc n))
    (λ q. let z : f (suc n) ≡ 0 = subst (λ (i : ℕ). f i ≡ 0) (eqb_eq q) e in
    let a : sum (suc n) f ≤ k * suc n = sum_bound (suc n) k f (λ i m. h i (omega arith)) in
    omega arith)
    (λ q. let d : c ≢ suc n = eqb_ne q in
    let a : sum (suc n) f ≤ k * n = sum_bound_but n k f (λ i m. h i (omega arith)) c (omega arith) e in
    let b : f (suc n) ≤ k = h (suc n) (omega arith) in
    omega arith)
