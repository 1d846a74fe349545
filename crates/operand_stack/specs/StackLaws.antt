-- Laws of the stack in its array, of takings and of pushes.
use Prim.Native.Nat.{ℕ, zero, suc, ◌+◌, ◌≤◌, ◌<◌, min}
use Rattle.std.specs.Prelude.{◌≡◌, Bool, ◌++◌, length, drop, get_or, replicate}
use Rattle.std.proofs.Math.Path.{refl, ap}
use Rattle.std.proofs.Common.{sym, ◌∙◌, not-suc-le-zero, le_of_suc-le-suc, append_assoc, length-take, take-suc}
use Rattle.std.proofs.Math.Bool.{true, false}
use mathlib.Core.List.{List, [], ◌∷◌, map, map-append, reverse, reverse-append}
use native.Mathlib.Omega.{arith}
use borrow.Author.Tests.{lt-ltb, ltb-true}
use Rattle.std.proofs.Math.Dec.{ltb}
use Rattle.std.proofs.Math.ListN.{take, length-map}
use Rattle.std.proofs.lemmas.List.{length-reverse, reverse-reverse, append-nil, take_min}
use Rattle.std.proofs.Math.Seq.{take-add}
use Rattle.meaning.specs.Answers.{Outcome, done, refused, then, needs}
use Rattle.meaning.specs.AbstractState.{Operand, non_ref, reference, of_value}
use Rattle.meaning.specs.EntryPoints.{Running, value_for}
use Rattle.meaning.specs.Steps.{Machine, pop, pop_ref, pop_values, pop_many, push, push_all, push_new}
use Rattle.abstract_state.specs.Models.{operand_in, operands_in}
use Rattle.operand_stack.specs.Models.{stack_in, taken, pop_one, pop_one_ref, pop_some, pop_rest, pop_under, push_each}

-- ---- the array

-- operands above others
pub stack_above : (xs zs ys : List ℕ) (k n : ℕ) → take n zs ≡ take k xs ++ ys → stack_in zs n ≡ reverse (map operand_in ys) ++ stack_in xs k
unfolding stack_in operands_in
stack_above xs zs ys k n e =
    ap (λ (l : List ℕ). reverse (map operand_in l)) e
    ∙ ap reverse (map-append operand_in (take k xs) ys)
    ∙ reverse-append (map operand_in (take k xs)) (map operand_in ys)

pub stack_at : (xs : List ℕ) (k : ℕ) → k < length xs → stack_in xs (suc k) ≡ operand_in (get_or xs k 0) ∷ stack_in xs k
stack_at xs k h = stack_above xs xs (get_or xs k 0 ∷ []) k (suc k) (take-suc xs k 0 h)

module _ (xs : List ℕ) (n : ℕ) where
  pub stack_length : length (stack_in xs n) ≡ min n (length xs)
  unfolding stack_in operands_in
  stack_length = simp (length-reverse, length-map, length-take)

  -- a count beyond the array's length reads as the length
  pub stack_cut : (m : ℕ) → length xs ≡ 16 → m ≡ min n 16 → stack_in xs n ≡ stack_in xs m
  unfolding stack_in operands_in
  stack_cut m h e = ap (λ (ws : List ℕ). reverse (map operand_in ws)) (sym (take_min n xs) ∙ ap (λ (k : ℕ). take k xs) (let q : min n (length xs) ≡ m = omega arith in q))

reverse_onto : {A : Type 0} (x : A) (xs ys : List A) → reverse (x ∷ xs) ++ ys ≡ reverse xs ++ (x ∷ ys)
reverse_onto x xs ys = ap (λ l. l ++ ys) (reverse-append (x ∷ []) xs) ∙ append_assoc (reverse xs) (x ∷ []) ys

pub stack_none : (xs : List ℕ) → stack_in xs 0 ≡ []
unfolding stack_in operands_in
stack_none xs = refl

-- ---- takings, and what is done with what they take

module _ {A : Type 0} where
  pub pop_then : (vs : List Operand) (k : Operand → List Operand → Outcome A) → then (pop_one vs) (λ t. k t.what t.rest) ≡ pop vs k
  pop_then [] k = refl
  pop_then (v ∷ vs) k = refl

  pub ref_then : (vs : List Operand) (k : ℕ → List Operand → Outcome A) → then (pop_one_ref vs) (λ t. k t.what t.rest) ≡ pop_ref vs k
  ref_then [] k = refl
  ref_then (non_ref ∷ vs) k = refl
  ref_then (reference n ∷ vs) k = refl

  pub rest_then : (n : ℕ) (vs : List Operand) (k : List Operand → Outcome A) → then (pop_rest n vs) k ≡ pop_values n vs k
  unfolding pop_values
  rest_then zero vs k = refl
  rest_then (suc n) [] k = refl
  rest_then (suc n) (non_ref ∷ vs) k = rest_then n vs k
  rest_then (suc n) (reference m ∷ vs) k = refl

  pub under_then : (n : ℕ) (vs : List Operand) (k : Operand → List Operand → Outcome A) → then (pop_under n vs) (λ t. k t.what t.rest) ≡ pop_values n vs (λ ws. pop ws k)
  unfolding pop_values
  under_then zero vs k = pop_then vs k
  under_then (suc n) [] k = refl
  under_then (suc n) (non_ref ∷ vs) k = under_then n vs k
  under_then (suc n) (reference m ∷ vs) k = refl

  pub many_then : (n : ℕ) (as' vs : List Operand) (k : List Operand → List Operand → Outcome A) → then (pop_many n as' vs taken) (λ t. k t.what t.rest) ≡ pop_many n as' vs k
  unfolding pop_many
  many_then zero as' vs k = refl
  many_then (suc n) as' [] k = refl
  many_then (suc n) as' (v ∷ vs) k = many_then n (v ∷ as') vs k

pub many_short : {A : Type 0} (n : ℕ) (as' vs : List Operand) (k : List Operand → List Operand → Outcome A) → length vs < n → pop_many n as' vs k ≡ refused 10
unfolding pop_many
many_short zero as' vs k h = absurd (not-suc-le-zero h)
many_short (suc n) as' [] k h = refl
many_short (suc n) as' (v ∷ vs) k h = many_short n (v ∷ as') vs k (le_of_suc-le-suc h)

-- ---- the loop that takes values

module _ (xs : List ℕ) (left l : ℕ) (e : left ≡ suc l) (o : Outcome (List Operand)) where
  pub values_out : (k : ℕ) → k ≡ 0 → pop_rest left (stack_in xs k) ≡ o → refused 10 ≡ o
  unfolding pop_values
  values_out k z i = ap (pop_rest (suc l)) (sym (ap (stack_in xs) z ∙ stack_none xs)) ∙ ap (λ (m : ℕ). pop_rest m (stack_in xs k)) (sym e) ∙ i

  module _ (k j : ℕ) (f : k ≡ suc j) (h : k ≤ length xs) (i : pop_rest left (stack_in xs k) ≡ o) where
    top : pop_rest (suc l) (operand_in (get_or xs j 0) ∷ stack_in xs j) ≡ o
    top = ap (pop_rest (suc l)) (sym (ap (stack_in xs) f ∙ stack_at xs j (omega arith))) ∙ ap (λ (m : ℕ). pop_rest m (stack_in xs k)) (sym e) ∙ i

    pub values_ref : (n : ℕ) → operand_in (get_or xs j 0) ≡ reference n → refused 11 ≡ o
    unfolding pop_values
    values_ref n v = ap (λ (w : Operand). pop_rest (suc l) (w ∷ stack_in xs j)) (sym v) ∙ top

    pub values_turn : operand_in (get_or xs j 0) ≡ non_ref → pop_rest l (stack_in xs j) ≡ o
    unfolding pop_values
    values_turn v = ap (λ (w : Operand). pop_rest (suc l) (w ∷ stack_in xs j)) (sym v) ∙ top

-- ---- operands of any kind

many_all : {A : Type 0} (zs as' vs : List Operand) (k : List Operand → List Operand → Outcome A) → pop_many (length zs) as' (zs ++ vs) k ≡ k (reverse zs ++ as') vs
unfolding pop_many
many_all [] as' vs k = refl
many_all (z ∷ zs) as' vs k = many_all zs (z ∷ as') vs k ∙ ap (λ (ws : List Operand). k ws vs) (sym (reverse_onto z zs as'))

pub many_taken : (xs ys ws : List ℕ) (u n : ℕ) → take n ys ≡ ws → take n (drop u xs) ≡ ws → length ws ≡ n → taken (operands_in ys n) (stack_in xs u) ≡ pop_some n (stack_in xs (u + n))
unfolding operands_in
many_taken xs ys ws u n d e h =
    let zs = reverse (map operand_in ws) in
    let l : length zs ≡ n = length-reverse (map operand_in ws) ∙ length-map ws operand_in ∙ h in
    ap (λ (vs : List Operand). taken vs (stack_in xs u)) (ap (map operand_in) d ∙ sym (append-nil (reverse zs) ∙ reverse-reverse (map operand_in ws)))
    ∙ sym (ap (pop_some n) (stack_above xs xs ws u (u + n) (take-add u n xs ∙ ap (λ (vs : List ℕ). take u xs ++ vs) e)) ∙ ap (λ (m : ℕ). pop_some m (zs ++ stack_in xs u)) (sym l) ∙ many_all zs [] (stack_in xs u) taken)

-- ---- pushes

pub push_fits : (ws vs : List Operand) → length vs + length ws ≤ 16 → done (reverse ws ++ vs) ≡ push_each vs ws
unfolding push_each
push_fits [] vs h = refl
push_fits (w ∷ ws) vs h = rw (lt-ltb (length vs) 16 (omega arith)) (ap done (reverse_onto w ws vs) ∙ push_fits ws (w ∷ vs) (omega arith))

pub push_full : (ws vs : List Operand) → length vs ≤ 16 → 16 < length vs + length ws → refused 20 ≡ push_each vs ws
unfolding push_each
push_full [] vs g h = absurd (omega arith)
push_full (w ∷ ws) vs g h = go (ltb (length vs) 16) (λ e. push_full ws (w ∷ vs) (ltb-true (length vs) 16 e) (omega arith))
  where
    go : (b : Bool) → (b ≡ true → refused 20 ≡ push_each (w ∷ vs) ws) → refused 20 ≡ needs b 20 (push_each (w ∷ vs) ws)
    go true h = h refl
    go false h = refl

-- words written onto those that count
pub pushed_on : (xs zs ys : List ℕ) (d k n : ℕ) → length xs ≡ 16 → k ≡ min d 16 → take n zs ≡ take k xs ++ ys → k + length ys ≤ 16 → done (stack_in zs n) ≡ push_each (stack_in xs d) (map operand_in ys)
pushed_on xs zs ys d k n l e w h =
    ap done (stack_above xs zs ys k n w ∙ ap (λ (vs : List Operand). reverse (map operand_in ys) ++ vs) (sym (stack_cut xs d k l e)))
    ∙ push_fits (map operand_in ys) (stack_in xs d) (omega (arith, stack_length xs d, length-map ys operand_in))

pub each_then : (vs ws : List Operand) (r : Running) → then {B = Machine} (push_each vs ws) (λ us. done (record { state = r; stack = us })) ≡ push_all vs ws r
unfolding push_each push_all push
each_then vs [] r = refl
each_then vs (w ∷ ws) r = go (ltb (length vs) 16) (each_then (w ∷ vs) ws r)
  where
    go : (b : Bool) → then {B = Machine} (push_each (w ∷ vs) ws) (λ us. done (record { state = r; stack = us })) ≡ push_all (w ∷ vs) ws r
        → then {B = Machine} (needs b 20 (push_each (w ∷ vs) ws)) (λ us. done (record { state = r; stack = us })) ≡ then {A = Machine} (needs b 20 (done (record { state = r; stack = w ∷ vs }))) (λ m. push_all m.stack ws m.state)
    go true h = h
    go false h = refl

pub one_then : (vs : List Operand) (w : Operand) (r : Running) → push_all vs (w ∷ []) r ≡ push vs w r
unfolding push_all push
one_then vs w r = go (ltb (length vs) 16)
  where
    go : (b : Bool) → then {A = Machine} {B = Machine} (needs b 20 (done (record { state = r; stack = w ∷ vs }))) (λ m. done (record { state = m.state; stack = m.stack })) ≡ needs b 20 (done (record { state = r; stack = w ∷ vs }))
    go true = refl
    go false = refl

pub new_values : (n : ℕ) (vs : List Operand) (r : Running) → push_all vs (replicate n non_ref) r ≡ push_new n of_value vs r
unfolding push_all push_new push value_for
new_values zero vs r = refl
new_values (suc n) vs r = go (ltb (length vs) 16) (new_values n (non_ref ∷ vs) r)
  where
    go : (b : Bool) → push_all (non_ref ∷ vs) (replicate n non_ref) r ≡ push_new n of_value (non_ref ∷ vs) r
        → then {A = Machine} (needs b 20 (done (record { state = r; stack = non_ref ∷ vs }))) (λ m. push_all m.stack (replicate n non_ref) m.state)
        ≡ then {A = Machine} (needs b 20 (done (record { state = r; stack = non_ref ∷ vs }))) (λ m. push_new n of_value m.stack m.state)
    go true h = h
    go false h = refl
