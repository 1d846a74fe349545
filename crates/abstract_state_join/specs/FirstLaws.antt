-- The first state, local by local and name by name.
use Rattle.std.specs.Prelude.{ℕ, zero, suc, ◌+◌, ◌-◌, ◌≤◌, ◌<◌, min, ◌≡◌, refl, true, false, List, [], ◌∷◌, map, leb, length, take, drop, get_or}
use Rattle.std.proofs.Common.{arith, add-one, sym, ◌∙◌, drop-cons, drop_of_length-le, get_or-take, length-take}
use Rattle.std.proofs.Math.Path.{ap}
use Rattle.std.proofs.lemmas.Bool.{false≢true, true≢false}
use Rattle.std.proofs.lemmas.List.{length-map, get_or-map}
use Rattle.meaning.proofs.Laws.Base.{decide, leb_le, leb_gt}
use Rattle.meaning.specs.BorrowGraph.{Name, Graph, well_formed}
use Rattle.meaning.specs.AbstractState as S
use Rattle.meaning.specs.AbstractState.{Token, of_value, of_ref, first_locals, first_names, first_state}
use Rattle.meaning.specs.EntryPoints.{Running}
use Rattle.meaning.specs.Listing.{token_as}
use denote.Enum.Bare.{sameb}
use Rattle.file_format.specs.contracts.SignatureToken.{the_type}
use Rattle.file_format.specs.declared.SignatureToken.{SignatureToken}
use Rattle.file_format.specs.declared.SignatureToken.TheVariants.{Value, Reference, MutableReference}
use Rattle.file_format.specs.Models.{token_of}
use Rattle.meaning.proofs.Laws.First.{first_strong}
use Rattle.abstract_state_join.specs.Models.{first_at, first_running}

-- ---- tokens

-- the token at an index, and those behind it
token_step : (ps : List ℕ) (i : ℕ) (t : SignatureToken) → i < length ps → token_of t ≡ token_as (get_or ps i 0) → drop i (map token_as ps) ≡ token_of t ∷ drop (i + 1) (map token_as ps)
token_step ps i t h e =
    let k : i < length (map token_as ps) = simp length-map h in
    rw (add-one, e) (drop-cons (map token_as ps) i of_value k ∙ ap (λ (u : Token). u ∷ drop (suc i) (map token_as ps)) (get_or-map token_as ps i 0 of_value h))

-- the same, where the loop goes over the first m
pub taken_step : (m : ℕ) (ps : List ℕ) (i : ℕ) (t : SignatureToken) → i < length (take m ps) → token_of t ≡ token_as (get_or (take m ps) i 0) → drop i (map token_as ps) ≡ token_of t ∷ drop (i + 1) (map token_as ps)
taken_step m ps i t h e =
    let k : i < min m (length ps) = simp length-take at h in
    token_step ps i t (omega arith) (e ∙ ap token_as (get_or-take m ps i 0 (omega arith)))

token_end : (ps : List ℕ) (i : ℕ) → length ps ≤ i → drop i (map token_as ps) ≡ []
token_end ps i h = let k : length (map token_as ps) ≤ i = simp length-map h in drop_of_length-le (map token_as ps) k

abbrev pub tail : {A : Type 0} → List A → List A
tail [] = []
tail (x ∷ xs) = xs

drop_tail : {A : Type 0} (i : ℕ) (xs : List A) → drop (suc i) xs ≡ tail (drop i xs)
drop_tail zero [] = refl
drop_tail zero (x ∷ xs) = refl
drop_tail (suc i) [] = refl
drop_tail (suc i) (x ∷ xs) = drop_tail i xs

-- ---- locals

-- a parameter's local: a value's, a reference's
pub at_value : (ps : List ℕ) (i : ℕ) (t : SignatureToken) → i < length ps → token_of t ≡ token_as (get_or ps i 0) → t ≡ Value → S.Local.value ≡ first_at i (drop i (map token_as ps))
at_value ps i t h e q = rw (token_step ps i t h e, q)

at_token : (i : ℕ) (t : SignatureToken) (ts : List Token) → (t ≡ Value → ⊥) → S.Local.ref i ≡ first_at i (token_of t ∷ ts)
at_token i Value ts other = absurd (other refl)
at_token i Reference ts other = refl
at_token i MutableReference ts other = refl

pub at_reference : (ps : List ℕ) (i : ℕ) (t : SignatureToken) → i < length ps → token_of t ≡ token_as (get_or ps i 0) → (t ≡ Value → ⊥) → S.Local.ref i ≡ first_at i (drop i (map token_as ps))
at_reference ps i t h e other = rw (token_step ps i t h e) (at_token i t _ other)

local_next : (i n : ℕ) (ts : List Token) → first_locals i (suc n) ts ≡ first_at i ts ∷ first_locals (suc i) n (tail ts)
unfolding first_locals
local_next i n [] = refl
local_next i n (of_value ∷ ts) = refl
local_next i n (of_ref m ∷ ts) = refl

pub local_step : (i n : ℕ) (ts : List Token) → i < n → first_locals i (n - i) (drop i ts) ≡ first_at i (drop i ts) ∷ first_locals (i + 1) (n - (i + 1)) (drop (i + 1) ts)
local_step i n ts h =
    let e : n - i ≡ suc (n - (i + 1)) = omega arith in
    ap (λ (k : ℕ). first_locals i k (drop i ts)) e ∙ local_next i (n - (i + 1)) (drop i ts)
    ∙ ap (λ (us : List Token). first_at i (drop i ts) ∷ first_locals (suc i) (n - (i + 1)) us) (sym (drop_tail i ts))
    ∙ rw (add-one i)

pub local_end : (i n : ℕ) (ts : List Token) → n ≤ i → first_locals i (n - i) ts ≡ []
unfolding first_locals
local_end i n ts h = let e : n - i ≡ 0 = omega arith in ap (λ (k : ℕ). first_locals i k ts) e

-- ---- names

abbrev pub bare : List Name → Graph
bare ns = record { names = ns; edges = [] }

-- what a parameter's kind is, by the tests of the loop
is_value : (t : SignatureToken) → sameb the_type t Value ≡ true → token_of t ≡ of_value
is_value Value e = refl
is_value Reference e = absurd (false≢true e)
is_value MutableReference e = absurd (false≢true e)

is_reference : (t : SignatureToken) → sameb the_type t Value ≡ false → token_of t ≡ of_ref (sameb the_type t MutableReference)
is_reference Value e = absurd (true≢false e)
is_reference Reference e = refl
is_reference MutableReference e = refl

-- a turn of the loop: a value, a reference
module _ (i n : ℕ) (t : SignatureToken) (ts rest : List Token) (h : i < n) (e : ts ≡ token_of t ∷ rest) where
  opened : (u : Token) → token_of t ≡ u → first_names i (n - i) ts ≡ first_names i (suc (n - (i + 1))) (u ∷ rest)
  opened u q = let z : n - i ≡ suc (n - (i + 1)) = omega arith in rw (z, e, q)

  pub pass_value : sameb the_type t Value ≡ true → first_names i (n - i) ts ≡ first_names (i + 1) (n - (i + 1)) rest
  unfolding first_names
  pass_value z = opened of_value (is_value t z) ∙ rw (add-one i)

  pub pass_reference : sameb the_type t Value ≡ false → first_names i (n - i) ts ≡ record { id = i; mutable = sameb the_type t MutableReference } ∷ first_names (i + 1) (n - (i + 1)) rest
  unfolding first_names
  pass_reference z = opened (of_ref (sameb the_type t MutableReference)) (is_reference t z) ∙ rw (add-one i)

-- no parameter is left: the root
root_only : (i n : ℕ) → first_names i n [] ≡ record { id = i + n; mutable = true } ∷ []
unfolding first_names
root_only i zero = let e : i ≡ i + 0 = omega arith in ap (λ (k : ℕ). record { id = k; mutable = true } ∷ []) e
root_only i (suc n) = let e : suc i + n ≡ i + suc n = omega arith in root_only (suc i) n ∙ ap (λ (k : ℕ). record { id = k; mutable = true } ∷ []) e

pub root_last : (i n : ℕ) (ps : List ℕ) → i ≡ min n (length ps) → first_names i (n - i) (drop i (map token_as ps)) ≡ record { id = n; mutable = true } ∷ []
unfolding first_names
root_last i n ps e =
    let ts : List Token = drop i (map token_as ps) in
    decide (leb n i)
    (λ t. let h : n ≤ i = leb_le t in
    let z : i ≡ n = omega arith in
    let y : n - i ≡ 0 = omega arith in
    ap (λ (j : ℕ). first_names i j ts) y ∙ ap (λ (j : ℕ). record { id = j; mutable = true } ∷ []) z)
    (λ t. let h : i < n = leb_gt t in
    let c : length ps ≤ i = omega arith in
    let z : i + (n - i) ≡ n = omega arith in
    ap (λ (us : List Token). first_names i (n - i) us) (token_end ps i c) ∙ root_only i (n - i) ∙ ap (λ (j : ℕ). record { id = j; mutable = true } ∷ []) z)

pub first_formed : (n : ℕ) (ts : List Token) → n ≤ 16 → well_formed (bare (first_names 0 n ts)) ≡ true
unfolding first_state
first_formed n ts h = (first_strong n ts h).form.formed

-- ---- the state

pub first_made : (n l : ℕ) (ts : List Token) (xs : List S.Local) (g : Graph) → n ≡ l → xs ≡ first_locals 0 n ts → g ≡ bare (first_names 0 n ts)
    → ◌≡◌ {A = Running} (record { locals = xs; graph = g; next = n + 1; root = n; blurs = 0; offset = 0 }) (first_running l ts)
unfolding first_running first_state
first_made n l ts xs g e p q =
    (λ i. record { locals = p i; graph = q i; next = add-one n i; root = n; blurs = 0; offset = 0 }) ∙ ap (λ (k : ℕ). first_running k ts) e
