-- The models read and written one element at a time.
use Rattle.std.specs.Prelude.{◌≡◌, ℕ, suc, ◌+◌, ◌<◌, ◌≤◌, List, [], ◌∷◌, ◌++◌, map, length, take, drop, slice_index_or, slice_set}
use Rattle.std.specs.Prelude.{refl}
use Rattle.std.proofs.Common.{sym, ap, ◌∙◌, append-nil, drop_of_length-le, drop-cons, get_or-take, add-one, arith}
use Rattle.std.proofs.lemmas.List.{length-map}
use Rattle.std.proofs.Math.ListN.{get_or-map}
use Rattle.meaning.specs.AbstractState.{Operand}
use Rattle.meaning.proofs.Laws.Array.{push_map}
use Rattle.references.specs.declared.RefID.{RefID}
use Rattle.abstract_state.specs.Models.{operand_in, operands_in}
use Rattle.abstract_state_calls.specs.Models.{id_of, ids_of}

-- what lies past the end of an array
abbrev pub no_id : RefID
no_id = record { 0 = 0 }

-- what an array's elements stand for, one by one
pub map_step : {A B : Type 0} (f : A → B) (l : List A) (i : ℕ) (d : A) → i < length l → drop i (map f l) ≡ f (slice_index_or l i d) ∷ drop (i + 1) (map f l)
map_step {A} {B} f l i d h =
    let k : i < length (map f l) = omega (arith, length-map l f) in
    rw add-one (drop-cons (map f l) i (f d) k ∙ ap (λ (y : B). y ∷ drop (suc i) (map f l)) (get_or-map f l i d))

pub map_end : {A B : Type 0} (f : A → B) (l : List A) (i : ℕ) → length l ≤ i → drop i (map f l) ≡ []
map_end f l i h = drop_of_length-le (map f l) (omega (arith, length-map l f))

pub ids_made : (l : List RefID) (n : ℕ) → ids_of (record { list = l; len = n }) ≡ map id_of (take n l)
unfolding ids_of
ids_made l n = refl

pub ids_listed : (l xs : List RefID) (i : ℕ) → xs ≡ take (length xs) l → i < length xs → slice_index_or (map id_of xs) i 0 ≡ (slice_index_or l i no_id).0
ids_listed l xs i e h = get_or-map id_of xs i no_id ∙ ap (λ (ys : List RefID). (slice_index_or ys i no_id).0) e ∙ ap (λ (y : RefID). y.0) (get_or-take (length xs) l i no_id h)

pub operands_none : (xs : List ℕ) → operands_in xs 0 ≡ []
unfolding operands_in
operands_none xs = refl

pub operands_push : (xs : List ℕ) (i w : ℕ) (v : Operand) → operand_in w ≡ v → i < length xs → operands_in (slice_set xs i w) (i + 1) ≡ operands_in xs i ++ (v ∷ [])
unfolding operands_in
operands_push xs i w v e h =
    sym (append-nil (operands_in (slice_set xs i w) (i + 1))) ∙ push_map operand_in xs i (i + 1) w [] refl h ∙ ap (λ (u : Operand). operands_in xs i ++ (u ∷ [])) e
