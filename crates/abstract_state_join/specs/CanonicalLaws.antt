-- The end of a block, local by local.
use Rattle.std.specs.Prelude.{ℕ, suc, ◌+◌, ◌≡◌, refl, true, ◌&&◌, cond, List, [], ◌∷◌, eqb}
use Rattle.std.proofs.Common.{add-one, sym, ap, ◌∙◌}
use Rattle.meaning.specs.Answers.{then}
use Rattle.meaning.proofs.Laws.Base.{decide, and_l, and_r, eqb_eq, eqb_self, eqb_no, eqb_ne}
use Rattle.meaning.specs.BorrowGraph.{Graph, renamed, name_after}
use Rattle.meaning.specs.AbstractState as S
use Rattle.meaning.specs.AbstractState.{State, absent, value, ref, local_holding, new_name_of, own_names, canonical}
use Rattle.meaning.specs.EntryPoints.{Running}
use Rattle.abstract_state.specs.Models.{halted}
use Rattle.abstract_state_join.specs.Models.{own_name, renames, canonical_end}

-- ---- steps of the loops

pub own_step : (i : ℕ) (x : S.Local) (xs : List S.Local) → own_names i (x ∷ xs) ≡ own_name i x ∷ own_names (i + 1) xs
unfolding own_names
own_step i absent xs = rw (add-one i)
own_step i value xs = rw (add-one i)
own_step i (ref n) xs = rw (add-one i)

pub own_end : (i : ℕ) → own_names i [] ≡ []
unfolding own_names
own_end i = refl

pub renames_ref : (i n : ℕ) (xs : List S.Local) → renames i (ref n ∷ xs) ≡ record { old = n; new = i } ∷ renames (i + 1) xs
unfolding renames
renames_ref i n xs = rw (add-one i)

pub renames_value : (i : ℕ) (xs : List S.Local) → renames i (value ∷ xs) ≡ renames (i + 1) xs
unfolding renames
renames_value i xs = rw (add-one i)

pub renames_absent : (i : ℕ) (xs : List S.Local) → renames i (absent ∷ xs) ≡ renames (i + 1) xs
unfolding renames
renames_absent i xs = rw (add-one i)

pub renames_end : (i : ℕ) → renames i [] ≡ []
unfolding renames
renames_end i = refl

-- ---- the new names

eqb_swap : (m n : ℕ) → eqb m n ≡ eqb n m
eqb_swap m n =
    decide (eqb m n)
    (λ e. let z : n ≡ m = sym (eqb_eq e) in e ∙ sym (ap (λ (k : ℕ). eqb n k) (sym z) ∙ eqb_self n))
    (λ e. e ∙ sym (eqb_no {m = n} {n = m} (λ z. eqb_ne {m = m} {n = n} e (sym z))))

renamed_to : (n i : ℕ) (xs : List S.Local) → name_after (renames i xs) n ≡ local_holding n n i xs
unfolding name_after renames local_holding
renamed_to n i [] = refl
renamed_to n i (absent ∷ xs) = renamed_to n (suc i) xs
renamed_to n i (value ∷ xs) = renamed_to n (suc i) xs
renamed_to n i (ref m ∷ xs) = λ j. cond (eqb_swap n m j) i (renamed_to n (suc i) xs j)

pub new_name_lem : (l : ℕ) (xs : List S.Local) (n : ℕ) → name_after (record { old = l; new = l } ∷ renames 0 xs) n ≡ new_name_of l xs n
unfolding name_after new_name_of
new_name_lem l xs n = ap (λ (k : ℕ). cond (eqb n l) l k) (renamed_to n 0 xs)

-- ---- the end

pub canonical_as : (l : ℕ) (s : State) (xs : List S.Local) (g : Graph) → xs ≡ own_names 0 s.locals → g ≡ renamed (name_after (record { old = l; new = l } ∷ renames 0 s.locals)) s.graph
    → canonical l s ≡ record { locals = xs; graph = g }
unfolding canonical
canonical_as l s xs g p q =
    let r : renamed (new_name_of l s.locals) s.graph ≡ g = sym (q ∙ (λ i. renamed (λ n. new_name_lem l s.locals n i) s.graph)) in
    λ i. record { locals = sym p i; graph = r i }

-- a state that goes on is renamed
pub end_goes : (b v o n : ℕ) (r : Running) (xs : List S.Local) (g : Graph) → eqb v 0 && eqb n 0 ≡ true → canonical r.root (record { locals = r.locals; graph = r.graph }) ≡ record { locals = xs; graph = g }
    → halted b v o n (record { locals = xs; graph = g; next = r.root + 1; root = r.root; blurs = r.blurs; offset = r.offset }) ≡ then (halted b v o n r) canonical_end
unfolding canonical_end
end_goes b v o n r xs g e k = rw (and_l (eqb v 0) (eqb n 0) e, and_r (eqb v 0) (eqb n 0) e, k, add-one r.root)
