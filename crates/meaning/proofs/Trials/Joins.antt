-- The definitions run on small states: none of the laws holds for want of an example.
use Rattle.std.specs.Prelude.{ℕ, zero, suc, not, true, [], ◌∷◌, List, ◌≡◌, refl, eqb}
use Rattle.std.proofs.Math.Option.{none, some}
use Rattle.meaning.specs.Answers.{Ans, ok}
use Rattle.meaning.specs.Labels.{field_label}
use Rattle.meaning.specs.References.{insert, covers, eq_edge, eq_path, prefix, has, put, lt_edge, lt_path, set_ok, ordered, short, is_blur, empty_set}
use Rattle.meaning.specs.BorrowGraph.{between, splice, set_at, release, well_formed, holds, spliced, without, add_all, add_edge, set_to, limit, ascending, in_order, unmatched, same_names, join_graphs, borrow_strong}
use Rattle.meaning.specs.AbstractState.{ref, State, absent, join, join_local, join_locals, changed, eq_locals, eq_sets, eq_set, eq_edges, changes}
use Rattle.meaning.specs.Loop.{Block, Slot, failed, ended, run, visits, propagate, turn, turns, start_slots, position, violation, lowest, verdict_for}
use Rattle.meaning.proofs.Marked.{name, strong, weak, single, is_sets}

-- L = 2: both locals are references; local 0 borrows the root by field n, local 1 borrows local 0 by field 7
with_field : ℕ → State
unfolding name
with_field n = record {
  locals = ref 0 ∷ ref 1 ∷ [];
  graph = record { names = name 0 ∷ name 1 ∷ name 2 ∷ []; edges = between 0 (strong (7 ∷ [])) 1 ∷ between 2 (strong (n ∷ [])) 0 ∷ [] };
}

-- local 0 gone
without_zero : State
unfolding name
without_zero = record { locals = absent ∷ ref 1 ∷ []; graph = record { names = name 1 ∷ name 2 ∷ []; edges = [] } }

-- one edge more; the same again; a local less, and its name spliced out; the other way round
joins : changes (with_field 1) (with_field 2 ∷ with_field 1 ∷ without_zero ∷ with_field 1 ∷ with_field 3 ∷ []) ≡ 3
unfolding with_field without_zero name changes changed eq_locals eq_sets eq_set eq_edges join join_local join_locals join_graphs unmatched same_names insert covers eq_edge eq_path prefix has put lt_edge lt_path splice set_at release well_formed holds spliced without add_all add_edge set_to limit ascending in_order set_ok ordered short is_blur
joins = refl

-- Two blocks, the second with a back edge to the first. The state is a number that only grows up to 3; a block adds 1.
abbrev top : ℕ → ℕ → Ans ℕ
top a b = ok (cap3 b)
  where
    cap3 : ℕ → ℕ
    cap3 zero = 0
    cap3 (suc zero) = 1
    cap3 (suc (suc zero)) = 2
    cap3 (suc (suc (suc n))) = 3

abbrev two : List Block
two = record { entry = 0; exit = 0; successors = 1 ∷ [] } ∷ record { entry = 1; exit = 1; successors = 0 ∷ [] } ∷ []

loops : visits (run ℕ top (λ a b. 0) (λ a b. not (eqb a b)) (λ i s. ended 0 (suc s)) two 100 0) ≡ 6
unfolding run turns turn propagate start_slots position
loops = refl

-- a strong borrow moves the weak edges below it too
factors : is_sets (borrow_strong (record { names = name 0 ∷ name 1 ∷ name 2 ∷ []; edges = between 0 (weak (1 ∷ 2 ∷ [])) 2 ∷ [] }) 0 (field_label 1 ∷ []) 1 0) (single 0 1 (strong (1 ∷ [])) ∷ single 1 2 (weak (2 ∷ [])) ∷ record { parent = 0; child = 2; set = empty_set } ∷ []) ≡ true
unfolding name borrow_strong insert eq_edge eq_path prefix has put lt_edge lt_path set_at well_formed holds add_all add_edge set_to limit ascending set_ok ordered short in_order is_blur eq_set eq_edges
factors = refl

-- Two blocks failed, the one with the lower entry listed later: its error is the verdict.
abbrev failing : ℕ → ℕ → Slot ℕ
failing o a = record { kept = some 0; status = failed 102 o a; changes = 0 }

lower_entry : verdict_for (lowest (record { entry = 4; exit = 5; successors = [] } ∷ record { entry = 1; exit = 3; successors = [] } ∷ []) (failing 5 4 ∷ failing 2 1 ∷ []) none) ≡ violation 102 2 1
unfolding lowest
lower_entry = refl
