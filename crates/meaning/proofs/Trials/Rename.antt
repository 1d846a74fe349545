-- Direct renames: what A2 still refuses with 16, and what comes out of the others. The last two rows are the Rust's way, one after the other: an
-- exchange loses name 1 with what it lends, and a chain that goes down does not.
use Rattle.std.specs.Prelude.{ℕ, Bool, true, false, List, [], ◌∷◌, ◌≡◌, refl, eqb}
use Rattle.meaning.specs.Answers.{ok, refuse}
use Rattle.meaning.specs.Lists.{all}
use Rattle.meaning.specs.References.{eq_edge, eq_path, lt_edge, lt_path, set_ok, ordered, short, is_blur}
use Rattle.meaning.specs.BorrowGraph.{Name, Graph, between, set_at, well_formed, holds, ascending, in_order, put_name, put_edge, rename_names, rename_edges, renamed, Change, name_after, is_old, twice, clash, remap, mutable_in, is_mutable}
use Rattle.meaning.specs.AbstractState.{eq_set, eq_edges}
use Rattle.meaning.proofs.Marked.{strong, single, Wanted, is_graph}
use Rattle.meaning.specs.Refinement.InTurn.{flag_of, children_in_turn, in_turn, one_by_one}

abbrev mut : ℕ → Name
mut n = record { id = n; mutable = true }

abbrev imm : ℕ → Name
imm n = record { id = n; mutable = false }

-- name 0 lends field 1 to name 1, which lends field 2 to name 2; name 1 alone is immutable
abbrev three : Graph
three = record { names = mut 0 ∷ imm 1 ∷ mut 2 ∷ []; edges = between 0 (strong (1 ∷ [])) 1 ∷ between 1 (strong (2 ∷ [])) 2 ∷ [] }

abbrev to : ℕ → ℕ → Change
to m n = record { old = m; new = n }

-- the sets: field 1 of a is lent to b, field 2 of b to c
abbrev lent : ℕ → ℕ → ℕ → List Wanted
lent a b c = single a b (strong (1 ∷ [])) ∷ single b c (strong (2 ∷ [])) ∷ []

abbrev is16 : List Change → Bool
is16 ms = elim (remap three ms) [ ok g ↦ false | refuse n ↦ eqb n 16 ]

abbrev gives : List Change → List Name → List Wanted → Bool
gives ms ns ws = elim (remap three ms) [ ok g ↦ is_graph g ns ws | refuse n ↦ false ]

unfoldable pub renames : List Bool
unfolding remap one_by_one name_after
renames =
    is16 (to 0 5 ∷ to 0 6 ∷ [])
    ∷ is16 (to 7 5 ∷ to 0 6 ∷ to 7 8 ∷ [])
    ∷ is16 (to 0 5 ∷ to 1 5 ∷ [])
    ∷ is16 (to 0 5 ∷ to 1 6 ∷ to 7 5 ∷ [])
    ∷ is16 (to 0 2 ∷ [])
    ∷ is16 (to 7 2 ∷ [])
    ∷ is16 (to 0 1 ∷ to 1 2 ∷ [])
    ∷ gives (to 0 1 ∷ to 1 0 ∷ []) (imm 0 ∷ mut 1 ∷ mut 2 ∷ []) (lent 1 0 2)
    ∷ gives (to 0 1 ∷ to 1 2 ∷ to 2 0 ∷ []) (mut 0 ∷ mut 1 ∷ imm 2 ∷ []) (lent 1 2 0)
    ∷ gives (to 2 1 ∷ to 0 2 ∷ to 1 0 ∷ []) (imm 0 ∷ mut 1 ∷ mut 2 ∷ []) (lent 2 0 1)
    ∷ gives (to 0 1 ∷ to 1 2 ∷ to 2 3 ∷ []) (mut 1 ∷ imm 2 ∷ mut 3 ∷ []) (lent 1 2 3)
    ∷ gives (to 1 7 ∷ to 7 1 ∷ []) (mut 0 ∷ mut 2 ∷ imm 7 ∷ []) (lent 0 7 2)
    ∷ gives (to 7 8 ∷ to 2 2 ∷ []) (mut 0 ∷ imm 1 ∷ mut 2 ∷ []) (lent 0 1 2)
    ∷ gives [] (mut 0 ∷ imm 1 ∷ mut 2 ∷ []) (lent 0 1 2)
    ∷ is_graph (one_by_one (name_after (to 0 1 ∷ to 1 0 ∷ [])) (0 ∷ 1 ∷ []) three) (mut 0 ∷ mut 2 ∷ []) (single 0 0 (strong (1 ∷ [])) ∷ [])
    ∷ is_graph (one_by_one (name_after (to 1 0 ∷ to 0 7 ∷ [])) (0 ∷ 1 ∷ []) three) (imm 0 ∷ mut 2 ∷ mut 7 ∷ []) (lent 7 0 2)
    ∷ []

pub all_renames : all (λ b. b) renames ≡ true
unfolding renames remap clash twice is_old holds name_after one_by_one children_in_turn in_turn flag_of renamed rename_names rename_edges put_name put_edge mutable_in is_mutable well_formed ascending in_order set_at set_ok ordered short is_blur eq_edge eq_path lt_edge lt_path eq_set eq_edges
all_renames = refl
