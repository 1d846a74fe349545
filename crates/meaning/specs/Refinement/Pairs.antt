-- Release and join pair by pair: the new set of a pair is made by itself, then it takes the place of the old one, and no list on the way
-- has more than 96 edges.
use Rattle.std.specs.Prelude.{ℕ, Bool, ◌&&◌, cond, true, false, not, List, [], ◌∷◌, leb, eqb, length}
use Rattle.meaning.specs.Answers.{Ans, ok, and_then, guard, refuse}
use Rattle.meaning.specs.Lists.{any, each}
use Rattle.meaning.specs.References.{Edge, EdgeSet}
use Rattle.meaning.specs.BorrowGraph.{GEdge, eq_pair, set_at, Graph, set_to}
use Rattle.meaning.specs.Laws.Graph.{insert_all}

pub record Pair : Type 0 where
  pub parent : ℕ
  pub child : ℕ

abbrev pub pair_of : GEdge → Pair
pair_of x = record { parent = x.parent; child = x.child }

unfoldable pub has_pair : List Pair → ℕ → ℕ → Bool
has_pair rs p c = any (λ r. eq_pair p c r.parent r.child) rs

abbrev pub edges_at : ℕ → ℕ → List GEdge → List Edge
edges_at p c xs = (set_at p c xs).edges

-- the set of a pair after xs are put into g
unfoldable pub new_set : Graph → List GEdge → ℕ → ℕ → Ans EdgeSet
unfolding set_at insert_all
new_set g xs p c = insert_all (edges_at p c xs) (set_at p c g.edges)

-- the list with the new sets of these pairs
unfoldable pub replace_all : (ℕ → ℕ → Ans EdgeSet) → List Pair → List GEdge → Ans (List GEdge)
unfolding set_to
replace_all new [] es = ok es
replace_all new (r ∷ rs) es = and_then (new r.parent r.child) (λ s. replace_all new rs (set_to r.parent r.child s es))

-- ---- the same with the limit tested after each pair

abbrev pub few_edges : List GEdge → Ans (List GEdge)
few_edges es = guard (leb (length es) 96) 21 (ok es)

-- `shrinking`: only where the new set has fewer edges
unfoldable pub replace_one : Bool → ℕ → ℕ → EdgeSet → List GEdge → Ans (List GEdge)
unfolding set_at set_to
replace_one shrinking p c s es = cond (shrinking && leb (length (edges_at p c es)) (length s.edges)) (ok es) (few_edges (set_to p c s es))

unfoldable pub replace_lim : Bool → (ℕ → ℕ → Ans EdgeSet) → List Pair → List GEdge → Ans (List GEdge)
unfolding replace_one
replace_lim shrinking new [] es = ok es
replace_lim shrinking new (r ∷ rs) es =
    and_then (new r.parent r.child) (λ s. and_then (replace_one shrinking r.parent r.child s es) (λ fs. replace_lim shrinking new rs fs))

-- the second answer where the first is 21
abbrev pub or21 : {A : Type 0} → Ans A → Ans A → Ans A
or21 (ok a) k = ok a
or21 (refuse n) k = cond (eqb n 21) k (refuse n)

-- Where the limit is passed on the way, again: first what makes the list shorter, then all.
unfoldable pub two_pass : (ℕ → ℕ → Ans EdgeSet) → List Pair → List GEdge → Ans (List GEdge)
unfolding replace_lim
two_pass new rs es = or21 (replace_lim false new rs es) (and_then (replace_lim true new rs es) (λ fs. replace_lim false new rs fs))

abbrev pub with_edges : Graph → Ans (List GEdge) → Ans Graph
with_edges g a = and_then a (λ es. ok (record { names = g.names; edges = es }))

unfoldable pub exactly : Graph → List GEdge → List Pair → Ans Graph
unfolding new_set two_pass
exactly g xs rs = with_edges g (two_pass (new_set g xs) rs g.edges)

-- ---- the pairs of release and join

-- the pairs of the edges that pass the test, once for edges that follow each other; r is the pair before
unfoldable pub firsts : (GEdge → Bool) → Pair → List GEdge → List Pair
firsts q r [] = []
firsts q r (x ∷ xs) = cond (q x && not (eq_pair r.parent r.child x.parent x.child)) (pair_of x ∷ firsts q (pair_of x) xs) (firsts q r xs)

-- no edge joins n to itself
abbrev pub loop_at : ℕ → Pair
loop_at n = record { parent = n; child = n }

-- (p, n) for each parent p of n; (n, c) for each child c
abbrev pub parent_pairs : Graph → ℕ → List Pair
parent_pairs g n = firsts (λ x. eqb n x.child) (loop_at n) g.edges

abbrev pub child_pairs : Graph → ℕ → List Pair
child_pairs g n = firsts (λ y. eqb n y.parent) (loop_at n) g.edges

-- what a parent's pair makes with a child's pair
abbrev pub across : Pair → Pair → List Pair
across x y = cond (eqb x.parent y.child) [] (record { parent = x.parent; child = y.child } ∷ [])

unfoldable pub release_pairs : Graph → ℕ → List Pair
unfolding firsts
release_pairs g n = each (parent_pairs g n) (λ x. each (child_pairs g n) (across x))

unfoldable pub join_pairs : Graph → List Pair
unfolding firsts
join_pairs h = firsts (λ x. true) (loop_at 0) h.edges
