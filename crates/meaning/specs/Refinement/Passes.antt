-- What the passes of release and join read: the new set of a pair from the old edges, and the pairs from the list of edges.
use Rattle.std.specs.Prelude.{ℕ, Bool, not, ◌&&◌, true, List, map, eqb}
use Rattle.meaning.specs.Answers.{Ans}
use Rattle.meaning.specs.Lists.{each, keep}
use Rattle.meaning.specs.References.{Edge, EdgeSet, covered}
use Rattle.meaning.specs.BorrowGraph.{GEdge, splice, set_at}
use Rattle.meaning.specs.Laws.Graph.{insert_all}
use Rattle.meaning.specs.Refinement.Pairs.{edges_at, Pair, firsts, across}

-- an edge that does not touch n
abbrev pub apart : ℕ → GEdge → Bool
apart n x = not (eqb n x.parent) && not (eqb n x.child)

-- the edges that go through n from one to the other, by the edges into n and out of n
abbrev pub splices : List Edge → List Edge → List Edge
splices es fs = each es (λ e. map (splice e) fs)

-- the new set of (p, c) when n is released
unfoldable pub splice_set : List GEdge → ℕ → ℕ → ℕ → Ans EdgeSet
unfolding set_at insert_all
splice_set es n p c = insert_all (splices (edges_at p n es) (edges_at n c es)) (set_at p c es)

-- the other's edges that ours do not cover
abbrev pub uncovered : List Edge → List Edge → List Edge
uncovered ds es = keep (λ e. not (covered ds e)) es

-- the new set of (p, c) in a join
unfoldable pub join_set : List GEdge → List GEdge → ℕ → ℕ → Ans EdgeSet
unfolding set_at insert_all
join_set es fs p c = insert_all (uncovered (edges_at p c es) (edges_at p c fs)) (set_at p c es)

-- (n, c) for each child c, (p, n) for each parent p; `last` is the one before
abbrev pub children_from : ℕ → ℕ → List GEdge → List Pair
children_from n last es = firsts (λ y. eqb n y.parent) (record { parent = n; child = last }) es

abbrev pub parents_from : ℕ → ℕ → List GEdge → List Pair
parents_from n last es = firsts (λ x. eqb n x.child) (record { parent = last; child = n }) es

-- the pairs of p with n's children
abbrev pub child_row : List GEdge → ℕ → Pair → List Pair
child_row es n x = each (children_from n n es) (across x)

unfoldable pub splice_pairs : List GEdge → ℕ → List Pair
unfolding firsts
splice_pairs es n = each (parents_from n n es) (child_row es n)

-- all pairs
abbrev pub pairs_from : Pair → List GEdge → List Pair
pairs_from r es = firsts (λ x. true) r es
