-- What a release splices, by passes over the list of edges.
use Rattle.std.specs.Prelude.{ℕ, not, ◌&&◌, cond, List, [], ◌∷◌, eqb}
use Rattle.meaning.specs.Lists.{each}
use Rattle.meaning.specs.BorrowGraph.{GEdge, between, splice}

-- x ends at n: what it makes with y
abbrev pub meet : ℕ → GEdge → GEdge → List GEdge
meet n x y = cond (eqb n y.parent && not (eqb x.parent y.child)) (between x.parent (splice x.edge y.edge) y.child ∷ []) []

unfoldable pub spliced_row : ℕ → List GEdge → GEdge → List GEdge
unfolding splice
spliced_row n ys x = each ys (meet n x)

abbrev pub row_if : ℕ → List GEdge → GEdge → List GEdge
row_if n ys x = cond (eqb n x.child) (spliced_row n ys x) []

unfoldable pub spliced_rows : ℕ → List GEdge → List GEdge → List GEdge
unfolding spliced_row
spliced_rows n ys xs = each xs (row_if n ys)
