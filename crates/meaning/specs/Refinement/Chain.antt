-- Well-formedness of a list of edges in one pass: each edge is held against the one before it.
use Rattle.std.specs.Prelude.{ℕ, ◌+◌, Bool, not, ◌&&◌, ◌||◌, cond, true, false, List, [], ◌∷◌, ltb, leb}
use Rattle.meaning.specs.References.{weakest, eq_edge, lt_edge, short}
use Rattle.meaning.specs.BorrowGraph.{GEdge, eq_pair, is_before, Name}

abbrev pub same : GEdge → GEdge → Bool
same y x = eq_pair x.parent x.child y.parent y.child

-- x may follow y, where k edges of y's pair have been
abbrev pub link : ℕ → GEdge → GEdge → Bool
link k y x =
    short x.edge
    && cond (same y x) (ltb k 10 && (not (y.blurred || x.blurred) && lt_edge y.edge x.edge))
    (is_before x.parent x.child y && (not x.blurred || eq_edge x.edge (weakest 0)))

abbrev pub next_count : ℕ → GEdge → GEdge → ℕ
next_count k y x = cond (same y x) (cond (ltb k 10) (k + 1) 10) 1

abbrev pub chain : (ℕ → ℕ → Bool) → ℕ → GEdge → List GEdge → Bool
chain q k y [] = true
chain q k y (x ∷ xs) = (q x.parent x.child && link k y x) && chain q (next_count k y x) x xs

-- what stands before the first edge: no edge joins 0 to itself
abbrev pub no_edge : GEdge
no_edge = record { parent = 0; child = 0; blurred = false; edge = weakest 0 }

-- the same for names: each at least m, and above the one before
abbrev pub climbs : ℕ → List Name → Bool
climbs m [] = true
climbs m (n ∷ ns) = (ltb n.id 65536 && leb m n.id) && climbs (n.id + 1) ns
