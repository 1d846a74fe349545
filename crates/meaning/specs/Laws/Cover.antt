-- Words of contracts whose laws stand in proofs/Laws/Cover.antt.
use Rattle.std.specs.Prelude.{Bool, ◌&&◌, List}
use Rattle.meaning.specs.Lists.{any}
use Rattle.meaning.specs.References.{covers}
use Rattle.meaning.specs.BorrowGraph.{GEdge, eq_pair}

-- y covers x and joins the same names
abbrev pub covers_at : GEdge → GEdge → Bool
covers_at x y = eq_pair x.parent x.child y.parent y.child && covers y.edge x.edge

unfoldable pub covered_in : List GEdge → GEdge → Bool
covered_in ys x = any (covers_at x) ys
