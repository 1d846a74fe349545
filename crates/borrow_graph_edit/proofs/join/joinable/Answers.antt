use mathlib.Core.Bool.{◌&&◌}
use Rattle.meaning.specs.BorrowGraph.{same_names}
use Rattle.borrow_graph_edit.proofs.join.joinable.Goals as goal

pub returns : goal.returns
unfolding same_names
returns c =
    let a = c.holds_all-a in
    let b = c.holds_all-b in
    λ es es₂ t u. λ i. (t.formed i && u.formed i) && (a.ensures u.words t.words i && b.ensures t.words u.words i)
