use Rattle.meaning.specs.BorrowGraph.{in_edges}
use Rattle.borrow_graph.proofs.lookups.in_edges.Goals as goal

pub returns : goal.returns
unfolding in_edges
returns c = c.edges_at.ensures
