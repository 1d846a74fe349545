use Rattle.meaning.specs.BorrowGraph.{out_edges}
use Rattle.borrow_graph.proofs.lookups.out_edges.Goals as goal

pub returns : goal.returns
unfolding out_edges
returns c = c.edges_at.ensures
