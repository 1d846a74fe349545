use Rattle.std.proofs.Common.{ap, ◌∙◌, subst, List}
use Rattle.meaning.specs.BorrowGraph.{GEdge}
use Rattle.borrow_graph_edit.specs.declared.release.Side.{Side}
use Rattle.borrow_graph_edit.specs.Ways.{ways, Found, no_ways}
use Rattle.borrow_graph_edit.proofs.release.put_in.Goals as goal

pub returns-in_default-Empty-2 : goal.returns-in_default-Empty-2
returns-in_default-Empty-2 c xs ys f g = ap (λ (l : List GEdge). ways xs l) (subst (λ (s : Side). Found c.args.edges.now s ys) c.in_default-Empty.is-1 g) ∙ no_ways xs
