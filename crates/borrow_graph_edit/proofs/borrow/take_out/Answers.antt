use Rattle.std.proofs.Common.{rules, tests, not}
use Rattle.meaning.specs.BorrowGraph.{moves}
use Rattle.references.specs.Models.{path_at}
use Rattle.borrow_graph_edit.proofs.borrow.take_out.Goals as goal

pub returns : goal.returns
returns c = (c.retain.ensures.0, c.retain.ensures.1 (λ x. not (moves c.args.parent.0 (path_at c.args.path) x)) (λ x b r. search (rules, tests)))
