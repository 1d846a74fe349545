use Rattle.std.proofs.Common.{rules, tests, arith}
use Rattle.meaning.specs.Refinement.Passes.{apart}
use Rattle.borrow_graph_edit.proofs.release.left_out.Goals as goal

pub returns : goal.returns
returns c = (omega arith, c.retain.ensures.1 (apart c.args.id.0) (λ x b r. search (rules, tests)))
