use mathlib.Core.Path.{◌∙◌}
use Rattle.abstract_state.specs.Models.{words, running_of}
use Rattle.abstract_state_calls.specs.AcquireLaws.{borrowed_known, some_found}
use Rattle.abstract_state_calls.proofs.is_borrowed.Goals as goal

pub returns-in-Ok : goal.returns-in-Ok
returns-in-Ok c = λ ls h. c.is_some.ensures ∙ some_found c.in-Ok.at ∙ borrowed_known c.args.resource (running_of (words ls c.args.names.now c.args.edges.now c.args.state)) _ (c.in-Ok.ensures ls h)

pub returns-in-Err : goal.returns-in-Err
returns-in-Err c = λ ls h. borrowed_known c.args.resource (running_of (words ls c.args.names.now c.args.edges.now c.args.state)) _ (c.in-Err.ensures ls h)
