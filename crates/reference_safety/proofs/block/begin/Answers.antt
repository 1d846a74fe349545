use mathlib.Core.Path.{ap}
use Rattle.std.specs.Prelude.{ℕ}
use native.Mathlib.Numerals.{add-one}
use Rattle.meaning.specs.EntryPoints.{Running}
use Rattle.borrow_graph.specs.Models.{graph_in}
use Rattle.abstract_state.specs.Models.{locals_in}
use Rattle.reference_safety.proofs.block.begin.Goals as goal

pub returns-clause-running : goal.returns-clause-running
returns-clause-running c = λ ls ns es. ap {B = Running} (λ (n : ℕ). record { locals = locals_in ls c.args.locals; graph = graph_in ns es c.args.state.borrow_graph; next = n; root = c.args.locals; blurs = 0; offset = 0 }) (add-one c.args.locals)
