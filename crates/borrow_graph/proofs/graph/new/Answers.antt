use mathlib.Core.Path.{refl}
use Rattle.meaning.specs.BorrowGraph.{ascending, holds, set_at, in_order, well_formed}
use Rattle.references.specs.Models.{names_in, edges_in}
use native.Mathlib.Omega.{arith}
use Rattle.borrow_graph.proofs.graph.new.Goals as goal

pub returns : goal.returns
unfolding names_in edges_in ascending holds set_at in_order well_formed
returns c = λ ns es few fit. (record { words = few; rows = fit; refs = omega arith; edges = omega arith; formed = refl }, refl)
