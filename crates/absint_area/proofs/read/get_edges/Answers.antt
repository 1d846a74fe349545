use Rattle.meaning.proofs.Laws.Area.{filled_none, filled_one}
use Rattle.absint_area.specs.ModelLaws.{filled_all}
use native.Mathlib.Omega.{arith}
use Rattle.absint_area.proofs.read.get_edges.Goals as goal

pub loop-i-init : goal.loop-i-init
loop-i-init c = λ h. filled_none _ _ _ _ _ h

pub loop-i-preserved : goal.loop-i-preserved
loop-i-preserved c = λ h. filled_one _ _ _ _ c.loop-i.i _ c.loop-i.edges (omega arith) c.get_row.ensures (c.loop-i.invariant h)

pub returns : goal.returns
returns c = λ h. filled_all _ _ _ _ c.loop-i.i _ _ (omega arith) (c.loop-i.invariant h)
