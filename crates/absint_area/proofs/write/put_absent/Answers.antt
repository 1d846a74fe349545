use mathlib.Core.Path.{refl, ap, ◌∙◌}
use lib.ListN.{length}
use Rattle.meaning.specs.Area.{unkept}
use Rattle.meaning.proofs.Laws.Area.{unkept_length, unkept_one}
use Rattle.absint_area.specs.ModelLaws.{unkept_all}
use native.Mathlib.Omega.{arith}
use Rattle.absint_area.proofs.write.put_absent.Goals as goal

pub loop-b-init : goal.loop-b-init
unfolding unkept
loop-b-init c = refl

pub bounds-ws-b : goal.bounds-ws-b
bounds-ws-b c = omega (arith, ap length c.loop-b.invariant ∙ unkept_length c.loop-b.b _)

pub loop-b-preserved : goal.loop-b-preserved
loop-b-preserved c = unkept_one c.loop-b.b _ c.loop-b.ws c.loop-b.invariant

pub shape_of-ws : goal.shape_of-ws
shape_of-ws c = ap length c.loop-b.invariant ∙ unkept_length c.loop-b.b _

pub returns : goal.returns
returns c = unkept_all c.loop-b.b _ c.loop-b.ws (omega arith) c.loop-b.invariant
