use mathlib.Core.Path.{refl}
use Rattle.meaning.proofs.Laws.Area.{written_none, written_one, written_all}
use Rattle.absint_area.specs.ModelLaws.{local_above}
use native.Mathlib.Omega.{arith}
use Rattle.absint_area.proofs.write.put_locals.Goals as goal

pub loop-i-init : goal.loop-i-init
loop-i-init c = written_none _ _ _ _

pub bounds-ws-at : goal.bounds-ws-at
bounds-ws-at c = omega (arith, c.loop-i.invariant.frame.size)

pub loop-i-preserved : goal.loop-i-preserved
loop-i-preserved c =
    let a = c.args in
    let loop = c.loop-i in
    written_one _ _ _ _ loop.i _ loop.ws (omega arith) (omega (arith, loop.invariant.frame.size)) (local_above _ c.above_local.result a.names a.edges loop.i a.locals.now refl c.above_local.ensures.0) loop.invariant

pub shape_of-ws : goal.shape_of-ws
shape_of-ws c = c.loop-i.invariant.frame.size

pub returns : goal.returns
returns c = written_all _ _ _ _ c.loop-i.i _ _ (omega arith) c.loop-i.invariant
