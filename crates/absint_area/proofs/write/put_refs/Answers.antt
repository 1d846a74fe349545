use Rattle.std.proofs.Common.{arith, refl}
use Rattle.meaning.proofs.Laws.Area.{written_none, written_one, written_all}
use Rattle.absint_area.proofs.write.put_refs.Goals as goal

pub loop-i-init : goal.loop-i-init
loop-i-init c = written_none _ _ _ _

pub bounds-ws-at : goal.bounds-ws-at
bounds-ws-at c = omega (arith, c.loop-i.invariant.frame.size)

pub loop-i-preserved : goal.loop-i-preserved
loop-i-preserved c =
    let l = c.loop-i in
    written_one _ _ _ _ l.i _ l.ws (omega arith) (omega (arith, l.invariant.frame.size)) refl l.invariant

pub shape_of-ws : goal.shape_of-ws
shape_of-ws c = c.loop-i.invariant.frame.size

pub returns : goal.returns
returns c = written_all _ _ _ _ c.loop-i.i _ _ (omega arith) c.loop-i.invariant
