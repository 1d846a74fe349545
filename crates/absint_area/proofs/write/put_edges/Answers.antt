use Rattle.std.proofs.Common.{ap, ◌∙◌, length-take, get_or-take}
use Rattle.meaning.proofs.Laws.Area.{edges_none, edges_one, edges_all}
use Rattle.references.specs.Models.{row_of}
use native.Mathlib.Omega.{arith}
use Rattle.absint_area.proofs.write.put_edges.Goals as goal

pub loop-i-init : goal.loop-i-init
loop-i-init c = edges_none _ _ _ _

pub put_row-requires : goal.put_row-requires
put_row-requires c = omega (arith, c.loop-i.invariant.frame.size)

pub loop-i-preserved : goal.loop-i-preserved
loop-i-preserved c = edges_one _ _ _ _ c.loop-i.i c.loop-i.ws _ (omega arith) c.put_row.ensures.0 (c.put_row.ensures.1 ∙ ap row_of (get_or-take c.args.n c.args.edges.now c.loop-i.i _ (omega (arith, length-take c.args.n c.args.edges.now, c.loop-i-test.true)))) c.loop-i.invariant

pub shape_of-ws : goal.shape_of-ws
shape_of-ws c = c.loop-i.invariant.frame.size

pub returns : goal.returns
returns c = edges_all _ _ _ _ c.loop-i.i _ _ (omega arith) c.loop-i.invariant
