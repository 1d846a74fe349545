use Rattle.std.specs.Prelude.{◌-◌, map, get_or, take, drop}
use mathlib.Core.Path.{sym, ◌∙◌}
use Rattle.listing.specs.Models.{decoded_at, decoded_of, block_of, routine_of}
use Rattle.abstract_state.specs.Models.{words}
use Rattle.reference_safety.specs.Models.{board, state_in}
use Rattle.reference_safety.specs.BlockLaws.{going, next_instr, code_length, begins, at_step, turns, stops, finishes, begun}
use native.Mathlib.Omega.{arith}
use Rattle.reference_safety.proofs.block.run_block.Goals as goal

pub loop-k-init : goal.loop-k-init
loop-k-init c =
    let a = c.args in
    let m = c.begin-m in
    begins (routine_of a.listing.now a.code.now a.routine) (block_of a.b) c.lesser-end.result (board a.locals.now a.names.now a.edges.now m.result)
    (state_in a.routine.locals (words a.locals.now a.names.now a.edges.now a.state))
    (going m.result.state.violation m.result.state.refusal m.ensures.violation m.ensures.refusal) m.ensures.empty
    (m.ensures.running a.locals.now a.names.now a.edges.now) (omega (arith, code_length (decoded_at a.listing.now) a.code.now a.routine.code_count))

pub loop-k-preserved : goal.loop-k-preserved
loop-k-preserved c =
    let a = c.args in
    let k = c.loop-k.k in
    turns (decoded_at a.listing.now (get_or a.code.now k 0)) (decoded_of c.decode.result)
    (next_instr (decoded_at a.listing.now) a.code.now a.routine.code_count c.lesser-end.result k c.loop-k-test.true (omega (arith, code_length (decoded_at a.listing.now) a.code.now a.routine.code_count)))
    c.decode.ensures (at_step k _ (c.at_offset.ensures _ _ _) c.execute.ensures) c.loop-k.invariant (sym c.goes_on.ensures ∙ c.if-not-goes_on.false)

pub returns-then-not-goes_on : goal.returns-then-not-goes_on
returns-then-not-goes_on c =
    let a = c.args in
    let m = c.begin-m in
    let k = c.loop-k.k in
    begun (routine_of a.listing.now a.code.now a.routine) (block_of a.b) a.locals.now a.names.now a.edges.now a.state m.result.state m.ensures.graph (m.ensures.running a.locals.now a.names.now a.edges.now)
    (stops (decoded_at a.listing.now (get_or a.code.now k 0)) (decoded_of c.decode.result)
    (next_instr (decoded_at a.listing.now) a.code.now a.routine.code_count c.lesser-end.result k c.loop-k-test.true (omega (arith, code_length (decoded_at a.listing.now) a.code.now a.routine.code_count)))
    c.decode.ensures (at_step k _ (c.at_offset.ensures _ _ _) c.execute.ensures) c.loop-k.invariant (sym c.goes_on.ensures ∙ c.if-not-goes_on.true))

pub finish-requires : goal.finish-requires
finish-requires c = c.loop-k.invariant.goes

pub returns : goal.returns
returns c =
    let a = c.args in
    let m = c.begin-m in
    let k = c.loop-k.k in
    begun (routine_of a.listing.now a.code.now a.routine) (block_of a.b) a.locals.now a.names.now a.edges.now a.state m.result.state m.ensures.graph (m.ensures.running a.locals.now a.names.now a.edges.now)
    (finishes (c.lesser-end.result - k) (drop k (map (decoded_at a.listing.now) (take a.routine.code_count a.code.now))) (omega arith) c.finish.ensures c.loop-k.invariant)
