use Rattle.std.specs.Prelude.{map, take}
use Rattle.meaning.specs.Limits.{max_operands}
use Rattle.meaning.specs.Listing.{token_as}
use Rattle.abstract_state.specs.Models.{operands_of, words}
use Rattle.abstract_state_calls.specs.Models.{ids_of}
use Rattle.abstract_state_calls.specs.CallLaws.{calls_done}
use Rattle.abstract_state_calls.proofs.call.Goals as goal

pub returns : goal.returns
returns c =
    let operand-ids = c.operand_ids-all in
    let mutable = c.mutable-mutable in
    let fail-acquired = c.fail_acquired-s in
    let hand-over = c.hand_over-t in
    let return-values = c.return_values-u in
    let a = c.args in
    λ ls. let k = calls_done (operands_of a.arguments) a.acquired.now (map token_as (take max_operands a.tokens.now)) (ids_of mutable.result) (ids_of operand-ids.result)
    (words ls a.names.now a.edges.now a.state) _ _ _ _ (operands_of return-values.result.values) operand-ids.ensures (λ h. mutable.ensures ls _ h)
    (fail-acquired.ensures ls) (hand-over.ensures ls) (return-values.ensures ls) (c.release_all-w.ensures ls) in
    (k.fits, k.calls)
