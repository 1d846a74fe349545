use Rattle.abstract_state.specs.Models.{words}
use Rattle.abstract_state_calls.specs.Models.{ids_of}
use Rattle.abstract_state_calls.specs.CallLaws.{calls_ref}
use Rattle.abstract_state_calls.proofs.return_ref.Goals as goal

pub returns : goal.returns
returns c =
    let fresh = c.fresh-id in
    let a = c.args in
    λ ls. calls_ref a.mutable (ids_of a.parents.now) fresh.result.0 (words ls a.names.now a.edges.now a.state) _ _ _ fresh.ensures (c.new_ref-s.ensures ls _) (c.lend_all-t.ensures ls) (c.give.ensures ls _ _)
