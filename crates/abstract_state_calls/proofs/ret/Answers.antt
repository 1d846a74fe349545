use Rattle.abstract_state.specs.Models.{operands_of, words}
use Rattle.abstract_state_calls.specs.Models.{ids_of}
use Rattle.abstract_state_calls.specs.CallLaws.{does_ret}
use Rattle.abstract_state_calls.proofs.ret.Goals as goal

pub returns : goal.returns
returns c =
    let local-ids = c.local_ids-released in
    let release-all = c.release_all-s in
    let a = c.args in
    let ls = a.locals.now in
    does_ret (operands_of a.values) (ids_of local-ids.result) (words ls a.names.now a.edges.now a.state) _ _ _ (λ h. local-ids.ensures h.locals) (release-all.ensures ls) (c.fail_frame-t.ensures ls) (c.hand_over.ensures ls)
