use Rattle.meaning.specs.BorrowGraph as L
use Rattle.meaning.specs.EntryPoints.{release_name}
use Rattle.abstract_state.proofs.basic_calls.release.Goals as goal

pub returns : goal.returns
unfolding release_name
returns c =
    λ ls.
    c.on_graph.ensures ls _ _ _ _ (λ g. L.release g c.args.id.0) c.release-a.ensures
