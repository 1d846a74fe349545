use mathlib.Core.Path.{refl}
use Rattle.abstract_state.specs.ModelLaws.{does_as}
use Rattle.std.specs.Prelude.{[], ◌∷◌}
use Rattle.meaning.specs.Labels.{local_label}
use Rattle.meaning.specs.BorrowGraph.{borrow_strong}
use Rattle.meaning.specs.EntryPoints.{add_local_borrow}
use Rattle.abstract_state.proofs.basic_calls.add_local_borrow.Goals as goal

pub returns : goal.returns
unfolding add_local_borrow
returns c =
    λ ls.
    let a = c.args in
    does_as _ _ _ _ (λ h. refl)
    (c.on_graph.ensures ls _ _ _ _ (λ g. borrow_strong g a.state.num_locals (local_label a.local.0 ∷ []) a.child.0 a.state.offset.0)
    c.add_strong_borrow-a.ensures)
