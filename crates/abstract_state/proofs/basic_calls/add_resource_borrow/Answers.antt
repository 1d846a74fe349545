use mathlib.Core.Path.{refl}
use Rattle.abstract_state.specs.ModelLaws.{does_as}
use Rattle.std.specs.Prelude.{[], ◌∷◌}
use Rattle.meaning.specs.Labels.{global_label}
use Rattle.meaning.specs.BorrowGraph.{borrow_weak}
use Rattle.meaning.specs.EntryPoints.{add_resource_borrow}
use Rattle.abstract_state.proofs.basic_calls.add_resource_borrow.Goals as goal

pub returns : goal.returns
unfolding add_resource_borrow
returns c =
    λ ls.
    let a = c.args in
    does_as _ _ _ _ (λ h. refl)
    (c.on_graph.ensures ls _ _ _ _ (λ g. borrow_weak g a.state.num_locals (global_label a.resource ∷ []) a.child.0 a.state.offset.0)
    c.add_weak_borrow-a.ensures)
