use mathlib.Core.Path.{refl}
use Rattle.std.specs.Prelude.{[], ◌∷◌}
use Rattle.meaning.specs.Labels.{field_label}
use Rattle.meaning.specs.BorrowGraph.{borrow_strong}
use Rattle.meaning.specs.EntryPoints.{add_field_borrow}
use Rattle.abstract_state.specs.ModelLaws.{does_as}
use Rattle.abstract_state.proofs.basic_calls.add_field_borrow.Goals as goal

pub returns : goal.returns
unfolding add_field_borrow
returns c =
    λ ls.
    let a = c.args in
    does_as _ _ _ _ (λ h. refl)
    (c.on_graph.ensures ls _ _ _ _ (λ g. borrow_strong g a.parent.0 (field_label a.field ∷ []) a.child.0 a.state.offset.0)
    c.add_strong_borrow-a.ensures)
