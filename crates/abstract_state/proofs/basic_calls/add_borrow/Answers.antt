use mathlib.Core.Path.{refl}
use Rattle.std.specs.Prelude.{[]}
use Rattle.meaning.specs.BorrowGraph.{borrow_weak}
use Rattle.meaning.specs.EntryPoints.{add_borrow}
use Rattle.abstract_state.specs.ModelLaws.{does_as}
use Rattle.abstract_state.proofs.basic_calls.add_borrow.Goals as goal

pub returns : goal.returns
unfolding add_borrow
returns c =
    λ ls.
    let a = c.args in
    does_as _ _ _ _ (λ h. refl) (c.on_graph.ensures ls _ _ _ _ (λ g. borrow_weak g a.parent.0 [] a.child.0 a.state.offset.0) c.add_weak_borrow-a.ensures)
