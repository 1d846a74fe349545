use mathlib.Core.Path.{refl, ap, ◌∙◌}
use mathlib.Core.Option.{Option, none}
use Rattle.std.specs.Prelude.{ℕ}
use Rattle.meaning.specs.Limits.{UNSAFE_RET}
use Rattle.meaning.specs.Answers.{Ans}
use Rattle.meaning.specs.BorrowGraph.{borrows, lowest_of}
use Rattle.borrow_graph.specs.Models.{graph_in, low_of}
use Rattle.abstract_state.specs.Models.{words, running_of, failing}
use Rattle.abstract_state.specs.ModelLaws.{does_as}
use Rattle.abstract_state_calls.specs.Models.{framed}
use Rattle.abstract_state_calls.specs.LoopLaws.{failing_at}
use Rattle.abstract_state_calls.proofs.fail_frame.Goals as goal

pub returns : goal.returns
returns c =
    let a = c.args in
    let b = c.is_frame_borrowed-b in
    let g = graph_in a.names.now a.edges.now a.state.borrow_graph in
    let root = a.state.num_locals in
    λ ls. let w = words ls a.names.now a.edges.now a.state in
    does_as (failing (low_of b.result) UNSAFE_RET) framed w _
    (λ h. ap (λ (t : Ans (Option ℕ)). failing t UNSAFE_RET (running_of w)) (b.ensures ls h)
    ∙ failing_at g root (running_of w) (lowest_of (borrows root none) g.edges) UNSAFE_RET refl)
    (c.violate_if.ensures ls _ _)
