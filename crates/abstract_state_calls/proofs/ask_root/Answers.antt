use mathlib.Core.Path.{ap, ◌∙◌}
use Rattle.std.specs.Prelude.{ℕ, Bool, []}
use Rattle.meaning.specs.Answers.{Ans}
use Rattle.meaning.specs.BorrowGraph as L
use Rattle.meaning.specs.BorrowGraph.{is_mutable}
use Rattle.borrow_graph.specs.Models.{graph_in, told_of}
use Rattle.abstract_state.specs.Models.{words, running_of, heeding}
use Rattle.abstract_state.specs.ModelLaws.{does_as}
use Rattle.abstract_state_calls.specs.Models.{acquiring}
use Rattle.abstract_state_calls.specs.AcquireLaws.{acquire_none}
use Rattle.abstract_state_calls.proofs.ask_root.Goals as goal

pub returns : goal.returns
returns c =
    let a = c.args in
    λ ls es. let w = words ls a.names.now es a.state in
    let g = graph_in a.names.now es a.state.borrow_graph in
    does_as (heeding (told_of c.is_mutable-m.result)) (acquiring []) w _
    (λ h. ap (λ (t : Ans Bool). heeding t (running_of w)) (c.is_mutable-m.ensures ls es h ∙ ap (λ (n : ℕ). L.of_name g n (is_mutable g n)) c.frame_root-root.ensures) ∙ acquire_none (is_mutable g a.state.num_locals) (running_of w))
    (c.pass_refusal.ensures ls _ es)
