use mathlib.Core.Path.{refl, sym, ◌∙◌}
use Rattle.meaning.specs.BorrowGraph.{all_refs}
use Rattle.borrow_graph.proofs.graph.all_refs.Goals as goal

pub returns-then-g : goal.returns-then-g
unfolding all_refs
returns-then-g c = λ ns es t. rw (sym t.formed ∙ c.if-g.true) refl

pub returns : goal.returns
unfolding all_refs
returns c = λ ns es t. rw (sym t.formed ∙ c.if-g.false) refl
