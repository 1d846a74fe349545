use mathlib.Core.Path.{refl, sym, ap, ◌∙◌}
use mathlib.Core.Bool.{Bool}
use Rattle.meaning.specs.Answers.{Ans, ok}
use Rattle.meaning.specs.BorrowGraph.{contains_id}
use Rattle.borrow_graph.proofs.graph.contains_id.Goals as goal

pub returns-then-g : goal.returns-then-g
unfolding contains_id
returns-then-g c = λ es t. rw (sym t.formed ∙ c.if-g.true) (ap {B = Ans Bool} ok (c.holds.ensures t.words))

pub returns : goal.returns
unfolding contains_id
returns c = λ es t. rw (sym t.formed ∙ c.if-g.false) refl
