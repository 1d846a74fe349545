use Rattle.borrow_graph_edit.proofs.pairs.set_between.Goals as goal

pub returns : goal.returns
returns c = λ l few. (c.between.ensures.1 l few).0
