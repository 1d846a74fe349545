use Rattle.meaning.specs.BorrowGraph.{mutable_of}
use Rattle.abstract_state.proofs.predicates.is_mutable.Goals as goal

pub returns : goal.returns
unfolding mutable_of
returns c = λ ls es h. c.is_mutable.ensures es h.tells
