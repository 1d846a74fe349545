use Rattle.abstract_state.proofs.predicates.is_frame_borrowed.Goals as goal

pub returns : goal.returns
returns c = λ ls h. rw c.frame_root-root.ensures at (c.has_consistent_borrows.ensures ls h)
