use mathlib.Core.Path.{refl, sym, ◌∙◌}
use Rattle.abstract_state_calls.specs.AcquireLaws.{lower_put, lower_kept}
use Rattle.abstract_state_calls.proofs.lower_borrowed.Goals as goal

pub returns-then-is_borrowed : goal.returns-then-is_borrowed
returns-then-is_borrowed c = λ ls h. rw (sym (c.is_borrowed.ensures ls h) ∙ c.if-is_borrowed.true) (lower_put c.args.resource _ (sym c.is_lower.ensures ∙ c.if-is_lower.true))

pub returns-else-is_borrowed : goal.returns-else-is_borrowed
returns-else-is_borrowed c = λ ls h. rw (sym (c.is_borrowed.ensures ls h) ∙ c.if-is_borrowed.false) refl

pub returns-else-is_lower : goal.returns-else-is_lower
returns-else-is_lower c = λ ls h. lower_kept _ c.args.resource _ (sym c.is_lower.ensures ∙ c.if-is_lower.false)
