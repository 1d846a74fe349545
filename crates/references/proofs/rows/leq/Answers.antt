use Rattle.std.proofs.Common.{sym, ◌∙◌}
use Rattle.meaning.specs.References.{covers}
use Rattle.references.proofs.rows.leq.Goals as goal

pub returns-then-eq : goal.returns-then-eq
unfolding covers
returns-then-eq c = rw (sym c.eq.ensures ∙ c.if-eq.true) c.if-eq.true

pub returns-then-not-is_strong : goal.returns-then-not-is_strong
unfolding covers
returns-then-not-is_strong c = rw (sym c.eq.ensures ∙ c.if-eq.false, sym c.is_strong.ensures ∙ c.if-not-is_strong.true) c.leq_paths.ensures

pub returns-else-not-is_strong : goal.returns-else-not-is_strong
unfolding covers
returns-else-not-is_strong c = rw (sym c.eq.ensures ∙ c.if-eq.false, sym c.is_strong.ensures ∙ c.if-not-is_strong.false, c.if-not-is_strong.false)
