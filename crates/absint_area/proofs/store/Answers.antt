use lib.ListN.{length}
use mathlib.Core.Path.{sym, ◌∙◌}
use Rattle.meaning.proofs.Laws.Area.{has_block_lem, stored, not_stored}
use native.Mathlib.Omega.{arith}
use Rattle.absint_area.proofs.store.Goals as goal

pub overflow_mul-b : goal.overflow_mul-b
overflow_mul-b c =
    let h = has_block_lem (length c.args.area.now) c.args.b (sym c.has_block.ensures ∙ c.if-has_block.true) in
    omega (arith, h.0, h.1)

pub put_state-requires : goal.put_state-requires
put_state-requires c =
    let h = has_block_lem (length c.args.area.now) c.args.b (sym c.has_block.ensures ∙ c.if-has_block.true) in
    omega (arith, h.0, h.1)

pub returns-then-has_block : goal.returns-then-has_block
returns-then-has_block c = λ hl hn he. stored _ _ _ _ _ (sym c.has_block.ensures ∙ c.if-has_block.true) c.put_state.ensures.0 (c.put_state.ensures.1 hl hn he)

pub returns-else-has_block : goal.returns-else-has_block
returns-else-has_block c = λ hl hn he. not_stored _ _ _ _ (sym c.has_block.ensures ∙ c.if-has_block.false)
