use lib.ListN.{length}
use mathlib.Core.Path.{sym, ◌∙◌}
use Rattle.meaning.proofs.Laws.Area.{has_block_lem, kept_in, kept_out}
use native.Mathlib.Omega.{arith}
use Rattle.absint_area.proofs.load.Goals as goal

pub overflow_mul-b : goal.overflow_mul-b
overflow_mul-b c =
    let h = has_block_lem (length c.args.area.now) c.args.b (sym c.has_block.ensures ∙ c.if-has_block.true) in
    omega (arith, h.0, h.1)

pub get_kept-requires : goal.get_kept-requires
get_kept-requires c =
    let h = has_block_lem (length c.args.area.now) c.args.b (sym c.has_block.ensures ∙ c.if-has_block.true) in
    omega (arith, h.0, h.1)

pub returns-then-has_block : goal.returns-then-has_block
returns-then-has_block c =
    let e = c.get_kept.ensures in
    (e.0, λ hl hn he. let k = e.1 hl hn he in (k.0 ∙ sym (kept_in _ _ _ (sym c.has_block.ensures ∙ c.if-has_block.true)), k.1, k.2, k.3))

pub returns : goal.returns
returns c = (tt, λ hl hn he. (sym (kept_out _ _ _ (sym c.has_block.ensures ∙ c.if-has_block.false)), hl, hn, he))
