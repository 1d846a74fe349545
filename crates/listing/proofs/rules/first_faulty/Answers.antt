use Rattle.std.proofs.Common.{◌≡◌, sym, ◌∙◌, length, arith}
use Rattle.listing.proofs.Laws.{first_stop, first_turn, first_end}
use Rattle.listing.proofs.rules.first_faulty.Goals as goal

pub returns-then-faulty_block : goal.returns-then-faulty_block
returns-then-faulty_block c =
    let l = c.loop-i in
    (c.loop-i-test.true, sym (first_stop _ l.i _ _ c.loop-i-test.true l.invariant (sym c.faulty_block.ensures ∙ c.if-faulty_block.true)))

pub loop-i-preserved : goal.loop-i-preserved
loop-i-preserved c = first_turn _ c.loop-i.i _ _ c.loop-i-test.true c.loop-i.invariant (sym c.faulty_block.ensures ∙ c.if-faulty_block.false)

pub returns : goal.returns
returns c =
    let e : c.loop-i.i ≡ length c.args.blocks.now = omega arith in
    sym (first_end _ c.loop-i.i _ _ e c.loop-i.invariant)
