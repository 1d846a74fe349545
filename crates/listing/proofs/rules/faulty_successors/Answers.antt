use Rattle.std.proofs.Common.{sym, map, ◌∙◌}
use Rattle.meaning.proofs.Laws.Base.{eqb_eq, eqb_ne}
use Rattle.meaning.specs.Listing.{faulty_successor}
use Rattle.listing.specs.Models.{block_of}
use Rattle.listing.proofs.Laws.{succ_0, succ_1, succ_same, succ_second}
use Rattle.listing.proofs.rules.faulty_successors.Goals as goal

pub returns-then-count-eq0 : goal.returns-then-count-eq0
returns-then-count-eq0 c = succ_0 (faulty_successor (map block_of c.args.blocks.now) c.args.i (block_of c.args.b)) c.args.b.first.0 c.args.b.second.0 c.args.b.count c.if-count-eq0.true

pub returns-then-count-eq1 : goal.returns-then-count-eq1
returns-then-count-eq1 c =
    let a = c.args in
    succ_1 (faulty_successor (map block_of a.blocks.now) a.i (block_of a.b)) a.b.first.0 a.b.second.0 a.b.count c.if-count-eq1.true (sym c.faulty_successor.ensures ∙ c.if-faulty_successor.false)

pub returns-then-eq : goal.returns-then-eq
returns-then-eq c =
    let a = c.args in
    succ_same (faulty_successor (map block_of a.blocks.now) a.i (block_of a.b)) a.b.first.0 a.b.second.0 a.b.count c.if-count-eq0.false c.if-count-eq1.false
    (eqb_eq (sym c.eq.ensures ∙ c.if-eq.true))

pub returns : goal.returns
returns c =
    let a = c.args in
    c.faulty_successor-2.ensures ∙ succ_second (faulty_successor (map block_of a.blocks.now) a.i (block_of a.b)) a.b.first.0 a.b.second.0 a.b.count
    c.if-count-eq0.false c.if-count-eq1.false (eqb_ne (sym c.eq.ensures ∙ c.if-eq.false)) (sym c.faulty_successor.ensures ∙ c.if-faulty_successor.false)
