use Rattle.std.proofs.Common.{rules, tests, eqb}
use Rattle.std.proofs.lemmas.Iterator.{YieldsList-from_slice}
use Rattle.std.proofs.lemmas.Iterator.Search.{position_from_yields_List}
use Rattle.listing.specs.declared.Block.{Block}
use Rattle.absint.specs.LoopLaws.{position_made}
use Rattle.absint.proofs.propagate.position_of.Goals as goal

pub returns : goal.returns
returns c =
    position_made c.args.blocks.now c.args.e.0 c.position.result
    (position_from_yields_List {all = c.args.blocks.now} (λ (b : Block). eqb c.args.e.0 b.entry.0) _ _ c.position.result c.position.ensures.ran (YieldsList-from_slice _ cc) (λ x b q k. search (rules, tests)))
