use Rattle.std.proofs.Common.{rules, tests, ◌∙◌, eqb, ◌&&◌}
use Rattle.std.proofs.lemmas.Iterator.{YieldsList-from_slice}
use Rattle.std.proofs.lemmas.Iterator.Search.{any_from_yields_List}
use Rattle.meaning.specs.Lists.{empty}
use Rattle.meaning.proofs.Laws.Search.{list_any_of}
use Rattle.listing.specs.declared.Block.{Block}
use Rattle.listing.specs.Models.{block_of}
use Rattle.listing.proofs.Laws.{no_successor}
use Rattle.listing.proofs.rules.ends_block.Goals as goal

pub returns : goal.returns
returns c =
    any_from_yields_List {all = c.args.blocks.now} (λ (x : Block). eqb c.args.k.0 x.exit.0 && empty (block_of x).successors) _ _ c.any.result c.any.ensures.ran (YieldsList-from_slice _ cc) (λ x b q k. simp no_successor (search (rules, tests)))
    ∙ list_any_of (λ b. eqb c.args.k.0 b.exit && empty b.successors) block_of c.args.blocks.now
