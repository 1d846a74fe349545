use Rattle.std.proofs.Common.{rules, tests, ◌∙◌}
use Rattle.std.proofs.lemmas.Iterator.{YieldsList-from_slice}
use Rattle.std.proofs.lemmas.Iterator.Search.{any_from_yields_List}
use Rattle.meaning.specs.Listing.{overlap}
use Rattle.meaning.proofs.Laws.Search.{list_any_of}
use Rattle.listing.specs.declared.Block.{Block}
use Rattle.listing.specs.Models.{block_of}
use Rattle.listing.proofs.rules.overlaps.Goals as goal

pub returns : goal.returns
returns c =
    any_from_yields_List {all = c.args.blocks.now} (λ (x : Block). overlap (block_of c.args.b) (block_of x)) _ _ c.any.result c.any.ensures.ran (YieldsList-from_slice _ cc) (λ x b q k. search (rules, tests))
    ∙ list_any_of (overlap (block_of c.args.b)) block_of c.args.blocks.now
