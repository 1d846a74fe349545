use Rattle.std.proofs.Common.{rules, tests, ◌∙◌, eqb}
use Rattle.std.proofs.lemmas.Iterator.{YieldsList-from_slice}
use Rattle.std.proofs.lemmas.Iterator.Search.{any_from_yields_List}
use Rattle.meaning.proofs.Laws.Search.{list_any_of}
use Rattle.listing.specs.declared.Block.{Block}
use Rattle.listing.specs.Models.{block_of}
use Rattle.listing.proofs.rules.has_entry.Goals as goal

pub returns : goal.returns
returns c =
    any_from_yields_List {all = c.args.blocks.now} (λ (x : Block). eqb c.args.entry.0 x.entry.0) _ _ c.any.result c.any.ensures.ran (YieldsList-from_slice _ cc) (λ x b q k. search (rules, tests))
    ∙ list_any_of (λ b. eqb c.args.entry.0 b.entry) block_of c.args.blocks.now
