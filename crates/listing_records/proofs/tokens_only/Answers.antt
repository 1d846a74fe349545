use Rattle.std.proofs.Common.{rules, tests, ap, ◌∙◌}
use Rattle.std.proofs.lemmas.Iterator.{YieldsList-from_slice}
use Rattle.std.proofs.lemmas.Iterator.Search.{all_from_yields_List}
use Rattle.meaning.specs.Lists.{all}
use Rattle.meaning.specs.Listing.{is_token}
use Rattle.meaning.proofs.Laws.Search.{list_all_of}
use Rattle.listing_records.proofs.Lists.{map_id}
use Rattle.listing_records.proofs.tokens_only.Goals as goal

pub returns : goal.returns
returns c =
    all_from_yields_List {all = c.args.b.now} is_token _ _ c.all.result c.all.ensures.ran (YieldsList-from_slice _ cc) (λ x b q k. search (rules, tests))
    ∙ list_all_of is_token (λ x. x) c.args.b.now ∙ ap (all is_token) (map_id c.args.b.now)
