use Rattle.listing_records.proofs.KindLaws.{in_use_lem}
use Rattle.listing_records.proofs.shapes.in_use.Goals as goal

pub returns : goal.returns
returns c = in_use_lem c.args.kind
