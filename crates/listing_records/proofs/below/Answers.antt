use Rattle.listing_records.proofs.below.Goals as goal

pub returns : goal.returns
returns c = rw c.wide.ensures
