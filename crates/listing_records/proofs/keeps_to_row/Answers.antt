use Rattle.listing_records.specs.Models.{keeps_to}
use Rattle.listing_records.proofs.keeps_to_row.Goals as goal

pub returns : goal.returns
unfolding keeps_to
returns c = rw (c.below-a.ensures, c.below-b.ensures, c.below-c.ensures, c.below-d.ensures, c.below-e.ensures)
