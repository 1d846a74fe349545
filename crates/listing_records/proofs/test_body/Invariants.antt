use mathlib.Core.Path.{◌≡◌}
use Prim.Native.Nat.{◌<◌}
use mathlib.Core.Bool.{◌&&◌}
use Rattle.meaning.specs.Listing.{fits_body, within_limits}
use Rattle.listing_records.specs.Models.{packed}
use Rattle.listing_records.proofs.test_body.Given as goal

abbrev pub invariant-loop-fields : goal.invariant-loop-fields
invariant-loop-fields l = (l.fields < 65536) × (fits_body l.locals (packed 4 l.fields) l.rest ≡ fits_body l.locals (packed 4 l.shape) l.b) × ((l.within && within_limits (packed 4 l.fields) l.rest) ≡ within_limits (packed 4 l.shape) l.b)

abbrev pub decreases-loop-fields : goal.decreases-loop-fields
decreases-loop-fields l = l.fields
