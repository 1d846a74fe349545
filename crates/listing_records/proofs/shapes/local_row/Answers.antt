use mathlib.Core.Path.{refl}
use native.Mathlib.Omega.{arith}
use Rattle.meaning.specs.Listing.{fields_of, fields_in}
use Rattle.listing_records.specs.Models.{packed, body_limits, padded}
use Rattle.listing_records.proofs.KindLaws.{one_kind, local_kinds, bare_kinds, row_of}
use Rattle.listing_records.proofs.shapes.local_row.Goals as goal

pub returns-then-kind-lt11 : goal.returns-then-kind-lt11
unfolding packed body_limits padded fields_of fields_in
returns-then-kind-lt11 c = row_of c.args.locals c.args.kind (packed 4 0) (one_kind 0 10 c.args.kind refl (omega arith))

pub returns-in-11-to-13 : goal.returns-in-11-to-13
unfolding packed body_limits padded fields_of fields_in
returns-in-11-to-13 c = row_of c.args.locals c.args.kind (packed 4 4) (local_kinds c.args.kind (omega arith) (omega arith))

pub returns-else-kind-lt14 : goal.returns-else-kind-lt14
unfolding packed body_limits padded fields_of fields_in
returns-else-kind-lt14 c = row_of c.args.locals c.args.kind (packed 4 0) (bare_kinds c.args.kind (omega arith) (omega arith))
