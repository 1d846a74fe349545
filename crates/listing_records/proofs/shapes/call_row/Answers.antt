use mathlib.Core.Path.{refl}
use native.Mathlib.Omega.{arith}
use Rattle.meaning.specs.Listing.{fields_of, fields_in}
use Rattle.listing_records.specs.Models.{packed, body_limits, padded}
use Rattle.listing_records.proofs.KindLaws.{one_kind, row_of}
use Rattle.listing_records.proofs.shapes.call_row.Goals as goal

pub returns-in-22 : goal.returns-in-22
unfolding packed body_limits padded fields_of fields_in
returns-in-22 c = row_of c.args.locals c.args.kind (packed 4 2163) (one_kind 2163 22 c.args.kind refl c.in-22.is)

pub returns-in-24 : goal.returns-in-24
unfolding packed body_limits padded fields_of fields_in
returns-in-24 c = row_of c.args.locals c.args.kind (packed 4 597) (one_kind 597 24 c.args.kind refl c.in-24.is)

pub returns-in_default : goal.returns-in_default
unfolding packed body_limits padded fields_of fields_in
returns-in_default c = row_of c.args.locals c.args.kind (packed 4 0) (let a = c.in_default.in_default-own.rest.0.1 in let b = c.in_default.in_default-own.rest.1 in one_kind 0 23 c.args.kind refl (omega arith))
