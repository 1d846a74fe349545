use mathlib.Core.Path.{refl}
use native.Mathlib.Omega.{arith}
use Rattle.meaning.specs.Listing.{fields_of, fields_in}
use Rattle.listing_records.specs.Models.{packed, body_limits, padded}
use Rattle.listing_records.proofs.KindLaws.{one_kind, row_of}
use Rattle.listing_records.proofs.shapes.vector_row.Goals as goal

pub returns-in-26 : goal.returns-in-26
unfolding packed body_limits padded fields_of fields_in
returns-in-26 c = row_of c.args.locals c.args.kind (packed 4 8466) (one_kind 8466 26 c.args.kind refl c.in-26.is)

pub returns-in-27 : goal.returns-in-27
unfolding packed body_limits padded fields_of fields_in
returns-in-27 c = row_of c.args.locals c.args.kind (packed 4 1) (one_kind 1 27 c.args.kind refl c.in-27.is)

pub returns-in_default : goal.returns-in_default
unfolding packed body_limits padded fields_of fields_in
returns-in_default c = row_of c.args.locals c.args.kind (packed 4 0) (let a = c.in_default.in_default-own.rest.0.1 in let b = c.in_default.in_default-own.rest.1 in one_kind 0 25 c.args.kind refl (omega arith))
