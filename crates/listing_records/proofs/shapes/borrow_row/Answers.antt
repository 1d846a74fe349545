use mathlib.Core.Path.{refl}
use native.Mathlib.Omega.{arith}
use Rattle.meaning.specs.Listing.{fields_of, fields_in}
use Rattle.listing_records.specs.Models.{packed, body_limits, padded}
use Rattle.listing_records.proofs.KindLaws.{one_kind, borrow_kinds, row_of}
use Rattle.listing_records.proofs.shapes.borrow_row.Goals as goal

pub returns-in-18 : goal.returns-in-18
unfolding packed body_limits padded fields_of fields_in
returns-in-18 c = row_of c.args.locals c.args.kind (packed 4 20) (one_kind 20 18 c.args.kind refl c.in-18.is)

pub returns-in-21 : goal.returns-in-21
unfolding packed body_limits padded fields_of fields_in
returns-in-21 c = row_of c.args.locals c.args.kind (packed 4 5) (one_kind 5 21 c.args.kind refl c.in-21.is)

pub returns-in_default : goal.returns-in_default
unfolding packed body_limits padded fields_of fields_in
returns-in_default c = row_of c.args.locals c.args.kind (packed 4 21) (let a = c.in_default.in_default-own.rest.0.1 in let b = c.in_default.in_default-own.rest.1 in borrow_kinds c.args.kind (omega arith) (omega arith))
