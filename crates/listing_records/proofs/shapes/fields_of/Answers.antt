use mathlib.Core.Path.{refl}
use native.Mathlib.Omega.{arith}
use Rattle.meaning.specs.Listing.{fields_of, fields_in}
use Rattle.listing_records.specs.Models.{packed}
use Rattle.listing_records.proofs.KindLaws.{one_kind, bare_or_none, local_kinds, borrow_kinds, rest_kinds}
use Rattle.listing_records.proofs.shapes.fields_of.Goals as goal
use Rattle.listing_records.proofs.shapes.fields_of.Goals.{in_default-via-then-kind-lt18, in_default-via-else-kind-lt18+else-kind-lt22+else-kind-lt25}

pub returns-in-26 : goal.returns-in-26
unfolding packed fields_of fields_in
returns-in-26 c = one_kind 8466 26 c.args.kind refl c.in-26.is

pub returns-in-27 : goal.returns-in-27
unfolding packed fields_of fields_in
returns-in-27 c = one_kind 1 27 c.args.kind refl c.in-27.is

pub returns-in-18 : goal.returns-in-18
unfolding packed fields_of fields_in
returns-in-18 c = one_kind 20 18 c.args.kind refl c.in-18.is

pub returns-in-21 : goal.returns-in-21
unfolding packed fields_of fields_in
returns-in-21 c = one_kind 5 21 c.args.kind refl c.in-21.is

pub returns-in_default-kind : goal.returns-in_default-kind
returns-in_default-kind c =
    let a = c.in_default-kind.in_default-kind-own.rest.0.1 in
    let b = c.in_default-kind.in_default-kind-own.rest.1 in
    borrow_kinds c.args.kind (omega arith) (omega arith)

pub returns-in-22 : goal.returns-in-22
unfolding packed fields_of fields_in
returns-in-22 c = one_kind 2163 22 c.args.kind refl c.in-22.is

pub returns-in-24 : goal.returns-in-24
unfolding packed fields_of fields_in
returns-in-24 c = one_kind 597 24 c.args.kind refl c.in-24.is

pub returns-in_default-kind-2 : goal.returns-in_default-kind-2
unfolding packed fields_of fields_in
returns-in_default-kind-2 c =
    let a = c.in_default-kind-2.in_default-kind-2-own.rest.0.1 in
    let b = c.in_default-kind-2.in_default-kind-2-own.rest.1 in
    one_kind 0 23 c.args.kind refl (omega arith)

pub returns-in-1 : goal.returns-in-1
unfolding packed fields_of fields_in
returns-in-1 c = one_kind 137 1 c.args.kind refl c.in-1.is

pub returns-in-2 : goal.returns-in-2
unfolding packed fields_of fields_in
returns-in-2 c = one_kind 1621 2 c.args.kind refl c.in-2.is

pub returns-in-11-to-13 : goal.returns-in-11-to-13
returns-in-11-to-13 c = local_kinds c.args.kind (omega arith) (omega arith)

pub returns-in_default-kind-3 : goal.returns-in_default-kind-3
unfolding packed fields_of fields_in
returns-in_default-kind-3 c = bare_or_none 10 c.args.kind refl c.in_default-kind-3.in_default-kind-4-own.rest.0.1 c.in_default-kind-3.in_default-kind-4-own.rest.1 (λ a b. omega arith)

pub returns-in_default-kind-3-2 : goal.returns-in_default-kind-3-2
returns-in_default-kind-3-2 c =
    let a = c.in_default-1.rest.0.1 in
    let b = c.in_default-1.rest.1 in
    rest_kinds c.args.kind (omega arith)
    (λ h. elim c.in_default.branch [
      | in_default-via-then-kind-lt18 w ↦ absurd (omega arith)
      | in_default-via-else-kind-lt18+else-kind-lt22+else-kind-lt25 w ↦ omega arith
    ]) a b
