use Rattle.std.proofs.Common.{◌≡◌, refl, sym, ap, ◌∙◌, List, ℕ, Option, Some, None, Ok}
use Rattle.listing.specs.declared.Routine.{Routine}
use Rattle.listing.specs.Models.{listed_of}
use Rattle.listing.specs.ModelLaws.{reading_is}
use Rattle.bench_listing.specs.Number.{number_of}
use Rattle.bench_listing.proofs.listing_number.Goals as goal

none_for : (s cs : List ℕ) (o : Option Routine) → number_of (listed_of s cs (Ok o)) ≡ 0
none_for s cs (Some r) = refl
none_for s cs None = refl

pub returns-in-Ok : goal.returns-in-Ok
returns-in-Ok c = let r = c.read_listing in sym (ap number_of (reading_is _ _ r.result _ r.ensures.listed c.in-Ok.is) ∙ none_for _ _ c.in-Ok.field-0)

pub returns-in-Err : goal.returns-in-Err
returns-in-Err c = let r = c.read_listing in c.from.ensures ∙ sym (ap number_of (reading_is _ _ r.result _ r.ensures.listed c.in-Err.is))
