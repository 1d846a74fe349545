-- What an answer of the reader says, once it is known how the reading ended.
use Rattle.std.specs.Prelude.{◌≡◌, List, ℕ, Option, Result}
use Rattle.std.proofs.Common.{sym, ap, ◌∙◌}
use Rattle.meaning.specs.Blocks as Q
use Rattle.meaning.specs.Listing as D
use Rattle.vm_status.specs.declared.Refused.{Refused}
use Rattle.listing.specs.declared.Routine.{Routine}
use Rattle.listing.specs.Models.{listed_of}

-- what an answer stands for, known by its constructors
pub reading_is : (s cs : List ℕ) {x : D.Listed Q.Routine} (r y : Result (Option Routine) Refused) → listed_of s cs r ≡ x → r ≡ y → x ≡ listed_of s cs y
reading_is s cs r y a e = sym a ∙ ap (listed_of s cs) e
