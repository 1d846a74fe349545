-- The number of a refusal; 0 where there is none.
use Rattle.std.specs.Prelude.{ℕ}
use Rattle.meaning.specs.Blocks.{Routine}
use Rattle.meaning.specs.Listing.{Listed, read, nothing, refused}

abbrev pub number_of : Listed Routine → ℕ
number_of (read q) = 0
number_of nothing = 0
number_of (refused n at) = n
