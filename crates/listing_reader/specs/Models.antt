-- The step from one record of a listing to the next.
use Rattle.std.specs.Prelude.{ℕ}
use Rattle.std.proofs.Math.Option.{Option, none, some}
use Rattle.meaning.specs.Listing.{Listed, read, nothing, refused}
use Rattle.listing_records.specs.Models.{Head, found_at}
use Rattle.listing_reader.specs.declared.Reader.{Reader}

-- where the next record starts, once a place was read: the same place, if no whole record stands there
abbrev pub after : Listed (Option Head) → ℕ → ℕ
after (read (some h)) at = h.next
after (read none) at = at
after nothing at = at
after (refused n p) at = at

-- a reader that has read what stood at its place
abbrev pub onward : Reader → Reader
onward r = record { listing = r.listing; at = after (found_at r.listing.now r.at) r.at }
