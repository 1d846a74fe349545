use Rattle.std.proofs.Common.{ap, ◌∙◌}
use Rattle.meaning.specs.Listing.{locals_of}
use Rattle.listing_records.proofs.Laws.{too_long_lem, after}
use Rattle.listing_records.proofs.read_places.Goals as goal

pub returns-then-s-gt-MAX_BYTES : goal.returns-then-s-gt-MAX_BYTES
returns-then-s-gt-MAX_BYTES c = record {
  places = too_long_lem c.args.s.now c.if-s-gt-MAX_BYTES.true;
  counts = tt;
  all_blocks = c.told-blocks;
  all_code = c.told-code;
}

pub read_records-requires : goal.read_records-requires
read_records-requires c = (c.if-s-gt-MAX_BYTES.false, c.byte_at.ensures ∙ ap locals_of c.body-head.ensures)

pub returns : goal.returns
returns c = rw (after c.args.s.now c.if-s-gt-MAX_BYTES.false) c.read_records.ensures
