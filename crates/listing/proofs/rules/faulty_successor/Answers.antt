use Rattle.std.proofs.Common.{◌≡◌, true, sym, ◌∙◌, ltb, ◌+◌, map}
use Rattle.std.proofs.lemmas.List.{drop-map}
use Rattle.listing.specs.Models.{block_of}
use Rattle.listing_records.proofs.Laws.{tail_part}
use Rattle.listing.proofs.Laws.{succ_forth, lt_is}
use Rattle.listing.proofs.rules.faulty_successor.Goals as goal

pub returns-then-lt : goal.returns-then-lt
returns-then-lt c =
    let a = c.args in
    let t : ltb a.b.entry.0 a.e.0 ≡ true = sym (lt_is _ _) ∙ sym c.lt.ensures ∙ c.if-lt.true in
    let later = rw (tail_part a.blocks.now (a.i + 1), ← drop-map block_of (a.i + 1) a.blocks.now) at c.has_entry-then-lt.ensures in
    rw later (succ_forth (map block_of a.blocks.now) a.i a.e.0 (block_of a.b) (sym c.has_entry.ensures ∙ c.if-not-has_entry.false) t)
