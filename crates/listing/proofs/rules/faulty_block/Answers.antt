use Rattle.std.proofs.Common.{sym, ◌∙◌, get_or}
use borrow.Author.Tests.{le-leb, lt-leb}
use Rattle.listing.proofs.Laws.{faulty_eq, lt_is, none_block}
use Rattle.listing.proofs.rules.faulty_block.Goals as goal

pub returns-then-i-b : goal.returns-then-i-b
returns-then-i-b c = rw (faulty_eq c.args.blocks.now c.args.i c.args.code_count, c.if-i-b.true)

pub returns-then-lt : goal.returns-then-lt
returns-then-lt c = rw (faulty_eq c.args.blocks.now c.args.i c.args.code_count, c.if-i-b.false, sym (lt_is (get_or c.args.blocks.now c.args.i none_block).exit.0 (get_or c.args.blocks.now c.args.i none_block).entry.0) ∙ sym c.lt.ensures ∙ c.if-lt.true)

pub returns-then-code_count-place : goal.returns-then-code_count-place
returns-then-code_count-place c = rw (
  faulty_eq c.args.blocks.now c.args.i c.args.code_count,
  c.if-i-b.false,
  sym (lt_is (get_or c.args.blocks.now c.args.i none_block).exit.0 (get_or c.args.blocks.now c.args.i none_block).entry.0) ∙ sym c.lt.ensures ∙ c.if-lt.false,
  ← c.place.ensures.0,
  le-leb _ _ c.if-code_count-place.true,
)

pub returns-then-overlaps : goal.returns-then-overlaps
returns-then-overlaps c = rw (
  faulty_eq c.args.blocks.now c.args.i c.args.code_count,
  c.if-i-b.false,
  sym (lt_is (get_or c.args.blocks.now c.args.i none_block).exit.0 (get_or c.args.blocks.now c.args.i none_block).entry.0) ∙ sym c.lt.ensures ∙ c.if-lt.false,
  sym c.overlaps.ensures ∙ c.if-overlaps.true,
  ← c.place.ensures.0,
  lt-leb _ _ c.if-code_count-place.false,
)

pub returns : goal.returns
returns c = rw (
  faulty_eq c.args.blocks.now c.args.i c.args.code_count,
  c.if-i-b.false,
  sym (lt_is (get_or c.args.blocks.now c.args.i none_block).exit.0 (get_or c.args.blocks.now c.args.i none_block).entry.0) ∙ sym c.lt.ensures ∙ c.if-lt.false,
  sym c.overlaps.ensures ∙ c.if-overlaps.false,
  ← c.place.ensures.0,
  lt-leb _ _ c.if-code_count-place.false,
) c.faulty_successors.ensures
