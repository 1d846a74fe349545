use mathlib.Core.Path.{◌≡◌, sym}
use borrow.Author.Tests.{le-leb, lt-leb}
use Prim.Native.Nat.{◌+◌, ◌*◌}
use lib.ListN.{get_or}
use Rattle.meaning.specs.Listing.{call_of}
use Rattle.listing.specs.Models.{call_for, decoded_of}
use Rattle.listing.proofs.decode.decode_call.Goals as goal

pub returns-then-acquired-gt-MAX_ACQUIRED : goal.returns-then-acquired-gt-MAX_ACQUIRED
unfolding call_for
returns-then-acquired-gt-MAX_ACQUIRED c =
    let a : get_or c.args.b.now 1 0 ≡ c.byte_at-acquired.result = sym c.byte_at-acquired.ensures in
    rw (a, lt-leb _ _ c.if-acquired-gt-MAX_ACQUIRED.true) c.alone.ensures

pub returns-then-returns-gt-MAX_RETURNS : goal.returns-then-returns-gt-MAX_RETURNS
unfolding call_for
returns-then-returns-gt-MAX_RETURNS c =
    let a : get_or c.args.b.now 1 0 ≡ c.byte_at-acquired.result = sym c.byte_at-acquired.ensures in
    let r : get_or c.args.b.now (2 + 2 * c.byte_at-acquired.result) 0 ≡ c.byte_at-returns.result = sym c.byte_at-returns.ensures in
    rw (a, r, le-leb _ _ c.if-acquired-gt-MAX_ACQUIRED.false, lt-leb _ _ c.if-returns-gt-MAX_RETURNS.true) c.alone-then-returns-gt-MAX_RETURNS.ensures

pub returns : goal.returns
unfolding call_for call_of decoded_of
returns c =
    let a2 = c.args in
    let ba = c.byte_at-acquired in
    let ba2 = c.byte_at-returns in
    let a : get_or a2.b.now 1 0 ≡ ba.result = sym ba.ensures in
    let r : get_or a2.b.now (2 + 2 * ba.result) 0 ≡ ba2.result = sym ba2.ensures in
    rw (a, r, le-leb _ _ c.if-acquired-gt-MAX_ACQUIRED.false, le-leb _ _ c.if-returns-gt-MAX_RETURNS.false, c.tokens_at.ensures, c.words_at.ensures, c.byte_at.ensures)
