use mathlib.Core.Path.{◌≡◌}
use Prim.Native.Nat.{◌+◌}
use lib.ListN.{get_or}
use Rattle.meaning.specs.Listing.{u16_at}
use native.Mathlib.Omega.{arith}
use Rattle.listing_records.proofs.u16_in.Goals as goal

pub overflow_mul-result : goal.overflow_mul-result
overflow_mul-result c = omega (arith, c.shared_slice_known-3-1.given (c.args.i + 1), c.wide-2.ensures)

pub overflow_add-result : goal.overflow_add-result
overflow_add-result c = omega (arith, c.shared_slice_known-2-1.given c.args.i, c.shared_slice_known-3-1.given (c.args.i + 1), c.wide.ensures, c.wide-2.ensures)

pub returns : goal.returns
unfolding u16_at
returns c =
    let a : c.wide.result ≡ get_or c.args.s.now c.args.i 0 = c.wide.ensures in
    let b : c.wide-2.result ≡ get_or c.args.s.now (c.args.i + 1) 0 = c.wide-2.ensures in
    omega arith
