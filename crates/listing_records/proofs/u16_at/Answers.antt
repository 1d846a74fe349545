use mathlib.Core.Path.{◌≡◌}
use Prim.Native.Nat.{◌+◌, ◌≤◌}
use lib.ListN.{length, get_or, get_or-eq_default}
use Rattle.meaning.specs.Listing.{u16_at}
use native.Mathlib.Omega.{arith}
use Rattle.listing_records.proofs.u16_at.Goals as goal

pub returns-then-s-i : goal.returns-then-s-i
unfolding u16_at
returns-then-s-i c =
    let a : get_or c.args.s.now c.args.i 0 ≡ 0 = get_or-eq_default c.args.s.now 0 c.if-s-i.true in
    let h : length c.args.s.now ≤ c.args.i + 1 = omega arith in
    let b : get_or c.args.s.now (c.args.i + 1) 0 ≡ 0 = get_or-eq_default c.args.s.now 0 h in
    omega arith

pub returns-then-s-i-eq1 : goal.returns-then-s-i-eq1
unfolding u16_at
returns-then-s-i-eq1 c =
    let a : c.wide.result ≡ get_or c.args.s.now c.args.i 0 = c.wide.ensures in
    let h : length c.args.s.now ≤ c.args.i + 1 = omega arith in
    let b : get_or c.args.s.now (c.args.i + 1) 0 ≡ 0 = get_or-eq_default c.args.s.now 0 h in
    omega arith

pub u16_in-requires : goal.u16_in-requires
u16_in-requires c = omega arith
