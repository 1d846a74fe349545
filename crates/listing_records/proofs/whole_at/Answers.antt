use mathlib.Core.Path.{sym}
use borrow.Author.Tests.{lt-leb}
use Prim.Native.Nat.{◌+◌, ◌-◌, ◌<◌}
use lib.ListN.{length}
use Rattle.meaning.specs.Listing.{u16_at, whole_at}
use Rattle.listing_records.proofs.Lists.{leb_iff}
use native.Mathlib.Omega.{arith}
use Rattle.listing_records.proofs.whole_at.Goals as goal

pub returns-then-s-at : goal.returns-then-s-at
unfolding whole_at
returns-then-s-at c =
    let h : length c.args.s.now < c.args.at + 4 + u16_at c.args.s.now c.args.at = omega arith in
    sym (lt-leb _ _ h)

pub returns-then-left-lt4 : goal.returns-then-left-lt4
unfolding whole_at
returns-then-left-lt4 c =
    let h : length c.args.s.now < c.args.at + 4 + u16_at c.args.s.now c.args.at = omega arith in
    sym (lt-leb _ _ h)

pub u16_in-len-requires : goal.u16_in-len-requires
u16_in-len-requires c = omega arith

pub returns : goal.returns
unfolding whole_at
returns c =
    let a = c.args in
    leb_iff (4 + c.u16_in-len.result) (length a.s.now - a.at) (a.at + 4 + u16_at a.s.now a.at) (length a.s.now) (λ h. omega (arith, c.u16_in-len.ensures)) (λ h. omega (arith, c.u16_in-len.ensures))
