use mathlib.Core.Path.{◌≡◌, sym, ◌∙◌}
use mathlib.Core.Bool.{true, false}
use borrow.Author.Tests.{le-leb, lt-leb, leb-true}
use Prim.Native.Nat.{◌+◌, ◌≤◌}
use lib.ListN.{length}
use lib.Dec.{leb}
use Rattle.meaning.specs.Listing.{u16_at, whole_at}
use Rattle.listing_records.specs.Models.{found_at}
use native.Mathlib.Omega.{arith}
use Rattle.listing_records.proofs.read.Goals as goal

pub returns-then-s-at : goal.returns-then-s-at
unfolding found_at
returns-then-s-at c = simp (le-leb _ _ c.if-s-at.true)

pub u16_in-kind-requires : goal.u16_in-kind-requires
unfolding whole_at
u16_in-kind-requires c =
    let a = c.args in
    let w : a.c.at + 4 + u16_at a.s.now a.c.at ≤ length a.s.now = leb-true _ _ (sym c.whole_at.ensures ∙ c.if-not-whole_at.false) in
    omega arith

pub u16_in-requires : goal.u16_in-requires
unfolding whole_at
u16_in-requires c =
    let a = c.args in
    let w : a.c.at + 4 + u16_at a.s.now a.c.at ≤ length a.s.now = leb-true _ _ (sym c.whole_at.ensures ∙ c.if-not-whole_at.false) in
    omega arith

pub returns : goal.returns
unfolding found_at
returns c = let a = c.args in
    let w : whole_at a.s.now a.c.at ≡ true = sym c.whole_at.ensures ∙ c.if-not-whole_at.false in
    let f : leb (length a.s.now) a.c.at ≡ false = lt-leb _ _ c.if-s-at.false in
    rw (f, w, c.u16_in.ensures, c.u16_in-kind.ensures)

pub returns-then-not-whole_at : goal.returns-then-not-whole_at
unfolding found_at
returns-then-not-whole_at c = let a = c.args in
    let w : whole_at a.s.now a.c.at ≡ false = sym c.whole_at.ensures ∙ c.if-not-whole_at.true in
    let f : leb (length a.s.now) a.c.at ≡ false = lt-leb _ _ c.if-s-at.false in
    rw (f, w)
