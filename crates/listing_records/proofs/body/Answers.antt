use mathlib.Core.Path.{◌≡◌, sym, ap, ◌∙◌}
use borrow.Author.Tests.{leb-true}
use Prim.Native.Nat.{ℕ, ◌+◌, ◌-◌, ◌≤◌}
use mathlib.Core.Bool.{true, false}
use lib.ListN.{length, take, drop}
use Rattle.meaning.specs.Listing.{u16_at, whole_at, body_at}
use native.Mathlib.Omega.{arith}
use Rattle.listing_records.proofs.body.Goals as goal

pub overflow_add-start : goal.overflow_add-start
unfolding whole_at
overflow_add-start c =
    let w : c.args.c.at + 4 + u16_at c.args.s.now c.args.c.at ≤ length c.args.s.now = leb-true _ _ (sym c.whole_at.ensures ∙ c.if-whole_at.true) in
    omega arith

pub overflow_add-end : goal.overflow_add-end
unfolding whole_at
overflow_add-end c =
    let a = c.args in
    let w : a.c.at + 4 + u16_at a.s.now a.c.at ≤ length a.s.now = leb-true _ _ (sym c.whole_at.ensures ∙ c.if-whole_at.true) in
    omega arith

pub slice_bounds-result-end : goal.slice_bounds-result-end
unfolding whole_at
slice_bounds-result-end c =
    let a = c.args in
    let w : a.c.at + 4 + u16_at a.s.now a.c.at ≤ length a.s.now = leb-true _ _ (sym c.whole_at.ensures ∙ c.if-whole_at.true) in
    omega arith

pub returns-then-whole_at : goal.returns-then-whole_at
unfolding body_at
returns-then-whole_at c =
    let a = c.args in
    let ua = c.u16_at in
    let w : whole_at a.s.now a.c.at ≡ true = sym c.whole_at.ensures ∙ c.if-whole_at.true in
    let e : (a.c.at + 4 + ua.result) - (a.c.at + 4) ≡ u16_at a.s.now a.c.at = omega (arith, ua.ensures) in
    rw w (ap (λ (n : ℕ). take n (drop (a.c.at + 4) a.s.now)) e)

pub returns-else-whole_at : goal.returns-else-whole_at
unfolding body_at
returns-else-whole_at c =
    let w : whole_at c.args.s.now c.args.c.at ≡ false = sym c.whole_at.ensures ∙ c.if-whole_at.false in
    rw w
