use mathlib.Core.Path.{◌≡◌, sym, ap, ◌∙◌}
use mathlib.Core.Bool.{not, true, false}
use mathlib.Core.List.{[]}
use Prim.Native.Nat.{ℕ, ◌+◌, ◌-◌, ◌≤◌, ◌<◌}
use lib.Dec.{leb, ltb, eqb}
use lib.ListN.{length, get_or}
use borrow.Author.Tests.{ltb-true, not-true}
use Rattle.meaning.proofs.Laws.Base.{and_l, and_r, leb_le, eqb_ne}
use Rattle.meaning.specs.Listing.{kind_at, u16_at}
use Rattle.listing_records.specs.Models.{keeps_to, limit_rows}
use Rattle.listing_records.proofs.RowLaws.{keeps_fine, keeps_inside}
use native.Mathlib.Omega.{arith}
use Rattle.listing_records.proofs.test_by_row.Goals as goal
use Rattle.listing_records.proofs.test_by_row.Lts as lts
use Rattle.listing_records.proofs.test_by_row.Reads as reads
use Rattle.listing_records.proofs.test_by_row.Tie as tie

-- nine bytes are there, and this is not the first record
nine : (c : (lts.Then1 tie.the-claims reads.Pre reads.Post)) → (c.args.at + 9 ≤ length c.args.s.now) × (c.args.at ≡ 0 → ⊥)
nine c =
    let a = c.args in
    let h : 9 ≤ length a.s.now - a.at = leb_le (and_r (not (eqb a.at 0)) (leb 9 (length a.s.now - a.at)) c.if-at-left.true) in
    let z : eqb a.at 0 ≡ false = not-true _ (and_l (not (eqb a.at 0)) (leb 9 (length a.s.now - a.at)) c.if-at-left.true) in
    (omega (arith, h, c.requires.0), eqb_ne z)

-- the kind has a row
kinds : (c : (lts.Then2 tie.the-claims reads.Pre reads.Post)) → (10 ≤ c.u16_in-kind.result) × (c.u16_in-kind.result < 28)
kinds c =
    let k = c.u16_in-kind.result in
    (leb_le (and_l (leb 10 k) (ltb k 28) c.if-kind.true), ltb-true _ _ (and_r (leb 10 k) (ltb k 28) c.if-kind.true))

pub u16_in-n-requires : goal.u16_in-n-requires
u16_in-n-requires c = omega (arith, (nine c.before).0)

pub overflow_add-at : goal.overflow_add-at
overflow_add-at c = omega (arith, (nine c.before.before).0)

pub u16_in-kind-requires : goal.u16_in-kind-requires
u16_in-kind-requires c = omega (arith, (nine c.before.before).0)

pub overflow_sub-kind : goal.overflow_sub-kind
overflow_sub-kind c = omega (arith, (kinds c.before).0)

pub bounds-rows-kind : goal.bounds-rows-kind
bounds-rows-kind c = omega (arith, (kinds c.before).0, (kinds c.before).1)

pub keeps_to_row-requires : goal.keeps_to_row-requires
keeps_to_row-requires c = (nine c.before.before.before.before).0

pub overflow_add-next : goal.overflow_add-next
overflow_add-next c = omega (arith, (nine c.before.before.before.before.before.before).0)

pub overflow_add-next-then-keeps_to_row : goal.overflow_add-next-then-keeps_to_row
overflow_add-next-then-keeps_to_row c = omega (arith, (nine c.before.before.before.before.before.before).0)

pub returns-then-keeps_to_row : goal.returns-then-keeps_to_row
returns-then-keeps_to_row c = let a = c.args in
    let n = nine c.before.before.before.before.before.before in
    let k = kinds c.before.before.before in
    let row = c.u16_in-kind.result - 10 in
    let e : kind_at a.s.now a.at ≡ 10 + row = sym c.u16_in-kind.ensures ∙ omega (arith, k.0) in
    let h : keeps_to (get_or (limit_rows a.locals) row []) (u16_at a.s.now a.at) a.s.now a.at ≡ true =
    rw (← c.u16_in-n.ensures, ← c.requires.1) (sym c.keeps_to_row.ensures ∙ c.if-keeps_to_row.true) in
    record {
      fine = keeps_fine a.s.now a.locals a.at row n.0 (omega (arith, k.1)) e h a.coded n.1;
      kind = c.u16_in-kind.ensures;
      next = ap (λ (m : ℕ). a.at + 4 + m) c.u16_in-n.ensures;
      inside = rw c.u16_in-n.ensures (keeps_inside a.s.now a.locals a.at row n.0 (omega (arith, k.1)) e h);
    }
