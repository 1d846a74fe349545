use mathlib.Core.Path.{◌≡◌, refl, sym, ◌∙◌}
use Prim.Native.Nat.{ℕ, ◌+◌, ◌<◌}
use native.Mathlib.Omega.{arith}
use lib.ListN.{length, take, length-set}
use lib.Seq.{take_all}
use Rattle.meaning.specs.Lists.{up_to}
use Rattle.listing_records.specs.Models.{limit_row, limit_rows}
use Rattle.listing_records.proofs.Lists.{filled, map_id}
use Rattle.listing_records.proofs.shapes.limit_rows.Goals as goal

pub loop-i-init : goal.loop-i-init
unfolding up_to
loop-i-init c = (omega arith, refl, refl)

pub offset_bounds-rows-i : goal.offset_bounds-rows-i
offset_bounds-rows-i c = omega arith

pub bounds-rows-i : goal.bounds-rows-i
bounds-rows-i c = c.loop-i-test.true

pub overflow_cast-i : goal.overflow_cast-i
overflow_cast-i c = omega arith

pub overflow_add-i : goal.overflow_add-i
overflow_add-i c = omega arith

pub limit_row-requires : goal.limit_row-requires
limit_row-requires c = (omega arith, omega arith)

pub overflow_step-i : goal.overflow_step-i
overflow_step-i c = omega arith

pub loop-i-smaller : goal.loop-i-smaller
loop-i-smaller c = omega arith

pub loop-i-preserved : goal.loop-i-preserved
loop-i-preserved c =
    let rows = c.loop-i.rows in
    let i : ℕ = c.loop-i.i in
    let h : i < length rows = omega arith in (
      omega arith,
      length-set rows i _ ∙ c.loop-i.invariant.1,
      filled (λ r. r) (λ k. limit_row c.args.locals (10 + k)) rows i _ h c.loop-i.invariant.2 c.limit_row.ensures,
    )

pub returns : goal.returns
unfolding limit_rows
returns c =
    let l = c.loop-i in
    let n : l.i ≡ 18 = omega arith in
    sym (take_all 18 l.rows (omega arith)) ∙ sym (map_id (take 18 l.rows)) ∙ rw n at l.invariant.2
