use mathlib.Core.Path.{refl, sym, ◌∙◌}
use Prim.Native.Nat.{◌%◌, ◌/◌, ◌<◌}
use lib.ListN.{length}
use Rattle.meaning.specs.Listing.{field_width}
use Rattle.listing_records.specs.Models.{field_of, packed, body_fault}
use Rattle.listing_records.proofs.Laws.{tail_part, fields_here, fields_end, some_width, fit_wide, fit_stop, fit_go, fit_turn, fit_over, fit_done, within_turn, within_done}
use native.Mathlib.Omega.{arith}
use Rattle.listing_records.proofs.test_body.Goals as goal

pub loop-fields-init : goal.loop-fields-init
loop-fields-init c = (omega arith, refl, refl)

pub returns-then-rest-eq0 : goal.returns-then-rest-eq0
unfolding body_fault
returns-then-rest-eq0 c =
    let l = c.loop-fields in
    let f = field_of (l.fields % 16) in
    let p : 0 < field_width f l.rest.now = some_width f l.rest.now in
    let h : length l.rest.now < field_width f l.rest.now = omega arith in
    rw (← fit_wide c.args.locals (packed 4 l.fields) (packed 4 (l.fields / 16)) l.rest.now (field_width f l.rest.now) f (fields_here l.fields l.invariant.0 c.loop-fields-test.true) refl _ l.invariant.1 h)

pub returns-then-rest-t : goal.returns-then-rest-t
unfolding body_fault
returns-then-rest-t c =
    let l = c.loop-fields in
    let t = c.test_field-t in
    rw (← fit_stop c.args.locals (packed 4 l.fields) (packed 4 (l.fields / 16)) l.rest.now t.result.width (field_of (l.fields % 16))
    (fields_here l.fields l.invariant.0 c.loop-fields-test.true) t.ensures.width t.result.right _ l.invariant.1 t.ensures.right c.if-rest-t.true)

pub loop-fields-preserved : goal.loop-fields-preserved
loop-fields-preserved c =
    let a = c.args in
    let l = c.loop-fields in
    let t = c.test_field-t in
    let f = field_of (l.fields % 16) in
    let k = fields_here l.fields l.invariant.0 c.loop-fields-test.true in
    let v = fit_go a.locals (packed 4 l.fields) (packed 4 (l.fields / 16)) l.rest.now t.result.width f k t.ensures.width t.result.right c.if-rest-t.false in
    let q = sym (t.ensures.right (rw t.ensures.width at v.0)) ∙ v.1 in
    rw (tail_part l.rest.now t.result.width) (
      omega arith,
      fit_turn a.locals (packed 4 l.fields) (packed 4 (l.fields / 16)) l.rest.now t.result.width f k t.ensures.width _ l.invariant.1 v.0 q,
      within_turn a.locals (packed 4 l.fields) (packed 4 (l.fields / 16)) l.rest.now t.result.width f k t.ensures.width l.within t.result.within _ l.invariant.2 (t.ensures.within q),
    )

pub returns-then-rest-gt0 : goal.returns-then-rest-gt0
unfolding body_fault
returns-then-rest-gt0 c =
    let l = c.loop-fields in
    rw (← fit_over c.args.locals (packed 4 l.fields) l.rest.now (fields_end l.fields c.loop-fields-test.false) _ l.invariant.1 c.if-rest-gt0.true)

pub returns-then-within : goal.returns-then-within
unfolding body_fault
returns-then-within c =
    let l = c.loop-fields in
    let e = fields_end l.fields c.loop-fields-test.false in
    rw (
      ← fit_done c.args.locals (packed 4 l.fields) l.rest.now e _ l.invariant.1 c.if-rest-gt0.false,
      sym (within_done c.args.locals (packed 4 l.fields) l.rest.now e l.within _ l.invariant.2) ∙ c.if-within.true,
    )

pub returns-else-within : goal.returns-else-within
unfolding body_fault
returns-else-within c =
    let l = c.loop-fields in
    let e = fields_end l.fields c.loop-fields-test.false in
    rw (
      ← fit_done c.args.locals (packed 4 l.fields) l.rest.now e _ l.invariant.1 c.if-rest-gt0.false,
      sym (within_done c.args.locals (packed 4 l.fields) l.rest.now e l.within _ l.invariant.2) ∙ c.if-within.false,
    )
