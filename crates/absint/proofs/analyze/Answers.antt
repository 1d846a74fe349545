use mathlib.Core.Path.{sym, ap, ◌∙◌}
use Rattle.std.specs.Prelude.{Ok, Some, None}
use lib.ListN.{length}
use Rattle.meaning.proofs.Laws.Listing.{accepted_promised, accepted_block}
use Rattle.meaning.proofs.Laws.Verify.{verify_short}
use Rattle.std.proofs.Common.{arith, length-take}
use Rattle.listing.specs.Models.{blocks_in}
use Rattle.listing.specs.ModelLaws.{reading_is}
use Rattle.absint.specs.Models.{ruling_of}
use Rattle.absint.specs.WholeLaws as Law
use Rattle.absint.proofs.analyze.Goals as goal

pub returns-then-area-lt-AREA_WORDS : goal.returns-then-area-lt-AREA_WORDS
returns-then-area-lt-AREA_WORDS c =
    let a = c.args in
    (c.refused.ensures ∙ sym (verify_short (length a.area.now) a.listing.now c.if-area-lt-AREA_WORDS.true), Law.left_short a.listing.now a.area.now c.if-area-lt-AREA_WORDS.true)

pub analyze_function-t-requires : goal.analyze_function-t-requires
analyze_function-t-requires c =
    let r = c.read_listing in
    let a = c.args in
    let w = c.in-Ok-Some in
    let n = rw w.field-0-is at w.ensures.counted in
    let e = reading_is a.listing.now _ r.result (Ok (Some w.q)) r.ensures.listed (w.is ∙ ap Ok w.field-0-is) in (
      record {
        promise = accepted_promised a.listing.now _ e;
        blocks = n.few;
        count = n.count;
        some = accepted_block a.listing.now _ e;
      },
      c.if-area-lt-AREA_WORDS.false,
    )

pub verdict_of-requires : goal.verdict_of-requires
verdict_of-requires c =
    let few = (rw c.in-Ok-Some.field-0-is at c.in-Ok-Some.ensures.counted).few in
    let q = c.in-Ok-Some.q in
    omega (arith, few, length-take q.block_count q.blocks)

pub returns-in-Ok-Some : goal.returns-in-Ok-Some
unfolding blocks_in
returns-in-Ok-Some c =
    let v = c.verdict_of in
    let f = c.analyze_function-t in
    let r = c.read_listing in
    let q = c.in-Ok-Some in
    let if1 = c.if-area-lt-AREA_WORDS in
    let a = c.args in
    let n = rw q.field-0-is at q.ensures.counted in
    let e = reading_is a.listing.now _ r.result (Ok (Some q.q)) r.ensures.listed (q.is ∙ ap Ok q.field-0-is) in (
      Law.verify_read (length a.area.now) a.listing.now if1.false _ (ruling_of v.result) f.result.visits f.result.blurred e
          (v.ensures.0 ∙ Law.ruled a.listing.now _ q.q a.area.now _ f.result v.ensures.1 n.few
          n.count f.ensures) f.ensures.end.visited f.ensures.end.blurred,
      Law.left_read a.listing.now _ q.q a.area.now _ f.result if1.false e f.ensures,
    )

pub returns-in-Ok-None : goal.returns-in-Ok-None
returns-in-Ok-None c =
    let empty = c.empty_cell in
    let if1 = c.if-area-lt-AREA_WORDS in
    let a = c.args in
    let e = reading_is a.listing.now _ c.read_listing.result (Ok None) c.read_listing.ensures.listed (c.in-Ok-None.is ∙ ap Ok c.in-Ok-None.field-0-is) in (
      empty.ensures.0 ∙ Law.verify_as (length a.area.now) a.listing.now if1.false _ e,
      Law.left_nothing a.listing.now a.area.now _ if1.false e empty.ensures.1,
    )

pub returns-in-Err : goal.returns-in-Err
returns-in-Err c =
    let if1 = c.if-area-lt-AREA_WORDS in
    let a = c.args in
    let e = reading_is a.listing.now _ c.read_listing.result _ c.read_listing.ensures.listed c.in-Err.is in (
      rw c.from.ensures at c.refused-in-Err.ensures ∙ Law.verify_as (length a.area.now) a.listing.now if1.false _ e,
      Law.left_refused a.listing.now a.area.now _ _ e,
    )
