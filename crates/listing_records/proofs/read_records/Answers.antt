use Rattle.std.proofs.Common.{◌≡◌, Ok, Err, refl, sym, ◌∙◌, arith, take, length-set}
use Rattle.std.proofs.lemmas.Grind.{common_steps}
use Rattle.std.proofs.lemmas.Result.{err_from_is_err_and}
use Rattle.vm_status.specs.declared.Refusal.{Refusal}
use Rattle.vm_status.specs.Models.{number_of}
use Rattle.meaning.proofs.Laws.Listing.{places_end}
use Rattle.listing_records.specs.Models.{before_ret}
use Rattle.listing_records.specs.ModelLaws.{ret_put}
use Rattle.listing_records.proofs.Laws.{room_block, room_code, stop_fault, stop_full, go_block, go_code, go_first}
use Rattle.listing_records.proofs.read_records.Goals as goal

pub loop-at-init : goal.loop-at-init
unfolding before_ret
loop-at-init c = (omega arith, omega arith, c.told-blocks, c.told-code, refl, refl)

pub returns-in_err-r : goal.returns-in_err-r
returns-in_err-r c =
    let a = c.args in
    let l = c.loop-at in
    let p = err_from_is_err_and c.from_residual.result c.from_residual.ensures.1 in
    let t : (e : Refusal) × (c.test_by_row.result ≡ Err e) × (c.in_err-r.field-0.0 ≡ record { refusal = e; place = l.at }) = grind (arith, common_steps) in
    rw (p.1, p.2, t.2) (record {
      places = stop_fault a.s.now l.blocks l.code l.block_count l.code_count l.at a.locals _ c.loop-at-test.true c.requires.1 (omega arith) l.invariant.4 (number_of t.0) (rw t.1 at c.test_by_row.ensures);
      counts = tt;
      all_blocks = l.invariant.2;
      all_code = l.invariant.3;
    })

pub returns-then-is_full : goal.returns-then-is_full
returns-then-is_full c =
    let a = c.args in
    let l = c.loop-at in
    let t : c.test_by_row.result ≡ Ok c.in_ok-r.r = grind (arith, common_steps) in
    let p = rw t at c.test_by_row.ensures in
    record {
      places = stop_full a.s.now l.blocks l.code l.block_count l.code_count l.at a.locals _ c.loop-at-test.true c.requires.1 (omega arith) l.invariant.4
          p.fine (omega arith) (rw p.kind at (sym c.is_full.ensures ∙ c.if-is_full.true));
      counts = tt;
      all_blocks = l.invariant.2;
      all_code = l.invariant.3;
    }

pub loop-at-preserved-then-kind-eq2 : goal.loop-at-preserved-then-kind-eq2
loop-at-preserved-then-kind-eq2 c =
    let a = c.args in
    let l = c.loop-at in
    let t : c.test_by_row.result ≡ Ok c.in_ok-r.r = grind (arith, common_steps) in
    let p = rw t at c.test_by_row.ensures in
    let h = room_block c.in_ok-r.r.kind l.block_count l.code_count (sym c.is_full.ensures ∙ c.if-is_full.false) c.if-kind-eq2.true in (
      omega (arith, h),
      omega arith,
      simp length-set l.invariant.2,
      l.invariant.3,
      rw p.next
          (go_block a.s.now l.blocks l.code l.block_count l.code_count l.at a.locals _ c.loop-at-test.true c.requires.1 (omega arith) l.invariant.4
          p.fine (sym p.kind ∙ c.if-kind-eq2.true) h (omega (arith, h))),
      l.invariant.5,
    )

pub loop-at-preserved-then-kind-ne1 : goal.loop-at-preserved-then-kind-ne1
loop-at-preserved-then-kind-ne1 c =
    let a = c.args in
    let l = c.loop-at in
    let t : c.test_by_row.result ≡ Ok c.in_ok-r.r = grind (arith, common_steps) in
    let p = rw t at c.test_by_row.ensures in
    let h = room_code c.in_ok-r.r.kind l.block_count l.code_count (sym c.is_full.ensures ∙ c.if-is_full.false) c.if-kind-ne1.true c.if-kind-eq2.false in (
      omega arith,
      omega (arith, h),
      l.invariant.2,
      simp length-set l.invariant.3,
      rw p.next
          (go_code a.s.now l.blocks l.code l.block_count l.code_count l.at a.locals _ c.loop-at-test.true c.requires.1 (omega arith) l.invariant.4
          p.fine (λ e. c.if-kind-ne1.true (p.kind ∙ e)) (λ e. c.if-kind-eq2.false (p.kind ∙ e)) h (omega (arith, h))),
      c.before_ret-first_ret.ensures ∙ ret_put a.s.now l.code l.code_count l.at c.in_ok-r.r.kind l.first_ret (omega (arith, h)) p.kind l.invariant.5,
    )

pub loop-at-preserved : goal.loop-at-preserved
loop-at-preserved c =
    let a = c.args in
    let l = c.loop-at in
    let t : c.test_by_row.result ≡ Ok c.in_ok-r.r = grind (arith, common_steps) in
    let p = rw t at c.test_by_row.ensures in (
      omega arith,
      omega arith,
      l.invariant.2,
      l.invariant.3,
      rw p.next
          (go_first a.s.now l.blocks l.code l.block_count l.code_count l.at a.locals _ c.loop-at-test.true c.requires.1 (omega arith) l.invariant.4
          p.fine (sym p.kind ∙ c.if-kind-ne1.false)),
      l.invariant.5,
    )

pub returns : goal.returns
returns c =
    let l = c.loop-at in
    record {
      places = sym (places_end c.args.s.now l.at (record { blocks = take l.block_count l.blocks; code = take l.code_count l.code }) c.loop-at-test.false) ∙ l.invariant.4;
      counts = record { blocks = l.invariant.0; code = l.invariant.1; ret = l.invariant.5 };
      all_blocks = l.invariant.2;
      all_code = l.invariant.3;
    }
