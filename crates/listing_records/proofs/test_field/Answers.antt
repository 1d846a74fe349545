use mathlib.Core.Path.{refl, sym, ap}
use borrow.Author.Tests.{le-leb}
use Prim.Native.Nat.{ℕ, ◌<◌}
use lib.ListN.{get_or}
use lib.Dec.{leb}
use Rattle.listing_records.proofs.Laws.{frame_else, plain_width, plain_right, plain_within}
use Rattle.listing_records.proofs.Lists.{up}
use native.Mathlib.Omega.{arith}
use Rattle.listing_records.proofs.test_field.Goals as goal

pub returns-then-f-le-WORD : goal.returns-then-f-le-WORD
returns-then-f-le-WORD c =
    let a = c.args in
    let i1 = c.if-f-le-WORD in
    let k : get_or a.b.now 0 0 < 256 = omega (arith, c.shared_slice_known-2-1.given 0) in
    record {
      width = plain_width a.locals a.b.now (get_or a.b.now 0 0) refl k a.f i1.true;
      right = λ h. rw (c.wide.ensures, c.limit_of.ensures) (plain_right a.locals a.b.now (get_or a.b.now 0 0) refl k a.f i1.true);
      within = λ h. plain_within a.locals a.b.now (get_or a.b.now 0 0) refl k a.f i1.true h;
    }

pub overflow_cast-n : goal.overflow_cast-n
overflow_cast-n c = omega (arith, c.shared_slice_known-2-1.given 0)

pub overflow_mul-result : goal.overflow_mul-result
overflow_mul-result c = omega (arith, c.shared_slice_known-2-1.given 0)

pub overflow_add-result-in-6 : goal.overflow_add-result-in-6
overflow_add-result-in-6 c = omega (arith, c.shared_slice_known-2-1.given 0)

pub overflow_mul-result-in-7 : goal.overflow_mul-result-in-7
overflow_mul-result-in-7 c = omega (arith, c.shared_slice_known-2-1.given 0)

pub overflow_add-result-in-7 : goal.overflow_add-result-in-7
overflow_add-result-in-7 c = omega (arith, c.shared_slice_known-2-1.given 0)

pub overflow_add-result-in-8 : goal.overflow_add-result-in-8
overflow_add-result-in-8 c = omega (arith, c.shared_slice_known-2-1.given 0)

pub tokens_from-requires : goal.tokens_from-requires
tokens_from-requires c = omega (arith, c.shared_slice_known-2-1.given 0)

pub overflow_add-result-in_default : goal.overflow_add-result-in_default
overflow_add-result-in_default c = omega (arith, c.shared_slice_known-2-1.given 0)

pub tokens_from-requires-in_default : goal.tokens_from-requires-in_default
tokens_from-requires-in_default c = omega (arith, c.shared_slice_known-2-1.given 0)

pub returns-in-6 : goal.returns-in-6
returns-in-6 c = rw c.in-6.is (record { width = refl; right = λ h. refl; within = λ h. sym h })

pub returns-in-7 : goal.returns-in-7
returns-in-7 c = rw c.in-7.is (record { width = refl; right = λ h. sym (le-leb (get_or c.args.b.now 0 0) 255 (omega (arith, c.shared_slice_known-2-1.given 0))); within = λ h. refl })

pub returns-in-8 : goal.returns-in-8
returns-in-8 c = rw c.in-8.is (record { width = refl; right = λ h. c.tokens_from.ensures h; within = λ h. refl })

pub returns-in_default : goal.returns-in_default
returns-in_default c =
    let a = c.args in
    rw (frame_else a.f (up 8 a.f (up 7 a.f (up 6 a.f c.if-f-le-WORD.false c.in_default.in_default-own.rest.0.0.1) c.in_default.in_default-own.rest.0.1) c.in_default.in_default-own.rest.1))
    (record { width = refl; right = λ h. rw (c.byte_at.ensures, c.tokens_from-in_default.ensures h); within = λ h. ap (λ (n : ℕ). leb n 16) c.byte_at-in_default.ensures })
