use Rattle.std.proofs.Common.{◌≡◌, true, false, sym, ap, ◌∙◌, Ok, Some, None, arith}
use Rattle.std.proofs.lemmas.Result.{err_from_is_err_and}
use mathlib.Core.Option.{some}
use Rattle.vm_status.specs.declared.Refusal.TheVariants as Refusal
use Rattle.vm_status.specs.Models.{number_of}
use Rattle.meaning.specs.Listing.{kind_in_use, kind_at, fields_of}
use Rattle.listing_records.specs.Models.{packed}
use Rattle.listing_records.proofs.Laws.{record_inv, short_inv, end_inv, fault_1, fault_2, fault_place, fault_body, inside}
use Rattle.listing_records.proofs.test_record.Goals as goal

pub returns-in_err-read : goal.returns-in_err-read
returns-in_err-read c =
    let a = c.args in
    let p = err_from_is_err_and c.from_residual.result c.from_residual.ensures.1 in
    let v = short_inv a.s.now a.at c.read.result c.read.ensures _ c.in_err-read.was in
    rw (p.1, p.2) (fault_1 a.s.now a.at a.locals a.coded v.0 ∙ ap some v.1)

pub returns-in_err-record : goal.returns-in_err-record
returns-in_err-record c =
    let a = c.args in
    let p = err_from_is_err_and c.from_residual-in_err-record.result c.from_residual-in_err-record.ensures.1 in
    let n : c.in_ok-read.field-0 ≡ None = grind arith in
    let e : Refusal.Short ≡ c.in_err-record.field-0.0 = grind arith in
    let w = end_inv a.s.now a.at c.read.result c.read.ensures (c.in_ok-read.was ∙ ap Ok n) in
    rw (p.1, p.2) (fault_1 a.s.now a.at a.locals a.coded w ∙ ap (λ x. some (number_of x)) e)

pub returns-in_err-shape : goal.returns-in_err-shape
returns-in_err-shape c =
    let a = c.args in
    let p = err_from_is_err_and c.from_residual-in_err-shape.result c.from_residual-in_err-shape.ensures.1 in
    let r : c.in_ok-read.field-0 ≡ Some c.in_ok-record.record = grind arith in
    let v = record_inv a.s.now a.at c.read.result c.read.ensures _ (c.in_ok-read.was ∙ ap Ok r) in
    let n : c.shape_of.result ≡ None = grind arith in
    let e : Refusal.UnknownKind ≡ c.in_err-shape.field-0.0 = grind arith in
    let k : kind_in_use (kind_at a.s.now a.at) ≡ false = rw v.1 at (rw n at c.shape_of.ensures) in
    rw (p.1, p.2) (fault_2 a.s.now a.at a.locals a.coded v.0 k ∙ ap (λ x. some (number_of x)) e)

pub returns-in_err-test_place : goal.returns-in_err-test_place
returns-in_err-test_place c =
    let a = c.args in
    let p = err_from_is_err_and c.from_residual-in_err-test_place.result c.from_residual-in_err-test_place.ensures.1 in
    let r : c.in_ok-read.field-0 ≡ Some c.in_ok-record.record = grind arith in
    let v = record_inv a.s.now a.at c.read.result c.read.ensures _ (c.in_ok-read.was ∙ ap Ok r) in
    let n : c.shape_of.result ≡ Some c.in_ok-shape.shape = grind arith in
    let k : kind_in_use (kind_at a.s.now a.at) ≡ true = rw v.1 at (rw n at c.shape_of.ensures).0 in
    rw (p.1, p.2) (fault_place a.s.now a.at a.locals a.coded v.0 k _ (rw v.1 at c.in_err-test_place.ensures))

pub returns-in_err-test_body : goal.returns-in_err-test_body
returns-in_err-test_body c =
    let a = c.args in
    let p = err_from_is_err_and c.from_residual-in_err-test_body.result c.from_residual-in_err-test_body.ensures.1 in
    let r : c.in_ok-read.field-0 ≡ Some c.in_ok-record.record = grind arith in
    let v = record_inv a.s.now a.at c.read.result c.read.ensures _ (c.in_ok-read.was ∙ ap Ok r) in
    let n : c.shape_of.result ≡ Some c.in_ok-shape.shape = grind arith in
    let s = rw n at c.shape_of.ensures in
    let k : kind_in_use (kind_at a.s.now a.at) ≡ true = rw v.1 at s.0 in
    let f : packed 4 c.in_ok-shape.shape ≡ fields_of (kind_at a.s.now a.at) = s.1 ∙ ap fields_of v.1 in
    rw (p.1, p.2) (fault_body a.s.now a.at a.locals a.coded v.0 k (rw v.1 at c.in_ok-test_place.ensures) ∙ sym (rw (f, c.body.ensures) at c.in_err-test_body.ensures))

pub returns : goal.returns
returns c =
    let a = c.args in
    let r : c.in_ok-read.field-0 ≡ Some c.in_ok-record.record = grind arith in
    let v = record_inv a.s.now a.at c.read.result c.read.ensures _ (c.in_ok-read.was ∙ ap Ok r) in
    let n : c.shape_of.result ≡ Some c.in_ok-shape.shape = grind arith in
    let s = rw n at c.shape_of.ensures in
    let k : kind_in_use (kind_at a.s.now a.at) ≡ true = rw v.1 at s.0 in
    let f : packed 4 c.in_ok-shape.shape ≡ fields_of (kind_at a.s.now a.at) = s.1 ∙ ap fields_of v.1 in
    record {
      fine = fault_body a.s.now a.at a.locals a.coded v.0 k (rw v.1 at c.in_ok-test_place.ensures) ∙ sym (rw (f, c.body.ensures) at c.in_ok-test_body.ensures);
      kind = v.1;
      next = v.2;
      inside = rw v.2 (inside a.s.now a.at v.0);
    }
