use Rattle.std.proofs.Common.{sym, ◌∙◌}
use Rattle.meaning.specs.Loop.{lower}
use Rattle.absint.specs.Models.{status_of, failure_of}
use Rattle.absint.specs.LoopLaws.{le_asks, lower_old, lower_new}
use Rattle.absint.proofs.failure.lower.Goals as goal

pub returns-in_default : goal.returns-in_default
returns-in_default c = λ i. lower c.args.entry.0 (status_of (sym c.in_default.is i)) (failure_of c.args.lowest)

pub returns-in_default-lowest : goal.returns-in_default-lowest
returns-in_default-lowest c = λ i. lower c.args.entry.0 (status_of (sym c.in-Some.is i)) (failure_of (sym c.in_default-lowest.is i))

pub returns-then-le : goal.returns-then-le
returns-then-le c =
    let o = c.in-Some-lowest.old in
    let f = c.in-Some.failure in
    let e = sym (le_asks o.entry.0 c.args.entry.0) ∙ sym c.le.ensures ∙ c.if-le.true in
    lower_old (record { entry = o.entry.0; code = o.failure.code; offset = o.failure.offset.0; borrowed_at = o.failure.borrowed_at.0 }) (record { entry = c.args.entry.0; code = f.code; offset = f.offset.0; borrowed_at = f.borrowed_at.0 }) e
    ∙ (λ i. lower c.args.entry.0 (status_of (sym c.in-Some.is i)) (failure_of (sym c.in-Some-lowest.is i)))

pub returns-else-le : goal.returns-else-le
returns-else-le c =
    let o = c.in-Some-lowest.old in
    let f = c.in-Some.failure in
    let e = sym (le_asks o.entry.0 c.args.entry.0) ∙ sym c.le.ensures ∙ c.if-le.false in
    lower_new (record { entry = o.entry.0; code = o.failure.code; offset = o.failure.offset.0; borrowed_at = o.failure.borrowed_at.0 }) (record { entry = c.args.entry.0; code = f.code; offset = f.offset.0; borrowed_at = f.borrowed_at.0 }) e
    ∙ (λ i. lower c.args.entry.0 (status_of (sym c.in-Some.is i)) (failure_of (sym c.in-Some-lowest.is i)))
