use mathlib.Core.Path.{◌≡◌, sym, ap, ◌∙◌}
use borrow.Author.Tests.{eq-eqb, ne_eqb}
use Rattle.meaning.specs.Listing.{kind_at, instr_of}
use Rattle.listing.specs.Models.{call_for, decoded_at}
use Rattle.listing.proofs.decode.decode.Goals as goal

pub returns-then-kind-eq22 : goal.returns-then-kind-eq22
unfolding decoded_at
returns-then-kind-eq22 c =
    let k : kind_at c.args.s.now c.args.at ≡ c.u16_at-kind.result = sym c.u16_at-kind.ensures in
    rw (k, eq-eqb _ 22 c.if-kind-eq22.true) (c.decode_call.ensures ∙ ap call_for c.body-b.ensures)

pub returns-else-kind-eq22 : goal.returns-else-kind-eq22
unfolding decoded_at
returns-else-kind-eq22 c =
    let k : kind_at c.args.s.now c.args.at ≡ c.u16_at-kind.result = sym c.u16_at-kind.ensures in
    rw (k, ne_eqb _ 22 c.if-kind-eq22.false) (c.alone.ensures ∙ (c.decode_plain.ensures ∙ ap (instr_of c.u16_at-kind.result) c.body-b.ensures))
