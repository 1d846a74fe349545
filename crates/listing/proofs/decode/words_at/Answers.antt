use Rattle.std.specs.Prelude.{◌≡◌, ◌+◌, ◌*◌, take}
use Rattle.std.proofs.Common.{refl, sym, ◌∙◌, arith, length-set}
use Rattle.meaning.specs.Lists.{up_to}
use Rattle.meaning.specs.Listing.{u16_at}
use Rattle.listing_records.proofs.Lists.{filled, map_id}
use Rattle.listing.proofs.decode.words_at.Goals as goal

pub loop-i-init : goal.loop-i-init
unfolding up_to
loop-i-init c = (refl, refl)

pub loop-i-preserved : goal.loop-i-preserved
loop-i-preserved c =
    let a = c.args in
    let l = c.loop-i in
    (simp length-set l.invariant.0, filled (λ x. x) (λ k. u16_at a.b.now (a.from + 2 * k)) l.out l.i c.u16_at.result (omega arith) l.invariant.1 c.u16_at.ensures)

pub returns : goal.returns
returns c =
    let e : c.loop-i.i ≡ c.args.n = omega arith in
    rw e at (sym (map_id (take c.loop-i.i c.loop-i.out)) ∙ c.loop-i.invariant.1)
