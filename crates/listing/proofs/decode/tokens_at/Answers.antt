use Rattle.std.specs.Prelude.{◌+◌, get_or}
use Rattle.std.proofs.Common.{refl, ap, arith, length-set}
use Rattle.meaning.specs.Lists.{up_to}
use Rattle.meaning.specs.Listing.{token_as}
use Rattle.listing_records.proofs.Lists.{filled}
use Rattle.listing.proofs.decode.tokens_at.Goals as goal

pub loop-i-init : goal.loop-i-init
unfolding up_to
loop-i-init c = (refl, refl)

pub loop-i-preserved : goal.loop-i-preserved
loop-i-preserved c =
    let a = c.args in
    let l = c.loop-i in
    (simp length-set l.invariant.0, filled token_as (λ k. token_as (get_or a.b.now (a.from + k) 0)) l.out l.i c.byte_at.result (omega arith) l.invariant.1 (ap token_as c.byte_at.ensures))
