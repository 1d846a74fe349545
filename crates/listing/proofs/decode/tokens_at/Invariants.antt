use Rattle.std.specs.Prelude.{◌≡◌, ◌+◌, map, length, take, get_or}
use Rattle.meaning.specs.Lists.{up_to}
use Rattle.meaning.specs.Listing.{token_as}
use Rattle.listing.proofs.decode.tokens_at.Given as goal

abbrev pub invariant-loop-i : goal.invariant-loop-i
invariant-loop-i l = (length l.out ≡ 16) × (map token_as (take l.i l.out) ≡ up_to l.i (λ k. token_as (get_or l.b (l.from + k) 0)))
