use Rattle.std.specs.Prelude.{◌≡◌, ◌+◌, ◌*◌, map, length, take}
use Rattle.meaning.specs.Lists.{up_to}
use Rattle.meaning.specs.Listing.{u16_at}
use Rattle.listing.proofs.decode.words_at.Given as goal

abbrev pub invariant-loop-i : goal.invariant-loop-i
invariant-loop-i l = (length l.out ≡ 16) × (map (λ x. x) (take l.i l.out) ≡ up_to l.i (λ k. u16_at l.b (l.from + 2 * k)))
