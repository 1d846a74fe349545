use mathlib.Core.Path.{◌≡◌, ap, ◌∙◌}
use Prim.Native.Nat.{ℕ, ◌+◌, ◌-◌}
use lib.ListN.{take, drop}
use Rattle.meaning.specs.Lists.{all}
use Rattle.meaning.specs.Listing.{is_token}
use native.Mathlib.Omega.{arith}
use Rattle.listing_records.proofs.tokens_from.Goals as goal

pub returns-then-b-end : goal.returns-then-b-end
returns-then-b-end c = λ h. absurd (omega arith)

pub returns : goal.returns
returns c =
    λ h. let e : (c.args.i + c.args.n) - c.args.i ≡ c.args.n = omega arith in
    c.tokens_only.ensures ∙ ap (λ (n : ℕ). all is_token (take n (drop c.args.i c.args.b.now))) e
