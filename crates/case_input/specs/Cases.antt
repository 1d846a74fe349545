-- The cases of an input: each after three bytes with its length, the lowest first.
use Rattle.std.specs.Prelude.{ℕ, ◌+◌, ◌*◌, ◌≤◌, ◌<◌, ◌≡◌, List, Option, MatchOption, length, take, drop, get_or}
use denote.Ref.{Bor}

-- the length that the bytes in front state
abbrev pub stated : List ℕ → ℕ
stated s = get_or s 0 0 + 256 * get_or s 1 0 + 65536 * get_or s 2 0

-- the case in front of the bytes s, if it is whole, and the bytes t behind it
abbrev pub NextCase : List ℕ → Option (Bor (List ℕ)) → List ℕ → Type 0
NextCase s r t = MatchOption r ((length s < 3 + stated s) × (t ≡ s)) (λ case. (3 + stated s ≤ length s) × (case.now ≡ take (stated s) (drop 3 s)) × (t ≡ drop (3 + stated s) s))
