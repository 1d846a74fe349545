-- Words of contracts whose laws stand in proofs/Laws/Add.antt.
use Rattle.std.specs.Prelude.{ℕ, ◌+◌, cond, [], ◌∷◌, List, ltb}
use Rattle.meaning.specs.BorrowGraph.{Name}

abbrev pub place_at : ℕ → List Name → ℕ
place_at n [] = 0
place_at n (b ∷ bs) = cond (ltb n b.id) 0 (place_at n bs + 1)
