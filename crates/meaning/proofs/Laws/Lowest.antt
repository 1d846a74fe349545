-- The lowest offset by tests that are made of others.
use Rattle.std.specs.Prelude.{Bool, true, false, ◌&&◌, cond, List, [], ◌∷◌, ◌≡◌, refl}
use Rattle.std.proofs.Math.Option.{none, some}
use Rattle.meaning.specs.BorrowGraph.{GEdge, lower_of, lowest_of}

none_passes : (es : List GEdge) → lowest_of (λ x. false) es ≡ none
unfolding lowest_of
none_passes [] = refl
none_passes (x ∷ es) = none_passes es

-- a test that asks something else first
pub lowest_guard : (b : Bool) (p : GEdge → Bool) (es : List GEdge) → lowest_of (λ x. b && p x) es ≡ cond b (lowest_of p es) none
lowest_guard true p es = refl
lowest_guard false p es = none_passes es

-- a test that is another by each edge
pub lowest_same : (p q : GEdge → Bool) → ((x : GEdge) → p x ≡ q x) → (es : List GEdge) → lowest_of p es ≡ lowest_of q es
unfolding lowest_of
lowest_same p q e [] = refl
lowest_same p q e (x ∷ xs) = λ i. cond (e x i) (some (lower_of x.edge.offset (lowest_same p q e xs i))) (lowest_same p q e xs i)
