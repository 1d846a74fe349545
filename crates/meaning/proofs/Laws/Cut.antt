-- A pair's edges stand together: how far from the start, and what the list is with another set in their place.
use Rattle.std.specs.Prelude.{ℕ, ◌+◌, ◌≤◌, Bool, ◌||◌, cond}
use Rattle.std.proofs.Common.{arith, ◌∙◌}
use Rattle.std.proofs.Math.Bool.{true, false}
use mathlib.Core.List.{List, ◌∷◌, ◌++◌, append_assoc}
use Rattle.std.proofs.Math.Path.{◌≡◌, refl, ap, sym}
use Rattle.std.proofs.Math.ListN.{length, take, drop, length-append, length-map}
use Rattle.std.proofs.Math.Seq.{take_at, drop_at}
use Rattle.meaning.specs.Lists.{keep}
use Rattle.meaning.specs.References.{order_by, less, equal, greater, EdgeSet}
use Rattle.meaning.specs.BorrowGraph.{GEdge, eq_pair, is_before, side, set_at, set_to, tagged, is_after}
use Rattle.meaning.proofs.Laws.Base.{decide, both}
use Rattle.meaning.proofs.Laws.Graph.{not_before_self}
use Rattle.meaning.specs.Laws.Pair.{Neat}
use Rattle.meaning.proofs.Laws.Pair.{set_to_idle}
use Rattle.meaning.specs.Refinement.Pairs.{edges_at}

-- an edge's turn in collecting a pair's set and counting what stands before it
module _ (p c : ℕ) (x : GEdge) (xs : List GEdge) where
  module _ (o : side p c x ≡ less) where
    pub before : is_before p c x ≡ true
    unfolding side
    before = go (is_before p c x) (eq_pair p c x.parent x.child) o
      where
        go : (a b : Bool) → order_by a b ≡ less → a ≡ true
        go true b e = refl
        go false true e = let z : ◌≡◌ {A = ℕ} 0 1 = cc in absurd (omega arith)
        go false false e = let z : ◌≡◌ {A = ℕ} 0 1 = cc in absurd (omega arith)

    pub other : eq_pair p c x.parent x.child ≡ false
    other = decide (eq_pair p c x.parent x.child) (λ t. absurd (both before (not_before_self p c x.parent x.child t))) (λ t. t)

    pub less_set : set_at p c (x ∷ xs) ≡ set_at p c xs
    unfolding set_at
    less_set = rw other

    pub less_low : length (keep (is_before p c) (x ∷ xs)) ≡ 1 + length (keep (is_before p c) xs)
    less_low = ap (λ (b : Bool). length (cond b (x ∷ keep (is_before p c) xs) (keep (is_before p c) xs))) before ∙ omega arith

  module _ (o : side p c x ≡ equal) where
    pub here : eq_pair p c x.parent x.child ≡ true
    unfolding side
    here = go (is_before p c x) (eq_pair p c x.parent x.child) o
      where
        go : (a b : Bool) → order_by a b ≡ equal → b ≡ true
        go true b e = let z : ◌≡◌ {A = ℕ} 0 1 = cc in absurd (omega arith)
        go false true e = refl
        go false false e = let z : ◌≡◌ {A = ℕ} 0 1 = cc in absurd (omega arith)

    pub equal_set : set_at p c (x ∷ xs) ≡ record { edges = x.edge ∷ edges_at p c xs; blurred = x.blurred || (set_at p c xs).blurred }
    unfolding set_at
    equal_set = rw here

    pub equal_low : length (keep (is_before p c) (x ∷ xs)) ≡ length (keep (is_before p c) xs)
    equal_low = ap (λ (b : Bool). length (cond b (x ∷ keep (is_before p c) xs) (keep (is_before p c) xs))) (not_before_self p c x.parent x.child here)

  module _ (o : side p c x ≡ greater) where
    pub neither : (is_before p c x ≡ false) × (eq_pair p c x.parent x.child ≡ false)
    unfolding side
    neither = go (is_before p c x) (eq_pair p c x.parent x.child) o
      where
        go : (a b : Bool) → order_by a b ≡ greater → (a ≡ false) × (b ≡ false)
        go true b e = let z : ◌≡◌ {A = ℕ} 0 1 = cc in absurd (omega arith)
        go false true e = let z : ◌≡◌ {A = ℕ} 0 1 = cc in absurd (omega arith)
        go false false e = (refl, refl)

    pub greater_set : set_at p c (x ∷ xs) ≡ set_at p c xs
    unfolding set_at
    greater_set = rw neither.1

    pub greater_low : length (keep (is_before p c) (x ∷ xs)) ≡ length (keep (is_before p c) xs)
    greater_low = ap (λ (b : Bool). length (cond b (x ∷ keep (is_before p c) xs) (keep (is_before p c) xs))) neither.0

-- ---- the list cut at a pair

module _ (p c : ℕ) (es : List GEdge) (neat : Neat es) where
  low : List GEdge
  low = keep (is_before p c) es

  pair : List GEdge
  pair = tagged p c (set_at p c es).blurred (edges_at p c es)

  high : List GEdge
  high = keep (is_after p c) es

  parts : low ++ (pair ++ high) ≡ es
  unfolding low pair high set_to
  parts = set_to_idle p c es neat

  pair_length : length pair ≡ length (edges_at p c es)
  unfolding pair
  pair_length = length-map (edges_at p c es) _

  pub cut_le : length (keep (is_before p c) es) + length (edges_at p c es) ≤ length es
  unfolding low
  cut_le =
      let a = ap length parts in
      omega (arith, simp length-append at a, pair_length)

  pub set_to_cut : (s : EdgeSet) → set_to p c s es ≡ take (length (keep (is_before p c) es)) es ++ (tagged p c s.blurred s.edges ++ drop (length (keep (is_before p c) es) + length (edges_at p c es)) es)
  unfolding low high set_to
  set_to_cut s =
      let a : take (length low) es ≡ low = ap (λ (l : List GEdge). take (length low) l) (sym parts) ∙ take_at low (pair ++ high) (length low) refl in
      let n : length (low ++ pair) ≡ length low + length (edges_at p c es) = length-append low pair ∙ ap (λ (k : ℕ). length low + k) pair_length in
      let b : drop (length low + length (edges_at p c es)) es ≡ high =
      ap (λ (k : ℕ). drop k es) (sym n) ∙ ap (λ (l : List GEdge). drop (length (low ++ pair)) l) (sym (append_assoc low pair high ∙ parts)) ∙ drop_at (low ++ pair) high (length (low ++ pair)) refl in
      λ i. sym a i ++ (tagged p c s.blurred s.edges ++ sym b i)
