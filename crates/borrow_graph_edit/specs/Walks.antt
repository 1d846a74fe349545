-- A walk over the edges that finds a pair's: what is found and what remains give the answer.
use Rattle.std.specs.Prelude.{ℕ, suc, ◌+◌, ◌-◌, ◌≤◌, ◌≡◌, Bool, false, ◌||◌, List, [], ◌∷◌, ◌++◌, map, length, take, drop}
use Rattle.std.proofs.Common.{arith, add-zero, ap, ◌∙◌, append_assoc, append-nil, length-append, length-take, drop_at}
use Rattle.std.proofs.Math.Path.{refl, sym}
use Rattle.std.proofs.lemmas.List.{length-map, take_all}
use Rattle.meaning.specs.Lists.{keep}
use Rattle.meaning.specs.References.{Edge, EdgeSet, less, equal, greater}
use Rattle.meaning.specs.BorrowGraph.{GEdge, is_before, set_at, side, tagged}
use Rattle.meaning.proofs.Laws.Array.{middle_step, map_step}
use Rattle.meaning.specs.Refinement.Pairs.{edges_at}
use Rattle.meaning.proofs.Laws.Base.{or_false, or_assoc}
use Rattle.meaning.proofs.Laws.Cut.{less_set, less_low, equal_set, equal_low, greater_set, greater_low}

module _ (p c : ℕ) (es : List GEdge) where
  abbrev before : List GEdge → ℕ
  before xs = length (keep (is_before p c) xs)

  -- of the edges before the pair's, and of the pair's own, so many were found, and the others remain in `rest`
  pub record Counts (rest : List GEdge) (low size : ℕ) : Type 0 where
    pub lower : low + before rest ≡ before es
    pub own : size + length (edges_at p c rest) ≡ length (edges_at p c es)

  module _ (x : GEdge) (r : List GEdge) (low size : ℕ) (h : Counts (x ∷ r) low size) where
    module _ (low' size' : ℕ) where
      pub counts_less : side p c x ≡ less → low' ≡ low + 1 → size' ≡ size → Counts r low' size'
      counts_less o a b =
          let k = less_low p c x r o in
          let s = ap (λ (t : EdgeSet). length t.edges) (less_set p c x r o) in
          record { lower = omega (arith, k, h.lower); own = omega (arith, s, h.own) }

      pub counts_equal : side p c x ≡ equal → low' ≡ low → size' ≡ size + 1 → Counts r low' size'
      counts_equal o a b =
          let k = equal_low p c x r o in
          let s : length (edges_at p c (x ∷ r)) ≡ suc (length (edges_at p c r)) = ap (λ (t : EdgeSet). length t.edges) (equal_set p c x r o) in
          record { lower = omega (arith, k, h.lower); own = omega (arith, s, h.own) }

      pub counts_greater : side p c x ≡ greater → low' ≡ low → size' ≡ size → Counts r low' size'
      counts_greater o a b =
          let k = greater_low p c x r o in
          let s = ap (λ (t : EdgeSet). length t.edges) (greater_set p c x r o) in
          record { lower = omega (arith, k, h.lower); own = omega (arith, s, h.own) }

  pub counts_all : (low size : ℕ) → Counts [] low size → (low ≡ before es) × (size ≡ length (edges_at p c es))
  unfolding set_at
  counts_all low size h = (sym (add-zero low) ∙ h.lower, sym (add-zero size) ∙ h.own)

  -- of the pair's edges those found stand in the set s, and the others remain
  pub record Gathers (rest : List GEdge) (low : ℕ) (s : EdgeSet) : Type 0 where
    pub lower : low + before rest ≡ before es
    pub edges : s.edges ++ edges_at p c rest ≡ edges_at p c es
    pub blurred : (s.blurred || (set_at p c rest).blurred) ≡ (set_at p c es).blurred

  pub gathers_none : (s : EdgeSet) → s ≡ record { edges = []; blurred = false } → Gathers es 0 s
  gathers_none s e = rw e (record { lower = omega arith; edges = refl; blurred = refl })

  module _ (x : GEdge) (r : List GEdge) (low : ℕ) (s : EdgeSet) (h : Gathers (x ∷ r) low s) where
    pub gathers_less : side p c x ≡ less → Gathers r (low + 1) s
    gathers_less o =
        let z = less_set p c x r o in
        let k = less_low p c x r o in
        record {
          lower = omega (arith, k, h.lower);
          edges = ap (λ (t : EdgeSet). s.edges ++ t.edges) (sym z) ∙ h.edges;
          blurred = ap (λ (t : EdgeSet). s.blurred || t.blurred) (sym z) ∙ h.blurred;
        }

    pub gathers_greater : side p c x ≡ greater → Gathers r low s
    gathers_greater o =
        let z = greater_set p c x r o in
        let k = greater_low p c x r o in
        record {
          lower = omega (arith, k, h.lower);
          edges = ap (λ (t : EdgeSet). s.edges ++ t.edges) (sym z) ∙ h.edges;
          blurred = ap (λ (t : EdgeSet). s.blurred || t.blurred) (sym z) ∙ h.blurred;
        }

    -- there is room for one more of a pair's ten
    pub gathers_equal : side p c x ≡ equal → length (edges_at p c es) ≤ 10 → Gathers r low (record { edges = take 10 (s.edges ++ (x.edge ∷ [])); blurred = s.blurred || x.blurred })
    gathers_equal o few =
        let z = equal_set p c x r o in
        let k = equal_low p c x r o in
        let a : s.edges ++ (x.edge ∷ edges_at p c r) ≡ edges_at p c es = ap (λ (t : EdgeSet). s.edges ++ t.edges) (sym z) ∙ h.edges in
        let b = ap length a in
        let d = length-append s.edges (x.edge ∷ edges_at p c r) in
        let n : length (s.edges ++ (x.edge ∷ [])) ≤ 10 = omega (arith, length-append s.edges (x.edge ∷ []), b, d, few) in
        record {
          lower = omega (arith, k, h.lower);
          edges = ap (λ (xs : List Edge). xs ++ edges_at p c r) (take_all 10 (s.edges ++ (x.edge ∷ [])) n) ∙ append_assoc s.edges (x.edge ∷ []) (edges_at p c r) ∙ a;
          blurred = or_assoc s.blurred x.blurred (set_at p c r).blurred ∙ ap (λ (t : EdgeSet). s.blurred || t.blurred) (sym z) ∙ h.blurred;
        }

  pub gathers_all : (low : ℕ) (s : EdgeSet) → Gathers [] low s → (s ≡ set_at p c es) × (low ≡ before es)
  unfolding set_at
  gathers_all low s h =
      let e : s.edges ≡ edges_at p c es = sym (append-nil s.edges) ∙ h.edges in
      let b : s.blurred ≡ (set_at p c es).blurred = sym (or_false s.blurred) ∙ h.blurred in
      ((λ i. record { edges = e i; blurred = b i }), sym (add-zero low) ∙ h.lower)

-- ---- a pair's edges exchanged for others

module _ (es : List GEdge) (p c low old : ℕ) (b : Bool) (ds : List Edge) (fits : low + old ≤ length es) where
  abbrev pub exchanged : List GEdge
  exchanged = take low es ++ (tagged p c b ds ++ drop (low + old) es)

  abbrev tag : Edge → GEdge
  tag e = record { parent = p; child = c; blurred = b; edge = e }

  front : length (take low es) ≡ low
  front = simp length-take (omega arith)

  pub exchanged_front : drop low exchanged ≡ tagged p c b ds ++ drop (low + old) es
  exchanged_front = drop_at (take low es) _ low front

  -- the edge at j is one of the set's; behind them stand those behind the pair's old edges
  pub exchanged_set : (j : ℕ) (e : Edge) → low ≤ j → drop (j - low) ds ≡ e ∷ drop (j - low + 1) ds → drop j exchanged ≡ tag e ∷ drop (j + 1) exchanged
  exchanged_set j e h s =
      middle_step (take low es) (map tag ds) (drop (low + old) es) j (j - low) (tag e) (omega (arith, front)) (map_step tag ds (j - low) e s)

  pub exchanged_behind : (j : ℕ) → j ≡ low + length ds → drop j exchanged ≡ drop (low + old) es
  exchanged_behind j e =
      ap (λ (xs : List GEdge). drop j xs) (sym (append_assoc (take low es) (map tag ds) (drop (low + old) es)))
      ∙ drop_at (take low es ++ map tag ds) (drop (low + old) es) j (omega (arith, length-append (take low es) (map tag ds), front, length-map ds tag))
