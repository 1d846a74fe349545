-- Laws of release and join pair by pair.
use Rattle.std.specs.Prelude.{ℕ, suc, ◌+◌, ◌≤◌, ◌<◌, not, Bool, ◌&&◌, ◌||◌, ◌⊎◌, ◌≡◌, eqb}
use Rattle.std.proofs.Common.{arith, true≢false, ◌∙◌, length-append}
use Rattle.std.proofs.Math.Bool.{true, false, cond}
use Rattle.std.proofs.lemmas.Bool.{false≢true}
use mathlib.Core.List.{List, [], ◌∷◌, ◌++◌}
use Rattle.std.proofs.Math.Logic.{inl, inr}
use Rattle.std.proofs.Math.Path.{refl, sym, ap, subst}
use Rattle.std.proofs.Math.Dec.{leb}
use Rattle.std.proofs.Math.ListN.{length}
use Rattle.std.proofs.lemmas.List.{length-map}
use Rattle.meaning.specs.Answers.{ok, refuse, Ans, and_then, guard}
use Rattle.meaning.specs.Lists.{keep}
use Rattle.meaning.specs.References.{Edge, EdgeSet, is_blur, set_ok, blur, has, put, insert, empty_set}
use Rattle.meaning.specs.BorrowGraph.{GEdge, set_at, in_order, Graph, eq_pair, set_to, lt_pair, union, one, is_before, is_after, tagged, add_edge, add_all, on_pairs, limit, pair_ok, well_formed}
use Rattle.meaning.proofs.Laws.Base.{decide, or_l, or_r, both, le_leb, leb_le, leb_gt, refuse≢ok, ok_inj, and_then_ok, and_i, all_append, all_keep, guard_ok}
use Rattle.meaning.proofs.Laws.Canon.{set_ok_lone, edges_ext, set_at_miss, set_at_head}
use Rattle.meaning.specs.Laws.Graph.{insert_all}
use Rattle.meaning.proofs.Laws.Graph.{solid, non_empty, Inv, eq_pair_l, eq_pair_r, set_to_self, set_to_other, set_to_order, eq_pair_self, not_before_self, set_at_solid, add_edge_added, Added, add_all_at, add_all_names, add_all_order, add_all_set_ok, at_or_empty, wf→inv, inv→wf, room, limit_ok, add_all_inv}
use Rattle.meaning.proofs.Laws.Set.{set_ok_blurred, inserted, insert_set_ok}
use Rattle.meaning.specs.Refinement.Pairs.{edges_at, Pair, has_pair, few_edges, replace_all, replace_one, replace_lim, or21, two_pass, new_set, with_edges, exactly}
use Rattle.meaning.specs.Laws.Pair.{Neat}

-- ---- a pair's set replaced

pub set_ok_solid : (s : EdgeSet) → set_ok s ≡ true → solid s ≡ true
unfolding solid non_empty is_blur
set_ok_solid s h = decide s.blurred
    (λ b. or_r (not s.blurred) (go s.edges (sym (set_ok_blurred s b) ∙ h)))
    (λ b. or_l (non_empty s.edges) (ap not b))
  where
    go : (es : List Edge) → is_blur es ≡ true → non_empty es ≡ true
    go [] e = e
    go (e ∷ es) k = refl

-- they are known by their sets
pub neat_ext : (es fs : List GEdge) → Neat es → Neat fs → ((p c : ℕ) → set_at p c es ≡ set_at p c fs) → es ≡ fs
neat_ext es fs a b h =
    edges_ext es fs a.order b.order (λ p c. set_ok_lone (set_at p c es) (a.sets p c)) (λ p c. set_ok_lone (set_at p c fs) (b.sets p c)) h

pub inv_neat : (g : Graph) → Inv g → Neat g.edges
inv_neat g v = record { order = v.order; sets = v.sets }

-- a law of all sets, at the pair (p, c)
pub same_at : (P : ℕ → ℕ → Type 0) (p c q d : ℕ) → eq_pair q d p c ≡ true → P p c → P q d
same_at P p c q d e h =
    subst (λ (m : ℕ). P m d) (sym (eq_pair_l q d p c e)) (subst (λ (m : ℕ). P p m) (sym (eq_pair_r q d p c e)) h)

pub at_set_to : (q d p c : ℕ) (s : EdgeSet) (es : List GEdge) → solid s ≡ true → set_at q d (set_to p c s es) ≡ cond (eq_pair q d p c) s (set_at q d es)
at_set_to q d p c s es h = go (eq_pair q d p c) refl
  where
    go : (b : Bool) → eq_pair q d p c ≡ b → set_at q d (set_to p c s es) ≡ cond b s (set_at q d es)
    go true e = same_at (λ m n. set_at m n (set_to p c s es) ≡ s) p c q d e (set_to_self p c s es h)
    go false e = set_to_other q d p c s es e

pub set_to_neat : (p c : ℕ) (s : EdgeSet) (es : List GEdge) → set_ok s ≡ true → Neat es → Neat (set_to p c s es)
set_to_neat p c s es h n = record {
  order = set_to_order p c s es n.order;
  sets = λ q d. ap set_ok (at_set_to q d p c s es (set_ok_solid s h)) ∙ go (eq_pair q d p c) q d;
}
  where
    go : (b : Bool) (q d : ℕ) → set_ok (cond b s (set_at q d es)) ≡ true
    go true q d = h
    go false q d = n.sets q d

-- the set that it has already
pub set_to_idle : (p c : ℕ) (es : List GEdge) → Neat es → set_to p c (set_at p c es) es ≡ es
set_to_idle p c es n =
    neat_ext (set_to p c (set_at p c es) es) es (set_to_neat p c (set_at p c es) es (n.sets p c) n) n
    (λ q d. at_set_to q d p c (set_at p c es) es (set_ok_solid (set_at p c es) (n.sets p c)) ∙ go q d (eq_pair q d p c) refl)
  where
    go : (q d : ℕ) (b : Bool) → eq_pair q d p c ≡ b → cond b (set_at p c es) (set_at q d es) ≡ set_at q d es
    go q d true e = same_at (λ a b. set_at p c es ≡ set_at a b es) p c q d e refl
    go q d false e = refl

-- different pairs, in either order
pub set_to_swap : (p c q d : ℕ) (s t : EdgeSet) (es : List GEdge) → eq_pair p c q d ≡ false → set_ok s ≡ true → set_ok t ≡ true → Neat es
    → set_to p c s (set_to q d t es) ≡ set_to q d t (set_to p c s es)
set_to_swap p c q d s t es ne hs ht n =
    neat_ext (set_to p c s (set_to q d t es)) (set_to q d t (set_to p c s es))
    (set_to_neat p c s (set_to q d t es) hs (set_to_neat q d t es ht n)) (set_to_neat q d t (set_to p c s es) ht (set_to_neat p c s es hs n))
    (λ m k. at_set_to m k p c s (set_to q d t es) (set_ok_solid s hs) ∙ ap (λ (u : EdgeSet). cond (eq_pair m k p c) s u) (at_set_to m k q d t es (set_ok_solid t ht))
    ∙ go m k (eq_pair m k p c) (eq_pair m k q d) refl refl
    ∙ sym (at_set_to m k q d t (set_to p c s es) (set_ok_solid t ht) ∙ ap (λ (u : EdgeSet). cond (eq_pair m k q d) t u) (at_set_to m k p c s es (set_ok_solid s hs))))
  where
    go : (m k : ℕ) (a b : Bool) → eq_pair m k p c ≡ a → eq_pair m k q d ≡ b → cond a s (cond b t (set_at m k es)) ≡ cond b t (cond a s (set_at m k es))
    go m k true true ea eb = absurd (both (same_at (λ i j. eq_pair i j q d ≡ true) m k p c (eq_pair_turn m k p c ea) eb) ne)
      where
        eq_pair_turn : (i j i' j' : ℕ) → eq_pair i j i' j' ≡ true → eq_pair i' j' i j ≡ true
        eq_pair_turn i j i' j' e = same_at (λ a b. eq_pair i' j' a b ≡ true) i' j' i j e (eq_pair_self i' j')
    go m k true false ea eb = refl
    go m k false true ea eb = refl
    go m k false false ea eb = refl

-- the three parts of a list: before the pair, of the pair, after it
parts_length : (p c : ℕ) (es : List GEdge) → length (keep (is_before p c) es) + (length (edges_at p c es) + length (keep (is_after p c) es)) ≡ length es
unfolding set_at
parts_length p c [] = refl
parts_length p c (x ∷ es) = go (lt_pair p c x.parent x.child) (eq_pair p c x.parent x.child) refl refl (parts_length p c es)
  where
    go : (a b : Bool) → lt_pair p c x.parent x.child ≡ a → eq_pair p c x.parent x.child ≡ b
        → length (keep (is_before p c) es) + (length (edges_at p c es) + length (keep (is_after p c) es)) ≡ length es
        → length (cond a (x ∷ keep (is_before p c) es) (keep (is_before p c) es))
        + (length (cond b (union (one x) (set_at p c es)) (set_at p c es)).edges + length (cond (not a && not b) (x ∷ keep (is_after p c) es) (keep (is_after p c) es))) ≡ suc (length es)
    go true true ea eb h = absurd (both ea (not_before_self p c x.parent x.child eb))
    go true false ea eb h = omega arith
    go false true ea eb h = omega arith
    go false false ea eb h = omega arith

pub length_set_to : (p c : ℕ) (s : EdgeSet) (es : List GEdge) → length (set_to p c s es) + length (edges_at p c es) ≡ length es + length s.edges
unfolding set_to
length_set_to p c s es =
    let ts : List GEdge = tagged p c s.blurred s.edges in
    let a : length ts ≡ length s.edges = simp length-map in
    omega (arith, parts_length p c es, length-append (keep (is_before p c) es) (ts ++ keep (is_after p c) es), length-append ts (keep (is_after p c) es))

-- ---- which pairs

pub has_later : (r : Pair) (rs : List Pair) (p c : ℕ) → eq_pair p c r.parent r.child ≡ false → has_pair (r ∷ rs) p c ≡ true → has_pair rs p c ≡ true
unfolding has_pair
has_later r rs p c e h = go (eq_pair p c r.parent r.child) e h
  where
    go : (b : Bool) → b ≡ false → b || has_pair rs p c ≡ true → has_pair rs p c ≡ true
    go true k q = absurd (true≢false k)
    go false k q = q

has_none : (p c : ℕ) → has_pair [] p c ≡ true → ⊥
unfolding has_pair
has_none p c h = false≢true h

-- ---- the limit

fits_yes : (es : List GEdge) → length es ≤ 96 → few_edges es ≡ ok es
fits_yes es h = rw (le_leb h)

fits_no : (es : List GEdge) → 96 < length es → few_edges es ≡ refuse 21
fits_no es h = rw (decide {X = leb (length es) 96 ≡ false} (leb (length es) 96) (λ t. let z : length es ≤ 96 = leb_le t in absurd (omega arith)) (λ t. t))

-- ---- every new set is answered: it is the pair's set in hs

module _ (new : ℕ → ℕ → Ans EdgeSet) (hs : List GEdge) (neat : Neat hs) (yes : (p c : ℕ) → new p c ≡ ok (set_at p c hs)) where
  abbrev goal : Pair → List GEdge → List GEdge
  goal r es = set_to r.parent r.child (set_at r.parent r.child hs) es

  at_goal : (r : Pair) (es : List GEdge) (p c : ℕ) → set_at p c (goal r es) ≡ cond (eq_pair p c r.parent r.child) (set_at p c hs) (set_at p c es)
  at_goal r es p c =
      at_set_to p c r.parent r.child (set_at r.parent r.child hs) es (set_at_solid r.parent r.child hs) ∙ go (eq_pair p c r.parent r.child) refl
    where
      go : (b : Bool) → eq_pair p c r.parent r.child ≡ b → cond b (set_at r.parent r.child hs) (set_at p c es) ≡ cond b (set_at p c hs) (set_at p c es)
      go true e = same_at (λ q d. set_at r.parent r.child hs ≡ set_at q d hs) r.parent r.child p c e refl
      go false e = refl

  -- only pairs of rs have another set than in hs
  record Near (rs : List Pair) (es : List GEdge) : Type 0 where
    order : in_order es ≡ true
    near : (p c : ℕ) → (set_at p c es ≡ set_at p c hs) ⊎ (has_pair rs p c ≡ true)

  near_end : (es : List GEdge) → Near [] es → es ≡ hs
  near_end es n =
      let h : (p c : ℕ) → set_at p c es ≡ set_at p c hs = λ p c. go p c (n.near p c) in
      neat_ext es hs (record { order = n.order; sets = λ p c. ap set_ok (h p c) ∙ neat.sets p c }) neat h
    where
      go : (p c : ℕ) → (set_at p c es ≡ set_at p c hs) ⊎ (has_pair [] p c ≡ true) → set_at p c es ≡ set_at p c hs
      go p c (inl e) = e
      go p c (inr e) = absurd (has_none p c e)

  near_step : (r : Pair) (rs : List Pair) (es : List GEdge) → Near (r ∷ rs) es → Near rs (goal r es)
  near_step r rs es n = record {
    order = set_to_order r.parent r.child (set_at r.parent r.child hs) es n.order;
    near = λ p c. go p c (eq_pair p c r.parent r.child) refl (at_goal r es p c) (n.near p c);
  }
    where
      go : (p c : ℕ) (b : Bool) → eq_pair p c r.parent r.child ≡ b → set_at p c (goal r es) ≡ cond b (set_at p c hs) (set_at p c es)
          → (set_at p c es ≡ set_at p c hs) ⊎ (has_pair (r ∷ rs) p c ≡ true) → (set_at p c (goal r es) ≡ set_at p c hs) ⊎ (has_pair rs p c ≡ true)
      go p c true e a k = inl a
      go p c false e a (inl k) = inl (a ∙ k)
      go p c false e a (inr k) = inr (has_later r rs p c e k)

  replaced : (rs : List Pair) (es : List GEdge) → Near rs es → replace_all new rs es ≡ ok hs
  unfolding replace_all
  replaced [] es n = ap ok (near_end es n)
  replaced (r ∷ rs) es n = rw (yes r.parent r.child) (replaced rs (goal r es) (near_step r rs es n))

  -- the pass over all: the limit may be passed on the way
  all_pass : (rs : List Pair) (es : List GEdge) → Near rs es → length es ≤ 96 → (replace_lim false new rs es ≡ few_edges hs) ⊎ (replace_lim false new rs es ≡ refuse 21)
  unfolding replace_lim replace_one
  all_pass [] es n l = inl (sym (fits_yes es l) ∙ ap few_edges (near_end es n))
  all_pass (r ∷ rs) es n l =
      rw (yes r.parent r.child) (go (leb (length (goal r es)) 96) refl (λ k. all_pass rs (goal r es) (near_step r rs es n) k))
    where
      go : (b : Bool) → leb (length (goal r es)) 96 ≡ b
          → (length (goal r es) ≤ 96 → (replace_lim false new rs (goal r es) ≡ few_edges hs) ⊎ (replace_lim false new rs (goal r es) ≡ refuse 21))
          → (and_then (guard b 21 (ok (goal r es))) (λ fs. replace_lim false new rs fs) ≡ few_edges hs) ⊎ (and_then (guard b 21 (ok (goal r es))) (λ fs. replace_lim false new rs fs) ≡ refuse 21)
      go true e k = k (leb_le e)
      go false e k = inr refl

  -- no set has more edges than in hs
  abbrev Low : List GEdge → Type 0
  Low es = (p c : ℕ) → length (edges_at p c es) ≤ length (edges_at p c hs)

  low_step : (r : Pair) (es : List GEdge) → Low es → Low (goal r es)
  low_step r es w p c = subst (λ (s : EdgeSet). length s.edges ≤ length (edges_at p c hs)) (sym (at_goal r es p c)) (go (eq_pair p c r.parent r.child))
    where
      go : (b : Bool) → length (cond b (set_at p c hs) (set_at p c es)).edges ≤ length (edges_at p c hs)
      go true = omega arith
      go false = w p c

  longer : (r : Pair) (es : List GEdge) → Low es → length es ≤ length (goal r es)
  longer r es w =
      omega (arith, w r.parent r.child, length_set_to r.parent r.child (set_at r.parent r.child hs) es)

  climbs : (rs : List Pair) (es : List GEdge) → Near rs es → Low es → length es ≤ length hs
  climbs [] es n w = let e : length es ≡ length hs = ap length (near_end es n) in omega arith
  climbs (r ∷ rs) es n w =
      let a : length es ≤ length (goal r es) = longer r es w in
      let b : length (goal r es) ≤ length hs = climbs rs (goal r es) (near_step r rs es n) (low_step r es w) in
      omega arith

  -- there the limit on the way is the limit at the end
  low_pass : (rs : List Pair) (es : List GEdge) → Near rs es → Low es → length es ≤ 96 → replace_lim false new rs es ≡ few_edges hs
  unfolding replace_lim replace_one
  low_pass [] es n w l = sym (fits_yes es l) ∙ ap few_edges (near_end es n)
  low_pass (r ∷ rs) es n w l =
      rw (yes r.parent r.child) (go (leb (length (goal r es)) 96) refl (λ k. low_pass rs (goal r es) (near_step r rs es n) (low_step r es w) k))
    where
      go : (b : Bool) → leb (length (goal r es)) 96 ≡ b → (length (goal r es) ≤ 96 → replace_lim false new rs (goal r es) ≡ few_edges hs)
          → and_then (guard b 21 (ok (goal r es))) (λ fs. replace_lim false new rs fs) ≡ few_edges hs
      go true e k = k (leb_le e)
      go false e k =
          let a : 96 < length (goal r es) = leb_gt e in
          let b : length (goal r es) ≤ length hs = climbs rs (goal r es) (near_step r rs es n) (low_step r es w) in
          sym (fits_no hs (omega arith))

  -- the shrinking pass
  record Shrunk (rs : List Pair) (es ms : List GEdge) : Type 0 where
    order : in_order es ≡ true → in_order ms ≡ true
    short : length ms ≤ 96
    either : (p c : ℕ) → (set_at p c ms ≡ set_at p c es) ⊎ (set_at p c ms ≡ set_at p c hs)
    low : (p c : ℕ) → has_pair rs p c ≡ true → length (edges_at p c ms) ≤ length (edges_at p c hs)

  low_from : (es ms : List GEdge) (p c : ℕ) → (set_at p c ms ≡ set_at p c es) ⊎ (set_at p c ms ≡ set_at p c hs)
      → length (edges_at p c es) ≤ length (edges_at p c hs) → length (edges_at p c ms) ≤ length (edges_at p c hs)
  low_from es ms p c (inl e) h = subst (λ (s : EdgeSet). length s.edges ≤ length (edges_at p c hs)) (sym e) h
  low_from es ms p c (inr e) h = subst (λ (s : EdgeSet). length s.edges ≤ length (edges_at p c hs)) (sym e) (omega arith)

  -- r passed over
  shrunk_past : (r : Pair) (rs : List Pair) (es ms : List GEdge) → length (edges_at r.parent r.child es) ≤ length (edges_at r.parent r.child hs) → Shrunk rs es ms → Shrunk (r ∷ rs) es ms
  shrunk_past r rs es ms h k = record {
    order = k.order;
    short = k.short;
    either = k.either;
    low = λ p c q. decide (eq_pair p c r.parent r.child)
        (λ e. low_from es ms p c (k.either p c) (same_at (λ m d. length (edges_at m d es) ≤ length (edges_at m d hs)) r.parent r.child p c e h))
        (λ e. k.low p c (has_later r rs p c e q));
  }

  -- r replaced
  shrunk_with : (r : Pair) (rs : List Pair) (es ms : List GEdge) → Shrunk rs (goal r es) ms → Shrunk (r ∷ rs) es ms
  shrunk_with r rs es ms k = record {
    order = λ o. k.order (set_to_order r.parent r.child (set_at r.parent r.child hs) es o);
    short = k.short;
    either = λ p c. go p c (eq_pair p c r.parent r.child) (at_goal r es p c) (k.either p c);
    low = λ p c q. decide (eq_pair p c r.parent r.child)
        (λ e. low_from (goal r es) ms p c (k.either p c)
        (let z : set_at p c (goal r es) ≡ set_at p c hs = at_goal r es p c ∙ ap (λ (b : Bool). cond b (set_at p c hs) (set_at p c es)) e in
        subst (λ (s : EdgeSet). length s.edges ≤ length (edges_at p c hs)) (sym z) (omega arith)))
        (λ e. k.low p c (has_later r rs p c e q));
  }
    where
      go : (p c : ℕ) (b : Bool) → set_at p c (goal r es) ≡ cond b (set_at p c hs) (set_at p c es) → (set_at p c ms ≡ set_at p c (goal r es)) ⊎ (set_at p c ms ≡ set_at p c hs)
          → (set_at p c ms ≡ set_at p c es) ⊎ (set_at p c ms ≡ set_at p c hs)
      go p c b a (inr e) = inr e
      go p c true a (inl e) = inr (e ∙ a)
      go p c false a (inl e) = inl (e ∙ a)

  shrinks : (rs : List Pair) (es : List GEdge) → length es ≤ 96 → (ms : List GEdge) × (replace_lim true new rs es ≡ ok ms) × (Shrunk rs es ms)
  unfolding replace_lim replace_one
  shrinks [] es l = (es, refl, record { order = λ o. o; short = l; either = λ p c. inl refl; low = λ p c h. absurd (has_none p c h) })
  shrinks (r ∷ rs) es l =
      rw (yes r.parent r.child) (go (leb (length (edges_at r.parent r.child es)) (length (edges_at r.parent r.child hs))) refl (shrinks rs es l) (λ k. shrinks rs (goal r es) k))
    where
      go : (b : Bool) → leb (length (edges_at r.parent r.child es)) (length (edges_at r.parent r.child hs)) ≡ b
          → (ms : List GEdge) × (replace_lim true new rs es ≡ ok ms) × (Shrunk rs es ms)
          → (length (goal r es) ≤ 96 → (ms : List GEdge) × (replace_lim true new rs (goal r es) ≡ ok ms) × (Shrunk rs (goal r es) ms))
          → (ms : List GEdge) × (and_then (cond b (ok es) (few_edges (goal r es))) (λ fs. replace_lim true new rs fs) ≡ ok ms) × (Shrunk (r ∷ rs) es ms)
      go true e z k = (z.0, z.1, shrunk_past r rs es z.0 (leb_le e) z.2)
      go false e z k =
          let a : length (edges_at r.parent r.child hs) < length (edges_at r.parent r.child es) = leb_gt e in
          let b : length (goal r es) ≤ 96 = omega (arith, length_set_to r.parent r.child (set_at r.parent r.child hs) es) in
          let y = k b in
          (y.0, rw (fits_yes (goal r es) b) y.1, shrunk_with r rs es y.0 y.2)

  two_pass_yes : (rs : List Pair) (es : List GEdge) → Near rs es → length es ≤ 96 → two_pass new rs es ≡ few_edges hs
  unfolding two_pass
  two_pass_yes rs es n l = go (replace_lim false new rs es) (all_pass rs es n l)
    where
      again : and_then (replace_lim true new rs es) (λ fs. replace_lim false new rs fs) ≡ few_edges hs
      again =
          let z = shrinks rs es l in
          let k : Shrunk rs es z.0 = z.2 in
          rw z.1 (low_pass rs z.0 (record { order = k.order n.order; near = λ p c. near z.0 k p c (k.either p c) (n.near p c) }) (λ p c. low z.0 k p c (n.near p c)) k.short)
        where
          near : (ms : List GEdge) → Shrunk rs es ms → (p c : ℕ) → (set_at p c ms ≡ set_at p c es) ⊎ (set_at p c ms ≡ set_at p c hs) → (set_at p c es ≡ set_at p c hs) ⊎ (has_pair rs p c ≡ true)
              → (set_at p c ms ≡ set_at p c hs) ⊎ (has_pair rs p c ≡ true)
          near ms k p c (inr e) h = inl e
          near ms k p c (inl e) (inl h) = inl (e ∙ h)
          near ms k p c (inl e) (inr h) = inr h

          low : (ms : List GEdge) → Shrunk rs es ms → (p c : ℕ) → (set_at p c es ≡ set_at p c hs) ⊎ (has_pair rs p c ≡ true) → length (edges_at p c ms) ≤ length (edges_at p c hs)
          low ms k p c (inl h) = low_from es ms p c (k.either p c) (let e : length (edges_at p c es) ≡ length (edges_at p c hs) = ap (λ (s : EdgeSet). length s.edges) h in omega arith)
          low ms k p c (inr h) = k.low p c h

      go : (a : Ans (List GEdge)) → (a ≡ few_edges hs) ⊎ (a ≡ refuse 21) → or21 a (and_then (replace_lim true new rs es) (λ fs. replace_lim false new rs fs)) ≡ few_edges hs
      go a (inr e) = rw e again
      go (ok fs) (inl e) = e
      go (refuse m) (inl e) = either (eqb m 21) refl
        where
          either : (b : Bool) → eqb m 21 ≡ b → cond b (and_then (replace_lim true new rs es) (λ fs. replace_lim false new rs fs)) (refuse m) ≡ few_edges hs
          either true t = again
          either false t = e

-- ---- the new set of (p, c) is refused: 22, wherever the pair stands

module _ (new : ℕ → ℕ → Ans EdgeSet) (only : (p c n : ℕ) → new p c ≡ refuse n → n ≡ 22) (p c : ℕ) (no : new p c ≡ refuse 22) where
  abbrev here : Pair → Bool
  here r = eq_pair p c r.parent r.child

  -- at the pair itself; at another pair that is refused; at one that is answered
  data Turn (r : Pair) (rs : List Pair) : Type 0 where
    stop : new r.parent r.child ≡ refuse 22 → Turn r rs
    on : (s : EdgeSet) → new r.parent r.child ≡ ok s → has_pair rs p c ≡ true → Turn r rs

  turn : (r : Pair) (rs : List Pair) → has_pair (r ∷ rs) p c ≡ true → Turn r rs
  turn r rs h = decide (here r) (λ e. stop (sym (same_at (λ q d. new q d ≡ new r.parent r.child) r.parent r.child p c e refl) ∙ no)) (λ e. go (new r.parent r.child) refl e)
    where
      go : (a : Ans EdgeSet) → new r.parent r.child ≡ a → here r ≡ false → Turn r rs
      go (ok s) q e = on s q (has_later r rs p c e h)
      go (refuse n) q e = stop (q ∙ ap refuse (only r.parent r.child n q))

  replaced_no : (rs : List Pair) (es : List GEdge) → has_pair rs p c ≡ true → replace_all new rs es ≡ refuse 22
  unfolding replace_all
  replaced_no [] es h = absurd (has_none p c h)
  replaced_no (r ∷ rs) es h = go (turn r rs h) (λ fs k. replaced_no rs fs k)
    where
      go : Turn r rs → ((fs : List GEdge) → has_pair rs p c ≡ true → replace_all new rs fs ≡ refuse 22)
          → and_then (new r.parent r.child) (λ s. replace_all new rs (set_to r.parent r.child s es)) ≡ refuse 22
      go (stop q) k = rw q
      go (on s q l) k = rw q (k (set_to r.parent r.child s es) l)

  abbrev Ends : Ans (List GEdge) → Type 0
  Ends a = (a ≡ refuse 22) ⊎ (a ≡ refuse 21)

  all_pass_no : (rs : List Pair) (es : List GEdge) → has_pair rs p c ≡ true → Ends (replace_lim false new rs es)
  unfolding replace_lim replace_one
  all_pass_no [] es h = absurd (has_none p c h)
  all_pass_no (r ∷ rs) es h = go (turn r rs h) (λ fs k. all_pass_no rs fs k)
    where
      after : (b : Bool) (fs : List GEdge) → Ends (replace_lim false new rs fs) → Ends (and_then (guard b 21 (ok fs)) (λ ds. replace_lim false new rs ds))
      after true fs k = k
      after false fs k = inr refl

      go : Turn r rs → ((fs : List GEdge) → has_pair rs p c ≡ true → Ends (replace_lim false new rs fs))
          → Ends (and_then (new r.parent r.child) (λ s. and_then (few_edges (set_to r.parent r.child s es)) (λ fs. replace_lim false new rs fs)))
      go (stop q) k = inl (rw q)
      go (on s q l) k = rw q (after (leb (length (set_to r.parent r.child s es)) 96) (set_to r.parent r.child s es) (k (set_to r.parent r.child s es) l))

  shrinks_no : (rs : List Pair) (es : List GEdge) → length es ≤ 96 → has_pair rs p c ≡ true → replace_lim true new rs es ≡ refuse 22
  unfolding replace_lim replace_one
  shrinks_no [] es l h = absurd (has_none p c h)
  shrinks_no (r ∷ rs) es l h = go (turn r rs h) (λ fs m k. shrinks_no rs fs m k)
    where
      after : (s : EdgeSet) (b : Bool) → leb (length (edges_at r.parent r.child es)) (length s.edges) ≡ b → ((fs : List GEdge) → length fs ≤ 96 → replace_lim true new rs fs ≡ refuse 22)
          → and_then (cond b (ok es) (few_edges (set_to r.parent r.child s es))) (λ fs. replace_lim true new rs fs) ≡ refuse 22
      after s true e k = k es l
      after s false e k =
          let a : length s.edges < length (edges_at r.parent r.child es) = leb_gt e in
          let b : length (set_to r.parent r.child s es) ≤ 96 = omega (arith, length_set_to r.parent r.child s es) in
          rw (fits_yes (set_to r.parent r.child s es) b) (k (set_to r.parent r.child s es) b)

      go : Turn r rs → ((fs : List GEdge) → length fs ≤ 96 → has_pair rs p c ≡ true → replace_lim true new rs fs ≡ refuse 22)
          → and_then (new r.parent r.child) (λ s. and_then (replace_one true r.parent r.child s es) (λ fs. replace_lim true new rs fs)) ≡ refuse 22
      go (stop q) k = rw q
      go (on s q m) k = rw q (after s (leb (length (edges_at r.parent r.child es)) (length s.edges)) refl (λ fs j. k fs j m))

  two_pass_no : (rs : List Pair) (es : List GEdge) → length es ≤ 96 → has_pair rs p c ≡ true → two_pass new rs es ≡ refuse 22
  unfolding two_pass
  two_pass_no rs es l h = go (replace_lim false new rs es) (all_pass_no rs es h)
    where
      go : (a : Ans (List GEdge)) → Ends a → or21 a (and_then (replace_lim true new rs es) (λ fs. replace_lim false new rs fs)) ≡ refuse 22
      go a (inl e) = rw e
      go a (inr e) = rw (e, shrinks_no rs es l h)

-- ---- edges put in one after the other, pair by pair

insert_22 : (s : EdgeSet) (e : Edge) (n : ℕ) → insert s e ≡ refuse n → n ≡ 22
unfolding insert
insert_22 s e n q = go s.blurred (leb 10 (length s.edges)) (leb (length e.path) 8) (has e s.edges) q
  where
    go : (a b c d : Bool) → cond a (ok s) (cond b (ok (blur e.offset)) (cond c (cond d (ok s) (ok (record { edges = put e s.edges; blurred = false }))) (refuse 22))) ≡ refuse n → n ≡ 22
    go true b c d h = absurd (refuse≢ok (sym h))
    go false true c d h = absurd (refuse≢ok (sym h))
    go false false true true h = absurd (refuse≢ok (sym h))
    go false false true false h = absurd (refuse≢ok (sym h))
    go false false false d h = cc

insert_all_22 : (es : List Edge) (s : EdgeSet) (n : ℕ) → insert_all es s ≡ refuse n → n ≡ 22
unfolding insert_all
insert_all_22 [] s n h = absurd (refuse≢ok (sym h))
insert_all_22 (e ∷ es) s n h = go (insert s e) refl h (λ t. insert_all_22 es t n)
  where
    go : (a : Ans EdgeSet) → insert s e ≡ a → and_then a (λ t. insert_all es t) ≡ refuse n → ((t : EdgeSet) → insert_all es t ≡ refuse n → n ≡ 22) → n ≡ 22
    go (ok t) q k r = r t k
    go (refuse m) q k r = insert_22 s e n (q ∙ k)

-- no new set is refused but with 22
pub new_set_22 : (g : Graph) (xs : List GEdge) (p c n : ℕ) → new_set g xs p c ≡ refuse n → n ≡ 22
unfolding new_set
new_set_22 g xs p c n h = insert_all_22 (edges_at p c xs) (set_at p c g.edges) n h

-- each new set is well formed
pub insert_all_set_ok : (es : List Edge) (s t : EdgeSet) → insert_all es s ≡ ok t → set_ok s ≡ true → set_ok t ≡ true
unfolding insert_all
insert_all_set_ok [] s t h k = subst (λ (u : EdgeSet). set_ok u ≡ true) (ok_inj h) k
insert_all_set_ok (e ∷ es) s t h k =
    let z = and_then_ok (insert s e) (λ u. insert_all es u) t h in
    insert_all_set_ok es z.0 t z.2 (insert_set_ok s e z.0 (inserted s e z.0 z.1) k)

pub new_set_set_ok : (g : Graph) (xs : List GEdge) (p c : ℕ) (s : EdgeSet) → new_set g xs p c ≡ ok s → set_ok (set_at p c g.edges) ≡ true → set_ok s ≡ true
unfolding new_set
new_set_set_ok g xs p c s h k = insert_all_set_ok (edges_at p c xs) (set_at p c g.edges) s h k

-- turns of the loops that make a new set
pub insert_all_end : (s : EdgeSet) → insert_all [] s ≡ ok s
unfolding insert_all
insert_all_end s = refl

pub insert_all_on : (e : Edge) (es : List Edge) (s : EdgeSet) (a : Ans EdgeSet) → insert s e ≡ a → insert_all (e ∷ es) s ≡ and_then a (λ t. insert_all es t)
unfolding insert_all
insert_all_on e es s a q = ap (λ (z : Ans EdgeSet). and_then z (λ t. insert_all es t)) q

pub insert_all_append : (ds es : List Edge) (s : EdgeSet) → insert_all (ds ++ es) s ≡ and_then (insert_all ds s) (λ t. insert_all es t)
unfolding insert_all
insert_all_append [] es s = refl
insert_all_append (d ∷ ds) es s = go (insert s d) (λ t. insert_all_append ds es t)
  where
    go : (a : Ans EdgeSet) → ((t : EdgeSet) → insert_all (ds ++ es) t ≡ and_then (insert_all ds t) (λ u. insert_all es u))
        → and_then a (λ t. insert_all (ds ++ es) t) ≡ and_then (and_then a (λ t. insert_all ds t)) (λ t. insert_all es t)
    go (ok t) k = k t
    go (refuse n) k = refl

-- a blurred set stays as it is
insert_blurred : (s : EdgeSet) (e : Edge) → s.blurred ≡ true → insert s e ≡ ok s
unfolding insert
insert_blurred s e b = ap (λ (z : Bool). cond z (ok s) (cond (leb 10 (length s.edges)) (ok (blur e.offset)) (cond (leb (length e.path) 8) (cond (has e s.edges) (ok s) (ok (record { edges = put e s.edges; blurred = false }))) (refuse 22)))) b

pub insert_all_blurred : (es : List Edge) (s : EdgeSet) → s.blurred ≡ true → insert_all es s ≡ ok s
unfolding insert_all
insert_all_blurred [] s b = refl
insert_all_blurred (e ∷ es) s b = insert_all_on e es s (ok s) (insert_blurred s e b) ∙ insert_all_blurred es s b

-- after x the rest of the edges makes the same new sets
new_set_step : (x : GEdge) (xs : List GEdge) (g k : Graph) → add_edge g x ≡ ok k → (p c : ℕ) → new_set g (x ∷ xs) p c ≡ new_set k xs p c
unfolding new_set insert_all
new_set_step x xs g k q p c = go (eq_pair p c x.parent x.child) refl
  where
    a : Added g x k
    a = add_edge_added g x k q

    go : (b : Bool) → eq_pair p c x.parent x.child ≡ b → insert_all (edges_at p c (x ∷ xs)) (set_at p c g.edges) ≡ insert_all (edges_at p c xs) (set_at p c k.edges)
    go true e =
        same_at (λ m d. insert_all (edges_at m d (x ∷ xs)) (set_at m d g.edges) ≡ insert_all (edges_at m d xs) (set_at m d k.edges)) x.parent x.child p c e
        (ap (λ (s : EdgeSet). insert_all s.edges (set_at x.parent x.child g.edges)) (set_at_head x xs)
        ∙ ap (λ (z : Ans EdgeSet). and_then z (λ t. insert_all (edges_at x.parent x.child xs) t)) a.put
        ∙ ap (λ (s : EdgeSet). insert_all (edges_at x.parent x.child xs) s) (sym a.here))
    go false e =
        ap (λ (s : EdgeSet). insert_all s.edges (set_at p c g.edges)) (set_at_miss p c x xs e)
        ∙ ap (λ (s : EdgeSet). insert_all (edges_at p c xs) s) (sym (a.elsewhere p c e))

then_refused : {A B : Type 0} (a : Ans A) (f : A → B) (n : ℕ) → and_then a (λ s. ok (f s)) ≡ refuse n → a ≡ refuse n
then_refused (ok s) f n e = absurd (refuse≢ok (sym e))
then_refused (refuse m) f n e = cc

-- where putting in is refused, some pair's new set is
refused_first : (x : GEdge) (xs : List GEdge) (g : Graph) (n : ℕ) → add_edge g x ≡ refuse n → new_set g (x ∷ xs) x.parent x.child ≡ refuse n
unfolding add_edge new_set insert_all
refused_first x xs g n q =
    ap (λ (s : EdgeSet). insert_all s.edges (set_at x.parent x.child g.edges)) (set_at_head x xs)
    ∙ ap (λ (z : Ans EdgeSet). and_then z (λ t. insert_all (edges_at x.parent x.child xs) t)) (then_refused (insert (set_at x.parent x.child g.edges) x.edge) (λ s. record { names = g.names; edges = set_to x.parent x.child s g.edges }) n q)

refused_at : (xs : List GEdge) (g : Graph) (n : ℕ) → add_all xs g ≡ refuse n → (p : ℕ) × (c : ℕ) × (new_set g xs p c ≡ refuse n)
unfolding add_all
refused_at [] g n h = absurd (refuse≢ok (sym h))
refused_at (x ∷ xs) g n h = go (add_edge g x) refl h (λ k. refused_at xs k n)
  where
    go : (a : Ans Graph) → add_edge g x ≡ a → and_then a (λ k. add_all xs k) ≡ refuse n → ((k : Graph) → add_all xs k ≡ refuse n → (p : ℕ) × (c : ℕ) × (new_set k xs p c ≡ refuse n))
        → (p : ℕ) × (c : ℕ) × (new_set g (x ∷ xs) p c ≡ refuse n)
    go (ok k) q e r = let z = r k e in (z.0, z.1, new_set_step x xs g k q z.0 z.1 ∙ z.2)
    go (refuse m) q e r = (x.parent, x.child, refused_first x xs g n (q ∙ e))

module _ (g : Graph) (v : Inv g) (xs : List GEdge) (rs : List Pair) (cov : on_pairs (has_pair rs) xs ≡ true) where
  -- a pair that is not listed keeps its set
  unlisted : (h : Graph) → add_all xs g ≡ ok h → (p c : ℕ) → (set_at p c g.edges ≡ set_at p c h.edges) ⊎ (has_pair rs p c ≡ true)
  unfolding insert_all
  unlisted h q p c = go (at_or_empty (has_pair rs) p c xs cov)
    where
      go : (has_pair rs p c ≡ true) ⊎ (set_at p c xs ≡ empty_set) → (set_at p c g.edges ≡ set_at p c h.edges) ⊎ (has_pair rs p c ≡ true)
      go (inl e) = inr e
      go (inr e) = inl (ok_inj (sym (ap (λ (s : EdgeSet). insert_all s.edges (set_at p c g.edges)) e) ∙ add_all_at p c xs g h q))

  near_start : (h : Graph) (q : add_all xs g ≡ ok h) (n : Neat h.edges) (y : (p c : ℕ) → new_set g xs p c ≡ ok (set_at p c h.edges)) → Near (new_set g xs) h.edges n y rs g.edges
  near_start h q n y = record { order = v.order; near = unlisted h q }

  news : (h : Graph) → add_all xs g ≡ ok h → (p c : ℕ) → new_set g xs p c ≡ ok (set_at p c h.edges)
  unfolding new_set
  news h q p c = add_all_at p c xs g h q

  after_neat : (h : Graph) → add_all xs g ≡ ok h → Neat h.edges
  after_neat h q = record { order = add_all_order xs g h q v.order; sets = λ p c. add_all_set_ok xs g h q p c (v.sets p c) }

  -- where it is refused, it is with 22, and a listed pair is refused
  refused_listed : (n : ℕ) → add_all xs g ≡ refuse n → (p : ℕ) × (c : ℕ) × (new_set g xs p c ≡ refuse 22) × (has_pair rs p c ≡ true) × (n ≡ 22)
  unfolding new_set insert_all
  refused_listed n q =
      let z = refused_at xs g n q in
      let w : n ≡ 22 = new_set_22 g xs z.0 z.1 n z.2 in
      (z.0, z.1, z.2 ∙ ap refuse w, go z.0 z.1 z.2 (at_or_empty (has_pair rs) z.0 z.1 xs cov), w)
    where
      go : (p c : ℕ) → insert_all (edges_at p c xs) (set_at p c g.edges) ≡ refuse n → (has_pair rs p c ≡ true) ⊎ (set_at p c xs ≡ empty_set) → has_pair rs p c ≡ true
      go p c k (inl e) = e
      go p c k (inr e) = absurd (refuse≢ok (sym (sym (ap (λ (s : EdgeSet). insert_all s.edges (set_at p c g.edges)) e) ∙ k)))

  -- Edges put in one after the other are put in pair by pair.
  pub add_all_pairwise : add_all xs g ≡ with_edges g (replace_all (new_set g xs) rs g.edges)
  add_all_pairwise = go (add_all xs g) refl
    where
      go : (a : Ans Graph) → add_all xs g ≡ a → a ≡ with_edges g (replace_all (new_set g xs) rs g.edges)
      go (ok h) q =
          let e = replaced (new_set g xs) h.edges (after_neat h q) (news h q) rs g.edges (near_start h q (after_neat h q) (news h q)) in
          let n : h.names ≡ g.names = add_all_names xs g h q in
          rw e (λ i. ok (record { names = n i; edges = h.edges }))
      go (refuse n) q =
          let z = refused_listed n q in
          rw (replaced_no (new_set g xs) (new_set_22 g xs) z.0 z.1 z.2 rs g.edges z.3) (ap refuse z.4)

  -- The two passes are exact: 21 only where the list is too long in the end, 22 where any pair is refused.
  pub exactly_is : length g.edges ≤ 96 → exactly g xs rs ≡ and_then (add_all xs g) limit
  unfolding exactly limit
  exactly_is l = go (add_all xs g) refl
    where
      named : (h : Graph) → h.names ≡ g.names → (b : Bool) → with_edges g (guard b 21 (ok h.edges)) ≡ guard b 21 (ok h)
      named h n true = λ i. ok (record { names = sym n i; edges = h.edges })
      named h n false = refl

      go : (a : Ans Graph) → add_all xs g ≡ a → with_edges g (two_pass (new_set g xs) rs g.edges) ≡ and_then a limit
      go (ok h) q =
          rw (two_pass_yes (new_set g xs) h.edges (after_neat h q) (news h q) rs g.edges (near_start h q (after_neat h q) (news h q)) l)
          (named h (add_all_names xs g h q) (leb (length h.edges) 96))
      go (refuse n) q =
          let z = refused_listed n q in
          rw (two_pass_no (new_set g xs) (new_set_22 g xs) z.0 z.1 z.2 rs g.edges l z.3) (ap refuse (sym z.4))

-- one pair refused refuses all
pub add_all_refused : (g : Graph) (xs : List GEdge) (p c n : ℕ) → new_set g xs p c ≡ refuse n → add_all xs g ≡ refuse 22
unfolding new_set
add_all_refused g xs p c n e = go (add_all xs g) refl
  where
    go : (a : Ans Graph) → add_all xs g ≡ a → a ≡ refuse 22
    go (ok h) q = absurd (refuse≢ok (sym e ∙ add_all_at p c xs g h q))
    go (refuse m) q = let z = refused_at xs g m q in ap refuse (new_set_22 g xs z.0 z.1 m z.2)

-- ---- well-formedness

on_tagged : (f : ℕ → ℕ → Bool) (p c : ℕ) (b : Bool) → f p c ≡ true → (es : List Edge) → on_pairs f (tagged p c b es) ≡ true
on_tagged f p c b h [] = refl
on_tagged f p c b h (e ∷ es) = and_i h (on_tagged f p c b h es)

pub replace_inv : (g : Graph) (p c : ℕ) (s : EdgeSet) → Inv g → pair_ok g.names p c ≡ true → set_ok s ≡ true → Inv (record { names = g.names; edges = set_to p c s g.edges })
unfolding set_to
replace_inv g p c s v q h =
    let t : GEdge → Bool = λ y. pair_ok g.names y.parent y.child in
    let n : Neat (set_to p c s g.edges) = set_to_neat p c s g.edges h (inv_neat g v) in
    record {
      few = v.few;
      asc = v.asc;
      pairs = all_append t (keep (is_before p c) g.edges) (tagged p c s.blurred s.edges ++ keep (is_after p c) g.edges)
          (all_keep t (is_before p c) g.edges v.pairs)
          (all_append t (tagged p c s.blurred s.edges) (keep (is_after p c) g.edges) (on_tagged (pair_ok g.names) p c s.blurred q s.edges) (all_keep t (is_after p c) g.edges v.pairs));
      sets = n.sets;
      order = n.order;
    }

-- each list on the way belongs to a well-formed graph
pub replace_one_formed : (g : Graph) (shrinking : Bool) (p c : ℕ) (s : EdgeSet) (fs : List GEdge) → well_formed g ≡ true → pair_ok g.names p c ≡ true → set_ok s ≡ true
    → replace_one shrinking p c s g.edges ≡ ok fs → well_formed (record { names = g.names; edges = fs }) ≡ true
unfolding replace_one
replace_one_formed g shrinking p c s fs w q h e = go (shrinking && leb (length (edges_at p c g.edges)) (length s.edges)) e
  where
    go : (b : Bool) → cond b (ok g.edges) (few_edges (set_to p c s g.edges)) ≡ ok fs → well_formed (record { names = g.names; edges = fs }) ≡ true
    go true k = subst (λ (es : List GEdge). well_formed (record { names = g.names; edges = es }) ≡ true) (ok_inj k) w
    go false k =
        let z = guard_ok (leb (length (set_to p c s g.edges)) 96) 21 (ok (set_to p c s g.edges)) fs k in
        subst (λ (es : List GEdge). well_formed (record { names = g.names; edges = es }) ≡ true) (ok_inj z.1)
        (inv→wf (record { names = g.names; edges = set_to p c s g.edges }) (replace_inv g p c s (wf→inv g w) q h) z.0)

-- and so does the last one
pub exactly_formed : (g : Graph) (xs : List GEdge) (rs : List Pair) (h : Graph) → well_formed g ≡ true → on_pairs (pair_ok g.names) xs ≡ true → on_pairs (has_pair rs) xs ≡ true
    → exactly g xs rs ≡ ok h → well_formed h ≡ true
exactly_formed g xs rs h w q cov e =
    let y = and_then_ok (add_all xs g) limit h (sym (exactly_is g (wf→inv g w) xs rs cov (leb_le (room g w))) ∙ e) in
    let l = limit_ok y.0 h y.2 in
    subst (λ (k : Graph). well_formed k ≡ true) l.0 (inv→wf y.0 (add_all_inv xs g y.0 y.1 (wf→inv g w) q) l.1)

-- ---- a list on the way: some pairs have their new set, the others their old one

pub record Partly (base : List GEdge) (new : ℕ → ℕ → Ans EdgeSet) (es : List GEdge) : Type 0 where
  pub neat : Neat es
  pub from : (p c : ℕ) → (set_at p c es ≡ set_at p c base) ⊎ (new p c ≡ ok (set_at p c es))

module _ (base : List GEdge) (new : ℕ → ℕ → Ans EdgeSet) where
  pub partly_start : Neat base → Partly base new base
  partly_start n = record { neat = n; from = λ p c. inl refl }

  partly_set : (p c : ℕ) (s : EdgeSet) (es : List GEdge) → Partly base new es → new p c ≡ ok s → set_ok s ≡ true → Partly base new (set_to p c s es)
  partly_set p c s es k q h = record {
    neat = set_to_neat p c s es h k.neat;
    from = λ m d. go m d (eq_pair m d p c) refl (at_set_to m d p c s es (set_ok_solid s h));
  }
    where
      go : (m d : ℕ) (b : Bool) → eq_pair m d p c ≡ b → set_at m d (set_to p c s es) ≡ cond b s (set_at m d es) → (set_at m d (set_to p c s es) ≡ set_at m d base) ⊎ (new m d ≡ ok (set_at m d (set_to p c s es)))
      go m d true e a = inr (same_at (λ i j. new i j ≡ ok s) p c m d e q ∙ ap ok (sym a))
      go m d false e a = subst (λ (u : EdgeSet). (u ≡ set_at m d base) ⊎ (new m d ≡ ok u)) (sym a) (k.from m d)

  pub partly_on : (shrinking : Bool) (p c : ℕ) (s : EdgeSet) (es fs : List GEdge) → Partly base new es → new p c ≡ ok s → set_ok s ≡ true → replace_one shrinking p c s es ≡ ok fs → Partly base new fs
  unfolding replace_one
  partly_on shrinking p c s es fs k q h e = go (shrinking && leb (length (edges_at p c es)) (length s.edges)) e
    where
      go : (b : Bool) → cond b (ok es) (few_edges (set_to p c s es)) ≡ ok fs → Partly base new fs
      go true z = subst (λ (l : List GEdge). Partly base new l) (ok_inj z) k
      go false z = subst (λ (l : List GEdge). Partly base new l) (ok_inj (guard_ok (leb (length (set_to p c s es)) 96) 21 (ok (set_to p c s es)) fs z).1) (partly_set p c s es k q h)

  -- a pair whose set does not change need not be replaced
  pub partly_skip : (shrinking : Bool) (p c : ℕ) (es : List GEdge) → Partly base new es → length es ≤ 96 → new p c ≡ ok (set_at p c base) → replace_one shrinking p c (set_at p c base) es ≡ ok es
  unfolding replace_one
  partly_skip shrinking p c es k l q =
      subst (λ (s : EdgeSet). cond (shrinking && leb (length (edges_at p c es)) (length s.edges)) (ok es) (few_edges (set_to p c s es)) ≡ ok es) (same (k.from p c))
      (go (shrinking && leb (length (edges_at p c es)) (length (edges_at p c es))))
    where
      same : (set_at p c es ≡ set_at p c base) ⊎ (new p c ≡ ok (set_at p c es)) → set_at p c es ≡ set_at p c base
      same (inl e) = e
      same (inr e) = ok_inj (sym e ∙ q)

      go : (b : Bool) → cond b (ok es) (few_edges (set_to p c (set_at p c es) es)) ≡ ok es
      go true = refl
      go false = ap few_edges (set_to_idle p c es k.neat) ∙ fits_yes es l

-- ---- turns of a pass

module _ (shrinking : Bool) (new : ℕ → ℕ → Ans EdgeSet) where
  pub pass_end : (es : List GEdge) → replace_lim shrinking new [] es ≡ ok es
  unfolding replace_lim
  pass_end es = refl

  pub pass_on : (r : Pair) (rs : List Pair) (s : EdgeSet) (es fs : List GEdge) → new r.parent r.child ≡ ok s → replace_one shrinking r.parent r.child s es ≡ ok fs
      → replace_lim shrinking new (r ∷ rs) es ≡ replace_lim shrinking new rs fs
  unfolding replace_lim
  pass_on r rs s es fs p q = rw (p, q)

  pub pass_22 : (r : Pair) (rs : List Pair) (n : ℕ) (es : List GEdge) → new r.parent r.child ≡ refuse n → replace_lim shrinking new (r ∷ rs) es ≡ refuse n
  unfolding replace_lim
  pass_22 r rs n es p = rw p

  pub pass_21 : (r : Pair) (rs : List Pair) (s : EdgeSet) (n : ℕ) (es : List GEdge) → new r.parent r.child ≡ ok s → replace_one shrinking r.parent r.child s es ≡ refuse n
      → replace_lim shrinking new (r ∷ rs) es ≡ refuse n
  unfolding replace_lim
  pass_21 r rs s n es p q = rw (p, q)

  pub pass_append : (rs ss : List Pair) (es : List GEdge) → replace_lim shrinking new (rs ++ ss) es ≡ and_then (replace_lim shrinking new rs es) (λ fs. replace_lim shrinking new ss fs)
  unfolding replace_lim
  pass_append [] ss es = refl
  pass_append (r ∷ rs) ss es = go (new r.parent r.child) (λ fs. pass_append rs ss fs)
    where
      then : (a : Ans (List GEdge)) → ((fs : List GEdge) → replace_lim shrinking new (rs ++ ss) fs ≡ and_then (replace_lim shrinking new rs fs) (λ ds. replace_lim shrinking new ss ds))
          → and_then a (λ fs. replace_lim shrinking new (rs ++ ss) fs) ≡ and_then (and_then a (λ fs. replace_lim shrinking new rs fs)) (λ fs. replace_lim shrinking new ss fs)
      then (ok fs) k = k fs
      then (refuse n) k = refl

      go : (a : Ans EdgeSet) → ((fs : List GEdge) → replace_lim shrinking new (rs ++ ss) fs ≡ and_then (replace_lim shrinking new rs fs) (λ ds. replace_lim shrinking new ss ds))
          → and_then a (λ s. and_then (replace_one shrinking r.parent r.child s es) (λ fs. replace_lim shrinking new (rs ++ ss) fs))
          ≡ and_then (and_then a (λ s. and_then (replace_one shrinking r.parent r.child s es) (λ fs. replace_lim shrinking new rs fs))) (λ fs. replace_lim shrinking new ss fs)
      go (ok s) k = then (replace_one shrinking r.parent r.child s es) k
      go (refuse n) k = refl
