-- Laws of the passes of release and join.
use Rattle.std.specs.Prelude.{ℕ, ◌≤◌, ◌+◌, ◌<◌, Bool, true, ◌&&◌, not, ◌≡◌, eqb}
use Rattle.std.proofs.Common.{arith, ◌∙◌}
use Rattle.std.proofs.Math.Bool.{false, cond}
use mathlib.Core.List.{List, ◌++◌, ◌∷◌, []}
use Rattle.std.proofs.Math.Path.{refl, ap, sym, subst}
use Rattle.std.proofs.Math.Dec.{leb}
use Rattle.std.proofs.Math.ListN.{length}
use Rattle.meaning.specs.Answers.{ok, guard, Ans, refuse, and_then}
use Rattle.meaning.specs.Lists.{all, each, keep}
use Rattle.meaning.specs.References.{Edge, EdgeSet, insert, fits, too_long, offer, fitting, covered, set_ok}
use Rattle.meaning.specs.BorrowGraph.{splice, GEdge, set_at, set_to, eq_pair, Graph, held, pair_ok, well_formed, spliced, without, release, same_names, join_graphs, Name, other}
use Rattle.meaning.proofs.Laws.Base.{leb_gt, le_leb, and_l, leb_le, decide, ok_inj, guard_ok, and_then_ok, and_r, eqb_self, eqb_no, eqb_eq}
use Rattle.meaning.proofs.Laws.Call.{without_inv}
use Rattle.meaning.proofs.Laws.Graph.{wf→inv}
use Rattle.meaning.specs.Laws.Pair.{Neat}
use Rattle.meaning.proofs.Laws.Pair.{insert_all_set_ok, length_set_to, set_to_neat, pass_end, pass_append, inv_neat}
use Rattle.meaning.proofs.Laws.PairCall.{firsts_take, firsts_skip, release_new, release_pairwise, release_pairs_stay, stay_apart, join_new, join_pairwise}
use Rattle.meaning.proofs.Laws.Place.{offer_insert}
use Rattle.meaning.specs.Refinement.Pairs.{edges_at, few_edges, replace_one, Pair, replace_lim, across, or21, two_pass, firsts, pair_of, new_set, with_edges, exactly, release_pairs, join_pairs, loop_at}
use Rattle.meaning.specs.Refinement.Passes.{uncovered, splices, splice_set, join_set, children_from, parents_from, pairs_from, splice_pairs, apart}
use Rattle.meaning.proofs.Laws.Put.{set_ok_few}

-- ---- sets

-- an edge offered as the code makes it is inserted
pub offer_fitting : (s : EdgeSet) (e : Edge) → offer s (fitting e) ≡ insert s e
unfolding offer fitting
offer_fitting s e = go (leb (length e.path) 8) refl
  where
    go : (b : Bool) → leb (length e.path) 8 ≡ b → offer s (cond b (fits e) (too_long e.offset)) ≡ insert s e
    go true h = refl
    go false h = offer_insert s e (leb_gt h)

pub offer_ok : (s : EdgeSet) (e : Edge) → offer s (fits e) ≡ insert s e
unfolding offer
offer_ok s e = refl

pub fitting_short : (e : Edge) → length e.path ≤ 8 → fits e ≡ fitting e
unfolding fitting
fitting_short e h = ap (λ (b : Bool). cond b (fits e) (too_long e.offset)) (sym (le_leb h))

pub splice_strong : (e f : Edge) → e.strong ≡ true → record { strong = f.strong; path = e.path ++ f.path; offset = f.offset } ≡ splice e f
unfolding splice
splice_strong e f h = λ i. record { strong = sym h i && f.strong; path = cond (sym h i) (e.path ++ f.path) e.path; offset = f.offset }

pub splice_weak : (e f : Edge) → e.strong ≡ false → record { strong = e.strong; path = e.path; offset = f.offset } ≡ splice e f
unfolding splice
splice_weak e f h =
    λ i. record {
      strong = (h ∙ ap (λ (b : Bool). b && f.strong) (sym h)) i;
      path = cond (sym h i) (e.path ++ f.path) e.path;
      offset = f.offset;
    }

module _ (ds : List Edge) (e : Edge) (es : List Edge) where
  pub uncovered_skip : covered ds e ≡ true → uncovered ds (e ∷ es) ≡ uncovered ds es
  uncovered_skip h = ap (λ (b : Bool). cond (not b) (e ∷ uncovered ds es) (uncovered ds es)) h

  pub uncovered_take : covered ds e ≡ false → uncovered ds (e ∷ es) ≡ e ∷ uncovered ds es
  uncovered_take h = ap (λ (b : Bool). cond (not b) (e ∷ uncovered ds es) (uncovered ds es)) h

-- no set of a neat list has more than ten edges
pub neat_few : (es : List GEdge) (p c : ℕ) → Neat es → length (edges_at p c es) ≤ 10
neat_few es p c n = set_ok_few (set_at p c es) (n.sets p c)

-- each new set is well formed
pub splice_set_ok : (es : List GEdge) (n : ℕ) → Neat es → (p c : ℕ) (s : EdgeSet) → splice_set es n p c ≡ ok s → set_ok s ≡ true
unfolding splice_set
splice_set_ok es n k p c s e = insert_all_set_ok (splices (edges_at p n es) (edges_at n c es)) (set_at p c es) s e (k.sets p c)

pub join_set_ok : (es fs : List GEdge) → Neat es → (p c : ℕ) (s : EdgeSet) → join_set es fs p c ≡ ok s → set_ok s ≡ true
unfolding join_set
join_set_ok es fs k p c s e = insert_all_set_ok (uncovered (edges_at p c es) (edges_at p c fs)) (set_at p c es) s e (k.sets p c)

-- ---- passes

-- the cases of a pair
module _ (shrinking : Bool) (p c : ℕ) (s : EdgeSet) (es : List GEdge) where
  pub replace_idle : shrinking && leb (length (edges_at p c es)) (length s.edges) ≡ true → replace_one shrinking p c s es ≡ ok es
  unfolding replace_one
  replace_idle h = ap (λ (b : Bool). cond b (ok es) (few_edges (set_to p c s es))) h

  module _ (h : shrinking && leb (length (edges_at p c es)) (length s.edges) ≡ false) where
    pub replace_21 : 96 + length (edges_at p c es) < length es + length s.edges → replace_one shrinking p c s es ≡ refuse 21
    unfolding replace_one
    replace_21 l =
        let k : 96 < length (set_to p c s es) = omega (arith, l, length_set_to p c s es) in
        let z : leb (length (set_to p c s es)) 96 ≡ false = decide (leb (length (set_to p c s es)) 96) (λ t. let y : length (set_to p c s es) ≤ 96 = leb_le t in absurd (omega arith)) (λ t. t) in
        ap (λ (b : Bool). cond b (ok es) (few_edges (set_to p c s es))) h ∙ ap (λ (b : Bool). guard b 21 (ok (set_to p c s es))) z

    pub replace_fits : length es + length s.edges ≤ 96 + length (edges_at p c es) → replace_one shrinking p c s es ≡ ok (set_to p c s es)
    unfolding replace_one
    replace_fits l =
        let k : length (set_to p c s es) ≤ 96 = omega (arith, l, length_set_to p c s es) in
        ap (λ (b : Bool). cond b (ok es) (few_edges (set_to p c s es))) h ∙ ap (λ (b : Bool). guard b 21 (ok (set_to p c s es))) (le_leb k)

pub replace_one_neat : (shrinking : Bool) (p c : ℕ) (s : EdgeSet) (es fs : List GEdge) → set_ok s ≡ true → Neat es → replace_one shrinking p c s es ≡ ok fs → Neat fs
unfolding replace_one
replace_one_neat shrinking p c s es fs h n e = go (shrinking && leb (length (edges_at p c es)) (length s.edges)) e
  where
    go : (b : Bool) → cond b (ok es) (few_edges (set_to p c s es)) ≡ ok fs → Neat fs
    go true z = subst (λ (l : List GEdge). Neat l) (ok_inj z) n
    go false z = subst (λ (l : List GEdge). Neat l) (ok_inj (guard_ok (leb (length (set_to p c s es)) 96) 21 (ok (set_to p c s es)) fs z).1) (set_to_neat p c s es h n)

module _ (shrinking : Bool) (new : ℕ → ℕ → Ans EdgeSet) where
  pub pass_neat : ((p c : ℕ) (s : EdgeSet) → new p c ≡ ok s → set_ok s ≡ true) → (rs : List Pair) (es fs : List GEdge) → Neat es → replace_lim shrinking new rs es ≡ ok fs → Neat fs
  unfolding replace_lim
  pass_neat good [] es fs n e = subst (λ (l : List GEdge). Neat l) (ok_inj e) n
  pass_neat good (r ∷ rs) es fs n e =
      let y = and_then_ok (new r.parent r.child) (λ s. and_then (replace_one shrinking r.parent r.child s es) (λ ds. replace_lim shrinking new rs ds)) fs e in
      let z = and_then_ok (replace_one shrinking r.parent r.child y.0 es) (λ ds. replace_lim shrinking new rs ds) fs y.2 in
      pass_neat good rs z.0 fs (replace_one_neat shrinking r.parent r.child y.0 es z.0 (good r.parent r.child y.0 y.1) n z.1) z.2

  -- one pair
  pub pass_one : (p c : ℕ) (es : List GEdge) → replace_lim shrinking new (record { parent = p; child = c } ∷ []) es ≡ and_then (new p c) (λ s. replace_one shrinking p c s es)
  unfolding replace_lim
  pass_one p c es = go (new p c)
    where
      last : (a : Ans (List GEdge)) → and_then a (λ fs. ok fs) ≡ a
      last (ok fs) = refl
      last (refuse n) = refl

      go : (a : Ans EdgeSet) → and_then a (λ s. and_then (replace_one shrinking p c s es) (λ fs. ok fs)) ≡ and_then a (λ s. replace_one shrinking p c s es)
      go (ok s) = last (replace_one shrinking p c s es)
      go (refuse n) = refl

  -- a name's pair with itself is left out
  pub pass_cycle : (n p c : ℕ) (es : List GEdge) → p ≡ c → ok es ≡ replace_lim shrinking new (across (record { parent = p; child = n }) (record { parent = n; child = c })) es
  pass_cycle n p c es e =
      sym (ap (λ (b : Bool). replace_lim shrinking new (cond b [] (record { parent = p; child = c } ∷ [])) es) (subst (λ (m : ℕ). eqb p m ≡ true) e (eqb_self p)) ∙ pass_end shrinking new es)

  pub pass_across : (n p c : ℕ) (es : List GEdge) → (p ≡ c → ⊥) → and_then (new p c) (λ s. replace_one shrinking p c s es) ≡ replace_lim shrinking new (across (record { parent = p; child = n }) (record { parent = n; child = c })) es
  pass_across n p c es e =
      sym (ap (λ (b : Bool). replace_lim shrinking new (cond b [] (record { parent = p; child = c } ∷ [])) es) (eqb_no {m = p} {n = c} e) ∙ pass_one p c es)

  -- the first of the pairs, then the others
  pub pass_first : (rs : List Pair) (r : Pair) (ss : List Pair) (es : List GEdge) → rs ≡ r ∷ ss → replace_lim shrinking new rs es ≡ and_then (replace_lim shrinking new (r ∷ []) es) (λ fs. replace_lim shrinking new ss fs)
  pass_first rs r ss es e = ap (λ (l : List Pair). replace_lim shrinking new l es) e ∙ pass_append shrinking new (r ∷ []) ss es

  pub pass_each : (f : Pair → List Pair) (rs : List Pair) (r : Pair) (ss : List Pair) (es : List GEdge) → rs ≡ r ∷ ss
      → replace_lim shrinking new (each rs f) es ≡ and_then (replace_lim shrinking new (f r) es) (λ fs. replace_lim shrinking new (each ss f) fs)
  pass_each f rs r ss es e = ap (λ (l : List Pair). replace_lim shrinking new (each l f) es) e ∙ pass_append shrinking new (f r) (each ss f) es

  -- another way to make the sets of the pairs
  pub pass_same : (old : ℕ → ℕ → Ans EdgeSet) (ok? : ℕ → ℕ → Bool) → ((p c : ℕ) → ok? p c ≡ true → new p c ≡ old p c)
      → (rs : List Pair) (es : List GEdge) → all (λ r. ok? r.parent r.child) rs ≡ true → replace_lim shrinking new rs es ≡ replace_lim shrinking old rs es
  unfolding replace_lim
  pass_same old ok? h [] es k = refl
  pass_same old ok? h (r ∷ rs) es k =
      ap (λ (a : Ans EdgeSet). and_then a (λ s. and_then (replace_one shrinking r.parent r.child s es) (λ fs. replace_lim shrinking new rs fs))) (h r.parent r.child (and_l (ok? r.parent r.child) (all (λ q. ok? q.parent q.child) rs) k))
      ∙ go (old r.parent r.child) (λ fs. pass_same old ok? h rs fs (and_r (ok? r.parent r.child) (all (λ q. ok? q.parent q.child) rs) k))
    where
      after : (b : Ans (List GEdge)) → ((fs : List GEdge) → replace_lim shrinking new rs fs ≡ replace_lim shrinking old rs fs)
          → and_then b (λ fs. replace_lim shrinking new rs fs) ≡ and_then b (λ fs. replace_lim shrinking old rs fs)
      after (ok fs) z = z fs
      after (refuse n) z = refl

      go : (a : Ans EdgeSet) → ((fs : List GEdge) → replace_lim shrinking new rs fs ≡ replace_lim shrinking old rs fs)
          → and_then a (λ s. and_then (replace_one shrinking r.parent r.child s es) (λ fs. replace_lim shrinking new rs fs))
          ≡ and_then a (λ s. and_then (replace_one shrinking r.parent r.child s es) (λ fs. replace_lim shrinking old rs fs))
      go (ok s) z = after (replace_one shrinking r.parent r.child s es) z
      go (refuse n) z = refl

-- the second pass, where the first ends with 21
pub pass_again : (new : ℕ → ℕ → Ans EdgeSet) (rs : List Pair) (es : List GEdge) → replace_lim false new rs es ≡ refuse 21
    → and_then (replace_lim true new rs es) (λ fs. replace_lim false new rs fs) ≡ two_pass new rs es
unfolding two_pass
pass_again new rs es h = ap (λ (a : Ans (List GEdge)). or21 a (and_then (replace_lim true new rs es) (λ fs. replace_lim false new rs fs))) (sym h)

-- ---- the pairs, edge by edge

fresh_pair : (a b : Bool) → a && not b ≡ true → a && not (a && b) ≡ true
fresh_pair true b h = h
fresh_pair false b h = h

old_pair : (a b : Bool) → a && not b ≡ false → a && not (a && b) ≡ false
old_pair true b h = h
old_pair false b h = refl

fresh_pair_r : (a b : Bool) → a && not b ≡ true → a && not (b && a) ≡ true
fresh_pair_r true true h = h
fresh_pair_r true false h = refl
fresh_pair_r false b h = h

old_pair_r : (a b : Bool) → a && not b ≡ false → a && not (b && a) ≡ false
old_pair_r true true h = refl
old_pair_r true false h = h
old_pair_r false b h = refl

module _ (n last : ℕ) (y : GEdge) (ys : List GEdge) where
  pub children_take : eqb n y.parent && not (eqb last y.child) ≡ true → children_from n last (y ∷ ys) ≡ record { parent = n; child = y.child } ∷ children_from n y.child ys
  children_take h =
      let e : y.parent ≡ n = sym (eqb_eq (and_l (eqb n y.parent) (not (eqb last y.child)) h)) in
      firsts_take (λ z. eqb n z.parent) (record { parent = n; child = last }) y ys (fresh_pair (eqb n y.parent) (eqb last y.child) h)
      ∙ ap (λ (m : ℕ). record { parent = m; child = y.child } ∷ firsts (λ z. eqb n z.parent) (record { parent = m; child = y.child }) ys) e

  pub children_skip : eqb n y.parent && not (eqb last y.child) ≡ false → children_from n last (y ∷ ys) ≡ children_from n last ys
  children_skip h = firsts_skip (λ z. eqb n z.parent) (record { parent = n; child = last }) y ys (old_pair (eqb n y.parent) (eqb last y.child) h)

  pub parents_take : eqb n y.child && not (eqb last y.parent) ≡ true → parents_from n last (y ∷ ys) ≡ record { parent = y.parent; child = n } ∷ parents_from n y.parent ys
  parents_take h =
      let e : y.child ≡ n = sym (eqb_eq (and_l (eqb n y.child) (not (eqb last y.parent)) h)) in
      firsts_take (λ z. eqb n z.child) (record { parent = last; child = n }) y ys (fresh_pair_r (eqb n y.child) (eqb last y.parent) h)
      ∙ ap (λ (m : ℕ). record { parent = y.parent; child = m } ∷ firsts (λ z. eqb n z.child) (record { parent = y.parent; child = m }) ys) e

  pub parents_skip : eqb n y.child && not (eqb last y.parent) ≡ false → parents_from n last (y ∷ ys) ≡ parents_from n last ys
  parents_skip h = firsts_skip (λ z. eqb n z.child) (record { parent = last; child = n }) y ys (old_pair_r (eqb n y.child) (eqb last y.parent) h)

module _ (r : Pair) (y : GEdge) (ys : List GEdge) where
  pub pairs_take : not (eq_pair r.parent r.child y.parent y.child) ≡ true → pairs_from r (y ∷ ys) ≡ pair_of y ∷ pairs_from (pair_of y) ys
  pairs_take h = firsts_take (λ x. true) r y ys h

  pub pairs_skip : not (eq_pair r.parent r.child y.parent y.child) ≡ false → pairs_from r (y ∷ ys) ≡ pairs_from r ys
  pairs_skip h = firsts_skip (λ x. true) r y ys h

-- ---- release and join by these passes

pub release_passes : (g : Graph) (n : ℕ) → release g n ≡ guard (well_formed g && held g n) 9 (with_edges (without g n) (two_pass (splice_set g.edges n) (splice_pairs g.edges n) (without g n).edges))
unfolding exactly two_pass release_pairs splice_pairs splice_set
release_passes g n = release_pairwise g n ∙ go (well_formed g && held g n) refl
  where
    go : (b : Bool) → well_formed g && held g n ≡ b
        → guard b 9 (exactly (without g n) (spliced g n) (release_pairs g n)) ≡ guard b 9 (with_edges (without g n) (two_pass (splice_set g.edges n) (splice_pairs g.edges n) (without g n).edges))
    go false e = refl
    go true e =
        let v = wf→inv g (and_l (well_formed g) (held g n) e) in
        let same : (sh : Bool) (es : List GEdge) → replace_lim sh (new_set (without g n) (spliced g n)) (release_pairs g n) es ≡ replace_lim sh (splice_set g.edges n) (release_pairs g n) es =
        λ sh es. pass_same sh (new_set (without g n) (spliced g n)) (splice_set g.edges n) (pair_ok (without g n).names)
        (λ p c h. let a = stay_apart g n p c h in release_new g n p c v a.0 a.1 a.2) (release_pairs g n) es (release_pairs_stay g n v) in
        ap (λ (f : Bool → List GEdge → Ans (List GEdge)). with_edges (without g n) (or21 (f false (without g n).edges) (and_then (f true (without g n).edges) (λ fs. f false fs)))) (λ i sh es. same sh es i)

pub join_passes : (g h : Graph) → join_graphs g h ≡ guard ((well_formed g && well_formed h) && same_names g h) 9 (with_edges g (two_pass (join_set g.edges h.edges) (join_pairs h) g.edges))
unfolding exactly join_set
join_passes g h =
    join_pairwise g h
    ∙ ap (λ (new : ℕ → ℕ → Ans EdgeSet). guard ((well_formed g && well_formed h) && same_names g h) 9 (with_edges g (two_pass new (join_pairs h) g.edges))) (λ i p c. join_new g h p c i)

-- ---- their cases

module _ (g : Graph) (n : ℕ) where
  pub release_9 : well_formed g && held g n ≡ false → release g n ≡ refuse 9
  release_9 h = release_passes g n ∙ ap (λ (b : Bool). guard b 9 (with_edges (without g n) (two_pass (splice_set g.edges n) (splice_pairs g.edges n) (without g n).edges))) h

  -- by what the code has computed: the edges without n, the answer of the passes, the names without n
  pub release_when : well_formed g && held g n ≡ true → (es : List GEdge) → es ≡ keep (apart n) g.edges → (a : Ans (List GEdge)) → a ≡ two_pass (splice_set g.edges n) (splice_pairs g.edges n) es
      → (ns : List Name) → ns ≡ keep (other n) g.names → release g n ≡ and_then a (λ fs. ok (record { names = ns; edges = fs }))
  unfolding without
  release_when h es e a q ns d =
      release_passes g n ∙ ap (λ (b : Bool). guard b 9 (with_edges (without g n) (two_pass (splice_set g.edges n) (splice_pairs g.edges n) (without g n).edges))) h
      ∙ sym ((λ i. and_then (q i) (λ fs. ok (record { names = d i; edges = fs }))) ∙ ap (λ (l : List GEdge). with_edges (without g n) (two_pass (splice_set g.edges n) (splice_pairs g.edges n) l)) e)

  pub without_neat : well_formed g ≡ true → (es : List GEdge) → es ≡ keep (apart n) g.edges → Neat es
  unfolding without
  without_neat w es e = subst (λ (l : List GEdge). Neat l) (sym e) (inv_neat (without g n) (without_inv g n (wf→inv g w)))

module _ (g h : Graph) where
  pub join_9 : (well_formed g && well_formed h) && same_names g h ≡ false → join_graphs g h ≡ refuse 9
  join_9 e = join_passes g h ∙ ap (λ (b : Bool). guard b 9 (with_edges g (two_pass (join_set g.edges h.edges) (join_pairs h) g.edges))) e

  pub join_when : (well_formed g && well_formed h) && same_names g h ≡ true → (a : Ans (List GEdge)) → a ≡ two_pass (join_set g.edges h.edges) (pairs_from (loop_at 0) h.edges) g.edges
      → join_graphs g h ≡ and_then a (λ fs. ok (record { names = g.names; edges = fs }))
  unfolding join_pairs
  join_when e a q =
      join_passes g h ∙ ap (λ (b : Bool). guard b 9 (with_edges g (two_pass (join_set g.edges h.edges) (join_pairs h) g.edges))) e ∙ ap (λ (z : Ans (List GEdge)). with_edges g z) (sym q)

  pub join_neat : (well_formed g && well_formed h) && same_names g h ≡ true → Neat g.edges × Neat h.edges
  join_neat e =
      let w : well_formed g && well_formed h ≡ true = and_l (well_formed g && well_formed h) (same_names g h) e in
      (inv_neat g (wf→inv g (and_l (well_formed g) (well_formed h) w)), inv_neat h (wf→inv h (and_r (well_formed g) (well_formed h) w)))

-- a well-formed graph's edges
pub wf_neat : (g : Graph) → well_formed g ≡ true → Neat g.edges
wf_neat g w = inv_neat g (wf→inv g w)
