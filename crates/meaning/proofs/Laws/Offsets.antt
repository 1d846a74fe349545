-- A9: what ignores the offsets, and which offset an edge has that a graph call makes or keeps.
use Rattle.std.specs.Prelude.{ℕ, suc, ◌+◌, min, Bool, true, false, ◌&&◌, ◌||◌, List, [], ◌∷◌, ◌≡◌, refl, eqb, leb, length, get_or}
use Rattle.std.proofs.Math.Bool.{cond}
use Rattle.std.proofs.Common.{sym, ap, subst, ◌∙◌}
use Rattle.std.proofs.lemmas.List.{length-map}
use Rattle.meaning.specs.Limits.{max_set_size}
use Rattle.meaning.specs.Answers.{ok, refuse, and_then}
use Rattle.meaning.specs.Lists.{any, all, sum}
use Rattle.meaning.specs.References.{Edge, EdgeSet, eq_edge, lt_edge, covers, has, put, short, blur, insert}
use Rattle.meaning.specs.BorrowGraph.{Graph, GEdge, held, set_at, splice, shift, well_formed, same_names, unmatched, add_all, limit, join_graphs}
use Rattle.meaning.specs.AbstractState.{State, absent, changed}
use Rattle.meaning.proofs.Laws.Base.{and_i, or_l, or_r, eqb_self, and_then_ok, guard_ok, ok_inj, refuse≢ok, all_imp}
use Rattle.meaning.proofs.Laws.Set.{eq_edge_self, any_put, set_rank}
use Rattle.meaning.specs.Laws.Graph.{insert_all}
use Rattle.meaning.proofs.Laws.Graph.{add_all_at, limit_ok}
use Rattle.meaning.proofs.Laws.State.{local_rank, pair_rank, rank}
use Rattle.meaning.proofs.Laws.Redate.{redate_edge, redate_set, redate_graph, redate_state, eq_edge_redate, lt_edge_redate, covers_redate, set_at_redate, well_formed_redate, changed_redate}

-- ---- what ignores the offsets

-- what is left without them
abbrev pub undated_edge : Edge → Edge
undated_edge e = redate_edge (λ o. 0) e

abbrev pub undated_graph : Graph → Graph
undated_graph g = redate_graph (λ o. 0) g

abbrev pub undated_state : State → State
undated_state s = redate_state (λ o. 0) s

-- "Equality, order and covering ignore it", and so do well-formedness, the rank of a state and what a join changed: each asks only what is left.
pub record Ignored : Type 0 where
  pub equality : (d e : Edge) → eq_edge (undated_edge d) (undated_edge e) ≡ eq_edge d e
  pub order : (d e : Edge) → lt_edge (undated_edge d) (undated_edge e) ≡ lt_edge d e
  pub covering : (d e : Edge) → covers (undated_edge d) (undated_edge e) ≡ covers d e
  pub formed : (g : Graph) → well_formed (undated_graph g) ≡ well_formed g
  pub ranked : (l : ℕ) (s : State) → rank l (undated_state s) ≡ rank l s
  pub change : (s t : State) → changed (undated_state s) (undated_state t) ≡ changed s t

module _ (f : ℕ → ℕ) where
  set_rank_redate : (s : EdgeSet) → set_rank (redate_set f s) ≡ set_rank s
  unfolding set_rank
  set_rank_redate s = λ i. cond s.blurred 11 (min 10 (length-map s.edges (redate_edge f) i))

  pair_rank_redate : (g : Graph) (p c : ℕ) → pair_rank (redate_graph f g) p c ≡ pair_rank g p c
  unfolding pair_rank
  pair_rank_redate g p c =
      λ i. cond (eqb p c) 0 (cond (held g p && held g c) ((ap set_rank (set_at_redate f p c g.edges) ∙ set_rank_redate (set_at p c g.edges)) i) 11)

  rank_redate : (l : ℕ) (s : State) → rank l (redate_state f s) ≡ rank l s
  unfolding rank
  rank_redate l s = λ i. sum l (λ c. sum (suc l) (λ p. pair_rank_redate s.graph p c i)) + sum l (λ j. local_rank (get_or s.locals j absent))

pub ignored : Ignored
ignored = record {
  equality = eq_edge_redate (λ o. 0);
  order = lt_edge_redate (λ o. 0);
  covering = covers_redate (λ o. 0);
  formed = well_formed_redate (λ o. 0);
  ranked = rank_redate (λ o. 0);
  change = changed_redate (λ o. 0);
}

-- ---- one edge

-- "Factored edges retain theirs"
pub shift_retains : (c : ℕ) (path : List ℕ) (x : GEdge) → (shift c path x).edge.offset ≡ x.edge.offset
shift_retains c path x = refl

-- "a spliced edge takes the child edge's"
pub splice_takes : (e f : Edge) → (splice e f).offset ≡ f.offset
unfolding splice
splice_takes e f = refl

-- ---- one insert

-- "an equal edge already in a set retains its own": the set is as it was
pub insert_retains : (s : EdgeSet) (e : Edge) → has e s.edges ≡ true → short e ≡ true → leb max_set_size (length s.edges) ≡ false
    → insert s e ≡ ok s
unfolding insert short
insert_retains s e h k l = rw (l, k, h) (go s.blurred)
  where
    go : (b : Bool) → cond b (ok s) (ok s) ≡ ok s
    go true = refl
    go false = refl

-- "a blurred set ignores inserts"
pub insert_ignores : (s : EdgeSet) (e : Edge) → s.blurred ≡ true → insert s e ≡ ok s
unfolding insert
insert_ignores s e h = rw h

-- "a blurred edge takes that of the edge whose insert blurred it"
pub insert_blurs : (s : EdgeSet) (e : Edge) → s.blurred ≡ false → leb max_set_size (length s.edges) ≡ true → insert s e ≡ ok (blur e.offset)
unfolding insert
insert_blurs s e h l = rw (h, l)

-- ---- edges put into a set, and a join

-- the same edge, with the same offset
abbrev pub same : Edge → Edge → Bool
same e f = eq_edge e f && eqb e.offset f.offset

abbrev pub among : Edge → List Edge → Bool
among e es = any (same e) es

-- Where the edges es were put into s: every edge of t is one of s or of es, or t is blurred by one of es and has its offset.
pub data Puts (s : EdgeSet) (es : List Edge) (t : EdgeSet) : Type 0 where
  kept : t.blurred ≡ s.blurred → all (λ e. among e s.edges || among e es) t.edges ≡ true → Puts s es t
  blurred_by : (o : ℕ) → any (λ e. eqb o e.offset) es ≡ true → t ≡ blur o → Puts s es t

same_self : (e : Edge) → same e e ≡ true
same_self e = and_i (eq_edge_self e) (eqb_self e.offset)

-- each of them is among them, whatever else is tested
all_among : (q : Edge → Bool) (es : List Edge) → all (λ e. among e es || q e) es ≡ true
all_among q es = all_imp _ _ (λ e h. or_l (q e) h) es (go (λ e. false) es)
  where
    go : (r : Edge → Bool) (xs : List Edge) → all (λ e. r e || among e xs) xs ≡ true
    go r [] = refl
    go r (x ∷ xs) =
        and_i (or_r (r x) (or_l _ (same_self x))) (all_imp _ _ (λ e h. next (r e) (same e x) (among e xs) h) xs (go (λ e. r e || same e x) xs))
      where
        next : (a b c : Bool) → (a || b) || c ≡ true → a || (b || c) ≡ true
        next true b c h = refl
        next false b c h = h

-- a blurred set stays as it is
stays : (es : List Edge) (s t : EdgeSet) → s.blurred ≡ true → insert_all es s ≡ ok t → s ≡ t
unfolding insert_all
stays [] s t b h = ok_inj h
stays (e ∷ es) s t b h = stays es s t b (rw (insert_ignores s e b) at h)

pub insert_all_puts : (es : List Edge) (s t : EdgeSet) → insert_all es s ≡ ok t → Puts s es t
unfolding insert_all insert short
insert_all_puts [] s t h = subst (Puts s []) (ok_inj h) (kept refl (all_among (λ e. false) s.edges))
insert_all_puts (e ∷ es) s t h =
    let z = and_then_ok (insert s e) (λ u. insert_all es u) t h in
    by z.0 s.blurred (leb max_set_size (length s.edges)) (short e) (has e s.edges) refl (λ u k. insert_all_puts es u t k) z.2 z.1
  where
    more : Puts s es t → Puts s (e ∷ es) t
    more (kept b a) = kept b (all_imp _ _ (λ y k. wider (among y s.edges) (same y e) (among y es) k) t.edges a)
      where
        wider : (a b c : Bool) → a || c ≡ true → a || (b || c) ≡ true
        wider true b c k = refl
        wider false b c k = or_r b k
    more (blurred_by o a q) = blurred_by o (or_r (eqb o e.offset) a) q

    added : (u : EdgeSet) → record { edges = put e s.edges; blurred = false } ≡ u → s.blurred ≡ false → Puts u es t → Puts s (e ∷ es) t
    added u w f (kept b a) =
        kept (b ∙ ap (λ (x : EdgeSet). x.blurred) (sym w) ∙ sym f)
        (all_imp _ _ (λ y k. turned (same y e) (among y s.edges) (among y es) (rw (← w, any_put (same y) e s.edges) at k)) t.edges a)
      where
        turned : (a b c : Bool) → (a || b) || c ≡ true → b || (a || c) ≡ true
        turned true b c k = or_r b refl
        turned false b c k = k
    added u w f (blurred_by o a q) = blurred_by o (or_r (eqb o e.offset) a) q

    by : (u : EdgeSet) (b c d f : Bool) → s.blurred ≡ b → ((v : EdgeSet) → insert_all es v ≡ ok t → Puts v es t) → insert_all es u ≡ ok t
        → cond b (ok s) (cond c (ok (blur e.offset)) (cond d (cond f (ok s) (ok (record { edges = put e s.edges; blurred = false }))) (refuse 22)))
        ≡ ok u
        → Puts s (e ∷ es) t
    by u true c d f k r m q = more (subst (λ (v : EdgeSet). Puts v es t) (sym (ok_inj q)) (r u m))
    by u false true d f k r m q =
        blurred_by e.offset (or_l _ (eqb_self e.offset)) (sym (stays es (blur e.offset) t refl (rw (← (ok_inj q)) at m)))
    by u false false true true k r m q = more (subst (λ (v : EdgeSet). Puts v es t) (sym (ok_inj q)) (r u m))
    by u false false true false k r m q = added u (ok_inj q) k (r u m)
    by u false false false f k r m q = absurd (refuse≢ok q)

-- "A join's edge that is put in keeps the one it has in the state handed in": between any two names, each edge of the answer is one of ours, or one
-- that is put in of the other's, or the blurred one with the offset of such an edge.
pub join_keeps : (g h k : Graph) → join_graphs g h ≡ ok k → (p c : ℕ)
    → Puts (set_at p c g.edges) (set_at p c (unmatched g h)).edges (set_at p c k.edges)
unfolding join_graphs
join_keeps g h k e p c =
    let a = guard_ok ((well_formed g && well_formed h) && same_names g h) 9 (and_then (add_all (unmatched g h) g) limit) k e in
    let z = and_then_ok (add_all (unmatched g h) g) limit k a.1 in
    insert_all_puts (set_at p c (unmatched g h)).edges (set_at p c g.edges) (set_at p c k.edges)
    (add_all_at p c (unmatched g h) g k (subst (λ (x : Graph). add_all (unmatched g h) g ≡ ok x) (limit_ok z.0 k z.2).0 z.1))
