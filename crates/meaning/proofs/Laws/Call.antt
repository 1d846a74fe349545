-- Laws of the two graph calls of a join: release, and the join of graphs.
use Rattle.std.specs.Prelude.{ℕ, suc, ◌≤◌, Bool, true, false, not, cond, ◌&&◌, ◌⊎◌, ◌≡◌, refl, eqb, ltb, leb, length}
use Rattle.std.proofs.Common.{zero-le, arith, inl, inr, sym, subst, ap, ◌∙◌}
use Rattle.std.proofs.lemmas.Bool.{false≢true}
use mathlib.Core.List.{List, [], ◌∷◌, cons≢nil}
use Rattle.meaning.specs.Answers.{ok, and_then}
use Rattle.meaning.specs.Lists.{all, keep, each}
use Rattle.meaning.specs.References.{set_ok, Edge, EdgeSet, empty_set, covers, covered}
use Rattle.meaning.specs.BorrowGraph.{Name, holds, other, ascending, Graph, set_at, without, GEdge, pair_ok, on_pairs, splice, between, spliced, held, well_formed, add_all, limit, release, union, one, eq_pair, unmatched, same_names, join_graphs}
use Rattle.meaning.proofs.Laws.Base.{and_l, and_r, or_cases, eqb_eq, both, or_l, or_r, not_true, keep_passes, and_i, all_keep, decide, all_imp, all_and, all_each, all_yes, eqb_no, eqb_ne, and_then_ok, guard_ok}
use Rattle.meaning.proofs.Laws.Graph.{set_at_keep_all, at_pair, set_at_keep_none, empty_ok, Inv, in_order_keep, at_or_empty, Grows, inv→wf, add_all_grows, add_all_names, add_all_pairs, add_all_inv, wf→inv, limit_ok, eq_pair_l, eq_pair_r, add_all_covers, add_all_news, add_all_none}
use Rattle.meaning.proofs.Laws.Set.{covers_self}

-- ---- names

-- a test that all the names of a list pass is passed by each number that it holds
pub holds_all : (f : ℕ → Bool) (ns : List Name) (n : ℕ) → holds ns n ≡ true → all (λ m. f m.id) ns ≡ true → f n ≡ true
unfolding holds
holds_all f [] n h k = absurd (false≢true h)
holds_all f (m ∷ ns) n h k = go (or_cases (eqb n m.id) (holds ns n) h) (λ p. holds_all f ns n p (and_r (f m.id) (all (λ j. f j.id) ns) k))
  where
    go : (eqb n m.id ≡ true) ⊎ (holds ns n ≡ true) → (holds ns n ≡ true → f n ≡ true) → f n ≡ true
    go (inl e) r = subst (λ (j : ℕ). f j ≡ true) (sym (eqb_eq e)) (and_l (f m.id) (all (λ j. f j.id) ns) k)
    go (inr p) r = r p

pub holds_keep : (n k : ℕ) (ns : List Name) → eqb n k ≡ false → holds ns k ≡ true → holds (keep (other n) ns) k ≡ true
unfolding holds
holds_keep n k [] d h = h
holds_keep n k (m ∷ ns) d h = go (other n m) refl (or_cases (eqb k m.id) (holds ns k) h) (holds_keep n k ns d)
  where
    go : (b : Bool) → other n m ≡ b → (eqb k m.id ≡ true) ⊎ (holds ns k ≡ true) → (holds ns k ≡ true → holds (keep (other n) ns) k ≡ true)
        → holds (cond b (m ∷ keep (other n) ns) (keep (other n) ns)) k ≡ true
    go true e (inl p) r = or_l (holds (keep (other n) ns) k) p
    go true e (inr p) r = or_r (eqb k m.id) (r p)
    go false e (inl p) r = absurd (both (subst (λ (j : ℕ). other n m ≡ not (eqb n j)) (sym (eqb_eq p)) refl ∙ ap not d) e)
    go false e (inr p) r = r p

keep_holds : (n k : ℕ) (ns : List Name) → holds (keep (other n) ns) k ≡ true → holds ns k ≡ true
unfolding holds
keep_holds n k [] h = h
keep_holds n k (m ∷ ns) h = go (other n m) h (keep_holds n k ns)
  where
    go : (b : Bool) → holds (cond b (m ∷ keep (other n) ns) (keep (other n) ns)) k ≡ true → (holds (keep (other n) ns) k ≡ true → holds ns k ≡ true) → holds (m ∷ ns) k ≡ true
    go true p r = step (or_cases (eqb k m.id) (holds (keep (other n) ns) k) p)
      where
        step : (eqb k m.id ≡ true) ⊎ (holds (keep (other n) ns) k ≡ true) → holds (m ∷ ns) k ≡ true
        step (inl q) = or_l (holds ns k) q
        step (inr q) = or_r (eqb k m.id) (r q)
    go false p r = or_r (eqb k m.id) (r p)

keep_not_held : (n k : ℕ) (ns : List Name) → holds (keep (other n) ns) k ≡ true → eqb n k ≡ false
keep_not_held n k ns h = not_true (holds_all (λ j. not (eqb n j)) (keep (other n) ns) k h (keep_passes (other n) ns))

length_keep : (q : Name → Bool) (ns : List Name) → length (keep q ns) ≤ length ns
length_keep q [] = zero-le
length_keep q (m ∷ ns) = go (q m) (length_keep q ns)
  where
    go : (b : Bool) → length (keep q ns) ≤ length ns → length (cond b (m ∷ keep q ns) (keep q ns)) ≤ suc (length ns)
    go true h = omega arith
    go false h = omega arith

pub ascending_keep : (q : Name → Bool) (ns : List Name) → ascending ns ≡ true → ascending (keep q ns) ≡ true
unfolding ascending
ascending_keep q [] h = refl
ascending_keep q (m ∷ ns) h =
    let f : Name → Bool = λ j. ltb m.id j.id in
    let a : Bool = ltb m.id 65536 in
    let h1 : a && all f ns ≡ true = and_l (a && all f ns) (ascending ns) h in
    go (q m) (ascending_keep q ns (and_r (a && all f ns) (ascending ns) h)) (and_i (and_l a (all f ns) h1) (all_keep f q ns (and_r a (all f ns) h1)))
  where
    go : (b : Bool) → ascending (keep q ns) ≡ true → ltb m.id 65536 && all (λ j. ltb m.id j.id) (keep q ns) ≡ true → ascending (cond b (m ∷ keep q ns) (keep q ns)) ≡ true
    go true r k = and_i k r
    go false r k = r

-- ---- a graph without a name

pub without_set : (g : Graph) (n p c : ℕ) → eqb n p ≡ false → eqb n c ≡ false → set_at p c (without g n).edges ≡ set_at p c g.edges
unfolding without
without_set g n p c hp hc =
    set_at_keep_all p c (λ x. not (eqb n x.parent) && not (eqb n x.child))
    (at_pair (λ q d. not (eqb n q) && not (eqb n d)) true p c (and_i (ap not hp) (ap not hc))) g.edges

pub without_inv : (g : Graph) (n : ℕ) → Inv g → Inv (without g n)
unfolding without
without_inv g n v =
    let q : GEdge → Bool = λ x. not (eqb n x.parent) && not (eqb n x.child) in
    record {
      few = let l : length (keep (other n) g.names) ≤ length g.names = length_keep (other n) g.names in
          let f : length g.names ≤ 48 = v.few in
          omega arith;
      asc = ascending_keep (other n) g.names v.asc;
      pairs = all_imp (λ x. pair_ok g.names x.parent x.child && q x) (λ x. pair_ok (keep (other n) g.names) x.parent x.child)
          (λ x h. still x.parent x.child (and_l (pair_ok g.names x.parent x.child) (q x) h) (and_r (pair_ok g.names x.parent x.child) (q x) h))
          (keep q g.edges)
          (all_and (λ x. pair_ok g.names x.parent x.child) q (keep q g.edges) (all_keep (λ x. pair_ok g.names x.parent x.child) q g.edges v.pairs) (keep_passes q g.edges));
      sets = λ p c. decide (not (eqb n p) && not (eqb n c))
          (λ e. ap set_ok (without_set g n p c (not_true (and_l (not (eqb n p)) (not (eqb n c)) e)) (not_true (and_r (not (eqb n p)) (not (eqb n c)) e))) ∙ v.sets p c)
          (λ e. ap set_ok (set_at_keep_none p c q (at_pair (λ a b. not (eqb n a) && not (eqb n b)) false p c e) g.edges) ∙ empty_ok);
      order = in_order_keep q g.edges v.order;
    }
  where
    still : (p c : ℕ) → pair_ok g.names p c ≡ true → not (eqb n p) && not (eqb n c) ≡ true → pair_ok (keep (other n) g.names) p c ≡ true
    still p c h k =
        let hp : holds g.names p ≡ true = and_l (holds g.names p) (holds g.names c && not (eqb p c)) h in
        let h2 : holds g.names c && not (eqb p c) ≡ true = and_r (holds g.names p) (holds g.names c && not (eqb p c)) h in
        and_i (holds_keep n p g.names (not_true (and_l (not (eqb n p)) (not (eqb n c)) k)) hp)
        (and_i (holds_keep n c g.names (not_true (and_r (not (eqb n p)) (not (eqb n c)) k)) (and_l (holds g.names c) (not (eqb p c)) h2))
        (and_r (holds g.names c) (not (eqb p c)) h2))

-- ---- the spliced edges

-- A test of the ends is passed by all spliced edges, if it follows from tests that the graph's edges pass.
spliced_pairs : (g : Graph) (n : ℕ) (f a b : ℕ → ℕ → Bool) → on_pairs a g.edges ≡ true → on_pairs b g.edges ≡ true
    → ((p c : ℕ) → a p n ≡ true → b n c ≡ true → eqb p c ≡ false → f p c ≡ true) → on_pairs f (spliced g n) ≡ true
unfolding spliced
spliced_pairs g n f a b ha hb k =
    all_each (λ p. true) t
    (λ p. each (set_at p.id n g.edges).edges (λ e. each g.names (λ c. last p e c)))
    (λ p y. for_parent p (at_or_empty a p.id n g.edges ha)) g.names (all_yes g.names)
  where
    t : GEdge → Bool
    t x = f x.parent x.child

    last : Name → Edge → Name → List GEdge
    last p e c = each (set_at n c.id g.edges).edges (λ h. cond (eqb p.id c.id) [] (between p.id (splice e h) c.id ∷ []))

    single : (p c : Name) (x : Edge) (d : Bool) → (d ≡ false → f p.id c.id ≡ true) → all t (cond d [] (between p.id x c.id ∷ [])) ≡ true
    single p c x true h = refl
    single p c x false h = and_i (h refl) refl

    for_child : (p c : Name) (e : Edge) → a p.id n ≡ true → (b n c.id ≡ true) ⊎ (set_at n c.id g.edges ≡ empty_set) → all t (last p e c) ≡ true
    for_child p c e ep (inl ec) =
        all_each (λ h. true) t (λ h. cond (eqb p.id c.id) [] (between p.id (splice e h) c.id ∷ []))
        (λ h y. single p c (splice e h) (eqb p.id c.id) (k p.id c.id ep ec)) (set_at n c.id g.edges).edges (all_yes (set_at n c.id g.edges).edges)
    for_child p c e ep (inr z) = ap (λ (s : EdgeSet). all t (each s.edges (λ h. cond (eqb p.id c.id) [] (between p.id (splice e h) c.id ∷ [])))) z

    for_parent : (p : Name) → (a p.id n ≡ true) ⊎ (set_at p.id n g.edges ≡ empty_set)
        → all t (each (set_at p.id n g.edges).edges (λ e. each g.names (λ c. last p e c))) ≡ true
    for_parent p (inl ep) =
        all_each (λ e. true) t (λ e. each g.names (λ c. last p e c))
        (λ e y. all_each (λ c. true) t (λ c. last p e c) (λ c y2. for_child p c e ep (at_or_empty b n c.id g.edges hb)) g.names (all_yes g.names))
        (set_at p.id n g.edges).edges (all_yes (set_at p.id n g.edges).edges)
    for_parent p (inr z) = ap (λ (s : EdgeSet). all t (each s.edges (λ e. each g.names (λ c. last p e c)))) z

-- ---- release

abbrev pub ends_not : ℕ → ℕ → ℕ → Bool
ends_not root p c = not (eqb c root)

pub record Released (g : Graph) (n : ℕ) (h : Graph) : Type 0 where
  pub was : held g n ≡ true
  pub formed : well_formed h ≡ true
  pub fewer : (k : ℕ) → held h k ≡ true → held g k ≡ true
  pub gone : held h n ≡ true → ⊥
  pub rest : (k : ℕ) → held g k ≡ true → (held h k ≡ true) ⊎ (k ≡ n)
  pub grows : (p c : ℕ) → held h p ≡ true → held h c ≡ true → Grows (set_at p c g.edges) (set_at p c h.edges)
  pub no_end : (root : ℕ) → on_pairs (ends_not root) g.edges ≡ true → on_pairs (ends_not root) h.edges ≡ true

eqb_turn : (m n : ℕ) → eqb m n ≡ false → eqb n m ≡ false
eqb_turn m n e = eqb_no {m = n} {n = m} (λ q. eqb_ne {m = m} {n = n} e (sym q))

released_from : (g : Graph) (n : ℕ) (h : Graph) → Inv g → held g n ≡ true → add_all (spliced g n) (without g n) ≡ ok h → leb (length h.edges) 96 ≡ true → Released g n h
unfolding without
released_from g n h v w e l =
    let nm : h.names ≡ keep (other n) g.names = add_all_names (spliced g n) (without g n) h e in
    let wv : Inv (without g n) = without_inv g n v in
    let down : (k : ℕ) → held h k ≡ true → holds (keep (other n) g.names) k ≡ true = λ k q. subst (λ (ns : List Name). holds ns k ≡ true) nm q in
    record {
      was = w;
      formed = inv→wf h (add_all_inv (spliced g n) (without g n) h e wv (spliced_pairs g n (pair_ok (keep (other n) g.names)) (pair_ok g.names) (pair_ok g.names) v.pairs v.pairs ends)) l;
      fewer = λ k q. keep_holds n k g.names (down k q);
      gone = λ q. eqb_ne {m = n} (keep_not_held n n g.names (down n q)) refl;
      rest = λ k q. decide (eqb n k) (λ z. inr (sym (eqb_eq z))) (λ z. inl (subst (λ (ns : List Name). holds ns k ≡ true) (sym nm) (holds_keep n k g.names z q)));
      grows = λ p c hp hc.
          subst (λ (s : EdgeSet). Grows s (set_at p c h.edges)) (without_set g n p c (keep_not_held n p g.names (down p hp)) (keep_not_held n c g.names (down c hc)))
          (add_all_grows (spliced g n) (without g n) h e p c);
      no_end = λ root r.
          add_all_pairs (ends_not root) (spliced g n) (without g n) h e
          (all_keep (λ x. ends_not root x.parent x.child) (λ x. not (eqb n x.parent) && not (eqb n x.child)) g.edges r)
          (spliced_pairs g n (ends_not root) (λ p c. true) (ends_not root) (all_yes g.edges) r (λ p c y z d. z));
    }
  where
    ends : (p c : ℕ) → pair_ok g.names p n ≡ true → pair_ok g.names n c ≡ true → eqb p c ≡ false → pair_ok (keep (other n) g.names) p c ≡ true
    ends p c hp hc d =
        let hp1 : holds g.names p ≡ true = and_l (holds g.names p) (holds g.names n && not (eqb p n)) hp in
        let hp2 : not (eqb p n) ≡ true = and_r (holds g.names n) (not (eqb p n)) (and_r (holds g.names p) (holds g.names n && not (eqb p n)) hp) in
        let hc0 : holds g.names c && not (eqb n c) ≡ true = and_r (holds g.names n) (holds g.names c && not (eqb n c)) hc in
        and_i (holds_keep n p g.names (eqb_turn p n (not_true hp2)) hp1)
        (and_i (holds_keep n c g.names (not_true (and_r (holds g.names c) (not (eqb n c)) hc0)) (and_l (holds g.names c) (not (eqb n c)) hc0)) (ap not d))

pub release_law : (g : Graph) (n : ℕ) (h : Graph) → release g n ≡ ok h → Released g n h
unfolding release
release_law g n h e =
    let z = guard_ok (well_formed g && held g n) 9 (and_then (add_all (spliced g n) (without g n)) limit) h e in
    let y = and_then_ok (add_all (spliced g n) (without g n)) limit h z.1 in
    let l = limit_ok y.0 h y.2 in
    subst (λ (k : Graph). Released g n k) l.0
    (released_from g n y.0 (wf→inv g (and_l (well_formed g) (held g n) z.0)) (and_r (well_formed g) (held g n) z.0) y.1 l.1)

-- ---- the join of graphs

set_at_all_cond : (f : Edge → Bool) (x : GEdge) (s : EdgeSet) (b : Bool) → (b ≡ true → f x.edge ≡ true) → all f s.edges ≡ true → all f (cond b (union (one x) s) s).edges ≡ true
set_at_all_cond f x s true h k = and_i (h refl) k
set_at_all_cond f x s false h k = k

-- a test that all edges pass, with their ends, is passed by the edges of a pair
pub set_at_all : (f : ℕ → ℕ → Edge → Bool) (p c : ℕ) (xs : List GEdge) → all (λ x. f x.parent x.child x.edge) xs ≡ true → all (f p c) (set_at p c xs).edges ≡ true
unfolding set_at
set_at_all f p c [] h = refl
set_at_all f p c (x ∷ xs) h =
    set_at_all_cond (f p c) x (set_at p c xs) (eq_pair p c x.parent x.child)
    (λ e. subst (λ (m : ℕ). f m c x.edge ≡ true) (sym (eq_pair_l p c x.parent x.child e))
    (subst (λ (m : ℕ). f x.parent m x.edge ≡ true) (sym (eq_pair_r p c x.parent x.child e))
    (and_l (f x.parent x.child x.edge) (all (λ y. f y.parent y.child y.edge) xs) h)))
    (set_at_all f p c xs (and_r (f x.parent x.child x.edge) (all (λ y. f y.parent y.child y.edge) xs) h))

-- those that pass m pass f, and so do those that are kept because they do not pass m
keep_split : (f m : GEdge → Bool) → ((x : GEdge) → m x ≡ true → f x ≡ true) → (xs : List GEdge) → all f (keep (λ x. not (m x)) xs) ≡ true → all f xs ≡ true
keep_split f m h [] k = refl
keep_split f m h (x ∷ xs) k = go (m x) refl k (keep_split f m h xs)
  where
    ys : List GEdge
    ys = keep (λ y. not (m y)) xs

    go : (b : Bool) → m x ≡ b → all f (cond (not b) (x ∷ ys) ys) ≡ true → (all f ys ≡ true → all f xs ≡ true) → all f (x ∷ xs) ≡ true
    go true e q r = and_i (h x e) (r q)
    go false e q r = and_i (and_l (f x) (all f ys) q) (r (and_r (f x) (all f ys) q))

all_weaken : (f : Edge → Bool) (ds : List Edge) → ((e : Edge) → covered ds e ≡ true → f e ≡ true) → (es : List Edge) → ((e : Edge) → covered es e ≡ true → covered ds e ≡ true) → all f es ≡ true
all_weaken f ds h [] k = refl
all_weaken f ds h (e ∷ es) k =
    and_i (h e (k e (or_l (covered es e) (covers_self e)))) (all_weaken f ds h es (λ d q. k d (or_r (covers e d) q)))

pub record Merged (g h k : Graph) : Type 0 where
  pub names : k.names ≡ g.names
  pub formed : well_formed k ≡ true
  pub grows : (p c : ℕ) → Grows (set_at p c g.edges) (set_at p c k.edges)
  pub no_end : (root : ℕ) → on_pairs (ends_not root) g.edges ≡ true → on_pairs (ends_not root) h.edges ≡ true → on_pairs (ends_not root) k.edges ≡ true
  pub ours : (p c : ℕ) → all (covered (set_at p c k.edges).edges) (set_at p c g.edges).edges ≡ true
  pub theirs : (p c : ℕ) → all (covered (set_at p c k.edges).edges) (set_at p c h.edges).edges ≡ true
  pub news : all (λ x. covered (set_at x.parent x.child k.edges).edges x.edge) (unmatched g h) ≡ true
  pub idle : unmatched g h ≡ [] → k ≡ g

merged_from : (g h k : Graph) → Inv g → Inv h → same_names g h ≡ true → add_all (unmatched g h) g ≡ ok k → leb (length k.edges) 96 ≡ true → Merged g h k
unfolding unmatched same_names
merged_from g h k v w s e l =
    let m : GEdge → Bool = λ x. covered (set_at x.parent x.child g.edges).edges x.edge in
    let back : (n : ℕ) → held h n ≡ true → held g n ≡ true =
    λ n q. holds_all (held g) h.names n q (and_r (all (λ j. held h j.id) g.names) (all (λ j. held g j.id) h.names) s) in
    record {
      names = add_all_names (unmatched g h) g k e;
      formed = inv→wf k (add_all_inv (unmatched g h) g k e v
          (all_imp (λ x. pair_ok h.names x.parent x.child) (λ x. pair_ok g.names x.parent x.child) (λ x q. carry back x.parent x.child q) (unmatched g h)
          (all_keep (λ x. pair_ok h.names x.parent x.child) (λ x. not (m x)) h.edges w.pairs))) l;
      grows = add_all_grows (unmatched g h) g k e;
      no_end = λ root p q. add_all_pairs (ends_not root) (unmatched g h) g k e p (all_keep (λ x. ends_not root x.parent x.child) (λ x. not (m x)) h.edges q);
      ours = λ p c. all_weaken (covered (set_at p c k.edges).edges) (set_at p c g.edges).edges (λ d q. add_all_covers d (unmatched g h) g k e p c q) (set_at p c g.edges).edges (λ d q. q);
      theirs = λ p c. set_at_all (λ q d f. covered (set_at q d k.edges).edges f) p c h.edges
          (keep_split (λ x. covered (set_at x.parent x.child k.edges).edges x.edge) m (λ x q. add_all_covers x.edge (unmatched g h) g k e x.parent x.child q) h.edges
          (add_all_news (unmatched g h) g k e v.sets));
      news = add_all_news (unmatched g h) g k e v.sets;
      idle = λ z. none_added (unmatched g h) z e;
    }
  where
    none_added : (xs : List GEdge) → xs ≡ [] → add_all xs g ≡ ok k → k ≡ g
    none_added [] z q = sym (add_all_none g k q)
    none_added (x ∷ xs) z q = absurd (cons≢nil z)

    carry : ((n : ℕ) → held h n ≡ true → held g n ≡ true) → (p c : ℕ) → pair_ok h.names p c ≡ true → pair_ok g.names p c ≡ true
    carry back p c q =
        let q1 : holds h.names c && not (eqb p c) ≡ true = and_r (holds h.names p) (holds h.names c && not (eqb p c)) q in
        and_i (back p (and_l (holds h.names p) (holds h.names c && not (eqb p c)) q)) (and_i (back c (and_l (holds h.names c) (not (eqb p c)) q1)) (and_r (holds h.names c) (not (eqb p c)) q1))

pub join_graphs_law : (g h k : Graph) → join_graphs g h ≡ ok k → Merged g h k
unfolding join_graphs
join_graphs_law g h k e =
    let z = guard_ok ((well_formed g && well_formed h) && same_names g h) 9 (and_then (add_all (unmatched g h) g) limit) k e in
    let y = and_then_ok (add_all (unmatched g h) g) limit k z.1 in
    let l = limit_ok y.0 k y.2 in
    let f : well_formed g && well_formed h ≡ true = and_l (well_formed g && well_formed h) (same_names g h) z.0 in
    subst (λ (j : Graph). Merged g h j) l.0
    (merged_from g h y.0 (wf→inv g (and_l (well_formed g) (well_formed h) f)) (wf→inv h (and_r (well_formed g) (well_formed h) f)) (and_r (well_formed g && well_formed h) (same_names g h) z.0) y.1 l.1)
