-- What `changed` says, and that it is the Rust's test.
use Rattle.std.specs.Prelude.{ℕ, true, Bool, false, not, ◌&&◌, ◌||◌, cond, List, [], ◌∷◌, ◌++◌, map, ◌⊎◌, ◌≡◌, refl, eqb}
use Rattle.std.proofs.lemmas.Bool.{false≢true}
use Rattle.std.specs.Bool.{beq}
use Rattle.std.proofs.Common.{true≢false, inl, inr, ap, sym, ◌∙◌, subst}
use Rattle.meaning.specs.Answers.{ok}
use Rattle.meaning.specs.Lists.{all}
use Rattle.meaning.specs.References.{Edge, eq_edge, EdgeSet, empty_set, covered, prefix, covers}
use Rattle.meaning.specs.BorrowGraph.{GEdge, Graph, set_at, unmatched, union, one, eq_pair}
use Rattle.meaning.specs.AbstractState.{Local, absent, value, ref, eq_local, eq_locals, eq_edges, eq_set, eq_sets, State, changed, join}
use Rattle.meaning.proofs.Laws.Base.{eqb_eq, and_l, and_r, and_i, both, not_true, keep_passes, all_imp, or_r, or_cases, or_l, eqb_self, decide, beq_eq}
use Rattle.meaning.proofs.Laws.Call.{set_at_all}
use Rattle.meaning.proofs.Laws.Graph.{at_or_empty, all_any}
use Rattle.meaning.proofs.Laws.Set.{plain, plain_set, eq_edge_eq, covers_self, covered_plain}
use Rattle.meaning.proofs.Laws.State.{eq_local_self, eq_set_self, Joined, join_law}

-- ---- the test says what document 01 says

pub eq_local_eq : (a b : Local) → eq_local a b ≡ true → a ≡ b
eq_local_eq absent absent e = refl
eq_local_eq absent value e = absurd (false≢true e)
eq_local_eq absent (ref n) e = absurd (false≢true e)
eq_local_eq value absent e = absurd (false≢true e)
eq_local_eq value value e = refl
eq_local_eq value (ref n) e = absurd (false≢true e)
eq_local_eq (ref m) absent e = absurd (false≢true e)
eq_local_eq (ref m) value e = absurd (false≢true e)
eq_local_eq (ref m) (ref n) e = ap ref (eqb_eq e)

pub eq_locals_eq : (xs ys : List Local) → eq_locals xs ys ≡ true → xs ≡ ys
unfolding eq_locals
eq_locals_eq [] [] e = refl
eq_locals_eq [] (y ∷ ys) e = absurd (false≢true e)
eq_locals_eq (x ∷ xs) [] e = absurd (false≢true e)
eq_locals_eq (x ∷ xs) (y ∷ ys) e =
    let p : x ≡ y = eq_local_eq x y (and_l (eq_local x y) (eq_locals xs ys) e) in
    let q : xs ≡ ys = eq_locals_eq xs ys (and_r (eq_local x y) (eq_locals xs ys) e) in
    λ i. p i ∷ q i

eq_locals_self : (xs : List Local) → eq_locals xs xs ≡ true
unfolding eq_locals
eq_locals_self [] = refl
eq_locals_self (x ∷ xs) = and_i (eq_local_self x) (eq_locals_self xs)

eq_edges_eq : (xs ys : List Edge) → eq_edges xs ys ≡ true → map plain xs ≡ map plain ys
unfolding eq_edges
eq_edges_eq [] [] e = refl
eq_edges_eq [] (y ∷ ys) e = absurd (false≢true e)
eq_edges_eq (x ∷ xs) [] e = absurd (false≢true e)
eq_edges_eq (x ∷ xs) (y ∷ ys) e =
    let p : plain x ≡ plain y = eq_edge_eq x y (and_l (eq_edge x y) (eq_edges xs ys) e) in
    let q : map plain xs ≡ map plain ys = eq_edges_eq xs ys (and_r (eq_edge x y) (eq_edges xs ys) e) in
    λ i. p i ∷ q i

eq_set_eq : (s t : EdgeSet) → eq_set s t ≡ true → plain_set s ≡ plain_set t
unfolding eq_set
eq_set_eq s t e =
    let p : s.blurred ≡ t.blurred = beq_eq s.blurred t.blurred (and_l (beq s.blurred t.blurred) (eq_edges s.edges t.edges) e) in
    let q : map plain s.edges ≡ map plain t.edges =
    eq_edges_eq s.edges t.edges (and_r (beq s.blurred t.blurred) (eq_edges s.edges t.edges) e) in
    λ i. record { edges = q i; blurred = p i }

eq_edges_plain : (xs ys : List Edge) → eq_edges (map plain xs) (map plain ys) ≡ eq_edges xs ys
unfolding eq_edges eq_edge
eq_edges_plain [] [] = refl
eq_edges_plain [] (y ∷ ys) = refl
eq_edges_plain (x ∷ xs) [] = refl
eq_edges_plain (x ∷ xs) (y ∷ ys) = ap (λ (b : Bool). eq_edge x y && b) (eq_edges_plain xs ys)

eq_set_plain : (s t : EdgeSet) → eq_set (plain_set s) (plain_set t) ≡ eq_set s t
unfolding eq_set
eq_set_plain s t = ap (λ (b : Bool). beq s.blurred t.blurred && b) (eq_edges_plain s.edges t.edges)

all_first : {A : Type 0} (f : A → Bool) (xs ys : List A) → all f (xs ++ ys) ≡ true → all f xs ≡ true
all_first f [] ys e = refl
all_first f (x ∷ xs) ys e = and_i (and_l (f x) (all f (xs ++ ys)) e) (all_first f xs ys (and_r (f x) (all f (xs ++ ys)) e))

all_second : {A : Type 0} (f : A → Bool) (xs ys : List A) → all f (xs ++ ys) ≡ true → all f ys ≡ true
all_second f [] ys e = e
all_second f (x ∷ xs) ys e = all_second f xs ys (and_r (f x) (all f (xs ++ ys)) e)

eq_sets_at : (g h : Graph) → eq_sets g h ≡ true → (p c : ℕ) → plain_set (set_at p c g.edges) ≡ plain_set (set_at p c h.edges)
unfolding eq_sets
eq_sets_at g h e p c = go (at_or_empty f p c g.edges (all_first t g.edges h.edges e)) (at_or_empty f p c h.edges (all_second t g.edges h.edges e))
  where
    f : ℕ → ℕ → Bool
    f q d = eq_set (set_at q d g.edges) (set_at q d h.edges)

    t : GEdge → Bool
    t x = f x.parent x.child

    go : (f p c ≡ true) ⊎ (set_at p c g.edges ≡ empty_set) → (f p c ≡ true) ⊎ (set_at p c h.edges ≡ empty_set)
        → plain_set (set_at p c g.edges) ≡ plain_set (set_at p c h.edges)
    go (inl k) z = eq_set_eq (set_at p c g.edges) (set_at p c h.edges) k
    go (inr k) (inl l) = eq_set_eq (set_at p c g.edges) (set_at p c h.edges) l
    go (inr k) (inr l) = ap plain_set (k ∙ sym l)

not_no : (b : Bool) → not b ≡ false → b ≡ true
not_no true h = refl
not_no false h = absurd (true≢false h)

-- not changed: the same locals, and for each pair of names the same set but for offsets
pub unchanged_same : (s t : State) → changed s t ≡ false
    → (s.locals ≡ t.locals) × ((p c : ℕ) → plain_set (set_at p c s.graph.edges) ≡ plain_set (set_at p c t.graph.edges))
unfolding changed
unchanged_same s t e =
    let k : eq_locals s.locals t.locals && eq_sets s.graph t.graph ≡ true = not_no (eq_locals s.locals t.locals && eq_sets s.graph t.graph) e in (
      eq_locals_eq s.locals t.locals (and_l (eq_locals s.locals t.locals) (eq_sets s.graph t.graph) k),
      eq_sets_at s.graph t.graph (and_r (eq_locals s.locals t.locals) (eq_sets s.graph t.graph) k),
    )

pub same_unchanged : (s t : State) → s.locals ≡ t.locals
    → ((p c : ℕ) → plain_set (set_at p c s.graph.edges) ≡ plain_set (set_at p c t.graph.edges))
    → changed s t ≡ false
unfolding changed eq_sets
same_unchanged s t e h =
    ap not (and_i (subst (λ (ls : List Local). eq_locals s.locals ls ≡ true) e (eq_locals_self s.locals))
    (all_any (λ x. eq_set (set_at x.parent x.child s.graph.edges) (set_at x.parent x.child t.graph.edges))
    (λ x. let a : EdgeSet = set_at x.parent x.child s.graph.edges in
    sym (eq_set_plain a (set_at x.parent x.child t.graph.edges))
    ∙ subst (λ (u : EdgeSet). eq_set (plain_set a) u ≡ true) (h x.parent x.child) (eq_set_self (plain_set a)))
    (s.graph.edges ++ t.graph.edges)))

-- ---- a join that changes nothing answers the very state

all_neither : {A : Type 0} (f : A → Bool) (xs : List A) → all f xs ≡ true → all (λ x. not (f x)) xs ≡ true → xs ≡ []
all_neither f [] p q = refl
all_neither f (x ∷ xs) p q = absurd (both (and_l (f x) (all f xs) p) (not_true (and_l (not (f x)) (all (λ y. not (f y)) xs) q)))

-- where each new edge is covered by ours, there is none
no_news : (g h : Graph) → all (λ x. covered (set_at x.parent x.child g.edges).edges x.edge) (unmatched g h) ≡ true → unmatched g h ≡ []
unfolding unmatched
no_news g h e =
    all_neither (λ x. covered (set_at x.parent x.child g.edges).edges x.edge) (unmatched g h) e
    (keep_passes (λ x. not (covered (set_at x.parent x.child g.edges).edges x.edge)) h.edges)

module _ (s o t : State) (j : Joined s o t) (el : s.locals ≡ t.locals) where
  ours_whole : j.parts.ours ≡ s.graph
  ours_whole = j.trim.whole (sym j.locals ∙ sym el)

  back : (u : State) → u.locals ≡ t.locals → j.parts.ours ≡ u.graph → t.graph ≡ j.parts.ours → t ≡ u
  back u p q r = let z : t.graph ≡ u.graph = r ∙ q in λ i. record { locals = sym p i; graph = z i }

  -- from: each edge of the answer that the join put in is covered by ours
  same_state : all (λ x. covered (set_at x.parent x.child j.parts.ours.edges).edges x.edge) (unmatched j.parts.ours j.parts.theirs) ≡ true → t ≡ s
  same_state e = back s el ours_whole (j.merge.idle (no_news j.parts.ours j.parts.theirs e))

pub unchanged_eq : (s o t : State) → join s o ≡ ok t → changed s t ≡ false → t ≡ s
unchanged_eq s o t e c =
    let j : Joined s o t = join_law s o t e in
    let z = unchanged_same s t c in
    let w : j.parts.ours ≡ s.graph = ours_whole s o t j z.0 in
    same_state s o t j z.0
    (all_imp (λ x. covered (set_at x.parent x.child t.graph.edges).edges x.edge) (λ x. covered (set_at x.parent x.child j.parts.ours.edges).edges x.edge)
    (λ x h. subst (λ (g : Graph). covered (set_at x.parent x.child g.edges).edges x.edge ≡ true) (sym w)
    (sym (covered_plain (set_at x.parent x.child s.graph.edges).edges x.edge)
    ∙ ap (λ (u : EdgeSet). covered u.edges x.edge) (z.1 x.parent x.child)
    ∙ covered_plain (set_at x.parent x.child t.graph.edges).edges x.edge ∙ h))
    (unmatched j.parts.ours j.parts.theirs) j.merge.news)

-- ---- the Rust's test: the locals differ, or some edge of the answer is not covered by an edge of the state (`leq`)

unfoldable pub leq : Graph → Graph → Bool
unfolding set_at
leq g h = all (λ x. covered (set_at x.parent x.child g.edges).edges x.edge) h.edges

unfoldable pub rust_changed : State → State → Bool
unfolding leq eq_locals
rust_changed s t = not (eq_locals s.locals t.locals && leq s.graph t.graph)

prefix_trans : (xs ys zs : List ℕ) → prefix xs ys ≡ true → prefix ys zs ≡ true → prefix xs zs ≡ true
unfolding prefix
prefix_trans [] ys zs p q = refl
prefix_trans (x ∷ xs) [] zs p q = absurd (false≢true p)
prefix_trans (x ∷ xs) (y ∷ ys) [] p q = absurd (false≢true q)
prefix_trans (x ∷ xs) (y ∷ ys) (z ∷ zs) p q =
    let e : x ≡ y = eqb_eq (and_l (eqb x y) (prefix xs ys) p) in
    and_i (subst (λ (n : ℕ). eqb n z ≡ true) (sym e) (and_l (eqb y z) (prefix ys zs) q)) (prefix_trans xs ys zs (and_r (eqb x y) (prefix xs ys) p) (and_r (eqb y z) (prefix ys zs) q))

pub covers_trans : (a b c : Edge) → covers a b ≡ true → covers b c ≡ true → covers a c ≡ true
unfolding covers eq_edge
covers_trans a b c p q = go (or_cases (eq_edge a b) (not a.strong && prefix a.path b.path) p) (or_cases (eq_edge b c) (not b.strong && prefix b.path c.path) q)
  where
    go : (eq_edge a b ≡ true) ⊎ (not a.strong && prefix a.path b.path ≡ true) → (eq_edge b c ≡ true) ⊎ (not b.strong && prefix b.path c.path ≡ true)
        → eq_edge a c || (not a.strong && prefix a.path c.path) ≡ true
    go (inl e) f = subst (λ (x : Edge). covers x c ≡ true) (sym (eq_edge_eq a b e)) q
    go (inr e) (inl f) = subst (λ (x : Edge). covers a x ≡ true) (eq_edge_eq b c f) p
    go (inr e) (inr f) =
        or_r (eq_edge a c) (and_i (and_l (not a.strong) (prefix a.path b.path) e)
        (prefix_trans a.path b.path c.path (and_r (not a.strong) (prefix a.path b.path) e) (and_r (not b.strong) (prefix b.path c.path) f)))

covered_by : (ds : List Edge) (e f : Edge) → covered ds e ≡ true → covers e f ≡ true → covered ds f ≡ true
covered_by [] e f p q = p
covered_by (d ∷ ds) e f p q = go (or_cases (covers d e) (covered ds e) p) (covered_by ds e f)
  where
    go : (covers d e ≡ true) ⊎ (covered ds e ≡ true) → (covered ds e ≡ true → covers e f ≡ true → covered ds f ≡ true) → covered (d ∷ ds) f ≡ true
    go (inl h) r = or_l (covered ds f) (covers_trans d e f h q)
    go (inr h) r = or_r (covers d f) (r h q)

-- what covers all of a list covers what the list covers
covered_trans : (ds es : List Edge) (f : Edge) → all (covered ds) es ≡ true → covered es f ≡ true → covered ds f ≡ true
covered_trans ds [] f h k = absurd (false≢true k)
covered_trans ds (e ∷ es) f h k = go (or_cases (covers e f) (covered es f) k) (covered_trans ds es f (and_r (covered ds e) (all (covered ds) es) h))
  where
    go : (covers e f ≡ true) ⊎ (covered es f ≡ true) → (covered es f ≡ true → covered ds f ≡ true) → covered ds f ≡ true
    go (inl p) r = covered_by ds e f (and_l (covered ds e) (all (covered ds) es) h) p
    go (inr p) r = r p

-- an edge of a graph is in the set of its pair
later_cond : (b : Bool) (x : GEdge) (s : EdgeSet) (f : Edge) → covered s.edges f ≡ true → covered (cond b (union (one x) s) s).edges f ≡ true
later_cond true x s f h = or_r (covers x.edge f) h
later_cond false x s f h = h

leq_self : (xs : List GEdge) → all (λ x. covered (set_at x.parent x.child xs).edges x.edge) xs ≡ true
unfolding set_at
leq_self [] = refl
leq_self (x ∷ xs) =
    and_i
    (subst (λ (b : Bool). covered (cond b (union (one x) (set_at x.parent x.child xs)) (set_at x.parent x.child xs)).edges x.edge ≡ true)
    (sym (and_i (eqb_self x.parent) (eqb_self x.child))) (or_l (covered (set_at x.parent x.child xs).edges x.edge) (covers_self x.edge)))
    (all_imp (λ y. covered (set_at y.parent y.child xs).edges y.edge)
    (λ y. covered (cond (eq_pair y.parent y.child x.parent x.child) (union (one x) (set_at y.parent y.child xs)) (set_at y.parent y.child xs)).edges y.edge)
    (λ y h. later_cond (eq_pair y.parent y.child x.parent x.child) x (set_at y.parent y.child xs) y.edge h) xs (leq_self xs))

rust_self : (s : State) → rust_changed s s ≡ false
unfolding rust_changed leq
rust_self s = ap not (and_i (eq_locals_self s.locals) (leq_self s.graph.edges))

-- the Rust's test passes: the answer is the state
rust_same : (s o t : State) → Joined s o t → rust_changed s t ≡ false → t ≡ s
unfolding rust_changed leq
rust_same s o t j e =
    let k : eq_locals s.locals t.locals && leq s.graph t.graph ≡ true = not_no (eq_locals s.locals t.locals && leq s.graph t.graph) e in
    let el : s.locals ≡ t.locals = eq_locals_eq s.locals t.locals (and_l (eq_locals s.locals t.locals) (leq s.graph t.graph) k) in
    let w : j.parts.ours ≡ s.graph = ours_whole s o t j el in
    let q : leq s.graph t.graph ≡ true = and_r (eq_locals s.locals t.locals) (leq s.graph t.graph) k in
    same_state s o t j el
    (all_imp (λ x. covered (set_at x.parent x.child t.graph.edges).edges x.edge) (λ x. covered (set_at x.parent x.child j.parts.ours.edges).edges x.edge)
    (λ x h. subst (λ (g : Graph). covered (set_at x.parent x.child g.edges).edges x.edge ≡ true) (sym w)
    (covered_trans (set_at x.parent x.child s.graph.edges).edges (set_at x.parent x.child t.graph.edges).edges x.edge
    (set_at_all (λ p c f. covered (set_at p c s.graph.edges).edges f) x.parent x.child t.graph.edges q) h))
    (unmatched j.parts.ours j.parts.theirs) j.merge.news)

-- After a join that is not refused, whatever the states, the two tests agree.
pub changed_is_rust : (s o t : State) → join s o ≡ ok t → changed s t ≡ rust_changed s t
changed_is_rust s o t e =
    decide (changed s t)
    (λ c. decide (rust_changed s t) (λ r. c ∙ sym r)
    (λ r. absurd (both c (subst (λ (u : State). changed s u ≡ false) (sym (rust_same s o t (join_law s o t e) r)) (same_unchanged s s refl (λ p d. refl))))))
    (λ c. c ∙ sym (subst (λ (u : State). rust_changed s u ≡ false) (sym (unchanged_eq s o t e c)) (rust_self s)))
