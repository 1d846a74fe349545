-- How many sets are blurred just now: in parts of the same edges, where one pair's set is replaced, and where an edge is put in (request A1).
use Rattle.std.specs.Prelude.{ℕ, ◌+◌, ◌≤◌, suc, Bool, true, false, cond, not, ◌&&◌, ◌||◌, List, [], ◌∷◌, ◌++◌, ◌≡◌, refl, eqb}
use Rattle.std.proofs.Common.{arith, sym, ◌∙◌, subst}
use Rattle.std.proofs.lemmas.Bool.{false≢true}
use Rattle.std.proofs.Math.Path.{ap}
use Rattle.std.proofs.Math.ListN.{length}
use Rattle.meaning.specs.Answers.{ok}
use Rattle.meaning.specs.Lists.{all, any, keep}
use Rattle.meaning.specs.References.{Edge, EdgeSet, insert, report}
use Rattle.meaning.specs.BorrowGraph.{GEdge, Graph, eq_pair, union, one, set_at, tagged, is_before, is_after, set_to, add_edge, newly_blurred, blurs_to}
use Rattle.meaning.specs.AbstractState.{count1}
use Rattle.meaning.specs.Refinement.Passes.{apart}
use Rattle.meaning.proofs.Laws.Add.{keep_few}
use Rattle.meaning.proofs.Laws.Base.{and_i, and_l, and_r, and_not, or_l, or_r, all_imp, all_keep, and_then_ok, ok_inj}
use Rattle.meaning.proofs.Laws.Graph.{eq_pair_self, at_pair, set_at_keep_all}
use Rattle.meaning.specs.Laws.Report.{is_now}
use Rattle.meaning.proofs.Laws.Report.{insert_now}
use Rattle.meaning.proofs.Laws.Set.{Inserted, before, just_now, present, added, inserted}

-- ---- a set is blurred where one of its edges says so

pub set_at_blurred : (p c : ℕ) (es : List GEdge) → (set_at p c es).blurred ≡ any (λ y. eq_pair p c y.parent y.child && y.blurred) es
unfolding set_at
set_at_blurred p c [] = refl
set_at_blurred p c (x ∷ xs) = go (eq_pair p c x.parent x.child) ∙ ap (λ (b : Bool). (eq_pair p c x.parent x.child && x.blurred) || b) (set_at_blurred p c xs)
  where
    go : (b : Bool) → (cond b (union (one x) (set_at p c xs)) (set_at p c xs)).blurred ≡ (b && x.blurred) || (set_at p c xs).blurred
    go true = refl
    go false = refl

-- x counts: its set is blurred, and was not among es
abbrev pub fresh : List GEdge → GEdge → Bool
fresh es x = x.blurred && not (set_at x.parent x.child es).blurred

-- ---- parts of the same edges

all_self : {A : Type 0} (R : A → A → Bool) → ((x : A) → R x x ≡ true) → (xs : List A) → all (λ x. any (R x) xs) xs ≡ true
all_self R h [] = refl
all_self R h (x ∷ xs) = and_i (or_l (any (R x) xs) (h x)) (all_imp (λ y. any (R y) xs) (λ y. R y x || any (R y) xs) (λ y e. or_r (R y x) e) xs (all_self R h xs))

-- an edge that is there and is blurred has a blurred set
stale : (es : List GEdge) → all (λ x. not (fresh es x)) es ≡ true
stale es = all_imp (λ x. any (R x) es) (λ x. not (fresh es x)) (λ x e. ap (λ (b : Bool). not (x.blurred && not b)) (set_at_blurred x.parent x.child es) ∙ known x.blurred (at x) es e) es (all_self R own es)
  where
    at : GEdge → GEdge → Bool
    at x y = eq_pair x.parent x.child y.parent y.child && y.blurred

    R : GEdge → GEdge → Bool
    R x y = not x.blurred || at x y

    own : (x : GEdge) → R x x ≡ true
    own x = go x.blurred (eq_pair x.parent x.child x.parent x.child) (eq_pair_self x.parent x.child)
      where
        go : (b e : Bool) → e ≡ true → not b || (e && b) ≡ true
        go true true h = refl
        go true false h = h
        go false e h = refl

    known : (b : Bool) (f : GEdge → Bool) (ys : List GEdge) → any (λ y. not b || f y) ys ≡ true → not (b && not (any f ys)) ≡ true
    known true f ys e = ap (λ (z : Bool). not (not z)) e
    known false f ys e = refl

none_counted : {A : Type 0} (f : A → Bool) (xs : List A) → all (λ x. not (f x)) xs ≡ true → length (keep f xs) ≡ 0
none_counted f [] h = refl
none_counted {A} f (x ∷ xs) h = go (f x) (and_l (not (f x)) (all (λ y. not (f y)) xs) h) (none_counted f xs (and_r (not (f x)) (all (λ y. not (f y)) xs) h))
  where
    go : (b : Bool) → not b ≡ true → length (keep f xs) ≡ 0 → length (cond b (x ∷ keep f xs) (keep f xs)) ≡ 0
    go true e r = absurd (false≢true e)
    go false e r = r

pub newly_keep : (q : GEdge → Bool) (es : List GEdge) → newly_blurred es (keep q es) ≡ 0
unfolding newly_blurred
newly_keep q es = none_counted (fresh es) (keep q es) (all_keep (λ x. not (fresh es x)) q es (stale es))

pub newly_self : (es : List GEdge) → newly_blurred es es ≡ 0
unfolding newly_blurred
newly_self es = none_counted (fresh es) es (stale es)

pub newly_few : (es fs : List GEdge) → newly_blurred es fs ≤ length fs
unfolding newly_blurred
newly_few es fs = keep_few (fresh es) fs

-- ---- counted edge by edge

module _ (es : List GEdge) (x : GEdge) (xs ys : List GEdge) (step : ys ≡ x ∷ xs) where
  pub newly_yes : true ≡ fresh es x → newly_blurred es ys ≡ suc (newly_blurred es xs)
  unfolding newly_blurred
  newly_yes h = ap (newly_blurred es) step ∙ ap (λ (b : Bool). length (cond b (x ∷ keep (fresh es) xs) (keep (fresh es) xs))) (sym h)

  pub newly_no : false ≡ fresh es x → newly_blurred es ys ≡ newly_blurred es xs
  unfolding newly_blurred
  newly_no h = ap (newly_blurred es) step ∙ ap (λ (b : Bool). length (cond b (x ∷ keep (fresh es) xs) (keep (fresh es) xs))) (sym h)

pub newly_none : (es ys : List GEdge) → ys ≡ [] → newly_blurred es ys ≡ 0
unfolding newly_blurred
newly_none es ys e = ap (newly_blurred es) e

-- ---- one pair's set replaced

pub newly_append : (es xs ys : List GEdge) → newly_blurred es (xs ++ ys) ≡ newly_blurred es xs + newly_blurred es ys
unfolding newly_blurred
newly_append es [] ys = omega arith
newly_append es (x ∷ xs) ys = go (fresh es x) (newly_append es xs ys)
  where
    go : (b : Bool) → length (keep (fresh es) (xs ++ ys)) ≡ length (keep (fresh es) xs) + length (keep (fresh es) ys)
        → length (cond b (x ∷ keep (fresh es) (xs ++ ys)) (keep (fresh es) (xs ++ ys))) ≡ length (cond b (x ∷ keep (fresh es) xs) (keep (fresh es) xs)) + length (keep (fresh es) ys)
    go true h = omega (arith, h)
    go false h = h

pub newly_tagged : (es : List GEdge) (p c : ℕ) (b : Bool) (ds : List Edge) → newly_blurred es (tagged p c b ds) ≡ cond (b && not (set_at p c es).blurred) (length ds) 0
unfolding newly_blurred
newly_tagged es p c b [] = go (b && not (set_at p c es).blurred)
  where
    go : (k : Bool) → length (keep (fresh es) []) ≡ cond k 0 0
    go true = refl
    go false = refl
newly_tagged es p c b (d ∷ ds) = go (b && not (set_at p c es).blurred) (newly_tagged es p c b ds)
  where
    x : GEdge
    x = record { parent = p; child = c; blurred = b; edge = d }

    go : (k : Bool) → length (keep (fresh es) (tagged p c b ds)) ≡ cond k (length ds) 0 → length (cond k (x ∷ keep (fresh es) (tagged p c b ds)) (keep (fresh es) (tagged p c b ds))) ≡ cond k (suc (length ds)) 0
    go true h = ap suc h
    go false h = h

pub newly_set_to : (p c : ℕ) (s : EdgeSet) (es : List GEdge) → newly_blurred es (set_to p c s es) ≡ cond (s.blurred && not (set_at p c es).blurred) (length s.edges) 0
unfolding set_to
newly_set_to p c s es =
    let k : ℕ = cond (s.blurred && not (set_at p c es).blurred) (length s.edges) 0 in
    let a = newly_append es (keep (is_before p c) es) (tagged p c s.blurred s.edges ++ keep (is_after p c) es) in
    let b = newly_append es (tagged p c s.blurred s.edges) (keep (is_after p c) es) in
    let d : newly_blurred es (tagged p c s.blurred s.edges) ≡ k = newly_tagged es p c s.blurred s.edges in
    let e : newly_blurred es (keep (is_before p c) es) ≡ 0 = newly_keep (is_before p c) es in
    let f : newly_blurred es (keep (is_after p c) es) ≡ 0 = newly_keep (is_after p c) es in
    omega (arith, a, b, d, e, f)

-- ---- an edge put in

-- the set that an insert blurs has one edge
one_blur : (s : EdgeSet) (e : Edge) (t : EdgeSet) → Inserted s e t → cond (t.blurred && not s.blurred) (length t.edges) 0 ≡ count1 (t.blurred && not s.blurred)
one_blur s e t i = go i
  where
    Says : EdgeSet → Type 0
    Says u = cond (u.blurred && not s.blurred) (length u.edges) 0 ≡ count1 (u.blurred && not s.blurred)

    none : (b : Bool) (n : ℕ) → b ≡ false → cond b n 0 ≡ count1 b
    none b n h = ap (λ (k : Bool). cond k n 0) h ∙ ap count1 (sym h)

    just : (b : Bool) → cond b 1 0 ≡ count1 b
    just true = refl
    just false = refl

    same : s ≡ t → Says t
    same q = subst Says q (none (s.blurred && not s.blurred) (length s.edges) (and_not s.blurred))

    go : Inserted s e t → Says t
    go (before b q) = same q
    go (present b h q) = same q
    go (just_now b l q) = subst Says (sym q) (just (not s.blurred))
    go (added b l k h q) = subst Says (sym q) refl

pub newly_insert : (p c : ℕ) (es : List GEdge) (e : Edge) (s : EdgeSet) → insert (set_at p c es) e ≡ ok s
    → newly_blurred es (set_to p c s es) ≡ count1 (s.blurred && not (set_at p c es).blurred)
newly_insert p c es e s q = newly_set_to p c s es ∙ one_blur (set_at p c es) e s (inserted (set_at p c es) e s q)

-- one where the insert reports it, none otherwise
pub add_edge_blurs : (g : Graph) (x : GEdge) (h : Graph) → add_edge g x ≡ ok h → blurs_to g h ≡ count1 (is_now (report (set_at x.parent x.child g.edges) x.edge))
unfolding add_edge
add_edge_blurs g x h q =
    let old : EdgeSet = set_at x.parent x.child g.edges in
    let z = and_then_ok (insert old x.edge) (λ s. ok (record { names = g.names; edges = set_to x.parent x.child s g.edges })) h q in
    ap (λ (k : Graph). blurs_to g k) (sym (ok_inj z.2))
    ∙ newly_insert x.parent x.child g.edges x.edge z.0 z.1
    ∙ ap count1 (insert_now old x.edge z.0 z.1)

-- ---- other edges before

-- only the sets of the pairs of fs matter
pub newly_same : (q : GEdge → Bool) (es ds : List GEdge) → ((x : GEdge) → q x ≡ true → (set_at x.parent x.child es).blurred ≡ (set_at x.parent x.child ds).blurred)
    → (fs : List GEdge) → all q fs ≡ true → newly_blurred es fs ≡ newly_blurred ds fs
unfolding newly_blurred
newly_same q es ds h [] a = refl
newly_same q es ds h (x ∷ xs) a =
    let r : newly_blurred es xs ≡ newly_blurred ds xs = newly_same q es ds h xs (and_r (q x) (all q xs) a) in
    ap (λ (b : Bool). length (cond (x.blurred && not b) (x ∷ keep (fresh es) xs) (keep (fresh es) xs))) (h x (and_l (q x) (all q xs) a))
    ∙ go (fresh ds x) r
  where
    go : (b : Bool) → length (keep (fresh es) xs) ≡ length (keep (fresh ds) xs) → length (cond b (x ∷ keep (fresh es) xs) (keep (fresh es) xs)) ≡ length (cond b (x ∷ keep (fresh ds) xs) (keep (fresh ds) xs))
    go true r = ap suc r
    go false r = r

-- a release: the edges that touch n blur no set of the other names
pub newly_apart : (n : ℕ) (es fs : List GEdge) → all (apart n) fs ≡ true → newly_blurred es fs ≡ newly_blurred (keep (apart n) es) fs
newly_apart n es fs a = newly_same (apart n) es (keep (apart n) es) (λ x h. ap (λ (s : EdgeSet). s.blurred) (sym (left x h))) fs a
  where
    left : (x : GEdge) → apart n x ≡ true → set_at x.parent x.child (keep (apart n) es) ≡ set_at x.parent x.child es
    left x h = set_at_keep_all x.parent x.child (apart n) (λ y e. at_pair (λ a b. not (eqb n a) && not (eqb n b)) true x.parent x.child h y e) es
