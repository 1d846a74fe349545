-- Release and join pair by pair: their pairs, the edges of each pair, and that the two passes are exact.
use Rattle.std.specs.Prelude.{ℕ, Bool, ◌&&◌, ◌||◌, ◌⊎◌}
use Rattle.std.proofs.Math.Bool.{true, false, cond, not}
use Rattle.std.proofs.lemmas.Bool.{false≢true}
use mathlib.Core.List.{List, ◌∷◌, [], ◌++◌, map}
use Rattle.std.proofs.Common.{inl, inr, sym, ◌∙◌}
use Rattle.std.proofs.Math.Path.{◌≡◌, ap, refl, subst}
use Rattle.std.proofs.Math.Dec.{eqb}
use Rattle.meaning.specs.Answers.{and_then, guard}
use Rattle.meaning.specs.Lists.{keep, each, all}
use Rattle.meaning.specs.References.{EdgeSet, Edge, covered}
use Rattle.meaning.specs.BorrowGraph.{GEdge, eq_pair, set_at, union, one, Graph, unmatched, splice, between, spliced, without, holds, pair_ok, Name, on_pairs, other, held, well_formed, add_all, limit, release, same_names, join_graphs}
use Rattle.meaning.proofs.Laws.Add.{without_formed}
use Rattle.meaning.proofs.Laws.Base.{both, and_i, eqb_eq, or_l, or_r, all_imp, and_l, and_r, decide, not_true, eqb_self, all_and, or_cases, eqb_ne, eqb_no, all_each, keep_passes, leb_le, all_keep}
use Rattle.meaning.proofs.Laws.Call.{without_set, holds_keep, holds_all, without_inv}
use Rattle.meaning.proofs.Laws.Canon.{set_at_hit, set_at_miss}
use Rattle.meaning.specs.Laws.Graph.{insert_all}
use Rattle.meaning.proofs.Laws.Graph.{Inv, eq_pair_self, eq_pair_l, eq_pair_r, wf→inv, room}
use Rattle.meaning.proofs.Laws.Pair.{same_at, has_later, exactly_is}
use Rattle.meaning.proofs.Laws.Spliced.{spliced_rows_lem}
use Rattle.meaning.specs.Refinement.Flat.{meet, spliced_row, row_if, spliced_rows}
use Rattle.meaning.specs.Refinement.Pairs.{edges_at, new_set, Pair, pair_of, has_pair, firsts, loop_at, across, parent_pairs, child_pairs, release_pairs, exactly, join_pairs}

-- ---- the edges of a pair in a list put together

pub edges_at_hit : (p c : ℕ) (x : GEdge) (xs : List GEdge) → eq_pair p c x.parent x.child ≡ true → edges_at p c (x ∷ xs) ≡ x.edge ∷ edges_at p c xs
edges_at_hit p c x xs e = ap (λ (s : EdgeSet). s.edges) (set_at_hit p c x xs e)

pub edges_at_miss : (p c : ℕ) (x : GEdge) (xs : List GEdge) → eq_pair p c x.parent x.child ≡ false → edges_at p c (x ∷ xs) ≡ edges_at p c xs
edges_at_miss p c x xs e = ap (λ (s : EdgeSet). s.edges) (set_at_miss p c x xs e)

pub edges_at_append : (p c : ℕ) (xs ys : List GEdge) → edges_at p c (xs ++ ys) ≡ edges_at p c xs ++ edges_at p c ys
unfolding set_at
edges_at_append p c [] ys = refl
edges_at_append p c (x ∷ xs) ys = go (eq_pair p c x.parent x.child) (edges_at_append p c xs ys)
  where
    go : (b : Bool) → edges_at p c (xs ++ ys) ≡ edges_at p c xs ++ edges_at p c ys
        → (cond b (union (one x) (set_at p c (xs ++ ys))) (set_at p c (xs ++ ys))).edges ≡ (cond b (union (one x) (set_at p c xs)) (set_at p c xs)).edges ++ edges_at p c ys
    go true h = ap (λ (l : List Edge). x.edge ∷ l) h
    go false h = h

-- of those that pass a test of ends and edge
pub edges_at_keep : (f : ℕ → ℕ → Edge → Bool) (p c : ℕ) (xs : List GEdge) → edges_at p c (keep (λ x. f x.parent x.child x.edge) xs) ≡ keep (f p c) (edges_at p c xs)
unfolding set_at
edges_at_keep f p c [] = refl
edges_at_keep f p c (x ∷ xs) = go (eq_pair p c x.parent x.child) (f x.parent x.child x.edge) refl refl (edges_at_keep f p c xs)
  where
    ys : List GEdge
    ys = keep (λ y. f y.parent y.child y.edge) xs

    go : (b d : Bool) → eq_pair p c x.parent x.child ≡ b → f x.parent x.child x.edge ≡ d → edges_at p c ys ≡ keep (f p c) (edges_at p c xs)
        → edges_at p c (cond d (x ∷ ys) ys) ≡ keep (f p c) (cond b (union (one x) (set_at p c xs)) (set_at p c xs)).edges
    go true true e k h =
        edges_at_hit p c x ys e ∙ ap (λ (l : List Edge). x.edge ∷ l) h
        ∙ ap (λ (z : Bool). cond z (x.edge ∷ keep (f p c) (edges_at p c xs)) (keep (f p c) (edges_at p c xs))) (sym (same_at (λ q m. f q m x.edge ≡ true) x.parent x.child p c e k))
    go true false e k h =
        h ∙ ap (λ (z : Bool). cond z (x.edge ∷ keep (f p c) (edges_at p c xs)) (keep (f p c) (edges_at p c xs))) (sym (same_at (λ q m. f q m x.edge ≡ false) x.parent x.child p c e k))
    go false true e k h = edges_at_miss p c x ys e ∙ h
    go false false e k h = h

-- The edges of a pair that a join puts in: those of the other that no edge of ours covers.
pub unmatched_at : (g h : Graph) (p c : ℕ) → edges_at p c (unmatched g h) ≡ keep (λ e. not (covered (edges_at p c g.edges) e)) (edges_at p c h.edges)
unfolding unmatched
unmatched_at g h p c = edges_at_keep (λ q d e. not (covered (edges_at q d g.edges) e)) p c h.edges

-- ---- the edges of a pair that a release puts in

module _ (n p c : ℕ) (ne : eqb p c ≡ false) where
  meet_at : (x y : GEdge) → edges_at p c (meet n x y) ≡ cond (eqb p x.parent) (cond (eq_pair n c y.parent y.child) (splice x.edge y.edge ∷ []) []) []
  unfolding set_at
  meet_at x y = go (eqb n y.parent) (eqb x.parent y.child) (eqb p x.parent) (eqb c y.child) refl refl refl
    where
      made : GEdge
      made = between x.parent (splice x.edge y.edge) y.child

      go : (a b u w : Bool) → eqb x.parent y.child ≡ b → eqb p x.parent ≡ u → eqb c y.child ≡ w
          → edges_at p c (cond (a && not b) (between x.parent (splice x.edge y.edge) y.child ∷ []) []) ≡ cond u (cond (a && w) (splice x.edge y.edge ∷ []) []) []
      go true true true true eb eu ew =
          absurd (both (subst (λ (m : ℕ). eqb m c ≡ true) (sym (eqb_eq eu)) (subst (λ (m : ℕ). eqb x.parent m ≡ true) (sym (eqb_eq ew)) eb)) ne)
      go true true true false eb eu ew = refl
      go true true false w eb eu ew = refl
      go true false true true eb eu ew = edges_at_hit p c made [] (and_i eu ew)
      go true false true false eb eu ew = edges_at_miss p c made [] ((λ i. eu i && ew i))
      go true false false w eb eu ew = edges_at_miss p c made [] (ap (λ (z : Bool). z && eqb c y.child) eu)
      go false b true w eb eu ew = refl
      go false b false w eb eu ew = refl

  row_at : (x : GEdge) (ys : List GEdge) → edges_at p c (spliced_row n ys x) ≡ cond (eqb p x.parent) (map (splice x.edge) (edges_at n c ys)) []
  unfolding set_at spliced_row
  row_at x [] = go (eqb p x.parent)
    where
      go : (b : Bool) → ◌≡◌ {A = List Edge} [] (cond b [] [])
      go true = refl
      go false = refl
  row_at x (y ∷ ys) =
      edges_at_append p c (meet n x y) (spliced_row n ys x) ∙ (λ i. meet_at x y i ++ row_at x ys i) ∙ go (eqb p x.parent) (eq_pair n c y.parent y.child)
    where
      go : (a b : Bool) → cond a (cond b (splice x.edge y.edge ∷ []) []) [] ++ cond a (map (splice x.edge) (edges_at n c ys)) []
          ≡ cond a (map (splice x.edge) (cond b (union (one y) (set_at n c ys)) (set_at n c ys)).edges) []
      go true true = refl
      go true false = refl
      go false b = refl

  rows_at : (ys xs : List GEdge) → edges_at p c (spliced_rows n ys xs) ≡ each (edges_at p n xs) (λ e. map (splice e) (edges_at n c ys))
  unfolding set_at spliced_rows
  rows_at ys [] = refl
  rows_at ys (x ∷ xs) = edges_at_append p c (row_if n ys x) (spliced_rows n ys xs) ∙ go (eqb p x.parent) (eqb n x.child) refl (rows_at ys xs)
    where
      go : (a b : Bool) → eqb p x.parent ≡ a → edges_at p c (spliced_rows n ys xs) ≡ each (edges_at p n xs) (λ e. map (splice e) (edges_at n c ys))
          → edges_at p c (cond b (spliced_row n ys x) []) ++ edges_at p c (spliced_rows n ys xs) ≡ each (cond (a && b) (union (one x) (set_at p n xs)) (set_at p n xs)).edges (λ e. map (splice e) (edges_at n c ys))
      go true true ea h = (λ i. (row_at x ys ∙ ap (λ (z : Bool). cond z (map (splice x.edge) (edges_at n c ys)) []) ea) i ++ h i)
      go false true ea h = (λ i. (row_at x ys ∙ ap (λ (z : Bool). cond z (map (splice x.edge) (edges_at n c ys)) []) ea) i ++ h i)
      go true false ea h = h
      go false false ea h = h

-- Each edge into n with each edge out of it, ascending.
pub spliced_at : (g : Graph) (n p c : ℕ) → Inv g → eqb p c ≡ false → edges_at p c (spliced g n) ≡ each (edges_at p n g.edges) (λ e. map (splice e) (edges_at n c g.edges))
spliced_at g n p c v ne = ap (λ (l : List GEdge). edges_at p c l) (spliced_rows_lem g n v) ∙ rows_at n p c ne g.edges g.edges

-- the new set of a pair, read from the graph before the release
pub release_new : (g : Graph) (n p c : ℕ) → Inv g → eqb p c ≡ false → eqb n p ≡ false → eqb n c ≡ false
    → new_set (without g n) (spliced g n) p c ≡ insert_all (each (edges_at p n g.edges) (λ e. map (splice e) (edges_at n c g.edges))) (set_at p c g.edges)
unfolding new_set
release_new g n p c v ne np nc = λ i. insert_all (spliced_at g n p c v ne i) (without_set g n p c np nc i)

pub join_new : (g h : Graph) (p c : ℕ) → new_set g (unmatched g h) p c ≡ insert_all (keep (λ e. not (covered (edges_at p c g.edges) e)) (edges_at p c h.edges)) (set_at p c g.edges)
unfolding new_set
join_new g h p c = ap (λ (l : List Edge). insert_all l (set_at p c g.edges)) (unmatched_at g h p c)

-- ---- the pairs of a list of edges

-- an edge that passes the test has its pair listed, if it is not the pair before
firsts_has : (q : GEdge → Bool) (r : Pair) (xs : List GEdge) → all (λ x. not (q x) || has_pair (r ∷ firsts q r xs) x.parent x.child) xs ≡ true
unfolding firsts has_pair
firsts_has q r [] = refl
firsts_has q r (x ∷ xs) = go (q x) (eq_pair r.parent r.child x.parent x.child) refl refl (firsts_has q r xs) (firsts_has q (pair_of x) xs)
  where
    self : eq_pair x.parent x.child x.parent x.child ≡ true
    self = eq_pair_self x.parent x.child

    go : (a b : Bool) → q x ≡ a → eq_pair r.parent r.child x.parent x.child ≡ b
        → all (λ y. not (q y) || has_pair (r ∷ firsts q r xs) y.parent y.child) xs ≡ true
        → all (λ y. not (q y) || has_pair (pair_of x ∷ firsts q (pair_of x) xs) y.parent y.child) xs ≡ true
        → all (λ y. not (q y) || has_pair (r ∷ cond (a && not b) (pair_of x ∷ firsts q (pair_of x) xs) (firsts q r xs)) y.parent y.child) (x ∷ xs) ≡ true
    go true true ea eb h k =
        and_i (or_r (not (q x)) (or_l (has_pair (firsts q r xs) x.parent x.child) (same_at (λ m d. eq_pair x.parent x.child m d ≡ true) x.parent x.child r.parent r.child eb self))) h
    go true false ea eb h k =
        and_i (or_r (not (q x)) (or_r (eq_pair x.parent x.child r.parent r.child) (or_l (has_pair (firsts q (pair_of x) xs) x.parent x.child) self)))
        (all_imp (λ y. not (q y) || has_pair (pair_of x ∷ firsts q (pair_of x) xs) y.parent y.child) (λ y. not (q y) || has_pair (r ∷ pair_of x ∷ firsts q (pair_of x) xs) y.parent y.child)
        (λ y. more (not (q y)) (eq_pair y.parent y.child r.parent r.child) (has_pair (pair_of x ∷ firsts q (pair_of x) xs) y.parent y.child)) xs k)
      where
        more : (a b d : Bool) → a || d ≡ true → a || (b || d) ≡ true
        more true b d e = refl
        more false true d e = refl
        more false false d e = e
    go false b ea eb h k = and_i (or_l (has_pair (r ∷ firsts q r xs) x.parent x.child) (ap not ea)) h

-- a test of ends that edges pass is passed by their pairs
firsts_pass : (q : GEdge → Bool) (f : ℕ → ℕ → Bool) (r : Pair) (xs : List GEdge) → all (λ x. not (q x) || f x.parent x.child) xs ≡ true → all (λ s. f s.parent s.child) (firsts q r xs) ≡ true
unfolding firsts
firsts_pass q f r [] h = refl
firsts_pass q f r (x ∷ xs) h =
    go (q x) (eq_pair r.parent r.child x.parent x.child) (and_l (not (q x) || f x.parent x.child) (all (λ y. not (q y) || f y.parent y.child) xs) h)
    (λ s. firsts_pass q f s xs (and_r (not (q x) || f x.parent x.child) (all (λ y. not (q y) || f y.parent y.child) xs) h))
  where
    go : (a b : Bool) → not a || f x.parent x.child ≡ true → ((s : Pair) → all (λ t. f t.parent t.child) (firsts q s xs) ≡ true)
        → all (λ t. f t.parent t.child) (cond (a && not b) (pair_of x ∷ firsts q (pair_of x) xs) (firsts q r xs)) ≡ true
    go true true e k = k r
    go true false e k = and_i e (k (pair_of x))
    go false b e k = k r

-- ends that differ are not those of a loop
no_loop : (n p c : ℕ) → not (eqb p c) ≡ true → eq_pair p c n n ≡ false
no_loop n p c h = decide (eq_pair p c n n)
    (λ e. absurd (both (subst (λ (m : ℕ). eqb p m ≡ true) (eq_pair_l p c n n e ∙ sym (eq_pair_r p c n n e)) (eqb_self p)) (not_true h)))
    (λ e. e)

-- the loop before the first edge is no edge's pair
firsts_cover : (q : GEdge → Bool) (n : ℕ) (xs : List GEdge) → all (λ x. not (eqb x.parent x.child)) xs ≡ true
    → all (λ x. not (q x) || has_pair (firsts q (loop_at n) xs) x.parent x.child) xs ≡ true
firsts_cover q n xs h =
    all_imp (λ x. not (eqb x.parent x.child) && (not (q x) || has_pair (loop_at n ∷ firsts q (loop_at n) xs) x.parent x.child))
    (λ x. not (q x) || has_pair (firsts q (loop_at n) xs) x.parent x.child)
    (λ x e. go x (not (q x)) (and_l (not (eqb x.parent x.child)) (not (q x) || has_pair (loop_at n ∷ firsts q (loop_at n) xs) x.parent x.child) e)
    (and_r (not (eqb x.parent x.child)) (not (q x) || has_pair (loop_at n ∷ firsts q (loop_at n) xs) x.parent x.child) e)) xs
    (all_and (λ x. not (eqb x.parent x.child)) (λ x. not (q x) || has_pair (loop_at n ∷ firsts q (loop_at n) xs) x.parent x.child) xs h (firsts_has q (loop_at n) xs))
  where
    go : (x : GEdge) (a : Bool) → not (eqb x.parent x.child) ≡ true → a || has_pair (loop_at n ∷ firsts q (loop_at n) xs) x.parent x.child ≡ true → a || has_pair (firsts q (loop_at n) xs) x.parent x.child ≡ true
    go x true d e = refl
    go x false d e = has_later (loop_at n) (firsts q (loop_at n) xs) x.parent x.child (no_loop n x.parent x.child d) e

has_append : (rs ss : List Pair) (p c : ℕ) → has_pair (rs ++ ss) p c ≡ has_pair rs p c || has_pair ss p c
unfolding has_pair
has_append [] ss p c = refl
has_append (r ∷ rs) ss p c = go (eq_pair p c r.parent r.child) (has_append rs ss p c)
  where
    go : (b : Bool) → has_pair (rs ++ ss) p c ≡ has_pair rs p c || has_pair ss p c → b || has_pair (rs ++ ss) p c ≡ (b || has_pair rs p c) || has_pair ss p c
    go true h = refl
    go false h = h

-- (p, n) and (n, c) make (p, c)
module _ (n p c : ℕ) (ne : eqb p c ≡ false) where
  across_one : (x : Pair) (ys : List Pair) → eqb p x.parent ≡ true → has_pair ys n c ≡ true → has_pair (each ys (across x)) p c ≡ true
  unfolding has_pair
  across_one x [] e h = absurd (false≢true h)
  across_one x (y ∷ ys) e h =
      has_append (across x y) (each ys (across x)) p c ∙ go (or_cases (eq_pair n c y.parent y.child) (has_pair ys n c) h) (across_one x ys e)
    where
      here : (b : Bool) → eqb x.parent y.child ≡ b → eqb c y.child ≡ true → has_pair (cond b [] (record { parent = x.parent; child = y.child } ∷ [])) p c ≡ true
      here true k d = absurd (both (subst (λ (m : ℕ). eqb m c ≡ true) (sym (eqb_eq e)) (subst (λ (m : ℕ). eqb x.parent m ≡ true) (sym (eqb_eq d)) k)) ne)
      here false k d = or_l false (and_i e d)

      go : (eq_pair n c y.parent y.child ≡ true) ⊎ (has_pair ys n c ≡ true) → (has_pair ys n c ≡ true → has_pair (each ys (across x)) p c ≡ true)
          → has_pair (across x y) p c || has_pair (each ys (across x)) p c ≡ true
      go (inl d) k = or_l (has_pair (each ys (across x)) p c) (here (eqb x.parent y.child) refl (and_r (eqb n y.parent) (eqb c y.child) d))
      go (inr d) k = or_r (has_pair (across x y) p c) (k d)

  across_has : (xs ys : List Pair) → has_pair xs p n ≡ true → has_pair ys n c ≡ true → has_pair (each xs (λ x. each ys (across x))) p c ≡ true
  unfolding has_pair
  across_has [] ys h k = absurd (false≢true h)
  across_has (x ∷ xs) ys h k =
      has_append (each ys (across x)) (each xs (λ z. each ys (across z))) p c ∙ go (or_cases (eq_pair p n x.parent x.child) (has_pair xs p n) h) (λ d. across_has xs ys d k)
    where
      go : (eq_pair p n x.parent x.child ≡ true) ⊎ (has_pair xs p n ≡ true) → (has_pair xs p n ≡ true → has_pair (each xs (λ z. each ys (across z))) p c ≡ true)
          → has_pair (each ys (across x)) p c || has_pair (each xs (λ z. each ys (across z))) p c ≡ true
      go (inl d) r = or_l (has_pair (each xs (λ z. each ys (across z))) p c) (across_one x ys (and_l (eqb p x.parent) (eqb n x.child) d) k)
      go (inr d) r = or_r (has_pair (each ys (across x)) p c) (r d)

-- turns of the loop that finds the pairs
pub firsts_end : (q : GEdge → Bool) (r : Pair) → firsts q r [] ≡ []
unfolding firsts
firsts_end q r = refl

pub firsts_take : (q : GEdge → Bool) (r : Pair) (x : GEdge) (xs : List GEdge) → q x && not (eq_pair r.parent r.child x.parent x.child) ≡ true → firsts q r (x ∷ xs) ≡ pair_of x ∷ firsts q (pair_of x) xs
unfolding firsts
firsts_take q r x xs e = rw e

pub firsts_skip : (q : GEdge → Bool) (r : Pair) (x : GEdge) (xs : List GEdge) → q x && not (eq_pair r.parent r.child x.parent x.child) ≡ false → firsts q r (x ∷ xs) ≡ firsts q r xs
unfolding firsts
firsts_skip q r x xs e = rw e

-- ---- release

differing : (g : Graph) → Inv g → all (λ x. not (eqb x.parent x.child)) g.edges ≡ true
differing g v = all_imp (λ x. pair_ok g.names x.parent x.child) (λ x. not (eqb x.parent x.child))
    (λ x h. and_r (holds g.names x.child) (not (eqb x.parent x.child)) (and_r (holds g.names x.parent) (holds g.names x.child && not (eqb x.parent x.child)) h)) g.edges v.pairs

pair_parts : (ns : List Name) (p c : ℕ) → pair_ok ns p c ≡ true → (holds ns p ≡ true) × (holds ns c ≡ true) × (eqb p c ≡ false)
pair_parts ns p c h =
    let k : holds ns c && not (eqb p c) ≡ true = and_r (holds ns p) (holds ns c && not (eqb p c)) h in
    (and_l (holds ns p) (holds ns c && not (eqb p c)) h, and_l (holds ns c) (not (eqb p c)) k, not_true (and_r (holds ns c) (not (eqb p c)) k))

eqb_turn : (a b : ℕ) → eqb a b ≡ false → eqb b a ≡ false
eqb_turn a b e = eqb_no {m = b} {n = a} (λ q. eqb_ne {m = a} {n = b} e (sym q))

within : (a b : Bool) → b ≡ true → not a || (a && b) ≡ true
within true b h = h
within false b h = refl

module _ (g : Graph) (n : ℕ) (v : Inv g) where
  listed : GEdge → Bool
  listed z = has_pair (release_pairs g n) z.parent z.child

  abbrev is_parent : GEdge → Bool
  is_parent x = not (eqb n x.child) || has_pair (parent_pairs g n) x.parent x.child

  abbrev is_child : GEdge → Bool
  is_child y = not (eqb n y.parent) || has_pair (child_pairs g n) y.parent y.child

  meet_listed : (x y : GEdge) → eqb n x.child ≡ true → is_parent x ≡ true → is_child y ≡ true → all listed (meet n x y) ≡ true
  unfolding listed release_pairs
  meet_listed x y ex px cy = go (eqb n y.parent) (eqb x.parent y.child) refl refl
    where
      second : (a b : Bool) → a ≡ true → not a || b ≡ true → b ≡ true
      second true b t h = h
      second false b t h = absurd (false≢true t)

      go : (a b : Bool) → eqb n y.parent ≡ a → eqb x.parent y.child ≡ b → all listed (cond (a && not b) (between x.parent (splice x.edge y.edge) y.child ∷ []) []) ≡ true
      go true true ea eb = refl
      go true false ea eb =
          and_i (across_has n x.parent y.child eb (parent_pairs g n) (child_pairs g n)
          (subst (λ (m : ℕ). has_pair (parent_pairs g n) x.parent m ≡ true) (sym (eqb_eq ex)) (second (eqb n x.child) (has_pair (parent_pairs g n) x.parent x.child) ex px))
          (subst (λ (m : ℕ). has_pair (child_pairs g n) m y.child ≡ true) (sym (eqb_eq ea)) (second (eqb n y.parent) (has_pair (child_pairs g n) y.parent y.child) ea cy))) refl
      go false b ea eb = refl

  row_listed : (x : GEdge) → is_parent x ≡ true → all listed (row_if n g.edges x) ≡ true
  unfolding spliced_row
  row_listed x px = go (eqb n x.child) refl
    where
      go : (b : Bool) → eqb n x.child ≡ b → all listed (cond b (each g.edges (meet n x)) []) ≡ true
      go true e = all_each is_child listed (meet n x) (λ y cy. meet_listed x y e px cy) g.edges (firsts_cover (λ y. eqb n y.parent) n g.edges (differing g v))
      go false e = refl

  -- what is spliced is spliced at the pairs of the release
  pub release_covered : on_pairs (has_pair (release_pairs g n)) (spliced g n) ≡ true
  unfolding spliced_rows listed
  release_covered =
      ap (on_pairs (has_pair (release_pairs g n))) (spliced_rows_lem g n v)
      ∙ all_each is_parent listed (row_if n g.edges) row_listed g.edges (firsts_cover (λ x. eqb n x.child) n g.edges (differing g v))

  -- its ends are two names that stay
  abbrev stays : Pair → Bool
  stays r = pair_ok (without g n).names r.parent r.child

  abbrev pub in_pair : ℕ → ℕ → Bool
  in_pair p c = eqb n c && pair_ok g.names p c

  abbrev pub out_pair : ℕ → ℕ → Bool
  out_pair p c = eqb n p && pair_ok g.names p c

  pub parents_pass : all (λ r. in_pair r.parent r.child) (parent_pairs g n) ≡ true
  parents_pass = firsts_pass (λ x. eqb n x.child) in_pair (loop_at n) g.edges
      (all_imp (λ x. pair_ok g.names x.parent x.child) (λ x. not (eqb n x.child) || in_pair x.parent x.child) (λ x h. within (eqb n x.child) (pair_ok g.names x.parent x.child) h) g.edges v.pairs)

  pub children_pass : all (λ r. out_pair r.parent r.child) (child_pairs g n) ≡ true
  children_pass = firsts_pass (λ y. eqb n y.parent) out_pair (loop_at n) g.edges
      (all_imp (λ y. pair_ok g.names y.parent y.child) (λ y. not (eqb n y.parent) || out_pair y.parent y.child) (λ y h. within (eqb n y.parent) (pair_ok g.names y.parent y.child) h) g.edges v.pairs)

  pub release_pairs_stay : all (λ r. pair_ok (without g n).names r.parent r.child) (release_pairs g n) ≡ true
  unfolding release_pairs without
  release_pairs_stay =
      all_each (λ x. in_pair x.parent x.child) stays (λ x. each (child_pairs g n) (across x))
      (λ x hx. all_each (λ y. out_pair y.parent y.child) stays (across x) (λ y hy. go x y hx hy (eqb x.parent y.child) refl) (child_pairs g n) children_pass)
      (parent_pairs g n) parents_pass
    where
      go : (x y : Pair) → in_pair x.parent x.child ≡ true → out_pair y.parent y.child ≡ true → (b : Bool) → eqb x.parent y.child ≡ b
          → all stays (cond b [] (record { parent = x.parent; child = y.child } ∷ [])) ≡ true
      go x y hx hy true e = refl
      go x y hx hy false e =
          let px : pair_ok g.names x.parent n ≡ true = subst (λ (m : ℕ). pair_ok g.names x.parent m ≡ true) (sym (eqb_eq (and_l (eqb n x.child) (pair_ok g.names x.parent x.child) hx))) (and_r (eqb n x.child) (pair_ok g.names x.parent x.child) hx) in
          let py : pair_ok g.names n y.child ≡ true = subst (λ (m : ℕ). pair_ok g.names m y.child ≡ true) (sym (eqb_eq (and_l (eqb n y.parent) (pair_ok g.names y.parent y.child) hy))) (and_r (eqb n y.parent) (pair_ok g.names y.parent y.child) hy) in
          let a = pair_parts g.names x.parent n px in
          let b = pair_parts g.names n y.child py in
          and_i (and_i (holds_keep n x.parent g.names (eqb_turn x.parent n a.2) a.0) (and_i (holds_keep n y.child g.names b.2 b.1) (ap not e))) refl

-- such a pair is none of n's, and its ends differ: as `release_new` wants it
pub stay_apart : (g : Graph) (n p c : ℕ) → pair_ok (without g n).names p c ≡ true → (eqb p c ≡ false) × (eqb n p ≡ false) × (eqb n c ≡ false)
unfolding without
stay_apart g n p c h =
    let a = pair_parts (keep (other n) g.names) p c h in (
      a.2,
      not_true (holds_all (λ j. not (eqb n j)) (keep (other n) g.names) p a.0 (keep_passes (other n) g.names)),
      not_true (holds_all (λ j. not (eqb n j)) (keep (other n) g.names) c a.1 (keep_passes (other n) g.names)),
    )

-- Release is the two passes over its pairs.
pub release_pairwise : (g : Graph) (n : ℕ) → release g n ≡ guard (well_formed g && held g n) 9 (exactly (without g n) (spliced g n) (release_pairs g n))
unfolding release
release_pairwise g n = go (well_formed g && held g n) refl
  where
    go : (b : Bool) → well_formed g && held g n ≡ b → guard b 9 (and_then (add_all (spliced g n) (without g n)) limit) ≡ guard b 9 (exactly (without g n) (spliced g n) (release_pairs g n))
    go false e = refl
    go true e =
        let w : well_formed g ≡ true = and_l (well_formed g) (held g n) e in
        let v : Inv g = wf→inv g w in
        sym (exactly_is (without g n) (without_inv g n v) (spliced g n) (release_pairs g n) (release_covered g n v) (leb_le (room (without g n) (without_formed g n w (leb_le (room g w))))))

-- ---- the join of graphs

pub join_covered : (g h : Graph) → Inv h → on_pairs (has_pair (join_pairs h)) (unmatched g h) ≡ true
unfolding unmatched join_pairs
join_covered g h w =
    all_keep (λ x. has_pair (join_pairs h) x.parent x.child) (λ x. not (covered (set_at x.parent x.child g.edges).edges x.edge)) h.edges
    (firsts_cover (λ x. true) 0 h.edges (differing h w))

pub join_pairwise : (g h : Graph) → join_graphs g h ≡ guard ((well_formed g && well_formed h) && same_names g h) 9 (exactly g (unmatched g h) (join_pairs h))
unfolding join_graphs
join_pairwise g h = go ((well_formed g && well_formed h) && same_names g h) refl
  where
    go : (b : Bool) → (well_formed g && well_formed h) && same_names g h ≡ b → guard b 9 (and_then (add_all (unmatched g h) g) limit) ≡ guard b 9 (exactly g (unmatched g h) (join_pairs h))
    go false e = refl
    go true e =
        let f : well_formed g && well_formed h ≡ true = and_l (well_formed g && well_formed h) (same_names g h) e in
        let w : well_formed g ≡ true = and_l (well_formed g) (well_formed h) f in
        sym (exactly_is g (wf→inv g w) (unmatched g h) (join_pairs h) (join_covered g h (wf→inv h (and_r (well_formed g) (well_formed h) f))) (leb_le (room g w)))

-- the pairs of a join are pairs of names that both hold
pub join_pairs_stay : (g h : Graph) → Inv h → same_names g h ≡ true → all (λ r. pair_ok g.names r.parent r.child) (join_pairs h) ≡ true
unfolding join_pairs same_names
join_pairs_stay g h w s =
    firsts_pass (λ x. true) (pair_ok g.names) (loop_at 0) h.edges
    (all_imp (λ x. pair_ok h.names x.parent x.child) (λ x. pair_ok g.names x.parent x.child) (λ x q. carry x.parent x.child q) h.edges w.pairs)
  where
    back : (m : ℕ) → held h m ≡ true → held g m ≡ true
    back m q = holds_all (held g) h.names m q (and_r (all (λ j. held h j.id) g.names) (all (λ j. held g j.id) h.names) s)

    carry : (p c : ℕ) → pair_ok h.names p c ≡ true → pair_ok g.names p c ≡ true
    carry p c q = let a = pair_parts h.names p c q in and_i (back p a.0) (and_i (back c a.1) (ap not a.2))
