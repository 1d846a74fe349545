-- Offsets changed by a function f (A9). The graph calls and the join only copy offsets and never ask them, so each commutes with the change.
-- RedateStep has the instructions, and RedateRun blocks, runs and answers.
use Prim.Native.Nat.{ℕ, suc, ◌+◌, min}
use Rattle.std.proofs.Math.Bool.{Bool, true, false, not, cond, beq}
use Rattle.std.specs.Prelude.{◌&&◌, ◌||◌, ◌≡◌, eqb}
use mathlib.Core.List.{List, [], ◌∷◌, ◌++◌, map, map-append}
use Rattle.std.proofs.Math.Option
use Rattle.std.proofs.Math.Option.{Option, none, some}
use Rattle.std.proofs.Math.Path.{refl, sym, ap}
use Rattle.std.proofs.Common.{◌∙◌}
use Rattle.std.proofs.Math.Dec.{leb}
use Rattle.std.proofs.Math.ListN.{length, length-map}
use Rattle.meaning.specs.Limits.{max_set_size, max_labels, max_names, max_edges}
use Rattle.meaning.specs.Answers.{Ans, ok, refuse, and_then, guard}
use Rattle.meaning.specs.Lists.{any, all, keep, each}
use Rattle.meaning.specs.References.{Edge, EdgeSet, blur, eq_edge, lt_edge, covers, covered, has, put, insert, ordered, short, is_blur, set_ok}
use Rattle.meaning.specs.BorrowGraph.{GEdge, Graph, held, pair_ok, union, one, set_at, eq_pair, tagged, is_before, is_after, set_to, ascending, not_before, in_order, well_formed, add_edge, add_all, limit, splice, between, spliced, other, without, release, unmatched, same_names, join_graphs, newly_blurred, put_name, new_name, borrow_weak, moves, shift, borrow_strong, put_edge, with_ends, rename_edges, rename_names, renamed, lower_of, lowest_of}
use Rattle.meaning.specs.AbstractState.{Local, absent, value, ref, State, Step, join_local, Parts, join_locals, join, passed, join_blurs, eq_locals, eq_edges, eq_set, eq_sets, changed, new_name_of, own_names, canonical}

-- ---- the changes

abbrev pub redate_edge : (ℕ → ℕ) → Edge → Edge
redate_edge f e = record { strong = e.strong; path = e.path; offset = f e.offset }

abbrev pub redate_set : (ℕ → ℕ) → EdgeSet → EdgeSet
redate_set f s = record { edges = map (redate_edge f) s.edges; blurred = s.blurred }

abbrev pub redate_gedge : (ℕ → ℕ) → GEdge → GEdge
redate_gedge f x = record { parent = x.parent; child = x.child; blurred = x.blurred; edge = redate_edge f x.edge }

abbrev pub redate_all : (ℕ → ℕ) → List GEdge → List GEdge
redate_all f xs = map (redate_gedge f) xs

abbrev pub redate_graph : (ℕ → ℕ) → Graph → Graph
redate_graph f g = record { names = g.names; edges = redate_all f g.edges }

abbrev pub redate_state : (ℕ → ℕ) → State → State
redate_state f s = record { locals = s.locals; graph = redate_graph f s.graph }

abbrev pub map_ans : {X Y : Type 0} → (X → Y) → Ans X → Ans Y
map_ans h (ok x) = ok (h x)
map_ans h (refuse n) = refuse n

-- ---- answers

-- a function past a choice
pub past : {X Y : Type 0} (h : X → Y) (b : Bool) (x y : X) → cond b (h x) (h y) ≡ h (cond b x y)
past h true x y = refl
past h false x y = refl

pub and_then_map : {X Y Z W : Type 0} (h : X → Y) (j : Z → W) (a : Ans X) (k : X → Ans Z) (l : Y → Ans W) → ((x : X) → l (h x) ≡ map_ans j (k x))
    → and_then (map_ans h a) l ≡ map_ans j (and_then a k)
and_then_map h j (ok x) k l e = e x
and_then_map h j (refuse n) k l e = refl

passed_map : {X Y : Type 0} (h : X → Y) (a : Ans X) (k : X → Ans ℕ) (l : Y → Ans ℕ) → ((x : X) → passed (l (h x)) ≡ passed (k x))
    → passed (and_then (map_ans h a) l) ≡ passed (and_then a k)
passed_map h (ok x) k l e = e x
passed_map h (refuse n) k l e = refl

guard_map : {X Y : Type 0} (j : X → Y) (b : Bool) (n : ℕ) (k : Ans X) → guard b n (map_ans j k) ≡ map_ans j (guard b n k)
guard_map j true n k = refl
guard_map j false n k = refl

-- ---- lists

module _ {A B : Type 0} (h : A → B) (p : A → Bool) (q : B → Bool) (e : (x : A) → q (h x) ≡ p x) where
  any_map : (xs : List A) → any q (map h xs) ≡ any p xs
  any_map [] = refl
  any_map (x ∷ xs) = λ i. e x i || any_map xs i

  all_map : (xs : List A) → all q (map h xs) ≡ all p xs
  all_map [] = refl
  all_map (x ∷ xs) = λ i. e x i && all_map xs i

  keep_map : (xs : List A) → keep q (map h xs) ≡ map h (keep p xs)
  keep_map [] = refl
  keep_map (x ∷ xs) = (λ i. cond (e x i) (h x ∷ keep_map xs i) (keep_map xs i)) ∙ past (map h) (p x) (x ∷ keep p xs) (keep p xs)

map_swap : {A B C D : Type 0} (h : A → B) (j : C → D) (k : A → C) (l : B → D) → ((x : A) → l (h x) ≡ j (k x)) → (xs : List A)
    → map l (map h xs) ≡ map j (map k xs)
map_swap h j k l e [] = refl
map_swap h j k l e (x ∷ xs) = λ i. e x i ∷ map_swap h j k l e xs i

each_map : {A B C D : Type 0} (h : A → B) (j : C → D) (k : A → List C) (l : B → List D) → ((x : A) → l (h x) ≡ map j (k x)) → (xs : List A)
    → each (map h xs) l ≡ map j (each xs k)
each_map h j k l e [] = refl
each_map h j k l e (x ∷ xs) = (λ i. e x i ++ each_map h j k l e xs i) ∙ sym (map-append j (k x) (each xs k))

each_same : {A C D : Type 0} (j : C → D) (k : A → List C) (l : A → List D) → ((x : A) → l x ≡ map j (k x)) → (xs : List A)
    → each xs l ≡ map j (each xs k)
each_same j k l e [] = refl
each_same j k l e (x ∷ xs) = (λ i. e x i ++ each_same j k l e xs i) ∙ sym (map-append j (k x) (each xs k))

module _ (f : ℕ → ℕ) where
  -- ---- edges and sets: what is asked of them ignores the offset

  pub eq_edge_redate : (d e : Edge) → eq_edge (redate_edge f d) (redate_edge f e) ≡ eq_edge d e
  unfolding eq_edge
  eq_edge_redate d e = refl

  pub lt_edge_redate : (d e : Edge) → lt_edge (redate_edge f d) (redate_edge f e) ≡ lt_edge d e
  unfolding lt_edge
  lt_edge_redate d e = refl

  pub covers_redate : (d e : Edge) → covers (redate_edge f d) (redate_edge f e) ≡ covers d e
  unfolding covers eq_edge
  covers_redate d e = refl

  pub has_redate : (e : Edge) (xs : List Edge) → has (redate_edge f e) (map (redate_edge f) xs) ≡ has e xs
  unfolding has
  has_redate e xs = any_map (redate_edge f) (eq_edge e) (eq_edge (redate_edge f e)) (eq_edge_redate e) xs

  put_redate : (e : Edge) (xs : List Edge) → put (redate_edge f e) (map (redate_edge f) xs) ≡ map (redate_edge f) (put e xs)
  unfolding put
  put_redate e [] = refl
  put_redate e (x ∷ xs) =
      (λ i. cond (lt_edge_redate e x i) (redate_edge f e ∷ redate_edge f x ∷ map (redate_edge f) xs) (redate_edge f x ∷ put_redate e xs i))
      ∙ past (map (redate_edge f)) (lt_edge e x) (e ∷ x ∷ xs) (x ∷ put e xs)

  pub insert_redate : (s : EdgeSet) (e : Edge) → insert (redate_set f s) (redate_edge f e) ≡ map_ans (redate_set f) (insert s e)
  unfolding insert
  insert_redate s e =
      (λ i. cond s.blurred (ok (redate_set f s))
      (cond (leb max_set_size (length-map s.edges (redate_edge f) i)) (ok (blur (f e.offset)))
      (cond (leb (length e.path) max_labels)
      (cond (has_redate e s.edges i) (ok (redate_set f s)) (ok (record { edges = put_redate e s.edges i; blurred = false })))
      (refuse 22))))
      ∙ go s.blurred (leb max_set_size (length s.edges)) (leb (length e.path) max_labels) (has e s.edges) (put e s.edges)
    where
      go : (a b c d : Bool) (es : List Edge)
          → cond a (ok (redate_set f s)) (cond b (ok (blur (f e.offset)))
          (cond c (cond d (ok (redate_set f s)) (ok (record { edges = map (redate_edge f) es; blurred = false }))) (refuse 22)))
          ≡ map_ans (redate_set f) (cond a (ok s) (cond b (ok (blur e.offset))
          (cond c (cond d (ok s) (ok (record { edges = es; blurred = false }))) (refuse 22))))
      go true b c d es = refl
      go false true c d es = refl
      go false false true true es = refl
      go false false true false es = refl
      go false false false d es = refl

  pub ordered_redate : (xs : List Edge) → ordered (map (redate_edge f) xs) ≡ ordered xs
  unfolding ordered
  ordered_redate [] = refl
  ordered_redate (x ∷ xs) = λ i. all_map (redate_edge f) (lt_edge x) (lt_edge (redate_edge f x)) (lt_edge_redate x) xs i && ordered_redate xs i

  pub short_redate : (e : Edge) → short (redate_edge f e) ≡ short e
  unfolding short
  short_redate e = refl

  is_blur_redate : (xs : List Edge) → is_blur (map (redate_edge f) xs) ≡ is_blur xs
  unfolding is_blur eq_edge
  is_blur_redate [] = refl
  is_blur_redate (x ∷ []) = refl
  is_blur_redate (x ∷ y ∷ ys) = refl

  pub set_ok_redate : (s : EdgeSet) → set_ok (redate_set f s) ≡ set_ok s
  unfolding set_ok
  set_ok_redate s = λ i. cond s.blurred (is_blur_redate s.edges i)
      (leb (length-map s.edges (redate_edge f) i) max_set_size
      && (all_map (redate_edge f) short short short_redate s.edges i && ordered_redate s.edges i))

  -- ---- the sets of a graph

  pub set_at_redate : (p c : ℕ) (xs : List GEdge) → set_at p c (redate_all f xs) ≡ redate_set f (set_at p c xs)
  unfolding set_at
  set_at_redate p c [] = refl
  set_at_redate p c (x ∷ xs) =
      (λ i. cond (eq_pair p c x.parent x.child) (union (one (redate_gedge f x)) (set_at_redate p c xs i)) (set_at_redate p c xs i))
      ∙ past (redate_set f) (eq_pair p c x.parent x.child) (union (one x) (set_at p c xs)) (set_at p c xs)

  pub set_to_redate : (p c : ℕ) (s : EdgeSet) (xs : List GEdge) → set_to p c (redate_set f s) (redate_all f xs) ≡ redate_all f (set_to p c s xs)
  unfolding set_to
  set_to_redate p c s xs =
      let tag : Edge → GEdge = λ e. record { parent = p; child = c; blurred = s.blurred; edge = e } in
      (λ i. keep_map (redate_gedge f) (is_before p c) (is_before p c) (λ x. refl) xs i
      ++ (map_swap (redate_edge f) (redate_gedge f) tag tag (λ e. refl) s.edges i
      ++ keep_map (redate_gedge f) (is_after p c) (is_after p c) (λ x. refl) xs i))
      ∙ sym (parts (keep (is_before p c) xs) (tagged p c s.blurred s.edges) (keep (is_after p c) xs))
    where
      parts : (us vs ws : List GEdge) → redate_all f (us ++ (vs ++ ws)) ≡ redate_all f us ++ (redate_all f vs ++ redate_all f ws)
      parts us vs ws = map-append (redate_gedge f) us (vs ++ ws) ∙ ap (λ (zs : List GEdge). redate_all f us ++ zs) (map-append (redate_gedge f) vs ws)

  in_order_redate : (xs : List GEdge) → in_order (redate_all f xs) ≡ in_order xs
  unfolding in_order
  in_order_redate [] = refl
  in_order_redate (x ∷ xs) = λ i. all_map (redate_gedge f) (not_before x) (not_before x) (λ y. refl) xs i && in_order_redate xs i

  pub well_formed_redate : (g : Graph) → well_formed (redate_graph f g) ≡ well_formed g
  unfolding well_formed
  well_formed_redate g =
      let ends : GEdge → Bool = λ x. pair_ok g.names x.parent x.child in
      let set : List GEdge → GEdge → Bool = λ es x. set_ok (set_at x.parent x.child es) in
      λ i. (leb (length g.names) max_names && ascending g.names)
      && (leb (length-map g.edges (redate_gedge f) i) max_edges
      && (all_map (redate_gedge f) ends ends (λ x. refl) g.edges i
      && (all_map (redate_gedge f) (set g.edges) (set (redate_all f g.edges)) sets g.edges i
      && in_order_redate g.edges i)))
    where
      sets : (x : GEdge) → set_ok (set_at x.parent x.child (redate_all f g.edges)) ≡ set_ok (set_at x.parent x.child g.edges)
      sets x = ap set_ok (set_at_redate x.parent x.child g.edges) ∙ set_ok_redate (set_at x.parent x.child g.edges)

  -- ---- edges put in

  pub add_edge_redate : (g : Graph) (x : GEdge) → add_edge (redate_graph f g) (redate_gedge f x) ≡ map_ans (redate_graph f) (add_edge g x)
  unfolding add_edge
  add_edge_redate g x =
      let p : ℕ = x.parent in
      let c : ℕ = x.child in
      ap (λ (a : Ans EdgeSet). and_then a (λ s. ok (record { names = g.names; edges = set_to p c s (redate_all f g.edges) })))
      (ap (λ (s : EdgeSet). insert s (redate_edge f x.edge)) (set_at_redate p c g.edges) ∙ insert_redate (set_at p c g.edges) x.edge)
      ∙ and_then_map (redate_set f) (redate_graph f) (insert (set_at p c g.edges) x.edge) _ _
      (λ s i. ok (record { names = g.names; edges = set_to_redate p c s g.edges i }))

  pub add_all_redate : (xs : List GEdge) (g : Graph) → add_all (redate_all f xs) (redate_graph f g) ≡ map_ans (redate_graph f) (add_all xs g)
  unfolding add_all
  add_all_redate [] g = refl
  add_all_redate (x ∷ xs) g =
      ap (λ (a : Ans Graph). and_then a (λ h. add_all (redate_all f xs) h)) (add_edge_redate g x)
      ∙ and_then_map (redate_graph f) (redate_graph f) (add_edge g x) _ _ (λ h. add_all_redate xs h)

  limit_redate : (g : Graph) → limit (redate_graph f g) ≡ map_ans (redate_graph f) (limit g)
  unfolding limit
  limit_redate g =
      (λ i. guard (leb (length-map g.edges (redate_gedge f) i) max_edges) 21 (ok (redate_graph f g)))
      ∙ guard_map (redate_graph f) (leb (length g.edges) max_edges) 21 (ok g)

  -- the shape of the calls: a test, edges put in, the limit
  edit_redate : (b c : Bool) (xs ys : List GEdge) (g h : Graph) → c ≡ b → ys ≡ redate_all f xs → h ≡ redate_graph f g
      → guard c 9 (and_then (add_all ys h) limit) ≡ map_ans (redate_graph f) (guard b 9 (and_then (add_all xs g) limit))
  edit_redate b c xs ys g h eb ex eg =
      (λ i. guard (eb i) 9 (and_then (add_all (ex i) (eg i)) limit))
      ∙ ap (λ (a : Ans Graph). guard b 9 (and_then a limit)) (add_all_redate xs g)
      ∙ ap (guard b 9) (and_then_map (redate_graph f) (redate_graph f) (add_all xs g) limit limit limit_redate)
      ∙ guard_map (redate_graph f) b 9 (and_then (add_all xs g) limit)

  -- ---- release and join

  each_redate : (s t : EdgeSet) (k l : Edge → List GEdge) → t ≡ redate_set f s → ((e : Edge) → l (redate_edge f e) ≡ redate_all f (k e))
      → each t.edges l ≡ redate_all f (each s.edges k)
  each_redate s t k l q e = ap (λ (u : EdgeSet). each u.edges l) q ∙ each_map (redate_edge f) (redate_gedge f) k l e s.edges

  spliced_redate : (g : Graph) (n : ℕ) → spliced (redate_graph f g) n ≡ redate_all f (spliced g n)
  unfolding spliced splice
  spliced_redate g n =
      each_same (redate_gedge f) _ _ (λ p. each_redate (set_at p.id n g.edges) _ _ _ (set_at_redate p.id n g.edges) (λ e.
      each_same (redate_gedge f) _ _ (λ c. each_redate (set_at n c.id g.edges) _ _ _ (set_at_redate n c.id g.edges) (λ d.
      past (redate_all f) (eqb p.id c.id) [] (between p.id (splice e d) c.id ∷ []))) g.names)) g.names

  without_redate : (g : Graph) (n : ℕ) → without (redate_graph f g) n ≡ redate_graph f (without g n)
  unfolding without
  without_redate g n =
      let off : GEdge → Bool = λ x. not (eqb n x.parent) && not (eqb n x.child) in
      λ i. record { names = keep (other n) g.names; edges = keep_map (redate_gedge f) off off (λ x. refl) g.edges i }

  pub release_redate : (g : Graph) (n : ℕ) → release (redate_graph f g) n ≡ map_ans (redate_graph f) (release g n)
  unfolding release
  release_redate g n =
      edit_redate (well_formed g && held g n) (well_formed (redate_graph f g) && held g n)
      (spliced g n) (spliced (redate_graph f g) n) (without g n) (without (redate_graph f g) n)
      (λ i. well_formed_redate g i && held g n) (spliced_redate g n) (without_redate g n)

  covered_redate : (ds : List Edge) (e : Edge) → covered (map (redate_edge f) ds) (redate_edge f e) ≡ covered ds e
  covered_redate ds e = any_map (redate_edge f) (λ d. covers d e) (λ d. covers d (redate_edge f e)) (λ d. covers_redate d e) ds

  pub unmatched_redate : (g h : Graph) → unmatched (redate_graph f g) (redate_graph f h) ≡ redate_all f (unmatched g h)
  unfolding unmatched
  unmatched_redate g h = keep_map (redate_gedge f) _ _ (λ x.
      ap (λ (s : EdgeSet). not (covered s.edges (redate_edge f x.edge))) (set_at_redate x.parent x.child g.edges)
      ∙ ap not (covered_redate (set_at x.parent x.child g.edges).edges x.edge)) h.edges

  pub join_graphs_redate : (g h : Graph) → join_graphs (redate_graph f g) (redate_graph f h) ≡ map_ans (redate_graph f) (join_graphs g h)
  unfolding join_graphs same_names
  join_graphs_redate g h =
      edit_redate ((well_formed g && well_formed h) && same_names g h) ((well_formed (redate_graph f g) && well_formed (redate_graph f h)) && same_names g h)
      (unmatched g h) (unmatched (redate_graph f g) (redate_graph f h)) g (redate_graph f g)
      (λ i. (well_formed_redate g i && well_formed_redate h i) && same_names g h) (unmatched_redate g h) refl

  pub blurs_redate : (es fs : List GEdge) → newly_blurred (redate_all f es) (redate_all f fs) ≡ newly_blurred es fs
  unfolding newly_blurred
  blurs_redate es fs =
      let new : List GEdge → GEdge → Bool = λ gs x. x.blurred && not (set_at x.parent x.child gs).blurred in
      ap length (keep_map (redate_gedge f) (new es) (new (redate_all f es))
      (λ x. ap (λ (s : EdgeSet). x.blurred && not s.blurred) (set_at_redate x.parent x.child es)) fs)
      ∙ length-map (keep (new es) fs) (redate_gedge f)

  -- ---- a new name, and borrows

  pub new_name_redate : (g : Graph) (n : ℕ) (m : Bool) → new_name (redate_graph f g) n m ≡ map_ans (redate_graph f) (new_name g n m)
  unfolding new_name
  new_name_redate g n m =
      let room : Bool = leb (suc (length g.names)) max_names in
      let h : Graph = record { names = put_name (record { id = n; mutable = m }) g.names; edges = g.edges } in
      (λ i. guard (well_formed_redate g i) 9 (guard (not (held g n)) 8 (guard room 23 (ok (redate_graph f h)))))
      ∙ ap (λ (a : Ans Graph). guard (well_formed g) 9 (guard (not (held g n)) 8 a)) (guard_map (redate_graph f) room 23 (ok h))
      ∙ ap (guard (well_formed g) 9) (guard_map (redate_graph f) (not (held g n)) 8 (guard room 23 (ok h)))
      ∙ guard_map (redate_graph f) (well_formed g) 9 (guard (not (held g n)) 8 (guard room 23 (ok h)))

  pub borrow_weak_redate : (g : Graph) (p : ℕ) (path : List ℕ) (c o : ℕ)
      → borrow_weak (redate_graph f g) p path c (f o) ≡ map_ans (redate_graph f) (borrow_weak g p path c o)
  unfolding borrow_weak
  borrow_weak_redate g p path c o =
      let new : ℕ → List GEdge = λ n. between p (record { strong = false; path = path; offset = n }) c ∷ [] in
      edit_redate (well_formed g && pair_ok g.names p c) (well_formed (redate_graph f g) && pair_ok g.names p c)
      (new o) (new (f o)) g (redate_graph f g)
      (λ i. well_formed_redate g i && pair_ok g.names p c) refl refl

  pub borrow_strong_redate : (g : Graph) (p : ℕ) (path : List ℕ) (c o : ℕ)
      → borrow_strong (redate_graph f g) p path c (f o) ≡ map_ans (redate_graph f) (borrow_strong g p path c o)
  unfolding borrow_strong
  borrow_strong_redate g p path c o =
      let ms : List GEdge = keep (moves p path) g.edges in
      let new : ℕ → List GEdge = λ n. between p (record { strong = true; path = path; offset = n }) c ∷ [] in
      let stay : GEdge → Bool = λ x. not (moves p path x) in
      let moved : keep (moves p path) (redate_all f g.edges) ≡ redate_all f ms = keep_map (redate_gedge f) _ _ (λ x. refl) g.edges in
      edit_redate _ _ (map (shift c path) ms ++ new o) _ (record { names = g.names; edges = keep stay g.edges }) _
      (λ i. well_formed_redate g i && (pair_ok g.names p c
      && (ap (all (λ x. not (eqb c x.child))) moved ∙ all_map (redate_gedge f) _ _ (λ x. refl) ms) i))
      (ap (λ (xs : List GEdge). map (shift c path) xs ++ new (f o)) moved
      ∙ ap (λ (xs : List GEdge). xs ++ new (f o)) (map_swap (redate_gedge f) (redate_gedge f) (shift c path) (shift c path) (λ x. refl) ms)
      ∙ sym (map-append (redate_gedge f) (map (shift c path) ms) (new o)))
      (λ i. record { names = g.names; edges = keep_map (redate_gedge f) stay stay (λ x. refl) g.edges i })

  -- ---- names changed together, the end of a block

  put_edge_redate : (x : GEdge) (ys : List GEdge) → put_edge (redate_gedge f x) (redate_all f ys) ≡ redate_all f (put_edge x ys)
  unfolding put_edge
  put_edge_redate x [] = refl
  put_edge_redate x (y ∷ ys) =
      (λ i. cond (not_before x y) (redate_gedge f x ∷ redate_gedge f y ∷ redate_all f ys) (redate_gedge f y ∷ put_edge_redate x ys i))
      ∙ past (redate_all f) (not_before x y) (x ∷ y ∷ ys) (y ∷ put_edge x ys)

  rename_edges_redate : (to : ℕ → ℕ) (xs : List GEdge) → rename_edges to (redate_all f xs) ≡ redate_all f (rename_edges to xs)
  unfolding rename_edges
  rename_edges_redate to [] = refl
  rename_edges_redate to (x ∷ xs) =
      ap (put_edge (with_ends to (redate_gedge f x))) (rename_edges_redate to xs) ∙ put_edge_redate (with_ends to x) (rename_edges to xs)

  pub renamed_redate : (to : ℕ → ℕ) (g : Graph) → renamed to (redate_graph f g) ≡ redate_graph f (renamed to g)
  unfolding renamed
  renamed_redate to g = λ i. record { names = rename_names to g.names; edges = rename_edges_redate to g.edges i }

  pub canonical_redate : (l : ℕ) (s : State) → canonical l (redate_state f s) ≡ redate_state f (canonical l s)
  unfolding canonical
  canonical_redate l s = λ i. record { locals = own_names 0 s.locals; graph = renamed_redate (new_name_of l s.locals) s.graph i }

  -- ---- the join of states

  abbrev redate_step : Step → Step
  redate_step s = record { local = s.local; ours = redate_graph f s.ours; theirs = redate_graph f s.theirs }

  abbrev redate_parts : Parts → Parts
  redate_parts r = record { locals = r.locals; ours = redate_graph f r.ours; theirs = redate_graph f r.theirs; blurs = r.blurs }

  join_local_redate : (a b : Local) (g h : Graph) → join_local a b (redate_graph f g) (redate_graph f h) ≡ map_ans redate_step (join_local a b g h)
  unfolding join_local
  join_local_redate absent absent g h = refl
  join_local_redate absent value g h = refl
  join_local_redate absent (ref n) g h = rw (release_redate h n) (and_then_map (redate_graph f) redate_step (release h n) _ _ (λ k. refl))
  join_local_redate value absent g h = refl
  join_local_redate (ref n) absent g h = rw (release_redate g n) (and_then_map (redate_graph f) redate_step (release g n) _ _ (λ k. refl))
  join_local_redate value value g h = refl
  join_local_redate value (ref n) g h = refl
  join_local_redate (ref n) value g h = refl
  join_local_redate (ref n) (ref m) g h = guard_map redate_step (eqb n m) 15 (ok (record { local = ref n; ours = g; theirs = h }))

  join_locals_redate : (xs ys : List Local) (g h : Graph)
      → join_locals xs ys (redate_graph f g) (redate_graph f h) ≡ map_ans redate_parts (join_locals xs ys g h)
  unfolding join_locals
  join_locals_redate [] [] g h = refl
  join_locals_redate [] (y ∷ ys) g h = refl
  join_locals_redate (x ∷ xs) [] g h = refl
  join_locals_redate (x ∷ xs) (y ∷ ys) g h =
      rw (join_local_redate x y g h) (and_then_map redate_step redate_parts (join_local x y g h) _ _ (λ s.
      rw (join_locals_redate xs ys s.ours s.theirs) (and_then_map redate_parts redate_parts (join_locals xs ys s.ours s.theirs) _ _ (λ r i.
      ok (record {
        locals = s.local ∷ r.locals;
        ours = redate_graph f r.ours;
        theirs = redate_graph f r.theirs;
        blurs = blurs_redate g.edges s.ours.edges i + blurs_redate h.edges s.theirs.edges i + r.blurs;
      })))))

  pub join_redate : (s t : State) → join (redate_state f s) (redate_state f t) ≡ map_ans (redate_state f) (join s t)
  unfolding join
  join_redate s t =
      rw (join_locals_redate s.locals t.locals s.graph t.graph)
      (and_then_map redate_parts (redate_state f) (join_locals s.locals t.locals s.graph t.graph) _ _ (λ r.
      rw (join_graphs_redate r.ours r.theirs) (and_then_map (redate_graph f) (redate_state f) (join_graphs r.ours r.theirs) _ _ (λ g. refl))))

  pub join_blurs_redate : (s t : State) → join_blurs (redate_state f s) (redate_state f t) ≡ join_blurs s t
  unfolding join_blurs
  join_blurs_redate s t =
      rw (join_locals_redate s.locals t.locals s.graph t.graph)
      (passed_map redate_parts (join_locals s.locals t.locals s.graph t.graph) _ _ (λ r.
      rw (join_graphs_redate r.ours r.theirs)
      (passed_map (redate_graph f) (join_graphs r.ours r.theirs) _ _ (λ g i. r.blurs + blurs_redate r.ours.edges g.edges i))))

  eq_edges_redate : (xs ys : List Edge) → eq_edges (map (redate_edge f) xs) (map (redate_edge f) ys) ≡ eq_edges xs ys
  unfolding eq_edges
  eq_edges_redate [] [] = refl
  eq_edges_redate [] (y ∷ ys) = refl
  eq_edges_redate (x ∷ xs) [] = refl
  eq_edges_redate (x ∷ xs) (y ∷ ys) = λ i. eq_edge_redate x y i && eq_edges_redate xs ys i

  eq_set_redate : (s t : EdgeSet) → eq_set (redate_set f s) (redate_set f t) ≡ eq_set s t
  unfolding eq_set
  eq_set_redate s t = λ i. beq s.blurred t.blurred && eq_edges_redate s.edges t.edges i

  eq_sets_redate : (g h : Graph) → eq_sets (redate_graph f g) (redate_graph f h) ≡ eq_sets g h
  unfolding eq_sets
  eq_sets_redate g h =
      rw (← (map-append (redate_gedge f) g.edges h.edges))
      (all_map (redate_gedge f) _ _ (λ x.
      (λ i. eq_set (set_at_redate x.parent x.child g.edges i) (set_at_redate x.parent x.child h.edges i))
      ∙ eq_set_redate (set_at x.parent x.child g.edges) (set_at x.parent x.child h.edges)) (g.edges ++ h.edges))

  pub changed_redate : (s t : State) → changed (redate_state f s) (redate_state f t) ≡ changed s t
  unfolding changed
  changed_redate s t = λ i. not (eq_locals s.locals t.locals && eq_sets_redate s.graph t.graph i)

-- ---- the lowest offset, of a change that keeps minima

pub lowest_redate : (f : ℕ → ℕ) → ((a b : ℕ) → f (min a b) ≡ min (f a) (f b)) → (p q : GEdge → Bool) → ((x : GEdge) → q (redate_gedge f x) ≡ p x)
    → (xs : List GEdge)
    → lowest_of q (redate_all f xs) ≡ Option.map f (lowest_of p xs)
unfolding lowest_of
lowest_redate f minima p q e [] = refl
lowest_redate f minima p q e (x ∷ xs) =
    (λ i. cond (e x i) (some (lower_of (f x.edge.offset) (lowest_redate f minima p q e xs i))) (lowest_redate f minima p q e xs i))
    ∙ (λ i. cond (p x) (some (lower x.edge.offset (lowest_of p xs) i)) (Option.map f (lowest_of p xs)))
    ∙ past (Option.map f) (p x) (some (lower_of x.edge.offset (lowest_of p xs))) (lowest_of p xs)
  where
    lower : (o : ℕ) (m : Option ℕ) → lower_of (f o) (Option.map f m) ≡ f (lower_of o m)
    lower o none = refl
    lower o (some a) = sym (minima o a)
