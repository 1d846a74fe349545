-- A block that keeps `Open` ends in a state of the form.
use Prim.Native.Nat.{suc, ℕ, ◌<◌, ◌≤◌, zero, ◌+◌}
use native.Mathlib.Omega.{arith}
use Rattle.std.proofs.Math.Bool.{Bool, true, false, cond, not}
use Rattle.std.proofs.Common.{true≢false, sym, ◌∙◌}
use Rattle.std.proofs.lemmas.Bool.{false≢true}
use Rattle.std.specs.Prelude.{◌&&◌, ◌||◌, ◌⊎◌, ◌≢◌, ◌≡◌}
use mathlib.Core.List.{List, [], ◌∷◌}
use Rattle.std.proofs.Math.Logic.{inl, inr}
use Rattle.std.proofs.Math.Path.{refl, ap, subst}
use Rattle.std.proofs.Math.Nat.{zero-add}
use Rattle.std.proofs.Math.Dec.{eqb, ltb, leb}
use Rattle.std.proofs.Math.ListN.{length, get_or}
use Rattle.meaning.specs.Lists.{all}
use Rattle.meaning.specs.References.{EdgeSet, empty_set, set_ok}
use Rattle.meaning.specs.BorrowGraph.{GEdge, not_before, put_edge, lt_pair, in_order, eq_pair, union, one, set_at, with_ends, rename_edges, Name, holds, ascending, pair_ok, on_pairs, with_id, rename_names, Graph, held, renamed}
use Rattle.meaning.specs.AbstractState.{Local, absent, ref, eq_local, local_holding, value, own_names, State, Form, new_name_of, canonical}
use Rattle.meaning.proofs.Laws.Base.{and_l, and_r, and_i, decide, both, not_true, all_imp, or_l, or_r, or_cases, eqb_eq, eqb_self, eqb_no, eqb_ne, leb_le, le_leb, all_and}
use Rattle.meaning.proofs.Laws.Borrow.{holds_place, length_place, ascending_place}
use Rattle.meaning.proofs.Laws.Call.{holds_all, ends_not}
use Rattle.meaning.proofs.Laws.Canon.{same_pair, set_at_hit, set_at_miss}
use Rattle.meaning.proofs.Laws.Change.{eq_local_eq}
use Rattle.meaning.specs.Laws.Forms.{Open, Settled}
use Rattle.meaning.proofs.Laws.Graph.{lt_pair_trans, eq_pair_self, not_before_self, eq_pair_l, eq_pair_r, at_or_empty, empty_ok, Inv, wf→inv, inv→wf, room}
use Rattle.meaning.proofs.Laws.State.{absent≢ref, value≢ref, ref_inj}

-- ---- an edge placed

place_all : (f : GEdge → Bool) (x : GEdge) (ys : List GEdge) → f x ≡ true → all f ys ≡ true → all f (put_edge x ys) ≡ true
unfolding put_edge
place_all f x [] h k = and_i h refl
place_all f x (y ∷ ys) h k = go (not_before x y) (place_all f x ys h (and_r (f y) (all f ys) k))
  where
    go : (b : Bool) → all f (put_edge x ys) ≡ true → all f (cond b (x ∷ y ∷ ys) (y ∷ put_edge x ys)) ≡ true
    go true r = and_i h k
    go false r = and_i (and_l (f y) (all f ys) k) r

place_length : (x : GEdge) (ys : List GEdge) → length (put_edge x ys) ≡ suc (length ys)
unfolding put_edge
place_length x [] = refl
place_length x (y ∷ ys) = go (not_before x y) (place_length x ys)
  where
    go : (b : Bool) → length (put_edge x ys) ≡ suc (length ys) → length (cond b (x ∷ y ∷ ys) (y ∷ put_edge x ys)) ≡ suc (suc (length ys))
    go true r = refl
    go false r = ap suc r

-- z not before y, y not before x: z is not before x
not_before_trans : (x y z : GEdge) → not_before x y ≡ true → not_before y z ≡ true → not_before x z ≡ true
not_before_trans x y z h k =
    decide (lt_pair x.parent x.child z.parent z.child)
    (λ l. absurd (decide (lt_pair y.parent y.child x.parent x.child)
    (λ m. both (lt_pair_trans y.parent y.child x.parent x.child z.parent z.child m l) (not_true k))
    (λ m. let e = same_pair x.parent x.child y.parent y.child (not_true h) m in
    both (subst (λ (p : ℕ). lt_pair p y.child z.parent z.child ≡ true) e.0 (subst (λ (c : ℕ). lt_pair x.parent c z.parent z.child ≡ true) e.1 l)) (not_true k))))
    (λ l. ap not l)

not_before_turn : (x y : GEdge) → not_before x y ≡ false → not_before y x ≡ true
not_before_turn x y h =
    decide (lt_pair y.parent y.child x.parent x.child)
    (λ l. absurd (both (lt_pair_trans y.parent y.child x.parent x.child y.parent y.child l (not_no (lt_pair x.parent x.child y.parent y.child) h))
    (not_before_self y.parent y.child y.parent y.child (eq_pair_self y.parent y.child))))
    (λ l. ap not l)
  where
    not_no : (b : Bool) → not b ≡ false → b ≡ true
    not_no true e = refl
    not_no false e = absurd (true≢false e)

place_order : (x : GEdge) (ys : List GEdge) → in_order ys ≡ true → in_order (put_edge x ys) ≡ true
unfolding put_edge in_order
place_order x [] h = refl
place_order x (y ∷ ys) h = go (not_before x y) refl (place_order x ys (and_r (all (not_before y) ys) (in_order ys) h))
  where
    go : (b : Bool) → not_before x y ≡ b → in_order (put_edge x ys) ≡ true → in_order (cond b (x ∷ y ∷ ys) (y ∷ put_edge x ys)) ≡ true
    go true e r = and_i (and_i e (all_imp (not_before y) (not_before x) (λ z k. not_before_trans x y z e k) ys (and_l (all (not_before y) ys) (in_order ys) h))) h
    go false e r = and_i (place_all (not_before y) x ys (not_before_turn x y e) (and_l (all (not_before y) ys) (in_order ys) h)) r

-- the sets are those of the edge in front
pub place_set : (p c : ℕ) (x : GEdge) (ys : List GEdge) → set_at p c (put_edge x ys) ≡ set_at p c (x ∷ ys)
unfolding put_edge
place_set p c x [] = refl
place_set p c x (y ∷ ys) = go (not_before x y) refl (place_set p c x ys)
  where
    go : (b : Bool) → not_before x y ≡ b → set_at p c (put_edge x ys) ≡ set_at p c (x ∷ ys) → set_at p c (cond b (x ∷ y ∷ ys) (y ∷ put_edge x ys)) ≡ set_at p c (x ∷ y ∷ ys)
    go true e r = refl
    go false e r =
        decide (eq_pair p c y.parent y.child)
        (λ hy. decide (eq_pair p c x.parent x.child)
        (λ hx. absurd (false≢true (sym e ∙ ap not (not_before_self x.parent x.child y.parent y.child
        (and_i (subst (λ (n : ℕ). eqb n y.parent ≡ true) (eq_pair_l p c x.parent x.child hx) (and_l (eqb p y.parent) (eqb c y.child) hy))
        (subst (λ (n : ℕ). eqb n y.child ≡ true) (eq_pair_r p c x.parent x.child hx) (and_r (eqb p y.parent) (eqb c y.child) hy)))))))
        (λ hx. set_at_hit p c y (put_edge x ys) hy ∙ ap (λ (s : EdgeSet). union (one y) s) (r ∙ set_at_miss p c x ys hx) ∙ sym (set_at_miss p c x (y ∷ ys) hx ∙ set_at_hit p c y ys hy)))
        (λ hy. set_at_miss p c y (put_edge x ys) hy ∙ r ∙ decide (eq_pair p c x.parent x.child)
        (λ hx. set_at_hit p c x ys hx ∙ sym (set_at_hit p c x (y ∷ ys) hx ∙ ap (λ (s : EdgeSet). union (one x) s) (set_at_miss p c y ys hy)))
        (λ hx. set_at_miss p c x ys hx ∙ sym (set_at_miss p c x (y ∷ ys) hx ∙ set_at_miss p c y ys hy)))

-- ---- all edges

rename_all : (f : ℕ → ℕ) (t : GEdge → Bool) (xs : List GEdge) → all (λ x. t (with_ends f x)) xs ≡ true → all t (rename_edges f xs) ≡ true
unfolding rename_edges
rename_all f t [] h = refl
rename_all f t (x ∷ xs) h =
    place_all t (with_ends f x) (rename_edges f xs) (and_l (t (with_ends f x)) (all (λ y. t (with_ends f y)) xs) h) (rename_all f t xs (and_r (t (with_ends f x)) (all (λ y. t (with_ends f y)) xs) h))

pub rename_length : (f : ℕ → ℕ) (xs : List GEdge) → length (rename_edges f xs) ≡ length xs
unfolding rename_edges
rename_length f [] = refl
rename_length f (x ∷ xs) = place_length (with_ends f x) (rename_edges f xs) ∙ ap suc (rename_length f xs)

pub rename_order : (f : ℕ → ℕ) (xs : List GEdge) → in_order (rename_edges f xs) ≡ true
unfolding rename_edges in_order
rename_order f [] = refl
rename_order f (x ∷ xs) = place_order (with_ends f x) (rename_edges f xs) (rename_order f xs)

module _ (f : ℕ → ℕ) (ns : List Name) (inj : (m n : ℕ) → holds ns m ≡ true → holds ns n ≡ true → f m ≡ f n → m ≡ n) where
  pub same_test : (m n : ℕ) → holds ns m ≡ true → holds ns n ≡ true → eqb (f m) (f n) ≡ eqb m n
  same_test m n hm hn =
      decide (eqb m n)
      (λ e. subst (λ (k : ℕ). eqb (f m) (f k) ≡ true) (eqb_eq {m = m} {n = n} e) (eqb_self (f m)) ∙ sym e)
      (λ e. eqb_no {m = f m} {n = f n} (λ q. eqb_ne {m = m} {n = n} e (inj m n hm hn q)) ∙ sym e)

  pub rename_set : (p c : ℕ) → holds ns p ≡ true → holds ns c ≡ true → (xs : List GEdge) → on_pairs (pair_ok ns) xs ≡ true → set_at (f p) (f c) (rename_edges f xs) ≡ set_at p c xs
  unfolding rename_edges set_at
  rename_set p c hp hc [] h = refl
  rename_set p c hp hc (x ∷ xs) h =
      let hx : pair_ok ns x.parent x.child ≡ true = and_l (pair_ok ns x.parent x.child) (on_pairs (pair_ok ns) xs) h in
      let h1 : holds ns x.parent ≡ true = and_l (holds ns x.parent) (holds ns x.child && not (eqb x.parent x.child)) hx in
      let h2 : holds ns x.child ≡ true = and_l (holds ns x.child) (not (eqb x.parent x.child)) (and_r (holds ns x.parent) (holds ns x.child && not (eqb x.parent x.child)) hx) in
      let e₁ : eqb (f p) (f x.parent) ≡ eqb p x.parent = same_test p x.parent hp h1 in
      let e₂ : eqb (f c) (f x.child) ≡ eqb c x.child = same_test c x.child hc h2 in
      let r : set_at (f p) (f c) (rename_edges f xs) ≡ set_at p c xs = rename_set p c hp hc xs (and_r (pair_ok ns x.parent x.child) (on_pairs (pair_ok ns) xs) h) in
      place_set (f p) (f c) (with_ends f x) (rename_edges f xs)
      ∙ (λ i. cond (e₁ i && e₂ i) (union (one x) (r i)) (r i))

  -- names

  pub names_hold : (k : ℕ) (ms : List Name) → holds (rename_names f ms) k ≡ true → (n : ℕ) × (holds ms n ≡ true) × (k ≡ f n)
  unfolding rename_names holds
  names_hold k [] h = absurd (false≢true h)
  names_hold k (a ∷ ms) h = go (or_cases (eqb k (f a.id)) (holds (rename_names f ms) k) (sym (holds_place (with_id f a) (rename_names f ms) k) ∙ h)) (names_hold k ms)
    where
      go : (eqb k (f a.id) ≡ true) ⊎ (holds (rename_names f ms) k ≡ true) → (holds (rename_names f ms) k ≡ true → (n : ℕ) × (holds ms n ≡ true) × (k ≡ f n))
          → (n : ℕ) × (holds (a ∷ ms) n ≡ true) × (k ≡ f n)
      go (inl e) r = (a.id, or_l (holds ms a.id) (eqb_self a.id), eqb_eq {m = k} {n = f a.id} e)
      go (inr e) r = let z = r e in (z.0, or_r (eqb z.0 a.id) z.1, z.2)

  pub hold_names : (n : ℕ) (ms : List Name) → holds ms n ≡ true → holds (rename_names f ms) (f n) ≡ true
  unfolding rename_names holds
  hold_names n [] h = absurd (false≢true h)
  hold_names n (a ∷ ms) h = holds_place (with_id f a) (rename_names f ms) (f n) ∙ go (or_cases (eqb n a.id) (holds ms n) h) (hold_names n ms)
    where
      go : (eqb n a.id ≡ true) ⊎ (holds ms n ≡ true) → (holds ms n ≡ true → holds (rename_names f ms) (f n) ≡ true) → eqb (f n) (f a.id) || holds (rename_names f ms) (f n) ≡ true
      go (inl e) r = or_l (holds (rename_names f ms) (f n)) (subst (λ (k : ℕ). eqb (f n) (f k) ≡ true) (eqb_eq {m = n} {n = a.id} e) (eqb_self (f n)))
      go (inr e) r = or_r (eqb (f n) (f a.id)) (r e)

  pub names_length : (ms : List Name) → length (rename_names f ms) ≡ length ms
  unfolding rename_names
  names_length [] = refl
  names_length (a ∷ ms) = length_place (with_id f a) (rename_names f ms) ∙ ap suc (names_length ms)

  -- a part of the names, each below 65,536 when renamed
  pub names_ascend : ((n : ℕ) → holds ns n ≡ true → f n < 65536) → (ms : List Name) → ((n : ℕ) → holds ms n ≡ true → holds ns n ≡ true) → ascending ms ≡ true → ascending (rename_names f ms) ≡ true
  unfolding rename_names ascending holds
  names_ascend small [] sub h = refl
  names_ascend small (a ∷ ms) sub h =
      let t : Name → Bool = λ m. ltb a.id m.id in
      let ha : holds ns a.id ≡ true = sub a.id (or_l (holds ms a.id) (eqb_self a.id)) in
      let up : all t ms ≡ true = and_r (ltb a.id 65536) (all t ms) (and_l (ltb a.id 65536 && all t ms) (ascending ms) h) in
      ascending_place (with_id f a) (rename_names f ms) (le_leb (small a.id ha))
      (decide (holds (rename_names f ms) (f a.id))
      (λ e. let z = names_hold (f a.id) ms e in
      let q : a.id ≡ z.0 = inj a.id z.0 ha (sub z.0 (or_r (eqb z.0 a.id) z.1)) z.2 in
      let l : a.id < z.0 = leb_le (holds_all (λ n. ltb a.id n) ms z.0 z.1 up) in
      absurd (omega arith))
      (λ e. e))
      (names_ascend small ms (λ n k. sub n (or_r (eqb n a.id) k)) (and_r (ltb a.id 65536 && all t ms) (ascending ms) h))

-- names changed by a function that keeps them apart: the graph stays well formed
pub rename_inv : (f : ℕ → ℕ) (g : Graph) → ((m n : ℕ) → held g m ≡ true → held g n ≡ true → f m ≡ f n → m ≡ n) → ((n : ℕ) → held g n ≡ true → f n < 65536) → Inv g → Inv (renamed f g)
unfolding renamed
rename_inv f g inj small v =
    let ns : List Name = g.names in
    let xs : List GEdge = g.edges in
    record {
      few = let l : length (rename_names f ns) ≡ length ns = names_length f ns inj ns in let k : length ns ≤ 48 = v.few in omega arith;
      asc = names_ascend f ns inj small ns (λ n h. h) v.asc;
      pairs = rename_all f (λ x. pair_ok (rename_names f ns) x.parent x.child) xs
          (all_imp (λ x. pair_ok ns x.parent x.child) (λ x. pair_ok (rename_names f ns) (f x.parent) (f x.child)) (λ x h. carry x.parent x.child h) xs v.pairs);
      sets = λ q d. at_set q d (at_or_empty (λ m n. set_ok (set_at m n (rename_edges f xs))) q d (rename_edges f xs)
          (rename_all f (λ x. set_ok (set_at x.parent x.child (rename_edges f xs))) xs
          (all_imp (λ x. pair_ok ns x.parent x.child) (λ x. set_ok (set_at (f x.parent) (f x.child) (rename_edges f xs)))
          (λ x h. ap set_ok (rename_set f ns inj x.parent x.child (first x.parent x.child h) (second x.parent x.child h) xs v.pairs) ∙ v.sets x.parent x.child) xs v.pairs)));
      order = rename_order f xs;
    }
  where
    first : (p c : ℕ) → pair_ok g.names p c ≡ true → holds g.names p ≡ true
    first p c h = and_l (holds g.names p) (holds g.names c && not (eqb p c)) h

    second : (p c : ℕ) → pair_ok g.names p c ≡ true → holds g.names c ≡ true
    second p c h = and_l (holds g.names c) (not (eqb p c)) (and_r (holds g.names p) (holds g.names c && not (eqb p c)) h)

    carry : (p c : ℕ) → pair_ok g.names p c ≡ true → pair_ok (rename_names f g.names) (f p) (f c) ≡ true
    carry p c h =
        and_i (hold_names f g.names inj p g.names (first p c h))
        (and_i (hold_names f g.names inj c g.names (second p c h))
        (ap not (same_test f g.names inj p c (first p c h) (second p c h) ∙ not_true (and_r (holds g.names c) (not (eqb p c)) (and_r (holds g.names p) (holds g.names c && not (eqb p c)) h)))))

    at_set : (q d : ℕ) → (set_ok (set_at q d (rename_edges f g.edges)) ≡ true) ⊎ (set_at q d (rename_edges f g.edges) ≡ empty_set) → set_ok (set_at q d (rename_edges f g.edges)) ≡ true
    at_set q d (inl h) = h
    at_set q d (inr h) = ap set_ok h ∙ empty_ok

-- ---- the end of a block

-- the index found is that of a local that holds the name
index_law : (d n i : ℕ) (xs : List Local) (j : ℕ) → get_or xs j absent ≡ ref n → (k : ℕ) × (local_holding d n i xs ≡ i + k) × (k < length xs) × (get_or xs k absent ≡ ref n)
unfolding local_holding
index_law d n i [] j h = absurd (absent≢ref h)
index_law d n i (x ∷ xs) zero h =
    (zero, ap (λ (b : Bool). cond b i (local_holding d n (suc i) xs)) (subst (λ (y : Local). eq_local y (ref n) ≡ true) (sym h) (eqb_self n)) ∙ zero_right i, omega arith, h)
  where
    zero_right : (m : ℕ) → m ≡ m + 0
    zero_right m = omega arith
index_law d n i (x ∷ xs) (suc j) h = go (eq_local x (ref n)) refl (index_law d n (suc i) xs j h)
  where
    go : (b : Bool) → eq_local x (ref n) ≡ b → (k : ℕ) × (local_holding d n (suc i) xs ≡ suc i + k) × (k < length xs) × (get_or xs k absent ≡ ref n)
        → (k : ℕ) × (cond b i (local_holding d n (suc i) xs) ≡ i + k) × (k < length (x ∷ xs)) × (get_or (x ∷ xs) k absent ≡ ref n)
    go true e z = (zero, omega arith, omega arith, eq_local_eq x (ref n) e)
    go false e z =
        let q : local_holding d n (suc i) xs ≡ suc i + z.0 = z.1 in
        let l : z.0 < length xs = z.2 in
        (suc z.0, omega arith, omega arith, z.3)

own_length : (i : ℕ) (xs : List Local) → length (own_names i xs) ≡ length xs
unfolding own_names
own_length i [] = refl
own_length i (absent ∷ xs) = ap suc (own_length (suc i) xs)
own_length i (value ∷ xs) = ap suc (own_length (suc i) xs)
own_length i (ref n ∷ xs) = ap suc (own_length (suc i) xs)

-- each reference is named by its local's index
own_name_lem : (i : ℕ) (xs : List Local) (j n : ℕ) → get_or (own_names i xs) j absent ≡ ref n → n ≡ i + j
unfolding own_names
own_name_lem i [] j n h = absurd (absent≢ref h)
own_name_lem i (absent ∷ xs) zero n h = absurd (absent≢ref h)
own_name_lem i (value ∷ xs) zero n h = absurd (value≢ref h)
own_name_lem i (ref m ∷ xs) zero n h = let e : i ≡ n = ref_inj h in omega arith
own_name_lem i (absent ∷ xs) (suc j) n h = let e : n ≡ suc i + j = own_name_lem (suc i) xs j n h in omega arith
own_name_lem i (value ∷ xs) (suc j) n h = let e : n ≡ suc i + j = own_name_lem (suc i) xs j n h in omega arith
own_name_lem i (ref m ∷ xs) (suc j) n h = let e : n ≡ suc i + j = own_name_lem (suc i) xs j n h in omega arith

-- a local without a reference stays as it is
pub own_rest : (i : ℕ) (xs : List Local) (j : ℕ) (x : Local) → get_or xs j absent ≡ x → ((n : ℕ) → x ≢ ref n) → get_or (own_names i xs) j absent ≡ x
unfolding own_names
own_rest i [] j x h d = h
own_rest i (absent ∷ xs) zero x h d = h
own_rest i (value ∷ xs) zero x h d = h
own_rest i (ref m ∷ xs) zero x h d = absurd (d m (sym h))
own_rest i (absent ∷ xs) (suc j) x h d = own_rest (suc i) xs j x h d
own_rest i (value ∷ xs) (suc j) x h d = own_rest (suc i) xs j x h d
own_rest i (ref m ∷ xs) (suc j) x h d = own_rest (suc i) xs j x h d

-- a reference stays one
pub own_ref : (i : ℕ) (xs : List Local) (j n : ℕ) → get_or xs j absent ≡ ref n → get_or (own_names i xs) j absent ≡ ref (i + j)
unfolding own_names
own_ref i [] j n h = absurd (absent≢ref h)
own_ref i (absent ∷ xs) zero n h = absurd (absent≢ref h)
own_ref i (value ∷ xs) zero n h = absurd (value≢ref h)
own_ref i (ref m ∷ xs) zero n h = let e : i ≡ i + 0 = omega arith in ap ref e
own_ref i (absent ∷ xs) (suc j) n h = let e : suc i + j ≡ i + suc j = omega arith in own_ref (suc i) xs j n h ∙ ap ref e
own_ref i (value ∷ xs) (suc j) n h = let e : suc i + j ≡ i + suc j = omega arith in own_ref (suc i) xs j n h ∙ ap ref e
own_ref i (ref m ∷ xs) (suc j) n h = let e : suc i + j ≡ i + suc j = omega arith in own_ref (suc i) xs j n h ∙ ap ref e

module _ (l : ℕ) (s : State) (o : Open l s) where
  abbrev pub new : ℕ → ℕ
  new n = new_name_of l s.locals n

  -- a held name's new name: the root's own, or the index of a local that holds it
  abbrev pub Place : ℕ → Type 0
  Place n = ((n ≡ l) × (new n ≡ l)) ⊎ ((n ≢ l) × (new n < l) × (get_or s.locals (new n) absent ≡ ref n))

  pub found : (n : ℕ) → n ≢ l → (j : ℕ) → get_or s.locals j absent ≡ ref n → (new n < l) × (get_or s.locals (new n) absent ≡ ref n)
  unfolding new_name_of
  found n d j h =
      let z = index_law n n 0 s.locals j h in
      let c : length s.locals ≡ l = o.count in
      let k : z.0 < length s.locals = z.2 in
      let e : new n ≡ z.0 = ap (λ (b : Bool). cond b l (local_holding n n 0 s.locals)) (eqb_no {m = n} {n = l} d) ∙ z.1 ∙ zero-add z.0 in
      (omega arith, subst (λ (i : ℕ). get_or s.locals i absent ≡ ref n) (sym e) z.3)

  pub place : (n : ℕ) → held s.graph n ≡ true → Place n
  unfolding new_name_of
  place n h = decide (eqb n l)
      (λ e. inl (eqb_eq {m = n} {n = l} e, ap (λ (b : Bool). cond b l (local_holding n n 0 s.locals)) e))
      (λ e. inr (other (eqb_ne {m = n} {n = l} e) (o.among n h)))
    where
      other : n ≢ l → (n ≡ l) ⊎ ((i : ℕ) × (get_or s.locals i absent ≡ ref n)) → (n ≢ l) × (new n < l) × (get_or s.locals (new n) absent ≡ ref n)
      other d (inl e) = absurd (d e)
      other d (inr z) = let y = found n d z.0 z.1 in (d, y.0, y.1)

  pub apart : (m n : ℕ) → Place m → Place n → new m ≡ new n → m ≡ n
  apart m n (inl a) (inl b) e = a.0 ∙ sym b.0
  apart m n (inl a) (inr b) e = let x : new m ≡ l = a.1 in let y : new n < l = b.1 in absurd (omega arith)
  apart m n (inr a) (inl b) e = let x : new n ≡ l = b.1 in let y : new m < l = a.1 in absurd (omega arith)
  apart m n (inr a) (inr b) e = ref_inj (sym a.2 ∙ subst (λ (i : ℕ). get_or s.locals i absent ≡ ref n) (sym e) b.2)

  pub small : (n : ℕ) → Place n → new n < 65536
  small n (inl a) = let x : new n ≡ l = a.1 in let y : l < 65536 = o.small in omega arith
  small n (inr a) = let x : new n < l = a.1 in let y : l < 65536 = o.small in omega arith

  end : State
  end = record { locals = own_names 0 s.locals; graph = renamed new s.graph }

  inv : Inv (renamed new s.graph)
  inv = rename_inv new s.graph (λ m n hm hn e. apart m n (place m hm) (place n hn) e) (λ n h. small n (place n h)) (wf→inv s.graph o.formed)

  end_among : (k : ℕ) → held end.graph k ≡ true → (k ≡ l) ⊎ (get_or end.locals k absent ≡ ref k)
  unfolding end renamed
  end_among k h =
      let z = names_hold new s.graph.names (λ m n hm hn e. apart m n (place m hm) (place n hn) e) k s.graph.names h in
      go z.0 z.2 (place z.0 z.1)
    where
      go : (n : ℕ) → k ≡ new n → Place n → (k ≡ l) ⊎ (get_or (own_names 0 s.locals) k absent ≡ ref k)
      go n e (inl a) = inl (e ∙ a.1)
      go n e (inr a) =
          inr (subst (λ (i : ℕ). get_or (own_names 0 s.locals) i absent ≡ ref i) (sym e) (own_ref 0 s.locals (new n) n a.2 ∙ ap ref (zero-add (new n))))

  end_no_root : on_pairs (ends_not l) end.graph.edges ≡ true
  unfolding end renamed
  end_no_root =
      rename_all new (λ x. ends_not l x.parent x.child) s.graph.edges
      (all_imp (λ x. pair_ok s.graph.names x.parent x.child && ends_not l x.parent x.child) (λ x. ends_not l (new x.parent) (new x.child))
      (λ x h. let q : pair_ok s.graph.names x.parent x.child ≡ true = and_l (pair_ok s.graph.names x.parent x.child) (ends_not l x.parent x.child) h in
      let hc : held s.graph x.child ≡ true = and_l (holds s.graph.names x.child) (not (eqb x.parent x.child)) (and_r (holds s.graph.names x.parent) (holds s.graph.names x.child && not (eqb x.parent x.child)) q) in
      ap not (go x.child (place x.child hc) (not_true (and_r (pair_ok s.graph.names x.parent x.child) (ends_not l x.parent x.child) h))))
      s.graph.edges
      (all_and (λ x. pair_ok s.graph.names x.parent x.child) (λ x. ends_not l x.parent x.child) s.graph.edges (wf→inv s.graph o.formed).pairs o.no_root))
    where
      go : (c : ℕ) → Place c → eqb c l ≡ false → eqb (new c) l ≡ false
      go c (inl a) e = absurd (eqb_ne {m = c} {n = l} e a.0)
      go c (inr a) e = eqb_no {m = new c} {n = l} (λ q. let y : new c < l = a.1 in omega arith)

  end_form : Form l end
  unfolding end renamed
  end_form = record {
    count = own_length 0 s.locals ∙ o.count;
    own = λ i n e. own_name_lem 0 s.locals i n e ∙ zero-add i;
    formed = inv→wf (renamed new s.graph) inv (ap (λ (n : ℕ). leb n 96) (rename_length new s.graph.edges) ∙ room s.graph o.formed);
    among = end_among;
    no_root = end_no_root;
  }

-- The renamed end state of a block has the form. (Where its names do not cross, it is the Rust's: InTurn.)
pub canonical_form : (l : ℕ) (s : State) → Open l s → Form l (canonical l s)
unfolding canonical end
canonical_form l s o = end_form l s o

-- ---- the names that the end state holds

own_back : (i : ℕ) (xs : List Local) (j k : ℕ) → get_or (own_names i xs) j absent ≡ ref k → (n : ℕ) × (get_or xs j absent ≡ ref n)
unfolding own_names
own_back i [] j k h = absurd (absent≢ref h)
own_back i (absent ∷ xs) zero k h = absurd (absent≢ref h)
own_back i (value ∷ xs) zero k h = absurd (value≢ref h)
own_back i (ref m ∷ xs) zero k h = (m, refl)
own_back i (absent ∷ xs) (suc j) k h = own_back (suc i) xs j k h
own_back i (value ∷ xs) (suc j) k h = own_back (suc i) xs j k h
own_back i (ref m ∷ xs) (suc j) k h = own_back (suc i) xs j k h

-- "each by its old value": what local i holds gets the name i
pub own_new : (l : ℕ) (s : State) → Settled l s → (i n : ℕ) → get_or s.locals i absent ≡ ref n → new_name_of l s.locals n ≡ i
own_new l s h i n e = h.once (new_name_of l s.locals n) i n (found l s h.opened n (h.refs i n e).0 i e).1 e

-- the root, and each reference
pub canonical_holds : (l : ℕ) (s : State) → Settled l s
    → (held (canonical l s).graph l ≡ true) × ((i : ℕ) → get_or (canonical l s).locals i absent ≡ ref i → held (canonical l s).graph i ≡ true)
unfolding canonical renamed new_name_of
canonical_holds l s h = (root, refs)
  where
    o : Open l s
    o = h.opened

    f : ℕ → ℕ
    f n = new_name_of l s.locals n

    inj : (m n : ℕ) → held s.graph m ≡ true → held s.graph n ≡ true → f m ≡ f n → m ≡ n
    inj m n hm hn q = apart l s o m n (place l s o m hm) (place l s o n hn) q

    at : (n : ℕ) → held s.graph n ≡ true → holds (rename_names f s.graph.names) (f n) ≡ true
    at n h = hold_names f s.graph.names inj n s.graph.names h

    root : holds (rename_names f s.graph.names) l ≡ true
    root = subst (λ (k : ℕ). holds (rename_names f s.graph.names) k ≡ true) (ap (λ (b : Bool). cond b l (local_holding l l 0 s.locals)) (eqb_self l)) (at l h.root)

    refs : (i : ℕ) → get_or (own_names 0 s.locals) i absent ≡ ref i → holds (rename_names f s.graph.names) i ≡ true
    refs i e =
        let y = own_back 0 s.locals i i e in
        subst (λ (k : ℕ). holds (rename_names f s.graph.names) k ≡ true) (own_new l s h i y.0 y.1) (at y.0 (h.refs i y.0 y.1).1)
