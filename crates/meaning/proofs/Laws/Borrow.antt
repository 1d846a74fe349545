-- The other graph calls keep a graph well formed, and put no edge to a name that had none.
use Rattle.std.specs.Prelude.{◌≤◌, ℕ, suc, ◌<◌, Bool, true, ◌||◌, false, cond, ◌&&◌, not, List, ◌∷◌, [], map, ◌++◌, ◌⊎◌, ◌≢◌, ◌≡◌, refl, leb, eqb, ltb, length}
use Rattle.std.proofs.Common.{zero-le, arith, true≢false, inl, inr, sym, subst, ◌∙◌, ap}
use Rattle.std.proofs.lemmas.Bool.{false≢true}
use Rattle.meaning.specs.Answers.{ok, and_then, guard}
use Rattle.meaning.specs.Lists.{any, all, keep}
use Rattle.meaning.specs.References.{Edge, EdgeSet, ordered, empty_set, lt_edge, weakest, eq_edge, is_blur, short, set_ok}
use Rattle.meaning.specs.BorrowGraph.{GEdge, union, one, eq_pair, set_at, Graph, pair_ok, on_pairs, well_formed, add_all, limit, between, borrow_weak, holds, moves, shift, borrow_strong, Name, put_name, ascending, held, new_name}
use Rattle.meaning.proofs.Laws.Base.{and_l, and_r, and_i, or_l, or_r, or_cases, decide, leb_le, le_leb, all_keep, and_then_ok, guard_ok, all_append, all_imp, all_and, eqb_ne, leb_gt, ok_inj, not_true}
use Rattle.meaning.proofs.Laws.Call.{ends_not}
use Rattle.meaning.proofs.Laws.Graph.{non_empty, solid, set_at_solid, Inv, in_order_keep, inv→wf, limit_ok, add_all_names, add_all_pairs, add_all_inv, wf→inv, room}
use Rattle.meaning.proofs.Laws.Set.{eq_edge_eq, set_ok_unblurred, set_ok_blurred}

-- ---- some edges taken out

-- t is s with some edges left out
record Thinner (s t : EdgeSet) : Type 0 where
  fewer : length t.edges ≤ length s.edges
  every : (f : Edge → Bool) → all f s.edges ≡ true → all f t.edges ≡ true
  order : ordered s.edges ≡ true → ordered t.edges ≡ true
  flag : t.blurred ≡ true → s.blurred ≡ true

thin_none : Thinner empty_set empty_set
thin_none = record { fewer = zero-le; every = λ f h. h; order = λ h. h; flag = λ h. h }

thin_cons : (x : GEdge) (s t : EdgeSet) → Thinner s t → Thinner (union (one x) s) (union (one x) t)
unfolding ordered
thin_cons x s t h = record {
  fewer = let k : length t.edges ≤ length s.edges = h.fewer in omega arith;
  every = λ f k. and_i (and_l (f x.edge) (all f s.edges) k) (h.every f (and_r (f x.edge) (all f s.edges) k));
  order = λ k. and_i (h.every (lt_edge x.edge) (and_l (all (lt_edge x.edge) s.edges) (ordered s.edges) k)) (h.order (and_r (all (lt_edge x.edge) s.edges) (ordered s.edges) k));
  flag = λ k. go (or_cases x.blurred t.blurred k);
}
  where
    go : (x.blurred ≡ true) ⊎ (t.blurred ≡ true) → x.blurred || s.blurred ≡ true
    go (inl e) = or_l s.blurred e
    go (inr e) = or_r x.blurred (h.flag e)

thin_skip : (x : GEdge) (s t : EdgeSet) → Thinner s t → Thinner (union (one x) s) t
unfolding ordered
thin_skip x s t h = record {
  fewer = let k : length t.edges ≤ length s.edges = h.fewer in omega arith;
  every = λ f k. h.every f (and_r (f x.edge) (all f s.edges) k);
  order = λ k. h.order (and_r (all (lt_edge x.edge) s.edges) (ordered s.edges) k);
  flag = λ k. or_r x.blurred (h.flag k);
}

thin_cond : (p c : ℕ) (q : GEdge → Bool) (x : GEdge) (xs : List GEdge) (b d : Bool) → eq_pair p c x.parent x.child ≡ b → Thinner (set_at p c xs) (set_at p c (keep q xs))
    → Thinner (cond b (union (one x) (set_at p c xs)) (set_at p c xs)) (set_at p c (cond d (x ∷ keep q xs) (keep q xs)))
unfolding set_at
thin_cond p c q x xs true true e h =
    subst (λ (z : Bool). Thinner (union (one x) (set_at p c xs)) (cond z (union (one x) (set_at p c (keep q xs))) (set_at p c (keep q xs)))) (sym e) (thin_cons x (set_at p c xs) (set_at p c (keep q xs)) h)
thin_cond p c q x xs true false e h = thin_skip x (set_at p c xs) (set_at p c (keep q xs)) h
thin_cond p c q x xs false true e h =
    subst (λ (z : Bool). Thinner (set_at p c xs) (cond z (union (one x) (set_at p c (keep q xs))) (set_at p c (keep q xs)))) (sym e) h
thin_cond p c q x xs false false e h = h

thin_keep : (p c : ℕ) (q : GEdge → Bool) (xs : List GEdge) → Thinner (set_at p c xs) (set_at p c (keep q xs))
unfolding set_at
thin_keep p c q [] = thin_none
thin_keep p c q (x ∷ xs) = thin_cond p c q x xs (eq_pair p c x.parent x.child) (q x) refl (thin_keep p c q xs)

is_blur_all : (es : List Edge) → is_blur es ≡ true → (length es ≤ 1) × (all (λ e. eq_edge e (weakest 0)) es ≡ true)
unfolding is_blur
is_blur_all [] h = absurd (false≢true h)
is_blur_all (e ∷ []) h = (omega arith, and_i h refl)
is_blur_all (e ∷ f ∷ es) h = absurd (false≢true h)

all_is_blur : (es : List Edge) → non_empty es ≡ true → length es ≤ 1 → all (λ e. eq_edge e (weakest 0)) es ≡ true → is_blur es ≡ true
unfolding is_blur non_empty
all_is_blur [] n l h = absurd (false≢true n)
all_is_blur (e ∷ []) n l h = and_l (eq_edge e (weakest 0)) true h
all_is_blur (e ∷ f ∷ es) n l h = absurd (omega arith)

few_ok : (es : List Edge) → length es ≤ 1 → all (λ x. eq_edge x (weakest 0)) es ≡ true → leb (length es) 10 && (all short es && ordered es) ≡ true
unfolding ordered short
few_ok [] q r = refl
few_ok (e ∷ []) q r =
    subst (λ (x : Edge). leb 1 10 && (all short (x ∷ []) && ordered (x ∷ [])) ≡ true) (sym (eq_edge_eq e (weakest 0) (and_l (eq_edge e (weakest 0)) true r))) refl
few_ok (e ∷ f ∷ es) q r = absurd (omega arith)

thin_ok : (s t : EdgeSet) → solid t ≡ true → Thinner s t → set_ok s ≡ true → set_ok t ≡ true
unfolding solid
thin_ok s t o h k = decide t.blurred
    (λ b. let z = is_blur_all s.edges (sym (set_ok_blurred s (h.flag b)) ∙ k) in
    let l : length s.edges ≤ 1 = z.0 in
    let m : length t.edges ≤ length s.edges = h.fewer in
    set_ok_blurred t b ∙ all_is_blur t.edges (subst (λ (x : Bool). not x || non_empty t.edges ≡ true) b o) (omega arith) (h.every (λ e. eq_edge e (weakest 0)) z.1))
    (λ b. set_ok_unblurred t b ∙ plain s.blurred refl)
  where
    plain : (b : Bool) → s.blurred ≡ b → leb (length t.edges) 10 && (all short t.edges && ordered t.edges) ≡ true
    plain true e =
        let z = is_blur_all s.edges (sym (set_ok_blurred s e) ∙ k) in
        let l : length s.edges ≤ 1 = z.0 in
        let m : length t.edges ≤ length s.edges = h.fewer in
        few_ok t.edges (omega arith) (h.every (λ x. eq_edge x (weakest 0)) z.1)
    plain false e =
        let w : leb (length s.edges) 10 && (all short s.edges && ordered s.edges) ≡ true = sym (set_ok_unblurred s e) ∙ k in
        let w2 : all short s.edges && ordered s.edges ≡ true = and_r (leb (length s.edges) 10) (all short s.edges && ordered s.edges) w in
        let l : length s.edges ≤ 10 = leb_le (and_l (leb (length s.edges) 10) (all short s.edges && ordered s.edges) w) in
        let m : length t.edges ≤ length s.edges = h.fewer in
        let n : length t.edges ≤ 10 = omega arith in
        and_i (le_leb n) (and_i (h.every short (and_l (all short s.edges) (ordered s.edges) w2)) (h.order (and_r (all short s.edges) (ordered s.edges) w2)))

pub keep_inv : (q : GEdge → Bool) (g : Graph) → Inv g → Inv (record { names = g.names; edges = keep q g.edges })
keep_inv q g v = record {
  few = v.few;
  asc = v.asc;
  pairs = all_keep (λ x. pair_ok g.names x.parent x.child) q g.edges v.pairs;
  sets = λ p c. thin_ok (set_at p c g.edges) (set_at p c (keep q g.edges)) (set_at_solid p c (keep q g.edges)) (thin_keep p c q g.edges) (v.sets p c);
  order = in_order_keep q g.edges v.order;
}

-- ---- borrows

pub record Borrowed (g : Graph) (c : ℕ) (h : Graph) : Type 0 where
  pub formed : well_formed h ≡ true
  pub names : h.names ≡ g.names
  pub no_end : (root : ℕ) → eqb c root ≡ false → on_pairs (ends_not root) g.edges ≡ true → on_pairs (ends_not root) h.edges ≡ true

-- edges put into a part of a graph
borrowed_from : (g g₀ : Graph) (c : ℕ) (xs : List GEdge) (h : Graph) → Inv g₀ → g₀.names ≡ g.names → on_pairs (pair_ok g₀.names) xs ≡ true
    → ((root : ℕ) → eqb c root ≡ false → on_pairs (ends_not root) g.edges ≡ true → (on_pairs (ends_not root) g₀.edges ≡ true) × (on_pairs (ends_not root) xs ≡ true))
    → and_then (add_all xs g₀) limit ≡ ok h → Borrowed g c h
borrowed_from g g₀ c xs h v n q r e =
    let y = and_then_ok (add_all xs g₀) limit h e in
    let l = limit_ok y.0 h y.2 in
    subst (λ (k : Graph). Borrowed g c k) l.0 (record {
      formed = inv→wf y.0 (add_all_inv xs g₀ y.0 y.1 v q) l.1;
      names = add_all_names xs g₀ y.0 y.1 ∙ n;
      no_end = λ root d w. let z = r root d w in add_all_pairs (ends_not root) xs g₀ y.0 y.1 z.0 z.1;
    })

pub borrow_weak_law : (g : Graph) (p : ℕ) (path : List ℕ) (c o : ℕ) (h : Graph) → borrow_weak g p path c o ≡ ok h → Borrowed g c h
unfolding borrow_weak
borrow_weak_law g p path c o h e =
    let z = guard_ok (well_formed g && pair_ok g.names p c) 9 (and_then (add_all (between p (record { strong = false; path = path; offset = o }) c ∷ []) g) limit) h e in
    borrowed_from g g c (between p (record { strong = false; path = path; offset = o }) c ∷ []) h (wf→inv g (and_l (well_formed g) (pair_ok g.names p c) z.0)) refl
    (and_i (and_r (well_formed g) (pair_ok g.names p c) z.0) refl) (λ root d w. (w, and_i (ap not d) refl)) z.1

all_map : {A B : Type 0} (f : B → Bool) (g : A → B) (xs : List A) → all (λ x. f (g x)) xs ≡ true → all f (map g xs) ≡ true
all_map f g [] h = refl
all_map f g (x ∷ xs) h = and_i (and_l (f (g x)) (all (λ y. f (g y)) xs) h) (all_map f g xs (and_r (f (g x)) (all (λ y. f (g y)) xs) h))

pub borrow_strong_law : (g : Graph) (p : ℕ) (path : List ℕ) (c o : ℕ) (h : Graph) → borrow_strong g p path c o ≡ ok h → Borrowed g c h
unfolding borrow_strong
borrow_strong_law g p path c o h e =
    let moved : List GEdge = keep (moves p path) g.edges in
    let last : List GEdge = between p (record { strong = true; path = path; offset = o }) c ∷ [] in
    let xs : List GEdge = map (shift c path) moved ++ last in
    let g₀ : Graph = record { names = g.names; edges = keep (λ x. not (moves p path x)) g.edges } in
    let a : Bool = all (λ x. not (eqb c x.child)) moved in
    let z = guard_ok (well_formed g && (pair_ok g.names p c && a)) 9 (and_then (add_all xs g₀) limit) h e in
    let v : Inv g = wf→inv g (and_l (well_formed g) (pair_ok g.names p c && a) z.0) in
    let z1 : pair_ok g.names p c && a ≡ true = and_r (well_formed g) (pair_ok g.names p c && a) z.0 in
    let pc : pair_ok g.names p c ≡ true = and_l (pair_ok g.names p c) a z1 in
    let hc : holds g.names c ≡ true = and_l (holds g.names c) (not (eqb p c)) (and_r (holds g.names p) (holds g.names c && not (eqb p c)) pc) in
    borrowed_from g g₀ c xs h (keep_inv (λ x. not (moves p path x)) g v) refl
    (all_append (λ x. pair_ok g.names x.parent x.child) (map (shift c path) moved) last
    (all_map (λ x. pair_ok g.names x.parent x.child) (shift c path) moved
    (all_imp (λ x. pair_ok g.names x.parent x.child && not (eqb c x.child)) (λ x. pair_ok g.names c x.child)
    (λ x k. and_i hc (and_i (second (holds g.names x.parent) (holds g.names x.child) (not (eqb x.parent x.child)) (and_l (pair_ok g.names x.parent x.child) (not (eqb c x.child)) k))
    (and_r (pair_ok g.names x.parent x.child) (not (eqb c x.child)) k)))
    moved (all_and (λ x. pair_ok g.names x.parent x.child) (λ x. not (eqb c x.child)) moved
    (all_keep (λ x. pair_ok g.names x.parent x.child) (moves p path) g.edges v.pairs) (and_r (pair_ok g.names p c) a z1))))
    (and_i pc refl))
    (λ root d w. (
      all_keep (λ x. ends_not root x.parent x.child) (λ x. not (moves p path x)) g.edges w,
      all_append (λ x. ends_not root x.parent x.child) (map (shift c path) moved) last
          (all_map (λ x. ends_not root x.parent x.child) (shift c path) moved (all_keep (λ x. ends_not root x.parent x.child) (moves p path) g.edges w))
          (and_i (ap not d) refl),
    ))
    z.1
  where
    second : (x y u : Bool) → x && (y && u) ≡ true → y ≡ true
    second x y u k = and_l y u (and_r x (y && u) k)

-- ---- a new name

pub any_place : (p : Name → Bool) (a : Name) (ns : List Name) → any p (put_name a ns) ≡ p a || any p ns
unfolding put_name
any_place p a [] = refl
any_place p a (b ∷ bs) = go (ltb a.id b.id) (any_place p a bs)
  where
    swap : (x y z : Bool) → x || (y || z) ≡ y || (x || z)
    swap true true z = refl
    swap true false z = refl
    swap false y z = refl

    go : (d : Bool) → any p (put_name a bs) ≡ p a || any p bs → any p (cond d (a ∷ b ∷ bs) (b ∷ put_name a bs)) ≡ p a || any p (b ∷ bs)
    go true h = refl
    go false h = ap (λ (x : Bool). p b || x) h ∙ swap (p b) (p a) (any p bs)

pub holds_place : (a : Name) (ns : List Name) (k : ℕ) → holds (put_name a ns) k ≡ eqb k a.id || holds ns k
unfolding holds
holds_place a ns k = any_place (λ m. eqb k m.id) a ns

pub length_place : (a : Name) (ns : List Name) → length (put_name a ns) ≡ suc (length ns)
unfolding put_name
length_place a [] = refl
length_place a (b ∷ bs) = go (ltb a.id b.id) (length_place a bs)
  where
    go : (d : Bool) → length (put_name a bs) ≡ suc (length bs) → length (cond d (a ∷ b ∷ bs) (b ∷ put_name a bs)) ≡ suc (suc (length bs))
    go true h = refl
    go false h = ap suc h

all_place : (f : Name → Bool) (a : Name) (ns : List Name) → f a ≡ true → all f ns ≡ true → all f (put_name a ns) ≡ true
unfolding put_name
all_place f a [] h k = and_i h refl
all_place f a (b ∷ bs) h k = go (ltb a.id b.id) (all_place f a bs h (and_r (f b) (all f bs) k))
  where
    go : (d : Bool) → all f (put_name a bs) ≡ true → all f (cond d (a ∷ b ∷ bs) (b ∷ put_name a bs)) ≡ true
    go true r = and_i h k
    go false r = and_i (and_l (f b) (all f bs) k) r

pub ascending_place : (a : Name) (ns : List Name) → ltb a.id 65536 ≡ true → holds ns a.id ≡ false → ascending ns ≡ true → ascending (put_name a ns) ≡ true
unfolding put_name ascending holds
ascending_place a [] u n h = and_i (and_i u refl) refl
ascending_place a (b ∷ bs) u n h = go (ltb a.id b.id) refl (ascending_place a bs u (no_r (eqb a.id b.id) (holds bs a.id) n) (and_r (ltb b.id 65536 && all f bs) (ascending bs) h))
  where
    f : Name → Bool
    f m = ltb b.id m.id

    no_l : (x y : Bool) → x || y ≡ false → x ≡ false
    no_l true y e = absurd (true≢false e)
    no_l false y e = refl

    no_r : (x y : Bool) → x || y ≡ false → y ≡ false
    no_r true y e = absurd (true≢false e)
    no_r false y e = e

    h1 : ltb b.id 65536 && all f bs ≡ true
    h1 = and_l (ltb b.id 65536 && all f bs) (ascending bs) h

    go : (d : Bool) → ltb a.id b.id ≡ d → ascending (put_name a bs) ≡ true → ascending (cond d (a ∷ b ∷ bs) (b ∷ put_name a bs)) ≡ true
    go true e r =
        and_i (and_i u (and_i e (all_imp f (λ m. ltb a.id m.id)
        (λ m k. let x : a.id < b.id = leb_le e in let y : b.id < m.id = leb_le k in let z : a.id < m.id = omega arith in le_leb z) bs (and_r (ltb b.id 65536) (all f bs) h1)))) h
    go false e r =
        let x : b.id < suc a.id = leb_gt {m = suc a.id} {n = b.id} e in
        let y : a.id ≢ b.id = eqb_ne {m = a.id} {n = b.id} (no_l (eqb a.id b.id) (holds bs a.id) n) in
        let z : b.id < a.id = omega arith in
        and_i (and_i (and_l (ltb b.id 65536) (all f bs) h1) (all_place f a bs (le_leb z) (and_r (ltb b.id 65536) (all f bs) h1))) r

pub record Named (g : Graph) (n : ℕ) (h : Graph) : Type 0 where
  pub formed : well_formed h ≡ true
  pub edges : h.edges ≡ g.edges
  pub holding : (k : ℕ) → held h k ≡ eqb k n || held g k

pub new_name_law : (g : Graph) (n : ℕ) (m : Bool) (h : Graph) → n < 65536 → new_name g n m ≡ ok h → Named g n h
unfolding new_name
new_name_law g n m h l e =
    let a : Name = record { id = n; mutable = m } in
    let k : Graph = record { names = put_name a g.names; edges = g.edges } in
    let z = guard_ok (well_formed g) 9 (guard (not (held g n)) 8 (guard (leb (suc (length g.names)) 48) 23 (ok k))) h e in
    let y = guard_ok (not (held g n)) 8 (guard (leb (suc (length g.names)) 48) 23 (ok k)) h z.1 in
    let x = guard_ok (leb (suc (length g.names)) 48) 23 (ok k) h y.1 in
    let v : Inv g = wf→inv g z.0 in
    let len : length (put_name a g.names) ≡ suc (length g.names) = length_place a g.names in
    let few : suc (length g.names) ≤ 48 = leb_le x.0 in
    subst (λ (j : Graph). Named g n j) (ok_inj x.1) (record {
      formed = inv→wf k (record {
        few = omega arith;
        asc = ascending_place a g.names (le_leb l) (not_true y.0) v.asc;
        pairs = all_imp (λ w. pair_ok g.names w.parent w.child) (λ w. pair_ok (put_name a g.names) w.parent w.child) (λ w q. more w.parent w.child a q) g.edges v.pairs;
        sets = v.sets;
        order = v.order;
      }) (room g z.0);
      edges = refl;
      holding = λ i. holds_place a g.names i;
    })
  where
    more : (p c : ℕ) (a : Name) → pair_ok g.names p c ≡ true → pair_ok (put_name a g.names) p c ≡ true
    more p c a q =
        let q1 : holds g.names c && not (eqb p c) ≡ true = and_r (holds g.names p) (holds g.names c && not (eqb p c)) q in
        and_i (holds_place a g.names p ∙ or_r (eqb p a.id) (and_l (holds g.names p) (holds g.names c && not (eqb p c)) q))
        (and_i (holds_place a g.names c ∙ or_r (eqb c a.id) (and_l (holds g.names c) (not (eqb p c)) q1)) (and_r (holds g.names c) (not (eqb p c)) q1))
