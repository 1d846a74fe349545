-- Laws of graphs: the set of a pair after an edge is put in, after a name is taken out, after a call.
use Rattle.std.specs.Prelude.{ℕ, ◌<◌, ◌≤◌, Bool, true, false, ◌||◌, cond, not, ◌&&◌, ◌⊎◌, ◌≡◌, refl, eqb, ltb, leb, length}
use Rattle.std.proofs.Common.{arith, true≢false, inl, inr, sym, ap, ◌∙◌}
use Rattle.std.proofs.lemmas.Bool.{false≢true}
use mathlib.Core.List.{◌++◌, append_assoc, [], append-nil, List, ◌∷◌}
use Rattle.std.proofs.Math.Path.{subst}
use Rattle.meaning.specs.Answers.{ok, Ans, and_then}
use Rattle.meaning.specs.Lists.{keep, all}
use Rattle.meaning.specs.References.{EdgeSet, empty_set, Edge, insert, set_ok, covered, ordered}
use Rattle.meaning.specs.BorrowGraph.{union, GEdge, eq_pair, one, set_at, tagged, lt_pair, is_after, is_before, set_to, on_pairs, not_before, in_order, Graph, add_edge, add_all, ascending, pair_ok, well_formed, limit, Name}
use Rattle.meaning.proofs.Laws.Base.{or_false, and_i, eqb_self, and_l, eqb_eq, and_r, decide, both, or_cases, ltb_irrefl, or_r, or_l, leb_le, le_leb, all_append, all_keep, not_true, all_imp, keep_passes, ok_inj, and_then_ok, guard_ok}
use Rattle.meaning.proofs.Laws.Set.{Inserted, before, just_now, present, added, inserted, set_rank, insert_rank, insert_set_ok, insert_covers, insert_new}
use Rattle.meaning.specs.Laws.Graph.{insert_all}

-- ---- the set of a pair in a list put together

union_assoc : (s t u : EdgeSet) → union (union s t) u ≡ union s (union t u)
union_assoc s t u =
    let p : s.edges ++ t.edges ++ u.edges ≡ s.edges ++ (t.edges ++ u.edges) = append_assoc s.edges t.edges u.edges in
    let q : (s.blurred || t.blurred) || u.blurred ≡ s.blurred || (t.blurred || u.blurred) = or_assoc s.blurred t.blurred u.blurred in
    λ i. record { edges = p i; blurred = q i }
  where
    or_assoc : (a b c : Bool) → (a || b) || c ≡ a || (b || c)
    or_assoc true b c = refl
    or_assoc false b c = refl

union_empty : (s : EdgeSet) → union s empty_set ≡ s
union_empty s =
    let p : s.edges ++ [] ≡ s.edges = append-nil s.edges in
    let q : s.blurred || false ≡ s.blurred = or_false s.blurred in
    λ i. record { edges = p i; blurred = q i }

cond_union : (b : Bool) (o s t u : EdgeSet) → u ≡ union s t → cond b (union o u) u ≡ union (cond b (union o s) s) t
cond_union true o s t u h = ap (λ (x : EdgeSet). union o x) h ∙ sym (union_assoc o s t)
cond_union false o s t u h = h

set_at_append : (p c : ℕ) (xs ys : List GEdge) → set_at p c (xs ++ ys) ≡ union (set_at p c xs) (set_at p c ys)
unfolding set_at
set_at_append p c [] ys = refl
set_at_append p c (x ∷ xs) ys =
    cond_union (eq_pair p c x.parent x.child) (one x) (set_at p c xs) (set_at p c ys) (set_at p c (xs ++ ys)) (set_at_append p c xs ys)

-- of a part: all of the set, or nothing of it
keep_all_cond : (p c : ℕ) (q : GEdge → Bool) (x : GEdge) (xs : List GEdge) (b d : Bool) → eq_pair p c x.parent x.child ≡ b → q x ≡ d → (b ≡ true → d ≡ true)
    → set_at p c (keep q xs) ≡ set_at p c xs → set_at p c (cond d (x ∷ keep q xs) (keep q xs)) ≡ cond b (union (one x) (set_at p c xs)) (set_at p c xs)
unfolding set_at
keep_all_cond p c q x xs true true eb ed h k = ap (λ (z : Bool). cond z (union (one x) (set_at p c (keep q xs))) (set_at p c (keep q xs))) eb ∙ ap (λ (z : EdgeSet). union (one x) z) k
keep_all_cond p c q x xs true false eb ed h k = absurd (false≢true (h refl))
keep_all_cond p c q x xs false true eb ed h k = ap (λ (z : Bool). cond z (union (one x) (set_at p c (keep q xs))) (set_at p c (keep q xs))) eb ∙ k
keep_all_cond p c q x xs false false eb ed h k = k

pub set_at_keep_all : (p c : ℕ) (q : GEdge → Bool) → ((x : GEdge) → eq_pair p c x.parent x.child ≡ true → q x ≡ true) → (xs : List GEdge)
    → set_at p c (keep q xs) ≡ set_at p c xs
unfolding set_at
set_at_keep_all p c q h [] = refl
set_at_keep_all p c q h (x ∷ xs) =
    keep_all_cond p c q x xs (eq_pair p c x.parent x.child) (q x) refl refl (h x) (set_at_keep_all p c q h xs)

keep_none_cond : (p c : ℕ) (q : GEdge → Bool) (x : GEdge) (xs : List GEdge) (b d : Bool) → eq_pair p c x.parent x.child ≡ b → q x ≡ d → (b ≡ true → d ≡ false)
    → set_at p c (keep q xs) ≡ empty_set → set_at p c (cond d (x ∷ keep q xs) (keep q xs)) ≡ empty_set
unfolding set_at
keep_none_cond p c q x xs true true eb ed h k = absurd (true≢false (h refl))
keep_none_cond p c q x xs true false eb ed h k = k
keep_none_cond p c q x xs false true eb ed h k = ap (λ (z : Bool). cond z (union (one x) (set_at p c (keep q xs))) (set_at p c (keep q xs))) eb ∙ k
keep_none_cond p c q x xs false false eb ed h k = k

pub set_at_keep_none : (p c : ℕ) (q : GEdge → Bool) → ((x : GEdge) → eq_pair p c x.parent x.child ≡ true → q x ≡ false) → (xs : List GEdge)
    → set_at p c (keep q xs) ≡ empty_set
unfolding set_at
set_at_keep_none p c q h [] = refl
set_at_keep_none p c q h (x ∷ xs) =
    keep_none_cond p c q x xs (eq_pair p c x.parent x.child) (q x) refl refl (h x) (set_at_keep_none p c q h xs)

-- ---- the set of a pair after `set_to`

pub eq_pair_self : (p c : ℕ) → eq_pair p c p c ≡ true
eq_pair_self p c = and_i (eqb_self p) (eqb_self c)

pub eq_pair_l : (p c q d : ℕ) → eq_pair p c q d ≡ true → p ≡ q
eq_pair_l p c q d e = eqb_eq (and_l (eqb p q) (eqb c d) e)

pub eq_pair_r : (p c q d : ℕ) → eq_pair p c q d ≡ true → c ≡ d
eq_pair_r p c q d e = eqb_eq (and_r (eqb p q) (eqb c d) e)

unfoldable pub non_empty : List Edge → Bool
non_empty [] = false
non_empty (e ∷ es) = true

-- a blurred set is not empty
unfoldable pub solid : EdgeSet → Bool
unfolding non_empty
solid s = not s.blurred || non_empty s.edges

and_false : (b : Bool) → b && false ≡ false
and_false true = refl
and_false false = refl

or_same : (b d : Bool) → b || (b && d) ≡ b
or_same true d = refl
or_same false d = refl

and_true : (b : Bool) → b && true ≡ b
and_true true = refl
and_true false = refl

set_at_tagged : (p c : ℕ) (b : Bool) (es : List Edge) → set_at p c (tagged p c b es) ≡ record { edges = es; blurred = b && non_empty es }
unfolding set_at non_empty
set_at_tagged p c b [] = let q : false ≡ b && false = sym (and_false b) in λ i. record { edges = []; blurred = q i }
set_at_tagged p c b (e ∷ es) =
    let x : GEdge = record { parent = p; child = c; blurred = b; edge = e } in
    let r : b || (b && non_empty es) ≡ b && true = or_same b (non_empty es) ∙ sym (and_true b) in
    ap (λ (z : Bool). cond z (union (one x) (set_at p c (tagged p c b es))) (set_at p c (tagged p c b es))) (eq_pair_self p c)
    ∙ ap (λ (z : EdgeSet). union (one x) z) (set_at_tagged p c b es)
    ∙ (λ i. record { edges = e ∷ es; blurred = r i })

solid_and : (b d : Bool) → not b || d ≡ true → b && d ≡ b
solid_and true d h = h
solid_and false d h = refl

tagged_self : (p c : ℕ) (s : EdgeSet) → solid s ≡ true → set_at p c (tagged p c s.blurred s.edges) ≡ s
unfolding solid
tagged_self p c s h =
    let r : s.blurred && non_empty s.edges ≡ s.blurred = solid_and s.blurred (non_empty s.edges) h in
    set_at_tagged p c s.blurred s.edges ∙ (λ i. record { edges = s.edges; blurred = r i })

tagged_other : (q d p c : ℕ) → eq_pair q d p c ≡ false → (b : Bool) (es : List Edge) → set_at q d (tagged p c b es) ≡ empty_set
unfolding set_at
tagged_other q d p c h b [] = refl
tagged_other q d p c h b (e ∷ es) =
    let x : GEdge = record { parent = p; child = c; blurred = b; edge = e } in
    ap (λ (z : Bool). cond z (union (one x) (set_at q d (tagged p c b es))) (set_at q d (tagged p c b es))) h
    ∙ tagged_other q d p c h b es

parts : (q d : ℕ) (xs ys zs : List GEdge) → set_at q d (xs ++ (ys ++ zs)) ≡ union (set_at q d xs) (union (set_at q d ys) (set_at q d zs))
parts q d xs ys zs = set_at_append q d xs (ys ++ zs) ∙ ap (λ (z : EdgeSet). union (set_at q d xs) z) (set_at_append q d ys zs)

union₃ : {a a' b b' c c' : EdgeSet} → a ≡ a' → b ≡ b' → c ≡ c' → union a (union b c) ≡ union a' (union b' c')
union₃ p q r = λ i. union (p i) (union (q i) (r i))

pub not_before_self : (p c q d : ℕ) → eq_pair p c q d ≡ true → lt_pair p c q d ≡ false
not_before_self p c q d e =
    subst (λ (m : ℕ). lt_pair p c m d ≡ false) (eq_pair_l p c q d e)
    (subst (λ (m : ℕ). lt_pair p c p m ≡ false) (eq_pair_r p c q d e)
    (decide (lt_pair p c p c) (λ h. absurd (go (or_cases (ltb p p) (eqb p p && ltb c c) h))) (λ h. h)))
  where
    go : (ltb p p ≡ true) ⊎ (eqb p p && ltb c c ≡ true) → ⊥
    go (inl h) = both h (ltb_irrefl p)
    go (inr h) = both (and_r (eqb p p) (ltb c c) h) (ltb_irrefl c)

not_after_self : (p c : ℕ) (x : GEdge) → eq_pair p c x.parent x.child ≡ true → is_after p c x ≡ false
not_after_self p c x e =
    ap (λ (z : Bool). not (lt_pair p c x.parent x.child) && not z) e ∙ and_false (not (lt_pair p c x.parent x.child))

pub set_to_self : (p c : ℕ) (s : EdgeSet) (xs : List GEdge) → solid s ≡ true → set_at p c (set_to p c s xs) ≡ s
unfolding set_to
set_to_self p c s xs h =
    parts p c (keep (is_before p c) xs) (tagged p c s.blurred s.edges) (keep (is_after p c) xs)
    ∙ union₃ (set_at_keep_none p c (is_before p c) (λ x e. not_before_self p c x.parent x.child e) xs)
    (tagged_self p c s h)
    (set_at_keep_none p c (is_after p c) (not_after_self p c) xs)
    ∙ union_empty s

-- a test of the ends is the same for all edges of a pair
pub at_pair : (f : ℕ → ℕ → Bool) (b : Bool) (q d : ℕ) → f q d ≡ b → (x : GEdge) → eq_pair q d x.parent x.child ≡ true → f x.parent x.child ≡ b
at_pair f b q d h x e =
    subst (λ (m : ℕ). f m x.child ≡ b) (eq_pair_l q d x.parent x.child e)
    (subst (λ (m : ℕ). f q m ≡ b) (eq_pair_r q d x.parent x.child e) h)

pub eq_pair_sym : (p c q d : ℕ) → eq_pair q d p c ≡ false → eq_pair p c q d ≡ false
eq_pair_sym p c q d h =
    decide (eq_pair p c q d)
    (λ e. absurd (both (subst (λ (m : ℕ). eq_pair m d p c ≡ true) (eq_pair_l p c q d e) (subst (λ (m : ℕ). eq_pair p m p c ≡ true) (eq_pair_r p c q d e) (eq_pair_self p c))) h))
    (λ e. e)

pub set_to_other : (q d p c : ℕ) (s : EdgeSet) (xs : List GEdge) → eq_pair q d p c ≡ false → set_at q d (set_to p c s xs) ≡ set_at q d xs
unfolding set_to
set_to_other q d p c s xs h =
    parts q d (keep (is_before p c) xs) (tagged p c s.blurred s.edges) (keep (is_after p c) xs)
    ∙ decide (lt_pair p c q d)
    (λ e. union₃ (set_at_keep_all q d (is_before p c) (at_pair (lt_pair p c) true q d e) xs)
    (tagged_other q d p c h s.blurred s.edges)
    (set_at_keep_none q d (is_after p c) (at_pair (λ m n. not (lt_pair p c m n) && not (eq_pair p c m n)) false q d (ap (λ (z : Bool). not z && not (eq_pair p c q d)) e)) xs)
    ∙ union_empty (set_at q d xs))
    (λ e. union₃ (set_at_keep_none q d (is_before p c) (at_pair (lt_pair p c) false q d e) xs)
    (tagged_other q d p c h s.blurred s.edges)
    (set_at_keep_all q d (is_after p c) (at_pair (λ m n. not (lt_pair p c m n) && not (eq_pair p c m n)) true q d (and_i (ap not e) (ap not (eq_pair_sym p c q d h)))) xs))

solid_cond : (b : Bool) (x : GEdge) (s : EdgeSet) → solid s ≡ true → solid (cond b (union (one x) s) s) ≡ true
unfolding solid non_empty
solid_cond true x s h = or_r (not (x.blurred || s.blurred)) refl
solid_cond false x s h = h

pub set_at_solid : (p c : ℕ) (xs : List GEdge) → solid (set_at p c xs) ≡ true
unfolding set_at solid
set_at_solid p c [] = refl
set_at_solid p c (x ∷ xs) = solid_cond (eq_pair p c x.parent x.child) x (set_at p c xs) (set_at_solid p c xs)

pub insert_solid : (s : EdgeSet) (e : Edge) (t : EdgeSet) → Inserted s e t → solid s ≡ true → solid t ≡ true
unfolding solid non_empty
insert_solid s e t (before b q) h = subst (λ (x : EdgeSet). solid x ≡ true) q h
insert_solid s e t (present b p q) h = subst (λ (x : EdgeSet). solid x ≡ true) q h
insert_solid s e t (just_now b l q) h = ap solid q
insert_solid s e t (added b l k p q) h = ap solid q

on_pairs_tagged : (f : ℕ → ℕ → Bool) (p c : ℕ) → f p c ≡ true → (b : Bool) (es : List Edge) → on_pairs f (tagged p c b es) ≡ true
on_pairs_tagged f p c h b [] = refl
on_pairs_tagged f p c h b (e ∷ es) = and_i h (on_pairs_tagged f p c h b es)

-- ---- the pairs ascend

pub lt_pair_trans : (p c q d r e : ℕ) → lt_pair p c q d ≡ true → lt_pair q d r e ≡ true → lt_pair p c r e ≡ true
lt_pair_trans p c q d r e h k = go (or_cases (ltb q p) (eqb q p && ltb d c) h) (or_cases (ltb r q) (eqb r q && ltb e d) k)
  where
    lt : (m n : ℕ) → ltb m n ≡ true → m < n
    lt m n z = leb_le z

    go : (ltb q p ≡ true) ⊎ (eqb q p && ltb d c ≡ true) → (ltb r q ≡ true) ⊎ (eqb r q && ltb e d ≡ true) → ltb r p || (eqb r p && ltb e c) ≡ true
    go (inl a) (inl b) =
        let x : q < p = lt q p a in
        let y : r < q = lt r q b in
        let z : r < p = omega arith in
        or_l (eqb r p && ltb e c) (le_leb z)
    go (inl a) (inr b) = or_l (eqb r p && ltb e c) (subst (λ (n : ℕ). ltb n p ≡ true) (sym (eqb_eq (and_l (eqb r q) (ltb e d) b))) a)
    go (inr a) (inl b) = or_l (eqb r p && ltb e c) (subst (λ (n : ℕ). ltb r n ≡ true) (eqb_eq (and_l (eqb q p) (ltb d c) a)) b)
    go (inr a) (inr b) =
        let x : d < c = lt d c (and_r (eqb q p) (ltb d c) a) in
        let y : e < d = lt e d (and_r (eqb r q) (ltb e d) b) in
        let z : e < c = omega arith in
        or_r (ltb r p) (and_i (subst (λ (n : ℕ). eqb r n ≡ true) (eqb_eq (and_l (eqb q p) (ltb d c) a)) (and_l (eqb r q) (ltb e d) b)) (le_leb z))

in_order_append : (xs ys : List GEdge) → in_order xs ≡ true → in_order ys ≡ true → all (λ x. all (not_before x) ys) xs ≡ true → in_order (xs ++ ys) ≡ true
unfolding in_order
in_order_append [] ys p q h = q
in_order_append (x ∷ xs) ys p q h =
    and_i (all_append (not_before x) xs ys (and_l (all (not_before x) xs) (in_order xs) p) (and_l (all (not_before x) ys) (all (λ z. all (not_before z) ys) xs) h))
    (in_order_append xs ys (and_r (all (not_before x) xs) (in_order xs) p) q (and_r (all (not_before x) ys) (all (λ z. all (not_before z) ys) xs) h))

in_order_cond : (b : Bool) (x : GEdge) (ys : List GEdge) → all (not_before x) ys ≡ true → in_order ys ≡ true → in_order (cond b (x ∷ ys) ys) ≡ true
unfolding in_order
in_order_cond true x ys p q = and_i p q
in_order_cond false x ys p q = q

pub in_order_keep : (q : GEdge → Bool) (xs : List GEdge) → in_order xs ≡ true → in_order (keep q xs) ≡ true
unfolding in_order
in_order_keep q [] h = refl
in_order_keep q (x ∷ xs) h =
    in_order_cond (q x) x (keep q xs) (all_keep (not_before x) q xs (and_l (all (not_before x) xs) (in_order xs) h)) (in_order_keep q xs (and_r (all (not_before x) xs) (in_order xs) h))

-- a test that every edge of a pair passes
all_tagged : (f : GEdge → Bool) (p c : ℕ) (b : Bool) → ((e : Edge) → f (record { parent = p; child = c; blurred = b; edge = e }) ≡ true) → (es : List Edge) → all f (tagged p c b es) ≡ true
all_tagged f p c b h [] = refl
all_tagged f p c b h (e ∷ es) = and_i (h e) (all_tagged f p c b h es)

in_order_tagged : (p c : ℕ) (b : Bool) (es : List Edge) → in_order (tagged p c b es) ≡ true
unfolding in_order
in_order_tagged p c b [] = refl
in_order_tagged p c b (e ∷ es) =
    and_i (all_tagged (not_before (record { parent = p; child = c; blurred = b; edge = e })) p c b (λ f. ap not (not_before_self p c p c (eq_pair_self p c))) es) (in_order_tagged p c b es)

pub set_to_order : (p c : ℕ) (s : EdgeSet) (xs : List GEdge) → in_order xs ≡ true → in_order (set_to p c s xs) ≡ true
unfolding set_to
set_to_order p c s xs h =
    let u : List GEdge = keep (is_before p c) xs in
    let v : List GEdge = tagged p c s.blurred s.edges in
    let w : List GEdge = keep (is_after p c) xs in
    in_order_append u (v ++ w) (in_order_keep (is_before p c) xs h)
    (in_order_append v w (in_order_tagged p c s.blurred s.edges) (in_order_keep (is_after p c) xs h)
    (all_tagged (λ x. all (not_before x) w) p c s.blurred (λ e. all_imp (is_after p c) (not_before (record { parent = p; child = c; blurred = s.blurred; edge = e }))
    (λ y k. and_l (not (lt_pair p c y.parent y.child)) (not (eq_pair p c y.parent y.child)) k) w (keep_passes (is_after p c) xs)) s.edges))
    (all_imp (is_before p c) (λ x. all (not_before x) (v ++ w))
    (λ x b. all_append (not_before x) v w
    (all_tagged (not_before x) p c s.blurred (λ e. decide (lt_pair x.parent x.child p c)
    (λ z. absurd (both (lt_pair_trans p c x.parent x.child p c b z) (not_before_self p c p c (eq_pair_self p c)))) (λ z. ap not z)) s.edges)
    (all_imp (is_after p c) (not_before x)
    (λ y k. decide (lt_pair x.parent x.child y.parent y.child)
    (λ z. absurd (both (lt_pair_trans p c x.parent x.child y.parent y.child b z) (not_true (and_l (not (lt_pair p c y.parent y.child)) (not (eq_pair p c y.parent y.child)) k))))
    (λ z. ap not z)) w (keep_passes (is_after p c) xs)))
    u (keep_passes (is_before p c) xs))

-- ---- an edge put in

pub record Added (g : Graph) (x : GEdge) (h : Graph) : Type 0 where
  pub names : h.names ≡ g.names
  pub new : EdgeSet
  pub step : Inserted (set_at x.parent x.child g.edges) x.edge new
  pub put : insert (set_at x.parent x.child g.edges) x.edge ≡ ok new
  pub here : set_at x.parent x.child h.edges ≡ new
  pub elsewhere : (q d : ℕ) → eq_pair q d x.parent x.child ≡ false → set_at q d h.edges ≡ set_at q d g.edges
  pub pairs : (f : ℕ → ℕ → Bool) → on_pairs f g.edges ≡ true → f x.parent x.child ≡ true → on_pairs f h.edges ≡ true
  pub order : in_order g.edges ≡ true → in_order h.edges ≡ true

to_added : (g : Graph) (x : GEdge) (s : EdgeSet) → insert (set_at x.parent x.child g.edges) x.edge ≡ ok s
    → Added g x (record { names = g.names; edges = set_to x.parent x.child s g.edges })
unfolding set_to
to_added g x s e =
    let p : ℕ = x.parent in
    let c : ℕ = x.child in
    let i : Inserted (set_at p c g.edges) x.edge s = inserted (set_at p c g.edges) x.edge s e in
    record {
      names = refl;
      new = s;
      step = i;
      put = e;
      here = set_to_self p c s g.edges (insert_solid (set_at p c g.edges) x.edge s i (set_at_solid p c g.edges));
      elsewhere = λ q d h. set_to_other q d p c s g.edges h;
      order = set_to_order p c s g.edges;
      pairs = λ f h k.
          let t : GEdge → Bool = λ y. f y.parent y.child in
          all_append t (keep (is_before p c) g.edges) (tagged p c s.blurred s.edges ++ keep (is_after p c) g.edges)
          (all_keep t (is_before p c) g.edges h)
          (all_append t (tagged p c s.blurred s.edges) (keep (is_after p c) g.edges) (on_pairs_tagged f p c k s.blurred s.edges) (all_keep t (is_after p c) g.edges h));
    }

pub add_edge_added : (g : Graph) (x : GEdge) (h : Graph) → add_edge g x ≡ ok h → Added g x h
unfolding add_edge
add_edge_added g x h e =
    let r = and_then_ok (insert (set_at x.parent x.child g.edges) x.edge) (λ s. ok (record { names = g.names; edges = set_to x.parent x.child s g.edges })) h e in
    subst (λ (k : Graph). Added g x k) (ok_inj r.2) (to_added g x r.0 r.1)

-- a relation of sets that an insert keeps holds between the sets of each pair
pub pointwise : (R : EdgeSet → EdgeSet → Type 0) → ((s : EdgeSet) → R s s) → ((s : EdgeSet) (e : Edge) (t : EdgeSet) → Inserted s e t → R s t)
    → (g : Graph) (x : GEdge) (h : Graph) → Added g x h → (q d : ℕ) → R (set_at q d g.edges) (set_at q d h.edges)
pointwise R r i g x h a q d =
    decide (eq_pair q d x.parent x.child)
    (λ e. subst (λ (m : ℕ). R (set_at m d g.edges) (set_at m d h.edges)) (sym (eq_pair_l q d x.parent x.child e))
    (subst (λ (m : ℕ). R (set_at x.parent m g.edges) (set_at x.parent m h.edges)) (sym (eq_pair_r q d x.parent x.child e))
    (subst (λ (s : EdgeSet). R (set_at x.parent x.child g.edges) s) (sym a.here) (i (set_at x.parent x.child g.edges) x.edge a.new a.step))))
    (λ e. subst (λ (s : EdgeSet). R (set_at q d g.edges) s) (sym (a.elsewhere q d e)) (r (set_at q d g.edges)))

-- ---- a list of edges put in

module _ (R : EdgeSet → EdgeSet → Type 0) (r : (s : EdgeSet) → R s s) (t : (s u v : EdgeSet) → R s u → R u v → R s v)
    (i : (s : EdgeSet) (e : Edge) (u : EdgeSet) → Inserted s e u → R s u) where
  pub add_all_pointwise : (xs : List GEdge) (g h : Graph) → add_all xs g ≡ ok h → (q d : ℕ) → R (set_at q d g.edges) (set_at q d h.edges)
  unfolding add_all
  add_all_pointwise [] g h e q d = subst (λ (k : Graph). R (set_at q d g.edges) (set_at q d k.edges)) (ok_inj e) (r (set_at q d g.edges))
  add_all_pointwise (x ∷ xs) g h e q d =
      let z = and_then_ok (add_edge g x) (λ k. add_all xs k) h e in
      t (set_at q d g.edges) (set_at q d z.0.edges) (set_at q d h.edges)
      (pointwise R r i g x z.0 (add_edge_added g x z.0 z.1) q d)
      (add_all_pointwise xs z.0 h z.2 q d)

pub add_all_none : (g h : Graph) → add_all [] g ≡ ok h → g ≡ h
unfolding add_all
add_all_none g h e = ok_inj e

pub add_all_names : (xs : List GEdge) (g h : Graph) → add_all xs g ≡ ok h → h.names ≡ g.names
unfolding add_all
add_all_names [] g h e = ap (λ (k : Graph). k.names) (sym (ok_inj e))
add_all_names (x ∷ xs) g h e =
    let z = and_then_ok (add_edge g x) (λ k. add_all xs k) h e in
    add_all_names xs z.0 h z.2 ∙ (add_edge_added g x z.0 z.1).names

pub add_all_pairs : (f : ℕ → ℕ → Bool) (xs : List GEdge) (g h : Graph) → add_all xs g ≡ ok h → on_pairs f g.edges ≡ true → on_pairs f xs ≡ true → on_pairs f h.edges ≡ true
unfolding add_all
add_all_pairs f [] g h e p q = subst (λ (k : Graph). on_pairs f k.edges ≡ true) (ok_inj e) p
add_all_pairs f (x ∷ xs) g h e p q =
    let z = and_then_ok (add_edge g x) (λ k. add_all xs k) h e in
    add_all_pairs f xs z.0 h z.2
    ((add_edge_added g x z.0 z.1).pairs f p (and_l (f x.parent x.child) (on_pairs f xs) q))
    (and_r (f x.parent x.child) (on_pairs f xs) q)

pub add_all_order : (xs : List GEdge) (g h : Graph) → add_all xs g ≡ ok h → in_order g.edges ≡ true → in_order h.edges ≡ true
unfolding add_all
add_all_order [] g h e p = subst (λ (k : Graph). in_order k.edges ≡ true) (ok_inj e) p
add_all_order (x ∷ xs) g h e p =
    let z = and_then_ok (add_edge g x) (λ k. add_all xs k) h e in
    add_all_order xs z.0 h z.2 ((add_edge_added g x z.0 z.1).order p)

insert_all_cond : (p c : ℕ) (x : GEdge) (u : EdgeSet) (g k : Graph) (a : Added g x k) (b : Bool) → eq_pair p c x.parent x.child ≡ b
    → insert_all (cond b (union (one x) u) u).edges (set_at p c g.edges) ≡ insert_all u.edges (set_at p c k.edges)
unfolding insert_all
insert_all_cond p c x u g k a true e =
    let ep : p ≡ x.parent = eq_pair_l p c x.parent x.child e in
    let ec : c ≡ x.child = eq_pair_r p c x.parent x.child e in
    subst (λ (q : ℕ). and_then (insert (set_at q c g.edges) x.edge) (λ t. insert_all u.edges t) ≡ insert_all u.edges (set_at q c k.edges)) (sym ep)
    (subst (λ (d : ℕ). and_then (insert (set_at x.parent d g.edges) x.edge) (λ t. insert_all u.edges t) ≡ insert_all u.edges (set_at x.parent d k.edges)) (sym ec)
    (ap (λ (z : Ans EdgeSet). and_then z (λ t. insert_all u.edges t)) a.put ∙ ap (λ (z : EdgeSet). insert_all u.edges z) (sym a.here)))
insert_all_cond p c x u g k a false e = ap (λ (z : EdgeSet). insert_all u.edges z) (sym (a.elsewhere p c e))

pub add_all_at : (p c : ℕ) (xs : List GEdge) (g h : Graph) → add_all xs g ≡ ok h → insert_all (set_at p c xs).edges (set_at p c g.edges) ≡ ok (set_at p c h.edges)
unfolding add_all set_at insert_all
add_all_at p c [] g h e = ap (λ (z : Graph). ok (set_at p c z.edges)) (ok_inj e)
add_all_at p c (x ∷ xs) g h e =
    let z = and_then_ok (add_edge g x) (λ k. add_all xs k) h e in
    insert_all_cond p c x (set_at p c xs) g z.0 (add_edge_added g x z.0 z.1) (eq_pair p c x.parent x.child) refl
    ∙ add_all_at p c xs z.0 h z.2

-- three such relations: the rank, well-formedness, covering
abbrev pub Grows : EdgeSet → EdgeSet → Type 0
Grows s t = (s ≡ t) ⊎ (set_rank s < set_rank t)

pub grows_self : (s : EdgeSet) → Grows s s
grows_self s = inl refl

pub grows_trans : (s t u : EdgeSet) → Grows s t → Grows t u → Grows s u
grows_trans s t u (inl p) (inl q) = inl (p ∙ q)
grows_trans s t u (inl p) (inr q) = inr (subst (λ (x : EdgeSet). set_rank x < set_rank u) (sym p) q)
grows_trans s t u (inr p) (inl q) = inr (subst (λ (x : EdgeSet). set_rank s < set_rank x) q p)
grows_trans s t u (inr p) (inr q) = inr (omega arith)

pub add_all_grows : (xs : List GEdge) (g h : Graph) → add_all xs g ≡ ok h → (q d : ℕ) → Grows (set_at q d g.edges) (set_at q d h.edges)
add_all_grows = add_all_pointwise Grows grows_self grows_trans insert_rank

pub add_all_set_ok : (xs : List GEdge) (g h : Graph) → add_all xs g ≡ ok h → (q d : ℕ) → set_ok (set_at q d g.edges) ≡ true → set_ok (set_at q d h.edges) ≡ true
add_all_set_ok = add_all_pointwise (λ s t. set_ok s ≡ true → set_ok t ≡ true) (λ s e. e) (λ s t u f k e. k (f e)) insert_set_ok

pub add_all_covers : (f : Edge) (xs : List GEdge) (g h : Graph) → add_all xs g ≡ ok h → (q d : ℕ) → covered (set_at q d g.edges).edges f ≡ true → covered (set_at q d h.edges).edges f ≡ true
add_all_covers f = add_all_pointwise (λ s t. covered s.edges f ≡ true → covered t.edges f ≡ true) (λ s e. e) (λ s t u k l e. l (k e)) (λ s e t j. insert_covers s e t f j)

-- each edge put in is covered in the end
pub add_all_news : (xs : List GEdge) (g h : Graph) → add_all xs g ≡ ok h → ((q d : ℕ) → set_ok (set_at q d g.edges) ≡ true)
    → all (λ x. covered (set_at x.parent x.child h.edges).edges x.edge) xs ≡ true
unfolding add_all
add_all_news [] g h e k = refl
add_all_news (x ∷ xs) g h e k =
    let z = and_then_ok (add_edge g x) (λ j. add_all xs j) h e in
    let a : Added g x z.0 = add_edge_added g x z.0 z.1 in
    and_i
    (add_all_covers x.edge xs z.0 h z.2 x.parent x.child
    (subst (λ (s : EdgeSet). covered s.edges x.edge ≡ true) (sym a.here)
    (insert_new (set_at x.parent x.child g.edges) x.edge a.new a.step (k x.parent x.child))))
    (add_all_news xs z.0 h z.2 (λ q d. pointwise (λ s t. set_ok s ≡ true → set_ok t ≡ true) (λ s j. j) insert_set_ok g x z.0 a q d (k q d)))

-- ---- well-formedness, in parts

pub all_any : {A : Type 0} (f : A → Bool) → ((x : A) → f x ≡ true) → (xs : List A) → all f xs ≡ true
all_any f h [] = refl
all_any f h (x ∷ xs) = and_i (h x) (all_any f h xs)

-- a pair whose edges pass a test of their ends passes it, or has no edge
at_cond : (f : ℕ → ℕ → Bool) (p c : ℕ) (x : GEdge) (s : EdgeSet) (b : Bool) → eq_pair p c x.parent x.child ≡ b → f x.parent x.child ≡ true
    → (f p c ≡ true) ⊎ (s ≡ empty_set) → (f p c ≡ true) ⊎ (cond b (union (one x) s) s ≡ empty_set)
at_cond f p c x s true e h k =
    inl (subst (λ (m : ℕ). f m c ≡ true) (sym (eq_pair_l p c x.parent x.child e)) (subst (λ (m : ℕ). f x.parent m ≡ true) (sym (eq_pair_r p c x.parent x.child e)) h))
at_cond f p c x s false e h k = k

pub at_or_empty : (f : ℕ → ℕ → Bool) (p c : ℕ) (xs : List GEdge) → on_pairs f xs ≡ true → (f p c ≡ true) ⊎ (set_at p c xs ≡ empty_set)
unfolding set_at
at_or_empty f p c [] h = inr refl
at_or_empty f p c (x ∷ xs) h =
    at_cond f p c x (set_at p c xs) (eq_pair p c x.parent x.child) refl (and_l (f x.parent x.child) (on_pairs f xs) h)
    (at_or_empty f p c xs (and_r (f x.parent x.child) (on_pairs f xs) h))

pub record Inv (g : Graph) : Type 0 where
  pub few : length g.names ≤ 48
  pub asc : ascending g.names ≡ true
  pub pairs : on_pairs (pair_ok g.names) g.edges ≡ true
  pub sets : (p c : ℕ) → set_ok (set_at p c g.edges) ≡ true
  pub order : in_order g.edges ≡ true

pub empty_ok : set_ok empty_set ≡ true
unfolding set_ok ordered
empty_ok = refl

sets_ok : (g : Graph) → on_pairs (λ p c. set_ok (set_at p c g.edges)) g.edges ≡ true → (p c : ℕ) → set_ok (set_at p c g.edges) ≡ true
sets_ok g h p c = go (at_or_empty (λ q d. set_ok (set_at q d g.edges)) p c g.edges h)
  where
    go : (set_ok (set_at p c g.edges) ≡ true) ⊎ (set_at p c g.edges ≡ empty_set) → set_ok (set_at p c g.edges) ≡ true
    go (inl e) = e
    go (inr e) = ap set_ok e ∙ empty_ok

pub wf→inv : (g : Graph) → well_formed g ≡ true → Inv g
unfolding well_formed
wf→inv g h =
    let n : Bool = leb (length g.names) 48 in
    let a : Bool = ascending g.names in
    let l : Bool = leb (length g.edges) 96 in
    let q : Bool = on_pairs (pair_ok g.names) g.edges in
    let s : Bool = on_pairs (λ p c. set_ok (set_at p c g.edges)) g.edges in
    let o : Bool = in_order g.edges in
    let h1 : n && a ≡ true = and_l (n && a) (l && (q && (s && o))) h in
    let h2 : q && (s && o) ≡ true = and_r l (q && (s && o)) (and_r (n && a) (l && (q && (s && o))) h) in
    let h3 : s && o ≡ true = and_r q (s && o) h2 in
    record { few = leb_le (and_l n a h1); asc = and_r n a h1; pairs = and_l q (s && o) h2; sets = sets_ok g (and_l s o h3); order = and_r s o h3 }

pub room : (g : Graph) → well_formed g ≡ true → leb (length g.edges) 96 ≡ true
unfolding well_formed
room g h =
    let n : Bool = leb (length g.names) 48 && ascending g.names in
    let r : Bool = on_pairs (pair_ok g.names) g.edges && (on_pairs (λ p c. set_ok (set_at p c g.edges)) g.edges && in_order g.edges) in
    and_l (leb (length g.edges) 96) r (and_r n (leb (length g.edges) 96 && r) h)

pub inv→wf : (g : Graph) → Inv g → leb (length g.edges) 96 ≡ true → well_formed g ≡ true
unfolding well_formed
inv→wf g v h =
    and_i (and_i (le_leb v.few) v.asc)
    (and_i h (and_i v.pairs (and_i (all_any (λ x. set_ok (set_at x.parent x.child g.edges)) (λ x. v.sets x.parent x.child) g.edges) v.order)))

pub limit_ok : (g h : Graph) → limit g ≡ ok h → (g ≡ h) × (leb (length g.edges) 96 ≡ true)
unfolding limit
limit_ok g h e = let z = guard_ok (leb (length g.edges) 96) 21 (ok g) h e in (ok_inj z.1, z.0)

-- the invariant, after edges between held names are put in
pub add_all_inv : (xs : List GEdge) (g h : Graph) → add_all xs g ≡ ok h → Inv g → on_pairs (pair_ok g.names) xs ≡ true → Inv h
add_all_inv xs g h e v q =
    let n : h.names ≡ g.names = add_all_names xs g h e in
    record {
      few = subst (λ (ns : List Name). length ns ≤ 48) (sym n) v.few;
      asc = subst (λ (ns : List Name). ascending ns ≡ true) (sym n) v.asc;
      pairs = subst (λ (ns : List Name). on_pairs (pair_ok ns) h.edges ≡ true) (sym n) (add_all_pairs (pair_ok g.names) xs g h e v.pairs q);
      sets = λ p c. add_all_set_ok xs g h e p c (v.sets p c);
      order = add_all_order xs g h e v.order;
    }
