-- The list of edges is the only one with its sets: two well-formed graphs with the same names and the same set for each pair are equal.
use Rattle.std.specs.Prelude.{ℕ, suc, ◌≤◌, ◌<◌, Bool, true, cond, false, not, ◌&&◌, ◌||◌, ◌⊎◌, ◌≡◌, refl, ltb, eqb, length}
use Rattle.std.proofs.Common.{zero-le, arith, true≢false, inl, inr, ap, sym, subst, ◌∙◌}
use Rattle.std.proofs.lemmas.Bool.{false≢true}
use mathlib.Core.List.{List, ◌∷◌, [], nil≢cons, head-eq_of_cons-eq, tail-eq_of_cons-eq, cons≢nil}
use Rattle.meaning.specs.Lists.{all}
use Rattle.meaning.specs.References.{empty_set, EdgeSet, Edge, is_blur, set_ok}
use Rattle.meaning.specs.BorrowGraph.{GEdge, eq_pair, union, one, set_at, lt_pair, not_before, in_order, Graph, well_formed}
use Rattle.meaning.proofs.Laws.Base.{both, and_l, and_i, eqb_self, leb_gt, decide, or_r, and_r}
use Rattle.meaning.proofs.Laws.Graph.{eq_pair_self, not_before_self, at_or_empty, solid, non_empty, set_at_solid, eq_pair_l, eq_pair_r, wf→inv}
use Rattle.meaning.proofs.Laws.Set.{set_ok_blurred}

pub set_at_hit : (p c : ℕ) (x : GEdge) (xs : List GEdge) → eq_pair p c x.parent x.child ≡ true → set_at p c (x ∷ xs) ≡ union (one x) (set_at p c xs)
unfolding set_at
set_at_hit p c x xs e = ap (λ (b : Bool). cond b (union (one x) (set_at p c xs)) (set_at p c xs)) e

pub set_at_miss : (p c : ℕ) (x : GEdge) (xs : List GEdge) → eq_pair p c x.parent x.child ≡ false → set_at p c (x ∷ xs) ≡ set_at p c xs
unfolding set_at
set_at_miss p c x xs e = ap (λ (b : Bool). cond b (union (one x) (set_at p c xs)) (set_at p c xs)) e

pub set_at_head : (x : GEdge) (xs : List GEdge) → set_at x.parent x.child (x ∷ xs) ≡ union (one x) (set_at x.parent x.child xs)
set_at_head x xs = set_at_hit x.parent x.child x xs (eq_pair_self x.parent x.child)

-- a pair before the first one has no edge
pub none_before : (q d : ℕ) (x : GEdge) (xs : List GEdge) → in_order (x ∷ xs) ≡ true → lt_pair x.parent x.child q d ≡ true → set_at q d (x ∷ xs) ≡ empty_set
unfolding in_order
none_before q d x xs h l =
    go (at_or_empty (λ m n. not (lt_pair x.parent x.child m n)) q d (x ∷ xs)
    (and_i (ap not (not_before_self x.parent x.child x.parent x.child (eq_pair_self x.parent x.child))) (and_l (all (not_before x) xs) (in_order xs) h)))
  where
    go : (not (lt_pair x.parent x.child q d) ≡ true) ⊎ (set_at q d (x ∷ xs) ≡ empty_set) → set_at q d (x ∷ xs) ≡ empty_set
    go (inl z) = absurd (both z (ap not l))
    go (inr z) = z

-- neither pair before the other: the same pair
pub same_pair : (p c q d : ℕ) → lt_pair p c q d ≡ false → lt_pair q d p c ≡ false → (p ≡ q) × (c ≡ d)
same_pair p c q d h k = (e₁, e₂)
  where
    no_l : (a b : Bool) → a || b ≡ false → a ≡ false
    no_l true b e = absurd (true≢false e)
    no_l false b e = refl

    no_r : (a b : Bool) → a || b ≡ false → b ≡ false
    no_r true b e = absurd (true≢false e)
    no_r false b e = e

    no_and : (a b : Bool) → a ≡ true → a && b ≡ false → b ≡ false
    no_and true b t e = e
    no_and false b t e = absurd (false≢true t)

    ge : (m n : ℕ) → ltb m n ≡ false → n ≤ m
    ge m n e = let z : n < suc m = leb_gt {m = suc m} {n = n} e in omega arith

    e₁ : p ≡ q
    e₁ =
        let a : p ≤ q = ge q p (no_l (ltb q p) (eqb q p && ltb d c) h) in
        let b : q ≤ p = ge p q (no_l (ltb p q) (eqb p q && ltb c d) k) in
        omega arith

    e₂ : c ≡ d
    e₂ =
        let t : eqb q p ≡ true = subst (λ (n : ℕ). eqb q n ≡ true) (sym e₁) (eqb_self q) in
        let u : eqb p q ≡ true = subst (λ (n : ℕ). eqb p n ≡ true) e₁ (eqb_self p) in
        let a : c ≤ d = ge d c (no_and (eqb q p) (ltb d c) t (no_r (ltb q p) (eqb q p && ltb d c) h)) in
        let b : d ≤ c = ge c d (no_and (eqb p q) (ltb c d) u (no_r (ltb p q) (eqb p q && ltb c d) k)) in
        omega arith

-- a blurred set has at most one edge
abbrev pub Lone : EdgeSet → Type 0
Lone s = s.blurred ≡ true → length s.edges ≤ 1

-- a blurred set has an edge
pub solid_no : (s : EdgeSet) → solid s ≡ true → s.blurred ≡ true → length s.edges < 1 → ⊥
unfolding solid non_empty
solid_no s h b l = go s.edges (subst (λ (z : Bool). not z || non_empty s.edges ≡ true) b h) l
  where
    go : (es : List Edge) → non_empty es ≡ true → length es < 1 → ⊥
    go [] e k = false≢true e
    go (x ∷ es) e k = omega arith

-- what is left of the set of the first edge's pair is not blurred
pub rest_plain : (x : GEdge) (xs : List GEdge) → Lone (union (one x) (set_at x.parent x.child xs)) → (set_at x.parent x.child xs).blurred ≡ false
rest_plain x xs h =
    decide (set_at x.parent x.child xs).blurred
    (λ b. let k : suc (length (set_at x.parent x.child xs).edges) ≤ 1 = h (or_r x.blurred b) in
    absurd (solid_no (set_at x.parent x.child xs) (set_at_solid x.parent x.child xs) b k))
    (λ b. b)

or_plain : (a b : Bool) → b ≡ false → a || b ≡ a
or_plain true b e = refl
or_plain false b e = e

module _ (x : GEdge) (xs : List GEdge) (y : GEdge) (ys : List GEdge) where
  abbrev Same : List GEdge → List GEdge → Type 0
  Same us vs = (p c : ℕ) → set_at p c us ≡ set_at p c vs

  not_later : in_order (x ∷ xs) ≡ true → Same (x ∷ xs) (y ∷ ys) → lt_pair x.parent x.child y.parent y.child ≡ true → ⊥
  not_later o s l =
      nil≢cons (ap (λ (z : EdgeSet). z.edges)
      (sym (none_before y.parent y.child x xs o l) ∙ s y.parent y.child ∙ set_at_head y ys))

  record Heads : Type 0 where
    first : x ≡ y
    rest : Same xs ys
    lone : Lone (set_at x.parent x.child xs)

  heads : (p : x.parent ≡ y.parent) (c : x.child ≡ y.child) → Same (x ∷ xs) (y ∷ ys) → ((q d : ℕ) → Lone (set_at q d (x ∷ xs))) → ((q d : ℕ) → Lone (set_at q d (y ∷ ys))) → Heads
  heads p c s lx ly =
      let sy : set_at x.parent x.child (y ∷ ys) ≡ union (one y) (set_at x.parent x.child ys) =
      set_at_hit x.parent x.child y ys (and_i (subst (λ (n : ℕ). eqb x.parent n ≡ true) p (eqb_self x.parent)) (subst (λ (n : ℕ). eqb x.child n ≡ true) c (eqb_self x.child))) in
      let u : union (one x) (set_at x.parent x.child xs) ≡ union (one y) (set_at x.parent x.child ys) = sym (set_at_head x xs) ∙ s x.parent x.child ∙ sy in
      let ee : x.edge ∷ (set_at x.parent x.child xs).edges ≡ y.edge ∷ (set_at x.parent x.child ys).edges = ap (λ (z : EdgeSet). z.edges) u in
      let e₁ : x.edge ≡ y.edge = head-eq_of_cons-eq ee in
      let e₂ : (set_at x.parent x.child xs).edges ≡ (set_at x.parent x.child ys).edges = tail-eq_of_cons-eq ee in
      let bx : (set_at x.parent x.child xs).blurred ≡ false = rest_plain x xs (subst Lone (set_at_head x xs) (lx x.parent x.child)) in
      let by₀ : (set_at y.parent y.child ys).blurred ≡ false = rest_plain y ys (subst Lone (set_at_head y ys) (ly y.parent y.child)) in
      let by : (set_at x.parent x.child ys).blurred ≡ false =
      subst (λ (n : ℕ). (set_at n x.child ys).blurred ≡ false) (sym p) (subst (λ (n : ℕ). (set_at y.parent n ys).blurred ≡ false) (sym c) by₀) in
      let b : x.blurred ≡ y.blurred =
      sym (or_plain x.blurred (set_at x.parent x.child xs).blurred bx) ∙ ap (λ (z : EdgeSet). z.blurred) u ∙ or_plain y.blurred (set_at x.parent x.child ys).blurred by in
      let bb : (set_at x.parent x.child xs).blurred ≡ (set_at x.parent x.child ys).blurred = bx ∙ sym by in
      let here : set_at x.parent x.child xs ≡ set_at x.parent x.child ys = λ i. record { edges = e₂ i; blurred = bb i } in
      record {
        first = λ i. record { parent = p i; child = c i; blurred = b i; edge = e₁ i };
        rest = λ q d. decide (eq_pair q d x.parent x.child)
            (λ e. subst (λ (m : ℕ). set_at m d xs ≡ set_at m d ys) (sym (eq_pair_l q d x.parent x.child e))
            (subst (λ (m : ℕ). set_at x.parent m xs ≡ set_at x.parent m ys) (sym (eq_pair_r q d x.parent x.child e)) here))
            (λ e. sym (set_at_miss q d x xs e) ∙ s q d ∙ set_at_miss q d y ys (subst (λ (m : ℕ). eq_pair q d m y.child ≡ false) p (subst (λ (m : ℕ). eq_pair q d x.parent m ≡ false) c e)));
        lone = λ z. absurd (both z bx);
      }

lone_tail : (x : GEdge) (xs : List GEdge) → ((q d : ℕ) → Lone (set_at q d (x ∷ xs))) → (q d : ℕ) → Lone (set_at q d xs)
lone_tail x xs l q d =
    decide (eq_pair q d x.parent x.child)
    (λ e z. absurd (both (subst (λ (m : ℕ). (set_at m x.child xs).blurred ≡ true) (eq_pair_l q d x.parent x.child e) (subst (λ (m : ℕ). (set_at q m xs).blurred ≡ true) (eq_pair_r q d x.parent x.child e) z))
    (rest_plain x xs (subst Lone (set_at_head x xs) (l x.parent x.child)))))
    (λ e. subst Lone (set_at_miss q d x xs e) (l q d))

at_empty : (p c : ℕ) → set_at p c [] ≡ empty_set
unfolding set_at
at_empty p c = refl

pub edges_ext : (xs ys : List GEdge) → in_order xs ≡ true → in_order ys ≡ true → ((p c : ℕ) → Lone (set_at p c xs)) → ((p c : ℕ) → Lone (set_at p c ys))
    → ((p c : ℕ) → set_at p c xs ≡ set_at p c ys) → xs ≡ ys
unfolding in_order
edges_ext [] [] ox oy lx ly s = refl
edges_ext [] (y ∷ ys) ox oy lx ly s = absurd (nil≢cons (ap (λ (z : EdgeSet). z.edges) (sym (at_empty y.parent y.child) ∙ s y.parent y.child ∙ set_at_head y ys)))
edges_ext (x ∷ xs) [] ox oy lx ly s = absurd (cons≢nil (ap (λ (z : EdgeSet). z.edges) (sym (set_at_head x xs) ∙ s x.parent x.child ∙ at_empty x.parent x.child)))
edges_ext (x ∷ xs) (y ∷ ys) ox oy lx ly s =
    let z = same_pair x.parent x.child y.parent y.child
    (decide (lt_pair x.parent x.child y.parent y.child) (λ e. absurd (not_later x xs y ys ox s e)) (λ e. e))
    (decide (lt_pair y.parent y.child x.parent x.child) (λ e. absurd (not_later y ys x xs oy (λ p c. sym (s p c)) e)) (λ e. e)) in
    let h : Heads x xs y ys = heads x xs y ys z.0 z.1 s lx ly in
    let t : xs ≡ ys = edges_ext xs ys (and_r (all (not_before x) xs) (in_order xs) ox) (and_r (all (not_before y) ys) (in_order ys) oy) (lone_tail x xs lx) (lone_tail y ys ly) h.rest in
    let f : x ≡ y = h.first in
    λ i. f i ∷ t i

pub is_blur_one : (es : List Edge) → is_blur es ≡ true → length es ≤ 1
unfolding is_blur
is_blur_one [] h = zero-le
is_blur_one (e ∷ []) h = omega arith
is_blur_one (e ∷ f ∷ es) h = absurd (false≢true h)

pub set_ok_lone : (s : EdgeSet) → set_ok s ≡ true → Lone s
set_ok_lone s h b = is_blur_one s.edges (sym (set_ok_blurred s b) ∙ h)

pub graph_ext : (g h : Graph) → well_formed g ≡ true → well_formed h ≡ true → g.names ≡ h.names → ((p c : ℕ) → set_at p c g.edges ≡ set_at p c h.edges) → g ≡ h
graph_ext g h wg wh n s =
    let e : g.edges ≡ h.edges =
    edges_ext g.edges h.edges (wf→inv g wg).order (wf→inv h wh).order (λ p c. set_ok_lone (set_at p c g.edges) ((wf→inv g wg).sets p c))
    (λ p c. set_ok_lone (set_at p c h.edges) ((wf→inv h wh).sets p c)) s in
    λ i. record { names = n i; edges = e i }
