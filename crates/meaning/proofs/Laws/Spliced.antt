-- On a well-formed graph the names are no part of the order of what is spliced: passes over the edges give the same list.
use Rattle.std.specs.Prelude.{ℕ, ◌<◌, ◌&&◌, not, ◌⊎◌, ◌≡◌}
use Rattle.std.proofs.Common.{arith, inl, inr, ◌∙◌, sym, subst}
use Rattle.std.proofs.Math.Bool.{Bool, true, false, cond}
use Rattle.std.proofs.lemmas.Bool.{false≢true}
use mathlib.Core.List.{List, [], ◌∷◌, ◌++◌, append_assoc}
use Rattle.std.proofs.Math.Path.{refl, ap}
use Rattle.std.proofs.Math.Dec.{eqb, ltb}
use Rattle.meaning.specs.Lists.{all, each}
use Rattle.meaning.specs.References.{Edge, EdgeSet, empty_set}
use Rattle.meaning.specs.BorrowGraph.{Name, GEdge, holds, ascending, in_order, not_before, eq_pair, lt_pair, set_at, Graph, pair_ok, between, splice, spliced}
use Rattle.meaning.proofs.Laws.Base.{and_l, and_r, decide, both, or_cases, eqb_eq, leb_le, le_leb, and_i, or_l, or_r, eqb_self, all_imp, all_yes}
use Rattle.meaning.proofs.Laws.Call.{holds_all}
use Rattle.meaning.proofs.Laws.Canon.{set_at_hit, set_at_miss, none_before}
use Rattle.meaning.proofs.Laws.Graph.{Inv}
use Rattle.meaning.specs.Refinement.Flat.{spliced_row, spliced_rows}

each_cong : {A B : Type 0} (f g : A → List B) (q : A → Bool) → ((x : A) → q x ≡ true → f x ≡ g x) → (xs : List A) → all q xs ≡ true → each xs f ≡ each xs g
each_cong f g q h [] p = refl
each_cong f g q h (x ∷ xs) p =
    let a = h x (and_l (q x) (all q xs) p) in
    let b = each_cong f g q h xs (and_r (q x) (all q xs) p) in
    λ i. a i ++ b i

each_same : {A B : Type 0} (f g : A → List B) → ((x : A) → f x ≡ g x) → (xs : List A) → each xs f ≡ each xs g
each_same f g h xs = each_cong f g (λ x. true) (λ x t. h x) xs (all_yes xs)

each_none : {A B : Type 0} (f : A → List B) → ((x : A) → f x ≡ []) → (xs : List A) → each xs f ≡ []
each_none f h [] = refl
each_none f h (x ∷ xs) = (λ i. h x i ++ each xs f) ∙ each_none f h xs

module _ {B : Type 0} (k : GEdge → ℕ) (hits : GEdge → Bool) (P Q : ℕ → ℕ) (F : ℕ → Edge → List B)
    (one_way : (x : GEdge) → hits x ≡ true → eq_pair (P (k x)) (Q (k x)) x.parent x.child ≡ true)
    (back : (m : ℕ) (x : GEdge) → eq_pair (P m) (Q m) x.parent x.child ≡ true → (hits x ≡ true) × (m ≡ k x))
    (early : (m : ℕ) (x : GEdge) → hits x ≡ true → m < k x → lt_pair x.parent x.child (P m) (Q m) ≡ true) where
  abbrev block : List GEdge → Name → List B
  block xs m = each (set_at (P m.id) (Q m.id) xs).edges (F m.id)

  skip : (x : GEdge) (xs : List GEdge) (m : Name) → (eq_pair (P m.id) (Q m.id) x.parent x.child ≡ true → ⊥) → block (x ∷ xs) m ≡ block xs m
  skip x xs m no' = ap (λ (s : EdgeSet). each s.edges (F m.id)) (set_at_miss (P m.id) (Q m.id) x xs (decide (eq_pair (P m.id) (Q m.id) x.parent x.child) (λ t. absurd (no' t)) (λ t. t)))

  peel : (x : GEdge) (xs : List GEdge) → hits x ≡ true → in_order (x ∷ xs) ≡ true → (ns : List Name) → ascending ns ≡ true → holds ns (k x) ≡ true
      → each ns (block (x ∷ xs)) ≡ F (k x) x.edge ++ each ns (block xs)
  unfolding ascending holds
  peel x xs hx o [] asc' h = absurd (false≢true h)
  peel x xs hx o (m ∷ ms) asc' h = go (eqb (k x) m.id) refl (λ r. peel x xs hx o ms (and_r up (ascending ms) asc') r)
    where
      up : Bool
      up = ltb m.id 65536 && all (λ j. ltb m.id j.id) ms

      later : all (λ j. ltb m.id j.id) ms ≡ true
      later = and_r (ltb m.id 65536) (all (λ j. ltb m.id j.id) ms) (and_l up (ascending ms) asc')

      go : (b : Bool) → eqb (k x) m.id ≡ b → (holds ms (k x) ≡ true → each ms (block (x ∷ xs)) ≡ F (k x) x.edge ++ each ms (block xs))
          → each (m ∷ ms) (block (x ∷ xs)) ≡ F (k x) x.edge ++ each (m ∷ ms) (block xs)
      go true t r =
          let e : k x ≡ m.id = eqb_eq t in
          let hit : eq_pair (P m.id) (Q m.id) x.parent x.child ≡ true = subst (λ (j : ℕ). eq_pair (P j) (Q j) x.parent x.child ≡ true) e (one_way x hx) in
          let a : block (x ∷ xs) m ≡ F m.id x.edge ++ block xs m = ap (λ (s : EdgeSet). each s.edges (F m.id)) (set_at_hit (P m.id) (Q m.id) x xs hit) in
          let b : each ms (block (x ∷ xs)) ≡ each ms (block xs) = each_cong (block (x ∷ xs)) (block xs) (λ j. ltb m.id j.id)
          (λ j u. skip x xs j (λ z. let y : j.id ≡ k x = (back j.id x z).1 in let v : m.id < j.id = leb_le u in absurd (omega arith))) ms later in
          (λ i. a i ++ b i) ∙ append_assoc (F m.id x.edge) (block xs m) (each ms (block xs))
          ∙ ap (λ (j : ℕ). F j x.edge ++ (block xs m ++ each ms (block xs))) (sym e)
      go false t r =
          let hm : holds ms (k x) ≡ true = held_later (or_cases (eqb (k x) m.id) (holds ms (k x)) h) in
          let lt : ltb m.id (k x) ≡ true = holds_all (λ j. ltb m.id j) ms (k x) hm later in
          let l : m.id < k x = leb_le lt in
          let z : set_at (P m.id) (Q m.id) (x ∷ xs) ≡ empty_set = none_before (P m.id) (Q m.id) x xs o (early m.id x hx l) in
          let a : block (x ∷ xs) m ≡ [] = ap (λ (s : EdgeSet). each s.edges (F m.id)) z in
          let a' : block xs m ≡ [] = sym (skip x xs m (λ w. let y : m.id ≡ k x = (back m.id x w).1 in absurd (omega arith))) ∙ a in
          (λ i. a i ++ each ms (block (x ∷ xs))) ∙ r hm ∙ (λ i. F (k x) x.edge ++ (sym a' i ++ each ms (block xs)))
        where
          held_later : (eqb (k x) m.id ≡ true) ⊎ (holds ms (k x) ≡ true) → holds ms (k x) ≡ true
          held_later (inl w) = absurd (both w t)
          held_later (inr w) = w

  pub gather : (ns : List Name) → ascending ns ≡ true → (xs : List GEdge) → in_order xs ≡ true → all (λ x. holds ns (k x)) xs ≡ true
      → each ns (block xs) ≡ each xs (λ x. cond (hits x) (F (k x) x.edge) [])
  unfolding in_order set_at
  gather ns asc' [] o h = each_none (block []) (λ m. refl) ns
  gather ns asc' (x ∷ xs) o h = go (hits x) refl (gather ns asc' xs (and_r (all (not_before x) xs) (in_order xs) o) (and_r (holds ns (k x)) (all (λ z. holds ns (k z)) xs) h))
    where
      go : (b : Bool) → hits x ≡ b → each ns (block xs) ≡ each xs (λ z. cond (hits z) (F (k z) z.edge) [])
          → each ns (block (x ∷ xs)) ≡ cond b (F (k x) x.edge) [] ++ each xs (λ z. cond (hits z) (F (k z) z.edge) [])
      go true t r = peel x xs t o ns asc' (and_l (holds ns (k x)) (all (λ z. holds ns (k z)) xs) h) ∙ ap (λ (l : List B). F (k x) x.edge ++ l) r
      go false t r = each_same (block (x ∷ xs)) (block xs) (λ m. skip x xs m (λ z. both (back m.id x z).0 t)) ns ∙ r

ltb_of : {m n : ℕ} → m < n → ltb m n ≡ true
ltb_of h = le_leb h

module _ (g : Graph) (n : ℕ) (v : Inv g) where
  last : ℕ → Edge → ℕ → Edge → List GEdge
  last p e c f = cond (eqb p c) [] (between p (splice e f) c ∷ [])

  children : all (λ y. holds g.names y.child) g.edges ≡ true
  children = all_imp (λ y. pair_ok g.names y.parent y.child) (λ y. holds g.names y.child)
      (λ y h. and_l (holds g.names y.child) (not (eqb y.parent y.child)) (and_r (holds g.names y.parent) (holds g.names y.child && not (eqb y.parent y.child)) h)) g.edges v.pairs

  parents : all (λ y. holds g.names y.parent) g.edges ≡ true
  parents = all_imp (λ y. pair_ok g.names y.parent y.child) (λ y. holds g.names y.parent)
      (λ y h. and_l (holds g.names y.parent) (holds g.names y.child && not (eqb y.parent y.child)) h) g.edges v.pairs

  cond_meet : {A : Type 0} (a b : Bool) (l : List A) → cond a (cond b [] l) [] ≡ cond (a && not b) l []
  cond_meet true true l = refl
  cond_meet true false l = refl
  cond_meet false b l = refl

  abbrev out : ℕ → Edge → List GEdge
  out p e = each g.edges (λ y. cond (eqb n y.parent && not (eqb p y.child)) (between p (splice e y.edge) y.child ∷ []) [])

  inner : (p : ℕ) (e : Edge) → each g.names (λ c. each (set_at n c.id g.edges).edges (λ f. cond (eqb p c.id) [] (between p (splice e f) c.id ∷ []))) ≡ out p e
  inner p e =
      gather (λ y. y.child) (λ y. eqb n y.parent) (λ m. n) (λ m. m) (λ c f. cond (eqb p c) [] (between p (splice e f) c ∷ []))
      (λ x t. and_i t (eqb_self x.child))
      (λ m x t. (and_l (eqb n x.parent) (eqb m x.child) t, eqb_eq (and_r (eqb n x.parent) (eqb m x.child) t)))
      (λ m x t l. or_r (ltb n x.parent) (and_i t (ltb_of l)))
      g.names v.asc g.edges v.order children
      ∙ each_same (λ y. cond (eqb n y.parent) (cond (eqb p y.child) [] (between p (splice e y.edge) y.child ∷ [])) [])
      (λ y. cond (eqb n y.parent && not (eqb p y.child)) (between p (splice e y.edge) y.child ∷ []) [])
      (λ y. cond_meet (eqb n y.parent) (eqb p y.child) (between p (splice e y.edge) y.child ∷ [])) g.edges

  pub spliced_rows_lem : spliced g n ≡ spliced_rows n g.edges g.edges
  unfolding spliced spliced_rows spliced_row
  spliced_rows_lem =
      each_same (λ p. each (set_at p.id n g.edges).edges (λ e. each g.names (λ c. each (set_at n c.id g.edges).edges (λ f. cond (eqb p.id c.id) [] (between p.id (splice e f) c.id ∷ [])))))
      (λ p. each (set_at p.id n g.edges).edges (out p.id))
      (λ p. each_same (λ e. each g.names (λ c. each (set_at n c.id g.edges).edges (λ f. cond (eqb p.id c.id) [] (between p.id (splice e f) c.id ∷ [])))) (out p.id) (inner p.id) (set_at p.id n g.edges).edges) g.names
      ∙ gather (λ x. x.parent) (λ x. eqb n x.child) (λ m. m) (λ m. n) out
      (λ x t. and_i (eqb_self x.parent) t)
      (λ m x t. (and_r (eqb m x.parent) (eqb n x.child) t, eqb_eq (and_l (eqb m x.parent) (eqb n x.child) t)))
      (λ m x t l. or_l (eqb m x.parent && ltb n x.child) (ltb_of l))
      g.names v.asc g.edges v.order parents
