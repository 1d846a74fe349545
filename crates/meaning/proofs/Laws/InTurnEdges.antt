-- One end of the edges renamed one name after the other: set by set that is a map renamed so (Overwrite).
use Rattle.std.specs.Prelude.{ℕ, ◌≤◌, Bool, true, false, not, ◌&&◌, ◌||◌, ◌≢◌, ◌≡◌}
use Rattle.std.proofs.Math.Bool.{cond, and_comm}
use Rattle.std.proofs.lemmas.Bool.{false≢true}
use mathlib.Core.List.{List, [], ◌∷◌, map, cons≢nil}
use Rattle.std.proofs.Math.Path.{refl, ap}
use Rattle.std.proofs.Common.{sym, subst, ◌∙◌}
use Rattle.std.proofs.Math.Dec.{eqb}
use Rattle.meaning.specs.Lists.{any, keep}
use Rattle.meaning.specs.References.{EdgeSet, empty_set}
use Rattle.meaning.specs.BorrowGraph.{GEdge, eq_pair, union, one, set_at}
use Rattle.meaning.proofs.Laws.Base.{decide, both, and_l, and_no_l, and_no_r, eqb_eq, eqb_no, eqb_ne, or_no_l, or_no_r}
use Rattle.meaning.proofs.Laws.Overwrite.{put_over, Apart, Midway, midway_next, midway_skip}
use Rattle.meaning.proofs.Laws.Own.{times, in_front}
use Rattle.meaning.specs.Refinement.InTurn.{with_parent, with_child, end_moved, lends, children_in_turn}

-- the edges that pass a test, as a set
unfoldable gather : (GEdge → Bool) → List GEdge → EdgeSet
gather q [] = empty_set
gather q (x ∷ xs) = cond (q x) (union (one x) (gather q xs)) (gather q xs)

-- the test holds of one end and of what is told by `same`; `to` renames that end
module _ (end : GEdge → ℕ) (to : ℕ → GEdge → GEdge) (same : GEdge → Bool) (to_end : (n : ℕ) (x : GEdge) → end (to n x) ≡ n) (to_same : (n : ℕ) (x : GEdge) → same (to n x) ≡ same x)
    (to_one : (n : ℕ) (x : GEdge) → one (to n x) ≡ one x) where
  pub at : ℕ → List GEdge → EdgeSet
  unfolding gather
  at k xs = gather (λ x. eqb k (end x) && same x) xs

  at_hit : (k : ℕ) (x : GEdge) (xs : List GEdge) → eqb k (end x) && same x ≡ true → at k (x ∷ xs) ≡ union (one x) (at k xs)
  unfolding at
  at_hit k x xs h = ap (λ (b : Bool). cond b (union (one x) (at k xs)) (at k xs)) h

  at_miss : (k : ℕ) (x : GEdge) (xs : List GEdge) → eqb k (end x) && same x ≡ false → at k (x ∷ xs) ≡ at k xs
  unfolding at
  at_miss k x xs h = ap (λ (b : Bool). cond b (union (one x) (at k xs)) (at k xs)) h

  at_none : (k : ℕ) → at k [] ≡ empty_set
  unfolding at
  at_none k = refl

  module _ (over : GEdge → Bool) (old new : ℕ) where
    abbrev stays : GEdge → Bool
    stays x = not (eqb new (end x) && (not (eqb old (end x)) && over x))

    abbrev go : GEdge → GEdge
    go x = cond (eqb old (end x)) (to new x) x

    abbrev done : List GEdge → List GEdge
    done xs = end_moved end to over old new xs

    kept : (x : GEdge) (xs : List GEdge) → stays x ≡ true → done (x ∷ xs) ≡ go x ∷ done xs
    kept x xs h = ap (λ (b : Bool). map go (cond b (x ∷ keep stays xs) (keep stays xs))) h

    dropped : (x : GEdge) (xs : List GEdge) → stays x ≡ false → done (x ∷ xs) ≡ done xs
    dropped x xs h = ap (λ (b : Bool). map go (cond b (x ∷ keep stays xs) (keep stays xs))) h

    go_same : (x : GEdge) → same (go x) ≡ same x
    go_same x = decide (eqb old (end x)) (λ h. ap (λ (b : Bool). same (cond b (to new x) x)) h ∙ to_same new x) (λ h. ap (λ (b : Bool). same (cond b (to new x) x)) h)

    -- an edge that `same` leaves out
    left_out : (k : ℕ) (x : GEdge) (xs : List GEdge) → same x ≡ false → at k (done (x ∷ xs)) ≡ at k (done xs)
    left_out k x xs h =
        decide (stays x)
        (λ s. ap (at k) (kept x xs s) ∙ at_miss k (go x) (done xs) (and_no_r (eqb k (end (go x))) (same (go x)) (go_same x ∙ h)))
        (λ s. ap (at k) (dropped x xs s))

    stays_old : (x : GEdge) → eqb old (end x) ≡ true → stays x ≡ true
    stays_old x h = ap not (and_no_r (eqb new (end x)) (not (eqb old (end x)) && over x) (and_no_l (not (eqb old (end x))) (over x) (ap not h)))

    stays_other : (x : GEdge) → eqb new (end x) ≡ false → stays x ≡ true
    stays_other x h = ap not (and_no_l (eqb new (end x)) (not (eqb old (end x)) && over x) h)

    -- what `same` leaves in is put over
    module _ (puts : (x : GEdge) → same x ≡ true → over x ≡ true) (k : ℕ) where
      abbrev Over : List GEdge → Type 0
      Over xs = at k (done xs) ≡ put_over empty_set old new (λ j. at j xs) k

      -- nothing of x shows on the right side
      unseen : (x : GEdge) (xs : List GEdge) → at old (x ∷ xs) ≡ at old xs → (k ≢ new → k ≢ old → at k (x ∷ xs) ≡ at k xs) → put_over empty_set old new (λ j. at j xs) k ≡ put_over empty_set old new (λ j. at j (x ∷ xs)) k
      unseen x xs p q =
          decide (eqb k new)
          (λ h. rw h (sym p))
          (λ h. rw h (decide (eqb k old) (λ g. rw g) (λ g. rw g (sym (q (eqb_ne {m = k} {n = new} h) (eqb_ne {m = k} {n = old} g))))))

      is_old_lem : (x : GEdge) (xs : List GEdge) → same x ≡ true → eqb old (end x) ≡ true → Over xs → Over (x ∷ xs)
      is_old_lem x xs s a r =
          let g : go x ≡ to new x = ap (λ (b : Bool). cond b (to new x) x) a in
          let l : at k (done (x ∷ xs)) ≡ at k (to new x ∷ done xs) = ap (at k) (kept x xs (stays_old x a) ∙ ap (λ (y : GEdge). y ∷ done xs) g) in
          decide (eqb k new)
          (λ h. let t : eqb k (end (to new x)) && same (to new x) ≡ true = (λ i. eqb k (to_end new x i) && to_same new x i) ∙ (λ i. h i && s i) in
          let w : eqb old (end x) && same x ≡ true = (λ i. a i && s i) in
          let r' : at k (done xs) ≡ at old xs = r ∙ ap (λ (b : Bool). cond b (at old xs) (cond (eqb k old) empty_set (at k xs))) h in
          l ∙ at_hit k (to new x) (done xs) t ∙ (λ i. union (to_one new x i) (r' i)) ∙ sym (at_hit old x xs w)
          ∙ sym (ap (λ (b : Bool). cond b (at old (x ∷ xs)) (cond (eqb k old) empty_set (at k (x ∷ xs)))) h))
          (λ h. let t : eqb k (end (to new x)) && same (to new x) ≡ false = and_no_l (eqb k (end (to new x))) (same (to new x)) (ap (eqb k) (to_end new x) ∙ h) in
          l ∙ at_miss k (to new x) (done xs) t ∙ r ∙ ap (λ (b : Bool). cond b (at old xs) (cond (eqb k old) empty_set (at k xs))) h
          ∙ decide (eqb k old) (λ g₂. rw g₂)
          (λ g₂. rw g₂ (sym (at_miss k x xs (and_no_l (eqb k (end x)) (same x) (subst (λ (n : ℕ). eqb k n ≡ false) (eqb_eq {m = old} {n = end x} a) g₂)))))
          ∙ sym (ap (λ (b : Bool). cond b (at old (x ∷ xs)) (cond (eqb k old) empty_set (at k (x ∷ xs)))) h))

      is_new : (x : GEdge) (xs : List GEdge) → same x ≡ true → eqb old (end x) ≡ false → eqb new (end x) ≡ true → Over xs → Over (x ∷ xs)
      is_new x xs s a b r =
          let d : stays x ≡ false = (λ i. not (b i && (not (a i) && puts x s i))) in
          ap (at k) (dropped x xs d) ∙ r
          ∙ unseen x xs (at_miss old x xs (and_no_l (eqb old (end x)) (same x) a))
          (λ p q. at_miss k x xs (and_no_l (eqb k (end x)) (same x) (eqb_no {m = k} {n = end x} (λ z. p (z ∙ sym (eqb_eq {m = new} {n = end x} b))))))

      is_other : (x : GEdge) (xs : List GEdge) → eqb old (end x) ≡ false → eqb new (end x) ≡ false → Over xs → Over (x ∷ xs)
      is_other x xs a b r =
          let l : at k (done (x ∷ xs)) ≡ at k (x ∷ done xs) = ap (at k) (kept x xs (stays_other x b) ∙ ap (λ (c : Bool). cond c (to new x) x ∷ done xs) a) in
          decide (eqb k (end x) && same x)
          (λ h. let z : k ≡ end x = eqb_eq {m = k} {n = end x} (and_l (eqb k (end x)) (same x) h) in
          let n₁ : eqb k new ≡ false = eqb_no {m = k} {n = new} (λ y. eqb_ne {m = new} {n = end x} b (sym y ∙ z)) in
          let n₂ : eqb k old ≡ false = eqb_no {m = k} {n = old} (λ y. eqb_ne {m = old} {n = end x} a (sym y ∙ z)) in
          let r' : at k (done xs) ≡ at k xs = r ∙ (λ i. cond (n₁ i) (at old xs) (cond (n₂ i) empty_set (at k xs))) in
          l ∙ at_hit k x (done xs) h ∙ ap (union (one x)) r' ∙ sym (at_hit k x xs h) ∙ sym (λ i. cond (n₁ i) (at old (x ∷ xs)) (cond (n₂ i) empty_set (at k (x ∷ xs)))))
          (λ h. l ∙ at_miss k x (done xs) h ∙ r ∙ unseen x xs (at_miss old x xs (and_no_l (eqb old (end x)) (same x) a)) (λ p q. at_miss k x xs h))

      pub moved_over : (xs : List GEdge) → Over xs
      moved_over [] = at_none k ∙ none (eqb k new) (eqb k old)
        where
          none : (u v : Bool) → empty_set ≡ cond u (at old []) (cond v empty_set (at k []))
          none true v = sym (at_none old)
          none false true = refl
          none false false = sym (at_none k)
      moved_over (x ∷ xs) =
          let r : Over xs = moved_over xs in
          decide (same x)
          (λ s. decide (eqb old (end x)) (λ a. is_old_lem x xs s a r) (λ a. decide (eqb new (end x)) (λ b. is_new x xs s a b r) (λ b. is_other x xs a b r)))
          (λ s. left_out k x xs s ∙ r ∙ unseen x xs (at_miss old x xs (and_no_r (eqb old (end x)) (same x) s)) (λ p q. at_miss k x xs (and_no_r (eqb k (end x)) (same x) s)))

    -- nothing stands at the old name, and nothing is put over
    pub moved_none : ((x : GEdge) → same x ≡ true → over x ≡ false) → (k : ℕ) (xs : List GEdge) → any (λ x. eqb old (end x) && same x) xs ≡ false → at k (done xs) ≡ at k xs
    moved_none puts k [] h = refl
    moved_none puts k (x ∷ xs) h =
        let r : at k (done xs) ≡ at k xs = moved_none puts k xs (or_no_r (eqb old (end x) && same x) (any (λ y. eqb old (end y) && same y) xs) h) in
        decide (same x)
        (λ s. let a : eqb old (end x) ≡ false = right (eqb old (end x)) (same x) s (or_no_l (eqb old (end x) && same x) (any (λ y. eqb old (end y) && same y) xs) h) in
        let d : stays x ≡ true = ap not (and_no_r (eqb new (end x)) (not (eqb old (end x)) && over x) (and_no_r (not (eqb old (end x))) (over x) (puts x s))) in
        ap (at k) (kept x xs d ∙ ap (λ (c : Bool). cond c (to new x) x ∷ done xs) a)
        ∙ decide (eqb k (end x) && same x) (λ t. at_hit k x (done xs) t ∙ ap (union (one x)) r ∙ sym (at_hit k x xs t)) (λ t. at_miss k x (done xs) t ∙ r ∙ sym (at_miss k x xs t)))
        (λ s. left_out k x xs s ∙ r ∙ sym (at_miss k x xs (and_no_r (eqb k (end x)) (same x) s)))
      where
        right : (u v : Bool) → v ≡ true → u && v ≡ false → u ≡ false
        right true v p q = absurd (both p q)
        right false v p q = refl

-- ---- the sets of the pairs

-- those of one parent, by the child; those of one child, by the parent
abbrev by_child : ℕ → ℕ → List GEdge → EdgeSet
by_child p c xs = at (λ x. x.child) with_child (λ x. eqb p x.parent) (λ n x. refl) (λ n x. refl) (λ n x. refl) c xs

abbrev by_parent : ℕ → ℕ → List GEdge → EdgeSet
by_parent c p xs = at (λ x. x.parent) with_parent (λ x. eqb c x.child) (λ n x. refl) (λ n x. refl) (λ n x. refl) p xs

set_child : (p c : ℕ) (xs : List GEdge) → by_child p c xs ≡ set_at p c xs
unfolding at gather set_at
set_child p c [] = refl
set_child p c (x ∷ xs) = λ i. cond (and_comm (eqb c x.child) (eqb p x.parent) i) (union (one x) (set_child p c xs i)) (set_child p c xs i)

set_parent : (c p : ℕ) (xs : List GEdge) → by_parent c p xs ≡ set_at p c xs
unfolding at gather set_at
set_parent c p [] = refl
set_parent c p (x ∷ xs) = λ i. cond (eq_pair p c x.parent x.child) (union (one x) (set_parent c p xs i)) (set_parent c p xs i)

set_lends : (p c : ℕ) (xs : List GEdge) → lends xs p c ≡ true → set_at p c xs ≢ empty_set
unfolding set_at
set_lends p c [] l e = false≢true l
set_lends p c (x ∷ xs) l e = go (eq_pair p c x.parent x.child) l e (set_lends p c xs)
  where
    go : (b : Bool) → b || lends xs p c ≡ true → cond b (union (one x) (set_at p c xs)) (set_at p c xs) ≡ empty_set → (lends xs p c ≡ true → set_at p c xs ≢ empty_set) → ⊥
    go true l e r = cons≢nil (ap (λ (s : EdgeSet). s.edges) e)
    go false l e r = r l e

set_not_lent : (p c : ℕ) (xs : List GEdge) → lends xs p c ≡ false → set_at p c xs ≡ empty_set
unfolding set_at
set_not_lent p c [] l = refl
set_not_lent p c (x ∷ xs) l =
    ap (λ (b : Bool). cond b (union (one x) (set_at p c xs)) (set_at p c xs)) (or_no_l (eq_pair p c x.parent x.child) (lends xs p c) l)
    ∙ set_not_lent p c xs (or_no_r (eq_pair p c x.parent x.child) (lends xs p c) l)

-- a step on the parents
pub parents_step : (c old new : ℕ) (xs : List GEdge) (k : ℕ) → set_at k c (end_moved (λ x. x.parent) with_parent (λ x. true) old new xs) ≡ put_over empty_set old new (λ j. set_at j c xs) k
parents_step c old new xs k =
    sym (set_parent c k (end_moved (λ x. x.parent) with_parent (λ x. true) old new xs))
    ∙ moved_over (λ x. x.parent) with_parent (λ x. eqb c x.child) (λ n x. refl) (λ n x. refl) (λ n x. refl) (λ x. true) old new (λ x s. refl) k xs
    ∙ (λ i. put_over empty_set old new (λ j. set_parent c j xs i) k)

-- all steps on the children, seen from one parent
module _ (f : ℕ → ℕ) (dom : ℕ → Bool) (inj : (m n : ℕ) → dom m ≡ true → dom n ≡ true → f m ≡ f n → m ≡ n) (xs : List GEdge) (p : ℕ) (none : (k : ℕ) → dom k ≡ false → set_at p k xs ≡ empty_set) where
  abbrev Sets : List ℕ → List GEdge → Type 0
  Sets ks cur = Midway empty_set f dom inj (λ c. set_at p c xs) ks (λ c. set_at p c cur)

  module _ (n : ℕ) (ks : List ℕ) (cur : List GEdge) (far : (j : ℕ) → 1 ≤ times j ks → f n ≢ j) (h : Sets (n ∷ ks) cur) where
    abbrev lent : GEdge → Bool
    lent x = lends cur x.parent n

    abbrev next : List GEdge
    next = end_moved (λ x. x.child) with_child lent n (f n) cur

    step : (b : Bool) → lends cur p n ≡ b → (x : GEdge) → eqb p x.parent ≡ true → lent x ≡ b
    step b l x s = subst (λ (q : ℕ). lends cur q n ≡ b) (eqb_eq {m = p} {n = x.parent} s) l

    puts : lends cur p n ≡ true → Sets ks next
    puts l =
        midway_next empty_set f dom inj (λ c. set_at p c xs) n ks (λ c. set_at p c cur) (λ c. set_at p c next) far h
        (decide (dom n) (λ d. d) (λ d. absurd (set_lends p n cur l (h.to_come n (in_front n ks) ∙ none n d))))
        (λ k. sym (set_child p k next)
        ∙ moved_over (λ x. x.child) with_child (λ x. eqb p x.parent) (λ m x. refl) (λ m x. refl) (λ m x. refl) lent n (f n) (step true l) k cur
        ∙ (λ i. put_over empty_set n (f n) (λ j. set_child p j cur i) k))

    skips : lends cur p n ≡ false → Sets ks next
    skips l =
        midway_skip empty_set f dom inj (λ c. set_at p c xs) n ks (λ c. set_at p c cur) (λ c. set_at p c next) far h
        (sym (h.to_come n (in_front n ks)) ∙ set_not_lent p n cur l)
        (λ k. sym (set_child p k next)
        ∙ moved_none (λ x. x.child) with_child (λ x. eqb p x.parent) (λ m x. refl) (λ m x. refl) (λ m x. refl) lent n (f n) (step false l) k cur
        ((λ i. any (λ x. and_comm (eqb n x.child) (eqb p x.parent) i) cur) ∙ l)
        ∙ set_child p k cur)

  pub children_turn : (ks : List ℕ) (cur : List GEdge) → Apart f ks → Sets ks cur → Sets [] (children_in_turn f ks cur)
  unfolding children_in_turn
  children_turn [] cur a h = h
  children_turn (n ∷ ks) cur a h = children_turn ks (next n ks cur a.0 h) a.1 (decide (lends cur p n) (puts n ks cur a.0 h) (skips n ks cur a.0 h))
