-- One pass decides what well_formed says of the edges, and of the names.
use Rattle.std.specs.Prelude.{ℕ, ◌+◌, ◌≤◌, suc, ◌<◌, Bool, ◌||◌, ◌&&◌, cond, ◌⊎◌, ◌≡◌, ltb, leb, eqb, length}
use Rattle.std.proofs.Common.{zero-le, arith, inl, inr, sym, ◌∙◌, add-one}
use Rattle.std.proofs.Math.Bool.{true, false, not}
use Rattle.std.proofs.lemmas.Bool.{false≢true}
use mathlib.Core.List.{[], cons≢nil, List, ◌∷◌}
use Rattle.std.proofs.Math.Path.{refl, subst, ap}
use Rattle.meaning.specs.Lists.{all}
use Rattle.meaning.specs.References.{Edge, EdgeSet, short, ordered, lt_edge, empty_set, weakest, is_blur, set_ok, eq_edge}
use Rattle.meaning.specs.BorrowGraph.{eq_pair, GEdge, union, one, set_at, lt_pair, on_pairs, not_before, in_order, is_before, Name, ascending, Graph, holds, pair_ok, well_formed}
use Rattle.meaning.proofs.Laws.Base.{not_true, both, and_i, all_imp, decide, and_l, and_r, le_leb, or_l, or_r, leb_le, eqb_self, or_cases, or_no_l, or_no_r}
use Rattle.meaning.proofs.Laws.Canon.{rest_plain, set_ok_lone, set_at_hit, set_at_miss, set_at_head, none_before, same_pair}
use Rattle.meaning.proofs.Laws.Graph.{eq_pair_l, eq_pair_r, eq_pair_self, not_before_self, lt_pair_trans, empty_ok, all_any, at_or_empty}
use Rattle.meaning.proofs.Laws.Set.{lt_edge_trans, set_ok_blurred, set_ok_unblurred, eq_edge_eq}
use Rattle.meaning.specs.Refinement.Chain.{same, chain, no_edge, climbs}

pub iff_eq : (a b : Bool) → (a ≡ true → b ≡ true) → (b ≡ true → a ≡ true) → a ≡ b
iff_eq true b f g = sym (f refl)
iff_eq false true f g = g refl
iff_eq false false f g = refl

at_same : (P : ℕ → ℕ → Type 0) (p c q d : ℕ) → eq_pair p c q d ≡ true → P p c → P q d
at_same P p c q d e h = subst (λ (n : ℕ). P n d) (eq_pair_l p c q d e) (subst (λ (n : ℕ). P p n) (eq_pair_r p c q d e) h)

-- ---- what is left of the set of the last edge's pair

record Mine (k : ℕ) (e : Edge) (b : Bool) (s : EdgeSet) : Type 0 where
  few : k + length s.edges ≤ 10
  shorts : all short s.edges ≡ true
  above : all (lt_edge e) s.edges ≡ true
  asc : ordered s.edges ≡ true
  plain : s.blurred ≡ false
  alone : b ≡ true → s.edges ≡ []

mine_empty : (k : ℕ) (e : Edge) (b : Bool) → k ≤ 10 → Mine k e b empty_set
unfolding ordered
mine_empty k e b l = record { few = omega arith; shorts = refl; above = refl; asc = refl; plain = refl; alone = λ z. refl }

or_no : (a b : Bool) → a ≡ false → b ≡ false → a || b ≡ false
or_no a b p q = ap (λ (x : Bool). x || b) p ∙ q

mine_cons : (k : ℕ) (e : Edge) (b : Bool) (x : GEdge) (s : EdgeSet) → short x.edge ≡ true → not (b || x.blurred) ≡ true → lt_edge e x.edge ≡ true
    → Mine (suc k) x.edge x.blurred s → Mine k e b (union (one x) s)
unfolding ordered
mine_cons k e b x s sh nb lt m = record {
  few = let z : suc k + length s.edges ≤ 10 = m.few in omega arith;
  shorts = and_i sh m.shorts;
  above = and_i lt (all_imp (lt_edge x.edge) (lt_edge e) (λ f h. lt_edge_trans e x.edge f lt h) s.edges m.above);
  asc = and_i m.above m.asc;
  plain = or_no x.blurred s.blurred (or_no_r b x.blurred (not_true nb)) m.plain;
  alone = λ z. absurd (both z (or_no_l b x.blurred (not_true nb)));
}

record Unconsed (k : ℕ) (e : Edge) (b : Bool) (x : GEdge) (s : EdgeSet) : Type 0 where
  room : ltb k 10 ≡ true
  sh : short x.edge ≡ true
  nb : not (b || x.blurred) ≡ true
  lt : lt_edge e x.edge ≡ true
  rest : Mine (suc k) x.edge x.blurred s

mine_uncons : (k : ℕ) (e : Edge) (b : Bool) (x : GEdge) (s : EdgeSet) → Mine k e b (union (one x) s) → Unconsed k e b x s
unfolding ordered
mine_uncons k e b x s m =
    let z : k + suc (length s.edges) ≤ 10 = m.few in
    let xb : x.blurred ≡ false = or_no_l x.blurred s.blurred m.plain in
    let kl : k < 10 = omega arith in
    record {
      room = le_leb kl;
      sh = and_l (short x.edge) (all short s.edges) m.shorts;
      nb = decide b (λ t. absurd (cons≢nil (m.alone t))) (λ t. ap not (or_no b x.blurred t xb));
      lt = and_l (lt_edge e x.edge) (all (lt_edge e) s.edges) m.above;
      rest = record {
        few = omega arith;
        shorts = and_r (short x.edge) (all short s.edges) m.shorts;
        above = and_l (all (lt_edge x.edge) s.edges) (ordered s.edges) m.asc;
        asc = and_r (all (lt_edge x.edge) s.edges) (ordered s.edges) m.asc;
        plain = or_no_r x.blurred s.blurred m.plain;
        alone = λ t. absurd (both t xb);
      };
    }

-- the set of a pair, by its first edge
first_ok : (x : GEdge) (s : EdgeSet) → short x.edge ≡ true → not x.blurred || eq_edge x.edge (weakest 0) ≡ true → Mine 1 x.edge x.blurred s → set_ok (union (one x) s) ≡ true
unfolding ordered is_blur
first_ok x s sh w m = decide x.blurred
    (λ t. set_ok_blurred (union (one x) s) (or_l s.blurred t)
    ∙ subst (λ (l : List Edge). is_blur (x.edge ∷ l) ≡ true) (sym (m.alone t))
    (subst (λ (z : Bool). not z || eq_edge x.edge (weakest 0) ≡ true) t w))
    (λ t. let z : 1 + length s.edges ≤ 10 = m.few in
    let z' : suc (length s.edges) ≤ 10 = omega arith in
    set_ok_unblurred (union (one x) s) (or_no x.blurred s.blurred t m.plain)
    ∙ and_i (le_leb z') (and_i (and_i sh m.shorts) (and_i m.above m.asc)))

record First (x : GEdge) (s : EdgeSet) : Type 0 where
  sh : short x.edge ≡ true
  w : not x.blurred || eq_edge x.edge (weakest 0) ≡ true
  rest : Mine 1 x.edge x.blurred s

blur_first : (e : Edge) (l : List Edge) → is_blur (e ∷ l) ≡ true → (l ≡ []) × (eq_edge e (weakest 0) ≡ true)
unfolding is_blur
blur_first e [] h = (refl, h)
blur_first e (f ∷ l) h = absurd (false≢true h)

weakest_short : (e : Edge) → eq_edge e (weakest 0) ≡ true → short e ≡ true
unfolding short
weakest_short e h = subst (λ (f : Edge). short f ≡ true) (sym (eq_edge_eq e (weakest 0) h)) refl

nil_mine : (e : Edge) (b : Bool) (s : EdgeSet) → s.edges ≡ [] → s.blurred ≡ false → Mine 1 e b s
nil_mine e b s n p =
    let q : s ≡ empty_set = λ i. record { edges = n i; blurred = p i } in
    subst (λ (t : EdgeSet). Mine 1 e b t) (sym q) (mine_empty 1 e b (omega arith))

ok_first : (x : GEdge) (xs : List GEdge) → set_ok (union (one x) (set_at x.parent x.child xs)) ≡ true → First x (set_at x.parent x.child xs)
unfolding ordered
ok_first x xs h =
    let s : EdgeSet = set_at x.parent x.child xs in
    let pl : s.blurred ≡ false = rest_plain x xs (set_ok_lone (union (one x) s) h) in
    decide (x.blurred || s.blurred)
    (λ t. let z = blur_first x.edge s.edges (sym (set_ok_blurred (union (one x) s) t) ∙ h) in
    record { sh = weakest_short x.edge z.1; w = or_r (not x.blurred) z.1; rest = nil_mine x.edge x.blurred s z.0 pl })
    (λ t. let z : leb (suc (length s.edges)) 10 && (all short (x.edge ∷ s.edges) && ordered (x.edge ∷ s.edges)) ≡ true = sym (set_ok_unblurred (union (one x) s) t) ∙ h in
    let z1 : all short (x.edge ∷ s.edges) && ordered (x.edge ∷ s.edges) ≡ true = and_r (leb (suc (length s.edges)) 10) (all short (x.edge ∷ s.edges) && ordered (x.edge ∷ s.edges)) z in
    let l : suc (length s.edges) ≤ 10 = leb_le (and_l (leb (suc (length s.edges)) 10) (all short (x.edge ∷ s.edges) && ordered (x.edge ∷ s.edges)) z) in
    let sh : all short (x.edge ∷ s.edges) ≡ true = and_l (all short (x.edge ∷ s.edges)) (ordered (x.edge ∷ s.edges)) z1 in
    let or : ordered (x.edge ∷ s.edges) ≡ true = and_r (all short (x.edge ∷ s.edges)) (ordered (x.edge ∷ s.edges)) z1 in
    let xb : x.blurred ≡ false = or_no_l x.blurred s.blurred t in
    record {
      sh = and_l (short x.edge) (all short s.edges) sh;
      w = or_l (eq_edge x.edge (weakest 0)) (ap not xb);
      rest = record {
        few = omega arith;
        shorts = and_r (short x.edge) (all short s.edges) sh;
        above = and_l (all (lt_edge x.edge) s.edges) (ordered s.edges) or;
        asc = and_r (all (lt_edge x.edge) s.edges) (ordered s.edges) or;
        plain = pl;
        alone = λ b. absurd (both b xb);
      };
    })

-- ---- the chain, in parts

module _ (q : ℕ → ℕ → Bool) where
  record Linked (k : ℕ) (y : GEdge) (xs : List GEdge) : Type 0 where
    early : all (not_before y) xs ≡ true
    order : in_order xs ≡ true
    pairs : on_pairs q xs ≡ true
    mine : Mine k y.edge y.blurred (set_at y.parent y.child xs)
    others : (p c : ℕ) → eq_pair p c y.parent y.child ≡ false → set_ok (set_at p c xs) ≡ true

  linked_nil : (k : ℕ) (y : GEdge) → k ≤ 10 → Linked k y []
  unfolding in_order set_at
  linked_nil k y l = record { early = refl; order = refl; pairs = refl; mine = mine_empty k y.edge y.blurred l; others = λ p c e. empty_ok }

  -- all later ones are not before x, and so not before what is before x
  later : (y x : GEdge) (xs : List GEdge) → is_before x.parent x.child y ≡ true → all (not_before x) xs ≡ true → all (not_before y) xs ≡ true
  later y x xs u h = all_imp (not_before x) (not_before y)
      (λ z k. decide (lt_pair y.parent y.child z.parent z.child)
      (λ t. absurd (both (lt_pair_trans x.parent x.child y.parent y.child z.parent z.child u t) (not_true k)))
      (λ t. ap not t)) xs h

  not_both : (p c r d : ℕ) → lt_pair p c r d ≡ true → lt_pair r d p c ≡ false
  not_both p c r d u = decide (lt_pair r d p c)
      (λ t. absurd (both (lt_pair_trans p c r d p c u t) (not_before_self p c p c (eq_pair_self p c)))) (λ t. t)

  differ : (p c r d : ℕ) → lt_pair p c r d ≡ true → eq_pair p c r d ≡ false
  differ p c r d u = decide (eq_pair p c r d) (λ t. absurd (both u (not_before_self p c r d t))) (λ t. t)

  module _ (k : ℕ) (y x : GEdge) (xs : List GEdge) where
    linked_same : same y x ≡ true → q x.parent x.child ≡ true → short x.edge ≡ true → not (y.blurred || x.blurred) ≡ true → lt_edge y.edge x.edge ≡ true
        → Linked (suc k) x xs → Linked k y (x ∷ xs)
    unfolding in_order
    linked_same e qx sh nb lt r = record {
      early = at_same (λ m n. all (λ z. not (lt_pair m n z.parent z.child)) (x ∷ xs) ≡ true) x.parent x.child y.parent y.child e
          (and_i (ap not (not_before_self x.parent x.child x.parent x.child (eq_pair_self x.parent x.child))) r.early);
      order = and_i r.early r.order;
      pairs = and_i qx r.pairs;
      mine = at_same (λ m n. Mine k y.edge y.blurred (set_at m n (x ∷ xs))) x.parent x.child y.parent y.child e
          (subst (λ (s : EdgeSet). Mine k y.edge y.blurred s) (sym (set_at_head x xs)) (mine_cons k y.edge y.blurred x (set_at x.parent x.child xs) sh nb lt r.mine));
      others = λ p c d.
          let d' : eq_pair p c x.parent x.child ≡ false = decide (eq_pair p c x.parent x.child)
          (λ t. absurd (both (at_same (λ m n. eq_pair p c m n ≡ true) x.parent x.child y.parent y.child e t) d)) (λ t. t) in
          ap set_ok (set_at_miss p c x xs d') ∙ r.others p c d';
    }

    linked_next : k ≤ 10 → is_before x.parent x.child y ≡ true → q x.parent x.child ≡ true → short x.edge ≡ true → not x.blurred || eq_edge x.edge (weakest 0) ≡ true
        → Linked 1 x xs → Linked k y (x ∷ xs)
    unfolding in_order
    linked_next l u qx sh w r =
        let o : in_order (x ∷ xs) ≡ true = and_i r.early r.order in
        record {
          early = and_i (ap not (not_both x.parent x.child y.parent y.child u)) (later y x xs u r.early);
          order = o;
          pairs = and_i qx r.pairs;
          mine = subst (λ (s : EdgeSet). Mine k y.edge y.blurred s) (sym (none_before y.parent y.child x xs o u)) (mine_empty k y.edge y.blurred l);
          others = λ p c d. decide (eq_pair p c x.parent x.child)
              (λ t. ap set_ok (set_at_hit p c x xs t) ∙ at_same (λ m n. set_ok (union (one x) (set_at m n xs)) ≡ true) x.parent x.child p c (turn p c x.parent x.child t) (first_ok x (set_at x.parent x.child xs) sh w r.mine))
              (λ t. ap set_ok (set_at_miss p c x xs t) ∙ r.others p c t);
        }
      where
        turn : (p c r d : ℕ) → eq_pair p c r d ≡ true → eq_pair r d p c ≡ true
        turn p c r d t = at_same (λ m n. eq_pair m n p c ≡ true) p c r d t (eq_pair_self p c)

  chain_linked : (k : ℕ) (y : GEdge) (xs : List GEdge) → k ≤ 10 → chain q k y xs ≡ true → Linked k y xs
  chain_linked k y [] l h = linked_nil k y l
  chain_linked k y (x ∷ xs) l h = go (same y x) refl h (λ j m z. chain_linked j x xs m z)
    where
      same_test : Bool
      same_test = ltb k 10 && (not (y.blurred || x.blurred) && lt_edge y.edge x.edge)

      next_test : Bool
      next_test = is_before x.parent x.child y && (not x.blurred || eq_edge x.edge (weakest 0))

      go : (b : Bool) → same y x ≡ b
          → (q x.parent x.child && (short x.edge && cond b (ltb k 10 && (not (y.blurred || x.blurred) && lt_edge y.edge x.edge)) (is_before x.parent x.child y && (not x.blurred || eq_edge x.edge (weakest 0)))))
          && chain q (cond b (cond (ltb k 10) (k + 1) 10) 1) x xs ≡ true
          → ((j : ℕ) → j ≤ 10 → chain q j x xs ≡ true → Linked j x xs) → Linked k y (x ∷ xs)
      go true e h r =
          let qx : Bool = q x.parent x.child in
          let rest : Bool = chain q (cond (ltb k 10) (k + 1) 10) x xs in
          let h1 : qx && (short x.edge && same_test) ≡ true = and_l (qx && (short x.edge && same_test)) rest h in
          let h2 : short x.edge && same_test ≡ true = and_r qx (short x.edge && same_test) h1 in
          let h3 : same_test ≡ true = and_r (short x.edge) same_test h2 in
          let kl : ltb k 10 ≡ true = and_l (ltb k 10) (not (y.blurred || x.blurred) && lt_edge y.edge x.edge) h3 in
          let h4 : not (y.blurred || x.blurred) && lt_edge y.edge x.edge ≡ true = and_r (ltb k 10) (not (y.blurred || x.blurred) && lt_edge y.edge x.edge) h3 in
          linked_same k y x xs e (and_l qx (short x.edge && same_test) h1) (and_l (short x.edge) same_test h2)
          (and_l (not (y.blurred || x.blurred)) (lt_edge y.edge x.edge) h4) (and_r (not (y.blurred || x.blurred)) (lt_edge y.edge x.edge) h4)
          (r (suc k) (leb_le kl) (subst (λ (j : ℕ). chain q j x xs ≡ true) (add-one k) (subst (λ (b : Bool). chain q (cond b (k + 1) 10) x xs ≡ true) kl (and_r (qx && (short x.edge && same_test)) rest h))))
      go false e h r =
          let qx : Bool = q x.parent x.child in
          let rest : Bool = chain q 1 x xs in
          let h1 : qx && (short x.edge && next_test) ≡ true = and_l (qx && (short x.edge && next_test)) rest h in
          let h2 : short x.edge && next_test ≡ true = and_r qx (short x.edge && next_test) h1 in
          let h3 : next_test ≡ true = and_r (short x.edge) next_test h2 in
          linked_next k y x xs l (and_l (is_before x.parent x.child y) (not x.blurred || eq_edge x.edge (weakest 0)) h3) (and_l qx (short x.edge && next_test) h1) (and_l (short x.edge) next_test h2)
          (and_r (is_before x.parent x.child y) (not x.blurred || eq_edge x.edge (weakest 0)) h3)
          (r 1 (omega arith) (and_r (qx && (short x.edge && next_test)) rest h))

  linked_chain : (k : ℕ) (y : GEdge) (xs : List GEdge) → Linked k y xs → chain q k y xs ≡ true
  unfolding in_order
  linked_chain k y [] r = refl
  linked_chain k y (x ∷ xs) r = go (same y x) refl (λ j z. linked_chain j x xs z)
    where
      ord : in_order (x ∷ xs) ≡ true → (all (not_before x) xs ≡ true) × (in_order xs ≡ true)
      ord h = (and_l (all (not_before x) xs) (in_order xs) h, and_r (all (not_before x) xs) (in_order xs) h)

      qx : q x.parent x.child ≡ true
      qx = and_l (q x.parent x.child) (on_pairs q xs) r.pairs

      qs : on_pairs q xs ≡ true
      qs = and_r (q x.parent x.child) (on_pairs q xs) r.pairs

      go : (b : Bool) → same y x ≡ b → ((j : ℕ) → Linked j x xs → chain q j x xs ≡ true)
          → (q x.parent x.child && (short x.edge && cond b (ltb k 10 && (not (y.blurred || x.blurred) && lt_edge y.edge x.edge)) (is_before x.parent x.child y && (not x.blurred || eq_edge x.edge (weakest 0)))))
          && chain q (cond b (cond (ltb k 10) (k + 1) 10) 1) x xs ≡ true
      go true e f =
          let turned : eq_pair y.parent y.child x.parent x.child ≡ true = at_same (λ m n. eq_pair m n x.parent x.child ≡ true) x.parent x.child y.parent y.child e (eq_pair_self x.parent x.child) in
          let m : Mine k y.edge y.blurred (union (one x) (set_at x.parent x.child xs)) =
          subst (λ (s : EdgeSet). Mine k y.edge y.blurred s) (set_at_head x xs) (at_same (λ m n. Mine k y.edge y.blurred (set_at m n (x ∷ xs))) y.parent y.child x.parent x.child turned r.mine) in
          let u = mine_uncons k y.edge y.blurred x (set_at x.parent x.child xs) m in
          and_i (and_i qx (and_i u.sh (and_i u.room (and_i u.nb u.lt))))
          (subst (λ (b : Bool). chain q (cond b (k + 1) 10) x xs ≡ true) (sym u.room) (subst (λ (j : ℕ). chain q j x xs ≡ true) (sym (add-one k)) (f (suc k) (record {
            early = (ord r.order).0;
            order = (ord r.order).1;
            pairs = qs;
            mine = u.rest;
            others = λ p c d. sym (ap set_ok (set_at_miss p c x xs d)) ∙ r.others p c (at_same (λ m n. eq_pair p c m n ≡ false) x.parent x.child y.parent y.child e d);
          }))))
      go false e f =
          let nb : not_before y x ≡ true = and_l (not_before y x) (all (not_before y) xs) r.early in
          let up : is_before x.parent x.child y ≡ true = decide (is_before x.parent x.child y) (λ t. t)
          (λ t. let z = same_pair x.parent x.child y.parent y.child t (not_true nb) in
          absurd (both (and_i (subst (λ (n : ℕ). eqb x.parent n ≡ true) z.0 (eqb_self x.parent)) (subst (λ (n : ℕ). eqb x.child n ≡ true) z.1 (eqb_self x.child))) e)) in
          let s : set_ok (union (one x) (set_at x.parent x.child xs)) ≡ true = sym (ap set_ok (set_at_head x xs)) ∙ r.others x.parent x.child e in
          let u = ok_first x xs s in
          and_i (and_i qx (and_i u.sh (and_i up u.w))) (f 1 (record {
            early = (ord r.order).0;
            order = (ord r.order).1;
            pairs = qs;
            mine = u.rest;
            others = λ p c d. decide (eq_pair p c y.parent y.child)
                (λ t. let w : set_at p c xs ≡ empty_set = sym (set_at_miss p c x xs d)
                ∙ none_before p c x xs r.order (at_same (λ m n. lt_pair x.parent x.child m n ≡ true) y.parent y.child p c (at_same (λ m n. eq_pair m n p c ≡ true) p c y.parent y.child t (eq_pair_self p c)) up) in
                ap set_ok w ∙ empty_ok)
                (λ t. sym (ap set_ok (set_at_miss p c x xs d)) ∙ r.others p c t);
          }))

-- ---- all of well_formed

start_early : (xs : List GEdge) → all (not_before no_edge) xs ≡ true
start_early xs = all_any (not_before no_edge) (λ x. go x.parent x.child) xs
  where
    go : (m n : ℕ) → not (lt_pair 0 0 m n) ≡ true
    go m n = decide (lt_pair 0 0 m n) (λ t. absurd (no (or_cases (ltb m 0) (eqb m 0 && ltb n 0) t))) (λ t. ap not t)
      where
        none : (i : ℕ) → ltb i 0 ≡ true → ⊥
        none i e = let z : i < 0 = leb_le e in omega arith

        no : (ltb m 0 ≡ true) ⊎ (eqb m 0 && ltb n 0 ≡ true) → ⊥
        no (inl e) = none m e
        no (inr e) = none n (and_r (eqb m 0) (ltb n 0) e)

-- a test of pairs that (0, 0) fails
pub chain_ok : (q : ℕ → ℕ → Bool) → q 0 0 ≡ false → (xs : List GEdge)
    → chain q 0 no_edge xs ≡ on_pairs q xs && (on_pairs (λ p c. set_ok (set_at p c xs)) xs && in_order xs)
chain_ok q none0 xs = iff_eq (chain q 0 no_edge xs) (on_pairs q xs && (on_pairs (λ p c. set_ok (set_at p c xs)) xs && in_order xs))
    (λ h. let r : Linked q 0 no_edge xs = chain_linked q 0 no_edge xs (omega arith) h in
    and_i r.pairs (and_i (all_any (λ x. set_ok (set_at x.parent x.child xs)) (λ x. sets r.pairs r.others x.parent x.child) xs) r.order))
    (λ h. let h1 : on_pairs (λ p c. set_ok (set_at p c xs)) xs && in_order xs ≡ true = and_r (on_pairs q xs) (on_pairs (λ p c. set_ok (set_at p c xs)) xs && in_order xs) h in
    let ps : on_pairs q xs ≡ true = and_l (on_pairs q xs) (on_pairs (λ p c. set_ok (set_at p c xs)) xs && in_order xs) h in
    let ss : on_pairs (λ p c. set_ok (set_at p c xs)) xs ≡ true = and_l (on_pairs (λ p c. set_ok (set_at p c xs)) xs) (in_order xs) h1 in
    linked_chain q 0 no_edge xs (record {
      early = start_early xs;
      order = and_r (on_pairs (λ p c. set_ok (set_at p c xs)) xs) (in_order xs) h1;
      pairs = ps;
      mine = subst (λ (s : EdgeSet). Mine 0 (weakest 0) false s) (sym (none ps)) (mine_empty 0 (weakest 0) false (omega arith));
      others = λ p c d. pick p c (at_or_empty (λ m n. set_ok (set_at m n xs)) p c xs ss);
    }))
  where
    none : on_pairs q xs ≡ true → set_at 0 0 xs ≡ empty_set
    none ps = go (at_or_empty q 0 0 xs ps)
      where
        go : (q 0 0 ≡ true) ⊎ (set_at 0 0 xs ≡ empty_set) → set_at 0 0 xs ≡ empty_set
        go (inl t) = absurd (both t none0)
        go (inr t) = t

    pick : (p c : ℕ) → (set_ok (set_at p c xs) ≡ true) ⊎ (set_at p c xs ≡ empty_set) → set_ok (set_at p c xs) ≡ true
    pick p c (inl t) = t
    pick p c (inr t) = ap set_ok t ∙ empty_ok

    sets : on_pairs q xs ≡ true → ((p c : ℕ) → eq_pair p c 0 0 ≡ false → set_ok (set_at p c xs) ≡ true) → (p c : ℕ) → set_ok (set_at p c xs) ≡ true
    sets ps o p c = decide (eq_pair p c 0 0)
        (λ t. at_same (λ m n. set_ok (set_at m n xs) ≡ true) 0 0 p c (at_same (λ m n. eq_pair m n p c ≡ true) p c 0 0 t (eq_pair_self p c)) (ap set_ok (none ps) ∙ empty_ok))
        (λ t. o p c t)

-- ---- names

abbrev low : Name → Bool
low n = ltb n.id 65536

climbs_above : (m : ℕ) (ns : List Name) → climbs m ns ≡ true → all (λ n. leb m n.id) ns ≡ true
climbs_above m [] h = refl
climbs_above m (n ∷ ns) h =
    let a : leb m n.id ≡ true = and_r (low n) (leb m n.id) (and_l (low n && leb m n.id) (climbs (n.id + 1) ns) h) in
    and_i a (all_imp (λ z. leb (n.id + 1) z.id) (λ z. leb m z.id)
    (λ z k. let x : n.id + 1 ≤ z.id = leb_le k in let y : m ≤ n.id = leb_le a in let w : m ≤ z.id = omega arith in le_leb w) ns
    (climbs_above (n.id + 1) ns (and_r (low n && leb m n.id) (climbs (n.id + 1) ns) h)))

climbs_asc : (m : ℕ) (ns : List Name) → climbs m ns ≡ true → ascending ns ≡ true
unfolding ascending
climbs_asc m [] h = refl
climbs_asc m (n ∷ ns) h =
    let t : climbs (n.id + 1) ns ≡ true = and_r (low n && leb m n.id) (climbs (n.id + 1) ns) h in
    and_i (and_i (and_l (low n) (leb m n.id) (and_l (low n && leb m n.id) (climbs (n.id + 1) ns) h))
    (all_imp (λ z. leb (n.id + 1) z.id) (λ z. ltb n.id z.id) (λ z k. let x : n.id + 1 ≤ z.id = leb_le k in let w : n.id < z.id = omega arith in le_leb w) ns (climbs_above (n.id + 1) ns t)))
    (climbs_asc (n.id + 1) ns t)

asc_climbs : (m : ℕ) (ns : List Name) → all (λ n. leb m n.id) ns ≡ true → ascending ns ≡ true → climbs m ns ≡ true
unfolding ascending
asc_climbs m [] u h = refl
asc_climbs m (n ∷ ns) u h =
    let a : low n && all (λ z. ltb n.id z.id) ns ≡ true = and_l (low n && all (λ z. ltb n.id z.id) ns) (ascending ns) h in
    and_i (and_i (and_l (low n) (all (λ z. ltb n.id z.id) ns) a) (and_l (leb m n.id) (all (λ z. leb m z.id) ns) u))
    (asc_climbs (n.id + 1) ns
    (all_imp (λ z. ltb n.id z.id) (λ z. leb (n.id + 1) z.id) (λ z k. let x : n.id < z.id = leb_le k in let w : n.id + 1 ≤ z.id = omega arith in le_leb w) ns (and_r (low n) (all (λ z. ltb n.id z.id) ns) a))
    (and_r (low n && all (λ z. ltb n.id z.id) ns) (ascending ns) h))

pub climbs_ok : (ns : List Name) → climbs 0 ns ≡ ascending ns
climbs_ok ns = iff_eq (climbs 0 ns) (ascending ns) (climbs_asc 0 ns)
    (asc_climbs 0 ns (all_any (λ n. leb 0 n.id) (λ n. let z : 0 ≤ n.id = zero-le in le_leb z) ns))

pub chain_well_formed : (g : Graph) → length g.names ≤ 48 → length g.edges ≤ 96
    → climbs 0 g.names && chain (pair_ok g.names) 0 no_edge g.edges ≡ well_formed g
unfolding well_formed
chain_well_formed g a b =
    (λ i. climbs_ok g.names i && chain_ok (pair_ok g.names) no g.edges i)
    ∙ (λ i. (le i && ascending g.names) && (le2 i && (on_pairs (pair_ok g.names) g.edges && (on_pairs (λ p c. set_ok (set_at p c g.edges)) g.edges && in_order g.edges))))
  where
    le : true ≡ leb (length g.names) 48
    le = sym (le_leb a)

    le2 : true ≡ leb (length g.edges) 96
    le2 = sym (le_leb b)

    and_ff : (x y : Bool) → x && (y && false) ≡ false
    and_ff true true = refl
    and_ff true false = refl
    and_ff false y = refl

    no : pair_ok g.names 0 0 ≡ false
    no = and_ff (holds g.names 0) (holds g.names 0)
