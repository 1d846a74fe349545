-- The join, local by local, and whether it changed the state.
use Rattle.std.specs.Prelude.{ℕ, ◌+◌, ◌<◌, ◌≤◌, ◌≡◌, ◌⊎◌, Bool, ◌&&◌, eqb, length, take, drop, get_or, set, Result, Ok, Err, IfOk, Some, None}
use Rattle.std.specs.Prelude as P
use Rattle.std.specs.List.{zip, list_all}
use Rattle.std.specs.Option.{option_and}
use Rattle.std.proofs.Common.{zero-add, ◌∙◌, inl, inr}
use native.Mathlib.Omega.{arith}
use Rattle.std.proofs.Math.Path.{refl, sym, ap, subst}
use Rattle.std.proofs.Math.Bool.{true, false, not}
use mathlib.Core.List.{List, [], ◌∷◌, ◌++◌, map, append-nil}
use Rattle.std.proofs.Math.Seq.{append_snoc}
use Rattle.meaning.specs.Answers.{Ans, ok, refuse, and_then, guard}
use Rattle.meaning.specs.Lists.{all, empty}
use Rattle.meaning.proofs.Laws.Base.{and_l, and_i, or_l, or_r, and_then_ok, guard_ok, ok_inj, refuse≢ok, eqb_self}
use Rattle.meaning.proofs.Laws.Array.{push_map}
use Rattle.meaning.specs.BorrowGraph.{Name, Graph, blurs_to, blurs_by, holds, held, well_formed, same_names, unmatched, join_graphs, covering}
use Rattle.meaning.proofs.Laws.Cover.{covered_at, unmatched_none}
use Rattle.meaning.specs.AbstractState as S
use Rattle.meaning.specs.AbstractState.{State, Step, ref, join_local, join_locals, join, join_blurs, passed, eq_local, eq_locals, changed, Operand, non_ref, reference}
use Rattle.meaning.proofs.Laws.State.{Joined, join_law}
use Rattle.meaning.proofs.Laws.Change.{leq, rust_changed, changed_is_rust, eq_locals_eq}
use Rattle.meaning.specs.EntryPoints as R
use Rattle.meaning.specs.Area.{local_in}
use Rattle.abstract_state.specs.Models.{locals_in}
use Rattle.borrow_graph.specs.Models.{told_of, graph_in}
use Rattle.borrow_graph.specs.declared.graph.BorrowGraph.{BorrowGraph}
use Rattle.vm_status.specs.declared.Refusal.{Refusal}
use Rattle.vm_status.specs.Models.{answer_of, number_of}
use Rattle.abstract_state.specs.Models.{local_of}
use Rattle.abstract_state.specs.declared.state.AbstractValue.{AbstractValue}
use Rattle.abstract_state.specs.declared.state.AbstractValue.TheVariants.{Reference, NonReference}
use Rattle.abstract_state_join.specs.Models.{left, Meets}
use Rattle.abstract_state_join.specs.LocalLaws.{local_next, unread}

-- ---- two locals

no : {X : Type 0} → ◌≡◌ {A = ℕ} 0 1 → X
no e = absurd (omega arith)

-- both present
pub meet_same : (u v : Operand) (g h : Graph) → eq_local (R.local_of u) (R.local_of v) ≡ true → ok (record { local = left (R.local_of u) (R.local_of v); ours = g; theirs = h }) ≡ join_local (R.local_of u) (R.local_of v) g h
unfolding join_local
meet_same non_ref non_ref g h e = refl
meet_same non_ref (reference n) g h e = no (cc)
meet_same (reference m) non_ref g h e = no (cc)
meet_same (reference m) (reference n) g h e = ap (λ (b : Bool). guard b 15 (ok (record { local = ref m; ours = g; theirs = h }))) (sym e)

pub meet_unlike : (u v : Operand) (g h : Graph) → eq_local (R.local_of u) (R.local_of v) ≡ false → refuse 15 ≡ join_local (R.local_of u) (R.local_of v) g h
unfolding join_local
meet_unlike non_ref non_ref g h e = no (cc)
meet_unlike non_ref (reference n) g h e = refl
meet_unlike (reference m) non_ref g h e = refl
meet_unlike (reference m) (reference n) g h e = ap (λ (b : Bool). guard b 15 (ok (record { local = ref m; ours = g; theirs = h }))) (sym e)

-- what is made of a graph that a call leaves
pub answer_then : {A B C : Type 0} (r : Result A Refusal) (x : B) (a : Ans B) (f : B → C) → answer_of (λ (u : A). x) r ≡ a → answer_of (λ (u : A). f x) r ≡ and_then a (λ y. ok (f y))
answer_then {A} {B} {C} (Ok u) x a f e = ap (λ (z : Ans B). and_then z (λ y. ok (f y))) e
answer_then {A} {B} {C} (Err r) x a f e = ap (λ (z : Ans B). and_then z (λ y. ok (f y))) e

-- what a call blurs, of a graph that it leaves
pub blurs_of : (r : Result ℕ Refusal) (g g' : Graph) (a : Ans Graph) → answer_of (λ (n : ℕ). g') r ≡ a → IfOk r (λ n. n ≡ blurs_by g a) → IfOk r (λ n. n ≡ blurs_to g g')
blurs_of (Ok n) g g' a e q = q ∙ ap (blurs_by g) (sym e)
blurs_of (Err r) g g' a e q = q

pub add_blurs : (r : Result ℕ Refusal) (g g' h h' : Graph) → blurs_to h h' ≡ 0 → IfOk r (λ n. n ≡ blurs_to g g') → (IfOk r (λ n. n ≡ blurs_to g g' + blurs_to h h')) × (IfOk r (λ n. n ≡ blurs_to h h' + blurs_to g g'))
add_blurs (Ok n) g g' h h' z q = (omega (arith, z, q), omega (arith, z, q))
add_blurs (Err r) g g' h h' z q = (q, q)

-- what is left of two locals
pub left_and : (a b : P.Option AbstractValue) → local_of (option_and b a) ≡ left (local_of a) (local_of b)
left_and a None = refl
left_and a (Some (Reference n)) = refl
left_and a (Some NonReference) = refl

-- the join of the two locals of these words: not refused, and refused
module _ (a b : S.Local) (ns : List ℕ) (es : List (List ℕ)) (g : BorrowGraph) (ns₂ : List ℕ) (es₂ : List (List ℕ)) (h : BorrowGraph)
    (ns' : List ℕ) (es' : List (List ℕ)) (g' : BorrowGraph) (ns₂' : List ℕ) (es₂' : List (List ℕ)) (h' : BorrowGraph) (x y : S.Local) (r : Result ℕ Refusal) (e : Meets a b ns es g ns₂ es₂ h ns' es' g' ns₂' es₂' h' r) where
  pub met : (k : ℕ) → r ≡ Ok k → a ≡ x → b ≡ y → (z : S.Local) → z ≡ left a b
      → (ok (record { local = z; ours = graph_in ns' es' g'; theirs = graph_in ns₂' es₂' h' }) ≡ join_local x y (graph_in ns es g) (graph_in ns₂ es₂ h))
      × (k ≡ blurs_to (graph_in ns es g) (graph_in ns' es' g') + blurs_to (graph_in ns₂ es₂ h) (graph_in ns₂' es₂' h'))
  met k q p o z w = (
    rw w (rw q at e.step) ∙ (λ i. join_local (p i) (o i) (graph_in ns es g) (graph_in ns₂ es₂ h)),
    rw q at e.blurs,
  )

  pub unmet : (n : Refusal) → r ≡ Err n → a ≡ x → b ≡ y → refuse (number_of n) ≡ join_local x y (graph_in ns es g) (graph_in ns₂ es₂ h)
  unmet n q p o = (rw q at e.step) ∙ (λ i. join_local (p i) (o i) (graph_in ns es g) (graph_in ns₂ es₂ h))

-- ---- all locals

-- locals that are compared pair by pair
pub eq_locals_zip : (xs ys : List ℕ) → length xs ≡ length ys → list_all (λ p. eq_local (local_in p.0) (local_in p.1)) (zip xs ys) ≡ eq_locals (map local_in xs) (map local_in ys)
unfolding eq_locals
eq_locals_zip [] [] e = refl
eq_locals_zip [] (y ∷ ys) e = absurd (omega (arith, e))
eq_locals_zip (x ∷ xs) [] e = absurd (omega (arith, e))
eq_locals_zip (x ∷ xs) (y ∷ ys) e = ap (λ (b : Bool). eq_local (local_in x) (local_in y) && b) (eq_locals_zip xs ys (omega (arith, e)))

-- the locals and the sets blurred before, and what the rest gives
abbrev pub after : List S.Local → ℕ → S.Parts → Ans S.Parts
after pre k r = ok (record { locals = pre ++ r.locals; ours = r.ours; theirs = r.theirs; blurs = k + r.blurs })

pub start : (a : Ans S.Parts) → and_then a (after [] 0) ≡ a
start (ok r) = ap (λ (k : ℕ). ok (record { locals = r.locals; ours = r.ours; theirs = r.theirs; blurs = k })) (zero-add r.blurs)
start (refuse n) = refl

-- one more local is written
pub front_next : (out : List ℕ) (i w : ℕ) → i < length out → map local_in (take (i + 1) (set out i w)) ≡ map local_in (take i out) ++ (local_in w ∷ [])
front_next out i w h = sym (append-nil (map local_in (take (i + 1) (set out i w)))) ∙ push_map local_in out i (i + 1) w [] refl h

module _ (as' bs : List S.Local) (a b : S.Local) (xs ys : List S.Local) (g h : Graph) (pre : List S.Local) (k : ℕ) (j : Ans S.Parts)
    (ex : as' ≡ a ∷ xs) (ey : bs ≡ b ∷ ys) (inv : and_then (join_locals as' bs g h) (after pre k) ≡ j) where
  -- what a local's step blurs
  abbrev step_blurs : Step → ℕ
  step_blurs s = blurs_to g s.ours + blurs_to h s.theirs

  -- the rest after a local's step
  abbrev on : Step → Ans S.Parts
  on s = and_then (join_locals xs ys s.ours s.theirs) (after (pre ++ (s.local ∷ [])) (k + step_blurs s))

  turned : and_then (join_local a b g h) on ≡ j
  unfolding join_locals
  turned = go (join_local a b g h) ∙ (λ i. and_then (join_locals (sym ex i) (sym ey i) g h) (after pre k)) ∙ inv
    where
      inner : (s : Step) (r : Ans S.Parts) → and_then r (after (pre ++ (s.local ∷ [])) (k + step_blurs s))
          ≡ and_then (and_then r (λ t. ok (record { locals = s.local ∷ t.locals; ours = t.ours; theirs = t.theirs; blurs = step_blurs s + t.blurs }))) (after pre k)
      inner s (ok t) =
          let e : k + step_blurs s + t.blurs ≡ k + (step_blurs s + t.blurs) = omega arith in
          λ i. ok (record { locals = append_snoc pre s.local t.locals i; ours = t.ours; theirs = t.theirs; blurs = e i })
      inner s (refuse n) = refl

      go : (z : Ans Step) → and_then z on
          ≡ and_then (and_then z (λ s. and_then (join_locals xs ys s.ours s.theirs) (λ t. ok (record { locals = s.local ∷ t.locals; ours = t.ours; theirs = t.theirs; blurs = step_blurs s + t.blurs })))) (after pre k)
      go (ok s) = inner s (join_locals xs ys s.ours s.theirs)
      go (refuse n) = refl

  -- it goes on, or is refused
  pub turn_on : (s : Step) → ok s ≡ join_local a b g h → (pre' : List S.Local) → pre' ≡ pre ++ (s.local ∷ []) → (k' : ℕ) → k' ≡ k + step_blurs s → and_then (join_locals xs ys s.ours s.theirs) (after pre' k') ≡ j
  turn_on s e pre' ep k' ek =
      (λ i. and_then (join_locals xs ys s.ours s.theirs) (after (ep i) (ek i))) ∙ ap (λ (z : Ans Step). and_then z on) e ∙ turned

  pub turn_off : (n : ℕ) → refuse n ≡ join_local a b g h → refuse n ≡ j
  turn_off n e = ap (λ (z : Ans Step). and_then z on) e ∙ turned

-- a turn of the loop: the local at i is written
module _ (ls ls₂ : List ℕ) (n m i w : ℕ) (g h : Graph) (b : ℕ) (j : Ans S.Parts) (l : length ls ≡ 16) (l₂ : length ls₂ ≡ 16) (hn : n ≤ 16) (hm : m ≤ 16) (hi : i < n) (hj : i < m)
    (inv : and_then (join_locals (drop i (locals_in ls n)) (drop i (locals_in ls₂ m)) g h) (after (map local_in (take i ls)) b) ≡ j) where
  pub goes_on : (g' h' : Graph) → ok (record { local = local_in w; ours = g'; theirs = h' }) ≡ join_local (local_in (get_or ls i 0)) (local_in (get_or ls₂ i 0)) g h → (b' : ℕ) → b' ≡ b + (blurs_to g g' + blurs_to h h')
      → and_then (join_locals (drop (i + 1) (locals_in (set ls i w) n)) (drop (i + 1) (locals_in ls₂ m)) g' h') (after (map local_in (take (i + 1) (set ls i w))) b') ≡ j
  goes_on g' h' e b' eb =
      ap (λ (zs : List S.Local). and_then (join_locals zs (drop (i + 1) (locals_in ls₂ m)) g' h') (after (map local_in (take (i + 1) (set ls i w))) b')) (unread ls n i w)
      ∙ turn_on (drop i (locals_in ls n)) (drop i (locals_in ls₂ m)) (local_in (get_or ls i 0)) (local_in (get_or ls₂ i 0))
      (drop (i + 1) (locals_in ls n)) (drop (i + 1) (locals_in ls₂ m)) g h (map local_in (take i ls)) b j
      (local_next ls n n l (omega arith) i hi) (local_next ls₂ m m l₂ (omega arith) i hj)
      inv (record { local = local_in w; ours = g'; theirs = h' }) e _ (front_next ls i w (omega arith)) b' eb

  pub ends : (k : ℕ) → refuse k ≡ join_local (local_in (get_or ls i 0)) (local_in (get_or ls₂ i 0)) g h → refuse k ≡ j
  ends k e =
      turn_off (drop i (locals_in ls n)) (drop i (locals_in ls₂ m)) (local_in (get_or ls i 0)) (local_in (get_or ls₂ i 0))
      (drop (i + 1) (locals_in ls n)) (drop (i + 1) (locals_in ls₂ m)) g h (map local_in (take i ls)) b j
      (local_next ls n n l (omega arith) i hi) (local_next ls₂ m m l₂ (omega arith) i hj)
      inv k e

one_left : (as' bs : List S.Local) (g h : Graph) → (length as' ≡ 0) ⊎ (length bs ≡ 0) → (length as' ≡ length bs → ⊥) → join_locals as' bs g h ≡ refuse 9
unfolding join_locals
one_left [] [] g h d z = absurd (z refl)
one_left [] (b ∷ bs) g h d z = refl
one_left (a ∷ as') [] g h d z = refl
one_left (a ∷ as') (b ∷ bs) g h (inl e) z = absurd (omega arith)
one_left (a ∷ as') (b ∷ bs) g h (inr e) z = absurd (omega arith)

-- the end: no local is left on either side, or on one only
module _ (as' bs : List S.Local) (g h : Graph) (pre : List S.Local) (k : ℕ) (j : Ans S.Parts) (inv : and_then (join_locals as' bs g h) (after pre k) ≡ j) where
  pub end_equal : as' ≡ [] → bs ≡ [] → (zs : List S.Local) → zs ≡ pre → ok (record { locals = zs; ours = g; theirs = h; blurs = k }) ≡ j
  unfolding join_locals
  end_equal ex ey zs e =
      let z : k ≡ k + 0 = omega arith in
      (λ i. ok (record { locals = (e ∙ sym (append-nil pre)) i; ours = g; theirs = h; blurs = z i }))
      ∙ (λ i. and_then (join_locals (sym ex i) (sym ey i) g h) (after pre k)) ∙ inv

  pub end_unequal : (length as' ≡ 0) ⊎ (length bs ≡ 0) → (length as' ≡ length bs → ⊥) → refuse 9 ≡ j
  end_unequal d z = ap (λ (r : Ans S.Parts). and_then r (after pre k)) (sym (one_left as' bs g h d z)) ∙ inv

-- ---- the state

module _ (s o : State) where
  pub join_early : (n : ℕ) → join_locals s.locals o.locals s.graph o.graph ≡ refuse n → join s o ≡ refuse n
  unfolding join
  join_early n e = ap (λ (r : Ans S.Parts). and_then r (λ p. and_then (join_graphs p.ours p.theirs) (λ g. ok (record { locals = p.locals; graph = g })))) e

  pub join_late : (p : S.Parts) (a : Ans Graph) → join_locals s.locals o.locals s.graph o.graph ≡ ok p → join_graphs p.ours p.theirs ≡ a → join s o ≡ and_then a (λ g. ok (record { locals = p.locals; graph = g }))
  unfolding join
  join_late p a e f =
      ap (λ (r : Ans S.Parts). and_then r (λ q. and_then (join_graphs q.ours q.theirs) (λ g. ok (record { locals = q.locals; graph = g })))) e
      ∙ ap (λ (b : Ans Graph). and_then b (λ g. ok (record { locals = p.locals; graph = g }))) f

  -- what it passes up
  pub blurs_early : (n : ℕ) → join_locals s.locals o.locals s.graph o.graph ≡ refuse n → 0 ≡ join_blurs s o
  unfolding join_blurs
  blurs_early n e = sym (ap (λ (r : Ans S.Parts). passed (and_then r (λ p. and_then (join_graphs p.ours p.theirs) (λ g. ok (p.blurs + blurs_to p.ours g))))) e)

  pub blurs_late : (p : S.Parts) (a : Ans Graph) → join_locals s.locals o.locals s.graph o.graph ≡ ok p → join_graphs p.ours p.theirs ≡ a
      → passed (and_then a (λ g. ok (p.blurs + blurs_to p.ours g))) ≡ join_blurs s o
  unfolding join_blurs
  blurs_late p a e f = sym
      (ap (λ (r : Ans S.Parts). passed (and_then r (λ q. and_then (join_graphs q.ours q.theirs) (λ g. ok (q.blurs + blurs_to q.ours g))))) e
      ∙ ap (λ (b : Ans Graph). passed (and_then b (λ g. ok (p.blurs + blurs_to p.ours g)))) f)

  -- a refused join passes up none
  pub blurs_refused : (n : ℕ) → join s o ≡ refuse n → 0 ≡ join_blurs s o
  unfolding join join_blurs
  blurs_refused n e = go (join_locals s.locals o.locals s.graph o.graph) e
    where
      go : (x : Ans S.Parts) → and_then {B = State} x (λ p. and_then (join_graphs p.ours p.theirs) (λ g. ok (record { locals = p.locals; graph = g }))) ≡ refuse n
          → 0 ≡ passed (and_then x (λ p. and_then (join_graphs p.ours p.theirs) (λ g. ok (p.blurs + blurs_to p.ours g))))
      go (refuse m) h = refl
      go (ok p) h = inner (join_graphs p.ours p.theirs) h
        where
          inner : (x : Ans Graph) → and_then {B = State} x (λ g. ok (record { locals = p.locals; graph = g })) ≡ refuse n → 0 ≡ passed (and_then x (λ g. ok (p.blurs + blurs_to p.ours g)))
          inner (ok g) q = absurd (refuse≢ok (sym q))
          inner (refuse m) q = refl

-- ---- whether it changed the state

own_names_lem : (ns : List Name) → all (λ m. holds ns m.id) ns ≡ true
unfolding holds
own_names_lem ns = go ns ns (λ n h. h)
  where
    go : (all' ms : List Name) → ((n : ℕ) → holds ms n ≡ true → holds all' n ≡ true) → all (λ m. holds all' m.id) ms ≡ true
    go all' [] k = refl
    go all' (m ∷ ms) k = and_i (k m.id (or_l (holds ms m.id) (eqb_self m.id))) (go all' ms (λ n h. k n (or_r (eqb n m.id) h)))

cover_leq : (g h : Graph) → empty (unmatched g h) ≡ leq g h
unfolding leq
cover_leq g h = unmatched_none g h ∙ (λ i. all (λ x. sym (covered_at x g.edges) i) h.edges)

-- whether the answer is yes
abbrev pub covered : Result Bool Refusal → Bool
covered (Ok b) = b
covered (Err r) = false

module _ (s o t : State) (e : join s o ≡ ok t) where
  -- other locals
  pub changed_locals : eq_locals s.locals t.locals ≡ false → true ≡ changed s t
  unfolding rust_changed
  changed_locals z = sym (changed_is_rust s o t e ∙ ap (λ (b : Bool). not (b && leq s.graph t.graph)) z)

  -- the same locals: the graphs were joined as they are, so the test of the graphs is not refused
  cover_told : eq_locals s.locals t.locals ≡ true → covering s.graph t.graph ≡ ok (leq s.graph t.graph)
  unfolding join join_graphs covering
  cover_told z =
      let y = and_then_ok (join_locals s.locals o.locals s.graph o.graph) (λ r. and_then (join_graphs r.ours r.theirs) (λ g. ok (record { locals = r.locals; graph = g }))) t e in
      let j : Joined s o t = join_law s o t e in
      let w : j.parts.ours ≡ s.graph = j.trim.whole (sym j.locals ∙ sym (eq_locals_eq s.locals t.locals z)) in
      let p : y.0 ≡ j.parts = ok_inj (sym y.1 ∙ j.releases) in
      let a : Graph = y.0.ours in
      let b : Graph = y.0.theirs in
      let u = and_then_ok (join_graphs a b) (λ g. ok (record { locals = y.0.locals; graph = g })) t y.2 in
      let v = guard_ok ((well_formed a && well_formed b) && same_names a b) 9 _ u.0 u.1 in
      let f : well_formed a ≡ true = and_l (well_formed a) (well_formed b) (and_l (well_formed a && well_formed b) (same_names a b) v.0) in
      let wf : well_formed s.graph ≡ true = subst (λ (g : Graph). well_formed g ≡ true) (ap (λ (q : S.Parts). q.ours) p ∙ w) f in
      let names : t.graph.names ≡ s.graph.names = j.merge.names ∙ ap (λ (g : Graph). g.names) w in
      let k : all (λ m. held s.graph m.id) t.graph.names ≡ true = subst (λ (ns : List Name). all (λ m. held s.graph m.id) ns ≡ true) (sym names) (own_names_lem s.graph.names) in
      rw (wf, j.merge.formed, k) (ap {B = Ans Bool} ok (cover_leq s.graph t.graph))

  pub changed_graph : eq_locals s.locals t.locals ≡ true → (r : Result Bool Refusal) → told_of r ≡ covering s.graph t.graph → not (covered r) ≡ changed s t
  unfolding rust_changed
  changed_graph z r c =
      go r (c ∙ cover_told z)
      ∙ sym (changed_is_rust s o t e ∙ ap (λ (x : Bool). not (x && leq s.graph t.graph)) z)
    where
      go : (r : Result Bool Refusal) → told_of r ≡ ok (leq s.graph t.graph) → not (covered r) ≡ not (leq s.graph t.graph)
      go (Ok b) q = ap not (ok_inj q)
      go (Err n) q = absurd (refuse≢ok q)
