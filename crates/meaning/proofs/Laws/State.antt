-- Laws of the state's join: it keeps the form, and what it changes raises a rank.
use Prim.Native.Nat.{ℕ, ◌<◌, zero, suc, ◌+◌, ◌≤◌, ◌*◌}
use native.Mathlib.Omega.{arith}
use Rattle.std.proofs.Math.Bool.{true}
use Rattle.std.specs.Prelude.{◌&&◌, cond, Bool, false, not, ◌⊎◌, ◌≢◌, ◌≡◌, refl, eqb, leb, get_or}
use Rattle.std.proofs.lemmas.Bool.{false≢true}
use Rattle.std.proofs.Common.{true≢false, sym, subst, ◌∙◌}
use mathlib.Core.List.{List, ◌∷◌, head-eq_of_cons-eq, tail-eq_of_cons-eq, [], ◌++◌}
use Rattle.std.proofs.Math.Logic.{inl, inr}
use Rattle.std.proofs.Math.Path.{ap}
use Rattle.std.proofs.Math.ListN.{length, get_or-eq_default}
use Rattle.meaning.specs.Answers.{ok, and_then, Ans, refuse, leaves}
use Rattle.meaning.specs.Lists.{sum, all}
use Rattle.meaning.specs.References.{EdgeSet, Edge, empty_set, covered}
use Rattle.meaning.specs.BorrowGraph.{Graph, held, set_at, on_pairs, release, join_graphs, Name, holds, GEdge, pair_ok, well_formed, blurs_to}
use Rattle.meaning.specs.AbstractState.{Local, absent, value, ref, Step, join_local, Parts, join_locals, State, join, Form, eq_local, eq_locals, eq_edges, eq_set, eq_sets, changed, count1, did, changes}
use Rattle.meaning.specs.Loop.{most_changes}
use Rattle.meaning.proofs.Laws.Base.{refuse≢ok, ok_inj, and_then_ok, guard_ok, eqb_self, sum_bound, sum_bound_but, and_l, and_r, and_i, sum_le, sum_lt, both, decide, leb_le, leb_gt, not_true, eqb_ne, all_and}
use Rattle.meaning.proofs.Laws.Call.{ends_not, Released, release_law, Merged, join_graphs_law}
use Rattle.meaning.proofs.Laws.Graph.{Grows, grows_self, grows_trans, at_or_empty, wf→inv}
use Rattle.meaning.proofs.Laws.Set.{set_rank, set_rank_le, eq_edge_self, beq_self}

-- ---- a graph with names taken out and edges put in

pub record Side (g h : Graph) : Type 0 where
  pub fewer : (k : ℕ) → held h k ≡ true → held g k ≡ true
  pub grows : (p c : ℕ) → held h p ≡ true → held h c ≡ true → Grows (set_at p c g.edges) (set_at p c h.edges)
  pub no_end : (root : ℕ) → on_pairs (ends_not root) g.edges ≡ true → on_pairs (ends_not root) h.edges ≡ true

side_self : (g : Graph) → Side g g
side_self g = record { fewer = λ k h. h; grows = λ p c hp hc. grows_self (set_at p c g.edges); no_end = λ root h. h }

side_trans : (g h k : Graph) → Side g h → Side h k → Side g k
side_trans g h k a b = record {
  fewer = λ n q. a.fewer n (b.fewer n q);
  grows = λ p c hp hc. grows_trans (set_at p c g.edges) (set_at p c h.edges) (set_at p c k.edges) (a.grows p c (b.fewer p hp) (b.fewer c hc)) (b.grows p c hp hc);
  no_end = λ root q. b.no_end root (a.no_end root q);
}

side_released : (g : Graph) (n : ℕ) (h : Graph) → Released g n h → Side g h
side_released g n h r = record { fewer = r.fewer; grows = r.grows; no_end = r.no_end }

-- ---- one local

abbrev IsRef : Local → Type 0
IsRef absent = ⊥
IsRef value = ⊥
IsRef (ref n) = Unit {0}

abbrev IsAbsent : Local → Type 0
IsAbsent absent = Unit {0}
IsAbsent value = ⊥
IsAbsent (ref n) = ⊥

pub absent≢ref : {n : ℕ} → absent ≡ ref n → ⊥
absent≢ref e = subst IsRef (sym e) tt

pub value≢ref : {n : ℕ} → value ≡ ref n → ⊥
value≢ref e = subst IsRef (sym e) tt

ref≢absent : {n : ℕ} → ref n ≡ absent → ⊥
ref≢absent e = subst IsAbsent (sym e) tt

abbrev name_of : ℕ → Local → ℕ
name_of d absent = d
name_of d value = d
name_of d (ref n) = n

pub ref_inj : {m n : ℕ} → ref m ≡ ref n → m ≡ n
ref_inj {m} e = ap (name_of m) e

pub record Stepped (a : Local) (g h : Graph) (s : Step) : Type 0 where
  pub ours : Side g s.ours
  pub theirs : Side h s.theirs
  pub local : (s.local ≡ a) ⊎ (s.local ≡ absent)
  pub gone : (n : ℕ) → a ≡ ref n → s.local ≡ absent → held s.ours n ≡ true → ⊥
  pub rest : (k : ℕ) → held g k ≡ true → (held s.ours k ≡ true) ⊎ ((a ≡ ref k) × (s.local ≡ absent))
  pub whole : s.local ≡ a → s.ours ≡ g

-- nothing is released from ours
stepped_kept : (a l : Local) (g h h' : Graph) → Side h h' → (l ≡ a) ⊎ (l ≡ absent) → ((n : ℕ) → a ≡ ref n → l ≡ absent → ⊥)
    → Stepped a g h (record { local = l; ours = g; theirs = h' })
stepped_kept a l g h h' t c n = record { ours = side_self g; theirs = t; local = c; gone = λ k p q r. n k p q; rest = λ k p. inl p; whole = λ e. refl }

stepped_released : (n : ℕ) (g h g' : Graph) → Released g n g' → Stepped (ref n) g h (record { local = absent; ours = g'; theirs = h })
stepped_released n g h g' r = record {
  ours = side_released g n g' r;
  theirs = side_self h;
  local = inr refl;
  gone = λ k p q w. r.gone (subst (λ (m : ℕ). held g' m ≡ true) (sym (ref_inj p)) w);
  rest = λ k p. go k (r.rest k p);
  whole = λ e. absurd (ref≢absent (sym e));
}
  where
    go : (k : ℕ) → (held g' k ≡ true) ⊎ (k ≡ n) → (held g' k ≡ true) ⊎ ((ref n ≡ ref k) × (absent ≡ absent))
    go k (inl q) = inl q
    go k (inr q) = inr (ap ref (sym q), refl)

pub join_local_law : (a b : Local) (g h : Graph) (s : Step) → join_local a b g h ≡ ok s → Stepped a g h s
unfolding join_local
join_local_law absent absent g h s e = subst (λ (z : Step). Stepped absent g h z) (ok_inj e) (stepped_kept absent absent g h h (side_self h) (inl refl) (λ n p q. absent≢ref p))
join_local_law absent value g h s e = subst (λ (z : Step). Stepped absent g h z) (ok_inj e) (stepped_kept absent absent g h h (side_self h) (inl refl) (λ n p q. absent≢ref p))
join_local_law absent (ref n) g h s e =
    let z = and_then_ok (release h n) (λ h'. ok (record { local = absent; ours = g; theirs = h' })) s e in
    subst (λ (y : Step). Stepped absent g h y) (ok_inj z.2)
    (stepped_kept absent absent g h z.0 (side_released h n z.0 (release_law h n z.0 z.1)) (inl refl) (λ k p q. absent≢ref p))
join_local_law value absent g h s e = subst (λ (z : Step). Stepped value g h z) (ok_inj e) (stepped_kept value absent g h h (side_self h) (inr refl) (λ n p q. value≢ref p))
join_local_law value value g h s e = subst (λ (z : Step). Stepped value g h z) (ok_inj e) (stepped_kept value value g h h (side_self h) (inl refl) (λ n p q. value≢ref p))
join_local_law value (ref n) g h s e = absurd (refuse≢ok e)
join_local_law (ref n) absent g h s e =
    let z = and_then_ok (release g n) (λ g'. ok (record { local = absent; ours = g'; theirs = h })) s e in
    subst (λ (y : Step). Stepped (ref n) g h y) (ok_inj z.2) (stepped_released n g h z.0 (release_law g n z.0 z.1))
join_local_law (ref n) value g h s e = absurd (refuse≢ok e)
join_local_law (ref n) (ref m) g h s e =
    let z = guard_ok (eqb n m) 15 (ok (record { local = ref n; ours = g; theirs = h })) s e in
    subst (λ (y : Step). Stepped (ref n) g h y) (ok_inj z.1) (stepped_kept (ref n) (ref n) g h h (side_self h) (inl refl) (λ k p q. ref≢absent q))

-- ---- all locals

pub record Trimmed (xs : List Local) (g h : Graph) (r : Parts) : Type 0 where
  pub ours : Side g r.ours
  pub theirs : Side h r.theirs
  pub count : length r.locals ≡ length xs
  pub local : (j : ℕ) → (get_or r.locals j absent ≡ get_or xs j absent) ⊎ (get_or r.locals j absent ≡ absent)
  pub gone : (j n : ℕ) → get_or xs j absent ≡ ref n → get_or r.locals j absent ≡ absent → held r.ours n ≡ true → ⊥
  pub rest : (k : ℕ) → held g k ≡ true → (held r.ours k ≡ true) ⊎ ((j : ℕ) × (j < length xs) × (get_or xs j absent ≡ ref k) × (get_or r.locals j absent ≡ absent))
  pub whole : r.locals ≡ xs → r.ours ≡ g

module _ (a : Local) (xs : List Local) (g h : Graph) (s : Step) (r : Parts) (p : Stepped a g h s) (q : Trimmed xs s.ours s.theirs r) where
  out : Parts
  out = record { locals = s.local ∷ r.locals; ours = r.ours; theirs = r.theirs; blurs = blurs_to g s.ours + blurs_to h s.theirs + r.blurs }

  cons_local : (j : ℕ) → (get_or out.locals j absent ≡ get_or (a ∷ xs) j absent) ⊎ (get_or out.locals j absent ≡ absent)
  unfolding out
  cons_local zero = p.local
  cons_local (suc j) = q.local j

  cons_gone : (j n : ℕ) → get_or (a ∷ xs) j absent ≡ ref n → get_or out.locals j absent ≡ absent → held out.ours n ≡ true → ⊥
  unfolding out
  cons_gone zero n e f w = p.gone n e f (q.ours.fewer n w)
  cons_gone (suc j) n e f w = q.gone j n e f w

  abbrev Lost : ℕ → Type 0
  Lost k = (held out.ours k ≡ true) ⊎ ((j : ℕ) × (j < length (a ∷ xs)) × (get_or (a ∷ xs) j absent ≡ ref k) × (get_or out.locals j absent ≡ absent))

  cons_lost : (k : ℕ) → (held r.ours k ≡ true) ⊎ ((j : ℕ) × (j < length xs) × (get_or xs j absent ≡ ref k) × (get_or r.locals j absent ≡ absent)) → Lost k
  unfolding out
  cons_lost k (inl w) = inl w
  cons_lost k (inr z) = inr (suc z.0, (let l : z.0 < length xs = z.1 in omega arith), z.2, z.3)

  cons_first : (k : ℕ) → (held s.ours k ≡ true) ⊎ ((a ≡ ref k) × (s.local ≡ absent)) → Lost k
  unfolding out
  cons_first k (inl w) = cons_lost k (q.rest k w)
  cons_first k (inr z) = inr (zero, omega arith, z.0, z.1)

  trimmed_cons : Trimmed (a ∷ xs) g h out
  unfolding out
  trimmed_cons = record {
    ours = side_trans g s.ours r.ours p.ours q.ours;
    theirs = side_trans h s.theirs r.theirs p.theirs q.theirs;
    count = ap suc q.count;
    local = cons_local;
    gone = cons_gone;
    rest = λ k w. cons_first k (p.rest k w);
    whole = λ e. q.whole (tail-eq_of_cons-eq e) ∙ p.whole (head-eq_of_cons-eq e);
  }

pub join_locals_law : (xs ys : List Local) (g h : Graph) (r : Parts) → join_locals xs ys g h ≡ ok r → Trimmed xs g h r
unfolding join_locals out
join_locals_law [] [] g h r e = subst (λ (z : Parts). Trimmed [] g h z) (ok_inj e) (record {
  ours = side_self g;
  theirs = side_self h;
  count = refl;
  local = λ j. inl refl;
  gone = λ j n p q w. absent≢ref p;
  rest = λ k w. inl w;
  whole = λ e. refl;
})
join_locals_law [] (b ∷ ys) g h r e = absurd (refuse≢ok e)
join_locals_law (a ∷ xs) [] g h r e = absurd (refuse≢ok e)
join_locals_law (a ∷ xs) (b ∷ ys) g h r e =
    let z = and_then_ok (join_local a b g h) (λ s. and_then (join_locals xs ys s.ours s.theirs) (λ t. ok (record { locals = s.local ∷ t.locals; ours = t.ours; theirs = t.theirs; blurs = blurs_to g s.ours + blurs_to h s.theirs + t.blurs }))) r e in
    let y = and_then_ok (join_locals xs ys z.0.ours z.0.theirs) (λ t. ok (record { locals = z.0.local ∷ t.locals; ours = t.ours; theirs = t.theirs; blurs = blurs_to g z.0.ours + blurs_to h z.0.theirs + t.blurs })) r z.2 in
    subst (λ (u : Parts). Trimmed (a ∷ xs) g h u) (ok_inj y.2)
    (trimmed_cons a xs g h z.0 y.0 (join_local_law a b g h z.0 z.1) (join_locals_law xs ys z.0.ours z.0.theirs y.0 y.1))

-- ---- the state's join

pub record Joined (s o t : State) : Type 0 where
  pub parts : Parts
  pub trim : Trimmed s.locals s.graph o.graph parts
  pub merge : Merged parts.ours parts.theirs t.graph
  pub locals : t.locals ≡ parts.locals
  pub releases : join_locals s.locals o.locals s.graph o.graph ≡ ok parts

pub join_law : (s o t : State) → join s o ≡ ok t → Joined s o t
unfolding join
join_law s o t e =
    let z = and_then_ok (join_locals s.locals o.locals s.graph o.graph) (λ r. and_then (join_graphs r.ours r.theirs) (λ g. ok (record { locals = r.locals; graph = g }))) t e in
    let y = and_then_ok (join_graphs z.0.ours z.0.theirs) (λ g. ok (record { locals = z.0.locals; graph = g })) t z.2 in
    subst (λ (u : State). Joined s o u) (ok_inj y.2) (record {
      parts = z.0;
      trim = join_locals_law s.locals o.locals s.graph o.graph z.0 z.1;
      merge = join_graphs_law z.0.ours z.0.theirs y.0 y.1;
      locals = refl;
      releases = z.1;
    })

-- ---- the same, of the whole join

module _ (s o t : State) (j : Joined s o t) where
  held_ours : (k : ℕ) → held t.graph k ≡ true → held j.parts.ours k ≡ true
  held_ours k h = subst (λ (ns : List Name). holds ns k ≡ true) j.merge.names h

  pub join_fewer : (k : ℕ) → held t.graph k ≡ true → held s.graph k ≡ true
  join_fewer k h = j.trim.ours.fewer k (held_ours k h)

  pub join_grows : (p c : ℕ) → held t.graph p ≡ true → held t.graph c ≡ true → Grows (set_at p c s.graph.edges) (set_at p c t.graph.edges)
  join_grows p c hp hc =
      grows_trans (set_at p c s.graph.edges) (set_at p c j.parts.ours.edges) (set_at p c t.graph.edges)
      (j.trim.ours.grows p c (held_ours p hp) (held_ours c hc)) (j.merge.grows p c)

  pub join_local_lem : (i : ℕ) → (get_or t.locals i absent ≡ get_or s.locals i absent) ⊎ (get_or t.locals i absent ≡ absent)
  join_local_lem i = subst (λ (ls : List Local). (get_or ls i absent ≡ get_or s.locals i absent) ⊎ (get_or ls i absent ≡ absent)) (sym j.locals) (j.trim.local i)

  pub join_gone : (i n : ℕ) → get_or s.locals i absent ≡ ref n → get_or t.locals i absent ≡ absent → held t.graph n ≡ true → ⊥
  join_gone i n p q h = j.trim.gone i n p (subst (λ (ls : List Local). get_or ls i absent ≡ absent) j.locals q) (held_ours n h)

  pub join_rest : (k : ℕ) → held s.graph k ≡ true → (held t.graph k ≡ true) ⊎ ((i : ℕ) × (i < length s.locals) × (get_or s.locals i absent ≡ ref k) × (get_or t.locals i absent ≡ absent))
  join_rest k h = go (j.trim.rest k h)
    where
      go : (held j.parts.ours k ≡ true) ⊎ ((i : ℕ) × (i < length s.locals) × (get_or s.locals i absent ≡ ref k) × (get_or j.parts.locals i absent ≡ absent))
          → (held t.graph k ≡ true) ⊎ ((i : ℕ) × (i < length s.locals) × (get_or s.locals i absent ≡ ref k) × (get_or t.locals i absent ≡ absent))
      go (inl w) = inl (subst (λ (ns : List Name). holds ns k ≡ true) (sym j.merge.names) w)
      go (inr z) = inr (z.0, z.1, z.2, subst (λ (ls : List Local). get_or ls z.0 absent ≡ absent) (sym j.locals) z.3)

  pub join_count : length t.locals ≡ length s.locals
  join_count = ap length j.locals ∙ j.trim.count

-- a join that is not refused keeps the form
pub join_form : (l : ℕ) (s o t : State) → Joined s o t → Form l s → Form l o → Form l t
join_form l s o t j f k = record {
  count = join_count s o t j ∙ f.count;
  own = λ i n e. own i n e (join_local_lem s o t j i);
  formed = j.merge.formed;
  among = λ n h. among n h (f.among n (join_fewer s o t j n h));
  no_root = j.merge.no_end l (j.trim.ours.no_end l f.no_root) (j.trim.theirs.no_end l k.no_root);
}
  where
    own : (i n : ℕ) → get_or t.locals i absent ≡ ref n → (get_or t.locals i absent ≡ get_or s.locals i absent) ⊎ (get_or t.locals i absent ≡ absent) → n ≡ i
    own i n e (inl p) = f.own i n (sym p ∙ e)
    own i n e (inr p) = absurd (absent≢ref (sym p ∙ e))

    same : (n : ℕ) → held t.graph n ≡ true → get_or s.locals n absent ≡ ref n → (get_or t.locals n absent ≡ get_or s.locals n absent) ⊎ (get_or t.locals n absent ≡ absent)
        → get_or t.locals n absent ≡ ref n
    same n h e (inl p) = p ∙ e
    same n h e (inr p) = absurd (join_gone s o t j n n e p h)

    among : (n : ℕ) → held t.graph n ≡ true → (n ≡ l) ⊎ (get_or s.locals n absent ≡ ref n) → (n ≡ l) ⊎ (get_or t.locals n absent ≡ ref n)
    among n h (inl e) = inl e
    among n h (inr e) = inr (same n h e (join_local_lem s o t j n))

-- ---- the rank of a state

abbrev pub local_rank : Local → ℕ
local_rank absent = 1
local_rank value = 0
local_rank (ref n) = 0

unfoldable pub pair_rank : Graph → ℕ → ℕ → ℕ
unfolding set_rank
pair_rank g p c = cond (eqb p c) 0 (cond (held g p && held g c) (set_rank (set_at p c g.edges)) 11)

unfoldable pub rank : ℕ → State → ℕ
unfolding pair_rank
rank l s = sum l (λ c. sum (suc l) (λ p. pair_rank s.graph p c)) + sum l (λ i. local_rank (get_or s.locals i absent))

local_rank_le : (x : Local) → local_rank x ≤ 1
local_rank_le absent = omega arith
local_rank_le value = omega arith
local_rank_le (ref n) = omega arith

pair_rank_cond : (a b : Bool) (n : ℕ) → n ≤ 11 → cond a 0 (cond b n 11) ≤ 11
pair_rank_cond true b n h = omega arith
pair_rank_cond false true n h = h
pair_rank_cond false false n h = omega arith

pair_rank_le : (g : Graph) (p c : ℕ) → pair_rank g p c ≤ 11
unfolding pair_rank
pair_rank_le g p c = pair_rank_cond (eqb p c) (held g p && held g c) (set_rank (set_at p c g.edges)) (set_rank_le (set_at p c g.edges))

pair_rank_self : (g : Graph) (c : ℕ) → pair_rank g c c ≡ 0
unfolding pair_rank
pair_rank_self g c = ap (λ (b : Bool). cond b 0 (cond (held g c && held g c) (set_rank (set_at c c g.edges)) 11)) (eqb_self c)

pub rank_le : (l : ℕ) (s : State) → rank l s ≤ most_changes l
unfolding rank
rank_le l s =
    let a : sum l (λ c. sum (suc l) (λ p. pair_rank s.graph p c)) ≤ 11 * l * l =
    sum_bound l (11 * l) (λ c. sum (suc l) (λ p. pair_rank s.graph p c))
    (λ c h. sum_bound_but l 11 (λ p. pair_rank s.graph p c) (λ p k. pair_rank_le s.graph p c) c (omega arith) (pair_rank_self s.graph c)) in
    let b : sum l (λ i. local_rank (get_or s.locals i absent)) ≤ 1 * l = sum_bound l 1 (λ i. local_rank (get_or s.locals i absent)) (λ i h. local_rank_le (get_or s.locals i absent)) in
    omega arith

grows_le : (s t : EdgeSet) → Grows s t → set_rank s ≤ set_rank t
grows_le s t (inl e) = let h : set_rank s ≡ set_rank t = ap set_rank e in omega arith
grows_le s t (inr h) = omega arith

pairs_cond : (e b d : Bool) (m n : ℕ) → m ≤ 11 → (d ≡ true → (b ≡ true) × (m ≤ n)) → cond e 0 (cond b m 11) ≤ cond e 0 (cond d n 11)
pairs_cond true b d m n h k = omega arith
pairs_cond false true true m n h k = (k refl).1
pairs_cond false true false m n h k = h
pairs_cond false false true m n h k = absurd (false≢true (k refl).0)
pairs_cond false false false m n h k = omega arith

module _ (s o t : State) (j : Joined s o t) where
  pair_le : (p c : ℕ) → pair_rank s.graph p c ≤ pair_rank t.graph p c
  unfolding pair_rank
  pair_le p c =
      pairs_cond (eqb p c) (held s.graph p && held s.graph c) (held t.graph p && held t.graph c)
      (set_rank (set_at p c s.graph.edges)) (set_rank (set_at p c t.graph.edges)) (set_rank_le (set_at p c s.graph.edges))
      (λ h. let hp : held t.graph p ≡ true = and_l (held t.graph p) (held t.graph c) h in
      let hc : held t.graph c ≡ true = and_r (held t.graph p) (held t.graph c) h in
      (and_i (join_fewer s o t j p hp) (join_fewer s o t j c hc), grows_le (set_at p c s.graph.edges) (set_at p c t.graph.edges) (join_grows s o t j p c hp hc)))

  pair_lt : (p c : ℕ) → eqb p c ≡ false → held t.graph p ≡ true → held t.graph c ≡ true → set_rank (set_at p c s.graph.edges) < set_rank (set_at p c t.graph.edges)
      → pair_rank s.graph p c < pair_rank t.graph p c
  unfolding pair_rank
  pair_lt p c d hp hc h =
      let es : held s.graph p && held s.graph c ≡ true = and_i (join_fewer s o t j p hp) (join_fewer s o t j c hc) in
      let et : held t.graph p && held t.graph c ≡ true = and_i hp hc in
      rw (d, es, et) h

  local_le : (i : ℕ) → local_rank (get_or s.locals i absent) ≤ local_rank (get_or t.locals i absent)
  local_le i = go (join_local_lem s o t j i)
    where
      go : (get_or t.locals i absent ≡ get_or s.locals i absent) ⊎ (get_or t.locals i absent ≡ absent) → local_rank (get_or s.locals i absent) ≤ local_rank (get_or t.locals i absent)
      go (inl e) = let h : local_rank (get_or t.locals i absent) ≡ local_rank (get_or s.locals i absent) = ap local_rank e in omega arith
      go (inr e) =
          let h : local_rank (get_or t.locals i absent) ≡ 1 = ap local_rank e in
          let k : local_rank (get_or s.locals i absent) ≤ 1 = local_rank_le (get_or s.locals i absent) in
          omega arith

  columns_le : (l c : ℕ) → sum (suc l) (λ p. pair_rank s.graph p c) ≤ sum (suc l) (λ p. pair_rank t.graph p c)
  columns_le l c = sum_le (suc l) (λ p. pair_rank s.graph p c) (λ p. pair_rank t.graph p c) (λ p h. pair_le p c)

  -- a join lowers no rank
  pub rank_mono : (l : ℕ) → rank l s ≤ rank l t
  unfolding rank
  rank_mono l =
      let a : sum l (λ c. sum (suc l) (λ p. pair_rank s.graph p c)) ≤ sum l (λ c. sum (suc l) (λ p. pair_rank t.graph p c)) =
      sum_le l (λ c. sum (suc l) (λ p. pair_rank s.graph p c)) (λ c. sum (suc l) (λ p. pair_rank t.graph p c)) (λ c h. columns_le l c) in
      let b : sum l (λ i. local_rank (get_or s.locals i absent)) ≤ sum l (λ i. local_rank (get_or t.locals i absent)) =
      sum_le l (λ i. local_rank (get_or s.locals i absent)) (λ i. local_rank (get_or t.locals i absent)) (λ i h. local_le i) in
      omega arith

  rank_by_pair : (l p c : ℕ) → p ≤ l → c < l → pair_rank s.graph p c < pair_rank t.graph p c → rank l s < rank l t
  unfolding rank
  rank_by_pair l p c hp hc h =
      let a : sum l (λ d. sum (suc l) (λ q. pair_rank s.graph q d)) < sum l (λ d. sum (suc l) (λ q. pair_rank t.graph q d)) =
      sum_lt l (λ d. sum (suc l) (λ q. pair_rank s.graph q d)) (λ d. sum (suc l) (λ q. pair_rank t.graph q d)) (λ d k. columns_le l d) c hc
      (sum_lt (suc l) (λ q. pair_rank s.graph q c) (λ q. pair_rank t.graph q c) (λ q k. pair_le q c) p (omega arith) h) in
      let b : sum l (λ i. local_rank (get_or s.locals i absent)) ≤ sum l (λ i. local_rank (get_or t.locals i absent)) =
      sum_le l (λ i. local_rank (get_or s.locals i absent)) (λ i. local_rank (get_or t.locals i absent)) (λ i k. local_le i) in
      omega arith

  rank_by_local : (l i : ℕ) → i < l → local_rank (get_or s.locals i absent) < local_rank (get_or t.locals i absent) → rank l s < rank l t
  unfolding rank
  rank_by_local l i hi h =
      let a : sum l (λ c. sum (suc l) (λ p. pair_rank s.graph p c)) ≤ sum l (λ c. sum (suc l) (λ p. pair_rank t.graph p c)) =
      sum_le l (λ c. sum (suc l) (λ p. pair_rank s.graph p c)) (λ c. sum (suc l) (λ p. pair_rank t.graph p c)) (λ c k. columns_le l c) in
      let b : sum l (λ i. local_rank (get_or s.locals i absent)) < sum l (λ i. local_rank (get_or t.locals i absent)) =
      sum_lt l (λ i. local_rank (get_or s.locals i absent)) (λ i. local_rank (get_or t.locals i absent)) (λ k q. local_le k) i hi h in
      omega arith

-- ---- a change raises a rank

pub and_cases : (a b : Bool) → a && b ≡ false → (a ≡ false) ⊎ (b ≡ false)
and_cases true b e = inr e
and_cases false b e = inl refl

pub eq_local_self : (x : Local) → eq_local x x ≡ true
eq_local_self absent = refl
eq_local_self value = refl
eq_local_self (ref n) = eqb_self n

pub eq_locals_no : (xs ys : List Local) → length ys ≡ length xs → eq_locals xs ys ≡ false → (i : ℕ) × (i < length xs) × (get_or xs i absent ≡ get_or ys i absent → ⊥)
unfolding eq_locals
eq_locals_no [] [] n e = absurd (true≢false e)
eq_locals_no [] (y ∷ ys) n e = absurd (omega arith)
eq_locals_no (x ∷ xs) [] n e = absurd (omega arith)
eq_locals_no (x ∷ xs) (y ∷ ys) n e = go (and_cases (eq_local x y) (eq_locals xs ys) e) (eq_locals_no xs ys (omega arith))
  where
    go : (eq_local x y ≡ false) ⊎ (eq_locals xs ys ≡ false) → (eq_locals xs ys ≡ false → (i : ℕ) × (i < length xs) × (get_or xs i absent ≡ get_or ys i absent → ⊥))
        → (i : ℕ) × (i < length (x ∷ xs)) × (get_or (x ∷ xs) i absent ≡ get_or (y ∷ ys) i absent → ⊥)
    go (inl p) r = (zero, omega arith, λ q. both (subst (λ (z : Local). eq_local x z ≡ true) q (eq_local_self x)) p)
    go (inr p) r = let z = r p in let l : z.0 < length xs = z.1 in (suc z.0, omega arith, z.2)

eq_edges_self : (es : List Edge) → eq_edges es es ≡ true
unfolding eq_edges
eq_edges_self [] = refl
eq_edges_self (e ∷ es) = and_i (eq_edge_self e) (eq_edges_self es)

pub eq_set_self : (s : EdgeSet) → eq_set s s ≡ true
unfolding eq_set
eq_set_self s = and_i (beq_self s.blurred) (eq_edges_self s.edges)

on_pairs_no : (f : ℕ → ℕ → Bool) (xs : List GEdge) → on_pairs f xs ≡ false → (p : ℕ) × (c : ℕ) × (f p c ≡ false)
on_pairs_no f [] e = absurd (true≢false e)
on_pairs_no f (x ∷ xs) e = go (and_cases (f x.parent x.child) (on_pairs f xs) e) (on_pairs_no f xs)
  where
    go : (f x.parent x.child ≡ false) ⊎ (on_pairs f xs ≡ false) → (on_pairs f xs ≡ false → (p : ℕ) × (c : ℕ) × (f p c ≡ false)) → (p : ℕ) × (c : ℕ) × (f p c ≡ false)
    go (inl p) r = (x.parent, x.child, p)
    go (inr p) r = r p

present_rank : (x : Local) → (x ≡ absent → ⊥) → local_rank x ≡ 0
present_rank absent h = absurd (h refl)
present_rank value h = refl
present_rank (ref n) h = refl

-- a name that a state of the form holds is at most the root
pub name_le : (l : ℕ) (s : State) → Form l s → (n : ℕ) → held s.graph n ≡ true → n ≤ l
name_le l s f n h = go (f.among n h)
  where
    go : (n ≡ l) ⊎ (get_or s.locals n absent ≡ ref n) → n ≤ l
    go (inl e) = omega arith
    go (inr e) = decide (leb n l) (λ k. leb_le k)
        (λ k. let q : l < n = leb_gt k in
        let c : length s.locals ≡ l = f.count in
        absurd (absent≢ref (sym (get_or-eq_default s.locals absent {n = n} (omega arith)) ∙ e)))

module _ (l : ℕ) (s o t : State) (j : Joined s o t) (fs : Form l s) (fo : Form l o) where
  abbrev inner : ℕ → ℕ → Type 0
  inner p c = (held s.graph p ≡ true) × (held s.graph c ≡ true) × (eqb p c ≡ false) × (c < l)

  -- a local went
  by_absent : (i : ℕ) → i < length s.locals → (get_or s.locals i absent ≡ absent → ⊥) → get_or t.locals i absent ≡ absent → rank l s < rank l t
  by_absent i h p q =
      let c : length s.locals ≡ l = fs.count in
      let a : local_rank (get_or s.locals i absent) ≡ 0 = present_rank (get_or s.locals i absent) p in
      let b : local_rank (get_or t.locals i absent) ≡ 1 = ap local_rank q in
      rank_by_local s o t j l i (omega arith) (omega arith)

  by_local : (i : ℕ) → i < length s.locals → (get_or s.locals i absent ≡ get_or t.locals i absent → ⊥)
      → (get_or t.locals i absent ≡ get_or s.locals i absent) ⊎ (get_or t.locals i absent ≡ absent) → rank l s < rank l t
  by_local i h p (inl e) = absurd (p (sym e))
  by_local i h p (inr e) = by_absent i h (λ q. p (q ∙ sym e)) e

  -- a name went, and its local with it
  by_name : (k : ℕ) → (held t.graph k ≡ true → ⊥)
      → (held t.graph k ≡ true) ⊎ ((i : ℕ) × (i < length s.locals) × (get_or s.locals i absent ≡ ref k) × (get_or t.locals i absent ≡ absent)) → rank l s < rank l t
  by_name k p (inl w) = absurd (p w)
  by_name k p (inr z) = by_absent z.0 z.1 (λ e. absent≢ref (sym e ∙ z.2)) z.3

  -- a set changed between names that stay
  by_set : (p c : ℕ) → inner p c → held t.graph p ≡ true → held t.graph c ≡ true → (set_at p c s.graph.edges ≡ set_at p c t.graph.edges → ⊥) → rank l s < rank l t
  by_set p c w hp hc d = go (join_grows s o t j p c hp hc)
    where
      go : Grows (set_at p c s.graph.edges) (set_at p c t.graph.edges) → rank l s < rank l t
      go (inl e) = absurd (d e)
      go (inr h) = rank_by_pair s o t j l p c (name_le l s fs p w.0) w.3 (pair_lt s o t j p c w.2 hp hc h)

  by_pair : (p c : ℕ) → inner p c → (set_at p c s.graph.edges ≡ set_at p c t.graph.edges → ⊥) → rank l s < rank l t
  by_pair p c w d =
      decide (held t.graph p)
      (λ hp. decide (held t.graph c)
      (λ hc. by_set p c w hp hc d)
      (λ hc. by_name c (λ q. both q hc) (join_rest s o t j c w.1)))
      (λ hp. by_name p (λ q. both q hp) (join_rest s o t j p w.0))

  abbrev ok_at : Graph → ℕ → ℕ → Bool
  ok_at g p c = pair_ok g.names p c && ends_not l p c

  ok_at_all : (g : Graph) → well_formed g ≡ true → on_pairs (ends_not l) g.edges ≡ true → on_pairs (ok_at g) g.edges ≡ true
  ok_at_all g w r = all_and (λ x. pair_ok g.names x.parent x.child) (λ x. ends_not l x.parent x.child) g.edges (wf→inv g w).pairs r

  -- the ends of an edge of the answer, or of the state that the join got
  ends : (u : State) → Form l u → ((k : ℕ) → held u.graph k ≡ true → held s.graph k ≡ true) → (p c : ℕ) → ok_at u.graph p c ≡ true → inner p c
  ends u fu back p c h =
      let ns : List Name = u.graph.names in
      let h1 : pair_ok ns p c ≡ true = and_l (pair_ok ns p c) (ends_not l p c) h in
      let h2 : holds ns c && not (eqb p c) ≡ true = and_r (holds ns p) (holds ns c && not (eqb p c)) h1 in
      let hc : held s.graph c ≡ true = back c (and_l (holds ns c) (not (eqb p c)) h2) in
      let d : c ≢ l = eqb_ne (not_true (and_r (pair_ok ns p c) (ends_not l p c) h)) in
      let m : c ≤ l = name_le l s fs c hc in
      (back p (and_l (holds ns p) (holds ns c && not (eqb p c)) h1), hc, not_true (and_r (holds ns c) (not (eqb p c)) h2), omega arith)

  by_difference : (p c : ℕ) → (set_at p c s.graph.edges ≡ set_at p c t.graph.edges → ⊥)
      → (ok_at s.graph p c ≡ true) ⊎ (set_at p c s.graph.edges ≡ empty_set) → (ok_at t.graph p c ≡ true) ⊎ (set_at p c t.graph.edges ≡ empty_set) → rank l s < rank l t
  by_difference p c d (inl h) k = by_pair p c (ends s fs (λ n q. q) p c h) d
  by_difference p c d (inr h) (inl k) = by_pair p c (ends t (join_form l s o t j fs fo) (join_fewer s o t j) p c k) d
  by_difference p c d (inr h) (inr k) = absurd (d (h ∙ sym k))

  by_sets : eq_sets s.graph t.graph ≡ false → rank l s < rank l t
  unfolding eq_sets
  by_sets e =
      let z = on_pairs_no (λ p c. eq_set (set_at p c s.graph.edges) (set_at p c t.graph.edges)) (s.graph.edges ++ t.graph.edges) e in
      let p : ℕ = z.0 in
      let c : ℕ = z.1 in
      let ft : Form l t = join_form l s o t j fs fo in
      by_difference p c
      (λ q. both (subst (λ (x : EdgeSet). eq_set (set_at p c s.graph.edges) x ≡ true) q (eq_set_self (set_at p c s.graph.edges))) z.2)
      (at_or_empty (ok_at s.graph) p c s.graph.edges (ok_at_all s.graph fs.formed fs.no_root))
      (at_or_empty (ok_at t.graph) p c t.graph.edges (ok_at_all t.graph ft.formed ft.no_root))

  -- a join that changes the state raises its rank
  pub change_lt : changed s t ≡ true → rank l s < rank l t
  unfolding changed
  change_lt e = go (and_cases (eq_locals s.locals t.locals) (eq_sets s.graph t.graph) (not_true e))
    where
      go : (eq_locals s.locals t.locals ≡ false) ⊎ (eq_sets s.graph t.graph ≡ false) → rank l s < rank l t
      go (inl q) = let z = eq_locals_no s.locals t.locals (join_count s o t j) q in by_local z.0 z.1 z.2 (join_local_lem s o t j z.0)
      go (inr q) = by_sets q

-- ---- demand 3: a list of joins

-- each state of a list has the form
pub data Forms (l : ℕ) : List State → Type 0 where
  none : Forms l []
  more : {s : State} {os : List State} → Form l s → Forms l os → Forms l (s ∷ os)

count_step : (l : ℕ) (s o : State) (a : Ans State) → join s o ≡ a → Form l s → Form l o → (Form l (leaves s a)) × (did s a + rank l s ≤ rank l (leaves s a))
count_step l s o (refuse n) e fs fo = (fs, omega arith)
count_step l s o (ok t) e fs fo = (join_form l s o t j fs fo, go (changed s t) refl)
  where
    j : Joined s o t
    j = join_law s o t e

    go : (b : Bool) → changed s t ≡ b → count1 b + rank l s ≤ rank l t
    go true h = let k : rank l s < rank l t = change_lt l s o t j fs fo h in omega arith
    go false h = let k : rank l s ≤ rank l t = rank_mono s o t j l in omega arith

changes_rank : (l : ℕ) (s : State) (os : List State) → Form l s → Forms l os → changes s os + rank l s ≤ most_changes l
unfolding changes
changes_rank l s [] fs f = let k : rank l s ≤ most_changes l = rank_le l s in omega arith
changes_rank l s (o ∷ os) fs (more fo f) =
    let z = count_step l s o (join s o) refl fs fo in
    let a : did s (join s o) + rank l s ≤ rank l (leaves s (join s o)) = z.1 in
    let b : changes (leaves s (join s o)) os + rank l (leaves s (join s o)) ≤ most_changes l = changes_rank l (leaves s (join s o)) os z.0 f in
    omega arith

-- However many joins a list has, and whichever of them are refused, at most 11 × L × L + L change the state.
pub changes_bound : (l : ℕ) (s : State) (os : List State) → Form l s → Forms l os → changes s os ≤ most_changes l
changes_bound l s os fs f = let h : changes s os + rank l s ≤ most_changes l = changes_rank l s os fs f in omega arith

-- ---- demand 3: covering

-- After a join that is not refused, whatever the states: each edge of either graph, after the releases, is covered, between the same ends, by an edge of the answer.
pub join_covers : (s o t : State) → join s o ≡ ok t → (r : Parts) → join_locals s.locals o.locals s.graph o.graph ≡ ok r → (p c : ℕ)
    → (all (covered (set_at p c t.graph.edges).edges) (set_at p c r.ours.edges).edges ≡ true)
    × (all (covered (set_at p c t.graph.edges).edges) (set_at p c r.theirs.edges).edges ≡ true)
join_covers s o t e r q p c =
    let j : Joined s o t = join_law s o t e in
    subst (λ (z : Parts). (all (covered (set_at p c t.graph.edges).edges) (set_at p c z.ours.edges).edges ≡ true)
    × (all (covered (set_at p c t.graph.edges).edges) (set_at p c z.theirs.edges).edges ≡ true))
    (ok_inj (sym j.releases ∙ q)) (j.merge.ours p c, j.merge.theirs p c)
