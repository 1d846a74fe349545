-- Names changed together (A2): no name is lost, no edge is lost, and mutability goes along. So it is for whatever a block exchanges, cycles of any
-- length and chains among it, and for a direct rename.
use Rattle.std.specs.Prelude.{ℕ, zero, suc, ◌≤◌, ◌<◌, Bool, true, ◌&&◌, ◌||◌, not, cond, ◌⊎◌, ◌≢◌, ◌≡◌, length, get_or}
use Rattle.std.proofs.Common.{arith, zero-add, inl, inr, sym, ap, subst, ◌∙◌}
use Rattle.std.proofs.Math.Bool.{false}
use mathlib.Core.List.{List, [], ◌∷◌, ◌++◌}
use Rattle.std.proofs.Math.Path.{refl}
use Rattle.std.proofs.Math.Dec.{eqb}
use Rattle.meaning.specs.Answers.{ok}
use Rattle.meaning.specs.Lists.{any}
use Rattle.meaning.specs.BorrowGraph.{Name, Graph, holds, held, set_at, well_formed, with_id, rename_names, renamed, Change, name_after, is_old, alike, twice, collides, clash, remap, mutable_in, is_mutable}
use Rattle.meaning.specs.AbstractState.{Local, absent, ref, count1, State, new_name_of, canonical}
use Rattle.meaning.proofs.Laws.Base.{decide, both, eqb_self, eqb_no, or_l, or_r}
use Rattle.meaning.proofs.Laws.Borrow.{any_place}
use Rattle.meaning.specs.Laws.Forms.{Open, Settled}
use Rattle.meaning.proofs.Laws.Graph.{wf→inv}
use Rattle.meaning.proofs.Laws.Own.{times, in_front, count_yes, count_no}
use Rattle.meaning.proofs.Laws.Remap.{changed_apart, remap_ok, formed, sound, made}
use Rattle.meaning.proofs.Laws.Rename.{same_test, rename_set, names_hold, hold_names, names_length, rename_length, apart, place, own_new, own_ref, own_rest}

-- h is g with its names changed by f
pub record Carried (f : ℕ → ℕ) (g h : Graph) : Type 0 where
  -- each name is held by its new one, and its mutability goes along
  pub name : (n : ℕ) → held g n ≡ true → (held h (f n) ≡ true) × (is_mutable h (f n) ≡ is_mutable g n)
  -- no other name is held, and there are as many
  pub no_other : (k : ℕ) → held h k ≡ true → (n : ℕ) × (held g n ≡ true) × (k ≡ f n)
  pub names : length h.names ≡ length g.names
  -- the set of a pair is that of the two new names, and there are as many edges
  pub set : (p c : ℕ) → held g p ≡ true → held g c ≡ true → set_at (f p) (f c) h.edges ≡ set_at p c g.edges
  pub edges : length h.edges ≡ length g.edges

module _ (f : ℕ → ℕ) (ns : List Name) (inj : (m n : ℕ) → holds ns m ≡ true → holds ns n ≡ true → f m ≡ f n → m ≡ n) where
  -- of a part of the names
  mutable_goes : (n : ℕ) → holds ns n ≡ true → (ms : List Name) → ((k : ℕ) → holds ms k ≡ true → holds ns k ≡ true) → mutable_in (rename_names f ms) (f n) ≡ mutable_in ms n
  unfolding mutable_in rename_names holds
  mutable_goes n h [] sub = refl
  mutable_goes n h (a ∷ ms) sub =
      any_place (λ m. eqb (f n) m.id && m.mutable) (with_id f a) (rename_names f ms)
      ∙ (λ i. (same_test f ns inj n a.id h (sub a.id (or_l (holds ms a.id) (eqb_self a.id))) i && a.mutable)
      || mutable_goes n h ms (λ k q. sub k (or_r (eqb k a.id) q)) i)

carried : (f : ℕ → ℕ) (g : Graph) → well_formed g ≡ true → ((m n : ℕ) → held g m ≡ true → held g n ≡ true → f m ≡ f n → m ≡ n) → Carried f g (renamed f g)
unfolding renamed is_mutable
carried f g w inj = record {
  name = λ n h. (hold_names f g.names inj n g.names h, mutable_goes f g.names inj n h g.names (λ k q. q));
  no_other = λ k h. names_hold f g.names inj k g.names h;
  names = names_length f g.names inj g.names;
  set = λ p c hp hc. rename_set f g.names inj p c hp hc g.edges (wf→inv g w).pairs;
  edges = rename_length f g.edges;
}

-- ---- the end of a block

pub canonical_carries : (l : ℕ) (s : State) → Open l s → Carried (new_name_of l s.locals) s.graph (canonical l s).graph
unfolding canonical
canonical_carries l s o = carried (new_name_of l s.locals) s.graph o.formed (λ m n hm hn. apart l s o m n (place l s o m hm) (place l s o n hn))

-- "an exchange is simply an exchange": whatever the locals of s hold, in t local i's reference has the name i and its own mutability
pub record Named (s t : State) (i m : ℕ) : Type 0 where
  pub in_local : get_or t.locals i absent ≡ ref i
  pub in_graph : held t.graph i ≡ true
  pub mutability : is_mutable t.graph i ≡ is_mutable s.graph m

-- and its own edges to and from the reference of each local j; a local without a reference stays as it is
pub record Exchanged (s t : State) : Type 0 where
  pub named : (i m : ℕ) → get_or s.locals i absent ≡ ref m → Named s t i m
  pub others : (i : ℕ) (x : Local) → get_or s.locals i absent ≡ x → ((n : ℕ) → x ≢ ref n) → get_or t.locals i absent ≡ x
  pub lent : (i j m n : ℕ) → get_or s.locals i absent ≡ ref m → get_or s.locals j absent ≡ ref n → set_at i j t.graph.edges ≡ set_at m n s.graph.edges

own_local : (l : ℕ) (s : State) (i m : ℕ) → get_or s.locals i absent ≡ ref m → get_or (canonical l s).locals i absent ≡ ref i
unfolding canonical
own_local l s i m e = own_ref 0 s.locals i m e ∙ ap ref (zero-add i)

other_local : (l : ℕ) (s : State) (i : ℕ) (x : Local) → get_or s.locals i absent ≡ x → ((n : ℕ) → x ≢ ref n) → get_or (canonical l s).locals i absent ≡ x
unfolding canonical
other_local l s = own_rest 0 s.locals

pub exchanged : (l : ℕ) (s : State) → Settled l s → Exchanged s (canonical l s)
exchanged l s h =
    let c : Carried (new_name_of l s.locals) s.graph (canonical l s).graph = canonical_carries l s h.opened in
    let to : (i m : ℕ) → get_or s.locals i absent ≡ ref m → new_name_of l s.locals m ≡ i = own_new l s h in
    let was : (i m : ℕ) → get_or s.locals i absent ≡ ref m → held s.graph m ≡ true = λ i m e. (h.refs i m e).1 in
    record {
      named = λ i m e.
          let z = subst (λ (k : ℕ). (held (canonical l s).graph k ≡ true) × (is_mutable (canonical l s).graph k ≡ is_mutable s.graph m)) (to i m e) (c.name m (was i m e)) in
          record { in_local = own_local l s i m e; in_graph = z.0; mutability = z.1 };
      others = other_local l s;
      lent = λ i j m n e d.
          subst (λ (k : ℕ). set_at i k (canonical l s).graph.edges ≡ set_at m n s.graph.edges) (to j n d)
          (subst (λ (k : ℕ). set_at k (new_name_of l s.locals n) (canonical l s).graph.edges ≡ set_at m n s.graph.edges) (to i m e)
          (c.set m n (was i m e) (was j n d)));
    }

-- a cycle of the first k locals, of any length: each holds the name of the next one, the last one the first one's
abbrev pub turned : ℕ → ℕ → ℕ
turned k i = cond (eqb (suc i) k) 0 (suc i)

module _ (l : ℕ) (s : State) (h : Settled l s) (k : ℕ) where
  pub cycle_end : ((i : ℕ) → i < k → get_or s.locals i absent ≡ ref (turned k i)) → (i j : ℕ) → i < k → j < k
      → (Named s (canonical l s) i (turned k i)) × (set_at i j (canonical l s).graph.edges ≡ set_at (turned k i) (turned k j) s.graph.edges)
  cycle_end e i j a b = ((exchanged l s h).named i (turned k i) (e i a), (exchanged l s h).lent i j (turned k i) (turned k j) (e i a) (e j b))

  -- a chain: name 0 to local 1, 1 to 2, and so on up to k
  pub chain_end : ((i : ℕ) → i < k → get_or s.locals (suc i) absent ≡ ref i) → (i j : ℕ) → i < k → j < k
      → (Named s (canonical l s) (suc i) i) × (set_at (suc i) (suc j) (canonical l s).graph.edges ≡ set_at i j s.graph.edges)
  chain_end e i j a b = ((exchanged l s h).named (suc i) i (e i a), (exchanged l s h).lent (suc i) (suc j) i j (e i a) (e j b))

-- ---- a direct rename

pub remap_carries : (g h : Graph) (ms : List Change) → remap g ms ≡ ok h → Carried (name_after ms) g h
remap_carries g h ms r =
    subst (λ (k : Graph). Carried (name_after ms) g k) (made g h ms r) (carried (name_after ms) g (formed g h ms r) (changed_apart g.names ms (sound g h ms r)))

-- From a by the names bs to z: each gets the next one's name. Where z is a, a cycle; else a chain.
abbrev pub steps_to : ℕ → List ℕ → ℕ → List Change
steps_to a [] z = record { old = a; new = z } ∷ []
steps_to a (b ∷ bs) z = record { old = a; new = b } ∷ steps_to b bs z

apart_from : (n k : ℕ) (ks : List ℕ) → times n (k ∷ ks) ≡ 0 → eqb n k ≡ false
apart_from n k ks h = decide (eqb n k) (λ e. let c : count1 (eqb n k) ≡ 1 = count_yes e in absurd (omega arith)) (λ e. e)

none_alike : (m : Change) (a : ℕ) (bs : List ℕ) (z : ℕ) → times m.old (a ∷ bs) ≡ 0 → times m.new bs ≡ 0 → m.new ≢ z → any (alike m) (steps_to a bs z) ≡ false
none_alike m a [] z o n d = rw (apart_from m.old a [] o, eqb_no {m = m.new} {n = z} d)
none_alike m a (b ∷ bs) z o n d = rw (apart_from m.old a (b ∷ bs) o, apart_from m.new b bs n) (none_alike m b bs z (omega arith) (omega arith) d)

steps_once : (a : ℕ) (bs : List ℕ) (z : ℕ) → ((n : ℕ) → times n (a ∷ bs) ≤ 1) → times z bs ≡ 0 → twice (steps_to a bs z) ≡ false
unfolding twice
steps_once a [] z once d = refl
steps_once a (b ∷ bs) z once d =
    let ca : count1 (eqb a a) ≡ 1 = count_yes (eqb_self a) in
    let oa : times a (a ∷ b ∷ bs) ≤ 1 = once a in
    let cb : count1 (eqb b b) ≡ 1 = count_yes (eqb_self b) in
    let ob : times b (a ∷ b ∷ bs) ≤ 1 = once b in
    let p : times a (b ∷ bs) ≡ 0 = omega arith in
    let q : times b bs ≡ 0 = omega arith in
    let r : b ≢ z = λ e. (let c : count1 (eqb z b) ≡ 1 = count_yes (subst (λ (k : ℕ). eqb z k ≡ true) (sym e) (eqb_self z)) in omega arith) in
    rw (none_alike (record { old = a; new = b }) b bs z p q r) (steps_once b bs z (λ n. let o : times n (a ∷ b ∷ bs) ≤ 1 = once n in omega arith) (omega arith))

steps_old : (a : ℕ) (bs : List ℕ) (z n : ℕ) → 1 ≤ times n (a ∷ bs) → is_old (steps_to a bs z) n ≡ true
unfolding is_old
steps_old a [] z n h = decide (eqb n a) (λ e. or_l false e) (λ e. let c : count1 (eqb n a) ≡ 0 = count_no e in absurd (omega arith))
steps_old a (b ∷ bs) z n h =
    decide (eqb n a)
    (λ e. or_l (any (λ m. eqb n m.old) (steps_to b bs z)) e)
    (λ e. let c : count1 (eqb n a) ≡ 0 = count_no e in or_r (eqb n a) (steps_old b bs z n (omega arith)))

none_collide : (ns : List Name) (ms : List Change) (a : ℕ) (bs : List ℕ) (z : ℕ) → ((n : ℕ) → 1 ≤ times n bs → is_old ms n ≡ true) → (is_old ms z ≡ true) ⊎ (holds ns z ≡ false)
    → any (collides ns ms) (steps_to a bs z) ≡ false
none_collide ns ms a [] z old last = rw (free (holds ns z) (is_old ms z) last)
  where
    free : (x y : Bool) → (y ≡ true) ⊎ (x ≡ false) → x && not y ≡ false
    free true y (inl e) = ap not e
    free true y (inr e) = absurd (both refl e)
    free false y e = refl
none_collide ns ms a (b ∷ bs) z old last =
    let c : count1 (eqb b b) ≡ 1 = count_yes (eqb_self b) in
    rw (old b (omega arith)) (none_either (holds ns b) ∙ none_collide ns ms b bs z (λ n h. old n (omega arith)) last)
  where
    none_either : (x : Bool) {y : Bool} → (x && false) || y ≡ y
    none_either true = refl
    none_either false = refl

-- what is done by steps: each of the names a, bs gets the next one's, and nothing is lost
pub record Stepwise (g : Graph) (a : ℕ) (bs : List ℕ) (z : ℕ) : Type 0 where
  pub after : Graph
  pub done : remap g (steps_to a bs z) ≡ ok after
  pub next : (i : ℕ) → i < length (a ∷ bs) → name_after (steps_to a bs z) (get_or (a ∷ bs) i 0) ≡ get_or (bs ++ z ∷ []) i 0
  pub carries : Carried (name_after (steps_to a bs z)) g after

member : (xs : List ℕ) (i : ℕ) → i < length xs → 1 ≤ times (get_or xs i 0) xs
member [] i h = absurd (omega arith)
member (x ∷ xs) zero h = in_front x xs
member (x ∷ xs) (suc i) h = let k : 1 ≤ times (get_or xs i 0) xs = member xs i (omega arith) in omega arith

steps_next : (a : ℕ) (bs : List ℕ) (z : ℕ) → ((n : ℕ) → times n (a ∷ bs) ≤ 1) → (i : ℕ) → i < length (a ∷ bs) → name_after (steps_to a bs z) (get_or (a ∷ bs) i 0) ≡ get_or (bs ++ z ∷ []) i 0
unfolding name_after
steps_next a [] z once zero h = rw (eqb_self a)
steps_next a [] z once (suc i) h = absurd (omega arith)
steps_next a (b ∷ bs) z once zero h = rw (eqb_self a)
steps_next a (b ∷ bs) z once (suc i) h =
    let n : ℕ = get_or (b ∷ bs) i 0 in
    let k : 1 ≤ times n (b ∷ bs) = member (b ∷ bs) i (omega arith) in
    let o : times n (a ∷ b ∷ bs) ≤ 1 = once n in
    let d : eqb n a ≡ false = decide (eqb n a) (λ e. let c : count1 (eqb n a) ≡ 1 = count_yes e in absurd (omega arith)) (λ e. e) in
    rw d (steps_next b bs z (λ m. let p : times m (a ∷ b ∷ bs) ≤ 1 = once m in omega arith) i (omega arith))

module _ (g : Graph) (a : ℕ) (bs : List ℕ) (w : well_formed g ≡ true) (once : (n : ℕ) → times n (a ∷ bs) ≤ 1) where
  steps : (z : ℕ) → times z bs ≡ 0 → (is_old (steps_to a bs z) z ≡ true) ⊎ (held g z ≡ false) → Stepwise g a bs z
  unfolding clash
  steps z d last =
      let ms : List Change = steps_to a bs z in
      let c : clash g.names ms ≡ false = rw (steps_once a bs z once d, none_collide g.names ms a bs z (λ n h. steps_old a bs z n (omega arith)) last) in
      let r : remap g ms ≡ ok (renamed (name_after ms) g) = remap_ok g ms w c in
      record { after = renamed (name_after ms) g; done = r; next = steps_next a bs z once; carries = remap_carries g (renamed (name_after ms) g) ms r }

  -- a cycle of any length, whatever names the graph holds
  pub cycle : Stepwise g a bs a
  cycle =
      let c : count1 (eqb a a) ≡ 1 = count_yes (eqb_self a) in
      let o : times a (a ∷ bs) ≤ 1 = once a in
      steps a (omega arith) (inl (steps_old a bs a a (omega arith)))

  -- a chain, where its last name is not held
  pub chain : (z : ℕ) → times z bs ≡ 0 → held g z ≡ false → Stepwise g a bs z
  chain z d h = steps z d (inr h)
