-- Where no names cross, renaming one by one is renaming together.
use Rattle.std.specs.Prelude.{ℕ, ◌≤◌, ◌<◌, suc, zero, ◌+◌, ◌||◌, ◌&&◌, ◌⊎◌, ◌≢◌, ◌≡◌, eqb, leb, get_or, length}
use Rattle.std.proofs.Common.{arith, true≢false, inl, inr, ◌∙◌}
use Rattle.std.proofs.Math.Bool.{Bool, true, cond, false, not}
use Rattle.std.proofs.lemmas.Bool.{false≢true}
use mathlib.Core.List.{List, ◌∷◌, []}
use Rattle.std.proofs.Math.Option.{Option, none, some, none-ne-some, some-ne-none, some-injective}
use Rattle.std.proofs.Math.Path.{sym, subst, ap, refl}
use Rattle.std.proofs.Math.Dec.{ltb}
use Rattle.meaning.specs.Lists.{all, any}
use Rattle.meaning.specs.BorrowGraph.{Name, GEdge, Graph, holds, held, eq_pair, union, one, set_at, ascending, pair_ok, well_formed, put_name, with_id, rename_names, rename_edges, renamed}
use Rattle.meaning.specs.References.{empty_set}
use Rattle.meaning.specs.AbstractState.{count1, Local, absent, ref, eq_local, State, new_name_of, own_names, canonical}
use Rattle.meaning.specs.EntryPoints.{put_number, ascend, local_names}
use Rattle.meaning.proofs.Laws.Base.{both, or_cases, decide, and_l, and_r, eqb_no, leb_le, eqb_eq, eqb_self, leb_gt, eqb_ne, or_l, or_r, le_leb, and_i}
use Rattle.meaning.proofs.Laws.Block.{local_found, owns_open}
use Rattle.meaning.proofs.Laws.Borrow.{ascending_place}
use Rattle.meaning.proofs.Laws.Call.{ascending_keep}
use Rattle.meaning.specs.Laws.Forms.{Open}
use Rattle.meaning.proofs.Laws.Canon.{Lone, edges_ext, set_ok_lone}
use Rattle.meaning.proofs.Laws.Graph.{at_or_empty, Inv, wf→inv}
use Rattle.meaning.proofs.Laws.InTurnEdges.{parents_step, children_turn}
use Rattle.meaning.proofs.Laws.Overwrite.{put_over, Apart, Midway, midway_start, midway_next, midway_skip, renamed_at, nothing_at}
use Rattle.meaning.proofs.Laws.Own.{times, in_front, count_yes, count_no, count_le, Owns, owns_once}
use Rattle.meaning.proofs.Laws.Rename.{place_set, rename_order, same_test, rename_set, rename_inv, names_hold, hold_names, names_ascend, place, apart, small, found}
use Rattle.meaning.proofs.Laws.Running.{ascend_times}
use Rattle.meaning.proofs.Laws.State.{absent≢ref}
use Rattle.meaning.specs.Refinement.InTurn.{flag_of, children_in_turn, drop_name, moved, in_turn, one_by_one, crossed, crosses, remapped}

-- ---- flags

hit : (a : Name) (ns : List Name) (k : ℕ) → eqb k a.id ≡ true → flag_of (a ∷ ns) k ≡ some a.mutable
unfolding flag_of
hit a ns k e = ap (λ (b : Bool). cond b (some a.mutable) (flag_of ns k)) e

miss : (a : Name) (ns : List Name) (k : ℕ) → eqb k a.id ≡ false → flag_of (a ∷ ns) k ≡ flag_of ns k
unfolding flag_of
miss a ns k e = ap (λ (b : Bool). cond b (some a.mutable) (flag_of ns k)) e

-- held: it has a flag
held_flag : (ns : List Name) (k : ℕ) → holds ns k ≡ true → (b : Bool) × (flag_of ns k ≡ some b)
unfolding holds
held_flag [] k h = absurd (false≢true h)
held_flag (a ∷ ns) k h = go (eqb k a.id) refl (or_cases (eqb k a.id) (holds ns k) h) (held_flag ns k)
  where
    go : (x : Bool) → eqb k a.id ≡ x → (eqb k a.id ≡ true) ⊎ (holds ns k ≡ true) → (holds ns k ≡ true → (b : Bool) × (flag_of ns k ≡ some b)) → (b : Bool) × (flag_of (a ∷ ns) k ≡ some b)
    go true e p r = (a.mutable, hit a ns k e)
    go false e (inl p) r = absurd (both p e)
    go false e (inr p) r = let z = r p in (z.0, miss a ns k e ∙ z.1)

flag_none : (ns : List Name) (k : ℕ) → holds ns k ≡ false → flag_of ns k ≡ none
unfolding holds flag_of
flag_none [] k h = refl
flag_none (a ∷ ns) k h = go (eqb k a.id) h (flag_none ns k)
  where
    go : (x : Bool) → x || holds ns k ≡ false → (holds ns k ≡ false → flag_of ns k ≡ none) → cond x (some a.mutable) (flag_of ns k) ≡ none
    go true p r = absurd (true≢false p)
    go false p r = r p

has_flag : (ns : List Name) (k : ℕ) (b : Bool) → flag_of ns k ≡ some b → holds ns k ≡ true
has_flag ns k b e = decide (holds ns k) (λ h. h) (λ h. absurd (none-ne-some b (sym (flag_none ns k h) ∙ e)))

none_held : (ns : List Name) (k : ℕ) → flag_of ns k ≡ none → holds ns k ≡ false
none_held ns k e = decide (holds ns k) (λ h. let z = held_flag ns k h in absurd (none-ne-some z.0 (sym e ∙ z.1))) (λ h. h)

none_below : (ns : List Name) (b k : ℕ) → all (λ m. ltb b m.id) ns ≡ true → k ≤ b → flag_of ns k ≡ none
unfolding flag_of
none_below [] b k h l = refl
none_below (a ∷ ns) b k h l =
    let x : b < a.id = leb_le (and_l (ltb b a.id) (all (λ m. ltb b m.id) ns) h) in
    miss a ns k (eqb_no {m = k} {n = a.id} (λ e. omega arith)) ∙ none_below ns b k (and_r (ltb b a.id) (all (λ m. ltb b m.id) ns) h) l

-- two ascending lists with the same flags are the same
names_ext : (ns ms : List Name) → ascending ns ≡ true → ascending ms ≡ true → ((k : ℕ) → flag_of ns k ≡ flag_of ms k) → ns ≡ ms
unfolding ascending
names_ext [] [] p q h = refl
names_ext [] (b ∷ ms) p q h = absurd (none-ne-some b.mutable (sym (none_below [] b.id b.id refl (omega arith)) ∙ h b.id ∙ hit b ms b.id (eqb_self b.id)))
names_ext (a ∷ ns) [] p q h = absurd (none-ne-some a.mutable (sym (none_below [] a.id a.id refl (omega arith)) ∙ sym (h a.id) ∙ hit a ns a.id (eqb_self a.id)))
names_ext (a ∷ ns) (b ∷ ms) p q h =
    let ua : all (λ m. ltb a.id m.id) ns ≡ true = and_r (ltb a.id 65536) (all (λ m. ltb a.id m.id) ns) (and_l (ltb a.id 65536 && all (λ m. ltb a.id m.id) ns) (ascending ns) p) in
    let ub : all (λ m. ltb b.id m.id) ms ≡ true = and_r (ltb b.id 65536) (all (λ m. ltb b.id m.id) ms) (and_l (ltb b.id 65536 && all (λ m. ltb b.id m.id) ms) (ascending ms) q) in
    let l₁ : b.id ≤ a.id = le a ns b ms ub h in
    let l₂ : a.id ≤ b.id = le b ms a ns ua (λ k. sym (h k)) in
    let e : a.id ≡ b.id = omega arith in
    let m : a.mutable ≡ b.mutable = some-injective a.mutable b.mutable (sym (hit a ns a.id (eqb_self a.id)) ∙ h a.id ∙ hit b ms a.id (subst (λ (k : ℕ). eqb a.id k ≡ true) e (eqb_self a.id))) in
    let t : ns ≡ ms = names_ext ns ms (and_r (ltb a.id 65536 && all (λ m. ltb a.id m.id) ns) (ascending ns) p) (and_r (ltb b.id 65536 && all (λ m. ltb b.id m.id) ms) (ascending ms) q)
    (λ k. decide (eqb k a.id)
    (λ z. let w : k ≡ a.id = eqb_eq {m = k} {n = a.id} z in none_below ns a.id k ua (omega arith) ∙ sym (none_below ms b.id k ub (omega arith)))
    (λ z. sym (miss a ns k z) ∙ h k ∙ miss b ms k (subst (λ (j : ℕ). eqb k j ≡ false) e z))) in
    λ i. record { id = e i; mutable = m i } ∷ t i
  where
    le : (a : Name) (ns : List Name) (b : Name) (ms : List Name) → all (λ m. ltb b.id m.id) ms ≡ true → ((k : ℕ) → flag_of (a ∷ ns) k ≡ flag_of (b ∷ ms) k) → b.id ≤ a.id
    le a ns b ms ub h = decide (leb b.id a.id) (λ z. leb_le z)
        (λ z. let x : a.id < b.id = leb_gt z in
        absurd (none-ne-some a.mutable (sym (miss b ms a.id (eqb_no {m = a.id} {n = b.id} (λ y. omega arith)) ∙ none_below ms b.id a.id ub (omega arith)) ∙ sym (h a.id) ∙ hit a ns a.id (eqb_self a.id))))

place_flag : (a : Name) (ns : List Name) (k : ℕ) → flag_of ns a.id ≡ none → flag_of (put_name a ns) k ≡ cond (eqb k a.id) (some a.mutable) (flag_of ns k)
unfolding put_name flag_of
place_flag a [] k h = refl
place_flag a (b ∷ bs) k h = go (ltb a.id b.id) (eqb a.id b.id) refl h (place_flag a bs k)
  where
    swap : eqb a.id b.id ≡ false → (x y : Bool) → eqb k b.id ≡ x → eqb k a.id ≡ y → cond x (some b.mutable) (cond y (some a.mutable) (flag_of bs k)) ≡ cond y (some a.mutable) (cond x (some b.mutable) (flag_of bs k))
    swap d true true p q = absurd (eqb_ne {m = a.id} {n = b.id} d (sym (eqb_eq {m = k} {n = a.id} q) ∙ eqb_eq {m = k} {n = b.id} p))
    swap d true false p q = refl
    swap d false y p q = refl

    go : (c d : Bool) → eqb a.id b.id ≡ d → cond d (some b.mutable) (flag_of bs a.id) ≡ none → (flag_of bs a.id ≡ none → flag_of (put_name a bs) k ≡ cond (eqb k a.id) (some a.mutable) (flag_of bs k))
        → flag_of (cond c (a ∷ b ∷ bs) (b ∷ put_name a bs)) k ≡ cond (eqb k a.id) (some a.mutable) (cond (eqb k b.id) (some b.mutable) (flag_of bs k))
    go c true e z r = absurd (some-ne-none b.mutable z)
    go true false e z r = refl
    go false false e z r = ap (λ (o : Option Bool). cond (eqb k b.id) (some b.mutable) o) (r z) ∙ swap e (eqb k b.id) (eqb k a.id) refl refl

drop_flag : (n : ℕ) (ns : List Name) (k : ℕ) → flag_of (drop_name n ns) k ≡ cond (eqb k n) none (flag_of ns k)
unfolding flag_of
drop_flag n [] k = go (eqb k n)
  where
    go : (b : Bool) → ◌≡◌ {A = Option Bool} none (cond b none none)
    go true = refl
    go false = refl
drop_flag n (b ∷ bs) k = go (eqb n b.id) refl (drop_flag n bs k)
  where
    same : (x : Bool) → cond x none (flag_of bs k) ≡ cond x none (cond x (some b.mutable) (flag_of bs k))
    same true = refl
    same false = refl

    swap : eqb n b.id ≡ false → (x y : Bool) → eqb k b.id ≡ x → eqb k n ≡ y → cond x (some b.mutable) (cond y none (flag_of bs k)) ≡ cond y none (cond x (some b.mutable) (flag_of bs k))
    swap d true true p q = absurd (eqb_ne {m = n} {n = b.id} d (sym (eqb_eq {m = k} {n = n} q) ∙ eqb_eq {m = k} {n = b.id} p))
    swap d true false p q = refl
    swap d false true p q = refl
    swap d false false p q = refl

    go : (d : Bool) → eqb n b.id ≡ d → flag_of (drop_name n bs) k ≡ cond (eqb k n) none (flag_of bs k)
        → flag_of (cond (not d) (b ∷ drop_name n bs) (drop_name n bs)) k ≡ cond (eqb k n) none (cond (eqb k b.id) (some b.mutable) (flag_of bs k))
    go true e r = r ∙ same (eqb k n) ∙ ap (λ (j : ℕ). cond (eqb k n) none (cond (eqb k j) (some b.mutable) (flag_of bs k))) (eqb_eq {m = n} {n = b.id} e)
    go false e r = ap (λ (o : Option Bool). cond (eqb k b.id) (some b.mutable) o) r ∙ swap e (eqb k b.id) (eqb k n) refl refl

-- ---- the names, each with what it lends

module _ (f : ℕ → ℕ) (g : Graph) (inj : (m n : ℕ) → held g m ≡ true → held g n ≡ true → f m ≡ f n → m ≡ n) (little : (n : ℕ) → held g n ≡ true → f n < 65536) where
  abbrev dom : ℕ → Bool
  dom n = held g n

  -- cur: the graph after some steps
  record Halfway (ks : List ℕ) (cur : Graph) : Type 0 where
    asc : ascending cur.names ≡ true
    flags : Midway none f dom inj (flag_of g.names) ks (flag_of cur.names)
    sets : (c : ℕ) → Midway empty_set f dom inj (λ p. set_at p c g.edges) ks (λ p. set_at p c cur.edges)

  module _ (n : ℕ) (ks : List ℕ) (cur : Graph) (far : (m : ℕ) → 1 ≤ times m ks → f n ≢ m) (h : Halfway (n ∷ ks) cur) where
    module _ (b : Bool) (fl : flag_of cur.names n ≡ some b) where
      two : List Name
      two = drop_name (f n) (drop_name n cur.names)

      next : Graph
      unfolding two
      next = moved n (f n) cur (some b)

      mine : held g n ≡ true
      mine = has_flag g.names n b (sym (h.flags.to_come n (in_front n ks)) ∙ fl)

      two_flag : (k : ℕ) → flag_of two k ≡ cond (eqb k (f n)) none (cond (eqb k n) none (flag_of cur.names k))
      unfolding two
      two_flag k = drop_flag (f n) (drop_name n cur.names) k ∙ ap (λ (o : Option Bool). cond (eqb k (f n)) none o) (drop_flag n cur.names k)

      free : flag_of two (f n) ≡ none
      free = two_flag (f n) ∙ ap (λ (x : Bool). cond x none (cond (eqb (f n) n) none (flag_of cur.names (f n)))) (eqb_self (f n))

      next_flag : (k : ℕ) → flag_of next.names k ≡ put_over none n (f n) (flag_of cur.names) k
      unfolding next two
      next_flag k =
          place_flag (record { id = f n; mutable = b }) (drop_name (f n) (drop_name n cur.names)) k free
          ∙ ap (λ (o : Option Bool). cond (eqb k (f n)) (some b) o) (two_flag k)
          ∙ over (eqb k (f n)) (cond (eqb k n) none (flag_of cur.names k))
        where
          over : (x : Bool) (o : Option Bool) → cond x (some b) (cond x none o) ≡ cond x (flag_of cur.names n) o
          over true o = sym fl
          over false o = refl

      next_set : (c k : ℕ) → set_at k c next.edges ≡ put_over empty_set n (f n) (λ p. set_at p c cur.edges) k
      unfolding next
      next_set c k = parents_step c n (f n) cur.edges k

      next_asc : ascending next.names ≡ true
      unfolding next two
      next_asc =
          ascending_place (record { id = f n; mutable = b }) (drop_name (f n) (drop_name n cur.names)) (le_leb (little n mine)) (none_held (drop_name (f n) (drop_name n cur.names)) (f n) free)
          (ascending_keep (λ m. not (eqb (f n) m.id)) (drop_name n cur.names) (ascending_keep (λ m. not (eqb n m.id)) cur.names h.asc))

      halfway_next : Halfway ks next
      halfway_next = record {
        asc = next_asc;
        flags = midway_next none f dom inj (flag_of g.names) n ks (flag_of cur.names) (flag_of next.names) far h.flags mine next_flag;
        sets = λ c. midway_next empty_set f dom inj (λ p. set_at p c g.edges) n ks (λ p. set_at p c cur.edges) (λ p. set_at p c next.edges) far (h.sets c) mine (next_set c);
      }

    -- an old name that is not held is passed over
    halfway_skip : ((c k : ℕ) → held g k ≡ false → set_at k c g.edges ≡ empty_set) → flag_of cur.names n ≡ none → Halfway ks cur
    halfway_skip out fl =
        let o : flag_of g.names n ≡ none = sym (h.flags.to_come n (in_front n ks)) ∙ fl in
        record {
          asc = h.asc;
          flags = midway_skip none f dom inj (flag_of g.names) n ks (flag_of cur.names) (flag_of cur.names) far h.flags o (λ k. refl);
          sets = λ c. midway_skip empty_set f dom inj (λ p. set_at p c g.edges) n ks (λ p. set_at p c cur.edges) (λ p. set_at p c cur.edges) far (h.sets c) (out c n (none_held g.names n o)) (λ k. refl);
        }

  turn_law : ((c k : ℕ) → held g k ≡ false → set_at k c g.edges ≡ empty_set) → (ks : List ℕ) (cur : Graph) → Apart f ks → Halfway ks cur → Halfway [] (in_turn f ks cur)
  unfolding in_turn next two
  turn_law out [] cur a h = h
  turn_law out (n ∷ ks) cur a h = go (flag_of cur.names n) refl (λ x. turn_law out ks x a.1)
    where
      go : (o : Option Bool) → flag_of cur.names n ≡ o → ((x : Graph) → Halfway ks x → Halfway [] (in_turn f ks x)) → Halfway [] (in_turn f ks (moved n (f n) cur o))
      go none fl r = r cur (halfway_skip n ks cur a.0 h out fl)
      go (some b) fl r = r (next n ks cur a.0 h b fl) (halfway_next n ks cur a.0 h b fl)

-- together: each name's flag is at its new name
module _ (f : ℕ → ℕ) (ns : List Name) (inj : (m n : ℕ) → holds ns m ≡ true → holds ns n ≡ true → f m ≡ f n → m ≡ n) where
  together : (ms : List Name) → ascending ms ≡ true → ((n : ℕ) → holds ms n ≡ true → holds ns n ≡ true) → (n : ℕ) → holds ns n ≡ true → flag_of (rename_names f ms) (f n) ≡ flag_of ms n
  unfolding rename_names flag_of ascending holds
  together [] asc sub n h = refl
  together (a ∷ ms) asc sub n h =
      let t : Name → Bool = λ m. ltb a.id m.id in
      let up : all t ms ≡ true = and_r (ltb a.id 65536) (all t ms) (and_l (ltb a.id 65536 && all t ms) (ascending ms) asc) in
      let rest : ascending ms ≡ true = and_r (ltb a.id 65536 && all t ms) (ascending ms) asc in
      let sub' : (k : ℕ) → holds ms k ≡ true → holds ns k ≡ true = λ k q. sub k (or_r (eqb k a.id) q) in
      let ha : holds ns a.id ≡ true = sub a.id (or_l (holds ms a.id) (eqb_self a.id)) in
      place_flag (with_id f a) (rename_names f ms) (f n) (together ms rest sub' a.id ha ∙ none_below ms a.id a.id up (omega arith))
      ∙ (λ i. cond (same_test f ns inj n a.id h ha i) (some a.mutable) (together ms rest sub' n h i))

sorted_set : (p c : ℕ) (xs : List GEdge) → set_at p c (rename_edges (λ n. n) xs) ≡ set_at p c xs
unfolding rename_edges set_at
sorted_set p c [] = refl
sorted_set p c (x ∷ xs) =
    place_set p c x (rename_edges (λ n. n) xs) ∙ (λ i. cond (eq_pair p c x.parent x.child) (union (one x) (sorted_set p c xs i)) (sorted_set p c xs i))

-- ks: the old names; another name that is held stays
module _ (f : ℕ → ℕ) (g : Graph) (w : well_formed g ≡ true) (inj : (m n : ℕ) → held g m ≡ true → held g n ≡ true → f m ≡ f n → m ≡ n) (little : (n : ℕ) → held g n ≡ true → f n < 65536)
    (ks : List ℕ) (a : Apart f ks) (once : (n : ℕ) → times n ks ≤ 1) (stay : (n : ℕ) → held g n ≡ true → times n ks ≡ 0 → f n ≡ n) where
  inv : Inv g
  inv = wf→inv g w

  new : Inv (renamed f g)
  new = rename_inv f g inj little inv

  -- an edge's ends are held
  outside : (p c : ℕ) → (held g p ≡ false) ⊎ (held g c ≡ false) → set_at p c g.edges ≡ empty_set
  outside p c o = go o (at_or_empty (pair_ok g.names) p c g.edges inv.pairs)
    where
      go : (held g p ≡ false) ⊎ (held g c ≡ false) → (pair_ok g.names p c ≡ true) ⊎ (set_at p c g.edges ≡ empty_set) → set_at p c g.edges ≡ empty_set
      go o (inr e) = e
      go (inl z) (inl e) = absurd (both (and_l (held g p) (held g c && not (eqb p c)) e) z)
      go (inr z) (inl e) = absurd (both (and_l (held g c) (not (eqb p c)) (and_r (held g p) (held g c && not (eqb p c)) e)) z)

  -- k is no new name
  abbrev Strange : ℕ → Type 0
  Strange k = (n : ℕ) → held g n ≡ true → k ≢ f n

  -- or the new name of a held one
  abbrev Image : ℕ → Type 0
  Image k = ((n : ℕ) × (held g n ≡ true) × (k ≡ f n)) ⊎ (Strange k)

  image : (k : ℕ) → Image k
  image k = decide (holds (rename_names f g.names) k)
      (λ h. inl (names_hold f g.names inj k g.names h))
      (λ h. inr (λ n d e. both (subst (λ (j : ℕ). holds (rename_names f g.names) j ≡ true) (sym e) (hold_names f g.names inj n g.names d)) h))

  abbrev mid : Graph
  mid = record { names = g.names; edges = children_in_turn f ks g.edges }

  -- after the children
  sets₁ : (p : ℕ) → Midway empty_set f (held g) inj (λ c. set_at p c g.edges) [] (λ c. set_at p c mid.edges)
  sets₁ p =
      children_turn f (held g) inj g.edges p (λ k z. outside p k (inr z)) ks g.edges a
      (midway_start empty_set f (held g) inj (λ c. set_at p c g.edges) ks once stay (λ k z. outside p k (inr z)))

  mid_outside : (c k : ℕ) → held g k ≡ false → set_at k c mid.edges ≡ empty_set
  mid_outside c k z = go (image c)
    where
      go : Image c → set_at k c mid.edges ≡ empty_set
      go (inl y) = ap (λ (d : ℕ). set_at k d mid.edges) y.2 ∙ renamed_at empty_set f (held g) inj (λ d. set_at k d g.edges) (λ d. set_at k d mid.edges) (sets₁ k) y.0 y.1 ∙ outside k y.0 (inl z)
      go (inr y) = nothing_at empty_set f (held g) inj (λ d. set_at k d g.edges) (λ d. set_at k d mid.edges) (sets₁ k) c y

  abbrev last : Graph
  last = in_turn f ks mid

  ends : Halfway f mid inj little [] last
  ends = turn_law f mid inj little mid_outside ks mid a (record {
    asc = inv.asc;
    flags = midway_start none f (held g) inj (flag_of g.names) ks once stay (flag_none g.names);
    sets = λ c. midway_start empty_set f (held g) inj (λ p. set_at p c mid.edges) ks once stay (mid_outside c);
  })

  same_names_lem : last.names ≡ rename_names f g.names
  same_names_lem = names_ext last.names (rename_names f g.names) ends.asc (names_ascend f g.names inj little g.names (λ n h. h) inv.asc) (λ k. go k (image k))
    where
      go : (k : ℕ) → Image k → flag_of last.names k ≡ flag_of (rename_names f g.names) k
      go k (inl y) =
          subst (λ (j : ℕ). flag_of last.names j ≡ flag_of (rename_names f g.names) j) (sym y.2)
          (renamed_at none f (held g) inj (flag_of g.names) (flag_of last.names) ends.flags y.0 y.1 ∙ sym (together f g.names inj g.names inv.asc (λ n h. h) y.0 y.1))
      go k (inr y) =
          nothing_at none f (held g) inj (flag_of g.names) (flag_of last.names) ends.flags k y
          ∙ sym (flag_none (rename_names f g.names) k (decide (holds (rename_names f g.names) k) (λ h. let z = names_hold f g.names inj k g.names h in absurd (y z.0 z.1 z.2)) (λ h. h)))

  -- a pair of the renamed graph is one of new names
  strange : (q d : ℕ) → (Strange q) ⊎ (Strange d) → set_at q d (rename_edges f g.edges) ≡ empty_set
  unfolding renamed
  strange q d o = which o (at_or_empty (pair_ok (rename_names f g.names)) q d (rename_edges f g.edges) new.pairs)
    where
      which : (Strange q) ⊎ (Strange d) → (pair_ok (rename_names f g.names) q d ≡ true) ⊎ (set_at q d (rename_edges f g.edges) ≡ empty_set)
          → set_at q d (rename_edges f g.edges) ≡ empty_set
      which o (inr e) = e
      which (inl y) (inl e) =
          let z = names_hold f g.names inj q g.names (and_l (holds (rename_names f g.names) q) (holds (rename_names f g.names) d && not (eqb q d)) e) in absurd (y z.0 z.1 z.2)
      which (inr y) (inl e) =
          let z = names_hold f g.names inj d g.names (and_l (holds (rename_names f g.names) d) (not (eqb q d)) (and_r (holds (rename_names f g.names) q) (holds (rename_names f g.names) d && not (eqb q d)) e)) in absurd (y z.0 z.1 z.2)

  same_set : (q d : ℕ) → set_at q d last.edges ≡ set_at q d (rename_edges f g.edges)
  same_set q d = go (image q) (image d)
    where
      row : (p : ℕ) → held g p ≡ true → set_at (f p) d last.edges ≡ set_at p d mid.edges
      row p h = renamed_at empty_set f (held g) inj (λ j. set_at j d mid.edges) (λ j. set_at j d last.edges) (ends.sets d) p h

      go : Image q → Image d → set_at q d last.edges ≡ set_at q d (rename_edges f g.edges)
      go (inr y) i = nothing_at empty_set f (held g) inj (λ j. set_at j d mid.edges) (λ j. set_at j d last.edges) (ends.sets d) q y ∙ sym (strange q d (inl y))
      go (inl x) (inr y) =
          ap (λ (j : ℕ). set_at j d last.edges) x.2 ∙ row x.0 x.1
          ∙ nothing_at empty_set f (held g) inj (λ j. set_at x.0 j g.edges) (λ j. set_at x.0 j mid.edges) (sets₁ x.0) d y ∙ sym (strange q d (inr y))
      go (inl x) (inl y) =
          ap (λ (j : ℕ). set_at j d last.edges) x.2 ∙ row x.0 x.1
          ∙ ap (λ (j : ℕ). set_at x.0 j mid.edges) y.2
          ∙ renamed_at empty_set f (held g) inj (λ j. set_at x.0 j g.edges) (λ j. set_at x.0 j mid.edges) (sets₁ x.0) y.0 y.1
          ∙ sym (rename_set f g.names inj x.0 y.0 x.1 y.1 g.edges inv.pairs)
          ∙ sym (λ i. set_at (x.2 i) (y.2 i) (rename_edges f g.edges))

  pub in_turn_lem : one_by_one f ks g ≡ renamed f g
  unfolding one_by_one renamed
  in_turn_lem =
      let es : rename_edges (λ n. n) last.edges ≡ rename_edges f g.edges =
      edges_ext (rename_edges (λ n. n) last.edges) (rename_edges f g.edges) (rename_order (λ n. n) last.edges) (rename_order f g.edges)
      (λ p c. subst Lone (sym (sorted_set p c last.edges ∙ same_set p c)) (lone p c)) lone (λ p c. sorted_set p c last.edges ∙ same_set p c) in
      λ i. record { names = same_names_lem i; edges = es i }
    where
      lone : (p c : ℕ) → Lone (set_at p c (rename_edges f g.edges))
      lone p c = set_ok_lone (set_at p c (rename_edges f g.edges)) (new.sets p c)

-- ---- ascending

abbrev pub Sorted : List ℕ → Type 0
Sorted [] = Unit {0}
Sorted (n ∷ ks) = ((m : ℕ) → 1 ≤ times m ks → n < m) × (Sorted ks)

one_of : (k n : ℕ) (ms : List ℕ) → 1 ≤ times k (n ∷ ms) → (k ≡ n) ⊎ (1 ≤ times k ms)
one_of k n ms h = decide (eqb k n) (λ e. inl (eqb_eq {m = k} {n = n} e)) (λ e. let c : count1 (eqb k n) ≡ 0 = count_no e in inr (omega arith))

in_place : (n : ℕ) (ms : List ℕ) (k : ℕ) → 1 ≤ times k (put_number n ms) → (k ≡ n) ⊎ (1 ≤ times k ms)
unfolding put_number
in_place n [] k h = one_of k n [] h
in_place n (m ∷ ms) k h = go (ltb n m) (eqb n m) h (in_place n ms k)
  where
    later : (k ≡ n) ⊎ (1 ≤ times k ms) → (k ≡ n) ⊎ (1 ≤ times k (m ∷ ms))
    later (inl e) = inl e
    later (inr e) = inr (omega arith)

    third : (k ≡ m) ⊎ (1 ≤ times k (put_number n ms)) → (1 ≤ times k (put_number n ms) → (k ≡ n) ⊎ (1 ≤ times k ms)) → (k ≡ n) ⊎ (1 ≤ times k (m ∷ ms))
    third (inl e) r = inr (let c : count1 (eqb k m) ≡ 1 = count_yes (subst (λ (j : ℕ). eqb k j ≡ true) e (eqb_self k)) in omega arith)
    third (inr e) r = later (r e)

    go : (a b : Bool) → 1 ≤ times k (cond a (n ∷ m ∷ ms) (cond b (m ∷ ms) (m ∷ put_number n ms))) → (1 ≤ times k (put_number n ms) → (k ≡ n) ⊎ (1 ≤ times k ms)) → (k ≡ n) ⊎ (1 ≤ times k (m ∷ ms))
    go true b p r = one_of k n (m ∷ ms) p
    go false true p r = inr p
    go false false p r = third (one_of k m (put_number n ms) p) r

place_sorted : (n : ℕ) (ms : List ℕ) → Sorted ms → Sorted (put_number n ms)
unfolding put_number
place_sorted n [] s = ((λ m h. absurd (omega arith)), tt)
place_sorted n (m ∷ ms) s = go (ltb n m) (eqb n m) refl refl (place_sorted n ms s.1)
  where
    above : n < m → (k : ℕ) → (k ≡ m) ⊎ (1 ≤ times k ms) → n < k
    above l k (inl e) = omega arith
    above l k (inr h) = let x : m < k = s.0 k h in omega arith

    over : m < n → (k : ℕ) → (k ≡ n) ⊎ (1 ≤ times k ms) → m < k
    over l k (inl e) = omega arith
    over l k (inr h) = s.0 k h

    go : (a b : Bool) → ltb n m ≡ a → eqb n m ≡ b → Sorted (put_number n ms) → Sorted (cond a (n ∷ m ∷ ms) (cond b (m ∷ ms) (m ∷ put_number n ms)))
    go true b p q r = ((λ k h. above (leb_le p) k (one_of k m ms h)), s)
    go false true p q r = s
    go false false p q r =
        let x : m < suc n = leb_gt {m = suc n} {n = m} p in
        let y : n ≢ m = eqb_ne {m = n} {n = m} q in
        ((λ k h. over (omega arith) k (in_place n ms k h)), r)

pub ascend_sorted : (xs : List ℕ) → Sorted (ascend xs)
unfolding ascend
ascend_sorted [] = tt
ascend_sorted (x ∷ xs) = place_sorted x (ascend xs) (ascend_sorted xs)

pub to_apart : (f : ℕ → ℕ) (ks : List ℕ) → Sorted ks → ((n m : ℕ) → 1 ≤ times n ks → 1 ≤ times m ks → n < m → f n ≢ m) → Apart f ks
to_apart f [] s h = tt
to_apart f (n ∷ ks) s h = (
  (λ m t. h n m (in_front n ks) (omega arith) (s.0 m t)),
  to_apart f ks s.1 (λ i m p q l. h i m (omega arith) (omega arith) l),
)

-- ---- crossing

some_local : (ys : List Local) (i m : ℕ) → get_or ys i absent ≡ ref m → any (λ y. eq_local y (ref m)) ys ≡ true
some_local [] i m h = absurd (absent≢ref h)
some_local (y ∷ ys) zero m h = or_l (any (λ z. eq_local z (ref m)) ys) (subst (λ (z : Local). eq_local z (ref m) ≡ true) (sym h) (eqb_self m))
some_local (y ∷ ys) (suc i) m h = or_r (eq_local y (ref m)) (some_local ys i m h)

crosses_at : (ys : List Local) (a : ℕ) (xs : List Local) (j n b : ℕ) → b ≡ a + j → get_or xs j absent ≡ ref n → n < b → any (λ y. eq_local y (ref b)) ys ≡ true → crosses ys a xs ≡ true
unfolding crosses
crosses_at ys a [] j n b e h l w = absurd (absent≢ref h)
crosses_at ys a (x ∷ xs) zero n b e h l w =
    let q : a ≡ b = omega arith in
    or_l (crosses ys (suc a) xs) (subst (λ (z : Local). crossed ys a z ≡ true) (sym h) (subst (λ (c : ℕ). ltb n c && any (λ y. eq_local y (ref c)) ys ≡ true) (sym q) (and_i (le_leb l) w)))
crosses_at ys a (x ∷ xs) (suc j) n b e h l w = or_r (crossed ys a x) (crosses_at ys (suc a) xs j n b (omega arith) h l w)

-- ---- the end of a block

-- At the end of a block with successors the Rust's renaming gives the state that `canonical` gives, wherever the names do not cross.
pub remapped_canonical : (l m : ℕ) (ls : List Local) (g : Graph) (next : ℕ) → l ≤ 16 → length ls ≡ l → Owns l g next (local_names ls) m → crosses ls 0 ls ≡ false
    → remapped l (record { locals = ls; graph = g }) ≡ canonical l (record { locals = ls; graph = g })
unfolding canonical remapped new_name_of
remapped_canonical l m ls g next b c o e =
    let ks : List ℕ = ascend (l ∷ local_names ls) in
    let q : one_by_one f ks g ≡ renamed f g =
    in_turn_lem f g o.formed inj (λ n h. small l s op n (place l s op n h)) ks
    (to_apart f ks (ascend_sorted (l ∷ local_names ls)) (λ n k p r lt. far e n k (key n p) (key k r) lt))
    (λ n. let x : times n ks ≡ count1 (holds g.names n) = same n ∙ o.counts n in let y : count1 (holds g.names n) ≤ 1 = count_le (holds g.names n) in omega arith)
    (λ n h w. let x : times n ks ≡ count1 (holds g.names n) = same n ∙ o.counts n in let y : count1 (holds g.names n) ≡ 1 = count_yes h in absurd (omega arith)) in
    λ i. record { locals = own_names 0 ls; graph = q i }
  where
    s : State
    s = record { locals = ls; graph = g }

    op : Open l s
    op = owns_open l m ls g next b c o

    f : ℕ → ℕ
    f n = new_name_of l ls n

    inj : (i j : ℕ) → holds g.names i ≡ true → holds g.names j ≡ true → f i ≡ f j → i ≡ j
    inj i j hi hj = apart l s op i j (place l s op i hi) (place l s op j hj)

    same : (n : ℕ) → times n (ascend (l ∷ local_names ls)) ≡ times n (l ∷ local_names ls)
    same n = ascend_times (l ∷ local_names ls) (owns_once l g next (local_names ls) m o) n

    key : (n : ℕ) → 1 ≤ times n (ascend (l ∷ local_names ls)) → (n ≡ l) ⊎ (1 ≤ times n (local_names ls))
    key n h = one_of n l (local_names ls) (subst (λ (k : ℕ). 1 ≤ k) (same n) h)

    root_own : f l ≡ l
    root_own = rw (eqb_self l) refl

    far : crosses ls 0 ls ≡ false → (n k : ℕ) → (n ≡ l) ⊎ (1 ≤ times n (local_names ls)) → (k ≡ l) ⊎ (1 ≤ times k (local_names ls)) → n < k → f n ≢ k
    far w n k (inl p) r lt q = let x : f n ≡ l = ap f p ∙ root_own in omega arith
    far w n k (inr p) r lt q =
        let a : times n (l ∷ local_names ls) ≤ 1 = owns_once l g next (local_names ls) m o n in
        let d : n ≢ l = λ y. (let u : count1 (eqb n l) ≡ 1 = count_yes (subst (λ (j : ℕ). eqb n j ≡ true) y (eqb_self n)) in omega arith) in
        let i = local_found ls n p in
        let v = found l s op n d i.0 i.1 in
        last (f n) q v.0 v.1 r
      where
        last : (x : ℕ) → x ≡ k → x < l → get_or ls x absent ≡ ref n → (k ≡ l) ⊎ (1 ≤ times k (local_names ls)) → ⊥
        last x e lx h (inl y) = omega arith
        last x e lx h (inr y) =
            let j = local_found ls k y in
            both (crosses_at ls 0 ls k n k (omega arith) (subst (λ (u : ℕ). get_or ls u absent ≡ ref n) e h) lt (some_local ls j.0 k j.1)) w
