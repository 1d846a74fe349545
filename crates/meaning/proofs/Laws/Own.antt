-- A graph and the list of the names in use: each name held is the root's or stands once in the list. The graph calls keep that, and are refused with 21 and 22 only.
use Rattle.std.specs.Prelude.{ℕ, ◌+◌, ◌≤◌, suc, ◌<◌, Bool, true, false, cond, ◌&&◌, ◌||◌, List, [], ◌∷◌, ◌++◌, map, ◌⊎◌, ◌≢◌, ◌≡◌, refl, leb, eqb, ltb, length}
use Rattle.std.proofs.Common.{zero-le, arith, inl, inr, subst, sym, ◌∙◌}
use Rattle.std.proofs.lemmas.Bool.{false≢true}
use Rattle.std.proofs.Math.Bool.{not}
use Rattle.std.proofs.Math.Path.{ap}
use Rattle.meaning.specs.Answers.{Ans, ok, refuse, ordinary, and_then, guard}
use Rattle.meaning.specs.Lists.{all, keep}
use Rattle.meaning.specs.References.{Edge, EdgeSet, blur, has, put, insert}
use Rattle.meaning.specs.BorrowGraph.{GEdge, Graph, set_at, set_to, add_edge, add_all, limit, Name, holds, ascending, held, on_pairs, well_formed, spliced, without, release, new_name, pair_ok, between, borrow_weak, moves, shift, borrow_strong, unmatched, same_names, join_graphs}
use Rattle.meaning.specs.AbstractState.{count1}
use Rattle.meaning.proofs.Laws.Base.{eqb_eq, decide, both, and_l, and_r, eqb_self, ltb_irrefl, and_i, eqb_ne, le_leb, eqb_no, all_imp, not_true, all_keep}
use Rattle.meaning.proofs.Laws.Borrow.{Named, new_name_law, Borrowed, borrow_weak_law, borrow_strong_law}
use Rattle.meaning.proofs.Laws.Call.{holds_all, ends_not, Released, release_law}
use Rattle.meaning.proofs.Laws.Graph.{wf→inv}

-- ---- answers that are refused, if at all, with an ordinary number

abbrev pub fair : {A : Type 0} → Ans A → Bool
fair (ok a) = true
fair (refuse n) = ordinary n

pub fair_then : {A B : Type 0} (x : Ans A) (f : A → Ans B) → fair x ≡ true → ((a : A) → x ≡ ok a → fair (f a) ≡ true) → fair (and_then x f) ≡ true
fair_then (ok a) f h k = k a refl
fair_then (refuse n) f h k = h

pub fair_guard : {A : Type 0} (b : Bool) (n : ℕ) (k : Ans A) → b ≡ true → fair k ≡ true → fair (guard b n k) ≡ true
fair_guard true n k e h = h
fair_guard false n k e h = absurd (false≢true e)

insert_fair : (s : EdgeSet) (e : Edge) → fair (insert s e) ≡ true
unfolding insert
insert_fair s e = go s.blurred (leb 10 (length s.edges)) (leb (length e.path) 8) (has e s.edges)
  where
    go : (a b c d : Bool) → fair (cond a (ok s) (cond b (ok (blur e.offset)) (cond c (cond d (ok s) (ok (record { edges = put e s.edges; blurred = false }))) (refuse 22)))) ≡ true
    go true b c d = refl
    go false true c d = refl
    go false false true true = refl
    go false false true false = refl
    go false false false d = refl

add_all_fair : (xs : List GEdge) (g : Graph) → fair (add_all xs g) ≡ true
unfolding add_all add_edge
add_all_fair [] g = refl
add_all_fair (x ∷ xs) g =
    fair_then (add_edge g x) (λ h. add_all xs h)
    (fair_then (insert (set_at x.parent x.child g.edges) x.edge) (λ s. ok (record { names = g.names; edges = set_to x.parent x.child s g.edges }))
    (insert_fair (set_at x.parent x.child g.edges) x.edge) (λ s e. refl))
    (λ h e. add_all_fair xs h)

limit_fair : (g : Graph) → fair (limit g) ≡ true
unfolding limit
limit_fair g = go (leb (length g.edges) 96)
  where
    go : (b : Bool) → fair (guard b 21 (ok g)) ≡ true
    go true = refl
    go false = refl

puts_fair : (xs : List GEdge) (g : Graph) → fair (and_then (add_all xs g) limit) ≡ true
puts_fair xs g = fair_then (add_all xs g) limit (add_all_fair xs g) (λ h e. limit_fair h)

-- ---- how often a number stands in a list

abbrev pub times : ℕ → List ℕ → ℕ
times n [] = 0
times n (x ∷ xs) = count1 (eqb n x) + times n xs

pub count_le : (b : Bool) → count1 b ≤ 1
count_le true = omega arith
count_le false = omega arith

pub count_yes : {b : Bool} → b ≡ true → count1 b ≡ 1
count_yes e = ap count1 e

pub in_front : (n : ℕ) (ks : List ℕ) → 1 ≤ times n (n ∷ ks)
in_front n ks = let c : count1 (eqb n n) ≡ 1 = count_yes (eqb_self n) in omega arith

pub count_no : {b : Bool} → b ≡ false → count1 b ≡ 0
count_no e = ap count1 e

pub count_pos : (b : Bool) → 1 ≤ count1 b → b ≡ true
count_pos true h = refl
count_pos false h = absurd (omega arith)

pub times_append : (n : ℕ) (xs ys : List ℕ) → times n (xs ++ ys) ≡ times n xs + times n ys
times_append n [] ys = omega arith
times_append n (x ∷ xs) ys = let h : times n (xs ++ ys) ≡ times n xs + times n ys = times_append n xs ys in omega arith

-- the list without the first n
drop1 : ℕ → List ℕ → List ℕ
drop1 n [] = []
drop1 n (x ∷ xs) = cond (eqb n x) xs (x ∷ drop1 n xs)

drop1_law : (n : ℕ) (xs : List ℕ) → 1 ≤ times n xs → (suc (length (drop1 n xs)) ≡ length xs) × ((k : ℕ) → times k (drop1 n xs) + count1 (eqb k n) ≡ times k xs)
unfolding drop1
drop1_law n [] h = absurd (omega arith)
drop1_law n (x ∷ xs) h = go (eqb n x) refl (drop1_law n xs)
  where
    go : (b : Bool) → eqb n x ≡ b → (1 ≤ times n xs → (suc (length (drop1 n xs)) ≡ length xs) × ((k : ℕ) → times k (drop1 n xs) + count1 (eqb k n) ≡ times k xs))
        → (suc (length (cond b xs (x ∷ drop1 n xs))) ≡ length (x ∷ xs)) × ((k : ℕ) → times k (cond b xs (x ∷ drop1 n xs)) + count1 (eqb k n) ≡ times k (x ∷ xs))
    go true e r = (refl, λ k. let q : count1 (eqb k n) ≡ count1 (eqb k x) = ap (λ (z : ℕ). count1 (eqb k z)) (eqb_eq {m = n} {n = x} e) in omega arith)
    go false e r =
        let z : count1 (eqb n x) ≡ 0 = count_no e in
        let y = r (omega arith) in
        let l : suc (length (drop1 n xs)) ≡ length xs = y.0 in
        (omega arith, λ k. let q : times k (drop1 n xs) + count1 (eqb k n) ≡ times k xs = y.1 k in omega arith)

-- names that ascend, each of them in the list: no more names than the list is long
fewer : (ns : List Name) → ascending ns ≡ true → (xs : List ℕ) → ((n : ℕ) → count1 (holds ns n) ≤ times n xs) → length ns ≤ length xs
unfolding ascending holds
fewer [] a xs h = zero-le
fewer (m ∷ ns) a xs h =
    let f : Name → Bool = λ j. ltb m.id j.id in
    let up : all f ns ≡ true = and_r (ltb m.id 65536) (all f ns) (and_l (ltb m.id 65536 && all f ns) (ascending ns) a) in
    let one : 1 ≤ times m.id xs = subst (λ (b : Bool). count1 (b || holds ns m.id) ≤ times m.id xs) (eqb_self m.id) (h m.id) in
    let z = drop1_law m.id xs one in
    let l : suc (length (drop1 m.id xs)) ≡ length xs = z.0 in
    let r : length ns ≤ length (drop1 m.id xs) =
    fewer ns (and_r (ltb m.id 65536 && all f ns) (ascending ns) a) (drop1 m.id xs) (λ n. rest up n (eqb n m.id) refl (h n) (z.1 n)) in
    omega arith
  where
    rest : all (λ j. ltb m.id j.id) ns ≡ true → (n : ℕ) (b : Bool) → eqb n m.id ≡ b → count1 (eqb n m.id || holds ns n) ≤ times n xs → times n (drop1 m.id xs) + count1 (eqb n m.id) ≡ times n xs
        → count1 (holds ns n) ≤ times n (drop1 m.id xs)
    rest up n true e p q =
        decide (holds ns n)
        (λ k. absurd (both (subst (λ (i : ℕ). ltb m.id i ≡ true) (eqb_eq {m = n} {n = m.id} e) (holds_all (λ i. ltb m.id i) ns n k up)) (ltb_irrefl m.id)))
        (λ k. let c : count1 (holds ns n) ≡ 0 = count_no k in omega arith)
    rest up n false e p q =
        let c : count1 (eqb n m.id) ≡ 0 = count_no e in
        let d : count1 (holds ns n) ≤ times n xs = subst (λ (b : Bool). count1 (b || holds ns n) ≤ times n xs) e p in
        omega arith

-- ---- the names in use

-- l: the root; xs: the other names in use; next: the next fresh name; m: how many more may be made
pub record Owns (l : ℕ) (g : Graph) (next : ℕ) (xs : List ℕ) (m : ℕ) : Type 0 where
  pub formed : well_formed g ≡ true
  pub no_root : on_pairs (ends_not l) g.edges ≡ true
  pub counts : (n : ℕ) → times n (l ∷ xs) ≡ count1 (held g n)
  pub below : (n : ℕ) → held g n ≡ true → n < next
  pub left : next + m ≤ 65536

module _ (l : ℕ) (g : Graph) (next : ℕ) (xs : List ℕ) (m : ℕ) (o : Owns l g next xs m) where
  pub owns_held : (n : ℕ) → 1 ≤ times n (l ∷ xs) → held g n ≡ true
  owns_held n h = let c : times n (l ∷ xs) ≡ count1 (held g n) = o.counts n in count_pos (held g n) (omega arith)

  pub owns_root : held g l ≡ true
  owns_root = owns_held l (in_front l xs)

  pub owns_once : (n : ℕ) → times n (l ∷ xs) ≤ 1
  owns_once n =
      let c : times n (l ∷ xs) ≡ count1 (held g n) = o.counts n in
      let d : count1 (held g n) ≤ 1 = count_le (held g n) in
      omega arith

  pub owns_room : length g.names ≤ suc (length xs)
  owns_room = fewer g.names (wf→inv g o.formed).asc (l ∷ xs) (λ n. let c : times n (l ∷ xs) ≡ count1 (held g n) = o.counts n in omega arith)

  -- only the number of times counts
  pub owns_as : (ys : List ℕ) → ((n : ℕ) → times n ys ≡ times n xs) → Owns l g next ys m
  owns_as ys h = record {
    formed = o.formed;
    no_root = o.no_root;
    counts = λ n. let a : times n ys ≡ times n xs = h n in let b : times n (l ∷ xs) ≡ count1 (held g n) = o.counts n in omega arith;
    below = o.below;
    left = o.left;
  }

  pub owns_less : (k : ℕ) → k ≤ m → Owns l g next xs k
  owns_less k h = record { formed = o.formed; no_root = o.no_root; counts = o.counts; below = o.below; left = let q : next + m ≤ 65536 = o.left in omega arith }

-- ---- release

pub release_fair : (l : ℕ) (g : Graph) (next n : ℕ) (xs : List ℕ) (m : ℕ) → Owns l g next (n ∷ xs) m → fair (release g n) ≡ true
unfolding release
release_fair l g next n xs m o =
    fair_guard (well_formed g && held g n) 9 (and_then (add_all (spliced g n) (without g n)) limit)
    (and_i o.formed (let c : count1 (eqb n n) ≡ 1 = count_yes (eqb_self n) in owns_held l g next (n ∷ xs) m o n (omega arith))) (puts_fair (spliced g n) (without g n))

pub release_own : (l : ℕ) (g : Graph) (next n : ℕ) (xs : List ℕ) (m : ℕ) (h : Graph) → Owns l g next (n ∷ xs) m → release g n ≡ ok h → Owns l h next xs m
release_own l g next n xs m h o e =
    let r : Released g n h = release_law g n h e in
    record {
      formed = r.formed;
      no_root = r.no_end l o.no_root;
      counts = λ k. go r k (eqb k n) refl (o.counts k);
      below = λ k q. o.below k (r.fewer k q);
      left = o.left;
    }
  where
    stays : Released g n h → (k : ℕ) → eqb k n ≡ false → held h k ≡ held g k
    stays r k e₀ = decide (held g k) (λ a. there (r.rest k a) ∙ sym a) (λ a. decide (held h k) (λ b. absurd (both (r.fewer k b) a)) (λ b. b ∙ sym a))
      where
        there : (held h k ≡ true) ⊎ (k ≡ n) → held h k ≡ true
        there (inl q) = q
        there (inr q) = absurd (eqb_ne {m = k} {n = n} e₀ q)

    go : Released g n h → (k : ℕ) (b : Bool) → eqb k n ≡ b → times k (l ∷ n ∷ xs) ≡ count1 (held g k) → times k (l ∷ xs) ≡ count1 (held h k)
    go r k true e₀ c =
        let q : k ≡ n = eqb_eq {m = k} {n = n} e₀ in
        let w : held h k ≡ false = decide (held h k) (λ z. absurd (r.gone (subst (λ (i : ℕ). held h i ≡ true) q z))) (λ z. z) in
        let a : count1 (held h k) ≡ 0 = count_no w in
        let b : count1 (eqb k n) ≡ 1 = count_yes e₀ in
        let d : count1 (held g k) ≤ 1 = count_le (held g k) in
        omega arith
    go r k false e₀ c =
        let a : count1 (held h k) ≡ count1 (held g k) = ap count1 (stays r k e₀) in
        let b : count1 (eqb k n) ≡ 0 = count_no e₀ in
        omega arith

-- ---- a new name

pub not_yet : (l : ℕ) (g : Graph) (next : ℕ) (xs : List ℕ) (m : ℕ) → Owns l g next xs m → held g next ≡ false
not_yet l g next xs m o = decide (held g next) (λ e. let q : next < next = o.below next e in absurd (omega arith)) (λ e. e)

pub new_name_fair : (l : ℕ) (g : Graph) (next : ℕ) (xs : List ℕ) (m : ℕ) (b : Bool) → Owns l g next xs m → length xs ≤ 46 → fair (new_name g next b) ≡ true
unfolding new_name
new_name_fair l g next xs m b o few =
    let a : length g.names ≤ suc (length xs) = owns_room l g next xs m o in
    let c : suc (length g.names) ≤ 48 = omega arith in
    rw (o.formed, not_yet l g next xs m o, le_leb c) refl

pub new_name_own : (l : ℕ) (g : Graph) (next : ℕ) (xs : List ℕ) (m : ℕ) (b : Bool) (h : Graph) → Owns l g next xs (suc m) → new_name g next b ≡ ok h
    → (Owns l h (suc next) (next ∷ xs) m) × (on_pairs (ends_not next) h.edges ≡ true)
new_name_own l g next xs m b h o e =
    let lim : next + suc m ≤ 65536 = o.left in
    let r : Named g next h = new_name_law g next b h (omega arith) e in
    let nw : held g next ≡ false = not_yet l g next xs (suc m) o in (
      record {
        formed = r.formed;
        no_root = subst (λ (es : List GEdge). on_pairs (ends_not l) es ≡ true) (sym r.edges) o.no_root;
        counts = λ k. go nw k (eqb k next) refl (o.counts k) ∙ ap count1 (sym (r.holding k));
        below = λ k q. up k (eqb k next) refl (sym (r.holding k) ∙ q);
        left = omega arith;
      },
      subst (λ (es : List GEdge). on_pairs (ends_not next) es ≡ true) (sym r.edges)
          (all_imp (λ x. pair_ok g.names x.parent x.child) (λ x. ends_not next x.parent x.child) (λ x q. ap not (ne nw x.parent x.child q)) g.edges (wf→inv g o.formed).pairs),
    )
  where
    go : held g next ≡ false → (k : ℕ) (d : Bool) → eqb k next ≡ d → times k (l ∷ xs) ≡ count1 (held g k) → times k (l ∷ next ∷ xs) ≡ count1 (eqb k next || held g k)
    go nw k true e₀ c =
        let q : held g k ≡ false = subst (λ (i : ℕ). held g i ≡ false) (sym (eqb_eq {m = k} {n = next} e₀)) nw in
        let a : count1 (held g k) ≡ 0 = count_no q in
        let z : count1 (eqb k next) ≡ 1 = count_yes e₀ in
        let y : count1 (eqb k next || held g k) ≡ 1 = ap (λ (w : Bool). count1 (w || held g k)) e₀ in
        omega arith
    go nw k false e₀ c =
        let z : count1 (eqb k next) ≡ 0 = count_no e₀ in
        let y : count1 (eqb k next || held g k) ≡ count1 (held g k) = ap (λ (w : Bool). count1 (w || held g k)) e₀ in
        omega arith

    up : (k : ℕ) (d : Bool) → eqb k next ≡ d → eqb k next || held g k ≡ true → k < suc next
    up k true e₀ q = let z : k ≡ next = eqb_eq {m = k} {n = next} e₀ in omega arith
    up k false e₀ q = let z : k < next = o.below k (subst (λ (w : Bool). w || held g k ≡ true) e₀ q) in omega arith

    ne : held g next ≡ false → (p c : ℕ) → pair_ok g.names p c ≡ true → eqb c next ≡ false
    ne nw p c q = eqb_no {m = c} {n = next} (λ z. both (subst (λ (i : ℕ). held g i ≡ true) z (and_l (holds g.names c) (not (eqb p c)) (and_r (holds g.names p) (holds g.names c && not (eqb p c)) q))) nw)

-- ---- borrows by a name c of the list

module _ (l : ℕ) (g : Graph) (next c : ℕ) (xs : List ℕ) (m : ℕ) (o : Owns l g next (c ∷ xs) m) where
  -- c stands nowhere else
  alone : times c (l ∷ xs) ≡ 0
  alone =
      let a : times c (l ∷ c ∷ xs) ≤ 1 = owns_once l g next (c ∷ xs) m o c in
      let b : count1 (eqb c c) ≡ 1 = count_yes (eqb_self c) in
      omega arith

  other : (p : ℕ) → 1 ≤ times p (l ∷ xs) → p ≢ c
  other p h e = let a : times c (l ∷ xs) ≡ 0 = alone in let b : 1 ≤ times c (l ∷ xs) = subst (λ (i : ℕ). 1 ≤ times i (l ∷ xs)) e h in omega arith

  not_root : eqb c l ≡ false
  not_root = let a : times c (l ∷ xs) ≡ 0 = alone in decide (eqb c l) (λ e. let b : count1 (eqb c l) ≡ 1 = count_yes e in absurd (omega arith)) (λ e. e)

  ends_ok : (p : ℕ) → 1 ≤ times p (l ∷ xs) → pair_ok g.names p c ≡ true
  ends_ok p h =
      let b : count1 (eqb c c) ≡ 1 = count_yes (eqb_self c) in
      and_i (owns_held l g next (c ∷ xs) m o p (omega arith)) (and_i (owns_held l g next (c ∷ xs) m o c (omega arith)) (ap not (eqb_no {m = p} {n = c} (other p h))))

  pub borrow_weak_fair : (p : ℕ) (path : List ℕ) (a : ℕ) → 1 ≤ times p (l ∷ xs) → fair (borrow_weak g p path c a) ≡ true
  unfolding borrow_weak
  borrow_weak_fair p path a h =
      fair_guard (well_formed g && pair_ok g.names p c) 9
      (and_then (add_all (between p (record { strong = false; path = path; offset = a }) c ∷ []) g) limit)
      (and_i o.formed (ends_ok p h)) (puts_fair (between p (record { strong = false; path = path; offset = a }) c ∷ []) g)

  pub borrow_strong_fair : (p : ℕ) (path : List ℕ) (a : ℕ) → 1 ≤ times p (l ∷ xs) → on_pairs (ends_not c) g.edges ≡ true → fair (borrow_strong g p path c a) ≡ true
  unfolding borrow_strong
  borrow_strong_fair p path a h f =
      fair_guard (well_formed g && (pair_ok g.names p c && all (λ x. not (eqb c x.child)) (keep (moves p path) g.edges))) 9
      (and_then
      (add_all (map (shift c path) (keep (moves p path) g.edges) ++ (between p (record { strong = true; path = path; offset = a }) c ∷ []))
      (record { names = g.names; edges = keep (λ x. not (moves p path x)) g.edges }))
      limit)
      (and_i o.formed (and_i (ends_ok p h) (all_keep (λ x. not (eqb c x.child)) (moves p path) g.edges
      (all_imp (λ x. ends_not c x.parent x.child) (λ x. not (eqb c x.child)) (λ x q. ap not (eqb_no {m = c} {n = x.child} (λ z. eqb_ne {m = x.child} {n = c} (not_true q) (sym z)))) g.edges f))))
      (puts_fair (map (shift c path) (keep (moves p path) g.edges) ++ (between p (record { strong = true; path = path; offset = a }) c ∷ []))
      (record { names = g.names; edges = keep (λ x. not (moves p path x)) g.edges }))

  borrowed_own : (h : Graph) → Borrowed g c h → Owns l h next (c ∷ xs) m
  borrowed_own h b = record {
    formed = b.formed;
    no_root = b.no_end l not_root o.no_root;
    counts = λ n. o.counts n ∙ ap (λ (ns : List Name). count1 (holds ns n)) (sym b.names);
    below = λ n q. o.below n (subst (λ (ns : List Name). holds ns n ≡ true) b.names q);
    left = o.left;
  }

  pub borrow_weak_own : (p : ℕ) (path : List ℕ) (a : ℕ) (h : Graph) → borrow_weak g p path c a ≡ ok h → Owns l h next (c ∷ xs) m
  borrow_weak_own p path a h e = borrowed_own h (borrow_weak_law g p path c a h e)

  pub borrow_strong_own : (p : ℕ) (path : List ℕ) (a : ℕ) (h : Graph) → borrow_strong g p path c a ≡ ok h → Owns l h next (c ∷ xs) m
  borrow_strong_own p path a h e = borrowed_own h (borrow_strong_law g p path c a h e)

-- ---- the join of two graphs with the same names in use

pub join_graphs_fair : (l : ℕ) (g h : Graph) (next : ℕ) (xs : List ℕ) (m : ℕ) → Owns l g next xs m → Owns l h next xs m → fair (join_graphs g h) ≡ true
unfolding join_graphs same_names holds
join_graphs_fair l g h next xs m o p =
    fair_guard ((well_formed g && well_formed h) && same_names g h) 9 (and_then (add_all (unmatched g h) g) limit)
    (and_i (and_i o.formed p.formed) (and_i (each_in g.names h.names (λ n q. over o p n q)) (each_in h.names g.names (λ n q. over p o n q))))
    (puts_fair (unmatched g h) g)
  where
    over : {a b : Graph} → Owns l a next xs m → Owns l b next xs m → (n : ℕ) → held a n ≡ true → held b n ≡ true
    over {a} {b} u v n q =
        let c : times n (l ∷ xs) ≡ count1 (held a n) = u.counts n in
        let d : count1 (held a n) ≡ 1 = count_yes q in
        owns_held l b next xs m v n (omega arith)

    each_in : (ns ms : List Name) → ((n : ℕ) → holds ns n ≡ true → holds ms n ≡ true) → all (λ a. holds ms a.id) ns ≡ true
    each_in [] ms k = refl
    each_in (a ∷ ns) ms k = and_i (k a.id (ap (λ (b : Bool). b || holds ns a.id) (eqb_self a.id))) (each_in ns ms (λ n q. k n (or_r' (eqb n a.id) q)))
      where
        or_r' : (x : Bool) {y : Bool} → y ≡ true → x || y ≡ true
        or_r' true e = refl
        or_r' false e = e
