-- The sets that a call blurs are the inserts of that call that report it: one for each (request A1).
use Rattle.std.specs.Prelude.{ℕ, ◌+◌, ◌≤◌, suc, Bool, true, false, cond, not, ◌&&◌, ◌||◌, List, [], ◌∷◌, ◌++◌, map, ◌≡◌, refl, eqb, length}
use Rattle.std.proofs.Common.{arith, sym, ap, ◌∙◌, subst}
use Rattle.std.proofs.lemmas.Bool.{false≢true}
use Rattle.meaning.specs.Answers.{Ans, ok, refuse, and_then}
use Rattle.meaning.specs.Lists.{all, keep}
use Rattle.meaning.specs.References.{Edge, EdgeSet, insert, report, set_ok, is_blur}
use Rattle.meaning.specs.BorrowGraph.{GEdge, Graph, eq_pair, lt_pair, union, one, set_at, tagged, is_before, is_after, set_to, add_edge, add_all, limit, newly_blurred, blurs_to, held, pair_ok, well_formed, spliced, without, release, unmatched, same_names, join_graphs, between, borrow_weak, moves, shift, borrow_strong}
use Rattle.meaning.specs.AbstractState.{count1}
use Rattle.meaning.specs.Refinement.Passes.{apart}
use Rattle.meaning.proofs.Laws.Base.{and_i, and_l, and_r, all_imp, and_then_ok, both, decide, eqb_eq, guard_ok, ok_inj}
use Rattle.meaning.proofs.Laws.Blurs.{fresh, newly_self, newly_append, newly_tagged, newly_apart}
use Rattle.meaning.proofs.Laws.Borrow.{keep_inv}
use Rattle.meaning.proofs.Laws.Call.{Released, release_law, without_inv}
use Rattle.meaning.proofs.Laws.Graph.{eq_pair_l, eq_pair_r, not_before_self, Added, add_edge_added, pointwise, Inv, wf→inv, limit_ok}
use Rattle.meaning.specs.Laws.Report.{is_now}
use Rattle.meaning.proofs.Laws.Report.{insert_now}
use Rattle.meaning.proofs.Laws.Set.{Inserted, before, just_now, present, added, inserted, insert_set_ok, set_ok_blurred}

-- how many of the inserts of these edges, one after the other, report that a set is blurred just now
abbrev on_ok : Ans Graph → (Graph → ℕ) → ℕ
on_ok (ok h) f = f h
on_ok (refuse n) f = 0

abbrev pub reported_now : List GEdge → Graph → ℕ
reported_now [] g = 0
reported_now (x ∷ xs) g = count1 (is_now (report (set_at x.parent x.child g.edges) x.edge)) + on_ok (add_edge g x) (λ h. reported_now xs h)

-- ---- counted edge by edge

abbrev tally : (GEdge → Bool) → List GEdge → ℕ
tally f [] = 0
tally f (x ∷ xs) = count1 (f x) + tally f xs

newly_tally : (es fs : List GEdge) → newly_blurred es fs ≡ tally (fresh es) fs
unfolding newly_blurred
newly_tally es [] = refl
newly_tally es (x ∷ xs) = go (fresh es x) (newly_tally es xs)
  where
    go : (b : Bool) → length (keep (fresh es) xs) ≡ tally (fresh es) xs → length (cond b (x ∷ keep (fresh es) xs) (keep (fresh es) xs)) ≡ count1 b + tally (fresh es) xs
    go true h = omega (arith, h)
    go false h = omega (arith, h)

tally_keep : (f q : GEdge → Bool) (xs : List GEdge) → tally f (keep q xs) ≡ tally (λ x. q x && f x) xs
tally_keep f q [] = refl
tally_keep f q (x ∷ xs) = go (q x) (tally_keep f q xs)
  where
    go : (b : Bool) → tally f (keep q xs) ≡ tally (λ y. q y && f y) xs → tally f (cond b (x ∷ keep q xs) (keep q xs)) ≡ count1 (b && f x) + tally (λ y. q y && f y) xs
    go true h = ap (λ (n : ℕ). count1 (f x) + n) h
    go false h = omega (arith, h)

-- those of the pair (p, c)
abbrev here : ℕ → ℕ → List GEdge → GEdge → Bool
here p c es x = eq_pair p c x.parent x.child && fresh es x

split_one : (l e f : Bool) → (e ≡ true → l ≡ false) → count1 f ≡ count1 (l && f) + (count1 (e && f) + count1 ((not l && not e) && f))
split_one true true f h = absurd (both refl (h refl))
split_one true false true h = refl
split_one true false false h = refl
split_one false true true h = refl
split_one false true false h = refl
split_one false false true h = refl
split_one false false false h = refl

tally_split : (p c : ℕ) (f : GEdge → Bool) (xs : List GEdge)
    → tally f xs ≡ tally (λ x. is_before p c x && f x) xs + (tally (λ x. eq_pair p c x.parent x.child && f x) xs + tally (λ x. is_after p c x && f x) xs)
tally_split p c f [] = refl
tally_split p c f (x ∷ xs) =
    let a : ℕ = tally (λ y. is_before p c y && f y) xs in
    let b : ℕ = tally (λ y. eq_pair p c y.parent y.child && f y) xs in
    let d : ℕ = tally (λ y. is_after p c y && f y) xs in
    let r : tally f xs ≡ a + (b + d) = tally_split p c f xs in
    let k = split_one (lt_pair p c x.parent x.child) (eq_pair p c x.parent x.child) (f x) (λ e. not_before_self p c x.parent x.child e) in
    omega (arith, r, k)

newly_split : (p c : ℕ) (es fs : List GEdge) → newly_blurred es fs ≡ newly_blurred es (keep (is_before p c) fs) + (tally (here p c es) fs + newly_blurred es (keep (is_after p c) fs))
newly_split p c es fs =
    let a = newly_tally es fs in
    let b = newly_tally es (keep (is_before p c) fs) ∙ tally_keep (fresh es) (is_before p c) fs in
    let d = newly_tally es (keep (is_after p c) fs) ∙ tally_keep (fresh es) (is_after p c) fs in
    let s = tally_split p c (fresh es) fs in
    omega (arith, a, b, d, s)

-- ---- the edges of one pair

-- of a blurred set at least one, of another none
abbrev Bounds : ℕ → Bool → ℕ → Type 0
Bounds n b l = (count1 b ≤ n) × (n ≤ cond b l 0)

bounds_step : (e f m : Bool) (n : ℕ) (s : EdgeSet) (y : GEdge) → (e ≡ true → f ≡ y.blurred && m) → Bounds n (s.blurred && m) (length s.edges)
    → Bounds (count1 (e && f) + n) ((cond e (union (one y) s) s).blurred && m) (length (cond e (union (one y) s) s).edges)
bounds_step false f m n s y h r = (omega (arith, r.0), omega (arith, r.1))
bounds_step true f m n s y h r =
    subst (λ (z : Bool). Bounds (count1 z + n) ((y.blurred || s.blurred) && m) (suc (length s.edges))) (sym (h refl)) (go y.blurred s.blurred m (length s.edges) r)
  where
    go : (x b k : Bool) (l : ℕ) → Bounds n (b && k) l → Bounds (count1 (x && k) + n) ((x || b) && k) (suc l)
    go true true true l q = (omega (arith, q.0), omega (arith, q.1))
    go true true false l q = (omega (arith, q.0), omega (arith, q.1))
    go true false true l q = (omega (arith, q.0), omega (arith, q.1))
    go true false false l q = (omega (arith, q.0), omega (arith, q.1))
    go false true true l q = (omega (arith, q.0), omega (arith, q.1))
    go false true false l q = (omega (arith, q.0), omega (arith, q.1))
    go false false k l q = (omega (arith, q.0), omega (arith, q.1))

here_bounds : (p c : ℕ) (es fs : List GEdge) → Bounds (tally (here p c es) fs) ((set_at p c fs).blurred && not (set_at p c es).blurred) (length (set_at p c fs).edges)
unfolding set_at
here_bounds p c es [] = (omega arith, omega arith)
here_bounds p c es (x ∷ xs) =
    bounds_step (eq_pair p c x.parent x.child) (fresh es x) (not (set_at p c es).blurred) (tally (here p c es) xs) (set_at p c xs) x same (here_bounds p c es xs)
  where
    same : eq_pair p c x.parent x.child ≡ true → fresh es x ≡ x.blurred && not (set_at p c es).blurred
    same e =
        let l : p ≡ x.parent = eq_pair_l p c x.parent x.child e in
        let r : c ≡ x.child = eq_pair_r p c x.parent x.child e in
        λ i. x.blurred && not (set_at (sym l i) (sym r i) es).blurred

-- a blurred set has one edge
is_blur_one : (xs : List Edge) → is_blur xs ≡ true → length xs ≡ 1
unfolding is_blur
is_blur_one [] h = absurd (false≢true h)
is_blur_one (x ∷ []) h = refl
is_blur_one (x ∷ y ∷ ys) h = absurd (false≢true h)

-- so these count one
cond_one : (s : EdgeSet) (m : Bool) → set_ok s ≡ true → cond (s.blurred && m) (length s.edges) 0 ≡ count1 (s.blurred && m)
cond_one s m h = go s.blurred m refl
  where
    go : (b m : Bool) → s.blurred ≡ b → cond (b && m) (length s.edges) 0 ≡ count1 (b && m)
    go true true e = is_blur_one s.edges (sym (set_ok_blurred s e) ∙ h)
    go true false e = refl
    go false m e = refl

here_count : (p c : ℕ) (es fs : List GEdge) → set_ok (set_at p c fs) ≡ true → tally (here p c es) fs ≡ count1 ((set_at p c fs).blurred && not (set_at p c es).blurred)
here_count p c es fs h =
    let b : Bool = (set_at p c fs).blurred && not (set_at p c es).blurred in
    let n : ℕ = tally (here p c es) fs in
    let r : Bounds n b (length (set_at p c fs).edges) = here_bounds p c es fs in
    let l : count1 b ≤ n = r.0 in
    let u : n ≤ cond b (length (set_at p c fs).edges) 0 = r.1 in
    let o : cond b (length (set_at p c fs).edges) 0 ≡ count1 b = cond_one (set_at p c fs) (not (set_at p c es).blurred) h in
    omega (arith, l, u, o)

-- ---- one insert

stays : (s : EdgeSet) (e : Edge) (t : EdgeSet) → Inserted s e t → s.blurred ≡ true → t.blurred ≡ true
stays s e t (before b q) h = subst (λ (x : EdgeSet). x.blurred ≡ true) q h
stays s e t (present b p q) h = subst (λ (x : EdgeSet). x.blurred ≡ true) q h
stays s e t (just_now b l q) h = ap (λ (x : EdgeSet). x.blurred) q
stays s e t (added b l k p q) h = absurd (both h b)

count_more : (t s m : Bool) → (s ≡ true → t ≡ true) → (m ≡ true → s ≡ true) → count1 (t && not m) ≡ count1 (s && not m) + count1 (t && not s)
count_more true true true h k = refl
count_more true true false h k = refl
count_more true false true h k = absurd (false≢true (k refl))
count_more true false false h k = refl
count_more false true m h k = absurd (false≢true (h refl))
count_more false false m h k = refl

-- the sets that are blurred in es are so in fs
abbrev Within : List GEdge → List GEdge → Type 0
Within es fs = (p c : ℕ) → (set_at p c es).blurred ≡ true → (set_at p c fs).blurred ≡ true

newly_more : (p c : ℕ) (es fs : List GEdge) (e : Edge) (s : EdgeSet) → insert (set_at p c fs) e ≡ ok s → set_ok (set_at p c fs) ≡ true → Within es fs
    → newly_blurred es (set_to p c s fs) ≡ newly_blurred es fs + count1 (is_now (report (set_at p c fs) e))
unfolding set_to
newly_more p c es fs e s q h w =
    let old : EdgeSet = set_at p c fs in
    let m : Bool = (set_at p c es).blurred in
    let i : Inserted old e s = inserted old e s q in
    let j : ℕ = newly_blurred es (keep (is_before p c) fs) in
    let k : ℕ = newly_blurred es (keep (is_after p c) fs) in
    let v : ℕ = newly_blurred es (tagged p c s.blurred s.edges) in
    let a : newly_blurred es (keep (is_before p c) fs ++ (tagged p c s.blurred s.edges ++ keep (is_after p c) fs)) ≡ j + (v + k) =
    newly_append es (keep (is_before p c) fs) (tagged p c s.blurred s.edges ++ keep (is_after p c) fs)
    ∙ ap (λ (z : ℕ). j + z) (newly_append es (tagged p c s.blurred s.edges) (keep (is_after p c) fs)) in
    let b : v ≡ count1 (s.blurred && not m) = newly_tagged es p c s.blurred s.edges ∙ cond_one s (not m) (insert_set_ok old e s i h) in
    let d : newly_blurred es fs ≡ j + (tally (here p c es) fs + k) = newly_split p c es fs in
    let f : tally (here p c es) fs ≡ count1 (old.blurred && not m) = here_count p c es fs h in
    let g : count1 (s.blurred && not m) ≡ count1 (old.blurred && not m) + count1 (s.blurred && not old.blurred) = count_more s.blurred old.blurred m (stays old e s i) (w p c) in
    let n : count1 (s.blurred && not old.blurred) ≡ count1 (is_now (report old e)) = ap count1 (insert_now old e s q) in
    omega (arith, a, b, d, f, g, n)

add_edge_more : (es : List GEdge) (g : Graph) (x : GEdge) (h : Graph) → add_edge g x ≡ ok h → ((p c : ℕ) → set_ok (set_at p c g.edges) ≡ true) → Within es g.edges
    → newly_blurred es h.edges ≡ newly_blurred es g.edges + count1 (is_now (report (set_at x.parent x.child g.edges) x.edge))
unfolding add_edge
add_edge_more es g x h q k w =
    let z = and_then_ok (insert (set_at x.parent x.child g.edges) x.edge) (λ s. ok (record { names = g.names; edges = set_to x.parent x.child s g.edges })) h q in
    ap (λ (j : Graph). newly_blurred es j.edges) (sym (ok_inj z.2))
    ∙ newly_more x.parent x.child es g.edges x.edge z.0 z.1 (k x.parent x.child) w

-- ---- one insert after the other

reports_from : (es : List GEdge) (xs : List GEdge) (g h : Graph) → add_all xs g ≡ ok h → ((p c : ℕ) → set_ok (set_at p c g.edges) ≡ true) → Within es g.edges
    → newly_blurred es h.edges ≡ newly_blurred es g.edges + reported_now xs g
unfolding add_all
reports_from es [] g h e k w =
    let q : newly_blurred es h.edges ≡ newly_blurred es g.edges = ap (λ (j : Graph). newly_blurred es j.edges) (sym (ok_inj e)) in
    omega (arith, q)
reports_from es (x ∷ xs) g h e k w =
    let z = and_then_ok (add_edge g x) (λ j. add_all xs j) h e in
    let a : Added g x z.0 = add_edge_added g x z.0 z.1 in
    let n : ℕ = count1 (is_now (report (set_at x.parent x.child g.edges) x.edge)) in
    let r : newly_blurred es h.edges ≡ newly_blurred es z.0.edges + reported_now xs z.0 =
    reports_from es xs z.0 h z.2
    (λ p c. pointwise (λ s t. set_ok s ≡ true → set_ok t ≡ true) (λ s j. j) insert_set_ok g x z.0 a p c (k p c))
    (λ p c b. pointwise (λ s t. s.blurred ≡ true → t.blurred ≡ true) (λ s j. j) stays g x z.0 a p c (w p c b)) in
    let s : newly_blurred es z.0.edges ≡ newly_blurred es g.edges + n = add_edge_more es g x z.0 z.1 k w in
    let o : on_ok (add_edge g x) (λ j. reported_now xs j) ≡ reported_now xs z.0 = ap (λ (b : Ans Graph). on_ok b (λ j. reported_now xs j)) z.1 in
    omega (arith, r, s, o)

-- the sets that are blurred in the end and were not before: as many as the inserts that report it
pub add_all_reports : (xs : List GEdge) (g h : Graph) → Inv g → add_all xs g ≡ ok h → blurs_to g h ≡ reported_now xs g
add_all_reports xs g h v e =
    let r : newly_blurred g.edges h.edges ≡ newly_blurred g.edges g.edges + reported_now xs g = reports_from g.edges xs g h e v.sets (λ p c b. b) in
    let z : newly_blurred g.edges g.edges ≡ 0 = newly_self g.edges in
    omega (arith, r, z)

-- ---- the calls

-- no edge touches the name that was released
released_apart : (g : Graph) (n : ℕ) (h : Graph) → Released g n h → all (apart n) h.edges ≡ true
released_apart g n h r = all_imp (λ x. pair_ok h.names x.parent x.child) (apart n) ends h.edges (wf→inv h r.formed).pairs
  where
    away : (m : ℕ) → held h m ≡ true → not (eqb n m) ≡ true
    away m q = decide (eqb n m) (λ e. absurd (r.gone (subst (λ (k : ℕ). held h k ≡ true) (sym (eqb_eq e)) q))) (λ e. ap not e)

    ends : (x : GEdge) → pair_ok h.names x.parent x.child ≡ true → apart n x ≡ true
    ends x q =
        let d : Bool = not (eqb x.parent x.child) in
        and_i (away x.parent (and_l (held h x.parent) (held h x.child && d) q))
        (away x.child (and_l (held h x.child) d (and_r (held h x.parent) (held h x.child && d) q)))

-- a release: of the graph without the name, and so of the graph before it
pub release_reports : (g : Graph) (n : ℕ) (h : Graph) → release g n ≡ ok h
    → (blurs_to (without g n) h ≡ reported_now (spliced g n) (without g n)) × (blurs_to g h ≡ reported_now (spliced g n) (without g n))
unfolding release without
release_reports g n h e =
    let z = guard_ok (well_formed g && held g n) 9 (and_then (add_all (spliced g n) (without g n)) limit) h e in
    let y = and_then_ok (add_all (spliced g n) (without g n)) limit h z.1 in
    let a : add_all (spliced g n) (without g n) ≡ ok h = y.1 ∙ ap ok (limit_ok y.0 h y.2).0 in
    let r : blurs_to (without g n) h ≡ reported_now (spliced g n) (without g n) =
    add_all_reports (spliced g n) (without g n) h (without_inv g n (wf→inv g (and_l (well_formed g) (held g n) z.0))) a in
    (r, newly_apart n g.edges h.edges (released_apart g n h (release_law g n h e)) ∙ r)

pub join_reports : (g h k : Graph) → join_graphs g h ≡ ok k → blurs_to g k ≡ reported_now (unmatched g h) g
unfolding join_graphs
join_reports g h k e =
    let z = guard_ok ((well_formed g && well_formed h) && same_names g h) 9 (and_then (add_all (unmatched g h) g) limit) k e in
    let y = and_then_ok (add_all (unmatched g h) g) limit k z.1 in
    add_all_reports (unmatched g h) g k (wf→inv g (and_l (well_formed g) (well_formed h) (and_l (well_formed g && well_formed h) (same_names g h) z.0)))
    (y.1 ∙ ap ok (limit_ok y.0 k y.2).0)

pub borrow_weak_reports : (g : Graph) (p : ℕ) (path : List ℕ) (c o : ℕ) (h : Graph) → borrow_weak g p path c o ≡ ok h
    → blurs_to g h ≡ reported_now (between p (record { strong = false; path = path; offset = o }) c ∷ []) g
unfolding borrow_weak
borrow_weak_reports g p path c o h e =
    let xs : List GEdge = between p (record { strong = false; path = path; offset = o }) c ∷ [] in
    let z = guard_ok (well_formed g && pair_ok g.names p c) 9 (and_then (add_all xs g) limit) h e in
    let y = and_then_ok (add_all xs g) limit h z.1 in
    add_all_reports xs g h (wf→inv g (and_l (well_formed g) (pair_ok g.names p c) z.0)) (y.1 ∙ ap ok (limit_ok y.0 h y.2).0)

-- a strong borrow: of the graph without the edges that move
pub borrow_strong_reports : (g : Graph) (p : ℕ) (path : List ℕ) (c o : ℕ) (h : Graph) → borrow_strong g p path c o ≡ ok h
    → let rest : Graph = record { names = g.names; edges = keep (λ x. not (moves p path x)) g.edges } in
    blurs_to rest h ≡ reported_now (map (shift c path) (keep (moves p path) g.edges) ++ (between p (record { strong = true; path = path; offset = o }) c ∷ [])) rest
unfolding borrow_strong
borrow_strong_reports g p path c o h e =
    let rest : Graph = record { names = g.names; edges = keep (λ x. not (moves p path x)) g.edges } in
    let xs : List GEdge = map (shift c path) (keep (moves p path) g.edges)
    ++ (between p (record { strong = true; path = path; offset = o }) c ∷ []) in
    let t : Bool = pair_ok g.names p c && all (λ x. not (eqb c x.child)) (keep (moves p path) g.edges) in
    let z = guard_ok (well_formed g && t) 9 (and_then (add_all xs rest) limit) h e in
    let y = and_then_ok (add_all xs rest) limit h z.1 in
    add_all_reports xs rest h (keep_inv (λ x. not (moves p path x)) g (wf→inv g (and_l (well_formed g) t z.0))) (y.1 ∙ ap ok (limit_ok y.0 h y.2).0)
