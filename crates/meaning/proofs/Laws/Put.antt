-- One edge put in by its pair's set, and the strong borrow as a run of such calls that pass no limit before the last.
use Rattle.std.specs.Prelude.{◌≤◌, ℕ, suc, ◌+◌, ◌<◌, true, ◌&&◌, Bool, false, cond, not, List, [], ◌∷◌, map, ◌++◌, ◌≡◌, leb, eqb, length, drop}
use Rattle.std.proofs.Common.{arith, ◌∙◌}
use Rattle.std.proofs.lemmas.Bool.{false≢true}
use Rattle.std.proofs.Math.Path.{sym, refl, ap}
use Rattle.meaning.specs.Answers.{ok, refuse, Ans, and_then, leaves}
use Rattle.meaning.specs.Lists.{all, keep, any}
use Rattle.meaning.specs.References.{Edge, is_blur, EdgeSet, short, ordered, set_ok, blur, insert, has, put, empty_set}
use Rattle.meaning.specs.BorrowGraph.{Graph, set_at, well_formed, set_to, between, add_edge, limit, GEdge, pair_ok, add_all, shift, holds, moves, borrow_strong, eq_pair, union, one}
use Rattle.meaning.proofs.Laws.Add.{limit_pass, limit_stop, Kept, add_keeps}
use Rattle.meaning.proofs.Laws.Base.{leb_le, and_l, decide, le_leb, ok_inj, and_then_ok, and_r, and_i, all_imp, all_keep, all_and, none_kept, none_lost}
use Rattle.meaning.proofs.Laws.Borrow.{keep_inv}
use Rattle.meaning.proofs.Laws.Graph.{wf→inv, Inv, inv→wf}
use Rattle.meaning.proofs.Laws.Pair.{length_set_to}
use Rattle.meaning.proofs.Laws.Set.{set_ok_blurred, set_ok_unblurred, Inserted, before, just_now, present, added, length_put, inserted}
use Rattle.meaning.specs.Refinement.Pairs.{edges_at}
use Rattle.meaning.specs.Laws.Put.{Moved}

blur_one : (xs : List Edge) → is_blur xs ≡ true → length xs ≤ 10
unfolding is_blur
blur_one [] h = absurd (false≢true h)
blur_one (x ∷ []) h = omega arith
blur_one (x ∷ y ∷ ys) h = absurd (false≢true h)

-- a set of a well-formed graph has at most ten edges
pub set_ok_few : (s : EdgeSet) → set_ok s ≡ true → length s.edges ≤ 10
set_ok_few s k = decide s.blurred
    (λ b. blur_one s.edges (sym (set_ok_blurred s b) ∙ k))
    (λ b. leb_le (and_l (leb (length s.edges) 10) (all short s.edges && ordered s.edges) (sym (set_ok_unblurred s b) ∙ k)))

pub pair_few : (g : Graph) (p c : ℕ) → well_formed g ≡ true → length (edges_at p c g.edges) ≤ 10
pair_few g p c w = set_ok_few (set_at p c g.edges) ((wf→inv g w).sets p c)

-- an edge of at most 8 labels is never refused
pub insert_short : (s : EdgeSet) (e : Edge) → length e.path ≤ 8 → (t : EdgeSet) × (insert s e ≡ ok t)
unfolding insert
insert_short s e h = go s.blurred (leb 10 (length s.edges)) (has e s.edges) (leb (length e.path) 8) (le_leb h)
  where
    go : (a b c d : Bool) → d ≡ true → (t : EdgeSet) × (cond a (ok s) (cond b (ok (blur e.offset)) (cond d (cond c (ok s) (ok (record { edges = put e s.edges; blurred = false }))) (refuse 22))) ≡ ok t)
    go true b c d q = (s, refl)
    go false true c d q = (blur e.offset, refl)
    go false false true true q = (s, refl)
    go false false false true q = (record { edges = put e s.edges; blurred = false }, refl)
    go false false c false q = absurd (false≢true q)

-- and makes its set longer by one at most
grown : (s : EdgeSet) (e : Edge) (t : EdgeSet) → Inserted s e t → length t.edges ≤ suc (length s.edges)
grown s e t (before b q) = let z : length s.edges ≡ length t.edges = ap (λ (u : EdgeSet). length u.edges) q in omega arith
grown s e t (just_now b l q) = let z : length t.edges ≡ 1 = ap (λ (u : EdgeSet). length u.edges) q in omega arith
grown s e t (present b h q) = let z : length s.edges ≡ length t.edges = ap (λ (u : EdgeSet). length u.edges) q in omega arith
grown s e t (added b l k h q) = let z : length t.edges ≡ length (put e s.edges) = ap (λ (u : EdgeSet). length u.edges) q in omega (arith, length_put e s.edges)

module _ (g : Graph) (p c : ℕ) (e : Edge) (t : EdgeSet) (q : insert (set_at p c g.edges) e ≡ ok t) where
  abbrev made : Graph
  made = record { names = g.names; edges = set_to p c t g.edges }

  pub add_made : add_edge g (between p e c) ≡ ok made
  unfolding add_edge
  add_made = ap (λ (a : Ans EdgeSet). and_then a (λ s. ok (record { names = g.names; edges = set_to p c s g.edges }))) q

  pub add_fits : length (set_to p c t g.edges) ≤ 96 → and_then (add_edge g (between p e c)) limit ≡ ok made
  add_fits h = ap (λ (a : Ans Graph). and_then a limit) add_made ∙ limit_pass made h

  pub add_over : 96 < length (set_to p c t g.edges) → and_then (add_edge g (between p e c)) limit ≡ refuse 21
  add_over h = ap (λ (a : Ans Graph). and_then a limit) add_made ∙ limit_stop made h

  pub made_length : length (set_to p c t g.edges) ≤ suc (length g.edges)
  made_length =
      let a : length (set_to p c t g.edges) + length (edges_at p c g.edges) ≡ length g.edges + length t.edges = length_set_to p c t g.edges in
      let b : length t.edges ≤ suc (length (edges_at p c g.edges)) = grown (set_at p c g.edges) e t (inserted (set_at p c g.edges) e t q) in
      omega arith

-- ---- the strong borrow: its moved edges come back one by one, and only the last edge can pass the limit

-- the edge y of g, moved under c, is put into a graph with the same names that has room
module _ (g : Graph) (c : ℕ) (path : List ℕ) (y : GEdge) (ys : List GEdge) (r : Ans Graph) (w : well_formed g ≡ true) (l : length g.edges < 96) where
  abbrev new : Edge
  new = record { strong = y.edge.strong; path = drop (length path) y.edge.path; offset = y.edge.offset }

  module _ (h : Graph) (sh : length (drop (length path) y.edge.path) ≤ 8) (k : pair_ok g.names c y.child ≡ true) (a : h ≡ leaves g (and_then (add_edge g (shift c path y)) limit)) where
    t : EdgeSet
    t = (insert_short (set_at c y.child g.edges) new sh).0

    q : insert (set_at c y.child g.edges) new ≡ ok t
    unfolding t
    q = (insert_short (set_at c y.child g.edges) new sh).1

    fits : and_then (add_edge g (shift c path y)) limit ≡ ok (made g c y.child new t q)
    fits =
        let z : length (set_to c y.child t g.edges) ≤ suc (length g.edges) = made_length g c y.child new t q in
        add_fits g c y.child new t q (omega arith)

    is_made : h ≡ made g c y.child new t q
    is_made = a ∙ ap (leaves g) fits

    pub shifted_kept : Kept g h
    shifted_kept = add_keeps g (shift c path y) h w k (fits ∙ ap {B = Ans Graph} ok (sym is_made))

    pub shifted_rest : add_all (shift c path y ∷ ys) g ≡ r → add_all ys h ≡ r
    unfolding add_all
    shifted_rest e = sym (ap (λ (z : Ans Graph). and_then z (λ k. add_all ys k)) (add_made g c y.child new t q ∙ ap {B = Ans Graph} ok (sym is_made))) ∙ e

    pub shifted_length : length h.edges ≤ suc (length g.edges)
    shifted_length =
        let z : length (set_to c y.child t g.edges) ≤ suc (length g.edges) = made_length g c y.child new t q in
        let e : length h.edges ≡ length (set_to c y.child t g.edges) = ap (λ (k : Graph). length k.edges) is_made in
        omega arith

-- ---- the strong borrow, case by case

add_all_append : (xs ys : List GEdge) (g h : Graph) → add_all xs g ≡ ok h → add_all (xs ++ ys) g ≡ add_all ys h
unfolding add_all
add_all_append [] ys g h e = ap (λ (k : Graph). add_all ys k) (ok_inj e)
add_all_append (x ∷ xs) ys g h e =
    let z = and_then_ok (add_edge g x) (λ k. add_all xs k) h e in
    ap (λ (a : Ans Graph). and_then a (λ k. add_all (xs ++ ys) k)) z.1 ∙ add_all_append xs ys z.0 h z.2

module _ (g : Graph) (p : ℕ) (path : List ℕ) (c o : ℕ) where
  abbrev moved : List GEdge
  moved = keep (moves p path) g.edges

  abbrev stay : Graph
  stay = record { names = g.names; edges = keep (λ x. not (moves p path x)) g.edges }

  abbrev apart : Bool
  apart = all (λ x. not (eqb c x.child)) moved

  pub strong_9 : well_formed g && (pair_ok g.names p c && apart) ≡ false → borrow_strong g p path c o ≡ refuse 9
  unfolding borrow_strong
  strong_9 e = rw e

  module _ (t : well_formed g && (pair_ok g.names p c && apart) ≡ true) where
    w : well_formed g ≡ true
    w = and_l (well_formed g) (pair_ok g.names p c && apart) t

    v : Inv g
    v = wf→inv g w

    pc : pair_ok g.names p c ≡ true
    pc = and_l (pair_ok g.names p c) apart (and_r (well_formed g) (pair_ok g.names p c && apart) t)

    hc : holds g.names c ≡ true
    hc = and_l (holds g.names c) (not (eqb p c)) (and_r (holds g.names p) (holds g.names c && not (eqb p c)) pc)

    pub stay_formed : length (keep (λ x. not (moves p path x)) g.edges) ≤ 96 → well_formed stay ≡ true
    stay_formed h = inv→wf stay (keep_inv (λ x. not (moves p path x)) g v) (le_leb h)

    -- the child and each moved edge's end are two held names
    pub moved_pairs : all (λ y. pair_ok g.names c y.child) moved ≡ true
    moved_pairs =
        all_imp (λ x. pair_ok g.names x.parent x.child && not (eqb c x.child)) (λ x. pair_ok g.names c x.child)
        (λ x k. and_i hc (and_i (second (holds g.names x.parent) (holds g.names x.child) (not (eqb x.parent x.child)) (and_l (pair_ok g.names x.parent x.child) (not (eqb c x.child)) k))
        (and_r (pair_ok g.names x.parent x.child) (not (eqb c x.child)) k)))
        moved
        (all_and (λ x. pair_ok g.names x.parent x.child) (λ x. not (eqb c x.child)) moved
        (all_keep (λ x. pair_ok g.names x.parent x.child) (moves p path) g.edges v.pairs)
        (and_r (pair_ok g.names p c) apart (and_r (well_formed g) (pair_ok g.names p c && apart) t)))
      where
        second : (x y u : Bool) → x && (y && u) ≡ true → y ≡ true
        second x y u k = and_l y u (and_r x (y && u) k)

    -- the last edge decides
    pub strong_last : (h : Graph) → Moved stay c path moved h → borrow_strong g p path c o ≡ and_then (add_edge h (between p (record { strong = true; path = path; offset = o }) c)) limit
    unfolding borrow_strong add_all
    strong_last h m = rw t (ap (λ (z : Ans Graph). and_then z limit) (add_all_append (map (shift c path) moved) (between p (record { strong = true; path = path; offset = o }) c ∷ []) stay h m.done) ∙ flat (add_edge h (between p (record { strong = true; path = path; offset = o }) c)))
      where
        flat : (a : Ans Graph) → and_then (and_then a (λ k. ok k)) limit ≡ and_then a limit
        flat (ok k) = refl
        flat (refuse n) = refl

-- ---- a pair's first edge, and a strong borrow that moves nothing

empty_set_lem : (p c : ℕ) (es : List GEdge) → length (edges_at p c es) ≡ 0 → set_at p c es ≡ empty_set
unfolding set_at
empty_set_lem p c [] z = refl
empty_set_lem p c (x ∷ xs) z = go (eq_pair p c x.parent x.child) z (empty_set_lem p c xs)
  where
    go : (b : Bool) → length (cond b (union (one x) (set_at p c xs)) (set_at p c xs)).edges ≡ 0 → (length (edges_at p c xs) ≡ 0 → set_at p c xs ≡ empty_set) → cond b (union (one x) (set_at p c xs)) (set_at p c xs) ≡ empty_set
    go true q k = absurd (omega arith)
    go false q k = k q

pub insert_first : (p c : ℕ) (es : List GEdge) (e : Edge) → length (edges_at p c es) ≡ 0 → length e.path ≤ 8 → insert (set_at p c es) e ≡ ok (record { edges = e ∷ []; blurred = false })
unfolding insert has put
insert_first p c es e z h = ap (λ (s : EdgeSet). insert s e) (empty_set_lem p c es z) ∙ ap (λ (b : Bool). cond b made (refuse 22)) (le_leb h)
  where
    made : Ans EdgeSet
    made = ok (record { edges = e ∷ []; blurred = false })

pub strong_still : (g : Graph) (p : ℕ) (path : List ℕ) (c o : ℕ) → well_formed g ≡ true → pair_ok g.names p c ≡ true → any (moves p path) g.edges ≡ false
    → borrow_strong g p path c o ≡ and_then (add_edge g (between p (record { strong = true; path = path; offset = o }) c)) limit
unfolding add_all
strong_still g p path c o w k e =
    let n : keep (moves p path) g.edges ≡ [] = none_kept (moves p path) g.edges e in
    let s : keep (λ x. not (moves p path x)) g.edges ≡ g.edges = none_lost (moves p path) g.edges e in
    let t = and_i w (and_i k (ap (all (λ (x : GEdge). not (eqb c x.child))) n)) in
    strong_last g p path c o t g (record {
      done = λ i. add_all (map (shift c path) (n i)) (record { names = g.names; edges = s i });
      formed = w;
      names = refl;
    })
