-- The strong borrow's loop over the rows that it moves.
use Rattle.std.specs.Prelude.{ℕ, suc, ◌+◌, ◌≤◌, ◌<◌, ◌≡◌, Bool, true, false, not, cond, ◌&&◌, List, [], ◌∷◌, map, eqb, leb, length, drop, Ok, Err}
use Rattle.std.proofs.Common.{arith, ap, ◌∙◌, subst, length-drop}
use Rattle.std.proofs.Math.Path.{refl, sym}
use Rattle.std.proofs.lemmas.Bool.{false≢true}
use Rattle.meaning.specs.Answers.{refuse, and_then, leaves}
use Rattle.meaning.specs.Lists.{any, all, keep}
use Rattle.meaning.specs.BorrowGraph.{Name, GEdge, Graph, well_formed, pair_ok, between, set_at, set_to, add_edge, add_all, limit, shift, moves, borrow_strong}
use Rattle.meaning.proofs.Laws.Base.{and_l, and_r, and_i, le_leb, refuse≢ok}
use Rattle.meaning.proofs.Laws.Add.{keep_few}
use Rattle.meaning.specs.Laws.Put.{Moved}
use Rattle.meaning.proofs.Laws.Put.{insert_short, add_fits, made_length, shifted_kept, shifted_rest, shifted_length, strong_9, strong_still, stay_formed, moved_pairs, strong_last}
use Rattle.references.specs.Models.{edges_in}
use Rattle.references.specs.ModelLaws.{edges_count}
use Rattle.borrow_graph_edit.specs.Edits.{graph_with, Added, added_edits}
use Rattle.vm_status.specs.declared.Refusal.{Refusal}
use Rattle.borrow_graph_edit.specs.declared.blurs.Changed.{Changed}

-- of the moved edges ys are left; the others are put in
pub record Going (ns : List Name) (es : List GEdge) (c : ℕ) (path : List ℕ) (moved : List GEdge) (rows : List (List ℕ)) (n : ℕ) (ys : List GEdge) : Type 0 where
  pub full : length rows ≡ 96
  pub formed : well_formed (graph_with ns (edges_in rows n)) ≡ true
  pub room : n + length ys ≤ 96
  pub pairs : all (λ y. pair_ok ns c y.child) ys ≡ true
  pub rest : add_all (map (shift c path) ys) (graph_with ns (edges_in rows n)) ≡ add_all (map (shift c path) moved) (graph_with ns es)

module _ (ns : List Name) (es : List GEdge) (c : ℕ) (path : List ℕ) (moved : List GEdge) (rows : List (List ℕ)) (n : ℕ) where
  -- the next of the moved edges is put in, which is not refused
  module _ (y : GEdge) (ys : List GEdge) (g : Going ns es c path moved rows n (y ∷ ys)) (s : length y.edge.path ≤ 8) where
    abbrev now : Graph
    now = graph_with ns (edges_in rows n)

    count : length (edges_in rows n) ≡ n
    count = edges_count rows n (omega (arith, g.full, g.room))

    short : length (drop (length path) y.edge.path) ≤ 8
    short = omega (arith, s, length-drop (length path) y.edge.path)

    pub going_turn : (rows' : List (List ℕ)) (k : Changed) → k.edges ≤ 96 → Added (shift c path y) rows n rows' (Ok k) → Going ns es c path moved rows' k.edges ys
    going_turn rows' k l d =
        let h : length (edges_in rows n) < 96 = omega (arith, count, g.room) in
        let p : pair_ok ns c y.child ≡ true = and_l (pair_ok ns c y.child) (all (λ (x : GEdge). pair_ok ns c x.child) ys) g.pairs in
        let a = ap (leaves now) (added_edits (shift c path y) rows n rows' (Ok k) d ns).0 in
        let f = graph_with ns (edges_in rows' k.edges) in
        let t : length (edges_in rows' k.edges) ≤ suc (length (edges_in rows n)) =
        shifted_length now c path y (map (shift c path) ys) (add_all (map (shift c path) moved) (graph_with ns es)) g.formed h f short p a in
        let u : length (edges_in rows' k.edges) ≡ k.edges = edges_count rows' k.edges (omega (arith, d.0, l)) in
        record {
          full = d.0;
          formed = (shifted_kept now c path y (map (shift c path) ys) (add_all (map (shift c path) moved) (graph_with ns es)) g.formed h f short p a).formed;
          room = omega (arith, t, u, count, g.room);
          pairs = and_r (pair_ok ns c y.child) (all (λ (x : GEdge). pair_ok ns c x.child) ys) g.pairs;
          rest = shifted_rest now c path y (map (shift c path) ys) (add_all (map (shift c path) moved) (graph_with ns es)) g.formed h f short p a g.rest;
        }

    pub going_on : (rows' : List (List ℕ)) (e : Refusal) → Added (shift c path y) rows n rows' (Err e) → ⊥
    going_on rows' e d =
        let f = (shift c path y).edge in
        let i = insert_short (set_at c y.child now.edges) f short in
        let l : length (set_to c y.child i.0 now.edges) ≤ suc (length now.edges) = made_length now c y.child f i.0 i.1 in
        refuse≢ok ((added_edits (shift c path y) rows n rows' (Err e) d ns).0 ∙ add_fits now c y.child f i.0 i.1 (omega (arith, l, count, g.room)))

  pub going_end : Going ns es c path moved rows n [] → Moved (graph_with ns es) c path moved (graph_with ns (edges_in rows n))
  unfolding add_all
  going_end g = record { done = sym g.rest; formed = g.formed; names = refl }

-- ---- the borrows, by what is done to the edges

keep_both : {A : Type 0} (q : A → Bool) (xs : List A) → length (keep (λ x. not (q x)) xs) + length (keep q xs) ≡ length xs
keep_both q [] = refl
keep_both q (x ∷ xs) = go (q x) (keep_both q xs)
  where
    go : (b : Bool) → length (keep (λ y. not (q y)) xs) + length (keep q xs) ≡ length xs
        → length (cond (not b) (x ∷ keep (λ y. not (q y)) xs) (keep (λ y. not (q y)) xs)) + length (cond b (x ∷ keep q xs) (keep q xs)) ≡ suc (length xs)
    go true h = omega arith
    go false h = omega arith

-- the strong borrow of p by c, at offset o: what it moves, and what stays
module _ (ns : List Name) (es : List GEdge) (p : ℕ) (path : List ℕ) (c o : ℕ) where
  abbrev moving : List GEdge
  moving = keep (moves p path) es

  abbrev staying : List GEdge
  staying = keep (λ x. not (moves p path x)) es

  abbrev aside : Bool
  aside = all (λ x. not (eqb c x.child)) moving

  abbrev pub strong : GEdge
  strong = between p (record { strong = true; path = path; offset = o }) c

  no_third : (a b d : Bool) → a && b ≡ false → a && (b && d) ≡ false
  no_third true true d h = absurd (false≢true (sym h))
  no_third true false d h = refl
  no_third false b d h = refl

  last_no : (a b : Bool) → a && (b && false) ≡ false
  last_no true true = refl
  last_no true false = refl
  last_no false b = refl

  pub strong_names : well_formed (graph_with ns es) && pair_ok ns p c ≡ false → borrow_strong (graph_with ns es) p path c o ≡ refuse 9
  strong_names h = strong_9 (graph_with ns es) p path c o (no_third (well_formed (graph_with ns es)) (pair_ok ns p c) aside h)

  pub strong_ends : aside ≡ false → borrow_strong (graph_with ns es) p path c o ≡ refuse 9
  strong_ends h =
      strong_9 (graph_with ns es) p path c o
      (ap (λ (b : Bool). well_formed (graph_with ns es) && (pair_ok ns p c && b)) h ∙ last_no (well_formed (graph_with ns es)) (pair_ok ns p c))

  module _ (t : well_formed (graph_with ns es) && pair_ok ns p c ≡ true) where
    whole : well_formed (graph_with ns es) ≡ true
    whole = and_l (well_formed (graph_with ns es)) (pair_ok ns p c) t

    pub strong_idle : any (moves p path) es ≡ false → borrow_strong (graph_with ns es) p path c o ≡ and_then (add_edge (graph_with ns es) strong) limit
    strong_idle h = strong_still (graph_with ns es) p path c o whole (and_r (well_formed (graph_with ns es)) (pair_ok ns p c) t) h

    module _ (a : aside ≡ true) (few : length es ≤ 96) where
      test : well_formed (graph_with ns es) && (pair_ok ns p c && aside) ≡ true
      test = and_i whole (and_i (and_r (well_formed (graph_with ns es)) (pair_ok ns p c) t) a)

      pub staying_formed : (fs : List GEdge) → fs ≡ staying → well_formed (graph_with ns fs) ≡ true
      staying_formed fs e =
          let k : length staying ≤ 96 = omega (arith, few, keep_few (λ x. not (moves p path x)) es) in
          ap (λ (l : List GEdge). well_formed (graph_with ns l)) e ∙ stay_formed (graph_with ns es) p path c o test k

      pub moving_fits : (k : ℕ) (fs : List GEdge) → length fs ≡ k → fs ≡ staying → k + length moving ≤ 96
      moving_fits k fs n e =
          let z : length fs ≡ length staying = ap (λ (l : List GEdge). length l) e in
          omega (arith, few, n, z, keep_both (moves p path) es)

      pub moving_pairs : all (λ y. pair_ok ns c y.child) moving ≡ true
      moving_pairs = moved_pairs (graph_with ns es) p path c o test

      pub strong_moved : (fs hs : List GEdge) → fs ≡ staying → Moved (graph_with ns fs) c path moving (graph_with ns hs)
          → borrow_strong (graph_with ns es) p path c o ≡ and_then (add_edge (graph_with ns hs) strong) limit
      strong_moved fs hs e m =
          strong_last (graph_with ns es) p path c o test (graph_with ns hs)
          (subst (λ (l : List GEdge). Moved (graph_with ns l) c path moving (graph_with ns hs)) e m)

-- ---- the test of a call: the flag, the names, and that the number of rows is one

module _ (f h : Bool) (m : ℕ) where
  pub test_formed : (f && h) && leb m 96 ≡ true → f ≡ true
  test_formed t = and_l f h (and_l (f && h) (leb m 96) t)

  module _ (w q : Bool) (fw : f ≡ w) (hq : h ≡ q) where
    pub test_yes : (f && h) && leb m 96 ≡ true → w && q ≡ true
    test_yes t = (λ i. sym fw i && sym hq i) ∙ and_l (f && h) (leb m 96) t

    pub test_no : m ≤ 96 → (f && h) && leb m 96 ≡ false → w && q ≡ false
    test_no l t = (λ i. sym fw i && sym hq i) ∙ go (f && h) (leb m 96) (le_leb l) t
      where
        go : (a b : Bool) → b ≡ true → a && b ≡ false → a ≡ false
        go true true e k = absurd (false≢true (sym k))
        go true false e k = absurd (false≢true e)
        go false b e k = refl
