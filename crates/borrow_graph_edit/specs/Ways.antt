-- The ways through a name by the edges that touch it, and a release with at most one of them.
use Rattle.std.specs.Prelude.{ℕ, suc, ◌≤◌, ◌<◌, ◌≡◌, Bool, true, false, not, ◌&&◌, cond, get_or, leb, eqb, Option, None, Some, ⊤}
use native.Mathlib.Omega.{arith}
use Rattle.std.proofs.Math.Path.{refl, ap}
use Rattle.std.proofs.Common.{sym, ◌∙◌}
use Rattle.std.proofs.lemmas.Bool.{false≢true}
use mathlib.Core.List.{List, [], ◌∷◌, ◌++◌}
use Rattle.std.proofs.Math.ListN.{length}
use Rattle.meaning.specs.Answers.{Ans, ok, refuse, and_then, guard}
use Rattle.meaning.specs.Lists.{keep, each, all}
use Rattle.meaning.proofs.Laws.Base.{and_i, and_l, and_r, leb_le, all_imp, keep_passes}
use Rattle.meaning.specs.References.{Edge, Offered, fits, too_long, fitting}
use Rattle.meaning.specs.BorrowGraph.{Name, GEdge, Graph, holds, held, pair_ok, other, set_at, set_to, between, splice, spliced, without, well_formed, add_edge, add_all, limit, release}
use Rattle.meaning.proofs.Laws.Call.{holds_all}
use Rattle.meaning.proofs.Laws.Graph.{wf→inv, room}
use Rattle.meaning.specs.Refinement.Flat.{meet, spliced_row, row_if, spliced_rows}
use Rattle.meaning.proofs.Laws.Spliced.{spliced_rows_lem}
use Rattle.meaning.proofs.Laws.Add.{limit_pass, without_formed, keep_few}
use Rattle.meaning.proofs.Laws.Put.{insert_short, add_fits, made_length}
use Rattle.meaning.specs.Refinement.Passes.{apart}
use Rattle.references.specs.Models.{row_of}
use Rattle.meaning.specs.Limits.{max_edges}
use Rattle.borrow_graph_edit.specs.declared.release.Side.{Side}
use Rattle.borrow_graph_edit.specs.declared.release.Side.TheVariants.{Empty, Single, Several}

abbrev pub entering : ℕ → GEdge → Bool
entering n x = eqb n x.child

abbrev pub leaving : ℕ → GEdge → Bool
leaving n x = eqb n x.parent

-- an edge to a name and an edge from it; no way leads from a name to itself
abbrev pub through : GEdge → GEdge → List GEdge
through x y = cond (not (eqb x.parent y.child)) (between x.parent (splice x.edge y.edge) y.child ∷ []) []

abbrev pub ways : List GEdge → List GEdge → List GEdge
ways xs ys = each xs (λ x. each ys (through x))

-- one more edge on a side, in row i
abbrev pub one_more : Side → ℕ → Side
one_more Empty i = Single i
one_more (Single j) i = Several
one_more Several i = Several

-- a row that a side names is one of the array's
abbrev pub Within : Side → Type 0
Within Empty = ⊤
Within (Single i) = i < max_edges
Within Several = ⊤

-- xs are the edges on this side of a name
abbrev pub Found : List (List ℕ) → Side → List GEdge → Type 0
Found rows Empty xs = xs ≡ []
Found rows (Single i) xs = xs ≡ row_of (get_or rows i []) ∷ []
Found rows Several xs = ⊤

-- the edges that are put in: a row's, which then is not blurred
abbrev pub put_of : Option (List ℕ) → List GEdge
put_of None = []
put_of (Some r) = between (row_of r).parent (row_of r).edge (row_of r).child ∷ []

pub within_more : (s : Side) (i : ℕ) → i < max_edges → Within (one_more s i)
within_more Empty i h = h
within_more (Single j) i h = tt
within_more Several i h = tt

-- ---- the edges that pass a test, found one by one

-- among those before xs: none, a single one, or several
abbrev pub Seen : (GEdge → Bool) → List (List ℕ) → Side → List GEdge → List GEdge → Type 0
Seen q rows Empty xs all = keep q xs ≡ keep q all
Seen q rows (Single i) xs all = row_of (get_or rows i []) ∷ keep q xs ≡ keep q all
Seen q rows Several xs all = ⊤

module _ (q : GEdge → Bool) (rows : List (List ℕ)) (all : List GEdge) where
  module _ (x : GEdge) (xs ys : List GEdge) (e : ys ≡ x ∷ xs) where
    kept : (b : Bool) → q x ≡ b → cond b (x ∷ keep q xs) (keep q xs) ≡ keep q ys
    kept b h = ap (λ (c : Bool). cond c (x ∷ keep q xs) (keep q xs)) (sym h) ∙ ap (λ (l : List GEdge). keep q l) (sym e)

    pub seen_hit : (s : Side) (i : ℕ) → row_of (get_or rows i []) ≡ x → q x ≡ true → Seen q rows s ys all → Seen q rows (one_more s i) xs all
    seen_hit Empty i r h s = ap (λ (y : GEdge). y ∷ keep q xs) r ∙ kept true h ∙ s
    seen_hit (Single j) i r h s = tt
    seen_hit Several i r h s = tt

    pub seen_miss : (s : Side) → q x ≡ false → Seen q rows s ys all → Seen q rows s xs all
    seen_miss Empty h s = kept false h ∙ s
    seen_miss (Single i) h s = ap (λ (l : List GEdge). row_of (get_or rows i []) ∷ l) (kept false h) ∙ s
    seen_miss Several h s = tt

  pub seen_all : (s : Side) (xs : List GEdge) → xs ≡ [] → Seen q rows s xs all → Found rows s (keep q all)
  seen_all Empty xs e s = sym s ∙ ap (λ (l : List GEdge). keep q l) e
  seen_all (Single i) xs e s = sym s ∙ ap (λ (l : List GEdge). row_of (get_or rows i []) ∷ keep q l) e
  seen_all Several xs e s = tt

-- ---- at most one way, as the code makes it

fitted : (e d : Edge) → fitting e ≡ fits d → e ≡ d
unfolding fitting
fitted e d f = go (leb (length e.path) 8) f
  where
    edge_or : Offered → Edge
    edge_or (fits a) = a
    edge_or (too_long o) = d

    is_fit : Offered → Bool
    is_fit (fits a) = true
    is_fit (too_long o) = false

    go : (b : Bool) → cond b (fits e) (too_long e.offset) ≡ fits d → e ≡ d
    go true q = ap edge_or q
    go false q = absurd (false≢true (ap is_fit q))

pub no_ways : (xs : List GEdge) → ways xs [] ≡ []
no_ways [] = refl
no_ways (x ∷ xs) = no_ways xs

-- x and y are the two edges, z the row that is made of them, p and q its ends
module _ (x y z : GEdge) (e : fits z.edge ≡ fitting (splice x.edge y.edge)) (zp : z.parent ≡ x.parent) (zc : z.child ≡ y.child) where
  pub only_way : eqb x.parent y.child ≡ false → ways (x ∷ []) (y ∷ []) ≡ between z.parent z.edge z.child ∷ []
  only_way h =
      let d = fitted (splice x.edge y.edge) z.edge (sym e) in
      ap (λ (b : Bool). (cond (not b) (between x.parent (splice x.edge y.edge) y.child ∷ []) [] ++ []) ++ []) h
      ∙ (λ i. between (sym zp i) (d i) (sym zc i) ∷ [])

-- ---- what is spliced is the ways

each_kept : {A B : Type 0} (q : A → Bool) (f g : A → List B) → ((x : A) → f x ≡ cond (q x) (g x) []) → (xs : List A) → each xs f ≡ each (keep q xs) g
each_kept q f g h [] = refl
each_kept {A} {B} q f g h (x ∷ xs) = (λ i. h x i ++ each_kept q f g h xs i) ∙ go (q x)
  where
    go : (b : Bool) → cond b (g x) [] ++ each (keep q xs) g ≡ each (cond b (x ∷ keep q xs) (keep q xs)) g
    go true = refl
    go false = refl

meet_through : (n : ℕ) (x y : GEdge) → meet n x y ≡ cond (leaving n y) (through x y) []
meet_through n x y = go (eqb n y.parent)
  where
    go : (b : Bool) → cond (b && not (eqb x.parent y.child)) (between x.parent (splice x.edge y.edge) y.child ∷ []) [] ≡ cond b (through x y) []
    go true = refl
    go false = refl

spliced_ways : (g : Graph) (n : ℕ) → well_formed g ≡ true → spliced g n ≡ ways (keep (entering n) g.edges) (keep (leaving n) g.edges)
unfolding spliced_rows spliced_row
spliced_ways g n w =
    spliced_rows_lem g n (wf→inv g w) ∙ each_kept (entering n) (row_if n g.edges) (λ x. each (keep (leaving n) g.edges) (through x))
    (λ x. ap (λ (l : List GEdge). cond (entering n x) l []) (each_kept (leaving n) (meet n x) (through x) (meet_through n x) g.edges)) g.edges

-- ---- the release

-- where a way leads through n, leaving out its edges makes room
fewer : (n : ℕ) (f : GEdge → List GEdge) (z : GEdge) (xs : List GEdge) → each (keep (entering n) xs) f ≡ z ∷ [] → length (keep (apart n) xs) < length xs
fewer n f z [] e = let k : ◌≡◌ {A = ℕ} 0 1 = ap (λ (l : List GEdge). length l) e in absurd (omega arith)
fewer n f z (x ∷ xs) e = go (eqb n x.parent) (eqb n x.child) e (keep_few (apart n) xs) (fewer n f z xs)
  where
    go : (a b : Bool) → each (cond b (x ∷ keep (entering n) xs) (keep (entering n) xs)) f ≡ z ∷ [] → length (keep (apart n) xs) ≤ length xs
        → (each (keep (entering n) xs) f ≡ z ∷ [] → length (keep (apart n) xs) < length xs) → length (cond (not a && not b) (x ∷ keep (apart n) xs) (keep (apart n) xs)) < suc (length xs)
    go true b h k r = omega arith
    go false true h k r = omega arith
    go false false h k r = let l : length (keep (apart n) xs) < length xs = r h in omega arith

abbrev pub answered : Ans Graph → Bool
answered (ok k) = true
answered (refuse m) = false

pub without_edges : (ns : List Name) (es fs : List GEdge) (n : ℕ) → fs ≡ keep (apart n) es → record { names = keep (other n) ns; edges = fs } ≡ without (record { names = ns; edges = es }) n
unfolding without
without_edges ns es fs n e = λ i. record { names = keep (other n) ns; edges = e i }

-- where n is not held no edge touches it
pub formed_apart : (n : ℕ) (ns : List Name) (hs : List GEdge) → well_formed (record { names = keep (other n) ns; edges = hs }) ≡ true → all (apart n) hs ≡ true
formed_apart n ns hs w =
    let ms : List Name = keep (other n) ns in
    let away : (k : ℕ) → holds ms k ≡ true → not (eqb n k) ≡ true = λ k h. holds_all (λ j. not (eqb n j)) ms k h (keep_passes (other n) ns) in
    all_imp (λ x. pair_ok ms x.parent x.child) (apart n)
    (λ x e. and_i (away x.parent (and_l (holds ms x.parent) (holds ms x.child && not (eqb x.parent x.child)) e))
    (away x.child (and_l (holds ms x.child) (not (eqb x.parent x.child)) (and_r (holds ms x.parent) (holds ms x.child && not (eqb x.parent x.child)) e))))
    hs (wf→inv (record { names = ms; edges = hs }) w).pairs

-- by what the code has found: the graph without n, and what is put in
module _ (g : Graph) (n : ℕ) (t : well_formed g && held g n ≡ true) (h : Graph) (q : h ≡ without g n) where
  w : well_formed g ≡ true
  w = and_l (well_formed g) (held g n) t

  pub left_formed : well_formed h ≡ true
  left_formed = ap well_formed q ∙ without_formed g n w (leb_le (room g w))

  module _ (zs : List GEdge) (e : ways (keep (entering n) g.edges) (keep (leaving n) g.edges) ≡ zs) where
    new : spliced g n ≡ zs
    new = spliced_ways g n w ∙ e

    released : release g n ≡ and_then (add_all zs h) limit
    unfolding release
    released = ap (λ (c : Bool). guard c 9 (and_then (add_all (spliced g n) (without g n)) limit)) t ∙ (λ i. and_then (add_all (new i) (sym q i)) limit)

    pub release_none : zs ≡ [] → release g n ≡ ok h
    unfolding add_all
    release_none z = released ∙ ap (λ (l : List GEdge). and_then (add_all l h) limit) z ∙ limit_pass h (leb_le (room h left_formed))

    module _ (p : ℕ) (d : Edge) (c : ℕ) (z : zs ≡ between p d c ∷ []) (sh : length d.path ≤ 8) where
      abbrev added : Ans Graph
      added = and_then (add_edge h (between p d c)) limit

      one_way : release g n ≡ added
      unfolding add_all
      one_way = released ∙ ap (λ (l : List GEdge). and_then (add_all l h) limit) z ∙ flat (add_edge h (between p d c))
        where
          flat : (x : Ans Graph) → and_then (and_then x (λ k. ok k)) limit ≡ and_then x limit
          flat (ok k) = refl
          flat (refuse m) = refl

      roomy : length h.edges < 96
      unfolding without
      roomy =
          let f : length (keep (apart n) g.edges) < length g.edges = fewer n (λ x. each (keep (leaving n) g.edges) (through x)) (between p d c) g.edges (e ∙ z) in
          let l : length h.edges ≡ length (keep (apart n) g.edges) = ap (λ (k : Graph). length k.edges) q in
          let m : length g.edges ≤ 96 = leb_le (room g w) in
          omega arith

      -- it is not refused, so that nothing of what was left out is asked for again
      pub release_one : (o : Ans Graph) → o ≡ added → (o ≡ release g n) × (answered o ≡ true)
      release_one o u =
          let s = insert_short (set_at p c h.edges) d sh in
          let f : length (set_to p c s.0 h.edges) ≤ suc (length h.edges) = made_length h p c d s.0 s.1 in
          let y = add_fits h p c d s.0 s.1 (omega (arith, f, roomy)) in
          (u ∙ sym one_way, ap answered (u ∙ y))
