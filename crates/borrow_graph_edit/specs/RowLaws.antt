-- Loops over rows: those that pass a test are kept, searched, or copied one by one.
use Rattle.std.specs.Prelude.{ℕ, suc, filter, ◌||◌, ◌+◌, ◌%◌, ◌≤◌, ◌<◌, min, ◌≡◌, refl, Bool, true, false, not, ◌&&◌, cond, List, [], ◌∷◌, ◌++◌, map, length, drop, get_or, set}
use Rattle.std.proofs.Common.{arith, sym, ap, ◌∙◌, append-nil}
use Rattle.meaning.specs.Answers.{Ans, ok, and_then}
use Rattle.meaning.specs.Lists.{any, all, keep}
use Rattle.meaning.specs.References.{Edge, EdgeSet, insert}
use Rattle.meaning.specs.BorrowGraph.{GEdge, splice}
use Rattle.meaning.specs.Laws.Graph.{insert_all}
use Rattle.meaning.proofs.Laws.Pair.{insert_all_on, insert_all_append, insert_all_end}
use Rattle.meaning.specs.Refinement.Passes.{splices}
use Rattle.meaning.specs.Area.{label_in}
use Rattle.meaning.proofs.Laws.Listing.{up_to_length}
use Rattle.references.specs.Models.{row_of, edges_in}
use Rattle.borrow_graph.specs.ArrayLaws.{keep_in, keep_out}
use Rattle.references.specs.ModelLaws.{edges_next, edges_over, edges_push, edges_past}

-- rows kept in place: of the first i of m those that pass are the first j
module _ (q : GEdge → Bool) (rows : List (List ℕ)) (m : ℕ) (n : m ≤ length rows) (j i : ℕ) (xs : List GEdge) (e : edges_in rows j ++ keep q (drop i (edges_in rows m)) ≡ xs) where
  module _ (k : i < m) (d : List ℕ) where
    abbrev here : List ℕ
    here = get_or rows i d

    abbrev rest : List GEdge
    rest = drop (i + 1) (edges_in rows m)

    pub keep_off : q (row_of here) ≡ false → edges_in rows j ++ keep q rest ≡ xs
    keep_off h = keep_out q (row_of here) rest (drop i (edges_in rows m)) (edges_in rows j) xs (edges_next rows m d i k n) e h

    pub keep_on : q (row_of here) ≡ true → j ≤ i → edges_in (set rows j here) (j + 1) ++ keep q (drop (i + 1) (edges_in (set rows j here) m)) ≡ xs
    keep_on h l =
        ap (λ (r : List GEdge). edges_in (set rows j here) (j + 1) ++ keep q r) (edges_past rows here j (i + 1) m (omega arith))
        ∙ edges_push rows here j (j + 1) (keep q rest) refl (omega arith)
        ∙ keep_in q (row_of here) rest (drop i (edges_in rows m)) (edges_in rows j) xs (edges_next rows m d i k n) e h

  pub keep_all : m ≤ i → edges_in rows j ≡ xs
  keep_all k = sym (ap (λ (l : List GEdge). edges_in rows j ++ keep q l) (edges_over rows m i k n) ∙ append-nil (edges_in rows j)) ∙ e

-- at first none is kept
pub keep_none : (rows : List (List ℕ)) (ys : List GEdge) → edges_in rows 0 ++ ys ≡ ys
unfolding edges_in
keep_none rows ys = refl

-- the next row of those that pass
module _ (q : GEdge → Bool) (rows : List (List ℕ)) (m : ℕ) (n : m ≤ length rows) (i : ℕ) (k : i < m) (d : List ℕ) where
  next : (b : Bool) → q (row_of (get_or rows i d)) ≡ b
      → keep q (drop i (edges_in rows m)) ≡ cond b (row_of (get_or rows i d) ∷ keep q (drop (i + 1) (edges_in rows m))) (keep q (drop (i + 1) (edges_in rows m)))
  next b h =
      ap (λ (l : List GEdge). keep q l) (edges_next rows m d i k n)
      ∙ ap (λ (c : Bool). cond c (row_of (get_or rows i d) ∷ keep q (drop (i + 1) (edges_in rows m))) (keep q (drop (i + 1) (edges_in rows m)))) h

  pub keep_yes : q (row_of (get_or rows i d)) ≡ true → keep q (drop i (edges_in rows m)) ≡ row_of (get_or rows i d) ∷ keep q (drop (i + 1) (edges_in rows m))
  keep_yes h = next true h

  pub keep_no : q (row_of (get_or rows i d)) ≡ false → keep q (drop i (edges_in rows m)) ≡ keep q (drop (i + 1) (edges_in rows m))
  keep_no h = next false h

-- a row's path is short, whatever its words
pub row_short : (r : List ℕ) → length (row_of r).edge.path ≤ 8
row_short r =
    let e : length (row_of r).edge.path ≡ min (get_or r 1 0 % 16) 8 = up_to_length (min (get_or r 1 0 % 16) 8) (λ i. label_in (get_or r (2 + i) 0)) in
    omega arith

-- ---- a search

-- of the edges that pass q none passes r
module _ (q r : GEdge → Bool) where
  pub none_of : (xs : List GEdge) → not (any (λ x. q x && r x) xs) ≡ all (λ y. not (r y)) (keep q xs)
  none_of [] = refl
  none_of (x ∷ xs) = go (q x) (r x) refl (none_of xs)
    where
      go : (s t : Bool) → r x ≡ t → not (any (λ y. q y && r y) xs) ≡ all (λ y. not (r y)) (keep q xs)
          → not ((s && t) || any (λ y. q y && r y) xs) ≡ all (λ y. not (r y)) (cond s (x ∷ keep q xs) (keep q xs))
      go true true e h = sym (ap (λ (c : Bool). not c && all (λ y. not (r y)) (keep q xs)) e)
      go true false e h = h ∙ sym (ap (λ (c : Bool). not c && all (λ y. not (r y)) (keep q xs)) e)
      go false t e h = h

-- std's filter counts the edges that are kept
pub filter_keeps : {A B : Type 0} (q : B → Bool) (f : A → B) (xs : List A) → length (filter (λ x. q (f x)) xs) ≡ length (keep q (map f xs))
filter_keeps q f [] = refl
filter_keeps {A} {B} q f (x ∷ xs) = go (q (f x)) (filter_keeps q f xs)
  where
    go : (b : Bool) → length (filter (λ y. q (f y)) xs) ≡ length (keep q (map f xs))
        → length (cond b (x ∷ filter (λ y. q (f y)) xs) (filter (λ y. q (f y)) xs)) ≡ length (cond b (f x ∷ keep q (map f xs)) (keep q (map f xs)))
    go true h = ap suc h
    go false h = h

-- ---- a set's rows

-- a turn of the loops that splice
module _ (e : Edge) (xs ys : List Edge) (x : Edge) (h : xs ≡ x ∷ ys) (s : EdgeSet) (r : Ans EdgeSet) where
  pub one_turn : insert_all (map (splice e) xs) s ≡ r → and_then (insert s (splice e x)) (λ t. insert_all (map (splice e) ys) t) ≡ r
  one_turn k = sym (ap (λ (l : List Edge). insert_all (map (splice e) l) s) h ∙ insert_all_on (splice e x) (map (splice e) ys) s (insert s (splice e x)) refl) ∙ k

  pub each_turn : (fs : List Edge) → insert_all (splices xs fs) s ≡ r → and_then (insert_all (map (splice x) fs) s) (λ t. insert_all (splices ys fs) t) ≡ r
  each_turn fs k = sym (ap (λ (l : List Edge). insert_all (splices l fs) s) h ∙ insert_all_append (map (splice x) fs) (splices ys fs) s) ∙ k

pub insert_end : (xs : List Edge) (s : EdgeSet) (r : Ans EdgeSet) → xs ≡ [] → insert_all xs s ≡ r → ok s ≡ r
insert_end xs s r e k = sym (insert_all_end s) ∙ sym (ap (λ (l : List Edge). insert_all l s) e) ∙ k
