-- The models read and written one element at a time.
use Rattle.std.specs.Prelude.{◌≡◌, Bool, true, false, cond, List, [], ◌∷◌, ◌++◌, map, ℕ, ◌+◌, ◌≤◌, ◌<◌, min, eqb, length, take, drop, get_or, set}
use Rattle.std.proofs.Math.Path.{refl}
use Rattle.std.proofs.Common.{sym, ap, ◌∙◌, not-suc-le-zero, arith, eq-eqb, ne_eqb, drop_of_length-le, length-take, add-one, drop-cons}
use Rattle.std.proofs.lemmas.List.{length-map}
use Rattle.meaning.specs.Answers.{Ans, ok, refuse, and_then, leaves}
use Rattle.meaning.specs.References.{Edge, EdgeSet, weakest, blur}
use Rattle.meaning.specs.BorrowGraph.{Name, GEdge}
use Rattle.meaning.specs.Area.{name_in}
use Rattle.meaning.specs.Refinement.Pairs.{or21}
use Rattle.meaning.proofs.Laws.Array.{front_map_step, front_take, push_map, drop_set, map_step}
use Rattle.references.specs.Models.{row_of, edges_in, names_in, edge_in, set_edges, set_of, told}
use Rattle.references.specs.declared.set.BorrowEdgeSet.{BorrowEdgeSet}

-- ---- names: the first n words of an array

module _ (ws : List ℕ) (n : ℕ) where
  pub names_step : (i : ℕ) → i < length (names_in ws n) → drop i (names_in ws n) ≡ name_in (get_or ws i 0) ∷ drop (i + 1) (names_in ws n)
  unfolding names_in
  names_step i h = front_map_step name_in n ws 0 i h

  pub names_end : (i : ℕ) → length (names_in ws n) ≤ i → drop i (names_in ws n) ≡ []
  names_end i h = drop_of_length-le (names_in ws n) h

  pub names_front : (k : ℕ) → k ≤ length (names_in ws n) → names_in ws k ≡ take k (names_in ws n)
  unfolding names_in
  names_front k h = front_take name_in n k ws h

  pub names_few : length ws ≡ 48 → length (names_in ws n) ≤ 48
  unfolding names_in
  names_few e = simp (length-map, length-take) (omega arith)

  pub names_count : n ≤ length ws → length (names_in ws n) ≡ n
  unfolding names_in
  names_count h = simp (length-map, length-take) (omega arith)

  pub names_size : length (names_in ws n) ≡ min n (length ws)
  unfolding names_in
  names_size = simp (length-map, length-take)

  pub names_made : names_in ws n ≡ map name_in (take n ws)
  unfolding names_in
  names_made = refl

  -- a step by the count
  pub names_next : (i : ℕ) → i < n → n ≤ length ws → drop i (names_in ws n) ≡ name_in (get_or ws i 0) ∷ drop (i + 1) (names_in ws n)
  names_next i h k = names_step i (omega (arith, names_count k))

  pub names_over : (i : ℕ) → n ≤ i → n ≤ length ws → drop i (names_in ws n) ≡ []
  names_over i h k = names_end i (omega (arith, names_count k))

-- a word is written behind the first j names; at a free place; before the k-th name
module _ (ws : List ℕ) (w : ℕ) where
  pub names_push : (j j' : ℕ) (ys : List Name) → j' ≡ j + 1 → j < length ws → names_in (set ws j w) j' ++ ys ≡ names_in ws j ++ name_in w ∷ ys
  unfolding names_in
  names_push j j' ys e h = push_map name_in ws j j' w ys e h

  pub names_past : (j k n : ℕ) → j < k → drop k (names_in (set ws j w) n) ≡ drop k (names_in ws n)
  unfolding names_in
  names_past j k n h = drop_set name_in ws j k n w h

-- ---- edges: the first m rows of an array

module _ (rows : List (List ℕ)) (m : ℕ) where
  pub edges_step : (d : List ℕ) (i : ℕ) → i < length (edges_in rows m) → drop i (edges_in rows m) ≡ row_of (get_or rows i d) ∷ drop (i + 1) (edges_in rows m)
  unfolding edges_in
  edges_step d i h = front_map_step row_of m rows d i h

  pub edges_end : (i : ℕ) → length (edges_in rows m) ≤ i → drop i (edges_in rows m) ≡ []
  edges_end i h = drop_of_length-le (edges_in rows m) h

  pub edges_front : (k : ℕ) → k ≤ length (edges_in rows m) → edges_in rows k ≡ take k (edges_in rows m)
  unfolding edges_in
  edges_front k h = front_take row_of m k rows h

  pub edges_few : length rows ≡ 96 → length (edges_in rows m) ≤ 96
  unfolding edges_in
  edges_few e = simp (length-map, length-take) (omega arith)

  pub edges_count : m ≤ length rows → length (edges_in rows m) ≡ m
  unfolding edges_in
  edges_count h = simp (length-map, length-take) (omega arith)

  pub edges_size : length (edges_in rows m) ≡ min m (length rows)
  unfolding edges_in
  edges_size = simp (length-map, length-take)

  pub edges_made : edges_in rows m ≡ map row_of (take m rows)
  unfolding edges_in
  edges_made = refl

  -- a step by the count
  pub edges_next : (d : List ℕ) (i : ℕ) → i < m → m ≤ length rows → drop i (edges_in rows m) ≡ row_of (get_or rows i d) ∷ drop (i + 1) (edges_in rows m)
  edges_next d i h k = edges_step d i (omega (arith, edges_count k))

  pub edges_over : (i : ℕ) → m ≤ i → m ≤ length rows → drop i (edges_in rows m) ≡ []
  edges_over i h k = edges_end i (omega (arith, edges_count k))

-- a row is written behind the first j edges; at a free place; before the k-th edge
module _ (rows : List (List ℕ)) (r : List ℕ) where
  pub edges_push : (j j' : ℕ) (ys : List GEdge) → j' ≡ j + 1 → j < length rows → edges_in (set rows j r) j' ++ ys ≡ edges_in rows j ++ row_of r ∷ ys
  unfolding edges_in
  edges_push j j' ys e h = push_map row_of rows j j' r ys e h

  pub edges_past : (j k m : ℕ) → j < k → drop k (edges_in (set rows j r) m) ≡ drop k (edges_in rows m)
  unfolding edges_in
  edges_past j k m h = drop_set row_of rows j k m r h

-- ---- the edges of a set, without ends and marks

module _ (s : BorrowEdgeSet) where
  pub set_size : length (set_of s).edges ≡ s.len
  unfolding set_edges
  set_size = simp (length-map, length-take) (omega (arith, s.room, s.few))

  pub set_few : length (set_of s).edges ≤ 10
  set_few = omega (arith, set_size, s.few)

-- a walk along the rows whose edges are es
module _ (rows : List (List ℕ)) (es : List Edge) (e : map edge_in rows ≡ es) where
  pub rows_count : length rows ≡ length es
  rows_count = sym (length-map rows edge_in) ∙ ap length e

  pub rows_step : (d : List ℕ) (i : ℕ) → i < length rows → drop i es ≡ edge_in (get_or rows i d) ∷ drop (i + 1) es
  rows_step d i h =
      let row : drop i rows ≡ get_or rows i d ∷ drop (i + 1) rows = rw add-one (drop-cons rows i d h) in
      sym (ap (drop i) e) ∙ map_step edge_in rows i (get_or rows i d) row ∙ ap (λ (l : List Edge). edge_in (get_or rows i d) ∷ drop (i + 1) l) e

  pub rows_end : (i : ℕ) → length rows ≤ i → drop i es ≡ []
  rows_end i h = drop_of_length-le es (omega (arith, rows_count))

-- what too many edges become
pub set_blurred : (rows : List (List ℕ)) (x : List ℕ) (o : ℕ) → 0 < length rows → (row_of x).edge ≡ weakest o
    → record { edges = set_edges (set rows 0 x) 1; blurred = true } ≡ blur o
unfolding set_edges
set_blurred [] x o h e = absurd (not-suc-le-zero h)
set_blurred (r ∷ rows) x o h e = ap {B = EdgeSet} (λ (d : Edge). record { edges = d ∷ []; blurred = true }) e

-- ---- an answer as a number and a value

pub told_yes : {A : Type 0} (n : ℕ) (t : A) → n ≡ 0 → told n t ≡ ok t
told_yes {A} n t z = ap (λ (b : Bool). cond b (ok t) (refuse n)) (eq-eqb n 0 z)

pub told_no : {A : Type 0} (n : ℕ) (t : A) → (n ≡ 0 → ⊥) → told n t ≡ refuse n
told_no {A} n t z = ap (λ (b : Bool). cond b (ok t) (refuse n)) (ne_eqb n 0 z)

-- a turn of a loop: a step a that is answered goes on, one that is refused ends it
module _ {A B : Type 0} (n : ℕ) (t : A) (a : Ans A) (f : A → Ans B) (r : Ans B) (e : told n t ≡ a) (h : and_then a f ≡ r) where
  pub told_on : n ≡ 0 → f t ≡ r
  told_on z = ap (λ (b : Ans A). and_then b f) (sym (told_yes n t z) ∙ e) ∙ h

  pub told_off : (n ≡ 0 → ⊥) → (s : B) → told n s ≡ r
  told_off z s = told_no n s z ∙ ap (λ (b : Ans A). and_then b f) (sym (told_no n t z) ∙ e) ∙ h

-- a call refused with what a callee was refused with
pub told_declined : {A : Type 0} (n : ℕ) (s : A) (a : Ans A) → (n ≡ 0 → ⊥) → a ≡ refuse n → (told n s ≡ a) × (s ≡ leaves s a)
told_declined {A} n s a z e = (told_no n s z ∙ sym e, sym (ap (λ (b : Ans A). leaves s b) e))

-- an answer that is not 21 needs no second pass
pub told_first : {A : Type 0} (n : ℕ) (t : A) (a k : Ans A) → (n ≡ 21 → ⊥) → told n t ≡ a → told n t ≡ or21 a k
told_first {A} n t a k z e = go (eqb n 0) ∙ ap (λ (b : Ans A). or21 b k) e
  where
    go : (b : Bool) → cond b (ok t) (refuse n) ≡ or21 (cond b (ok t) (refuse n)) k
    go true = refl
    go false = ap (λ (b : Bool). cond b k (refuse n)) (sym (ne_eqb n 21 z))
