-- Rows of an array read in turn, a row put in, and the rows behind a pair's moved to their new place in one step.
use Rattle.std.specs.Prelude.{ℕ, ◌+◌, ◌-◌, ◌≤◌, ◌<◌, ◌≡◌, List, [], ◌∷◌, ◌++◌, map, length, take, drop, get_or}
use Rattle.std.proofs.Common.{arith, add-one, sym, ap, ◌∙◌, drop-cons, drop_of_length-le, append_assoc, length-take, length-drop, drop_at}
use Rattle.std.proofs.Math.Seq.{take-add}
use Rattle.std.proofs.lemmas.List.{length-map, map-append, drop-map, take_at, take-take, take-append-le}
use Rattle.std.proofs.lemmas.Slice.{between_is}
use Rattle.std.specs.List.{copy_within}
use Rattle.meaning.proofs.Laws.Array.{map_step}
use Rattle.meaning.specs.BorrowGraph.{GEdge}
use Rattle.references.specs.Models.{row_of, edges_in}
use Rattle.meaning.proofs.Laws.Array.{map_put}

-- ---- the first n rows in turn

module _ {B : Type 0} (f : List ℕ → B) (rows : List (List ℕ)) (i : ℕ) where
  next : (d : List ℕ) → i < length rows → drop i (map f rows) ≡ f (get_or rows i d) ∷ drop (i + 1) (map f rows)
  next d h = map_step f rows i (get_or rows i d) (rw add-one (drop-cons rows i d h))

  over : length rows ≤ i → drop i (map f rows) ≡ []
  over h = drop_of_length-le (map f rows) (simp length-map h)

module _ (rows : List (List ℕ)) (n i : ℕ) where
  pub row_next : (d : List ℕ) → i < length (take n rows) → drop i (edges_in rows n) ≡ row_of (get_or (take n rows) i d) ∷ drop (i + 1) (edges_in rows n)
  unfolding edges_in
  row_next d h = next row_of (take n rows) i d h

  pub row_over : length (take n rows) ≤ i → drop i (edges_in rows n) ≡ []
  unfolding edges_in
  row_over h = over row_of (take n rows) i h

-- ---- a row put in

pub row_put : (rows new : List (List ℕ)) (n k : ℕ) (x : List ℕ) → take (n + 1) new ≡ take k (take n rows) ++ (x ∷ drop k (take n rows))
    → edges_in new (n + 1) ≡ take k (edges_in rows n) ++ (row_of x ∷ drop k (edges_in rows n))
unfolding edges_in
row_put rows new n k x e = ap (map row_of) e ∙ map_put row_of x k (take n rows)

-- ---- the rows from `from` to m moved to `to`

module _ (rows : List (List ℕ)) (from to m : ℕ) (h : from ≤ m) (l : m ≤ length rows) (fits : to + (m - from) ≤ length rows) where
  abbrev moved : List (List ℕ)
  moved = copy_within rows from m to

  pub rows_before : (k : ℕ) → k ≤ to → edges_in moved k ≡ edges_in rows k
  unfolding edges_in
  rows_before k z =
      let n : k ≤ length (take to rows) = simp length-take (omega arith) in
      let t : List (List ℕ) = take (m - from) (drop from rows) in
      let rest : List (List ℕ) = drop (to + (m - from)) rows in
      ap (map row_of) (ap (take k) (append_assoc (take to rows) t rest) ∙ take-append-le k (take to rows) (t ++ rest) n ∙ take-take k to rows z)

  -- whatever is written below `to`
  pub rows_behind : (rows' : List (List ℕ)) → drop to rows' ≡ drop to moved → edges_in rows' (to + (m - from)) ≡ edges_in rows' to ++ drop from (edges_in rows m)
  unfolding edges_in
  rows_behind rows' e =
      let t : List (List ℕ) = take (m - from) (drop from rows) in
      let rest : List (List ℕ) = drop (to + (m - from)) rows in
      let o : length t ≡ m - from = simp (length-take, length-drop) (omega arith) in
      let n : length (take to rows) ≡ to = simp length-take (omega arith) in
      ap (map row_of) (take-add to (m - from) rows'
      ∙ ap (λ (z : List (List ℕ)). take to rows' ++ take (m - from) z) (e ∙ ap (drop to) (append_assoc (take to rows) t rest) ∙ drop_at (take to rows) (t ++ rest) to n)
      ∙ ap (λ (z : List (List ℕ)). take to rows' ++ z) (take_at t rest (m - from) o ∙ between_is rows from m))
      ∙ map-append row_of (take to rows') (drop from (take m rows))
      ∙ ap (λ (z : List GEdge). map row_of (take to rows') ++ z) (sym (drop-map row_of from (take m rows)))
