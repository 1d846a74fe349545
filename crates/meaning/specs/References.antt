-- Edges and sets of edges (references.rs, paths.rs). A path is a list of labels, each by its number.
use Rattle.std.specs.Prelude.{ℕ, Bool, false, true, ◌&&◌, ◌||◌, not, cond, List, [], ◌∷◌, eqb, ltb, leb, length}
use Rattle.std.specs.Bool.{beq}
use Rattle.meaning.specs.Limits.{max_set_size, max_labels}
use Rattle.meaning.specs.Answers.{Ans, ok, refuse}
use Rattle.meaning.specs.Lists.{any, all}

-- "An edge is strong or weak and has a path (a list of labels)." A9: "Each edge should carry the offset of the instruction that made it.
-- Equality, order and covering ignore it".
pub record Edge : Type 0 where
  pub strong : Bool
  pub path : List ℕ
  pub offset : ℕ

-- the edges of one pair of names; `blurred` is the Rust's `overflown`
pub record EdgeSet : Type 0 where
  pub edges : List Edge
  pub blurred : Bool

-- "one weak edge with empty path", from the instruction at this offset
abbrev pub weakest : ℕ → Edge
weakest o = record { strong = false; path = []; offset = o }

abbrev pub empty_set : EdgeSet
empty_set = record { edges = []; blurred = false }

-- "one weak edge with empty path, blurred"
abbrev pub blur : ℕ → EdgeSet
blur o = record { edges = weakest o ∷ []; blurred = true }

-- the first path is the start of the second
unfoldable pub prefix : List ℕ → List ℕ → Bool
prefix [] ys = true
prefix (x ∷ xs) [] = false
prefix (x ∷ xs) (y ∷ ys) = eqb x y && prefix xs ys

-- label by label
unfoldable pub eq_path : List ℕ → List ℕ → Bool
eq_path [] [] = true
eq_path [] (y ∷ ys) = false
eq_path (x ∷ xs) [] = false
eq_path (x ∷ xs) (y ∷ ys) = eqb x y && eq_path xs ys

-- "label by label, a prefix first"
unfoldable pub lt_path : List ℕ → List ℕ → Bool
lt_path [] [] = false
lt_path [] (y ∷ ys) = true
lt_path (x ∷ xs) [] = false
lt_path (x ∷ xs) (y ∷ ys) = ltb x y || (eqb x y && lt_path xs ys)

-- the same strength and the same path
unfoldable pub eq_edge : Edge → Edge → Bool
unfolding eq_path
eq_edge e f = beq e.strong f.strong && eq_path e.path f.path

-- "Edge order: weak before strong, then path, label by label, a prefix first"
unfoldable pub lt_edge : Edge → Edge → Bool
unfolding lt_path
lt_edge e f = (not e.strong && f.strong) || (beq e.strong f.strong && lt_path e.path f.path)

-- how one stands to another in an order
pub data Cmp : Type 0 where
  less equal greater : Cmp

abbrev pub order_by : Bool → Bool → Cmp
order_by true e = less
order_by false true = equal
order_by false false = greater

-- the two orders, as one answer
unfoldable pub compare_paths : List ℕ → List ℕ → Cmp
unfolding lt_path eq_path
compare_paths p q = order_by (lt_path p q) (eq_path p q)

unfoldable pub compare_edges : Edge → Edge → Cmp
unfolding lt_edge eq_edge
compare_edges e f = order_by (lt_edge e f) (eq_edge e f)

-- "`leq`: equal, or weak with a prefix path": the first edge covers the second
unfoldable pub covers : Edge → Edge → Bool
unfolding eq_edge prefix
covers e f = eq_edge e f || (not e.strong && prefix e.path f.path)

-- one of these edges covers e
abbrev pub covered : List Edge → Edge → Bool
covered ds e = any (λ d. covers d e) ds

-- e is among these edges
unfoldable pub has : Edge → List Edge → Bool
unfolding eq_edge
has e xs = any (eq_edge e) xs

-- put in where it belongs in the order
unfoldable pub put : Edge → List Edge → List Edge
unfolding lt_edge
put e [] = e ∷ []
put e (x ∷ xs) = cond (lt_edge e x) (e ∷ x ∷ xs) (x ∷ put e xs)

-- "Nine edges and a new one: ten, not blurred. Ten edges and any insert, even a duplicate: one weak edge with empty path, blurred. A blurred
-- set ignores inserts." "22: an edge of over 8 labels is put into an unblurred set of fewer than ten." A9: "an equal edge already in a set
-- retains its own" offset, "and a blurred edge takes that of the edge whose insert blurred it."
unfoldable pub insert : EdgeSet → Edge → Ans EdgeSet
unfolding has put
insert s e =
    cond s.blurred (ok s)
    (cond (leb max_set_size (length s.edges)) (ok (blur e.offset))
    (cond (leb (length e.path) max_labels)
    (cond (has e s.edges) (ok s) (ok (record { edges = put e s.edges; blurred = false })))
    (refuse 22)))

-- A1: "An insert should report one of four outcomes: added, already there, blurred just now, blurred before."
pub data Report : Type 0 where
  added already_there blurred_now blurred_before : Report

unfoldable pub report : EdgeSet → Edge → Ans Report
unfolding has
report s e =
    cond s.blurred (ok blurred_before)
    (cond (leb max_set_size (length s.edges)) (ok blurred_now)
    (cond (leb (length e.path) max_labels)
    (cond (has e s.edges) (ok already_there) (ok added))
    (refuse 22)))

-- an edge to put in; of one whose path has over 8 labels only the offset is told
pub data Offered : Type 0 where
  fits : Edge → Offered
  too_long : ℕ → Offered

unfoldable pub fitting : Edge → Offered
fitting e = cond (leb (length e.path) max_labels) (fits e) (too_long e.offset)

-- an insert of what may be too long: only where the edge would be put in is the refusal given
unfoldable pub offer : EdgeSet → Offered → Ans EdgeSet
unfolding insert
offer s (fits e) = insert s e
offer s (too_long o) = cond s.blurred (ok s) (cond (leb max_set_size (length s.edges)) (ok (blur o)) (refuse 22))

-- what that reports
unfoldable pub offer_report : EdgeSet → Offered → Ans Report
unfolding report
offer_report s (fits e) = report s e
offer_report s (too_long o) = cond s.blurred (ok blurred_before) (cond (leb max_set_size (length s.edges)) (ok blurred_now) (refuse 22))

-- ---- a set as a well-formed graph has it (or the empty one)

-- ascending, so all different
unfoldable pub ordered : List Edge → Bool
unfolding lt_edge
ordered [] = true
ordered (x ∷ xs) = all (lt_edge x) xs && ordered xs

-- "paths of at most 8 labels"
unfoldable pub short : Edge → Bool
short e = leb (length e.path) max_labels

-- "a blurred set is one weak edge with empty path", of any offset
unfoldable pub is_blur : List Edge → Bool
unfolding eq_edge
is_blur [] = false
is_blur (x ∷ []) = eq_edge x (weakest 0)
is_blur (x ∷ y ∷ ys) = false

-- "a set has 1 to 10 different edges with paths of at most 8 labels; a blurred set is one weak edge with empty path" (or it is the empty set
-- of a pair without edges)
unfoldable pub set_ok : EdgeSet → Bool
unfolding ordered short is_blur
set_ok s = cond s.blurred (is_blur s.edges) (leb (length s.edges) max_set_size && (all short s.edges && ordered s.edges))
