-- Borrow graphs (graph.rs): the names held, and one list of the edges of all pairs.
use Rattle.std.specs.Prelude.{ℕ, suc, min, Bool, ◌&&◌, ◌||◌, cond, not, true, false, List, [], ◌++◌, ◌∷◌, map, eqb, ltb, leb, length, drop}
use Rattle.std.proofs.Math.Option.{Option, none, some}
use Rattle.meaning.specs.Limits.{max_names, max_edges, u16_end}
use Rattle.meaning.specs.Answers.{Ans, ok, refuse, and_then, guard}
use Rattle.meaning.specs.Lists.{any, keep, all, each, empty}
use Rattle.meaning.specs.References.{Cmp, order_by, Edge, EdgeSet, empty_set, set_ok, insert, covered, prefix}

-- a name held: its number, and whether it is a mutable reference
pub record Name : Type 0 where
  pub id : ℕ
  pub mutable : Bool

-- an edge with its ends, and whether the set of its pair is blurred
pub record GEdge : Type 0 where
  pub parent : ℕ
  pub child : ℕ
  pub blurred : Bool
  pub edge : Edge

pub record Graph : Type 0 where
  pub names : List Name
  pub edges : List GEdge

-- no name, no edge
abbrev pub empty_graph : Graph
empty_graph = record { names = []; edges = [] }

-- the name is among these
unfoldable pub holds : List Name → ℕ → Bool
holds ns n = any (λ m. eqb n m.id) ns

abbrev pub held : Graph → ℕ → Bool
held g n = holds g.names n

-- ---- the set of edges between two names

-- the pairs (p, c) and (q, d) are the same
abbrev pub eq_pair : ℕ → ℕ → ℕ → ℕ → Bool
eq_pair p c q d = eqb p q && eqb c d

-- the pair (q, d) stands before the pair (p, c)
abbrev pub lt_pair : ℕ → ℕ → ℕ → ℕ → Bool
lt_pair p c q d = ltb q p || (eqb q p && ltb d c)

abbrev pub union : EdgeSet → EdgeSet → EdgeSet
union s t = record { edges = s.edges ++ t.edges; blurred = s.blurred || t.blurred }

abbrev pub one : GEdge → EdgeSet
one x = record { edges = x.edge ∷ []; blurred = x.blurred }

-- the set of the pair (p, c)
unfoldable pub set_at : ℕ → ℕ → List GEdge → EdgeSet
set_at p c [] = empty_set
set_at p c (x ∷ xs) = cond (eq_pair p c x.parent x.child) (union (one x) (set_at p c xs)) (set_at p c xs)

-- these edges with the ends p and c
abbrev pub tagged : ℕ → ℕ → Bool → List Edge → List GEdge
tagged p c b es = map (λ e. record { parent = p; child = c; blurred = b; edge = e }) es

-- the edge's pair stands before (p, c), or after it
abbrev pub is_before : ℕ → ℕ → GEdge → Bool
is_before p c x = lt_pair p c x.parent x.child

abbrev pub is_after : ℕ → ℕ → GEdge → Bool
is_after p c x = not (lt_pair p c x.parent x.child) && not (eq_pair p c x.parent x.child)

-- how an edge's pair stands to (p, c)
unfoldable pub side : ℕ → ℕ → GEdge → Cmp
side p c x = order_by (is_before p c x) (eq_pair p c x.parent x.child)

-- the list with s for the set of the pair (p, c)
unfoldable pub set_to : ℕ → ℕ → EdgeSet → List GEdge → List GEdge
set_to p c s xs = keep (is_before p c) xs ++ (tagged p c s.blurred s.edges ++ keep (is_after p c) xs)

-- ---- well-formedness, as for refusal 9

-- "u16 numbers", and each below those after it
unfoldable pub ascending : List Name → Bool
ascending [] = true
ascending (n ∷ ns) = (ltb n.id u16_end && all (λ m. ltb n.id m.id) ns) && ascending ns

-- "each edge joins two different held names"
abbrev pub pair_ok : List Name → ℕ → ℕ → Bool
pair_ok ns p c = holds ns p && (holds ns c && not (eqb p c))

-- the pair of each edge passes the test
abbrev pub on_pairs : (ℕ → ℕ → Bool) → List GEdge → Bool
on_pairs q xs = all (λ x. q x.parent x.child) xs

-- the pair of y does not stand before that of x
abbrev pub not_before : GEdge → GEdge → Bool
not_before x y = not (lt_pair x.parent x.child y.parent y.child)

-- the pairs ascend
unfoldable pub in_order : List GEdge → Bool
in_order [] = true
in_order (x ∷ xs) = all (not_before x) xs && in_order xs

-- "Well formed: at most 48 names, u16 numbers; at most 96 edges; each edge joins two different held names; a set has 1 to 10 different edges
-- with paths of at most 8 labels; a blurred set is one weak edge with empty path." Names, pairs and a set's edges ascend.
unfoldable pub well_formed : Graph → Bool
unfolding ascending holds set_at in_order
well_formed g =
    (leb (length g.names) max_names && ascending g.names)
    && (leb (length g.edges) max_edges
    && (on_pairs (pair_ok g.names) g.edges && (on_pairs (λ p c. set_ok (set_at p c g.edges)) g.edges && in_order g.edges)))

-- ---- release and join

-- an edge put into the set of its pair
unfoldable pub add_edge : Graph → GEdge → Ans Graph
unfolding set_at set_to
add_edge g x =
    and_then (insert (set_at x.parent x.child g.edges) x.edge)
    (λ s. ok (record { names = g.names; edges = set_to x.parent x.child s g.edges }))

-- edges put in, one after the other
unfoldable pub add_all : List GEdge → Graph → Ans Graph
unfolding add_edge
add_all [] g = ok g
add_all (x ∷ xs) g = and_then (add_edge g x) (λ h. add_all xs h)

-- "21: over 96 edges after a graph call"
unfoldable pub limit : Graph → Ans Graph
limit g = guard (leb (length g.edges) max_edges) 21 (ok g)

-- "Strong [F1] then strong [F2]: strong [F1,F2]. Strong [F1] then weak [F2]: weak [F1,F2]. Weak [F1] then strong [F2]: weak [F1]." A9: "a
-- spliced edge takes the child edge's" offset.
unfoldable pub splice : Edge → Edge → Edge
splice e f = record { strong = e.strong && f.strong; path = cond e.strong (e.path ++ f.path) e.path; offset = f.offset }

-- an edge from p to c
abbrev pub between : ℕ → Edge → ℕ → GEdge
between p e c = record { parent = p; child = c; blurred = false; edge = e }

-- "Release visits parents, parent edges, children, child edges, all ascending, and puts in spliced edges." "Parent equal to child: nothing is
-- spliced."
unfoldable pub spliced : Graph → ℕ → List GEdge
unfolding set_at splice
spliced g n =
    each g.names (λ p. each (set_at p.id n g.edges).edges (λ e.
    each g.names (λ c. each (set_at n c.id g.edges).edges (λ f.
    cond (eqb p.id c.id) [] (between p.id (splice e f) c.id ∷ [])))))

-- any name but n
abbrev pub other : ℕ → Name → Bool
other n m = not (eqb n m.id)

-- the graph without a name and its edges
unfoldable pub without : Graph → ℕ → Graph
without g n = record {
  names = keep (other n) g.names;
  edges = keep (λ x. not (eqb n x.parent) && not (eqb n x.child)) g.edges;
}

-- 9 where the graph is not well formed or lacks the name; 22 and 21 as the edges are put in
unfoldable pub release : Graph → ℕ → Ans Graph
unfolding well_formed holds spliced without add_all limit
release g n = guard (well_formed g && held g n) 9 (and_then (add_all (spliced g n) (without g n)) limit)

-- the other's edges that no edge of ours covers, judged against ours before the join
unfoldable pub unmatched : Graph → Graph → List GEdge
unfolding set_at
unmatched g h = keep (λ x. not (covered (set_at x.parent x.child g.edges).edges x.edge)) h.edges

-- each name of the one graph is held in the other
unfoldable pub same_names : Graph → Graph → Bool
unfolding holds
same_names g h = all (λ m. held h m.id) g.names && all (λ m. held g m.id) h.names

-- "9: .. name missing (in a join: in one graph)"
unfoldable pub join_graphs : Graph → Graph → Ans Graph
unfolding well_formed same_names unmatched add_all limit
join_graphs g h = guard ((well_formed g && well_formed h) && same_names g h) 9 (and_then (add_all (unmatched g h) g) limit)

-- ---- the sets that a call blurs

-- A1: "Borrow, release and join pass up the number of sets blurred just now": blurred in h, and not in g before the call. (In a
-- well-formed graph a blurred set is one edge, so its edges are counted; of another graph no call is answered.)
unfoldable pub newly_blurred : List GEdge → List GEdge → ℕ
unfolding set_at
newly_blurred es fs = length (keep (λ x. x.blurred && not (set_at x.parent x.child es).blurred) fs)

abbrev pub blurs_to : Graph → Graph → ℕ
blurs_to g h = newly_blurred g.edges h.edges

-- what a call on g passes up by its answer: a refused one none
abbrev pub blurs_by : Graph → Ans Graph → ℕ
blurs_by g (ok h) = blurs_to g h
blurs_by g (refuse n) = 0

-- ---- a new name, and borrows

-- put in where it belongs in the order
unfoldable pub put_name : Name → List Name → List Name
put_name a [] = a ∷ []
put_name a (b ∷ bs) = cond (ltb a.id b.id) (a ∷ b ∷ bs) (b ∷ put_name a bs)

-- "8: new name exists." "23: 48 names held and one more wanted (after 8)."
unfoldable pub new_name : Graph → ℕ → Bool → Ans Graph
unfolding well_formed holds put_name
new_name g n m =
    guard (well_formed g) 9
    (guard (not (held g n)) 8
    (guard (leb (suc (length g.names)) max_names) 23
    (ok (record { names = put_name (record { id = n; mutable = m }) g.names; edges = g.edges }))))

-- a weak borrow of p at a path, by c, in the instruction at offset o: 9 where a name is missing or "parent equals child"
unfoldable pub borrow_weak : Graph → ℕ → List ℕ → ℕ → ℕ → Ans Graph
unfolding well_formed holds add_edge limit
borrow_weak g p path c o =
    guard (well_formed g && pair_ok g.names p c) 9 (and_then (add_all (between p (record { strong = false; path = path; offset = o }) c ∷ []) g) limit)

-- the edges of p that a strong borrow at this path moves under the child
abbrev pub moves : ℕ → List ℕ → GEdge → Bool
moves p path x = eqb p x.parent && prefix path x.edge.path

-- such an edge under the child: its path loses the front that the borrow has. A9: "Factored edges retain theirs".
abbrev pub shift : ℕ → List ℕ → GEdge → GEdge
shift c path x = between c (record { strong = x.edge.strong; path = drop (length path) x.edge.path; offset = x.edge.offset }) x.child

-- a strong borrow of p at a path, by c, in the instruction at offset o (the Rust's `factor`). "Parent P holds C by strong [F1,F2]; strong
-- borrow of F1 to N: P–N strong [F1], N–C strong [F2], no P–C edge." "9: .. a strong borrow would move an edge that ends at the child."
unfoldable pub borrow_strong : Graph → ℕ → List ℕ → ℕ → ℕ → Ans Graph
unfolding well_formed holds add_all limit prefix
borrow_strong g p path c o =
    guard (well_formed g && (pair_ok g.names p c && all (λ x. not (eqb c x.child)) (keep (moves p path) g.edges))) 9
    (and_then
    (add_all (map (shift c path) (keep (moves p path) g.edges) ++ (between p (record { strong = true; path = path; offset = o }) c ∷ []))
    (record { names = g.names; edges = keep (λ x. not (moves p path x)) g.edges }))
    limit)

-- ---- names changed together

-- put in before the first edge whose pair does not stand before its own
unfoldable pub put_edge : GEdge → List GEdge → List GEdge
put_edge x [] = x ∷ []
put_edge x (y ∷ ys) = cond (not_before x y) (x ∷ y ∷ ys) (y ∷ put_edge x ys)

-- the ends, and a name, changed
abbrev pub with_ends : (ℕ → ℕ) → GEdge → GEdge
with_ends f x = record { parent = f x.parent; child = f x.child; blurred = x.blurred; edge = x.edge }

abbrev pub with_id : (ℕ → ℕ) → Name → Name
with_id f a = record { id = f a.id; mutable = a.mutable }

unfoldable pub rename_edges : (ℕ → ℕ) → List GEdge → List GEdge
unfolding put_edge
rename_edges f [] = []
rename_edges f (x ∷ xs) = put_edge (with_ends f x) (rename_edges f xs)

unfoldable pub rename_names : (ℕ → ℕ) → List Name → List Name
unfolding put_name
rename_names f [] = []
rename_names f (a ∷ ns) = put_name (with_id f a) (rename_names f ns)

-- A2: "All names are to be changed together, each by its old value"
unfoldable pub renamed : (ℕ → ℕ) → Graph → Graph
unfolding rename_edges rename_names
renamed f g = record { names = rename_names f g.names; edges = rename_edges f g.edges }

-- an old name and its new one
pub record Change : Type 0 where
  pub old : ℕ
  pub new : ℕ

-- the name that n gets; one that is no old name stays
unfoldable pub name_after : List Change → ℕ → ℕ
name_after [] n = n
name_after (m ∷ ms) n = cond (eqb n m.old) m.new (name_after ms n)

-- n is an old name of the map
unfoldable pub is_old : List Change → ℕ → Bool
is_old ms n = any (λ m. eqb n m.old) ms

-- "the same old or the same new name"
abbrev pub alike : Change → Change → Bool
alike m k = eqb m.old k.old || eqb m.new k.new

-- "two pairs with the same old or the same new name", in the whole map
unfoldable pub twice : List Change → Bool
twice [] = false
twice (m ∷ ms) = any (alike m) ms || twice ms

-- "a new name held outside the old names"
abbrev pub collides : List Name → List Change → Change → Bool
collides ns ms m = holds ns m.new && not (is_old ms m.new)

-- A2: "a direct rename still gives it for two pairs with the same old or the same new name, or a new name held outside the old names."
unfoldable pub clash : List Name → List Change → Bool
unfolding twice is_old holds
clash ns ms = twice ms || any (collides ns ms) ms

-- a direct rename (`remap_refs`): "a rename skips an old name not held"
unfoldable pub remap : Graph → List Change → Ans Graph
unfolding clash name_after renamed well_formed
remap g ms = guard (well_formed g) 9 (guard (not (clash g.names ms)) 16 (ok (renamed (name_after ms) g)))

-- ---- what a graph answers when it is asked

-- the name is that of a mutable reference
unfoldable pub mutable_in : List Name → ℕ → Bool
mutable_in ns n = any (λ m. eqb n m.id && m.mutable) ns

unfoldable pub is_mutable : Graph → ℕ → Bool
unfolding mutable_in
is_mutable g n = mutable_in g.names n

-- A path meets a label: it is empty, or its first label is this one. (No label given: any path does.)
abbrev pub meets_label : Option ℕ → List ℕ → Bool
meets_label none p = true
meets_label (some a) [] = true
meets_label (some a) (b ∷ p) = eqb a b

-- a borrow of the whole
abbrev pub empty_path : List ℕ → Bool
empty_path [] = true
empty_path (a ∷ p) = false

-- What one edge does to the name n: it borrows the whole (an empty-path borrow, has_full_borrows); it borrows a part that meets the label
-- (has_consistent_borrows); it does so for a mutable borrower (has_consistent_mutable_borrows).
abbrev pub borrows_fully : ℕ → GEdge → Bool
borrows_fully n x = eqb n x.parent && empty_path x.edge.path

abbrev pub borrows : ℕ → Option ℕ → GEdge → Bool
borrows n at x = eqb n x.parent && meets_label at x.edge.path

abbrev pub borrows_mutably : Graph → ℕ → Option ℕ → GEdge → Bool
borrows_mutably g n at x = borrows n at x && is_mutable g x.child

-- the lower of an offset and another, if there is another
abbrev pub lower_of : ℕ → Option ℕ → ℕ
lower_of o none = o
lower_of o (some a) = min o a

-- A9: "the lowest offset among the edges" that pass a test; none, where no edge does
unfoldable pub lowest_of : (GEdge → Bool) → List GEdge → Option ℕ
lowest_of p [] = none
lowest_of p (x ∷ xs) = cond (p x) (some (lower_of x.edge.offset (lowest_of p xs))) (lowest_of p xs)

-- a look-up: 9 where the graph is not well formed or lacks the name
abbrev pub of_name : {A : Type 0} → Graph → ℕ → A → Ans A
of_name g n a = guard (well_formed g && held g n) 9 (ok a)

-- the look-ups of graph.rs
unfoldable pub contains_id : Graph → ℕ → Ans Bool
contains_id g n = guard (well_formed g) 9 (ok (held g n))

unfoldable pub all_refs : Graph → Ans (List Name)
all_refs g = guard (well_formed g) 9 (ok g.names)

unfoldable pub mutable_of : Graph → ℕ → Ans Bool
mutable_of g n = of_name g n (is_mutable g n)

-- The borrows of a name, each by the lowest offset, or none: the empty-path borrows; those that meet the label, if one is given, else all; and
-- such ones with a mutable borrower.
pub record Borrows : Type 0 where
  pub full : Option ℕ
  pub consistent : Option ℕ
  pub mutable : Option ℕ

unfoldable pub borrowed_by : Graph → ℕ → Option ℕ → Ans Borrows
unfolding lowest_of is_mutable
borrowed_by g n at =
    of_name g n (record {
      full = lowest_of (borrows_fully n) g.edges;
      consistent = lowest_of (borrows n at) g.edges;
      mutable = lowest_of (borrows_mutably g n at) g.edges;
    })

unfoldable pub out_edges : Graph → ℕ → Ans (List GEdge)
out_edges g n = of_name g n (keep (λ x. eqb n x.parent) g.edges)

unfoldable pub in_edges : Graph → ℕ → Ans (List GEdge)
in_edges g n = of_name g n (keep (λ x. eqb n x.child) g.edges)

-- refused with 9 where the pair has no edge
unfoldable pub between_edges : Graph → ℕ → ℕ → Ans (List GEdge)
between_edges g p c =
    guard (well_formed g && not (empty (keep (λ x. eq_pair p c x.parent x.child) g.edges))) 9
    (ok (keep (λ x. eq_pair p c x.parent x.child) g.edges))

-- `leq`: the first graph has a covering edge for each edge of the second; 9 where it lacks a name of the second
unfoldable pub covering : Graph → Graph → Ans Bool
covering g h = guard ((well_formed g && well_formed h) && all (λ m. held g m.id) h.names) 9 (ok (empty (unmatched g h)))
