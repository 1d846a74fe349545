-- Abstract states (abstract_state.rs): their join, what a join changes, the form of the kept states, the first state, and the end of a block,
-- where each local's reference takes the local's index for its name.
use Rattle.std.specs.Prelude.{ℕ, ◌+◌, zero, suc, Bool, true, false, ◌&&◌, not, cond, List, [], ◌∷◌, ◌++◌, ◌⊎◌, ◌≡◌, eqb, length, get_or}
use Rattle.std.specs.Bool.{beq}
use Rattle.meaning.specs.Answers.{Ans, ok, refuse, and_then, guard, leaves}
use Rattle.meaning.specs.References.{Edge, eq_edge, EdgeSet}
use Rattle.meaning.specs.BorrowGraph.{Graph, release, join_graphs, newly_blurred, blurs_to, set_at, on_pairs, held, well_formed, Name, renamed}

-- ---- values

-- a value or a reference, by its name (the Rust's AbstractValue)
pub data Operand : Type 0 where
  non_ref : Operand
  reference : ℕ → Operand

-- "Token: 0 value, 1 reference, 2 mutable reference."
pub data Token : Type 0 where
  of_value : Token
  of_ref : Bool → Token

-- "each local is absent, a value, or a reference"
pub data Local : Type 0 where
  absent value : Local
  ref : ℕ → Local

pub record State : Type 0 where
  pub locals : List Local
  pub graph : Graph

-- a local joined, with the two graphs as this leaves them
pub record Step : Type 0 where
  pub local : Local
  pub ours : Graph
  pub theirs : Graph

-- "15: a local is value in one joined state, reference in the other." "Names that one side lacks: those of locals that hold a reference in one
-- state and are absent in the other. Each is released from the state that holds it."
unfoldable pub join_local : Local → Local → Graph → Graph → Ans Step
unfolding release
join_local absent absent g h = ok (record { local = absent; ours = g; theirs = h })
join_local absent value g h = ok (record { local = absent; ours = g; theirs = h })
join_local absent (ref n) g h = and_then (release h n) (λ h'. ok (record { local = absent; ours = g; theirs = h' }))
join_local value absent g h = ok (record { local = absent; ours = g; theirs = h })
join_local (ref n) absent g h = and_then (release g n) (λ g'. ok (record { local = absent; ours = g'; theirs = h }))
join_local value value g h = ok (record { local = value; ours = g; theirs = h })
join_local value (ref n) g h = refuse 15
join_local (ref n) value g h = refuse 15
join_local (ref n) (ref m) g h = guard (eqb n m) 15 (ok (record { local = ref n; ours = g; theirs = h }))

-- `blurs`: the sets that the releases blurred, in either graph
pub record Parts : Type 0 where
  pub locals : List Local
  pub ours : Graph
  pub theirs : Graph
  pub blurs : ℕ

-- "in the Rust's order, before the graphs are joined": local by local, ascending
unfoldable pub join_locals : List Local → List Local → Graph → Graph → Ans Parts
unfolding join_local newly_blurred
join_locals [] [] g h = ok (record { locals = []; ours = g; theirs = h; blurs = 0 })
join_locals [] (b ∷ bs) g h = refuse 9
join_locals (a ∷ as') [] g h = refuse 9
join_locals (a ∷ as') (b ∷ bs) g h =
    and_then (join_local a b g h) (λ s.
    and_then (join_locals as' bs s.ours s.theirs) (λ r.
    ok (record { locals = s.local ∷ r.locals; ours = r.ours; theirs = r.theirs; blurs = blurs_to g s.ours + blurs_to h s.theirs + r.blurs })))

-- "A join here is the abstract state's."
unfoldable pub join : State → State → Ans State
unfolding join_locals join_graphs
join s o =
    and_then (join_locals s.locals o.locals s.graph o.graph) (λ r.
    and_then (join_graphs r.ours r.theirs) (λ g.
    ok (record { locals = r.locals; graph = g })))

-- What a join passes up for A1's sum: what its releases, from either state, and the graphs' join pass up. A refused one passes up none.
abbrev pub passed : Ans ℕ → ℕ
passed (ok n) = n
passed (refuse r) = 0

unfoldable pub join_blurs : State → State → ℕ
unfolding join_locals join_graphs newly_blurred
join_blurs s o =
    passed (and_then (join_locals s.locals o.locals s.graph o.graph) (λ r.
    and_then (join_graphs r.ours r.theirs) (λ g.
    ok (r.blurs + blurs_to r.ours g))))

-- ---- what a join changed

-- two locals are the same
abbrev pub eq_local : Local → Local → Bool
eq_local absent absent = true
eq_local absent value = false
eq_local absent (ref n) = false
eq_local value absent = false
eq_local value value = true
eq_local value (ref n) = false
eq_local (ref m) absent = false
eq_local (ref m) value = false
eq_local (ref m) (ref n) = eqb m n

unfoldable pub eq_locals : List Local → List Local → Bool
eq_locals [] [] = true
eq_locals [] (b ∷ bs) = false
eq_locals (a ∷ as') [] = false
eq_locals (a ∷ as') (b ∷ bs) = eq_local a b && eq_locals as' bs

-- the same edges, in the same order
unfoldable pub eq_edges : List Edge → List Edge → Bool
unfolding eq_edge
eq_edges [] [] = true
eq_edges [] (y ∷ ys) = false
eq_edges (x ∷ xs) [] = false
eq_edges (x ∷ xs) (y ∷ ys) = eq_edge x y && eq_edges xs ys

unfoldable pub eq_set : EdgeSet → EdgeSet → Bool
unfolding eq_edges
eq_set s t = beq s.blurred t.blurred && eq_edges s.edges t.edges

-- The two graphs have the same set for each pair of names that is a pair of either's edges. (Any other pair has the empty set in both.)
unfoldable pub eq_sets : Graph → Graph → Bool
unfolding eq_set set_at
eq_sets g h = on_pairs (λ p c. eq_set (set_at p c g.edges) (set_at p c h.edges)) (g.edges ++ h.edges)

-- "its answer differs from the state it got, in a local or in a set of edges"
unfoldable pub changed : State → State → Bool
unfolding eq_locals eq_sets
changed s t = not (eq_locals s.locals t.locals && eq_sets s.graph t.graph)

-- ---- the form of the kept states

-- "Form: all states have the same L, within its limit; each local is absent, a value, or a reference named by the local's own index; the graph
-- is well formed as for 9, and each name it holds is L or that of such a reference; no edge ends at L."
pub record Form (l : ℕ) (s : State) : Type 0 where
  pub count : length s.locals ≡ l
  pub own : (i n : ℕ) → get_or s.locals i absent ≡ ref n → n ≡ i
  pub formed : well_formed s.graph ≡ true
  pub among : (n : ℕ) → held s.graph n ≡ true → (n ≡ l) ⊎ (get_or s.locals n absent ≡ ref n)
  pub no_root : on_pairs (λ p c. not (eqb c l)) s.graph.edges ≡ true

-- ---- lists of joins

-- one, if the test holds
abbrev pub count1 : Bool → ℕ
count1 true = 1
count1 false = 0

-- "A join changes the state exactly when it is not refused and its answer differs from the state it got"
abbrev pub did : State → Ans State → ℕ
did s (ok t) = count1 (changed s t)
did s (refuse n) = 0

-- How many of a list of joins change the state. A join gets "the state that the join before it answered; after a refused one, the state
-- that one had got".
unfoldable pub changes : State → List State → ℕ
unfolding join changed
changes s [] = 0
changes s (o ∷ os) = did s (join s o) + changes (leaves s (join s o)) os

-- ---- the first state: the parameters present, no edges (AbstractState::new)

-- "only parameters are present at first": n locals from index i on; a parameter's reference is named by its index
unfoldable pub first_locals : ℕ → ℕ → List Token → List Local
first_locals i zero ts = []
first_locals i (suc n) [] = absent ∷ first_locals (suc i) n []
first_locals i (suc n) (of_value ∷ ts) = value ∷ first_locals (suc i) n ts
first_locals i (suc n) (of_ref m ∷ ts) = ref i ∷ first_locals (suc i) n ts

-- their names, and last the root's
unfoldable pub first_names : ℕ → ℕ → List Token → List Name
first_names i zero ts = record { id = i; mutable = true } ∷ []
first_names i (suc n) [] = first_names (suc i) n []
first_names i (suc n) (of_value ∷ ts) = first_names (suc i) n ts
first_names i (suc n) (of_ref m ∷ ts) = record { id = i; mutable = m } ∷ first_names (suc i) n ts

-- "with the parameters present and no edges"
unfoldable pub first_state : ℕ → List Token → State
unfolding first_locals first_names
first_state l ts = record { locals = first_locals 0 l ts; graph = record { names = first_names 0 l ts; edges = [] } }

-- the index of the first local that holds the name, counted from i; d if there is none
unfoldable pub local_holding : ℕ → ℕ → ℕ → List Local → ℕ
local_holding d n i [] = d
local_holding d n i (x ∷ xs) = cond (eq_local x (ref n)) i (local_holding d n (suc i) xs)

-- the root keeps its name
unfoldable pub new_name_of : ℕ → List Local → ℕ → ℕ
unfolding local_holding
new_name_of l xs n = cond (eqb n l) l (local_holding n n 0 xs)

-- each local's reference by the local's index
unfoldable pub own_names : ℕ → List Local → List Local
own_names i [] = []
own_names i (absent ∷ xs) = absent ∷ own_names (suc i) xs
own_names i (value ∷ xs) = value ∷ own_names (suc i) xs
own_names i (ref n ∷ xs) = ref i ∷ own_names (suc i) xs

-- The end of a block. A2: "All names are to be changed together, each by its old value, so an exchange is simply an exchange. Number 16 no longer
-- occurs at a block's end".
unfoldable pub canonical : ℕ → State → State
unfolding renamed new_name_of own_names
canonical l s = record { locals = own_names 0 s.locals; graph = renamed (new_name_of l s.locals) s.graph }
