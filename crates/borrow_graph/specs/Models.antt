-- What the arrays and structs of the code stand for in the definitions.
use Rattle.std.specs.Prelude.{Result, ℕ, ◌≤◌, ◌≡◌, Bool, List, map, eqb, length, take}
use Rattle.std.specs.Prelude.{Some, None}
use Rattle.std.specs.Prelude as P
use Rattle.std.proofs.Math.Option.{Option, none, some}
use Rattle.meaning.specs.Limits.{max_names, max_edges}
use Rattle.meaning.specs.Answers.{Ans, leaves}
use Rattle.meaning.specs.BorrowGraph.{Graph, Borrows, Change, eq_pair, well_formed}
use Rattle.references.specs.Models.{edges_in, names_in}
use Rattle.vm_status.specs.declared.Refusal.{Refusal}
use Rattle.vm_status.specs.Models.{number_of, answer_by, answer_of}
use Rattle.file_format.specs.declared.CodeOffset.{CodeOffset}
use Rattle.borrow_graph.specs.declared.graph.BorrowGraph.{BorrowGraph}
use Rattle.borrow_graph.specs.declared.graph.BorrowedBy.{BorrowedBy}
use Rattle.borrow_graph.specs.declared.lookups.Ends.{Ends}
use Rattle.borrow_graph.specs.declared.lookups.Ends.TheVariants.{From, To, Between}
use Rattle.borrow_graph.specs.declared.remap.IdPair.{IdPair}
use Rattle.borrow_graph.specs.declared.remap.IdMap.{IdMap}

-- the graph of these names and rows
abbrev pub graph_in : List ℕ → List (List ℕ) → BorrowGraph → Graph
graph_in ns es g = record { names = names_in ns g.refs; edges = edges_in es g.edges }

-- that the struct tells the truth of its arrays. (The lengths are those of the arrays' types.)
pub record Tells (ns : List ℕ) (es : List (List ℕ)) (g : BorrowGraph) : Type 0 where
  pub words : length ns ≡ max_names
  pub rows : length es ≡ max_edges
  pub refs : g.refs ≤ max_names
  pub edges : g.edges ≤ max_edges
  pub formed : g.formed ≡ well_formed (graph_in ns es g)

-- a yes or no, or what it was refused by, whose number is n's
abbrev pub told_by : {E : Type 0} → (E → ℕ) → Result Bool E → Ans Bool
told_by n r = answer_by n (λ (b : Bool). b) r

abbrev pub told_of : Result Bool Refusal → Ans Bool
told_of r = told_by number_of r

-- a lowest offset, or none
abbrev pub low_in : P.Option CodeOffset → Option ℕ
low_in None = none
low_in (Some o) = some o.0

abbrev pub low_by : {E : Type 0} → (E → ℕ) → Result (P.Option CodeOffset) E → Ans (Option ℕ)
low_by n r = answer_by n low_in r

abbrev pub low_of : Result (P.Option CodeOffset) Refusal → Ans (Option ℕ)
low_of r = low_by number_of r

abbrev pub borrows_of : BorrowedBy → Borrows
borrows_of a = record { full = low_in a.full; consistent = low_in a.consistent; mutable = low_in a.mutable }

abbrev pub borrowed_of : Result BorrowedBy Refusal → Ans Borrows
borrowed_of r = answer_of borrows_of r

-- whether an edge with these ends is looked up
abbrev pub picks : Ends → ℕ → ℕ → Bool
picks (From p) q d = eqb p.0 q
picks (To c) q d = eqb c.0 d
picks (Between p c) q d = eq_pair p.0 c.0 q d

-- The call answered a, whatever else its value says, and left the arrays ns' and es' and the struct g' where it got ns, es and g: the new graph,
-- or, refused, the same.
pub record Answers {A : Type 0} (a : Ans Graph) (ns : List ℕ) (es : List (List ℕ)) (g : BorrowGraph) (ns' : List ℕ) (es' : List (List ℕ)) (g' : BorrowGraph) (r : Result A Refusal) : Type 0 where
  pub answer : answer_of (λ (u : A). graph_in ns' es' g') r ≡ a
  pub left : graph_in ns' es' g' ≡ leaves (graph_in ns es g) a
  pub tells : Tells ns' es' g'

abbrev pub change_of : IdPair → Change
change_of x = record { old = x.old.0; new = x.new.0 }

unfoldable pub map_of : IdMap → List Change
map_of s = map change_of (take s.len s.list)
