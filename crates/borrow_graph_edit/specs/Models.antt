-- What the calls on one list of edges come to.
use Rattle.std.specs.Prelude.{ℕ, ◌≡◌, Bool, false, ◌&&◌, eqb, List, Result, Ok, Err, IfOk}
use Rattle.meaning.specs.Answers.{Ans, and_then}
use Rattle.meaning.specs.References.{EdgeSet, insert}
use Rattle.meaning.specs.BorrowGraph.{GEdge, Graph, eq_pair, set_at, set_to, blurs_by}
use Rattle.meaning.specs.Refinement.Pairs.{few_edges}
use Rattle.references.specs.Models.{edges_in, set_of}
use Rattle.borrow_graph.specs.Models.{graph_in, Answers}
use Rattle.borrow_graph.specs.declared.graph.BorrowGraph.{BorrowGraph}
use Rattle.references.specs.declared.set.BorrowEdgeSet.{BorrowEdgeSet}
use Rattle.vm_status.specs.declared.Refusal.{Refusal}
use Rattle.vm_status.specs.Models.{number_of, answer_of}
use Rattle.borrow_graph_edit.specs.declared.blurs.Changed.{Changed}

abbrev pub replaced_in : List (List ℕ) → Result ℕ Refusal → Ans (List GEdge)
replaced_in es r = answer_of (edges_in es) r

abbrev pub changed_in : List (List ℕ) → Result Changed Refusal → Ans (List GEdge)
changed_in es r = answer_of (λ c. edges_in es c.edges) r

-- what a change of a set comes to, whatever its value
abbrev pub filled_in : {A : Type 0} → BorrowEdgeSet → Result A Refusal → Ans EdgeSet
filled_in {A} s r = answer_of (λ (a : A). set_of s) r

-- refused with 21
abbrev pub is_21 : Result ℕ Refusal → Bool
is_21 (Ok n) = false
is_21 (Err e) = eqb (number_of e) 21

-- an edge put into the set of its pair, within the limit
abbrev pub add_row : GEdge → List GEdge → Ans (List GEdge)
add_row x es = and_then (insert (set_at x.parent x.child es) x.edge) (λ s. few_edges (set_to x.parent x.child s es))

-- an edge of this pair, whose set is blurred
abbrev pub blurred_at : ℕ → ℕ → GEdge → Bool
blurred_at p c x = eq_pair p c x.parent x.child && x.blurred

-- The call answered a, left what it answers in the arrays and the struct, and its value is how many sets it blurred. (Refused, blurs_by is 0 by its
-- definition.)
pub record Blurs (a : Ans Graph) (ns : List ℕ) (es : List (List ℕ)) (g : BorrowGraph) (ns' : List ℕ) (es' : List (List ℕ)) (g' : BorrowGraph) (r : Result ℕ Refusal) : Type 0 where
  pub answers : Answers a ns es g ns' es' g' r
  pub blurs : IfOk r (λ n. n ≡ blurs_by (graph_in ns es g) a)
