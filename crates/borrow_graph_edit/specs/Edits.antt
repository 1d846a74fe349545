-- A call of the graph by what it does to the edges alone.
use Rattle.std.specs.Prelude.{ℕ, ◌≤◌, ◌≡◌, refl, Bool, true, false, List, leb, length, Result, Ok, Err, IfOk, OnErr, IsErrAnd}
use Rattle.std.proofs.Common.{sym, ap, ◌∙◌, subst}
use Rattle.std.proofs.lemmas.Result.{err_from_is_err_and}
use Rattle.meaning.specs.Limits.{max_edges}
use Rattle.meaning.specs.Answers.{Ans, ok, refuse, and_then, guard}
use Rattle.meaning.specs.References.{EdgeSet, insert}
use Rattle.meaning.specs.BorrowGraph.{Name, GEdge, Graph, set_at, set_to, add_edge, limit, well_formed, newly_blurred, blurs_by}
use Rattle.meaning.specs.Refinement.Pairs.{few_edges}
use Rattle.references.specs.Models.{edges_in, names_in}
use Rattle.vm_status.specs.declared.Refusal.{Refusal}
use Rattle.vm_status.specs.Models.{number_of, answer_of}
use Rattle.borrow_graph.specs.Models.{graph_in, Tells}
use Rattle.borrow_graph.specs.ModelLaws.{declines, accepts}
use Rattle.borrow_graph.specs.declared.graph.BorrowGraph.{BorrowGraph}
use Rattle.borrow_graph_edit.specs.Models.{changed_in, add_row, Blurs}
use Rattle.borrow_graph_edit.specs.declared.blurs.Changed.{Changed}

-- the graph of these names and edges
abbrev pub graph_with : List Name → List GEdge → Graph
graph_with ns es = record { names = ns; edges = es }

-- The rows and their number are those of the answer, with its names ns; refused, they are what they were.
abbrev pub Edits : Ans Graph → List Name → List (List ℕ) → ℕ → List (List ℕ) → Result Changed Refusal → Type 0
Edits a ns es m es' r =
    (answer_of (λ c. graph_with ns (edges_in es' c.edges)) r ≡ a) × (length es' ≡ max_edges) × OnErr r (es' ≡ es)
    × IfOk r (λ c. c.blurred ≡ newly_blurred (edges_in es m) (edges_in es' c.edges))

-- ---- an answer by its value and by what stands for that

pub answer_as : {A B C : Type 0} (f : A → B) (h : B → C) (r : Result A Refusal) (a : Ans B) → answer_of f r ≡ a → answer_of (λ x. h (f x)) r ≡ and_then a (λ b. ok (h b))
answer_as {A} {B} {C} f h r a e = go r ∙ ap (λ (b : Ans B). and_then b (λ s. ok (h s))) e
  where
    go : (r : Result A Refusal) → answer_of (λ x. h (f x)) r ≡ and_then (answer_of f r) (λ b. ok (h b))
    go (Ok x) = refl
    go (Err n) = refl

-- a turn of a loop: a step a that is answered goes on, one that is refused ends it
module _ {A B : Type 0} (a : Ans A) (f : A → Ans B) (r : Ans B) (h : and_then a f ≡ r) where
  pub turn_on : (t : A) → ok t ≡ a → f t ≡ r
  turn_on t e = ap (λ (b : Ans A). and_then b f) e ∙ h

  pub turn_off : (n : ℕ) → refuse n ≡ a → refuse n ≡ r
  turn_off n e = ap (λ (b : Ans A). and_then b f) e ∙ h

-- ---- an edge put in

add_row_lem : (x : GEdge) (ns : List Name) (es : List GEdge) → and_then (add_row x es) (λ fs. ok (graph_with ns fs)) ≡ and_then (add_edge (graph_with ns es) x) limit
unfolding add_edge limit
add_row_lem x ns es = go (insert (set_at x.parent x.child es) x.edge)
  where
    few : (fs : List GEdge) (b : Bool) → and_then (guard b 21 (ok fs)) (λ ds. ok (graph_with ns ds)) ≡ guard b 21 (ok (graph_with ns fs))
    few fs true = refl
    few fs false = refl

    go : (a : Ans EdgeSet) → and_then (and_then a (λ s. few_edges (set_to x.parent x.child s es))) (λ fs. ok (graph_with ns fs))
        ≡ and_then (and_then a (λ s. ok (graph_with ns (set_to x.parent x.child s es)))) (λ g. guard (leb (length g.edges) 96) 21 (ok g))
    go (ok s) = few (set_to x.parent x.child s es) (leb (length (set_to x.parent x.child s es)) 96)
    go (refuse n) = refl

-- what add_edge does to the rows
abbrev pub Added : GEdge → List (List ℕ) → ℕ → List (List ℕ) → Result Changed Refusal → Type 0
Added x es m es' r =
    (length es' ≡ max_edges) × (changed_in es' r ≡ add_row x (edges_in es m)) × OnErr r (es' ≡ es)
    × IfOk r (λ c. c.blurred ≡ newly_blurred (edges_in es m) (edges_in es' c.edges))

pub added_edits : (x : GEdge) (es : List (List ℕ)) (m : ℕ) (es' : List (List ℕ)) (r : Result Changed Refusal) → Added x es m es' r → (ns : List Name)
    → Edits (and_then (add_edge (graph_with ns (edges_in es m)) x) limit) ns es m es' r
added_edits x es m es' r d ns =
    (answer_as (λ c. edges_in es' c.edges) (graph_with ns) r (add_row x (edges_in es m)) d.1 ∙ add_row_lem x ns (edges_in es m), d.0, d.2, d.3)

-- ---- the call's answer

module _ (a : Ans Graph) (ns : List ℕ) (es : List (List ℕ)) (g : BorrowGraph) (t : Tells ns es g) where
  pub answers_refused : (n : Refusal) → a ≡ refuse (number_of n) → Blurs a ns es g ns es g (Err n)
  answers_refused n e = record { answers = declines a ns es g n e t; blurs = tt }

  module _ (es' : List (List ℕ)) (ms : List Name) where
    pub answers_err : (n : Refusal) → Edits a ms es g.edges es' (Err n) → Blurs a ns es g ns es' g (Err n)
    answers_err n e = subst (λ (fs : List (List ℕ)). Blurs a ns es g ns fs g (Err n)) (sym e.2) (answers_refused n (sym e.0))

    -- names may be taken out too
    pub answers_ok : ((h : Graph) → a ≡ ok h → well_formed h ≡ true) → (c : Changed) → Edits a ms es g.edges es' (Ok c) → c.edges ≤ 96
        → (ns' : List ℕ) (n : ℕ) → names_in ns' n ≡ ms → n ≤ 48 → length ns' ≡ 48 → (f : Bool) → f ≡ true
        → Blurs a ns es g ns' es' (record { refs = n; edges = c.edges; formed = f }) (Ok c.blurred)
    answers_ok law c e few ns' n p k l f y =
        let q : a ≡ ok (graph_with (names_in ns' n) (edges_in es' c.edges)) = sym e.0 ∙ (λ i. ok (graph_with (sym p i) (edges_in es' c.edges))) in
        let h : BorrowGraph = record { refs = n; edges = c.edges; formed = f } in
        record {
          answers = accepts a ns es g ns' es' h c.blurred q
              (record { words = l; rows = e.1; refs = k; edges = few; formed = y ∙ sym (law (graph_with (names_in ns' n) (edges_in es' c.edges)) q) });
          blurs = e.3 ∙ sym (ap (blurs_by (graph_in ns es g)) q);
        }

-- ---- what a `?` passes up

pub err_is : {A : Type 0} (r : Result A Refusal) (e : Refusal) → IsErrAnd r (λ x. x ≡ e) → r ≡ Err e
err_is r e h = let z = err_from_is_err_and r h in z.1 ∙ ap Err z.2
