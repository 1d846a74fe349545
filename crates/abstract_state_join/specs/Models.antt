-- What the values of the code stand for in the definitions, and what the calls answer.
use Rattle.std.specs.Prelude.{ℕ, suc, ◌+◌, ◌≡◌, List, [], ◌∷◌, length, Result, Ok, Err, IfOk}
use Rattle.meaning.specs.Limits.{max_locals}
use Rattle.meaning.specs.Answers.{ok, refuse, Outcome, done}
use Rattle.meaning.specs.BorrowGraph.{Graph, blurs_to, Change}
use Rattle.meaning.specs.AbstractState as S
use Rattle.meaning.specs.AbstractState.{State, Step, absent, value, ref, join_local, join_locals, join, join_blurs, changed, canonical, Token, of_value, of_ref, first_state}
use Rattle.meaning.specs.EntryPoints.{Running}
use Rattle.meaning.specs.Blocks.{start_machine, start_with}
use Rattle.borrow_graph.specs.Models.{graph_in, Tells}
use Rattle.borrow_graph.specs.declared.graph.BorrowGraph.{BorrowGraph}
use Rattle.vm_status.specs.declared.Refusal.{Refusal}
use Rattle.vm_status.specs.Models.{answer_of, number_of}
use Rattle.abstract_state.specs.Models.{locals_in, Words, words, Fits, running_of, state_of}
use Rattle.abstract_state_join.specs.declared.join.Joined.{Joined}

-- ---- the first state

unfoldable pub first_running : ℕ → List Token → Running
first_running l ts = (start_machine l (first_state l ts)).state

-- the local at an index, of the tokens from there on
abbrev pub first_at : ℕ → List Token → S.Local
first_at i [] = absent
first_at i (of_value ∷ ts) = value
first_at i (of_ref m ∷ ts) = ref i

-- ---- the end of a block

-- names are changed, and fresh names start at L + 1 again; the sets blurred so far still count, and the offset stays
unfoldable pub canonical_end : Running → Outcome Running
canonical_end r = done (start_with r.blurs r.offset r.root (canonical r.root (record { locals = r.locals; graph = r.graph })))

abbrev pub own_name : ℕ → S.Local → S.Local
own_name i absent = absent
own_name i value = value
own_name i (ref n) = ref i

-- the changes of names of the references in the locals from this index on
unfoldable pub renames : ℕ → List S.Local → List Change
renames i [] = []
renames i (absent ∷ xs) = renames (suc i) xs
renames i (value ∷ xs) = renames (suc i) xs
renames i (ref n ∷ xs) = record { old = n; new = i } ∷ renames (suc i) xs

-- ---- the join

-- what a local is after the join, where it is not refused
abbrev pub left : S.Local → S.Local → S.Local
left a absent = absent
left a value = a
left a (ref n) = a

-- The join of the locals a and b, on the two graphs in their arrays. Its value: how many sets it blurred.
pub record Meets (a b : S.Local) (ns : List ℕ) (es : List (List ℕ)) (g : BorrowGraph) (ns₂ : List ℕ) (es₂ : List (List ℕ)) (h : BorrowGraph)
    (ns' : List ℕ) (es' : List (List ℕ)) (g' : BorrowGraph) (ns₂' : List ℕ) (es₂' : List (List ℕ)) (h' : BorrowGraph) (r : Result ℕ Refusal) : Type 0 where
  pub step : answer_of {B = Step} (λ n. record { local = left a b; ours = graph_in ns' es' g'; theirs = graph_in ns₂' es₂' h' }) r ≡ join_local a b (graph_in ns es g) (graph_in ns₂ es₂ h)
  pub ours : Tells ns' es' g'
  pub theirs : Tells ns₂' es₂' h'
  pub blurs : IfOk r (λ n. n ≡ blurs_to (graph_in ns es g) (graph_in ns' es' g') + blurs_to (graph_in ns₂ es₂ h) (graph_in ns₂' es₂' h'))

-- The locals xs and ys joined, on the graphs g and h; the first n locals are what there is of them in the array.
pub record LocalsJoin (xs ys : List S.Local) (g h : Graph) (n : ℕ) (ls' ns' : List ℕ) (es' : List (List ℕ)) (g' : BorrowGraph) (ns₂' : List ℕ) (es₂' : List (List ℕ)) (h' : BorrowGraph) (r : Result ℕ Refusal) : Type 0 where
  pub parts : answer_of {B = S.Parts} (λ k. record { locals = locals_in ls' n; ours = graph_in ns' es' g'; theirs = graph_in ns₂' es₂' h'; blurs = k }) r ≡ join_locals xs ys g h
  pub locals : length ls' ≡ max_locals
  pub ours : Tells ns' es' g'
  pub theirs : Tells ns₂' es₂' h'

abbrev pub with_state : Running → State → Running
with_state r s = record { locals = s.locals; graph = s.graph; next = r.next; root = r.root; blurs = r.blurs; offset = r.offset }

-- A join of b into a came to t, and blurred k sets. Of both, stopped or not, only locals and graph count; all else of the first is kept.
pub record Merged (a b t : Words) (k : ℕ) : Type 0 where
  pub answer : ok (state_of t) ≡ join (state_of a) (state_of b)
  pub fits : Fits t
  pub rest : running_of t ≡ with_state (running_of a) (state_of t)
  pub stop : (t.state.violation ≡ a.state.violation) × (t.state.borrowed_at ≡ a.state.borrowed_at) × (t.state.refusal ≡ a.state.refusal)
  pub blurs : k ≡ join_blurs (state_of a) (state_of b)

-- It was refused, and no set counts as blurred.
pub record Unmerged (a b : Words) (r : Refusal) : Type 0 where
  pub answer : refuse (number_of r) ≡ join (state_of a) (state_of b)
  pub blurs : 0 ≡ join_blurs (state_of a) (state_of b)

abbrev pub Merges : Words → Words → Words → Result ℕ Refusal → Type 0
Merges a b t (Ok k) = Merged a b t k
Merges a b t (Err r) = Unmerged a b r

-- The same, with word whether it is another state than the first; refused, the first state is left, in its arrays.
abbrev pub Joins : Words → Words → List ℕ → List ℕ → List (List ℕ) → Result Joined Refusal → Type 0
Joins a b ls ns es (Ok x) = Merged a b (words ls ns es x.state) x.blurred × (x.changed ≡ changed (state_of a) (state_of (words ls ns es x.state)))
Joins a b ls ns es (Err r) = Unmerged a b r × (words ls ns es a.state ≡ a)
