-- What the arrays and structs of the code stand for in the definitions.
use Rattle.std.specs.Prelude.{◌≡◌, ℕ, ◌/◌, ◌%◌, Bool, cond, List, map, length, take, ◌==◌, nat_lt}
use Rattle.std.specs.Prelude as P
use Rattle.std.specs.Prelude.{Some, None}
use Rattle.std.proofs.Math.Option.{Option}
use Rattle.meaning.specs.Limits.{max_locals, u16_end}
use Rattle.meaning.specs.Area.{local_in}
use Rattle.meaning.specs.Answers.{Ans, Outcome, done, violated, refused, then, lift, fails_at}
use Rattle.meaning.specs.AbstractState as S
use Rattle.meaning.specs.AbstractState.{State, Operand, non_ref, reference}
use Rattle.meaning.specs.EntryPoints as R
use Rattle.meaning.specs.EntryPoints.{Running, Answer}
use Rattle.borrow_graph.specs.Models.{graph_in, Tells}
use Rattle.abstract_state.specs.declared.state.AbstractValue.{AbstractValue}
use Rattle.abstract_state.specs.declared.state.AbstractValue.TheVariants.{Reference, NonReference}
use Rattle.abstract_state.specs.declared.state.Operands.{Operands}
use Rattle.abstract_state.specs.declared.state.AbstractState.{AbstractState}

abbrev pub operand_of : AbstractValue → Operand
operand_of (Reference n) = reference n.0
operand_of NonReference = non_ref

-- an operand's word: as a local's that is present
abbrev pub operand_in : ℕ → Operand
operand_in w = cond (nat_lt (w / u16_end % 4) 2) non_ref (reference (w % u16_end))

unfoldable pub operands_in : List ℕ → ℕ → List Operand
operands_in ws n = map operand_in (take n ws)

abbrev pub operands_of : Operands → List Operand
operands_of s = operands_in s.list s.len

abbrev pub local_of : P.Option AbstractValue → S.Local
local_of (Some v) = R.local_of (operand_of v)
local_of None = S.Local.absent

-- the first n locals
unfoldable pub locals_in : List ℕ → ℕ → List S.Local
locals_in ws n = map local_in (take n ws)

-- a state with its arrays
pub record Words : Type 0 where
  pub locals : List ℕ
  pub names : List ℕ
  pub edges : List (List ℕ)
  pub state : AbstractState

abbrev pub words : List ℕ → List ℕ → List (List ℕ) → AbstractState → Words
words ls ns es s = record { locals = ls; names = ns; edges = es; state = s }

-- that the arrays have their lengths, and the graph's struct tells the truth of them
pub record Fits (a : Words) : Type 0 where
  pub locals : length a.locals ≡ max_locals
  pub tells : Tells a.names a.edges a.state.borrow_graph

abbrev pub running_of : Words → Running
running_of a = record {
  locals = locals_in a.locals a.state.num_locals;
  graph = graph_in a.names a.edges a.state.borrow_graph;
  next = a.state.next_id;
  root = a.state.num_locals;
  blurs = a.state.blurred;
  offset = a.state.offset.0;
}

abbrev pub state_of : Words → State
state_of a = record { locals = (running_of a).locals; graph = (running_of a).graph }

-- done, or where it stopped: the violation's code, with the number of sets blurred and the offset of the borrow, or the refusal's number
abbrev pub halted : {A : Type 0} → ℕ → ℕ → ℕ → ℕ → A → Outcome A
halted k v o n a = cond (v == 0) (cond (n == 0) (done a) (refused n)) (violated k v o)

-- what a state's numbers say of it
abbrev pub stopped : {A : Type 0} → AbstractState → A → Outcome A
stopped s a = halted s.blurred s.violation s.borrowed_at.0 s.refusal a

abbrev pub outcome_of : Words → Outcome Running
outcome_of a = stopped a.state (running_of a)

abbrev pub answer_of : Words → Outcome Answer
answer_of a = stopped a.state (record { state = running_of a; operand = operand_of a.state.value })

-- what a question's answer does to a state: refused where the question was; then, nothing, or the violation where an edge was found, or the
-- refusal of a no
abbrev pub heeding : Ans Bool → Running → Outcome Running
heeding t s = then (lift t) (λ b. done s)

-- (a code 0 is no violation)
abbrev pub failing : Ans (Option ℕ) → ℕ → Running → Outcome Running
failing t c s = then (lift t) (λ o. cond (c == 0) (done s) (fails_at s.blurs o c (done s)))

abbrev pub needing : Ans Bool → ℕ → Running → Outcome Running
needing t n s = then (lift t) (λ b. halted 0 0 0 (cond b 0 n) s)

-- From a to b the state does f. Of words that fit no state nothing is said.
pub record Does (f : Running → Outcome Running) (a b : Words) : Type 0 where
  pub fits : Fits a → Fits b
  pub does : Fits a → outcome_of b ≡ then (outcome_of a) f

-- the same, with an operand as the answer
pub record Gives (f : Running → Outcome Answer) (a b : Words) : Type 0 where
  pub fits : Fits a → Fits b
  pub gives : Fits a → answer_of b ≡ then (outcome_of a) f
