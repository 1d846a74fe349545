-- What the values of the code stand for in the definitions.
use Rattle.std.specs.Prelude as P
use Rattle.std.specs.Prelude.{Some, None}
use Rattle.std.specs.Prelude.{◌≡◌, ℕ, Bool, true, ◌&&◌, ltb, List, [], ◌∷◌, map, take}
use Rattle.std.proofs.Math.Option.{Option, none, some}
use Rattle.meaning.specs.Limits.{UNSAFE_RET}
use Rattle.meaning.specs.Lists.{any}
use Rattle.meaning.specs.Labels.{global_label}
use Rattle.meaning.specs.BorrowGraph.{Graph, well_formed, held, is_mutable, borrows}
use Rattle.meaning.specs.AbstractState.{Local, absent, value, ref, Operand, non_ref, reference}
use Rattle.meaning.specs.Answers.{Outcome, done, then}
use Rattle.meaning.specs.EntryPoints.{Running, Answers, put_number, operand_names, hand_over, not_acquired, needs_name, fails}
use Rattle.references.specs.declared.RefID.{RefID}
use Rattle.borrow_graph.specs.Folds.{lower_if}
use Rattle.abstract_state.specs.Models.{Words, Fits, stopped, running_of, outcome_of}
use Rattle.abstract_state_calls.specs.declared.ids.Ids.{Ids}

abbrev pub id_of : RefID → ℕ
id_of x = x.0

unfoldable pub ids_of : Ids → List ℕ
ids_of s = map id_of (take s.len s.list)

-- a state with the values that a call answers
abbrev pub answers_of : Words → List Operand → Outcome Answers
answers_of b vs = stopped b.state (record { state = running_of b; operands = vs })

-- From a to b the state does f, with these values as the answer.
pub record Calls (f : Running → Outcome Answers) (a b : Words) (vs : List Operand) : Type 0 where
  pub fits : Fits a → Fits b
  pub calls : Fits a → answers_of b vs ≡ then (outcome_of a) f

-- values handed over, and numbers that are acquired, with nothing done after
abbrev pub handing : ℕ → List Operand → Running → Outcome Running
handing c vs r = hand_over (operand_names vs) c r (done r)

abbrev pub acquiring : List ℕ → Running → Outcome Running
acquiring is r = not_acquired is r (done r)

-- a resource is borrowed, in a graph that answers; and the lowest of these that is
abbrev pub is_borrowed : Running → ℕ → Bool
is_borrowed r i = (well_formed r.graph && held r.graph r.root) && any (borrows r.root (some (global_label i))) r.graph.edges

unfoldable pub lowest_borrowed : Running → List ℕ → Option ℕ
lowest_borrowed r [] = none
lowest_borrowed r (i ∷ is) = lower_if (is_borrowed r i) i (lowest_borrowed r is)

-- a number that was found, or none; and whether n is below it
abbrev pub number_in : P.Option ℕ → Option ℕ
number_in None = none
number_in (Some n) = some n

abbrev pub is_below : ℕ → Option ℕ → Bool
is_below n none = true
is_below n (some a) = ltb n a

-- nothing may be borrowed from the frame
abbrev pub framed : Running → Outcome Running
framed s = needs_name s.graph s.root (fails s (borrows s.root none) UNSAFE_RET (done s))

-- the name that an operand or a local holds, and a name placed if there is one
abbrev pub name_of : Operand → Option ℕ
name_of non_ref = none
name_of (reference n) = some n

abbrev pub local_name_of : Local → Option ℕ
local_name_of absent = none
local_name_of value = none
local_name_of (ref n) = some n

abbrev pub placed : Option ℕ → List ℕ → List ℕ
placed none ns = ns
placed (some n) ns = put_number n ns

-- mutable, of a graph that answers
abbrev pub known_mutable : Graph → ℕ → Bool
known_mutable g n = (well_formed g && held g n) && is_mutable g n
