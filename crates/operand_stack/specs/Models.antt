-- What the stack and its answers stand for in the definitions.
use Rattle.std.specs.Prelude.{ℕ, List, [], ◌∷◌, reverse, length, ltb, Result, Ok, Err}
use Rattle.meaning.specs.Answers.{Outcome, done, refused, needs}
use Rattle.meaning.specs.AbstractState.{Operand}
use Rattle.meaning.specs.Steps as T
use Rattle.vm_status.specs.Models.{number_of}
use Rattle.vm_status.specs.declared.Refusal.{Refusal}
use Rattle.abstract_state.specs.Models.{operands_in}
use Rattle.abstract_state.specs.declared.state.Operands.{Operands}
use Rattle.operand_stack.specs.declared.OperandStack.{OperandStack}

-- top first
unfoldable pub stack_in : List ℕ → ℕ → List Operand
stack_in ws n = reverse (operands_in ws n)

abbrev pub stack_of : Operands → List Operand
stack_of s = stack_in s.list s.len

abbrev pub held : OperandStack → List Operand
held s = stack_of s.operands

-- an answer of the stack: what it stands for, or the refusal
abbrev pub answered : {A B : Type 0} → (A → B) → Result A Refusal → Outcome B
answered f (Ok a) = done (f a)
answered f (Err r) = refused (number_of r)

-- what was taken, and what is left
pub record Taken (A : Type 0) : Type 0 where
  pub what : A
  pub rest : List Operand

abbrev pub taken : {A : Type 0} → A → List Operand → Outcome (Taken A)
taken a vs = done (record { what = a; rest = vs })

abbrev pub took : {A : Type 0} → A → Operands → Taken A
took a s = record { what = a; rest = stack_of s }

-- the takings of a step, with what they take as the answer
abbrev pub pop_one : List Operand → Outcome (Taken Operand)
pop_one vs = T.pop vs taken

abbrev pub pop_one_ref : List Operand → Outcome (Taken ℕ)
pop_one_ref vs = T.pop_ref vs taken

abbrev pub pop_some : ℕ → List Operand → Outcome (Taken (List Operand))
pop_some n vs = T.pop_many n [] vs taken

abbrev pub pop_rest : ℕ → List Operand → Outcome (List Operand)
pop_rest n vs = T.pop_values n vs done

abbrev pub pop_under : ℕ → List Operand → Outcome (Taken Operand)
pop_under n vs = T.pop_values n vs pop_one

-- pushes of operands that are given, the first one first
unfoldable pub push_each : List Operand → List Operand → Outcome (List Operand)
push_each vs [] = done vs
push_each vs (v ∷ ws) = needs (ltb (length vs) 16) 20 (push_each (v ∷ vs) ws)
