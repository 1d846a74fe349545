-- What the structs of the code and their arrays mean in the definitions.
use Rattle.std.specs.Prelude.{◌≡◌, ℕ, Bool, true, false, List, [], ◌∷◌, Result, ⊤}
use Rattle.meaning.specs.AbstractState.{State, Operand}
use Rattle.meaning.specs.Answers.{Outcome, done, violated, refused, then}
use Rattle.meaning.specs.EntryPoints.{Running}
use Rattle.meaning.specs.Steps as T
use Rattle.meaning.specs.Loop as L
use Rattle.meaning.specs.Loop.{Block}
use Rattle.abstract_state.specs.Models.{Words, words, Fits, locals_in, stopped, running_of, outcome_of, answer_of}
use Rattle.listing.specs.declared.decode.Instruction.{Instruction}
use Rattle.listing.specs.declared.decode.Instruction.TheVariants.{Pop, CopyLoc, MoveLoc, StLoc, FreezeRef, Compare, ReadRef, WriteRef, BorrowLoc, BorrowField, BorrowGlobal, MoveFrom, Call, Ret, Values, MoveTo, VectorOp, BorrowElement}
use Rattle.vm_status.specs.declared.Refusal.{Refusal}
use Rattle.operand_stack.specs.Models.{held, answered}
use Rattle.operand_stack.specs.declared.OperandStack.{OperandStack}
use Rattle.reference_safety.specs.declared.machine.Machine.{Machine}

abbrev pub with : List Operand → Running → T.Machine
with vs r = record { state = r; stack = vs }

-- a machine with its arrays
pub record Board : Type 0 where
  pub words : Words
  pub stack : OperandStack

abbrev pub board : List ℕ → List ℕ → List (List ℕ) → Machine → Board
board ls ns es m = record { words = words ls ns es m.state; stack = m.stack }

abbrev pub machine_of : Board → Outcome T.Machine
machine_of a = stopped a.words.state (with (held a.stack) (running_of a.words))

-- what a step's answer does to a machine: a refusal stops it
abbrev pub heeding : Result ⊤ Refusal → T.Machine → Outcome T.Machine
heeding r m = answered (λ u. m) r

-- From a to b the machine does f. Of arrays that fit no machine nothing is said.
pub record Steps (f : T.Machine → Outcome T.Machine) (a b : Board) : Type 0 where
  pub fits : Fits a.words → Fits b.words
  pub steps : Fits a.words → machine_of b ≡ then (machine_of a) f

-- the same, where the step answers r and leaves b
pub record StepsTo (f : T.Machine → Outcome T.Machine) (a : Board) (r : Result ⊤ Refusal) (b : Board) : Type 0 where
  pub fits : Fits a.words → Fits b.words
  pub steps : Fits a.words → then (machine_of b) (heeding r) ≡ then (machine_of a) f

-- the same, from a state
pub record Runs (f : Running → Outcome T.Machine) (a : Words) (r : Result ⊤ Refusal) (b : Board) : Type 0 where
  pub fits : Fits a → Fits b.words
  pub runs : Fits a → then (machine_of b) (heeding r) ≡ then (outcome_of a) f

-- what a answered was pushed on the stack vs
pub record Pushed (a : Words) (vs : List Operand) (r : Result ⊤ Refusal) (b : Board) : Type 0 where
  pub fits : Fits a → Fits b.words
  pub pushes : Fits a → then (machine_of b) (heeding r) ≡ T.pushed vs (answer_of a)

-- whether an instruction is on references, and so leaves the locals alone
abbrev pub on_references : Instruction → Bool
on_references Pop = false
on_references (CopyLoc a) = false
on_references (MoveLoc a) = false
on_references (StLoc a) = false
on_references FreezeRef = true
on_references Compare = true
on_references ReadRef = true
on_references WriteRef = true
on_references (BorrowLoc a b) = true
on_references (BorrowField a b) = true
on_references (BorrowGlobal a b) = true
on_references (MoveFrom a) = false
on_references (Call a) = false
on_references Ret = false
on_references (Values a b c) = false
on_references MoveTo = false
on_references (VectorOp a b c d) = true
on_references (BorrowElement a) = true

-- ---- blocks

-- a state in a routine of this many locals
abbrev pub state_in : ℕ → Words → State
state_in l a = record { locals = locals_in a.locals l; graph = (running_of a).graph }

-- the end of a block with these successors: its state is for them
abbrev pub end_for : List ℕ → Running → L.Result State
end_for [] r = L.Result.returned r.blurs
end_for (e ∷ es) r = L.Result.ended r.blurs (record { locals = r.locals; graph = r.graph })

-- an outcome at a place
abbrev pub placed : List ℕ → ℕ → Outcome Running → L.Result State
placed es p (done r) = end_for es r
placed es p (violated k c a) = L.Result.violated k c p a
placed es p (refused n) = L.Result.refused n p

-- what a run of block b came to, that left these words and this place
abbrev pub ran_of : Block → Words → ℕ → L.Result State
ran_of b a p = placed b.successors p (outcome_of a)

-- From a to c, with the place p, block b came to o. Of arrays that fit no state nothing is said.
pub record Ends (b : Block) (a c : Words) (p : ℕ) (o : L.Result State) : Type 0 where
  pub fits : Fits a → Fits c
  pub ends : Fits a → ran_of b c p ≡ o
