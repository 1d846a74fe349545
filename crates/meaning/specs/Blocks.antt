-- One block's run, from its kept state to the state that its successors get; and a routine's blocks as the loop runs them.
use Rattle.std.specs.Prelude.{ℕ, suc, ◌-◌, List, [], ◌∷◌, take, drop, get_or}
use Rattle.meaning.specs.Answers.{Outcome, done, violated, refused}
use Rattle.meaning.specs.AbstractState.{Token, State, canonical, Operand}
use Rattle.meaning.specs.EntryPoints.{Running}
use Rattle.meaning.specs.Steps.{Instr, Machine, step}
use Rattle.meaning.specs.Loop.{Block, Result, no_block}

-- A listing's routine: kind 1's parameters, L and number of returns; the blocks as listed, "the traversal order"; the instructions, each at
-- its offset.
pub record Routine : Type 0 where
  pub params : List Token
  pub locals : ℕ
  pub returns : ℕ
  pub blocks : List Block
  pub code : List Instr

-- the instructions from the entry to the exit
unfoldable pub instrs_of : Block → List Instr → List Instr
instrs_of b is = take (suc (b.exit - b.entry)) (drop b.entry is)

-- "Frame root is name L; fresh names start at L + 1 in each block"; k sets were blurred before, and o is the offset of what runs
abbrev pub start_with : ℕ → ℕ → ℕ → State → Running
start_with k o l s = record { locals = s.locals; graph = s.graph; next = suc l; root = l; blurs = k; offset = o }

-- "here each block starts with an empty stack"
abbrev pub start_machine : ℕ → State → Machine
start_machine l s = record { state = start_with 0 0 l s; stack = [] }

-- "its end state, renamed, goes to its successors": nothing is renamed where there is none
abbrev pub end_of : Block → List ℕ → Running → Result State
end_of b [] r = Result.returned r.blurs
end_of b (e ∷ es) r = Result.ended r.blurs (canonical r.root (record { locals = r.locals; graph = r.graph }))

-- "14: operands left at block end", at the "exit of the block just run"
abbrev pub finish : Block → Running → List Operand → Result State
finish b r [] = end_of b b.successors r
finish b r (v ∷ vs) = Result.refused 14 b.exit

-- the outcome of the instruction at this offset, which is the place of what it refuses: done, the block goes on
abbrev pub settle : ℕ → Outcome Machine → (Machine → Result State) → Result State
settle o (done m) k = k m
settle o (violated n c a) k = Result.violated n c o a
settle o (refused n) k = Result.refused n o

-- the instruction at this offset runs
abbrev pub machine_at : ℕ → Machine → Machine
machine_at o m = record {
  state = record { locals = m.state.locals; graph = m.state.graph; next = m.state.next; root = m.state.root; blurs = m.state.blurs; offset = o };
  stack = m.stack;
}

-- the instructions in order, the first one at this offset (the Rust's execute_block)
unfoldable pub run_from : ℕ → Block → ℕ → List Instr → Machine → Result State
unfolding step
run_from returns b o [] m = finish b m.state m.stack
run_from returns b o (i ∷ is) m = settle o (step returns i (machine_at o m)) (λ n. run_from returns b (suc o) is n)

-- "it runs from its kept state"
unfoldable pub run_block : Routine → Block → State → Result State
unfolding run_from instrs_of
run_block q b s = run_from q.returns b b.entry (instrs_of b q.code) (start_machine q.locals s)

-- the block at a position of the list, as the loop runs it
unfoldable pub exec : Routine → ℕ → State → Result State
unfolding run_block
exec q i s = run_block q (get_or q.blocks i no_block) s
