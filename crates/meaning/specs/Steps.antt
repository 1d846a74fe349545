-- The instructions, the operand stack, and one instruction's step (mod.rs).
use Rattle.std.specs.Prelude.{ℕ, zero, suc, Bool, true, false, List, [], ◌∷◌, ltb, length}
use Rattle.meaning.specs.Limits.{max_operands}
use Rattle.meaning.specs.Answers.{Outcome, refused, done, needs, then}
use Rattle.meaning.specs.AbstractState.{Token, Operand}
use Rattle.meaning.specs.EntryPoints.{Running, need_ref, need_value, Answer, value_for, release_value, copy_loc, move_loc, st_loc, freeze_ref, comparison, read_ref, write_ref, borrow_loc, borrow_field, borrow_global, move_from, vector_op, vector_element_borrow, call, ret}

-- kinds 10 to 27
pub data Instr : Type 0 where
  Pop : Instr
  CopyLoc MoveLoc StLoc : ℕ → Instr
  FreezeRef Compare ReadRef WriteRef : Instr
  BorrowLoc BorrowField BorrowGlobal : ℕ → Bool → Instr
  MoveFrom : ℕ → Instr
  Call : ℕ → List ℕ → List Token → Instr
  Ret : Instr
  Values : ℕ → ℕ → Token → Instr
  MoveTo : Instr
  VectorOp : ℕ → Bool → ℕ → Token → Instr
  BorrowElement : Bool → Instr

-- the running state and the operand stack, its top first
pub record Machine : Type 0 where
  pub state : Running
  pub stack : List Operand

-- ---- the stack

-- "10: taking from an empty stack."
abbrev pub pop : {A : Type 0} → List Operand → (Operand → List Operand → Outcome A) → Outcome A
pop [] k = refused 10
pop (v ∷ vs) k = k v vs

-- "11: a value where a reference is needed, or the reverse": a reference; a value
abbrev pub pop_ref : {A : Type 0} → List Operand → (ℕ → List Operand → Outcome A) → Outcome A
pop_ref vs k = pop vs (λ v ws. need_ref v (λ n. k n ws))

abbrev pub pop_value : {A : Type 0} → List Operand → (List Operand → Outcome A) → Outcome A
pop_value vs k = pop vs (λ v ws. need_value v (k ws))

-- n values
unfoldable pub pop_values : {A : Type 0} → ℕ → List Operand → (List Operand → Outcome A) → Outcome A
pop_values zero vs k = k vs
pop_values (suc n) vs k = pop_value vs (λ ws. pop_values n ws k)

-- n operands of any kind: those taken, the last taken first, before `taken`
unfoldable pub pop_many : {A : Type 0} → ℕ → List Operand → List Operand → (List Operand → List Operand → Outcome A) → Outcome A
pop_many zero taken vs k = k taken vs
pop_many (suc n) taken vs k = pop vs (λ v ws. pop_many n (v ∷ taken) ws k)

-- "20: push onto 16 operands."
unfoldable pub push : List Operand → Operand → Running → Outcome Machine
push vs v r = needs (ltb (length vs) max_operands) 20 (done (record { state = r; stack = v ∷ vs }))

-- an entry point's operand is pushed
abbrev pub pushed : List Operand → Outcome Answer → Outcome Machine
pushed vs a = then a (λ x. push vs x.operand x.state)

-- the first one first
unfoldable pub push_all : List Operand → List Operand → Running → Outcome Machine
unfolding push
push_all vs [] r = done (record { state = r; stack = vs })
push_all vs (v ∷ ws) r = then (push vs v r) (λ m. push_all m.stack ws m.state)

-- n values or new references
unfoldable pub push_new : ℕ → Token → List Operand → Running → Outcome Machine
unfolding push
push_new zero t vs r = done (record { state = r; stack = vs })
push_new (suc n) t vs r = then (pushed vs (value_for t r)) (λ m. push_new n t m.stack m.state)

-- an entry point that gives no operand
abbrev pub unchanged : List Operand → Outcome Running → Outcome Machine
unchanged vs a = then a (λ r. done (record { state = r; stack = vs }))

-- ---- one instruction, in a routine with this many returns

-- one instruction, in a routine with this many returns: what it takes, its entry point, what it pushes
abbrev pub step_on : ℕ → Instr → List Operand → Running → Outcome Machine
step_on returns Pop vs r = pop vs (λ v ws. unchanged ws (release_value v r))
step_on returns (CopyLoc i) vs r = pushed vs (copy_loc i r)
step_on returns (MoveLoc i) vs r = pushed vs (move_loc i r)
step_on returns (StLoc i) vs r = pop vs (λ v ws. unchanged ws (st_loc i v r))
step_on returns FreezeRef vs r = pop_ref vs (λ n ws. pushed ws (freeze_ref n r))
step_on returns Compare vs r = pop vs (λ v ws. pop ws (λ w us. pushed us (comparison v w r)))
step_on returns ReadRef vs r = pop_ref vs (λ n ws. pushed ws (read_ref n r))
step_on returns WriteRef vs r = pop_ref vs (λ n ws. pop_value ws (λ us. unchanged us (write_ref n r)))
step_on returns (BorrowLoc i m) vs r = pushed vs (borrow_loc m i r)
step_on returns (BorrowField f m) vs r = pop_ref vs (λ n ws. pushed ws (borrow_field m n f r))
step_on returns (BorrowGlobal i m) vs r = pop_value vs (λ ws. pushed ws (borrow_global m i r))
step_on returns (MoveFrom i) vs r = pop_value vs (λ ws. pushed ws (move_from i r))
step_on returns (Call params acquired tokens) vs r =
    pop_many params [] vs (λ args ws. then (call args acquired tokens r) (λ a. push_all ws a.operands a.state))
step_on returns Ret vs r = pop_many returns [] vs (λ values ws. unchanged ws (ret values r))
step_on returns (Values takes pushes t) vs r = pop_values takes vs (λ ws. push_new pushes t ws r)
step_on returns MoveTo vs r = pop_value vs (λ ws. pop ws (λ v us. unchanged us (release_value v r)))
step_on returns (VectorOp takes m pushes t) vs r =
    pop_values takes vs (λ ws. pop ws (λ v us. then (vector_op v m r) (λ s. push_new pushes t us s)))
step_on returns (BorrowElement m) vs r = pop_value vs (λ ws. pop ws (λ v us. pushed us (vector_element_borrow v m r)))

unfoldable pub step : ℕ → Instr → Machine → Outcome Machine
step returns i m = step_on returns i m.stack m.state

abbrev pub is_ret : Instr → Bool
is_ret Pop = false
is_ret (CopyLoc a) = false
is_ret (MoveLoc a) = false
is_ret (StLoc a) = false
is_ret FreezeRef = false
is_ret Compare = false
is_ret ReadRef = false
is_ret WriteRef = false
is_ret (BorrowLoc a b) = false
is_ret (BorrowField a b) = false
is_ret (BorrowGlobal a b) = false
is_ret (MoveFrom a) = false
is_ret (Call a b c) = false
is_ret Ret = true
is_ret (Values a b c) = false
is_ret MoveTo = false
is_ret (VectorOp a b c d) = false
is_ret (BorrowElement a) = false
