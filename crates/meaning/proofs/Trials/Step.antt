-- Whole routines run that document 01 does not mark.
use Rattle.std.specs.Prelude.{ℕ, ◌-◌, true, Bool, false, [], ◌∷◌, List, ◌≡◌, refl, length}
use Rattle.meaning.specs.Lists.{all}
use Rattle.meaning.specs.References.{insert, eq_edge, eq_path, prefix, has, put, lt_edge, lt_path, set_ok, ordered, short, is_blur}
use Rattle.meaning.specs.BorrowGraph.{splice, set_at, release, well_formed, holds, spliced, without, add_all, add_edge, set_to, limit, ascending, in_order, new_name, borrow_weak, borrow_strong, put_name, renamed, rename_names, rename_edges, put_edge, is_mutable, lowest_of}
use Rattle.meaning.specs.AbstractState.{of_ref, canonical, own_names, new_name_of, local_holding, State, join, changed, first_state, first_locals, first_names, of_value, Token, join_blurs}
use Rattle.meaning.specs.EntryPoints.{new_ref, add_borrow, add_local_borrow, release_name, value_for, move_loc, st_loc, borrow_loc, put_number, ascend, release_all, borrow_from, hand_over, none_borrowed, not_acquired, return_values, call, ret, add_copy, add_field_borrow, add_resource_borrow, release_value, copy_loc, freeze_ref, comparison, read_ref, write_ref, borrow_field, borrow_global, move_from, vector_op, vector_element_borrow}
use Rattle.meaning.specs.Steps.{MoveLoc, StLoc, Ret, Call, pop_values, pop_many, push, push_all, push_new, step, Values, Instr, Pop, CopyLoc, FreezeRef, Compare, ReadRef, WriteRef, BorrowLoc, BorrowField, BorrowGlobal, MoveFrom, MoveTo, VectorOp, BorrowElement}
use Rattle.meaning.specs.Blocks.{Routine, instrs_of, run_from, run_block, exec}
use Rattle.meaning.specs.Loop.{run, verdict, lowest, accept, propagate, turn as loop_step, turns, start_slots, position, refusal, Verdict, violation, Block}
use Rattle.meaning.proofs.Marked.{is_verdict}

-- move 0 to local 1, local 1 absent before; then a call that takes it and returns a reference; then return it: accepted
abbrev moved : Routine
moved = record {
  params = of_ref true ∷ [];
  locals = 2;
  returns = 1;
  blocks = record { entry = 0; exit = 1; successors = 2 ∷ [] } ∷ record { entry = 2; exit = 4; successors = [] } ∷ [];
  code = MoveLoc 0 ∷ StLoc 1 ∷ MoveLoc 1 ∷ Call 1 (7 ∷ []) (of_ref true ∷ []) ∷ Ret ∷ [];
}

pub moved_accepted : verdict moved.blocks (run State join join_blurs changed (exec moved) moved.blocks 10 (first_state moved.locals moved.params)) ≡ accept
unfolding first_state first_locals first_names run turns loop_step propagate start_slots position verdict lowest exec run_block run_from instrs_of step pop_values pop_many push push_all push_new value_for new_ref st_loc borrow_loc move_loc add_local_borrow add_borrow lowest_of is_mutable new_name borrow_strong borrow_weak put_name well_formed holds ascending set_at set_to set_ok ordered short in_order is_blur add_all add_edge insert limit has put prefix eq_edge eq_path lt_edge lt_path canonical renamed rename_names rename_edges put_edge own_names new_name_of local_holding call not_acquired none_borrowed hand_over return_values borrow_from release_all release_name release spliced without splice ascend put_number ret
moved_accepted = refl

-- an exchange of two references with an operand left: 14
abbrev left : Routine
left = record {
  params = of_ref true ∷ of_ref true ∷ [];
  locals = 2;
  returns = 0;
  blocks = record { entry = 0; exit = 4; successors = 5 ∷ [] } ∷ record { entry = 5; exit = 5; successors = [] } ∷ [];
  code = Values 0 1 of_value ∷ MoveLoc 0 ∷ MoveLoc 1 ∷ StLoc 0 ∷ StLoc 1 ∷ Ret ∷ [];
}

pub left_refused : verdict left.blocks (run State join join_blurs changed (exec left) left.blocks 10 (first_state left.locals left.params)) ≡ refusal 14 4
unfolding first_state first_locals first_names run turns loop_step propagate start_slots position verdict lowest exec run_block run_from instrs_of step pop_values pop_many push push_all push_new value_for new_ref st_loc borrow_loc move_loc add_local_borrow add_borrow lowest_of is_mutable new_name borrow_strong borrow_weak put_name well_formed holds ascending set_at set_to set_ok ordered short in_order is_blur add_all add_edge insert limit has put prefix eq_edge eq_path lt_edge lt_path canonical renamed rename_names rename_edges put_edge own_names new_name_of local_holding call not_acquired none_borrowed hand_over return_values borrow_from release_all release_name release spliced without splice ascend put_number ret
left_refused = refl

-- ---- one block without successors, for each number of document 01

-- L, the parameters, the number of returns, the instructions
unfoldable pub whole : ℕ → List Token → ℕ → List Instr → Verdict → Bool
unfolding run verdict exec first_state
whole l ts n is v =
    let b : List Block = record { entry = 0; exit = length is - 1; successors = [] } ∷ [] in
    let q : Routine = record { params = ts; locals = l; returns = n; blocks = b; code = is } in
    is_verdict (verdict b (run State join join_blurs changed (exec q) b 3 (first_state l q.params))) v

abbrev load : Instr
load = Values 0 1 of_value

abbrev mut : Token
mut = of_ref true

abbrev imm : Token
imm = of_ref false

unfoldable pub routines : List Bool
unfolding whole
routines =
    whole 1 (of_value ∷ []) 0 (BorrowLoc 0 true ∷ CopyLoc 0 ∷ []) (violation 101 1 0)
    ∷ whole 1 (of_value ∷ []) 0 (BorrowLoc 0 false ∷ CopyLoc 0 ∷ Pop ∷ Pop ∷ []) accept
    ∷ whole 1 (of_value ∷ []) 0 (BorrowLoc 0 true ∷ Values 0 15 of_value ∷ CopyLoc 0 ∷ []) (violation 101 2 0)
    ∷ whole 1 (of_value ∷ []) 0 (BorrowLoc 0 false ∷ MoveLoc 0 ∷ []) (violation 102 1 0)
    ∷ whole 1 (of_value ∷ []) 0 (BorrowLoc 0 false ∷ load ∷ StLoc 0 ∷ []) (violation 103 2 0)
    ∷ whole 2 (of_value ∷ []) 0 (BorrowLoc 0 false ∷ StLoc 1 ∷ StLoc 0 ∷ []) (refusal 10 2)
    ∷ whole 1 (mut ∷ []) 0 (CopyLoc 0 ∷ MoveLoc 0 ∷ FreezeRef ∷ []) (violation 104 2 0)
    ∷ whole 1 (mut ∷ []) 0 (MoveLoc 0 ∷ FreezeRef ∷ ReadRef ∷ Pop ∷ []) accept
    ∷ whole 1 (mut ∷ []) 0 (CopyLoc 0 ∷ MoveLoc 0 ∷ ReadRef ∷ []) (violation 105 2 0)
    ∷ whole 1 (mut ∷ []) 0 (CopyLoc 0 ∷ CopyLoc 0 ∷ Compare ∷ []) (violation 105 2 0)
    ∷ whole 2 (mut ∷ []) 0 (CopyLoc 0 ∷ StLoc 1 ∷ MoveLoc 0 ∷ MoveLoc 1 ∷ Compare ∷ []) (violation 105 4 0)
    ∷ whole 2 (mut ∷ mut ∷ []) 0 (CopyLoc 0 ∷ CopyLoc 1 ∷ MoveLoc 0 ∷ MoveLoc 1 ∷ Compare ∷ []) (violation 105 4 1)
    ∷ whole 1 (imm ∷ []) 0 (CopyLoc 0 ∷ CopyLoc 0 ∷ Compare ∷ Pop ∷ []) accept
    ∷ whole 2 (mut ∷ []) 0 (CopyLoc 0 ∷ StLoc 1 ∷ load ∷ MoveLoc 0 ∷ WriteRef ∷ []) (violation 106 4 0)
    ∷ whole 1 (mut ∷ []) 0 (load ∷ MoveLoc 0 ∷ WriteRef ∷ []) accept
    ∷ whole 1 (of_value ∷ []) 0 (BorrowLoc 0 true ∷ BorrowLoc 0 false ∷ []) (violation 107 1 0)
    ∷ whole 1 (of_value ∷ []) 0 (load ∷ BorrowLoc 0 true ∷ BorrowLoc 0 true ∷ MoveLoc 0 ∷ []) (violation 102 3 2)
    ∷ whole 1 (of_value ∷ []) 0 (load ∷ BorrowLoc 0 true ∷ BorrowLoc 0 true ∷ FreezeRef ∷ []) (violation 104 3 1)
    ∷ whole 1 [] 0 (BorrowLoc 0 true ∷ BorrowLoc 0 true ∷ Pop ∷ Pop ∷ []) accept
    ∷ whole 1 (mut ∷ []) 0 (CopyLoc 0 ∷ MoveLoc 0 ∷ BorrowField 5 true ∷ []) (violation 108 2 0)
    ∷ whole 1 (mut ∷ []) 0 (CopyLoc 0 ∷ BorrowField 5 true ∷ MoveLoc 0 ∷ BorrowField 5 false ∷ []) (violation 108 3 1)
    ∷ whole 1 (mut ∷ []) 0 (CopyLoc 0 ∷ BorrowField 5 true ∷ MoveLoc 0 ∷ BorrowField 6 false ∷ Pop ∷ Pop ∷ []) accept
    ∷ whole 1 (imm ∷ []) 0 (MoveLoc 0 ∷ BorrowField 5 true ∷ Pop ∷ []) accept
    ∷ whole 0 [] 0 (load ∷ BorrowGlobal 3 true ∷ load ∷ BorrowGlobal 3 false ∷ []) (violation 109 3 1)
    ∷ whole 0 [] 0 (load ∷ BorrowGlobal 3 false ∷ load ∷ BorrowGlobal 3 true ∷ []) (violation 109 3 1)
    ∷ whole 0 [] 0 (load ∷ BorrowGlobal 3 true ∷ load ∷ BorrowGlobal 4 true ∷ Pop ∷ Pop ∷ []) accept
    ∷ whole 0 [] 0 (load ∷ BorrowGlobal 3 false ∷ load ∷ MoveFrom 3 ∷ []) (violation 109 3 1)
    ∷ whole 0 [] 0 (load ∷ BorrowGlobal 3 false ∷ Call 0 (5 ∷ 3 ∷ []) [] ∷ []) (violation 109 2 1)
    ∷ whole 0 [] 0 (load ∷ BorrowGlobal 5 false ∷ load ∷ BorrowGlobal 3 false ∷ Call 0 (5 ∷ 3 ∷ []) [] ∷ []) (violation 109 4 3)
    ∷ whole 0 [] 0 (load ∷ BorrowGlobal 3 true ∷ Call 1 [] (imm ∷ mut ∷ []) ∷ BorrowField 1 true ∷ load ∷ BorrowGlobal 3 false ∷ []) (violation 109 5 3)
    ∷ whole 0 [] 0 (load ∷ BorrowGlobal 3 true ∷ Call 1 [] (imm ∷ mut ∷ []) ∷ BorrowField 1 true ∷ load ∷ BorrowGlobal 3 true ∷ []) (violation 109 5 2)
    ∷ whole 2 (mut ∷ []) 0 (CopyLoc 0 ∷ StLoc 1 ∷ MoveLoc 0 ∷ VectorOp 0 true 0 of_value ∷ []) (violation 110 3 0)
    ∷ whole 2 (mut ∷ []) 0 (CopyLoc 0 ∷ StLoc 1 ∷ MoveLoc 0 ∷ VectorOp 0 false 1 of_value ∷ Pop ∷ []) accept
    ∷ whole 2 (mut ∷ []) 0 (CopyLoc 0 ∷ StLoc 1 ∷ MoveLoc 0 ∷ load ∷ BorrowElement true ∷ []) (violation 111 4 0)
    ∷ whole 2 (mut ∷ []) 0 (CopyLoc 0 ∷ StLoc 1 ∷ MoveLoc 0 ∷ load ∷ BorrowElement false ∷ Pop ∷ []) accept
    ∷ whole 2 (mut ∷ []) 0 (CopyLoc 0 ∷ StLoc 1 ∷ MoveLoc 0 ∷ Call 1 [] [] ∷ []) (violation 112 3 0)
    ∷ whole 2 (mut ∷ mut ∷ []) 0 (CopyLoc 0 ∷ CopyLoc 1 ∷ MoveLoc 1 ∷ MoveLoc 0 ∷ Call 2 [] [] ∷ []) (violation 112 4 1)
    ∷ whole 2 (mut ∷ imm ∷ []) 2 (MoveLoc 0 ∷ MoveLoc 1 ∷ Call 2 [] (mut ∷ imm ∷ []) ∷ Ret ∷ []) accept
    ∷ whole 1 (of_value ∷ []) 0 (BorrowLoc 0 true ∷ Call 1 [] [] ∷ MoveLoc 0 ∷ Pop ∷ []) accept
    ∷ whole 1 (of_value ∷ []) 0 (BorrowLoc 0 true ∷ Call 1 [] (mut ∷ []) ∷ MoveLoc 0 ∷ []) (violation 102 2 1)
    ∷ whole 2 (mut ∷ []) 0 (load ∷ BorrowGlobal 3 false ∷ CopyLoc 0 ∷ StLoc 1 ∷ MoveLoc 0 ∷ Call 1 (3 ∷ []) [] ∷ []) (violation 109 5 1)
    ∷ whole 1 (of_value ∷ []) 1 (BorrowLoc 0 false ∷ Ret ∷ []) (violation 113 1 0)
    ∷ whole 2 (of_value ∷ []) 0 (BorrowLoc 0 false ∷ StLoc 1 ∷ Ret ∷ []) accept
    ∷ whole 1 (mut ∷ []) 2 (CopyLoc 0 ∷ MoveLoc 0 ∷ Ret ∷ []) (violation 114 2 0)
    ∷ whole 2 (mut ∷ of_value ∷ []) 3 (CopyLoc 0 ∷ MoveLoc 0 ∷ BorrowLoc 1 false ∷ Ret ∷ []) (violation 113 3 2)
    ∷ whole 2 (mut ∷ mut ∷ []) 4 (CopyLoc 0 ∷ CopyLoc 1 ∷ MoveLoc 1 ∷ MoveLoc 0 ∷ Ret ∷ []) (violation 114 4 1)
    ∷ whole 1 (mut ∷ []) 1 (MoveLoc 0 ∷ BorrowField 1 true ∷ Ret ∷ []) accept
    ∷ whole 0 [] 0 (Pop ∷ []) (refusal 10 0)
    ∷ whole 0 [] 0 (load ∷ ReadRef ∷ []) (refusal 11 1)
    ∷ whole 1 (imm ∷ []) 0 (load ∷ MoveLoc 0 ∷ Compare ∷ []) (refusal 11 2)
    ∷ whole 2 (mut ∷ []) 0 (CopyLoc 0 ∷ MoveLoc 0 ∷ WriteRef ∷ []) (refusal 11 2)
    ∷ whole 1 [] 0 (CopyLoc 0 ∷ []) (refusal 12 0)
    ∷ whole 1 (imm ∷ []) 0 (load ∷ MoveLoc 0 ∷ WriteRef ∷ []) (refusal 13 2)
    ∷ whole 1 (imm ∷ []) 0 (MoveLoc 0 ∷ WriteRef ∷ []) (refusal 10 1)
    ∷ whole 1 (imm ∷ []) 0 (MoveLoc 0 ∷ VectorOp 0 true 0 of_value ∷ []) (refusal 13 1)
    ∷ whole 2 (imm ∷ []) 0 (CopyLoc 0 ∷ StLoc 1 ∷ MoveLoc 0 ∷ VectorOp 0 true 0 of_value ∷ []) (refusal 13 3)
    ∷ whole 0 [] 0 (load ∷ []) (refusal 14 0)
    ∷ whole 0 [] 0 (Values 0 17 of_value ∷ []) (refusal 20 0)
    ∷ whole 0 [] 0 (Values 0 16 of_value ∷ Values 16 16 of_value ∷ Values 16 0 of_value ∷ []) accept
    ∷ whole 1 (imm ∷ []) 0 (load ∷ MoveLoc 0 ∷ MoveTo ∷ []) (refusal 11 2)
    ∷ whole 1 (imm ∷ []) 0 (MoveLoc 0 ∷ load ∷ MoveTo ∷ []) accept
    ∷ []

pub all_cases : all (λ b. b) routines ≡ true
unfolding routines whole first_state first_locals first_names run turns loop_step propagate start_slots position verdict lowest exec run_block run_from instrs_of step pop_values pop_many push push_all push_new value_for release_value new_ref copy_loc move_loc st_loc freeze_ref comparison read_ref write_ref borrow_loc borrow_field borrow_global move_from vector_op vector_element_borrow add_copy add_borrow add_field_borrow add_local_borrow add_resource_borrow release_name lowest_of is_mutable new_name borrow_strong borrow_weak put_name well_formed holds ascending set_at set_to set_ok ordered short in_order is_blur add_all add_edge insert limit has put prefix eq_edge eq_path lt_edge lt_path canonical call not_acquired none_borrowed hand_over return_values borrow_from release_all release spliced without splice ascend put_number ret
all_cases = refl
