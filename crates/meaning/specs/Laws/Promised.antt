use Rattle.std.specs.Prelude.{ℕ, Bool, true, not, ◌&&◌, ◌||◌, List, [], ◌∷◌, leb, ltb, length}
use Rattle.meaning.specs.Limits.{max_locals, max_returns, max_instructions}
use Rattle.meaning.specs.Lists.{empty, all}
use Rattle.meaning.specs.Steps.{Instr, Pop, CopyLoc, MoveLoc, StLoc, FreezeRef, Compare, ReadRef, WriteRef, BorrowLoc, BorrowField, BorrowGlobal, MoveFrom, Call, Ret, Values, MoveTo, VectorOp, BorrowElement, is_ret}
use Rattle.meaning.specs.Blocks.{Routine, instrs_of}

-- ---- what the reader promises (refusals 3, 5 and 6)

abbrev pub within_frame : ℕ → Instr → Bool
within_frame l Pop = true
within_frame l (CopyLoc a) = true
within_frame l (MoveLoc a) = true
within_frame l (StLoc a) = ltb a l
within_frame l FreezeRef = true
within_frame l Compare = true
within_frame l ReadRef = true
within_frame l WriteRef = true
within_frame l (BorrowLoc a b) = true
within_frame l (BorrowField a b) = true
within_frame l (BorrowGlobal a b) = true
within_frame l (MoveFrom a) = true
within_frame l (Call a b c) = leb (length c) max_returns
within_frame l Ret = true
within_frame l (Values a b c) = true
within_frame l MoveTo = true
within_frame l (VectorOp a b c d) = true
within_frame l (BorrowElement a) = true

-- Ret stands only at the exit of a block without successors
unfoldable pub rets_placed : List ℕ → List Instr → Bool
rets_placed es [] = true
rets_placed es (i ∷ is) = (not (is_ret i) || (empty is && empty es)) && rets_placed es is

unfoldable pub promised : Routine → Bool
unfolding rets_placed instrs_of
promised q =
    (leb q.locals max_locals && leb (length q.code) max_instructions)
    && (all (within_frame q.locals) q.code
    && all (λ b. rets_placed b.successors (instrs_of b q.code)) q.blocks)
