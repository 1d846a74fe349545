-- What the structs of the code mean in the definitions.
use Rattle.std.specs.Prelude.{ℕ, ◌+◌, ◌*◌, ◌≤◌, ◌<◌, ◌≡◌, Bool, true, false, ◌&&◌, ◌||◌, List, [], ◌∷◌, map, length, get_or, take, leb, eqb, Option, Some, None, Result, Ok, Err, MatchOption, MatchResult, ⊤}
use Rattle.meaning.specs.Limits.{max_locals, max_acquired, max_returns, max_instructions, max_blocks}
use Rattle.meaning.specs.Lists.{all, any, up_to}
use Rattle.meaning.specs.AbstractState.{Token}
use Rattle.meaning.specs.Steps as I
use Rattle.meaning.specs.Loop as M
use Rattle.meaning.specs.Blocks as Q
use Rattle.meaning.specs.Listing as D
use Rattle.file_format.specs.Models.{token_of}
use Rattle.vm_status.specs.declared.Refused.{Refused}
use Rattle.vm_status.specs.Models.{number_of}
use Rattle.listing_records.specs.declared.Places.{Places}
use Rattle.listing_records.specs.Models.{before_ret}
use Rattle.listing.specs.declared.decode.Instruction.{Instruction}
use Rattle.listing.specs.declared.decode.Instruction.TheVariants.{Pop, CopyLoc, MoveLoc, StLoc, FreezeRef, Compare, ReadRef, WriteRef, BorrowLoc, BorrowField, BorrowGlobal, MoveFrom, Call, Ret, Values, MoveTo, VectorOp, BorrowElement}
use Rattle.listing.specs.declared.decode.Decoded.{Decoded}
use Rattle.listing.specs.declared.Block.{Block}
use Rattle.listing.specs.declared.Routine.{Routine}

-- ---- instructions

-- the tokens of n bytes from a place on
abbrev pub tokens_at : List ℕ → ℕ → ℕ → List Token
tokens_at b i n = up_to n (λ k. D.token_as (get_or b (i + k) 0))

abbrev pub with_parts : List ℕ → List Token → Instruction → I.Instr
with_parts a t Pop = I.Instr.Pop
with_parts a t (CopyLoc i) = I.Instr.CopyLoc i.0
with_parts a t (MoveLoc i) = I.Instr.MoveLoc i.0
with_parts a t (StLoc i) = I.Instr.StLoc i.0
with_parts a t FreezeRef = I.Instr.FreezeRef
with_parts a t Compare = I.Instr.Compare
with_parts a t ReadRef = I.Instr.ReadRef
with_parts a t WriteRef = I.Instr.WriteRef
with_parts a t (BorrowLoc i m) = I.Instr.BorrowLoc i.0 m
with_parts a t (BorrowField n m) = I.Instr.BorrowField n m
with_parts a t (BorrowGlobal n m) = I.Instr.BorrowGlobal n m
with_parts a t (MoveFrom n) = I.Instr.MoveFrom n
with_parts a t (Call p) = I.Instr.Call p a t
with_parts a t Ret = I.Instr.Ret
with_parts a t (Values n m x) = I.Instr.Values n m (token_of x)
with_parts a t MoveTo = I.Instr.MoveTo
with_parts a t (VectorOp n m p x) = I.Instr.VectorOp n m p (token_of x)
with_parts a t (BorrowElement m) = I.Instr.BorrowElement m

abbrev pub plain_of : Instruction → I.Instr
plain_of i = with_parts [] [] i

unfoldable pub decoded_of : Decoded → I.Instr
decoded_of d = with_parts (take d.acquired_count d.acquired) (map D.token_as (take d.token_count d.tokens)) d.instruction

abbrev pub pick_instr : Bool → I.Instr → I.Instr → I.Instr
pick_instr true a b = a
pick_instr false a b = b

-- a call within the limits
unfoldable pub call_for : List ℕ → I.Instr
call_for b = pick_instr (leb (get_or b 1 0) max_acquired && leb (get_or b (2 + 2 * get_or b 1 0) 0) max_returns) (D.call_of b) I.Instr.Pop

-- The instruction that decoding answers for a place, whatever stands there: that of the kind and the body, where a byte past the end is 0 and
-- the body of no whole record is empty; Pop for a kind without an instruction, and for a call beyond the limits.
unfoldable pub decoded_at : List ℕ → ℕ → I.Instr
decoded_at s at = pick_instr (eqb (D.kind_at s at) 22) (call_for (D.body_at s at)) (D.instr_of (D.kind_at s at) (D.body_at s at))

-- ---- routines

abbrev pub block_of : Block → M.Block
block_of b = record { entry = b.entry.0; exit = b.exit.0; successors = take b.count (b.first.0 ∷ b.second.0 ∷ []) }

unfoldable pub blocks_in : List Block → ℕ → List M.Block
blocks_in bs n = map block_of (take n bs)

-- the block record at a place has at most two successors
abbrev pub two_at : List ℕ → ℕ → Bool
two_at s at = leb (get_or (D.body_at s at) 4 0) 2

-- what is known of the places that were read, in two arrays, with the first record's body
pub record Sound (s head : List ℕ) (w : Places) (ps cs : List ℕ) : Type 0 where
  pub first : head ≡ D.body_at s 0
  pub blocks : w.block_count ≤ max_blocks
  pub code : w.code_count ≤ max_instructions
  pub all_blocks : length ps ≡ max_blocks
  pub all_code : length cs ≡ max_instructions
  pub ret : w.first_ret ≡ before_ret s (take w.code_count cs)
  pub two : all (two_at s) (take w.block_count ps) ≡ true
  pub same : map (decoded_at s) (take w.code_count cs) ≡ map (D.instr_at s) (take w.code_count cs)
  pub params : get_or head 0 0 ≤ max_locals

unfoldable pub ruled_places : List ℕ → D.Places → D.Listed Q.Routine
ruled_places s w = D.ruled (length s) w (D.routine_at s w)

-- the first of the numbers below n that passes a test, if one does
abbrev pub FirstOf : (ℕ → Bool) → ℕ → Option ℕ → Type 0
FirstOf p n r = MatchOption r (D.first_of p 0 n ≡ n) (λ i. (i < n) × (D.first_of p 0 n ≡ i))

abbrev pub faulty_successors : List M.Block → ℕ → M.Block → Bool
faulty_successors bs i b = D.repeats b.successors || any (D.faulty_successor bs i b) b.successors

-- a routine of the listing s, with the array cs that says where the record of each instruction starts
abbrev pub routine_of : List ℕ → List ℕ → Routine → Q.Routine
routine_of s cs r = record {
  params = map D.token_as (take r.param_count r.params);
  locals = r.locals;
  returns = r.returns;
  blocks = blocks_in r.blocks r.block_count;
  code = map (decoded_at s) (take r.code_count cs);
}

-- the blocks are as many as are counted
pub record Counted (r : Routine) : Type 0 where
  pub few : r.block_count ≤ max_blocks
  pub count : length (blocks_in r.blocks r.block_count) ≡ r.block_count

abbrev pub listed_of : List ℕ → List ℕ → Result (Option Routine) Refused → D.Listed Q.Routine
listed_of s cs (Ok (Some r)) = D.Listed.read (routine_of s cs r)
listed_of s cs (Ok None) = D.Listed.nothing
listed_of s cs (Err e) = D.Listed.refused (number_of e.refusal) e.place

-- what is said of the routine, where there is one
abbrev pub AllCounted : Result (Option Routine) Refused → Type 0
AllCounted (Ok (Some r)) = Counted r
AllCounted (Ok None) = ⊤
AllCounted (Err e) = ⊤

-- the answer for a listing that is read as x
pub record Answers (s cs : List ℕ) (x : D.Listed Q.Routine) (r : Result (Option Routine) Refused) : Type 0 where
  pub listed : listed_of s cs r ≡ x
  pub counted : AllCounted r

-- the same of records that were read
abbrev pub Ruled : List ℕ → List ℕ → D.Listed Q.Routine → Result Routine Refused → Type 0
Ruled s cs x r = MatchResult r (λ q. (D.Listed.read (routine_of s cs q) ≡ x) × Counted q) (λ e. D.Listed.refused (number_of e.refusal) e.place ≡ x)
