-- The listing of one routine: what its bytes mean, a routine, an empty cell, or a refusal with its number and place. The words in quotes are those
-- of document 01, "Listing of one routine" and "Who can cause a refusal", or of a request that is named.
use Rattle.std.specs.Prelude.{ℕ, ◌+◌, ◌*◌, zero, suc, Bool, cond, true, ◌&&◌, false, ◌||◌, not, List, [], ◌∷◌, ◌++◌, map, leb, eqb, ltb, get_or, length, take, drop}
use Rattle.std.specs.Bool.{beq}
use Rattle.std.proofs.Math.Option.{Option, none, some}
use Rattle.meaning.specs.Limits.{max_bytes, max_locals, max_returns, max_parameters, max_acquired, max_instructions, max_blocks}
use Rattle.meaning.specs.Lists.{any, all, empty, up_to}
use Rattle.meaning.specs.AbstractState.{Token, of_value, of_ref}
use Rattle.meaning.specs.Steps.{Instr, Call, Pop, CopyLoc, MoveLoc, StLoc, FreezeRef, Compare, ReadRef, WriteRef, BorrowLoc, BorrowField, BorrowGlobal, MoveFrom, Ret, Values, MoveTo, VectorOp, BorrowElement, is_ret}
use Rattle.meaning.specs.Blocks.{Routine}
use Rattle.meaning.specs.Loop.{Block, no_block}

-- ---- records: "2-byte body length, 2-byte kind, body; little-endian"

-- "u16"; a byte past the end is 0
unfoldable pub u16_at : List ℕ → ℕ → ℕ
u16_at s i = get_or s i 0 + 256 * get_or s (i + 1) 0

-- of the record that starts at a place: that the input does not end "within a record"
unfoldable pub whole_at : List ℕ → ℕ → Bool
whole_at s at = leb (at + 4 + u16_at s at) (length s)

-- "2-byte kind"
abbrev pub kind_at : List ℕ → ℕ → ℕ
kind_at s at = u16_at s (at + 2)

-- "body", of a whole record
unfoldable pub body_at : List ℕ → ℕ → List ℕ
body_at s at = cond (whole_at s at) (take (u16_at s at) (drop (at + 4) s)) []

-- where the next record starts
abbrev pub next_at : List ℕ → ℕ → ℕ
next_at s at = at + 4 + u16_at s at

-- ---- the shape table

-- the columns of "Body"; "stated range" is refusal 3, a limit is refusal 6
pub data Field : Type 0 where
  -- "u8": its range ends with the first number, its limit is the second
  byte : ℕ → ℕ → Field
  -- "u16"
  word : Field
  -- "local u8", below L
  local_index : Field
  -- a "count u8", with its range and its limit, and "u16 each"
  words : ℕ → ℕ → Field
  -- "returns u8, tokens", with the limit of the count
  tokens : ℕ → Field
  -- "parameters P u8, L u8, P tokens"
  frame : Field

-- "Token: 0 value, 1 reference, 2 mutable reference"
abbrev pub token : Field
token = byte 2 2

-- "m: 1 mutable, 0 not"
abbrev pub flag : Field
flag = byte 1 1

-- a row of the table
pub record Shape : Type 0 where
  pub kind : ℕ
  pub fields : List Field

abbrev pub shape : ℕ → List Field → Shape
shape k fs = record { kind = k; fields = fs }

-- "The shape table has one row for each kind."
abbrev pub shapes : List Shape
shapes =
    shape 1 (frame ∷ tokens max_returns ∷ [])
    ∷ shape 2 (word ∷ word ∷ words 2 2 ∷ [])
    ∷ shape 10 []
    ∷ shape 11 (local_index ∷ [])
    ∷ shape 12 (local_index ∷ [])
    ∷ shape 13 (local_index ∷ [])
    ∷ shape 14 []
    ∷ shape 15 []
    ∷ shape 16 []
    ∷ shape 17 []
    ∷ shape 18 (local_index ∷ flag ∷ [])
    ∷ shape 19 (word ∷ flag ∷ [])
    ∷ shape 20 (word ∷ flag ∷ [])
    ∷ shape 21 (word ∷ [])
    ∷ shape 22 (byte 255 max_parameters ∷ words 255 max_acquired ∷ tokens max_returns ∷ [])
    ∷ shape 23 []
    ∷ shape 24 (word ∷ word ∷ token ∷ [])
    ∷ shape 25 []
    ∷ shape 26 (byte 2 2 ∷ flag ∷ byte 1 1 ∷ token ∷ [])
    ∷ shape 27 (flag ∷ [])
    ∷ []

-- a kind that has a row, and the fields of its row
unfoldable pub in_use : ℕ → List Shape → Bool
in_use k rs = any (λ r. eqb k r.kind) rs

unfoldable pub fields_in : ℕ → List Shape → List Field
fields_in k [] = []
fields_in k (r ∷ rs) = cond (eqb k r.kind) r.fields (fields_in k rs)

-- not an "unknown kind"
unfoldable pub kind_in_use : ℕ → Bool
unfolding in_use
kind_in_use k = in_use k shapes

-- the "Body" of a kind
unfoldable pub fields_of : ℕ → List Field
unfolding fields_in
fields_of k = fields_in k shapes

-- ---- a body: how many bytes a field takes that starts it, refusal 3, refusal 6

-- "Token: 0 value, 1 reference, 2 mutable reference"
abbrev pub is_token : ℕ → Bool
is_token b = leb b 2

-- the bytes of a field, by its widths
abbrev pub field_width : Field → List ℕ → ℕ
field_width (byte r m) b = 1
field_width word b = 2
field_width local_index b = 1
field_width (words r m) b = 1 + 2 * get_or b 0 0
field_width (tokens m) b = 1 + get_or b 0 0
field_width frame b = 2 + get_or b 0 0

-- "3: .. token, flag, stated range, local ≥ L, or P > L" for the L of the first record
abbrev pub field_right : ℕ → Field → List ℕ → Bool
field_right l (byte r m) b = leb (get_or b 0 0) r
field_right l word b = true
field_right l local_index b = ltb (get_or b 0 0) l
field_right l (words r m) b = leb (get_or b 0 0) r
field_right l (tokens m) b = all is_token (take (get_or b 0 0) (drop 1 b))
field_right l frame b = leb (get_or b 0 0) (get_or b 1 0) && all is_token (take (get_or b 0 0) (drop 2 b))

-- "6: .. L > 16, returns > 8, call parameters > 16, acquired > 16"
abbrev pub field_within : Field → List ℕ → Bool
field_within (byte r m) b = leb (get_or b 0 0) m
field_within word b = true
field_within local_index b = true
field_within (words r m) b = leb (get_or b 0 0) m
field_within (tokens m) b = leb (get_or b 0 0) m
field_within frame b = leb (get_or b 1 0) max_locals

-- "3: body length, ..": the body is the fields, one after the other, and nothing else, and each is right
unfoldable pub fits_body : ℕ → List Field → List ℕ → Bool
fits_body l [] b = eqb (length b) 0
fits_body l (f ∷ fs) b = leb (field_width f b) (length b) && (field_right l f b && fits_body l fs (drop (field_width f b) b))

-- no field is refused by 6
unfoldable pub within_limits : List Field → List ℕ → Bool
within_limits [] b = true
within_limits (f ∷ fs) b = field_within f b && within_limits fs (drop (field_width f b) b)

-- ---- what the bodies mean

-- "0 value, 1 reference, 2 mutable reference"
abbrev pub token_as : ℕ → Token
token_as t = cond (eqb t 0) of_value (of_ref (eqb t 2))

-- "1 mutable, 0 not"
abbrev pub flag_at : List ℕ → ℕ → Bool
flag_at b i = eqb (get_or b i 0) 1

-- "tokens", n of them from a place on
abbrev pub tokens_at : List ℕ → ℕ → ℕ → List Token
tokens_at b i n = up_to n (λ k. token_as (get_or b (i + k) 0))

-- "u16 each", n of them from a place on
abbrev pub words_at : List ℕ → ℕ → ℕ → List ℕ
words_at b i n = up_to n (λ k. u16_at b (i + 2 * k))

-- kind 1: "parameters P u8, L u8, P tokens, returns u8, tokens"
abbrev pub params_of : List ℕ → List Token
params_of b = tokens_at b 2 (get_or b 0 0)

-- "L counts all locals"
abbrev pub locals_of : List ℕ → ℕ
locals_of b = get_or b 1 0

-- how many it returns
abbrev pub returns_of : List ℕ → ℕ
returns_of b = get_or b (2 + get_or b 0 0) 0

-- kind 2: "entry u16, exit u16, n u8 (0–2), n successors u16"
unfoldable pub block_of : List ℕ → Block
block_of b = record { entry = u16_at b 0; exit = u16_at b 2; successors = words_at b 5 (get_or b 4 0) }

-- kind 22: "parameters u8, acquired count u8, u16 each, returns u8, tokens"
unfoldable pub call_of : List ℕ → Instr
call_of b =
    let n : ℕ = get_or b 1 0 in
    Call (get_or b 0 0) (words_at b 2 n) (tokens_at b (3 + 2 * n) (get_or b (2 + 2 * n) 0))

-- a kind and the instruction that the column "Rust" names, with what stands in its body
pub record Row : Type 0 where
  pub kind : ℕ
  pub instr : Instr

abbrev pub row : ℕ → Instr → Row
row k i = record { kind = k; instr = i }

-- the instructions that a body can be
abbrev pub instructions : List ℕ → List Row
instructions b =
    row 10 Pop
    ∷ row 11 (CopyLoc (get_or b 0 0))
    ∷ row 12 (MoveLoc (get_or b 0 0))
    ∷ row 13 (StLoc (get_or b 0 0))
    ∷ row 14 FreezeRef
    ∷ row 15 Compare
    ∷ row 16 ReadRef
    ∷ row 17 WriteRef
    ∷ row 18 (BorrowLoc (get_or b 0 0) (flag_at b 1))
    ∷ row 19 (BorrowField (u16_at b 0) (flag_at b 2))
    ∷ row 20 (BorrowGlobal (u16_at b 0) (flag_at b 2))
    ∷ row 21 (MoveFrom (u16_at b 0))
    ∷ row 22 (call_of b)
    ∷ row 23 Ret
    ∷ row 24 (Values (u16_at b 0) (u16_at b 2) (token_as (get_or b 4 0)))
    ∷ row 25 MoveTo
    ∷ row 26 (VectorOp (get_or b 0 0) (flag_at b 1) (get_or b 2 0) (token_as (get_or b 3 0)))
    ∷ row 27 (BorrowElement (flag_at b 0))
    ∷ []

-- the instruction of a kind's row; Pop, where the kind has none
unfoldable pub instr_in : ℕ → List Row → Instr
instr_in k [] = Pop
instr_in k (r ∷ rs) = cond (eqb k r.kind) r.instr (instr_in k rs)

-- the instruction of a record
unfoldable pub instr_of : ℕ → List ℕ → Instr
unfolding instr_in
instr_of k b = instr_in k (instructions b)

-- ---- the records in turn

-- what was read; that there was nothing to read, which only a whole listing can be; or a refusal: its number and its place
pub data Listed (A : Type 0) : Type 0 where
  read : A → Listed A
  nothing : Listed A
  refused : ℕ → ℕ → Listed A

-- the number of the first test that fails, else what comes after it
abbrev pub unless : Bool → ℕ → Option ℕ → Option ℕ
unless true n k = k
unless false n k = some n

-- "each record 1, 2, 4, 3, 6", or none; 4 is "first record not kind 1, or a second one". A5: "every block record in a kind 1 listing stands before the
-- first instruction"; 33 is "a block record found after an instruction", "tested after number 4". That one was found is what coded says.
unfoldable pub fault_at : List ℕ → ℕ → Bool → ℕ → Option ℕ
fault_at s l coded at =
    unless (whole_at s at) 1
    (unless (kind_in_use (kind_at s at)) 2
    (unless (beq (eqb (kind_at s at) 1) (eqb at 0)) 4
    (unless (not (coded && eqb (kind_at s at) 2)) 33
    (unless (fits_body l (fields_of (kind_at s at)) (body_at s at)) 3
    (unless (within_limits (fields_of (kind_at s at)) (body_at s at)) 6
    none)))))

-- the places of the block records and of the instruction records so far
pub record Places : Type 0 where
  pub blocks : List ℕ
  pub code : List ℕ

-- before the first record
abbrev pub no_places : Places
no_places = record { blocks = []; code = [] }

-- an instruction was found
abbrev pub some_code : Places → Bool
some_code w = not (empty w.code)

-- "6: .. more than 512 instructions or 16 blocks": there is no room for one more
abbrev pub full_for : ℕ → Places → Bool
full_for k w = cond (eqb k 1) false (cond (eqb k 2) (leb max_blocks (length w.blocks)) (leb max_instructions (length w.code)))

-- the places, with one record more
abbrev pub put_at : ℕ → ℕ → Places → Places
put_at k at w =
    cond (eqb k 1) w
    (cond (eqb k 2)
    (record { blocks = w.blocks ++ (at ∷ []); code = w.code })
    (record { blocks = w.blocks; code = w.code ++ (at ∷ []) }))

-- refused at a place, if there is a number; else what comes after it
abbrev pub if_fine : {A : Type 0} → Option ℕ → ℕ → Listed A → Listed A
if_fine none at k = k
if_fine (some n) at k = refused n at

-- refused by a number at a place, if a test says so
abbrev pub if_not : {A : Type 0} → Bool → ℕ → ℕ → Listed A → Listed A
if_not true n at k = refused n at
if_not false n at k = k

-- "each record": from a place on. Each takes four bytes or more, so that the budget of one step a byte is never used up.
unfoldable pub places_from : ℕ → List ℕ → ℕ → Places → Listed Places
unfolding fault_at
places_from zero s at w = read w
places_from (suc f) s at w =
    cond (leb (length s) at) (read w)
    (if_fine (fault_at s (locals_of (body_at s 0)) (some_code w) at) at
    (if_not (full_for (kind_at s at) w) 6 at
    (places_from f s (next_at s at) (put_at (kind_at s at) at w))))

-- ---- "5": blocks and Ret

-- the first of n numbers from i on that passes the test; i + n, if none does
unfoldable pub first_of : (ℕ → Bool) → ℕ → ℕ → ℕ
first_of p i zero = i
first_of p i (suc n) = cond (p i) i (first_of p (suc i) n)

-- two blocks share an instruction
abbrev pub overlap : Block → Block → Bool
overlap b c = leb b.entry c.exit && leb c.entry b.exit

-- a block of the list has this entry
abbrev pub entry_in : List Block → ℕ → Bool
entry_in bs e = any (λ b. eqb e b.entry) bs

-- "equal successors"
unfoldable pub repeats : List ℕ → Bool
repeats [] = false
repeats (e ∷ es) = any (eqb e) es || repeats es

-- "a successor that is no block's entry; a successor above the entry that is not listed later", of the block b at position i
abbrev pub faulty_successor : List Block → ℕ → Block → ℕ → Bool
faulty_successor bs i b e = not (entry_in bs e) || (ltb b.entry e && not (entry_in (drop (i + 1) bs) e))

-- "first entry not 0; entry > exit; exit not an instruction; overlap with an earlier record; .." of the block at position i, in a routine
-- of n instructions
unfoldable pub faulty_block : ℕ → List Block → ℕ → Bool
unfolding repeats
faulty_block n bs i =
    let b : Block = get_or bs i no_block in
    (eqb i 0 && not (eqb b.entry 0))
    || (ltb b.exit b.entry
    || (leb n b.exit
    || (any (overlap b) (take i bs)
    || (repeats b.successors
    || any (faulty_successor bs i b) b.successors))))

-- "the exit of a block without successors"
abbrev pub ends_block : List Block → ℕ → Bool
ends_block bs k = any (λ b. eqb k b.exit && empty b.successors) bs

-- "Ret not at the exit of a block without successors"
unfoldable pub stray_ret : List Instr → List Block → ℕ → Bool
stray_ret is bs k = is_ret (get_or is k Pop) && not (ends_block bs k)

-- ---- the listing

-- the block of the record at a place
unfoldable pub block_at : List ℕ → ℕ → Block
unfolding block_of body_at
block_at s at = block_of (body_at s at)

-- the instruction of the record at a place
unfoldable pub instr_at : List ℕ → ℕ → Instr
unfolding instr_of body_at
instr_at s at = instr_of (kind_at s at) (body_at s at)

-- the routine of the records that were read; "Block order is the traversal order."
abbrev pub routine_at : List ℕ → Places → Routine
routine_at s w = record {
  params = params_of (body_at s 0);
  locals = locals_of (body_at s 0);
  returns = returns_of (body_at s 0);
  blocks = map (block_at s) w.blocks;
  code = map (instr_at s) w.code;
}

-- "then 5: no block, each block as listed, each Ret (at its own record)"; "no block (place: input length)"
abbrev pub ruled : ℕ → Places → Routine → Listed Routine
ruled size w q =
    let b : ℕ = first_of (faulty_block (length q.code) q.blocks) 0 (length q.blocks) in
    let r : ℕ = first_of (stray_ret q.code q.blocks) 0 (length q.code) in
    if_not (empty q.blocks) 5 size
    (if_not (ltb b (length q.blocks)) 5 (get_or w.blocks b 0)
    (if_not (ltb r (length q.code)) 5 (get_or w.code r 0)
    (read q)))

-- 5 comes after all records
abbrev pub after_records : List ℕ → Listed Places → Listed Routine
after_records s (read w) = ruled (length s) w (routine_at s w)
after_records s nothing = nothing
after_records s (refused n at) = refused n at

-- "6 for length; .. each record"; "input over 65,536 bytes (place 65,536)"
unfoldable pub read_places : List ℕ → Listed Places
unfolding places_from
read_places s =
    if_not (ltb max_bytes (length s)) 6 max_bytes
    (places_from (length s) s 0 no_places)

-- What a listing is: an empty cell, a routine, or "REFUSED number place". A3: "Zero bytes now mean an empty cell" and "Number 1 is left for records
-- that end too early".
unfoldable pub read_listing : List ℕ → Listed Routine
unfolding read_places
read_listing s = cond (empty s) nothing (after_records s (read_places s))
