-- Listings read: none, the marked one, and one for each cause of a refusal.
use Rattle.std.specs.Prelude.{true, [], ◌∷◌, ◌≡◌, refl, take}
use Rattle.std.proofs.Math.Option.{some}
use Rattle.meaning.specs.Lists.{up_to}
use Rattle.meaning.specs.AbstractState.{of_value}
use Rattle.meaning.specs.Steps.{StLoc, MoveLoc, Values, BorrowLoc}
use Rattle.meaning.specs.Blocks.{Routine}
use Rattle.meaning.specs.Listing.{u16_at, whole_at, body_at, fields_in, in_use, kind_in_use, fields_of, fits_body, within_limits, block_of, call_of, instr_in, instr_of, fault_at, places_from, first_of, repeats, faulty_block, stray_ret, block_at, instr_at, read_places, read_listing, read, nothing, refused}
use Rattle.meaning.specs.Loop.{refusal, empty_cell}
use Rattle.meaning.specs.Verify.{verify}
use Rattle.meaning.proofs.Marked.{listing}

-- load, store 0, mutable borrow of local 0, move 0
abbrev routine : Routine
routine = record {
  params = [];
  locals = 1;
  returns = 0;
  blocks = record { entry = 0; exit = 3; successors = [] } ∷ [];
  code = Values 0 1 of_value ∷ StLoc 0 ∷ BorrowLoc 0 true ∷ MoveLoc 0 ∷ [];
}

pub marked_read : read_listing listing ≡ read routine
unfolding u16_at whole_at body_at fields_in in_use kind_in_use fields_of fits_body within_limits up_to block_of call_of instr_in instr_of fault_at places_from first_of repeats faulty_block stray_ret block_at instr_at read_places read_listing
marked_read = refl

-- A3: zero bytes; an area that is long enough, and one that lacks a word
pub empty_cell_lem : read_listing [] ≡ nothing
unfolding read_listing
empty_cell_lem = refl

pub empty_answer : verify 16384 [] ≡ record { verdict = empty_cell; visits = 0; blurred = 0 }
unfolding verify read_listing
empty_answer = refl

pub empty_short : verify 16383 [] ≡ record { verdict = refusal 7 0; visits = 0; blurred = 0 }
unfolding verify
empty_short = refl

-- cut one byte short
pub marked_cut : read_listing (take 40 listing) ≡ refused 1 36
unfolding u16_at whole_at body_at fields_in in_use kind_in_use fields_of fits_body within_limits up_to block_of call_of instr_in instr_of fault_at places_from first_of repeats faulty_block stray_ret block_at instr_at read_places read_listing
marked_cut = refl

-- a first record of a kind that is not in use: 2 comes before 4
pub order_2_4 : read_listing (0 ∷ 0 ∷ 99 ∷ 0 ∷ []) ≡ refused 2 0
unfolding u16_at whole_at body_at fields_in in_use kind_in_use fields_of fits_body within_limits up_to block_of call_of instr_in instr_of fault_at places_from first_of repeats faulty_block stray_ret block_at instr_at read_places read_listing
order_2_4 = refl

-- a second record of kind 1, with a wrong body: 4 comes before 3
pub order_4_3 : read_listing (3 ∷ 0 ∷ 1 ∷ 0 ∷ 0 ∷ 1 ∷ 0 ∷ 1 ∷ 0 ∷ 1 ∷ 0 ∷ 9 ∷ []) ≡ refused 4 7
unfolding u16_at whole_at body_at fields_in in_use kind_in_use fields_of fits_body within_limits up_to block_of call_of instr_in instr_of fault_at places_from first_of repeats faulty_block stray_ret block_at instr_at read_places read_listing
order_4_3 = refl

-- A5: a block after an instruction
pub late_block : read_listing (3 ∷ 0 ∷ 1 ∷ 0 ∷ 0 ∷ 1 ∷ 0 ∷ 0 ∷ 0 ∷ 10 ∷ 0 ∷ 5 ∷ 0 ∷ 2 ∷ 0 ∷ 0 ∷ 0 ∷ 0 ∷ 0 ∷ 0 ∷ []) ≡ refused 33 11
unfolding u16_at whole_at body_at fields_in in_use kind_in_use fields_of fits_body within_limits up_to block_of call_of instr_in instr_of fault_at places_from first_of repeats faulty_block stray_ret block_at instr_at read_places read_listing
late_block = refl

-- with a body of one byte: 33 comes before 3
pub order_33_3 : read_listing (3 ∷ 0 ∷ 1 ∷ 0 ∷ 0 ∷ 1 ∷ 0 ∷ 0 ∷ 0 ∷ 10 ∷ 0 ∷ 1 ∷ 0 ∷ 2 ∷ 0 ∷ 0 ∷ []) ≡ refused 33 11
unfolding u16_at whole_at body_at fields_in in_use kind_in_use fields_of fits_body within_limits up_to block_of call_of instr_in instr_of fault_at places_from first_of repeats faulty_block stray_ret block_at instr_at read_places read_listing
order_33_3 = refl

-- 4 comes before 33. No listing shows it, since nothing stands before the first record; the tests of one record do.
pub order_4_33 : fault_at (0 ∷ 0 ∷ 2 ∷ 0 ∷ []) 1 true 0 ≡ some 4
unfolding u16_at whole_at in_use kind_in_use fault_at
order_4_33 = refl

-- a call of seventeen parameters that returns a token 3: 3 comes before 6
pub order_3_6 : read_listing (3 ∷ 0 ∷ 1 ∷ 0 ∷ 0 ∷ 1 ∷ 0 ∷ 4 ∷ 0 ∷ 22 ∷ 0 ∷ 17 ∷ 0 ∷ 1 ∷ 3 ∷ []) ≡ refused 3 7
unfolding u16_at whole_at body_at fields_in in_use kind_in_use fields_of fits_body within_limits up_to block_of call_of instr_in instr_of fault_at places_from first_of repeats faulty_block stray_ret block_at instr_at read_places read_listing
order_3_6 = refl

-- a call of seventeen parameters
pub limit_6 : read_listing (3 ∷ 0 ∷ 1 ∷ 0 ∷ 0 ∷ 1 ∷ 0 ∷ 3 ∷ 0 ∷ 22 ∷ 0 ∷ 17 ∷ 0 ∷ 0 ∷ []) ≡ refused 6 7
unfolding u16_at whole_at body_at fields_in in_use kind_in_use fields_of fits_body within_limits up_to block_of call_of instr_in instr_of fault_at places_from first_of repeats faulty_block stray_ret block_at instr_at read_places read_listing
limit_6 = refl

-- no block: the place is the length
pub no_block_lem : read_listing (3 ∷ 0 ∷ 1 ∷ 0 ∷ 0 ∷ 1 ∷ 0 ∷ 0 ∷ 0 ∷ 10 ∷ 0 ∷ []) ≡ refused 5 11
unfolding u16_at whole_at body_at fields_in in_use kind_in_use fields_of fits_body within_limits up_to block_of call_of instr_in instr_of fault_at places_from first_of repeats faulty_block stray_ret block_at instr_at read_places read_listing
no_block_lem = refl

-- a Ret that no block ends with
pub stray_ret_lem : read_listing (3 ∷ 0 ∷ 1 ∷ 0 ∷ 0 ∷ 1 ∷ 0 ∷ 5 ∷ 0 ∷ 2 ∷ 0 ∷ 0 ∷ 0 ∷ 0 ∷ 0 ∷ 0 ∷ 0 ∷ 0 ∷ 10 ∷ 0 ∷ 0 ∷ 0 ∷ 23 ∷ 0 ∷ []) ≡ refused 5 20
unfolding u16_at whole_at body_at fields_in in_use kind_in_use fields_of fits_body within_limits up_to block_of call_of instr_in instr_of fault_at places_from first_of repeats faulty_block stray_ret block_at instr_at read_places read_listing
stray_ret_lem = refl
