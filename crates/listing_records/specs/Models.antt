-- What the structs of the code mean in the definitions.
use Rattle.std.specs.Prelude as Std
use Rattle.std.specs.Prelude.{ℕ, zero, suc, ◌+◌, ◌/◌, ◌%◌, ◌≤◌, min, ◌≡◌, Bool, true, false, cond, not, ◌&&◌, List, [], ◌∷◌, ◌++◌, length, get_or, take, leb, ltb, eqb, Result, Ok, Err, Some, None, MatchOption, IfOk}
use Rattle.std.specs.Bool.{beq}
use Rattle.std.proofs.Math.Option.{Option, none, some}
use Rattle.meaning.specs.Limits.{max_parameters, max_acquired, max_returns, max_instructions, max_blocks}
use Rattle.meaning.specs.Lists.{up_to}
use Rattle.meaning.specs.Listing as D
use Rattle.vm_status.specs.declared.Refusal.{Refusal}
use Rattle.vm_status.specs.declared.Refused.{Refused}
use Rattle.vm_status.specs.Models.{number_of}
use Rattle.listing_records.specs.declared.Field.{Field}
use Rattle.listing_records.specs.declared.Record.{Record}
use Rattle.listing_records.specs.declared.Places.{Places}

-- ---- shapes

-- the fields by their numbers in the code, from 1 on
abbrev pub field_list : List D.Field
field_list =
    D.Field.byte 0 0
    ∷ D.flag
    ∷ D.token
    ∷ D.Field.byte 255 max_parameters
    ∷ D.Field.local_index
    ∷ D.Field.word
    ∷ D.Field.words 2 2
    ∷ D.Field.words 255 max_acquired
    ∷ D.Field.tokens max_returns
    ∷ []

abbrev pub field_of : ℕ → D.Field
field_of f = get_or field_list f D.Field.frame

-- the fields that the digits of a number are, the last one first, at most n of them
unfoldable pub packed : ℕ → ℕ → List D.Field
packed zero x = []
packed (suc n) x = cond (eqb x 0) [] (field_of (x % 16) ∷ packed n (x / 16))

-- a kind that is in use, by its fields
abbrev pub ShapeFor : ℕ → Std.Option ℕ → Type 0
ShapeFor kind r = MatchOption r (D.kind_in_use kind ≡ false) (λ x. (D.kind_in_use kind ≡ true) × (packed 4 x ≡ D.fields_of kind))

-- the least number that a field of a fixed width may not start with
abbrev pub limit_of : ℕ → ℕ → ℕ
limit_of l f = get_or (1 ∷ 2 ∷ 3 ∷ 256 ∷ l ∷ []) f 256

-- ---- rows of limits

-- for each byte of a field of a fixed width the least number that it may not be; one of another field may be none
abbrev pub byte_limits : ℕ → D.Field → List ℕ
byte_limits l (D.Field.byte r m) = suc (min r m) ∷ []
byte_limits l D.Field.word = 256 ∷ 256 ∷ []
byte_limits l D.Field.local_index = l ∷ []
byte_limits l (D.Field.words r m) = 0 ∷ []
byte_limits l (D.Field.tokens m) = 0 ∷ []
byte_limits l D.Field.frame = 0 ∷ []

-- those of a body
unfoldable pub body_limits : ℕ → List D.Field → List ℕ
body_limits l [] = []
body_limits l (f ∷ fs) = byte_limits l f ++ body_limits l fs

-- n limits: bytes past the body have none
unfoldable pub padded : ℕ → List ℕ → List ℕ
padded zero ms = []
padded (suc n) [] = 256 ∷ padded n []
padded (suc n) (m ∷ ms) = m ∷ padded n ms

-- the row of a kind: how long its body is, and the limits of five bytes
unfoldable pub limit_row : ℕ → ℕ → List ℕ
limit_row l k = length (body_limits l (D.fields_of k)) ∷ padded 5 (body_limits l (D.fields_of k))

-- the rows of the kinds from 10 on
unfoldable pub limit_rows : ℕ → List (List ℕ)
limit_rows l = up_to 18 (λ i. limit_row l (10 + i))

-- that a record at a place whose body has n bytes keeps to a row
unfoldable pub keeps_to : List ℕ → ℕ → List ℕ → ℕ → Bool
keeps_to row n s at =
    eqb n (get_or row 0 0)
    && ltb (get_or s (at + 4) 0) (get_or row 1 0)
    && ltb (get_or s (at + 5) 0) (get_or row 2 0)
    && ltb (get_or s (at + 6) 0) (get_or row 3 0)
    && ltb (get_or s (at + 7) 0) (get_or row 4 0)
    && ltb (get_or s (at + 8) 0) (get_or row 5 0)

-- what the tests of a field that starts these bytes say
pub record FieldFor (l : ℕ) (f : D.Field) (b : List ℕ) (r : Field) : Type 0 where
  pub width : r.width ≡ D.field_width f b
  pub right : D.field_width f b ≤ length b → r.right ≡ D.field_right l f b
  pub within : D.field_right l f b ≡ true → r.within ≡ D.field_within f b

-- ---- records

-- the number of the test that failed, if one did
abbrev pub fault_of : {A : Type 0} → Result A Refusal → Option ℕ
fault_of (Ok a) = none
fault_of (Err e) = some (number_of e)

-- a whole record: its kind, and where the next one starts
pub record Head : Type 0 where
  pub kind : ℕ
  pub next : ℕ

-- What was found at a place, in the numbers of document 01: a record; refusal 1, "input .. ends within a record"; no byte is left.
abbrev pub found_of : ℕ → Result (Std.Option Record) Refusal → D.Listed (Option Head)
found_of at (Ok (Some r)) = D.Listed.read (some (record { kind = r.kind; next = r.next.at }))
found_of at (Ok None) = D.Listed.read none
found_of at (Err e) = D.Listed.refused (number_of e) at

unfoldable pub found_at : List ℕ → ℕ → D.Listed (Option Head)
found_at s at =
    cond (leb (length s) at) (D.Listed.read none)
    (D.if_not (not (D.whole_at s at)) 1 at
    (D.Listed.read (some (record { kind = D.kind_at s at; next = D.next_at s at }))))

-- the tests of where a record of a kind stands: 4, 33, or none of them
unfoldable pub place_fault : ℕ → ℕ → Bool → Option ℕ
place_fault k at coded = D.unless (beq (eqb k 1) (eqb at 0)) 4 (D.unless (not (coded && eqb k 2)) 33 none)

-- the tests of a body: 3, 6, or none of them
unfoldable pub body_fault : ℕ → List D.Field → List ℕ → Option ℕ
body_fault l fs b = D.unless (D.fits_body l fs b) 3 (D.unless (D.within_limits fs b) 6 none)

-- no test of the record at a place fails, and it is this one
pub record Passed (s : List ℕ) (l : ℕ) (coded : Bool) (at : ℕ) (r : Record) : Type 0 where
  pub fine : D.fault_at s l coded at ≡ none
  pub kind : r.kind ≡ D.kind_at s at
  pub next : r.next.at ≡ D.next_at s at
  pub inside : r.next.at ≤ length s

-- what the tests of the record at a place say: that it passed, or the number of the first that fails
abbrev pub Tested : List ℕ → ℕ → Bool → ℕ → Result Record Refusal → Type 0
Tested s l coded at (Ok r) = Passed s l coded at r
Tested s l coded at (Err e) = D.fault_at s l coded at ≡ some (number_of e)

-- that there is no room for a record of this kind, after so many blocks and instructions
abbrev pub full_of : ℕ → ℕ → ℕ → Bool
full_of k blocks code = cond (eqb k 1) false (cond (eqb k 2) (leb max_blocks blocks) (leb max_instructions code))

-- how many instructions stand before the first Ret, of those whose records start at these places
unfoldable pub before_ret : List ℕ → List ℕ → ℕ
before_ret s [] = 0
before_ret s (p ∷ ps) = cond (eqb (D.kind_at s p) 23) 0 (suc (before_ret s ps))

-- the same after n instructions and one more
abbrev pub one_more : ℕ → ℕ → ℕ → ℕ
one_more k first n = cond (eqb first n && not (eqb k 23)) (n + 1) first

-- the places in the first slots of the arrays
abbrev pub places_in : List ℕ → List ℕ → Places → D.Places
places_in bs cs r = record { blocks = take r.block_count bs; code = take r.code_count cs }

abbrev pub places_of : List ℕ → List ℕ → Result Places Refused → D.Listed D.Places
places_of bs cs (Ok w) = D.Listed.read (places_in bs cs w)
places_of bs cs (Err e) = D.Listed.refused (number_of e.refusal) e.place

-- the counts are within the limits, and the last one is that of the instructions before the first Ret
pub record Counts (s cs : List ℕ) (w : Places) : Type 0 where
  pub blocks : w.block_count ≤ max_blocks
  pub code : w.code_count ≤ max_instructions
  pub ret : w.first_ret ≡ before_ret s (take w.code_count cs)

-- What the reading of s answers, and what it leaves in the two arrays: the places p, or their refusal.
pub record ReadInto (p : D.Listed D.Places) (s bs cs : List ℕ) (r : Result Places Refused) : Type 0 where
  pub places : places_of bs cs r ≡ p
  pub counts : IfOk r (λ w. Counts s cs w)
  pub all_blocks : length bs ≡ max_blocks
  pub all_code : length cs ≡ max_instructions
