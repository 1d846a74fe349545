-- The numbers of document 01: how much a listing, a run, a graph and the work area may hold, and the codes of the violations.
use Rattle.std.specs.Prelude.{ℕ}

-- ---- a listing: "input over 65,536 bytes .., L > 16, returns > 8, call parameters > 16, acquired > 16, more than 512 instructions or
-- 16 blocks" is refusal 6

abbrev pub max_bytes : ℕ
max_bytes = 65536

abbrev pub max_locals : ℕ
max_locals = 16

abbrev pub max_returns : ℕ
max_returns = 8

abbrev pub max_parameters : ℕ
max_parameters = 16

abbrev pub max_acquired : ℕ
max_acquired = 16

abbrev pub max_instructions : ℕ
max_instructions = 512

abbrev pub max_blocks : ℕ
max_blocks = 16

-- ---- a run: "push onto 16 operands" is refusal 20

abbrev pub max_operands : ℕ
max_operands = 16

-- ---- a graph: "at most 48 names, u16 numbers; at most 96 edges; .. a set has 1 to 10 different edges with paths of at most 8 labels"

abbrev pub max_names : ℕ
max_names = 48

abbrev pub max_edges : ℕ
max_edges = 96

abbrev pub max_set_size : ℕ
max_set_size = 10

abbrev pub max_labels : ℕ
max_labels = 8

-- a name and a label's index are below this
abbrev pub u16_end : ℕ
u16_end = 65536

-- the most that 32 bits hold
abbrev pub u32_most : ℕ
u32_most = 4294967295

-- ---- the work area: "under 16,384 32-bit words" is refusal 7; 16 blocks of 1,024

abbrev pub area_words : ℕ
area_words = 16384

abbrev pub block_words : ℕ
block_words = 1024

-- ---- the violations, by the Rust's names

abbrev pub COPYLOC_EXISTS_BORROW : ℕ
COPYLOC_EXISTS_BORROW = 101

abbrev pub MOVELOC_EXISTS_BORROW : ℕ
MOVELOC_EXISTS_BORROW = 102

abbrev pub STLOC_UNSAFE_TO_DESTROY : ℕ
STLOC_UNSAFE_TO_DESTROY = 103

abbrev pub FREEZEREF_EXISTS_MUTABLE_BORROW : ℕ
FREEZEREF_EXISTS_MUTABLE_BORROW = 104

abbrev pub READREF_EXISTS_MUTABLE_BORROW : ℕ
READREF_EXISTS_MUTABLE_BORROW = 105

abbrev pub WRITEREF_EXISTS_BORROW : ℕ
WRITEREF_EXISTS_BORROW = 106

abbrev pub BORROWLOC_EXISTS_BORROW : ℕ
BORROWLOC_EXISTS_BORROW = 107

abbrev pub BORROWFIELD_EXISTS_MUTABLE_BORROW : ℕ
BORROWFIELD_EXISTS_MUTABLE_BORROW = 108

abbrev pub GLOBAL_REFERENCE : ℕ
GLOBAL_REFERENCE = 109

abbrev pub VEC_UPDATE : ℕ
VEC_UPDATE = 110

abbrev pub VEC_BORROW_ELEMENT : ℕ
VEC_BORROW_ELEMENT = 111

abbrev pub CALL_BORROWED_MUTABLE_REFERENCE : ℕ
CALL_BORROWED_MUTABLE_REFERENCE = 112

abbrev pub UNSAFE_RET : ℕ
UNSAFE_RET = 113

abbrev pub RET_BORROWED_MUTABLE_REFERENCE : ℕ
RET_BORROWED_MUTABLE_REFERENCE = 114
