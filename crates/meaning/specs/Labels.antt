-- Labels (paths.rs). Document 01: "A label is Local, Global or Field with a 16-bit number". A label's own number is kind × 65,536 + index, so
-- that labels stand in the order of their numbers.
use Rattle.std.specs.Prelude.{ℕ, ◌+◌, ◌%◌, cond, Bool, true, false, ltb}

-- "A label is Local, Global or Field with a 16-bit number."
pub data Label : Type 0 where
  local global field : ℕ → Label

-- the number of each label
abbrev pub local_label : ℕ → ℕ
local_label i = i

abbrev pub global_label : ℕ → ℕ
global_label i = 65536 + i

abbrev pub field_label : ℕ → ℕ
field_label i = 131072 + i

-- a label's number; `label_at_number` (Laws/Label) says that the two tell each other
abbrev pub number_of : Label → ℕ
number_of (local i) = local_label i
number_of (global i) = global_label i
number_of (field i) = field_label i

-- the label with a number
unfoldable pub label_at : ℕ → Label
label_at n = cond (ltb n 65536) (local (n % 65536)) (cond (ltb n 131072) (global (n % 65536)) (field (n % 65536)))

-- the index of a label, and its place among the three kinds
abbrev pub index_of : Label → ℕ
index_of (local i) = i
index_of (global i) = i
index_of (field i) = i

abbrev pub kind_of : Label → ℕ
kind_of (local i) = 0
kind_of (global i) = 1
kind_of (field i) = 2

-- "labels Local < Global < Field, then number"; `number_order` (Laws/Label) says that it is the order of the labels' numbers
unfoldable pub lt_label : Label → Label → Bool
lt_label a b = cond (ltb (kind_of a) (kind_of b)) true (cond (ltb (kind_of b) (kind_of a)) false (ltb (index_of a) (index_of b)))
