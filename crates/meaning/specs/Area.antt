-- The lent area: 16 blocks of 1,024 words. What any words of a block say of its kept state:
--   word i below 16       local i; and in units of 262,144: in word 0 whether a state is kept, in words 1 and 2 how many names and edges
--   word 16 + i           name i
--   words 64 + 10 × i on  edge i: its ends; its offset, its marks and how many labels; up to eight labels
-- A count beyond a limit of document 01 reads as the limit, and words of what is not held are free.
use Rattle.std.specs.Prelude.{ℕ, zero, suc, ◌/◌, ◌%◌, min, ◌+◌, ◌*◌, cond, Bool, false, ◌&&◌, List, ◌++◌, ◌≢◌, ◌≡◌, eqb, leb, ltb, get_or, set, length, drop, replicate}
use Rattle.std.proofs.Math.Option.{Option, none, some}
use Rattle.meaning.specs.Limits.{max_labels, max_locals, max_names, max_edges, max_blocks, u16_end, area_words, block_words}
use Rattle.meaning.specs.Lists.{up_to}
use Rattle.meaning.specs.BorrowGraph.{Name, GEdge}
use Rattle.meaning.specs.AbstractState.{Local, absent, value, ref, State}

-- where in a block's words the names and the edges start, and how many words an edge has
abbrev pub names_start : ℕ
names_start = 16

abbrev pub edges_start : ℕ
edges_start = 64

abbrev pub edge_words : ℕ
edge_words = 10

-- a label's number, and a local's part of a word, are below this
abbrev pub label_end : ℕ
label_end = 262144

-- 0 absent, 1 a value, else a reference by its name
abbrev pub local_as : ℕ → ℕ → Local
local_as kind n = cond (eqb kind 0) absent (cond (eqb kind 1) value (ref n))

-- a local: its kind in units of 65,536 (two bits), and below that the name of a reference
abbrev pub local_in : ℕ → Local
local_in w = local_as (w / u16_end % 4) (w % u16_end)

-- a name: its number, and in units of 65,536 whether it is mutable
abbrev pub name_in : ℕ → Name
name_in w = record { id = w % u16_end; mutable = eqb (w / u16_end) 1 }

-- a label's number has 18 bits, and what stands above them is free
abbrev pub label_in : ℕ → ℕ
label_in w = w % label_end

-- marks: in units of 65,536 the offset, of 32 blurred, of 16 strong, and below that the number of labels
abbrev pub edge_of : ℕ → ℕ → (ℕ → ℕ) → GEdge
edge_of ends marks label = record {
  parent = ends / u16_end;
  child = ends % u16_end;
  blurred = eqb (marks / 32 % 2) 1;
  edge = record { strong = eqb (marks / 16 % 2) 1; path = up_to (min (marks % 16) max_labels) label; offset = marks / u16_end };
}

-- the edge whose words stand from `at` on
unfoldable pub edge_in : (ℕ → ℕ) → ℕ → GEdge
unfolding up_to
edge_in w at = edge_of (w at) (w (at + 1)) (λ i. label_in (w (at + 2 + i)))

-- the state that a block's words hold, in a routine of l locals
abbrev pub state_in : ℕ → (ℕ → ℕ) → State
state_in l w = record {
  locals = up_to (min l max_locals) (λ i. local_in (w i));
  graph = record {
    names = up_to (min (w 1 / label_end) max_names) (λ i. name_in (w (names_start + i)));
    edges = up_to (min (w 2 / label_end) max_edges) (λ i. edge_in w (edges_start + edge_words * i));
  };
}

-- what a block's words say, in a routine of l locals
unfoldable pub decode : ℕ → (ℕ → ℕ) → Option State
unfolding up_to edge_in
decode l w = cond (eqb (w 0 / label_end) 0) none (some (state_in l w))

-- an area of n words has block b
abbrev pub has_block : ℕ → ℕ → Bool
has_block n b = leb area_words n && ltb b max_blocks

-- the word at a place, and the k-th one from a place on
abbrev pub word_at : List ℕ → ℕ → ℕ
word_at ws k = get_or ws k 0

abbrev pub words_from : List ℕ → ℕ → ℕ → ℕ
words_from ws at k = get_or ws (at + k) 0

-- the kept state of the block at position b of the list
unfoldable pub kept_of : ℕ → List ℕ → ℕ → Option State
unfolding decode
kept_of l ws b = cond (has_block (length ws) b) (decode l (words_from ws (block_words * b))) none

-- the state s stored for block b: an area without that block stays as it is
pub record Stored (l : ℕ) (s : State) (b : ℕ) (ws ws' : List ℕ) : Type 0 where
  pub kept : kept_of l ws' b ≡ cond (has_block (length ws) b) (some s) none
  pub others : (m c : ℕ) → c ≢ b → kept_of m ws' c ≡ kept_of m ws c
  pub beyond : drop area_words ws' ≡ drop area_words ws
  pub short : has_block (length ws) b ≡ false → ws' ≡ ws

-- the first words of the first n blocks zero: they say that no state is kept
unfoldable pub unkept : ℕ → List ℕ → List ℕ
unkept zero ws = ws
unkept (suc b) ws = set (unkept b ws) (block_words * b) 0

-- no block has a kept state, and no word but those sixteen is written; a shorter area stays as it is
unfoldable pub forgotten : List ℕ → List ℕ
unfolding unkept
forgotten ws = cond (leb area_words (length ws)) (unkept max_blocks ws) ws

-- n words that are zero
unfoldable pub zeros : ℕ → List ℕ
zeros n = replicate n 0

-- "after an answer the first 16,384 words are zero, later ones untouched"; "7: work area under 16,384 32-bit words (.. area untouched)"
unfoldable pub cleared : List ℕ → List ℕ
unfolding zeros
cleared ws = cond (leb area_words (length ws)) (zeros area_words ++ drop area_words ws) ws
