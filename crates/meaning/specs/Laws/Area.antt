-- Words of contracts whose laws stand in proofs/Laws/Area.antt.
use Prim.Native.Nat.{ℕ, zero, suc, ◌+◌, ◌<◌, ◌≤◌, ◌/◌, ◌*◌}
use Rattle.std.specs.Prelude.{Bool, true, false, ◌≡◌, length, get_or}
use mathlib.Core.List.{List}
use Rattle.meaning.specs.BorrowGraph.{GEdge, Name}
use Rattle.meaning.specs.AbstractState.{Local}
use Rattle.meaning.specs.Area.{local_in, name_in, edge_in, word_at}

-- an array of which the first i elements are written
pub record Filled {A B : Type 0} (g : B → A) (d : B) (f : ℕ → A) (n i : ℕ) (xs : List B) : Type 0 where
  pub size : length xs ≡ n
  pub within : (j : ℕ) → j < i → g (get_or xs j d) ≡ f j

pub record Frame (at n : ℕ) (ws ws' : List ℕ) : Type 0 where
  pub size : length ws' ≡ length ws
  pub below : (k : ℕ) → k < at → get_or ws' k 0 ≡ get_or ws k 0
  pub above : (k : ℕ) → at + n ≤ k → get_or ws' k 0 ≡ get_or ws k 0

-- of n words from `at` on the first i are written, each with what P asks of it
pub record Written (P : ℕ → ℕ → Type 0) (at n i : ℕ) (ws ws' : List ℕ) : Type 0 where
  pub frame : Frame at n ws ws'
  pub within : (j : ℕ) → j < i → P j (get_or ws' (at + j) 0)

abbrev pub bit : Bool → ℕ
bit true = 1
bit false = 0

-- of n edges from `at` on the first i are written
pub record WrittenEdges (f : ℕ → GEdge) (at n i : ℕ) (ws ws' : List ℕ) : Type 0 where
  pub frame : Frame at (10 * n) ws ws'
  pub within : (j : ℕ) → j < i → edge_in (word_at ws') (at + 10 * j) ≡ f j

-- what stands above a local: that a state is kept, the number of its names, of its edges
abbrev pub above_local : ℕ → ℕ → ℕ → ℕ
above_local names edges zero = 1
above_local names edges (suc zero) = names
above_local names edges (suc (suc zero)) = edges
above_local names edges (suc (suc (suc i))) = 0

-- a local's word, and a name's
abbrev pub IsLocal : (ℕ → Local) → ℕ → ℕ → ℕ → ℕ → Type 0
IsLocal f names edges i w = (local_in w ≡ f i) × (w / 262144 ≡ above_local names edges i)

abbrev pub IsName : (ℕ → Name) → ℕ → ℕ → Type 0
IsName f i w = name_in w ≡ f i

-- an area's first words are written with zeros
abbrev pub IsZero : ℕ → ℕ → Type 0
IsZero i w = w ≡ 0
