-- What a call answers: a value, a violation or a refusal. Document 01: "a violation (code, offset) or a refusal (number, place)"; the place is
-- added where a block or the reader knows it.
use Rattle.std.specs.Prelude.{ℕ, Bool, true, false, ◌&&◌, ◌||◌, leb}
use Rattle.std.proofs.Math.Option.{Option, none, some}

-- ---- an answer: a value, or the number of a refusal

-- what a graph call answers: a value, or the number of a refusal
pub data Ans (A : Type 0) : Type 0 where
  ok : A → Ans A
  refuse : ℕ → Ans A

-- "first one ends the run": a refusal is handed on
abbrev pub and_then : {A B : Type 0} → Ans A → (A → Ans B) → Ans B
and_then (ok a) f = f a
and_then (refuse n) f = refuse n

-- the answer k where the test holds, else the refusal n
abbrev pub guard : {A : Type 0} → Bool → ℕ → Ans A → Ans A
guard true n k = k
guard false n k = refuse n

-- "A refused graph call leaves the graph unchanged": what stands after a call is its answer or, refused, what it got
abbrev pub leaves : {A : Type 0} → A → Ans A → A
leaves a (ok b) = b
leaves a (refuse n) = a

-- ---- outcomes

-- What an instruction answers: done; a violation: how many sets were blurred on the way, its code, and where what it fails on was borrowed; or
-- a refusal's number.
pub data Outcome (A : Type 0) : Type 0 where
  done : A → Outcome A
  violated : ℕ → ℕ → ℕ → Outcome A
  refused : ℕ → Outcome A

-- a refusal that a run may give: the "Routine's author", 10 to 15 (by A2 without 16), or the "Size of the controller", 20 to 22
abbrev pub ordinary : ℕ → Bool
ordinary n = (leb 10 n && leb n 15) || (leb 20 n && leb n 22)

-- "Later ones follow the Rust's step order, first one ends the run"
abbrev pub then : {A B : Type 0} → Outcome A → (A → Outcome B) → Outcome B
then (done a) f = f a
then (violated k c o) f = violated k c o
then (refused n) f = refused n

-- a graph call's answer within an instruction
abbrev pub lift : {A : Type 0} → Ans A → Outcome A
lift (ok a) = done a
lift (refuse n) = refused n

-- the violation c, if an edge fails the test, the lowest one's offset being given; b sets were blurred before
abbrev pub fails_at : {A : Type 0} → ℕ → Option ℕ → ℕ → Outcome A → Outcome A
fails_at b none c k = k
fails_at b (some o) c k = violated b c o

-- the refusal n, unless the test holds
abbrev pub needs : {A : Type 0} → Bool → ℕ → Outcome A → Outcome A
needs true n k = k
needs false n k = refused n
