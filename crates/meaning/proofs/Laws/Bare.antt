-- In a run the tests for 8, 9 and 23 pass: the graph calls and look-ups without them.
use Prim.Native.Nat.{ℕ, suc, ◌≤◌}
use native.Mathlib.Omega.{arith}
use Rattle.std.specs.Prelude.{Bool, true, false, ◌&&◌, List, ◌∷◌, ◌≡◌}
use Rattle.std.proofs.lemmas.Bool.{false≢true}
use Rattle.std.proofs.Math.Path.{refl}
use Rattle.std.proofs.Math.ListN.{length}
use Rattle.meaning.specs.Answers.{Ans, guard, Outcome, needs, ok, and_then}
use Rattle.meaning.specs.BorrowGraph.{Graph, held, well_formed, add_all, limit, spliced, without, release, put_name, new_name}
use Rattle.meaning.specs.EntryPoints.{needs_name}
use Rattle.meaning.proofs.Laws.Base.{and_i, le_leb}
use Rattle.meaning.proofs.Laws.Own.{times, Owns, owns_held, owns_room, not_yet}

guard_yes : {A : Type 0} (b : Bool) (n : ℕ) (k : Ans A) → b ≡ true → guard b n k ≡ k
guard_yes true n k e = refl
guard_yes false n k e = absurd (false≢true e)

needs_yes : {A : Type 0} (b : Bool) (n : ℕ) (k : Outcome A) → b ≡ true → needs b n k ≡ k
needs_yes true n k e = refl
needs_yes false n k e = absurd (false≢true e)

module _ (l : ℕ) (g : Graph) (next : ℕ) (xs : List ℕ) (m : ℕ) (o : Owns l g next xs m) where
  pub known_bare : {A : Type 0} (n : ℕ) (k : Outcome A) → 1 ≤ times n (l ∷ xs) → needs_name g n k ≡ k
  known_bare n k u = needs_yes (well_formed g && held g n) 9 k (and_i o.formed (owns_held l g next xs m o n u))

  pub release_bare : (n : ℕ) → 1 ≤ times n (l ∷ xs) → release g n ≡ and_then (add_all (spliced g n) (without g n)) limit
  unfolding release
  release_bare n u = guard_yes (well_formed g && held g n) 9 (and_then (add_all (spliced g n) (without g n)) limit) (and_i o.formed (owns_held l g next xs m o n u))

  pub new_name_bare : (b : Bool) → length xs ≤ 46 → new_name g next b ≡ ok (record { names = put_name (record { id = next; mutable = b }) g.names; edges = g.edges })
  unfolding new_name
  new_name_bare b k =
      let a : length g.names ≤ suc (length xs) = owns_room l g next xs m o in
      let c : suc (length g.names) ≤ 48 = omega arith in
      rw (o.formed, not_yet l g next xs m o, le_leb c) refl
