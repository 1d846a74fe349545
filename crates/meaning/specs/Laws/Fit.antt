-- Words of contracts whose laws stand in proofs/Laws/Fit.antt: the loop's slots as a program keeps them.
use Prim.Native.Nat.{ℕ, ◌<◌}
use Rattle.std.specs.Prelude.{Bool, ◌≡◌, get_or}
use mathlib.Core.List.{List, [], ◌∷◌}
use Rattle.std.proofs.Math.Option.{Option}
use Rattle.std.proofs.Math.ListN.{length}
use Rattle.meaning.specs.Answers.{Ans}
use Rattle.meaning.specs.Loop.{Status, fine, Slot, blank, Result, Block, Next, Run, Propagation, propagate, propagate_blurs, Failure, lower}

-- past the last slot no state is kept
pub record Fits {St : Type 0} (ks : ℕ → Option St) (xs : List Status) (ss : List (Slot St)) : Type 0 where
  pub kept : (j : ℕ) → ks j ≡ (get_or ss j blank).kept
  pub status : (j : ℕ) → j < length ss → get_or xs j fine ≡ (get_or ss j blank).status

module _ (St : Type 0) (join : St → St → Ans St) (join_blurs : St → St → ℕ) (changed : St → St → Bool) (exec : ℕ → St → Result St) (blocks : List Block) where
  -- a program that does on its states and statuses what f does on the slots
  unfoldable pub Does : (List (Slot St) → Next → Propagation St) → (ℕ → Option St) → List Status → Next → (ℕ → Option St) → List Status → Next → Type 0
  Does f ks xs n ks' xs' n' = (ss : List (Slot St)) → length ss ≡ length blocks → Fits ks xs ss → (length (f ss n).slots ≡ length blocks) × Fits ks' xs' (f ss n).slots × (n' ≡ (f ss n).next)

  -- m is the number that f passes up
  unfoldable pub Passes : (List (Slot St) → Next → ℕ) → (ℕ → Option St) → List Status → Next → ℕ → Type 0
  Passes f ks xs n m = (ss : List (Slot St)) → length ss ≡ length blocks → Fits ks xs ss → m ≡ f ss n

  abbrev pub propagate_on : Block → St → List ℕ → List (Slot St) → Next → Propagation St
  propagate_on b t es ss n = propagate St join join_blurs changed exec blocks b t es (record { slots = ss; next = n })

  abbrev pub propagate_blurs_on : Block → St → List ℕ → List (Slot St) → Next → ℕ
  propagate_blurs_on b t es ss n = propagate_blurs St join join_blurs changed exec blocks b t es (record { slots = ss; next = n })

  pub record Reached (r : Run St) (ks : ℕ → Option St) (xs : List Status) (n : Next) (v b : ℕ) : Type 0 where
    pub same_length : length r.slots ≡ length blocks
    pub fits : Fits ks xs r.slots
    pub next : n ≡ r.next
    pub visited : v ≡ length r.trail
    pub blurred : b ≡ r.blurs

unfoldable pub lowest_by : List Block → List Status → Option Failure → Option Failure
lowest_by [] xs f = f
lowest_by (x ∷ bs) [] f = f
lowest_by (x ∷ bs) (y ∷ xs) f = lowest_by bs xs (lower x.entry y f)
