-- A3: which answers are an empty cell.
use Rattle.std.specs.Prelude.{ℕ, ◌≤◌, Bool, true, false, List, [], ◌∷◌, ◌≡◌, refl}
use Rattle.std.proofs.Common.{true≢false, sym, ap, ◌∙◌}
use Rattle.std.proofs.Math.Option.{Option, none, some}
use Rattle.meaning.specs.Limits.{area_words}
use Rattle.meaning.specs.AbstractState.{State}
use Rattle.meaning.specs.Blocks.{Routine}
use Rattle.meaning.specs.Loop.{Block, Failure, Next, at, stopped, Run, Verdict, accept, violation, refusal, empty_cell, lowest, verdict_for, verdict_at, verdict}
use Rattle.meaning.specs.Listing.{Listed, read, nothing, refused, read_listing}
use Rattle.meaning.specs.Verify.{run_of, answer_to, verify}
use Rattle.meaning.proofs.Laws.Answer.{LowListed, Any, low_bytes}
use Rattle.meaning.proofs.Laws.Listing.{no_bytes}
use Rattle.meaning.proofs.Laws.Verify.{verify_long, verify_either}

-- ---- an empty cell

pub zero_bytes : (words : ℕ) → area_words ≤ words → verify words [] ≡ record { verdict = empty_cell; visits = 0; blurred = 0 }
zero_bytes words h = verify_long words [] h ∙ ap answer_to (no_bytes [] refl)

abbrev is_empty_cell : Verdict → Bool
is_empty_cell accept = false
is_empty_cell (violation c o a) = false
is_empty_cell (refusal n p) = false
is_empty_cell empty_cell = true

run_judges : (bs : List Block) (r : Run State) → is_empty_cell (verdict bs r) ≡ false
unfolding verdict
run_judges bs r = go r.next
  where
    for : (f : Option Failure) → is_empty_cell (verdict_for f) ≡ false
    for none = refl
    for (some f) = refl

    go : (x : Next) → is_empty_cell (verdict_at bs r.slots x) ≡ false
    go (at i) = for (lowest bs r.slots none)
    go (stopped n p) = refl

pub only_zero_bytes : (words : ℕ) (s : List ℕ) → (verify words s).verdict ≡ empty_cell → (s ≡ []) × (area_words ≤ words)
only_zero_bytes words s =
    verify_either words s (λ a. a.verdict ≡ empty_cell → (s ≡ []) × (area_words ≤ words))
    (λ e. absurd (true≢false (sym (ap is_empty_cell e))))
    (λ h e. (bytes s e, h))
  where
    judged : (s : List ℕ) (x : Listed Routine) → LowListed s 65536 Any x → (answer_to x).verdict ≡ empty_cell → ⊥
    judged s (read q) t z = true≢false (sym (ap is_empty_cell z) ∙ run_judges q.blocks (run_of q))
    judged s nothing t z = t
    judged s (refused n p) t z = true≢false (sym (ap is_empty_cell z))

    bytes : (s : List ℕ) → (answer_to (read_listing s)).verdict ≡ empty_cell → s ≡ []
    bytes [] z = refl
    bytes (x ∷ xs) z = absurd (judged (x ∷ xs) (read_listing (x ∷ xs)) (low_bytes x xs) z)
