-- The answer and the area after a call, with room for the words or without.
use Rattle.std.specs.Prelude.{ℕ, ◌≤◌, ◌<◌, ◌≡◌, refl, List, true, false, length}
use Rattle.std.proofs.Common.{sym, ◌∙◌, true≢false, le-leb}
use Rattle.std.proofs.lemmas.Bool.{lt-leb}
use Rattle.meaning.specs.Area.{cleared}
use Rattle.meaning.specs.Verify.{Answered}
use Rattle.absint.specs.Models.{Left}
use Rattle.reference_safety_lib.specs.Words.{answer_words, fits, put_words, words_of, written, area_after, Kept}

module _ (a : Answered) (ws area : List ℕ) where
  pub no_room : length ws < answer_words → (false ≡ fits ws) × (ws ≡ written a ws) × (area ≡ area_after ws area)
  no_room h = rw (lt-leb answer_words (length ws) h) (refl, refl, refl)

  pub room : (ws' area' : List ℕ) → answer_words ≤ length ws → ws' ≡ put_words (words_of a) ws → area' ≡ cleared area → (true ≡ fits ws) × (ws' ≡ written a ws) × (area' ≡ area_after ws area)
  room ws' area' h e z = rw (le-leb answer_words (length ws) h) (refl, e, z)

module _ (a : Answered) (ws s area : List ℕ) where
  pub no_room_kept : length ws < answer_words → (false ≡ fits ws) × (ws ≡ written a ws) × Kept ws s area area
  no_room_kept h = (sym (lt-leb answer_words (length ws) h), (no_room a ws area h).1, record { left = λ f. absurd (true≢false (sym f ∙ lt-leb answer_words (length ws) h)); same = λ f. refl })

  pub room_kept : (ws' area' : List ℕ) → answer_words ≤ length ws → ws' ≡ put_words (words_of a) ws → Left s area area' → (true ≡ fits ws) × (ws' ≡ written a ws) × Kept ws s area area'
  room_kept ws' area' h e z = (sym (le-leb answer_words (length ws) h), (room a ws area ws' (cleared area) h e refl).1, record { left = λ f. z; same = λ f. absurd (true≢false (sym (le-leb answer_words (length ws) h) ∙ f)) })
