-- The answer by how long the area is.
use Rattle.std.specs.Prelude.{ℕ, ◌≤◌, ◌<◌, Bool, List, ◌≡◌, ltb}
use Rattle.std.proofs.Math.Bool.{cond}
use Rattle.std.proofs.Common.{sym, subst, lt-ltb, le-ltb, ltb-true, ltb-false}
use Rattle.std.proofs.Math.Path.{ap}
use Rattle.meaning.specs.Limits.{area_words}
use Rattle.meaning.specs.Loop.{refusal}
use Rattle.meaning.specs.Listing.{read_listing}
use Rattle.meaning.specs.Verify.{Answered, answer_to, verify}
use Rattle.meaning.proofs.Laws.Base.{decide}

abbrev pub too_short : Answered
too_short = record { verdict = refusal 7 0; visits = 0; blurred = 0 }

module _ (words : ℕ) (s : List ℕ) where
  pub verify_short : words < area_words → verify words s ≡ too_short
  unfolding verify
  verify_short h = ap (λ (b : Bool). cond b too_short (answer_to (read_listing s))) (lt-ltb words area_words h)

  pub verify_long : area_words ≤ words → verify words s ≡ answer_to (read_listing s)
  unfolding verify
  verify_long h = ap (λ (b : Bool). cond b too_short (answer_to (read_listing s))) (le-ltb words area_words h)

  -- what holds of both holds of the answer
  pub verify_either : (P : Answered → Type 0) → P too_short → (area_words ≤ words → P (answer_to (read_listing s))) → P (verify words s)
  verify_either P short long =
      decide (ltb words area_words)
      (λ e. subst P (sym (verify_short (ltb-true _ _ e))) short)
      (λ e. subst P (sym (verify_long (ltb-false _ _ e))) (long (ltb-false _ _ e)))
