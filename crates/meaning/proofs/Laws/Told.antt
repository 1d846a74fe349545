-- What the numbers of the reader say in a whole answer: those that neither a short area nor a run is refused with.
use Rattle.std.specs.Prelude.{ℕ, true, false, List, [], ◌∷◌, ◌⊎◌, ◌≢◌, ◌≡◌, refl}
use Rattle.std.proofs.Common.{arith, inl, inr, sym, ap, subst, ◌∙◌}
use Rattle.std.proofs.lemmas.Bool.{false≢true}
use Rattle.meaning.specs.Answers.{ordinary}
use Rattle.meaning.specs.Blocks.{Routine}
use Rattle.meaning.specs.Loop.{refusal, empty_cell}
use Rattle.meaning.specs.Listing.{Listed, read, nothing, refused, read_listing}
use Rattle.meaning.specs.Verify.{answer_to, verify}
use Rattle.meaning.proofs.Laws.Answer.{Told, LowListed, Any, low_bytes}
use Rattle.meaning.proofs.Laws.Listing.{no_bytes}
use Rattle.meaning.proofs.Laws.Run.{answer_refusals}
use Rattle.meaning.proofs.Laws.Verify.{verify_either}

module _ (words n p : ℕ) (area : n ≢ 7) (reader : ordinary n ≡ false) where
  not_run : (n ≡ 7) ⊎ (ordinary n ≡ true) → ⊥
  not_run (inl e) = area e
  not_run (inr e) = false≢true (sym reader ∙ e)

  judged : (s : List ℕ) → (verify words s).verdict ≡ refusal n p → (x : Listed Routine) → read_listing s ≡ x → LowListed s 65536 Any x → (answer_to x).verdict ≡ refusal n p
      → Told s 65536 n p
  judged s e (read q) h l z = absurd (not_run (answer_refusals s q h words n p e))
  judged s e nothing h l z = absurd l
  judged s e (refused m o) h l z =
      let a : m ≡ n = cc in
      let b : o ≡ p = cc in
      subst (λ (k : ℕ). Told s 65536 n k) b (subst (λ (k : ℕ). Told s 65536 k o) a l)

  bytes : (s : List ℕ) → (verify words s).verdict ≡ refusal n p → (answer_to (read_listing s)).verdict ≡ refusal n p → Told s 65536 n p
  bytes [] e z =
      let y : empty_cell ≡ refusal n p = sym (ap (λ (x : Listed Routine). (answer_to x).verdict) (no_bytes [] refl)) ∙ z in
      let f : ◌≡◌ {A = ℕ} 0 1 = cc in
      absurd (omega arith)
  bytes (x ∷ xs) e z = judged (x ∷ xs) e (read_listing (x ∷ xs)) refl (low_bytes x xs) z

  pub told : (s : List ℕ) → (verify words s).verdict ≡ refusal n p → Told s 65536 n p
  told s e =
      verify_either words s (λ a. a.verdict ≡ refusal n p → Told s 65536 n p)
      (λ z. let a : ◌≡◌ {A = ℕ} 7 n = cc in absurd (area (sym a)))
      (λ _ z. bytes s e z) e
