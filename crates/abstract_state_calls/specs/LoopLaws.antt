-- Calls in a row, each on the state that the last one left.
use Rattle.std.specs.Prelude.{◌≡◌, ℕ, ◌+◌, Bool, false, List, [], ◌∷◌, drop, ◌==◌}
use Rattle.std.specs.Prelude.{refl}
use Rattle.std.proofs.Common.{sym, ap, ◌∙◌}
use Rattle.std.proofs.Math.Option.{Option}
use Rattle.meaning.specs.Answers.{Outcome, done, then, fails_at}
use Rattle.meaning.specs.BorrowGraph.{Graph}
use Rattle.meaning.specs.BorrowGraph as L
use Rattle.meaning.specs.EntryPoints.{needs_name, Running}
use Rattle.abstract_state.specs.Models.{Words, Fits, Does, outcome_of, heeding, failing}
use Rattle.abstract_state.specs.ModelLaws.{then_then, then_done, under, heed_at, fail_at, known_then, fails_then}

-- ---- questions of a name

module _ (g : Graph) (n : ℕ) (r : Running) where
  pub heeding_at : (b : Bool) → heeding (L.of_name g n b) r ≡ needs_name g n (done r)
  heeding_at b = then_done (heeding (L.of_name g n b) r) ∙ heed_at g n b r done

  pub failing_at : (l : Option ℕ) (c : ℕ) → (c == 0) ≡ false → failing (L.of_name g n l) c r ≡ needs_name g n (fails_at r.blurs l c (done r))
  failing_at l c z = then_done (failing (L.of_name g n l) c r) ∙ fail_at g n l r done c z

pub known_fails_then : {A B : Type 0} (g : Graph) (n j : ℕ) (l : Option ℕ) (c : ℕ) (o : Outcome A) (k : A → Outcome B) → then (needs_name g n (fails_at j l c o)) k ≡ needs_name g n (fails_at j l c (then o k))
known_fails_then {A} {B} g n j l c o k = known_then g n (fails_at j l c o) k ∙ ap (λ (x : Outcome B). needs_name g n x) (fails_then j l c o k)

-- ---- a loop that takes a step for each element

module _ {A S B : Type 0} (F : List A → S → Outcome B) (xs : List A) where
  pub each_turn : (step : A → S → Outcome S) → ((x : A) (ys : List A) (s : S) → F (x ∷ ys) s ≡ then (step x s) (F ys))
      → (i : ℕ) (x : A) (o p : Outcome S) (t : Outcome B) → drop i xs ≡ x ∷ drop (i + 1) xs → p ≡ then o (step x) → then o (F (drop i xs)) ≡ t → then p (F (drop (i + 1) xs)) ≡ t
  each_turn step law i x o p t e d h =
      let rest : List A = drop (i + 1) xs in
      ap (λ (q : Outcome S). then q (F rest)) d
      ∙ then_then o (step x) (F rest)
      ∙ under o (λ s. then (step x s) (F rest)) (F (x ∷ rest)) (λ s. sym (law x rest s))
      ∙ sym (ap (λ (l : List A). then o (F l)) e)
      ∙ h

  pub each_done : (i : ℕ) (o : Outcome S) (t : Outcome B) → drop i xs ≡ [] → then o (F (drop i xs)) ≡ t → then o (F []) ≡ t
  each_done i o t e h = sym (ap (λ (l : List A). then o (F l)) e) ∙ h

-- Of f, g is left to do where the state has come from a to b.
pub record Left (f g : Running → Outcome Running) (a b : Words) : Type 0 where
  pub fits : Fits a → Fits b
  pub left : Fits a → then (outcome_of b) g ≡ then (outcome_of a) f

pub left_all : (f : Running → Outcome Running) (a : Words) → Left f f a a
left_all f a = record { fits = λ h. h; left = λ h. refl }

module _ {A : Type 0} (F : List A → Running → Outcome Running) (xs : List A) (i : ℕ) (a b c : Words) where
  pub left_turn : (step : A → Running → Outcome Running) → ((x : A) (ys : List A) (s : Running) → F (x ∷ ys) s ≡ then (step x s) (F ys))
      → (x : A) → drop i xs ≡ x ∷ drop (i + 1) xs → Does (step x) b c → Left (F xs) (F (drop i xs)) a b → Left (F xs) (F (drop (i + 1) xs)) a c
  left_turn step law x e d p = record {
    fits = λ h. d.fits (p.fits h);
    left = λ h. each_turn F xs step law i x (outcome_of b) (outcome_of c) (then (outcome_of a) (F xs)) e (d.does (p.fits h)) (p.left h);
  }

  pub left_done : drop i xs ≡ [] → Does (F []) b c → Left (F xs) (F (drop i xs)) a b → Does (F xs) a c
  left_done e d p = record {
    fits = λ h. d.fits (p.fits h);
    does = λ h. d.does (p.fits h) ∙ each_done F xs i (outcome_of b) (then (outcome_of a) (F xs)) e (p.left h);
  }
