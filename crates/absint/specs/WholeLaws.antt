-- From the bytes to the verdict.
use Rattle.std.specs.Prelude.{ℕ, ◌≤◌, ◌<◌, ◌≡◌, refl, Bool, true, false, cond, List, ◌++◌, leb, length, drop, Some, None}
use Rattle.std.specs.Prelude as P
use Rattle.std.proofs.Common.{arith, sym, ap, ◌∙◌, subst}
use Rattle.std.proofs.Math.Option.{none}
use Rattle.meaning.proofs.Laws.Base.{decide, leb_le, leb_gt}
use Rattle.meaning.specs.Limits.{area_words}
use Rattle.meaning.specs.Area.{kept_of, forgotten, cleared, zeros}
use Rattle.meaning.proofs.Laws.Area.{forgotten_law, forgotten_short, cleared_long}
use Rattle.meaning.specs.Blocks.{Routine}
use Rattle.meaning.specs.Loop.{visits, Verdict, verdict_for, verdict, verdict_at}
use Rattle.meaning.specs.Laws.Fit.{lowest_by}
use Rattle.meaning.proofs.Laws.Fit.{lowest_by_lem}
use Rattle.meaning.proofs.Laws.Verify.{verify_long}
use Rattle.meaning.specs.Listing.{Listed, read, nothing, refused, read_listing}
use Rattle.meaning.specs.Verify as Whole
use Rattle.meaning.specs.Verify.{run_of, kept_by}
use Rattle.listing.specs.Models.{routine_of}
use Rattle.listing.specs.declared.Routine as Made
use Rattle.absint.specs.Models.{statuses_of, next_by, verdict_by, verdict_in, Analyzed, Left}
use Rattle.absint.specs.declared.run_state.Stop.{Stop}
use Rattle.absint.specs.declared.run_state.RunState.{RunState}

-- ---- the routine that was read

abbrev routine_in : Routine → Listed Routine → Routine
routine_in d (read q) = q
routine_in d nothing = d
routine_in d (refused n p) = d

-- ---- the answer

module _ (words : ℕ) (s : List ℕ) (h : area_words ≤ words) where
  pub verify_as : (x : Listed Routine) → read_listing s ≡ x → Whole.answer_to x ≡ Whole.verify words s
  verify_as x e = sym (verify_long words s h ∙ ap Whole.answer_to e)

  pub verify_read : (q : Routine) (v : Verdict) (n m : ℕ) → read_listing s ≡ read q → v ≡ verdict q.blocks (run_of q) → n ≡ visits (run_of q) → m ≡ (run_of q).blurs
      → record { verdict = v; visits = n; blurred = m } ≡ Whole.verify words s
  verify_read q v n m e a b c = (λ k. record { verdict = a k; visits = b k; blurred = c k }) ∙ verify_as (read q) e

-- the statuses give the verdict
pub ruled : (s cs : List ℕ) (d : Made.Routine) (ws₀ ws : List ℕ) (t : RunState) → length (statuses_of t) ≡ 16 → d.block_count ≤ 16 → length (routine_of s cs d).blocks ≡ d.block_count → Analyzed s cs d ws₀ ws t
    → verdict_in (routine_of s cs d).blocks t ≡ verdict (routine_of s cs d).blocks (run_of (routine_of s cs d))
unfolding verdict
ruled s cs d ws₀ ws t w few count a = go t.stopped ∙ ap (verdict_at (routine_of s cs d).blocks (run_of (routine_of s cs d)).slots) a.end.next
  where
    go : (o : P.Option Stop) → verdict_by (verdict_for (lowest_by (routine_of s cs d).blocks (statuses_of t) none)) o
        ≡ verdict_at (routine_of s cs d).blocks (run_of (routine_of s cs d)).slots (next_by t.next o)
    go (Some v) = refl
    go None = ap verdict_for (lowest_by_lem (routine_of s cs d).blocks (statuses_of t) (run_of (routine_of s cs d)).slots none (let z = a.end.same_length in omega (arith, z, w, few, count)) a.end.fits.status a.end.same_length)

-- ---- what is left in the area

-- a listing is read in one way only
abbrev sort : Listed Routine → ℕ
sort (read q) = 0
sort nothing = 1
sort (refused n p) = 2

other : {A : Type 0} (s : List ℕ) (x y : Listed Routine) → read_listing s ≡ x → read_listing s ≡ y → (sort x ≡ sort y → ⊥) → A
other s x y e f d = absurd (d (ap sort (sym e ∙ f)))

pub left_short : (s ws : List ℕ) → length ws < area_words → Left s ws ws
left_short s ws h = record {
  kept = λ a q e j. absurd (omega (arith, a, h));
  bare = λ e. sym (forgotten_short ws h);
  unread = λ n p e. refl;
  short = λ z. refl;
  beyond = refl;
}

pub left_nothing : (s ws ws' : List ℕ) → area_words ≤ length ws → read_listing s ≡ nothing → ws' ≡ forgotten ws → Left s ws ws'
left_nothing s ws ws' h e f = record {
  kept = λ a q g j. other s nothing (read q) e g (λ z. omega arith);
  bare = λ g. f;
  unread = λ n p g. other s nothing (refused n p) e g (λ z. omega arith);
  short = λ z. absurd (omega (arith, z, h));
  beyond = subst (λ (us : List ℕ). drop area_words us ≡ drop area_words ws) (sym f) (forgotten_law ws h).beyond;
}

pub left_refused : (s ws : List ℕ) (n p : ℕ) → read_listing s ≡ refused n p → Left s ws ws
left_refused s ws n p e = record {
  kept = λ a q f j. other s (refused n p) (read q) e f (λ z. omega arith);
  bare = λ f. other s (refused n p) nothing e f (λ z. omega arith);
  unread = λ m o f. refl;
  short = λ z. refl;
  beyond = refl;
}

pub left_read : (s cs : List ℕ) (d : Made.Routine) (ws₀ ws : List ℕ) (t : RunState) → area_words ≤ length ws₀ → read_listing s ≡ read (routine_of s cs d) → Analyzed s cs d ws₀ ws t → Left s ws₀ ws
left_read s cs d ws₀ ws t h e a =
    record {
      kept = λ z q f j. subst (λ (r : Routine). kept_of r.locals ws j ≡ kept_by (read r) j) (same q f) (a.end.fits.kept j);
      bare = λ f. other s (read (routine_of s cs d)) nothing e f (λ z. omega arith);
      unread = λ n p f. other s (read (routine_of s cs d)) (refused n p) e f (λ z. omega arith);
      short = λ z. absurd (omega (arith, z, h));
      beyond = a.beyond;
    }
  where
    same : (q : Routine) → read_listing s ≡ read q → routine_of s cs d ≡ q
    same q f = ap (routine_in (routine_of s cs d)) (sym e ∙ f)

pub cleared_left : (s ws ws' : List ℕ) → length ws' ≡ length ws → Left s ws ws' → cleared ws' ≡ cleared ws
cleared_left s ws ws' e l = decide (leb area_words (length ws))
    (λ h. let z : area_words ≤ length ws = leb_le h in cleared_long ws' (omega (arith, z, e)) ∙ ap (λ (us : List ℕ). zeros area_words ++ us) l.beyond ∙ sym (cleared_long ws z))
    (λ h. let z : length ws < area_words = leb_gt h in ap cleared (l.short z))
