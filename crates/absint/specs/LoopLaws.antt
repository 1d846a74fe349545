-- Blocks and statuses read one by one.
use Rattle.std.specs.Prelude.{ℕ, zero, suc, ◌+◌, ◌≤◌, ◌<◌, ◌≡◌, refl, Bool, true, false, not, cond, List, [], ◌∷◌, map, eqb, ltb, length, drop, get_or, set, replicate, Some, None}
use Rattle.std.specs.Prelude as P
use Rattle.std.specs.List.{position_or_len}
use Rattle.std.specs.Option.{MatchOption}
use Rattle.std.specs.Ordering.{is_le, nat_cmp}
use Rattle.std.specs.Cmp.{nat_cmp_is}
use Rattle.std.proofs.Common.{Less, Equal, Greater}
use Rattle.std.specs.Prelude.{leb}
use Rattle.std.proofs.lemmas.Bool.{lt-leb}
use Rattle.meaning.proofs.Laws.Base.{decide, leb_le, leb_gt, le_leb, eqb_eq, eqb_ne}
use Rattle.std.proofs.Common.{le-ltb, lt-ltb, ltb-true, ltb-false, subst}
use Rattle.std.proofs.Common.{arith, sym, ap, ◌∙◌, add-one, drop-cons}
use Rattle.std.proofs.Math.Option.{Option, none, some}
use Rattle.std.proofs.lemmas.List.{length-map}
use Rattle.meaning.proofs.Laws.Array.{map_step}
use Rattle.meaning.specs.Loop as M
use Rattle.meaning.specs.Loop.{Status, fine, failed, position, lower, Verdict, accept, violation, refusal, verdict_for}
use Rattle.meaning.specs.Laws.Fit.{lowest_by}
use Rattle.listing.specs.Models.{block_of}
use Rattle.listing.specs.declared.Block.{Block}
use Rattle.absint.specs.Models.{status_of, statuses_of, failure_of, verdict_by, verdict_in}
use Rattle.absint.specs.declared.run_state.Failure.{Failure}
use Rattle.absint.specs.declared.run_state.RunState.{RunState}
use Rattle.absint.specs.declared.failure.FailedBlock.{FailedBlock}

-- what lies past the end of an array
abbrev pub past_block : Block
past_block = record { entry = record { 0 = 0 }; exit = record { 0 = 0 }; count = 0; first = record { 0 = 0 }; second = record { 0 = 0 } }

-- a search for the entry among the blocks of the code
pub position_in : (xs : List Block) (e : ℕ) → position_or_len (λ (b : Block). eqb e b.entry.0) xs ≡ position (map block_of xs) e
unfolding position
position_in [] e = refl
position_in (b ∷ xs) e = go (eqb e b.entry.0) _ _ (position_in xs e)
  where
    go : (t : Bool) (n m : ℕ) → n ≡ m → cond (not t) (1 + n) 0 ≡ cond t zero (suc m)
    go true n m h = refl
    go false n m h = omega (arith, h)

-- what the search answers
pub position_made : (xs : List Block) (e : ℕ) (r : P.Option ℕ)
    → r ≡ cond (ltb (position_or_len (λ (b : Block). eqb e b.entry.0) xs) (length xs)) (Some (position_or_len (λ (b : Block). eqb e b.entry.0) xs)) None
    → MatchOption r (length xs ≤ position (map block_of xs) e) (λ i. (i ≡ position (map block_of xs) e) × (i < length xs))
position_made xs e r h =
    let n : ℕ = position_or_len (λ (b : Block). eqb e b.entry.0) xs in
    let p : n ≡ position (map block_of xs) e = position_in xs e in
    subst (λ (o : P.Option ℕ). MatchOption o (length xs ≤ position (map block_of xs) e) (λ i. (i ≡ position (map block_of xs) e) × (i < length xs))) (sym h) (go (ltb n (length xs)) n refl p)
  where
    go : (t : Bool) (n : ℕ) → ltb n (length xs) ≡ t → n ≡ position (map block_of xs) e → MatchOption (cond {A = P.Option ℕ} t (Some n) None) (length xs ≤ position (map block_of xs) e) (λ i. (i ≡ position (map block_of xs) e) × (i < length xs))
    go true n t p = (p, ltb-true _ _ t)
    go false n t p = let z = ltb-false _ _ t in omega (arith, z, p)

pub statuses_count : (t : RunState) → length t.statuses ≡ 16 → length (statuses_of t) ≡ 16
unfolding statuses_of
statuses_count t w = simp length-map w

pub statuses_step : (t : RunState) (i : ℕ) → i < length t.statuses → drop i (statuses_of t) ≡ status_of (get_or t.statuses i None) ∷ drop (i + 1) (statuses_of t)
unfolding statuses_of
statuses_step t i h = map_step status_of t.statuses i (get_or t.statuses i None) (rw add-one (drop-cons t.statuses i None h))

pub statuses_set : (t : RunState) (j : ℕ) (x : P.Option Failure) → map status_of (set t.statuses j x) ≡ set (statuses_of t) j (status_of x)
unfolding statuses_of
statuses_set t j x = go t.statuses j
  where
    go : (l : List (P.Option Failure)) (i : ℕ) → map status_of (set l i x) ≡ set (map status_of l) i (status_of x)
    go [] i = refl
    go (y ∷ l) zero = refl
    go (y ∷ l) (suc i) = ap (λ (r : List Status). status_of y ∷ r) (go l i)

pub lowest_step : (b : M.Block) (bs : List M.Block) (y : Status) (xs : List Status) (f : Option M.Failure) → lowest_by (b ∷ bs) (y ∷ xs) f ≡ lowest_by bs xs (lower b.entry y f)
unfolding lowest_by
lowest_step b bs y xs f = refl

-- no block is left: the lowest so far is that of all
pub lowest_all : (bs : List M.Block) (xs : List Status) (i : ℕ) (f : Option M.Failure) → drop i bs ≡ [] → lowest_by (drop i bs) (drop i xs) f ≡ lowest_by bs xs none → f ≡ lowest_by bs xs none
unfolding lowest_by
lowest_all bs xs i f z e = ap (λ (ys : List M.Block). lowest_by ys (drop i xs) f) (sym z) ∙ e

-- the order that is derived
pub le_asks : (a b : ℕ) → is_le (nat_cmp a b) ≡ leb a b
le_asks a b = decide (ltb a b)
    (λ t. let h = ltb-true _ _ t in ap is_le (sym (nat_cmp_is a b Less h)) ∙ sym (le_leb (omega (arith, h))))
    (λ t. let h = ltb-false _ _ t in decide (eqb a b)
    (λ u. let e = eqb_eq u in ap is_le (sym (nat_cmp_is a b Equal e)) ∙ sym (le_leb (omega (arith, e))))
    (λ u. let e = eqb_ne u in let z : b < a = omega (arith, h, e) in ap is_le (sym (nat_cmp_is a b Greater z)) ∙ sym (lt-leb a b z)))

-- the verdict of a run that was not stopped
pub verdict_going : (bs : List M.Block) (t : RunState) (l : P.Option FailedBlock) → t.stopped ≡ None → failure_of l ≡ lowest_by bs (statuses_of t) none → verdict_for (failure_of l) ≡ verdict_in bs t
verdict_going bs t l on all = ap verdict_for all ∙ sym (ap (verdict_by (verdict_for (lowest_by bs (statuses_of t) none))) on)

-- the failure of a block against the lowest one so far: the older one, or the new one
pub lower_old : (o f : M.Failure) → leb o.entry f.entry ≡ true → some o ≡ lower f.entry (failed f.code f.offset f.borrowed_at) (some o)
lower_old o f h = ap (λ (t : Bool). some (cond t f o)) (sym (le-ltb f.entry o.entry (leb_le h)))

pub lower_new : (o f : M.Failure) → leb o.entry f.entry ≡ false → some f ≡ lower f.entry (failed f.code f.offset f.borrowed_at) (some o)
lower_new o f h = ap (λ (t : Bool). some (cond t f o)) (sym (lt-ltb f.entry o.entry (leb_gt h)))

-- no error yet
pub all_fine : (n : ℕ) (x : Status) (j : ℕ) → x ≡ fine → get_or (replicate n x) j fine ≡ fine
all_fine zero x j e = refl
all_fine (suc n) x zero e = e
all_fine (suc n) x (suc j) e = all_fine n x j e
