-- The numbers that a call acquires: of those that are borrowed, the lowest one decides.
use Rattle.std.specs.Prelude.{◌≡◌, ℕ, ◌<◌, ◌≤◌, min, Bool, true, false, cond, ◌&&◌, List, [], ◌∷◌, ◌==◌, nat_lt}
use Rattle.std.specs.Prelude as P
use Rattle.std.specs.Prelude.{Some, None}
use Rattle.std.specs.Option as O
use Rattle.file_format.specs.declared.CodeOffset.{CodeOffset}
use Rattle.borrow_graph.specs.Models.{low_in}
use Rattle.std.proofs.Math.Path.{refl, sym, ap}
use Rattle.std.proofs.Common.{◌∙◌, true≢false}
use borrow.Author.Tests.{ltb-true, ltb-false}
use Rattle.std.proofs.Math.Option.{Option, none, some}
use native.Mathlib.Omega.{arith}
use Rattle.meaning.specs.Limits.{GLOBAL_REFERENCE}
use Rattle.meaning.specs.Lists.{any}
use Rattle.meaning.specs.Labels.{global_label}
use Rattle.meaning.specs.Answers.{Ans, ok, refuse, guard, Outcome, done, fails_at, needs}
use Rattle.meaning.specs.BorrowGraph.{GEdge, well_formed, held, borrows, lower_of, lowest_of}
use Rattle.meaning.specs.BorrowGraph as L
use Rattle.meaning.specs.AbstractState.{count1}
use Rattle.meaning.specs.EntryPoints.{Running, ascend, none_borrowed, not_acquired}
use Rattle.meaning.proofs.Laws.Base.{decide, eqb_self}
use Rattle.meaning.proofs.Laws.Own.{times, count_yes}
use Rattle.meaning.proofs.Laws.InTurn.{Sorted, ascend_sorted}
use Rattle.meaning.proofs.Laws.Tests.{is_some, lowest_some, gather_ascend}
use Rattle.borrow_graph.specs.Folds.{lower_if}
use Rattle.abstract_state.specs.Models.{heeding, failing}
use Rattle.abstract_state_calls.specs.Models.{acquiring, is_borrowed, is_below, lowest_borrowed}
use Rattle.abstract_state_calls.specs.LoopLaws.{heeding_at, failing_at}

-- ---- one number, and none

pub acquire_one : (i : ℕ) (r : Running) → failing (L.of_name r.graph r.root (lowest_of (borrows r.root (some (global_label i))) r.graph.edges)) GLOBAL_REFERENCE r ≡ acquiring (i ∷ []) r
unfolding not_acquired
acquire_one i r = failing_at r.graph r.root r (lowest_of (borrows r.root (some (global_label i))) r.graph.edges) GLOBAL_REFERENCE refl

pub acquire_none : (b : Bool) (r : Running) → heeding (L.of_name r.graph r.root b) r ≡ acquiring [] r
unfolding not_acquired
acquire_none b r = heeding_at r.graph r.root r b

-- the code's test of a look-up's answer
abbrev pub finds : Ans (Option ℕ) → Bool
finds (ok l) = is_some l
finds (refuse n) = false

pub some_found : (o : P.Option CodeOffset) → O.is_some o ≡ is_some (low_in o)
some_found None = refl
some_found (Some o) = refl

pub borrowed_known : (i : ℕ) (r : Running) (t : Ans (Option ℕ)) → t ≡ L.of_name r.graph r.root (lowest_of (borrows r.root (some (global_label i))) r.graph.edges) → finds t ≡ is_borrowed r i
borrowed_known i r t e =
    let p : GEdge → Bool = borrows r.root (some (global_label i)) in
    ap finds e ∙ go (well_formed r.graph && held r.graph r.root) (lowest_of p r.graph.edges) ∙ ap (λ (b : Bool). (well_formed r.graph && held r.graph r.root) && b) (lowest_some p r.graph.edges)
  where
    go : (b : Bool) (l : Option ℕ) → finds (guard b 9 (ok l)) ≡ (b && is_some l)
    go true l = refl
    go false l = refl

-- one number more: below those found, or not
pub lower_put : (n : ℕ) (l : Option ℕ) → is_below n l ≡ true → some n ≡ lower_if true n l
lower_put n none e = refl
lower_put n (some a) e = let h : n < a = ltb-true n a e in let m : n ≡ min n a = omega arith in ap some m

pub lower_kept : (b : Bool) (n : ℕ) (l : Option ℕ) → is_below n l ≡ false → l ≡ lower_if b n l
lower_kept b n none e = absurd (true≢false e)
lower_kept false n (some a) e = refl
lower_kept true n (some a) e = let h : a ≤ n = ltb-false n a e in let m : a ≡ min n a = omega arith in ap some m

-- ---- the lowest of them

-- the one that there is, if there is one
abbrev pub alone : Option ℕ → List ℕ
alone none = []
alone (some i) = i ∷ []

module _ (r : Running) where
  -- order and repeats do not matter to which is the lowest
  lowest_ascend : (is : List ℕ) → lowest_borrowed r (ascend is) ≡ lowest_borrowed r is
  unfolding lowest_borrowed
  lowest_ascend =
      gather_ascend (lowest_borrowed r) (λ n l. lower_if (is_borrowed r n) n l) (λ n ns. refl) (λ n. again n (is_borrowed r n))
      (λ m n. swap m n (is_borrowed r m) (is_borrowed r n))
    where
      again : (n : ℕ) (b : Bool) (l : Option ℕ) → lower_if b n (lower_if b n l) ≡ lower_if b n l
      again n false l = refl
      again n true none = let e : min n n ≡ n = omega arith in ap some e
      again n true (some a) = let e : min n (min n a) ≡ min n a = omega arith in ap some e

      swap : (m n : ℕ) (a b : Bool) (l : Option ℕ) → lower_if a m (lower_if b n l) ≡ lower_if b n (lower_if a m l)
      swap m n false b l = refl
      swap m n true false l = refl
      swap m n true true none = let e : min m n ≡ min n m = omega arith in ap some e
      swap m n true true (some a) = let e : min m (min n a) ≡ min n (min m a) = omega arith in ap some e

  -- a number below all others
  lower_all : (n : ℕ) (ns : List ℕ) → ((m : ℕ) → 1 ≤ times m ns → n < m) → lower_of n (lowest_borrowed r ns) ≡ n
  unfolding lowest_borrowed
  lower_all n [] h = refl
  lower_all n (m ∷ ns) h =
      let one : count1 (m == m) ≡ 1 = count_yes (eqb_self m) in
      go (is_borrowed r m) (lowest_borrowed r ns) (h m (omega arith)) (lower_all n ns (λ k t. h k (omega arith)))
    where
      go : (b : Bool) (l : Option ℕ) → n < m → lower_of n l ≡ n → lower_of n (lower_if b m l) ≡ n
      go false l k e = e
      go true none k e = omega arith
      go true (some a) k e = omega arith

  -- of numbers that ascend the first that is borrowed is the lowest, and no other is asked
  module _ {A : Type 0} (k : Outcome A) (w : well_formed r.graph && held r.graph r.root ≡ true) where
    abbrev low_at : ℕ → Option ℕ
    low_at i = lowest_of (borrows r.root (some (global_label i))) r.graph.edges

    first_lowest : (ns : List ℕ) → Sorted ns → none_borrowed (alone (lowest_borrowed r ns)) r k ≡ none_borrowed ns r k
    unfolding none_borrowed lowest_borrowed
    first_lowest [] s = refl
    first_lowest (n ∷ ns) s = go (low_at n) refl (first_lowest ns s.1)
      where
        known : is_borrowed r n ≡ is_some (low_at n)
        known = ap (λ (b : Bool). b && any (borrows r.root (some (global_label n))) r.graph.edges) w ∙ sym (lowest_some (borrows r.root (some (global_label n))) r.graph.edges)

        go : (l : Option ℕ) → low_at n ≡ l → none_borrowed (alone (lowest_borrowed r ns)) r k ≡ none_borrowed ns r k
            → none_borrowed (alone (lower_if (is_borrowed r n) n (lowest_borrowed r ns))) r k ≡ fails_at r.blurs (low_at n) GLOBAL_REFERENCE (none_borrowed ns r k)
        go none e h = rw (known, e) h
        go (some o) e h = rw (known, e, lower_all n ns s.0) (ap (λ (l : Option ℕ). fails_at r.blurs l GLOBAL_REFERENCE k) e)

  pub acquire_lowest : (is : List ℕ) → acquiring (alone (lowest_borrowed r is)) r ≡ acquiring is r
  unfolding not_acquired
  acquire_lowest is = decide w
      (λ e. ap (λ (o : Outcome Running). needs w 9 o)
      (ap (λ (ns : List ℕ). none_borrowed ns r (done r)) (single (lowest_borrowed r is) ∙ ap alone (sym (lowest_ascend is))) ∙ first_lowest (done r) e (ascend is) (ascend_sorted is)))
      (λ e. rw e refl)
    where
      w : Bool
      w = well_formed r.graph && held r.graph r.root

      single : (l : Option ℕ) → ascend (alone l) ≡ alone l
      single none = refl
      single (some i) = refl
