-- The test of well-formedness as the code's fold, and the borrows of a name edge by edge.
use Rattle.std.specs.Prelude.{◌≡◌, refl, Bool, true, false, not, cond, ◌&&◌, ◌||◌, ℕ, ◌+◌, min, ltb, eqb, length}
use Rattle.std.proofs.Common.{sym, ap, ◌∙◌, arith, lt-ltb}
use Rattle.std.proofs.lemmas.Bool.{false≢true}
use Rattle.std.proofs.Math.Option.{Option, none, some}
use mathlib.Core.List.{List, [], ◌∷◌}
use Rattle.meaning.specs.References.{weakest, short, lt_edge, eq_edge}
use Rattle.meaning.proofs.Laws.Base.{and_l}
use Rattle.meaning.proofs.Laws.Array.{empty_length}
use Rattle.meaning.specs.BorrowGraph.{GEdge, Name, is_before, mutable_in, meets_label, empty_path, borrows, borrows_fully, lower_of, lowest_of, Borrows}
use Rattle.meaning.specs.Refinement.Chain.{same, link, next_count, chain}

-- ---- an edge that follows another

-- the count after x, or 0 where x may not follow y
abbrev pub counted : ℕ → GEdge → GEdge → ℕ
counted k y x = cond (link k y x) (next_count k y x) 0

module _ (k : ℕ) (y x : GEdge) (sh : short x.edge ≡ true) where
  -- an edge of the same pair, by the test t of the code
  module _ (up : Bool) (e : same y x ≡ true) (q : up ≡ lt_edge y.edge x.edge) where
    abbrev next : Bool
    next = ltb k 10 && (not (y.blurred || x.blurred) && up)

    at_same : counted k y x ≡ cond next (cond (ltb k 10) (k + 1) 10) 0
    at_same = rw (sh, e, q) refl

    pub same_on : next ≡ true → k + 1 ≡ counted k y x
    same_on t = sym (at_same ∙ ap (λ (b : Bool). cond b (cond (ltb k 10) (k + 1) 10) 0) t ∙ ap (λ (b : Bool). cond b (k + 1) 10) (and_l (ltb k 10) (not (y.blurred || x.blurred) && up) t))

    pub same_off : next ≡ false → 0 ≡ counted k y x
    same_off t = sym (at_same ∙ ap (λ (b : Bool). cond b (cond (ltb k 10) (k + 1) 10) 0) t)

  -- the first edge of another pair
  pub next_is : (bare t : Bool) → is_before x.parent x.child y ≡ true → same y x ≡ false → bare ≡ eq_edge x.edge (weakest 0) → not x.blurred || bare ≡ t → cond t 1 0 ≡ counted k y x
  next_is bare t u e q h = rw (sh, u, e, sym q, h) refl

  pub over_is : is_before x.parent x.child y ≡ false → same y x ≡ false → 0 ≡ counted k y x
  over_is u e = rw (sh, u, e) refl

-- a turn of the test: `h` says that the ends of x are two held names, `n` is the count after it
module _ (q : ℕ → ℕ → Bool) (k : ℕ) (y x : GEdge) (xs : List GEdge) (h : Bool) (n : ℕ) (e : h ≡ q x.parent x.child) (c : n ≡ counted k y x) where
  counts : ltb 0 (next_count k y x) ≡ true
  counts = go (same y x) (ltb k 10)
    where
      go : (a b : Bool) → ltb 0 (cond a (cond b (k + 1) 10) 1) ≡ true
      go true true = lt-ltb 0 (k + 1) (omega arith)
      go true false = refl
      go false b = refl

  pub chain_on : h && ltb 0 n ≡ true → chain q k y (x ∷ xs) ≡ chain q n x xs
  chain_on t =
      let z = go (link k y x) h n c t in
      (λ i. (sym e i && z.1 i) && chain q (next_count k y x) x xs) ∙ (λ i. (z.0 i && true) && chain q (sym z.2 i) x xs)
    where
      go : (l b : Bool) (m : ℕ) → m ≡ cond l (next_count k y x) 0 → b && ltb 0 m ≡ true → (b ≡ true) × (l ≡ true) × (m ≡ next_count k y x)
      go true true m p s = (refl, refl, p)
      go true false m p s = absurd (false≢true s)
      go false true m p s = absurd (false≢true (sym (ap (ltb 0) p) ∙ s))
      go false false m p s = absurd (false≢true s)

  pub chain_off : h && ltb 0 n ≡ false → chain q k y (x ∷ xs) ≡ false
  chain_off t = (λ i. (sym e i && link k y x) && chain q (next_count k y x) x xs) ∙ ap (λ (b : Bool). b && chain q (next_count k y x) x xs) (go (link k y x) h n c t)
    where
      go : (l b : Bool) (m : ℕ) → m ≡ cond l (next_count k y x) 0 → b && ltb 0 m ≡ false → b && l ≡ false
      go true true m p s = absurd (false≢true (sym s ∙ ap (ltb 0) p ∙ counts))
      go true false m p s = refl
      go false true m p s = refl
      go false false m p s = refl

-- ---- the borrows of a name

-- one offset more, if it counts
abbrev pub lower_if : Bool → ℕ → Option ℕ → Option ℕ
lower_if b o l = cond b (some (lower_of o l)) l

-- the lower of two, where there are any
abbrev pub lower_both : Option ℕ → Option ℕ → Option ℕ
lower_both none l = l
lower_both (some o) l = some (lower_of o l)

abbrev pub no_borrows : Borrows
no_borrows = record { full = none; consistent = none; mutable = none }

unfoldable pub add_borrow : List Name → Option ℕ → Borrows → GEdge → Borrows
add_borrow ns at s x = record {
  full = lower_if (empty_path x.edge.path) x.edge.offset s.full;
  consistent = lower_if (meets_label at x.edge.path) x.edge.offset s.consistent;
  mutable = lower_if (meets_label at x.edge.path && mutable_in ns x.child) x.edge.offset s.mutable;
}

-- those found, and those among the edges that remain
unfoldable pub borrows_in : List Name → ℕ → Option ℕ → Borrows → List GEdge → Borrows
borrows_in ns n at s xs = record {
  full = lower_both s.full (lowest_of (borrows_fully n) xs);
  consistent = lower_both s.consistent (lowest_of (borrows n at) xs);
  mutable = lower_both s.mutable (lowest_of (λ x. borrows n at x && mutable_in ns x.child) xs);
}

-- it does not matter when an offset is looked at
lower_turn : (b : Bool) (o : ℕ) (l m : Option ℕ) → lower_both (lower_if b o l) m ≡ lower_both l (lower_if b o m)
lower_turn false o l m = refl
lower_turn true o none none = refl
lower_turn true o none (some a) = refl
lower_turn true o (some b) none =
    let e : min o b ≡ min b o = omega arith in
    ap some e
lower_turn true o (some b) (some a) =
    let e : min (min o b) a ≡ min b (min o a) = omega arith in
    ap some e

pub bare_path : (p : List ℕ) (n : ℕ) → n ≡ length p → eqb n 0 ≡ empty_path p
bare_path [] n e = empty_length {A = ℕ} [] n e
bare_path (a ∷ p) n e = empty_length (a ∷ p) n e

module _ (ns : List Name) (n : ℕ) (at : Option ℕ) (s : Borrows) (x : GEdge) (xs : List GEdge) where
  pub borrow_hit : eqb n x.parent ≡ true → borrows_in ns n at (add_borrow ns at s x) xs ≡ borrows_in ns n at s (x ∷ xs)
  unfolding add_borrow borrows_in lowest_of
  borrow_hit e = rw e (λ i. record {
    full = lower_turn (empty_path x.edge.path) x.edge.offset s.full (lowest_of (borrows_fully n) xs) i;
    consistent = lower_turn (meets_label at x.edge.path) x.edge.offset s.consistent (lowest_of (borrows n at) xs) i;
    mutable =
        lower_turn (meets_label at x.edge.path && mutable_in ns x.child) x.edge.offset s.mutable
        (lowest_of (λ y. borrows n at y && mutable_in ns y.child) xs) i;
  })

  pub borrow_miss : eqb n x.parent ≡ false → borrows_in ns n at s xs ≡ borrows_in ns n at s (x ∷ xs)
  unfolding borrows_in lowest_of
  borrow_miss e = rw e
