-- A row's words: labels read and written one at a time, and what they say together.
use Rattle.std.specs.Prelude as P
use Rattle.std.specs.Prelude.{Some, None, ◌≡◌, Bool, true, false, cond, ◌||◌, ◌&&◌, List, [], ◌∷◌, ◌++◌, map, eqb, ltb, length, take, drop, set}
use Rattle.std.proofs.Math.Path.{refl}
use Rattle.std.proofs.Common.{sym, ap, ◌∙◌, not-suc-le-zero, le_of_suc-le-suc, length-set, length-take, drop-drop, rules, drop_of_length-le, get_or-set_same, get_or-set_other}
use mathlib.Core.List.{map-append}
use borrow.Rule.Slice.PartMut.{put_mid}
use Rattle.std.proofs.lemmas.List.{drop-append-le, drop-map}
use Rattle.std.proofs.lemmas.Slice.{take-put_mid, between_is, overwrites}
use Prim.Native.Nat.{ℕ, zero, suc, ◌+◌, ◌*◌, ◌/◌, ◌%◌, ◌-◌, ◌≤◌, ◌<◌, min}
use native.Mathlib.Omega.{arith}
use borrow.Author.Tests.{lt-leb, eq-eqb, ne_eqb, lt-ltb, le-ltb, ltb-true, ltb-false, eqb-true, eqb-false}
use Rattle.std.proofs.Math.ListN.{get_or}
use Rattle.meaning.specs.Lists.{up_to}
use Rattle.meaning.specs.References.{Edge, less, equal, greater, prefix, fits, too_long, fitting}
use Rattle.meaning.specs.BorrowGraph.{GEdge, side, meets_label}
use Rattle.meaning.specs.Area.{label_in}
use Rattle.meaning.specs.Laws.Area.{bit}
use Rattle.meaning.proofs.Laws.Area.{up_to_ext, marks_blurred, marks_strong, marks_count, marks_offset}
use Rattle.meaning.proofs.Laws.Base.{decide}
use Rattle.meaning.proofs.Laws.Listing.{up_to_length}
use Rattle.references.specs.Models.{row_of, path_at, filter_of}
use Rattle.paths.specs.declared.Label.{Label}

-- ---- labels

-- the first n labels of a row
abbrev pub path_in : List ℕ → ℕ → List ℕ
path_in r n = up_to n (λ i. label_in (get_or r (2 + i) 0))

-- how many count
abbrev pub count_in : List ℕ → ℕ
count_in r = min (get_or r 1 0 % 16) 8

abbrev pub first_of : List ℕ → ℕ
first_of [] = 0
first_of (a ∷ p) = a

pub path_length : (r : List ℕ) (n : ℕ) → length (path_in r n) ≡ n
path_length r n = up_to_length n (λ i. label_in (get_or r (2 + i) 0))

pub path_end : (r : List ℕ) (n i : ℕ) → n ≤ i → drop i (path_in r n) ≡ []
path_end r n i h = drop_of_length-le (path_in r n) {i = i} (omega (arith, path_length r n))

-- labels that other words are written beside
pub path_beside : (r : List ℕ) (j w n : ℕ) → j < 2 → path_in (set r j w) n ≡ path_in r n
path_beside r j w n h = up_to_ext n (λ i. label_in (get_or (set r j w) (2 + i) 0)) (λ i. label_in (get_or r (2 + i) 0)) (λ i k. ap label_in (get_or-set_other r j (2 + i) w 0 (λ e. omega arith)))

-- ---- a path of at most one label

unlike : (k : ℕ) → k ≡ 1 → eqb k 0 ≡ false
unlike k e = ne_eqb k 0 (λ z. omega arith)

pub meets_by : (at : P.Option Label) (r : List ℕ) (k l n : ℕ) → k ≡ length (path_at at) → l ≡ first_of (path_at at) → (eqb k 0 || eqb n 0) || eqb l (label_in (get_or r 2 0)) ≡ meets_label (filter_of at) (path_in r n)
unfolding up_to
meets_by None r k l n e f = ap (λ (b : Bool). (b || eqb n 0) || eqb l (label_in (get_or r 2 0))) (eq-eqb k 0 e)
meets_by (Some a) r k l zero e f = ap (λ (b : Bool). (b || true) || eqb l (label_in (get_or r 2 0))) (unlike k e)
meets_by (Some a) r k l (suc n) e f = (λ i. (unlike k e i || eqb (suc n) 0) || eqb (f i) (label_in (get_or r 2 0))) ∙ ap (λ (b : Bool). b || eqb (first_of (path_at (Some a))) (label_in (get_or r 2 0))) (ne_eqb (suc n) 0 (λ z. omega arith))

and_true : (b : Bool) → b && true ≡ b
and_true true = refl
and_true false = refl

pub starts_by : (at : P.Option Label) (r : List ℕ) (k l n : ℕ) → k ≡ length (path_at at) → l ≡ first_of (path_at at) → eqb k 0 || (ltb 0 n && eqb l (label_in (get_or r 2 0))) ≡ prefix (path_at at) (path_in r n)
unfolding up_to prefix
starts_by None r k l n e f = ap (λ (b : Bool). b || (ltb 0 n && eqb l (label_in (get_or r 2 0)))) (eq-eqb k 0 e)
starts_by (Some a) r k l zero e f = ap (λ (b : Bool). b || (false && eqb l (label_in (get_or r 2 0)))) (unlike k e)
starts_by (Some a) r k l (suc n) e f =
    (λ i. unlike k e i || (lt-ltb 0 (suc n) (omega arith) i && eqb (f i) (label_in (get_or r 2 0)))) ∙ sym (and_true (eqb (first_of (path_at (Some a))) (label_in (get_or r 2 0))))

-- ---- the ends: pairs stand in the order of their words

module _ (p c e : ℕ) (r : List ℕ) (h : e / 65536 ≡ p) (k : e % 65536 ≡ c) where
  pub side_less : get_or r 0 0 < e → side p c (row_of r) ≡ less
  unfolding side
  side_less l = decide (ltb (get_or r 0 0 / 65536) p)
      (λ t. rw t)
      (λ t.
      let q : get_or r 0 0 / 65536 ≡ p = omega (arith, ltb-false (get_or r 0 0 / 65536) p t) in
      let d : get_or r 0 0 % 65536 < c = omega arith in
      rw (t, eq-eqb (get_or r 0 0 / 65536) p q, lt-ltb (get_or r 0 0 % 65536) c d))

  pub side_equal : get_or r 0 0 ≡ e → side p c (row_of r) ≡ equal
  unfolding side
  side_equal l =
      let q : get_or r 0 0 / 65536 ≡ p = omega arith in
      let d : get_or r 0 0 % 65536 ≡ c = omega arith in
      let a : p ≤ get_or r 0 0 / 65536 = omega arith in
      let b : c ≤ get_or r 0 0 % 65536 = omega arith in
      rw (le-ltb (get_or r 0 0 / 65536) p a, eq-eqb (get_or r 0 0 / 65536) p q, le-ltb (get_or r 0 0 % 65536) c b, eq-eqb p (get_or r 0 0 / 65536) (sym q), eq-eqb c (get_or r 0 0 % 65536) (sym d))

  pub side_greater : e < get_or r 0 0 → side p c (row_of r) ≡ greater
  unfolding side
  side_greater l =
      let a : p ≤ get_or r 0 0 / 65536 = omega arith in
      decide (eqb p (get_or r 0 0 / 65536))
      (λ t.
      let q : p ≡ get_or r 0 0 / 65536 = eqb-true p (get_or r 0 0 / 65536) t in
      let d : c < get_or r 0 0 % 65536 = omega arith in
      let b : c ≤ get_or r 0 0 % 65536 = omega arith in
      rw (le-ltb (get_or r 0 0 / 65536) p a, eq-eqb (get_or r 0 0 / 65536) p (sym q), le-ltb (get_or r 0 0 % 65536) c b, t, ne_eqb c (get_or r 0 0 % 65536) (λ z. omega arith)))
      (λ t. rw (le-ltb (get_or r 0 0 / 65536) p a, ne_eqb (get_or r 0 0 / 65536) p (λ z. eqb-false p (get_or r 0 0 / 65536) t (sym z)), t))

-- ---- a row by what its words say

pub row_made : (r : List ℕ) (p c o n : ℕ) (b s : Bool) (ls : List ℕ) → get_or r 0 0 / 65536 ≡ p → get_or r 0 0 % 65536 ≡ c
    → get_or r 1 0 ≡ o * 65536 + bit b * 32 + bit s * 16 + n → n ≤ 8 → path_in r n ≡ ls
    → row_of r ≡ record { parent = p; child = c; blurred = b; edge = record { strong = s; path = ls; offset = o } }
row_made r p c o n b s ls pa ch d k q =
    let bl = marks_blurred (get_or r 1 0) o n b s d k in
    let st = marks_strong (get_or r 1 0) o n b s d k in
    let le = marks_count (get_or r 1 0) o n b s d k in
    let off = marks_offset (get_or r 1 0) o n b s d k in
    λ i. record { parent = pa i; child = ch i; blurred = bl i; edge = record { strong = st i; path = (ap (path_in r) le ∙ q) i; offset = off i } }

-- a row with other ends and marks
pub row_tagged : (r : List ℕ) (e v p c o n : ℕ) (b s : Bool) (ls : List ℕ) → 1 < length r → e / 65536 ≡ p → e % 65536 ≡ c
    → v ≡ o * 65536 + bit b * 32 + bit s * 16 + n → n ≤ 8 → path_in r n ≡ ls
    → row_of (set (set r 0 e) 1 v) ≡ record { parent = p; child = c; blurred = b; edge = record { strong = s; path = ls; offset = o } }
row_tagged r e v p c o n b s ls l h k d m q =
    let a : get_or (set (set r 0 e) 1 v) 0 0 ≡ e = get_or-set_other (set r 0 e) 1 0 v 0 (λ z. omega arith) ∙ get_or-set_same r 0 e 0 (omega arith) in
    let u : get_or (set (set r 0 e) 1 v) 1 0 ≡ v = get_or-set_same (set r 0 e) 1 v 0 (omega (arith, length-set r 0 e)) in
    row_made (set (set r 0 e) 1 v) p c o n b s ls (ap (λ (w : ℕ). w / 65536) a ∙ h) (ap (λ (w : ℕ). w % 65536) a ∙ k) (u ∙ d) m
    (path_beside (set r 0 e) 1 v n (omega arith) ∙ path_beside r 0 e n (omega arith) ∙ q)

-- a path of at most one label, as the first of a row's
pub path_one : (at : P.Option Label) (r : List ℕ) (k l : ℕ) → k ≡ length (path_at at) → l ≡ first_of (path_at at) → l < 262144 → get_or r 2 0 ≡ l → path_in r k ≡ path_at at
unfolding up_to
path_one None r k l e f h g = ap (path_in r) e
path_one (Some a) r k l e f h g =
    let m : label_in (get_or r 2 0) ≡ first_of (path_at (Some a)) = omega arith in
    ap (path_in r) e ∙ ap (λ (x : ℕ). x ∷ []) m

-- what is left of a path without no more than it has
pub drop_within : (r : List ℕ) (k n : ℕ) → drop (min k n) (path_in r n) ≡ drop k (path_in r n)
drop_within r k n = decide (ltb k n)
    (λ t. let e : min k n ≡ k = omega (arith, ltb-true k n t) in ap (λ (i : ℕ). drop i (path_in r n)) e)
    (λ t. path_end r n (min k n) (omega (arith, ltb-false k n t)) ∙ sym (path_end r n k (ltb-false k n t)))

-- ---- a row whose path goes on

pub path_none : (r : List ℕ) → path_in r 0 ≡ []
unfolding up_to
path_none r = refl

pub row_joined : (w r : List ℕ) (v o n m : ℕ) (s : Bool) (g : GEdge) (qs : List ℕ) → row_of w ≡ g → n ≡ length g.edge.path → n + m ≤ 8
    → path_in r (n + (m - 0)) ≡ path_in w n ++ qs → get_or r 0 0 ≡ get_or w 0 0 → length r ≡ 10 → v ≡ o * 65536 + bit false * 32 + bit s * 16 + (n + m)
    → row_of (set r 1 v) ≡ record { parent = g.parent; child = g.child; blurred = false; edge = record { strong = s; path = g.edge.path ++ qs; offset = o } }
row_joined w r v o n m s g qs e k h p q l d =
    let a : get_or (set r 1 v) 0 0 ≡ get_or w 0 0 = get_or-set_other r 1 0 v 0 (λ z. omega arith) ∙ q in
    let b : get_or (set r 1 v) 1 0 ≡ v = get_or-set_same r 1 v 0 (omega arith) in
    let c : count_in w ≡ n = sym (path_length w (count_in w)) ∙ ap (λ (y : GEdge). length y.edge.path) e ∙ sym k in
    let f : path_in w n ≡ g.edge.path = ap (path_in w) (sym c) ∙ ap (λ (y : GEdge). y.edge.path) e in
    let u : n + m ≡ n + (m - 0) = omega arith in
    row_made (set r 1 v) g.parent g.child o (n + m) false s (g.edge.path ++ qs)
    (ap (λ (y : ℕ). y / 65536) a ∙ ap (λ (y : GEdge). y.parent) e) (ap (λ (y : ℕ). y % 65536) a ∙ ap (λ (y : GEdge). y.child) e) (b ∙ d) h
    (path_beside r 1 v (n + m) (omega arith) ∙ ap (path_in r) u ∙ p ∙ ap (λ (y : List ℕ). y ++ qs) f)

pub fitting_long : (e : Edge) → 8 < length e.path → too_long e.offset ≡ fitting e
unfolding fitting
fitting_long e h = ap (λ (b : Bool). cond b (fits e) (too_long e.offset)) (sym (lt-leb (length e.path) 8 h))

-- ---- labels as the words that they stand in

labels_of : (ws : List ℕ) (n : ℕ) → n ≤ length ws → up_to n (λ i. label_in (get_or ws i 0)) ≡ map label_in (take n ws)
unfolding up_to
labels_of ws zero h = refl
labels_of [] (suc n) h = absurd (not-suc-le-zero h)
labels_of (w ∷ ws) (suc n) h = ap (λ (l : List ℕ). label_in w ∷ l) (labels_of ws n (le_of_suc-le-suc h))

-- the first n labels are the words from the third on
pub path_words : (r : List ℕ) (n : ℕ) → 2 + n ≤ length r → path_in r n ≡ map label_in (drop 2 (take (2 + n) r))
path_words [] n h = absurd (omega arith)
path_words (a ∷ []) n h = absurd (omega arith)
path_words (a ∷ b ∷ ws) n h =
    let e : suc (suc n) ≡ 2 + n = omega arith in
    up_to_ext n (λ i. label_in (get_or (a ∷ b ∷ ws) (2 + i) 0)) (λ i. label_in (get_or ws i 0)) (λ i k. let e : 2 + i ≡ suc (suc i) = omega arith in ap (λ (j : ℕ). label_in (get_or (a ∷ b ∷ ws) j 0)) e)
    ∙ labels_of ws n (omega arith) ∙ ap (λ (j : ℕ). map label_in (drop 2 (take j (a ∷ b ∷ ws)))) e

-- words put in the place of as many labels, from the one at on
pub path_put : (r ys : List ℕ) (at k n : ℕ) → n ≡ length ys → n ≡ k → 2 + (at + n) ≤ length r → path_in (put_mid (2 + at) k r ys) (at + n) ≡ path_in r at ++ map label_in ys
path_put r ys at k n s q h =
    let size : length (put_mid (2 + at) k r ys) ≡ length r = search (rules, overwrites) in
    path_words (put_mid (2 + at) k r ys) (at + n) (omega arith)
    ∙ ap (λ (l : List ℕ). map label_in (drop 2 l)) (take-put_mid (2 + at) k r ys (2 + (at + n)) (omega arith) (omega arith))
    ∙ ap (map label_in) (drop-append-le 2 (take (2 + at) r) ys (simp length-take (omega arith)))
    ∙ map-append label_in (drop 2 (take (2 + at) r)) ys
    ∙ ap (λ (l : List ℕ). l ++ map label_in ys) (sym (path_words r at (omega arith)))

-- the labels from s on
pub path_part : (r : List ℕ) (s n : ℕ) → 2 + n ≤ length r → map label_in (take (2 + n - (2 + s)) (drop (2 + s) r)) ≡ drop s (path_in r n)
path_part r s n h =
    ap (map label_in) (between_is r (2 + s) (2 + n) ∙ sym (drop-drop s 2 (take (2 + n) r)))
    ∙ sym (drop-map label_in s (drop 2 (take (2 + n) r)))
    ∙ ap (drop s) (sym (path_words r n h))
