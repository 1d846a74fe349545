-- A label and its number tell each other, and the order of numbers is that of labels.
use Rattle.std.specs.Prelude.{◌+◌, ◌%◌, ◌<◌, ◌≤◌, ◌*◌, ℕ, true, false, cond, ◌≡◌, ltb}
use Rattle.std.proofs.Common.{arith, ◌∙◌, lt-ltb, le-ltb, ltb-true, ltb-false}
use Rattle.meaning.specs.Labels.{Label, local, global, field, number_of, label_at, index_of, kind_of, lt_label}
use Rattle.meaning.proofs.Laws.Base.{decide}

pub label_at_number : (a : Label) → index_of a < 65536 → label_at (number_of a) ≡ a
unfolding label_at
label_at_number (local i) h =
    let e : i % 65536 ≡ i = omega arith in
    rw (lt-ltb i 65536 h, e)
label_at_number (global i) h =
    let b : 65536 ≤ 65536 + i = omega arith in
    let c : 65536 + i < 131072 = omega arith in
    let e : (65536 + i) % 65536 ≡ i = omega arith in
    rw (le-ltb (65536 + i) 65536 b, lt-ltb (65536 + i) 131072 c, e)
label_at_number (field i) h =
    let b : 65536 ≤ 131072 + i = omega arith in
    let c : 131072 ≤ 131072 + i = omega arith in
    let e : (131072 + i) % 65536 ≡ i = omega arith in
    rw (le-ltb (131072 + i) 65536 b, le-ltb (131072 + i) 131072 c, e)

-- a number is 65,536 for each kind before the label's, and its index
parts : (a : Label) → number_of a ≡ kind_of a * 65536 + index_of a
parts (local i) = omega arith
parts (global i) = omega arith
parts (field i) = omega arith

digits : (k i l j : ℕ) → i < 65536 → j < 65536 → ltb (k * 65536 + i) (l * 65536 + j) ≡ cond (ltb k l) true (cond (ltb l k) false (ltb i j))
digits k i l j p q =
    decide (ltb k l)
    (λ t. let h : k < l = ltb-true k l t in rw (t, lt-ltb (k * 65536 + i) (l * 65536 + j) (omega arith)))
    (λ t. let h : l ≤ k = ltb-false k l t in
    decide (ltb l k)
    (λ u. let m : l < k = ltb-true l k u in rw (t, u, le-ltb (k * 65536 + i) (l * 65536 + j) (omega arith)))
    (λ u. let m : k ≤ l = ltb-false l k u in
    decide (ltb i j)
    (λ v. let n : i < j = ltb-true i j v in rw (t, u, v, lt-ltb (k * 65536 + i) (l * 65536 + j) (omega arith)))
    (λ v. let n : j ≤ i = ltb-false i j v in rw (t, u, v, le-ltb (k * 65536 + i) (l * 65536 + j) (omega arith)))))

pub number_order : (a b : Label) → index_of a < 65536 → index_of b < 65536 → ltb (number_of a) (number_of b) ≡ lt_label a b
unfolding lt_label
number_order a b p q = (λ i. ltb (parts a i) (parts b i)) ∙ digits (kind_of a) (index_of a) (kind_of b) (index_of b) p q
