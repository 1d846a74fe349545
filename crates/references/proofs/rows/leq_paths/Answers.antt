use Rattle.std.specs.Prelude.{◌≡◌, ℕ, zero, suc, ◌+◌, ◌≤◌, ◌<◌, Bool, false, ◌&&◌, List, [], ◌∷◌, eqb, length, get_or}
use Rattle.std.proofs.Common.{arith, sym, ap, ◌∙◌, refl, rules, tests, not-suc-le-zero, le_of_suc-le-suc}
use Rattle.std.specs.List.{list_all, range_with_len}
use Rattle.std.proofs.lemmas.Iterator.{YieldsList-from_range}
use Rattle.std.proofs.lemmas.Iterator.Search.{all_from_yields_List}
use borrow.Author.Tests.{lt-leb}
use Rattle.meaning.specs.Lists.{up_to}
use Rattle.meaning.specs.References.{prefix}
use Rattle.meaning.specs.Area.{label_in}
use Rattle.references.specs.RowLaws.{path_in, count_in, path_length}
use Rattle.references.proofs.rows.leq_paths.Goals as goal

-- what f gives from a on, beside what g gives
starts : (f g p q : ℕ → ℕ) (a n m : ℕ) → ((i : ℕ) → f (a + i) ≡ p i) → ((i : ℕ) → g (a + i) ≡ q i) → n ≤ m
    → list_all (λ i. eqb (f i) (g i)) (range_with_len a n) ≡ prefix (up_to n p) (up_to m q)
unfolding prefix up_to
starts f g p q a zero m h k l = refl
starts f g p q a (suc n) zero h k l = absurd (not-suc-le-zero l)
starts f g p q a (suc n) (suc m) h k l =
    let here : a ≡ a + 0 = omega arith in
    let on : (i : ℕ) → a + 1 + i ≡ a + suc i = λ i. omega arith in
    (λ i. eqb ((ap f here ∙ h 0) i) ((ap g here ∙ k 0) i) && list_all (λ i. eqb (f i) (g i)) (range_with_len (a + 1) n))
    ∙ ap (λ (b : Bool). eqb (p 0) (q 0) && b) (starts f g (λ i. p (suc i)) (λ i. q (suc i)) (a + 1) n m (λ i. ap f (on i) ∙ h (suc i)) (λ i. ap g (on i) ∙ k (suc i)) (le_of_suc-le-suc l))

longer : (p q : List ℕ) → length q < length p → prefix p q ≡ false
unfolding prefix
longer [] q h = absurd (not-suc-le-zero h)
longer (x ∷ p) [] h = refl
longer (x ∷ p) (y ∷ q) h = ap (λ (b : Bool). eqb x y && b) (longer p q (le_of_suc-le-suc h)) ∙ search (rules, tests)

pub returns-then-n-labels : goal.returns-then-n-labels
returns-then-n-labels c =
    let f = λ (r : List ℕ) (i : ℕ). label_in (get_or r (2 + i) 0) in
    let x = c.args.x.now in
    let y = c.args.y.now in
    let n : c.labels-n.result ≡ count_in x = c.labels-n.ensures.0 ∙ path_length x _ in
    let m : c.labels.result ≡ count_in y = c.labels.ensures.0 ∙ path_length y _ in
    all_from_yields_List {all = range_with_len 0 c.labels-n.result} (λ i. eqb (f x i) (f y i)) _ _ c.all.result c.all.ensures.ran (YieldsList-from_range 0 c.labels-n.result c.labels-n.result (search rules) (search rules)) (λ x b q k. search (rules, tests))
    ∙ starts (f x) (f y) (f x) (f y) 0 c.labels-n.result c.labels.result (λ i. ap (f x) (omega arith)) (λ i. ap (f y) (omega arith)) c.if-n-labels.true
    ∙ (λ i. prefix (path_in x (n i)) (path_in y (m i)))

pub returns-else-n-labels : goal.returns-else-n-labels
returns-else-n-labels c =
    let p = path_in c.args.x.now (count_in c.args.x.now) in
    let q = path_in c.args.y.now (count_in c.args.y.now) in
    lt-leb c.labels-n.result c.labels.result c.if-n-labels.false ∙ sym (longer p q (omega (arith, c.labels-n.ensures.0, c.labels.ensures.0)))
