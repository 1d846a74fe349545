-- The fewest digits of a number are those of the definition, and std prints the fewest.
use Rattle.std.specs.Prelude.{ℕ, zero, suc, ◌+◌, ◌-◌, ◌*◌, ◌/◌, ◌%◌, ◌^◌, ◌≤◌, ◌<◌, ◌≡◌, refl, List, [], ◌∷◌, ◌++◌, length, ltb, decimal}
use Rattle.std.proofs.Math.Numerals.{unary_clauses}
use Rattle.std.proofs.Common.{arith, not-suc-le-zero, sym, ap, ◌∙◌, lt-ltb, le-ltb, length-append}
use Rattle.std.proofs.lemmas.Fmt.{decimal_digit, decimal_step}
use Rattle.meaning.proofs.Laws.Base.{decide}
use borrow.Author.Tests.{ltb-true, ltb-false}
use Rattle.io.specs.Digits.{last_digits, hex_digit_ascii, IsDigitCount}
use Rattle.loader_line.specs.Text.{decimal_by}

digit : (n : ℕ) → hex_digit_ascii (n % 10) ≡ 48 + n % 10
digit n = let h : n % 10 < 10 = omega arith in rw (lt-ltb (n % 10) 10 h) refl

positive : (k : ℕ) → 1 ≤ 10 ^ k
positive zero = omega arith
positive (suc k) = let h : 1 ≤ 10 ^ k = positive k in simp unary_clauses (omega (arith, h))

rest : (f n : ℕ) (ds : List ℕ) → n < 10 ^ suc f → 10 ≤ n → ((g : ℕ) → n / 10 < 10 ^ suc g → ds ≡ decimal_by (suc g) (n / 10)) → ds ≡ decimal_by f (n / 10)
rest zero n ds h ten again = absurd (omega (arith, h, ten))
rest (suc f) n ds h ten again = let v : n < 10 ^ f * 10 * 10 = simp unary_clauses at h in again f (simp unary_clauses (omega (arith, v)))

pub fewest : (f k n : ℕ) → n < 10 ^ suc f → IsDigitCount 10 1 n k → last_digits 10 k n ≡ decimal_by (suc f) n
fewest f zero n h w = absurd (not-suc-le-zero w.0)
fewest f (suc zero) n h w =
    let k : n < 10 = omega (arith, w.1) in
    rw (lt-ltb n 10 k) (ap (λ (d : ℕ). d ∷ []) (digit n))
fewest f (suc (suc k)) n h w =
    let q : 10 ^ k * 10 ≤ n = simp unary_clauses at (w.2 (omega arith)) in
    let u : n < 10 ^ k * 10 * 10 = simp unary_clauses at w.1 in
    let ten : 10 ≤ n = omega (arith, q, positive k) in
    let again : IsDigitCount 10 1 (n / 10) (suc k) = (omega arith, simp unary_clauses (omega (arith, u)), λ _. simp unary_clauses (omega (arith, q))) in
    rw (le-ltb n 10 ten, rest f n (last_digits 10 (suc k) (n / 10)) h ten (λ g v. fewest g (suc k) (n / 10) v again)) (ap (λ (d : ℕ). decimal_by f (n / 10) ++ (d ∷ [])) (digit n))

-- no more digits than were asked for
pub short : (f n : ℕ) → length (decimal_by f n) ≤ f
short zero n = omega arith
short (suc f) n = decide (ltb n 10) (λ e. rw e (omega arith)) (λ e. let h : length (decimal_by f (n / 10)) ≤ f = short f (n / 10) in rw e (simp length-append (omega (arith, h))))

-- ---- what std prints

-- one digit more, in front of which stand the fewest of the rest
module _ (n k : ℕ) (ten : 10 ≤ n) (w : IsDigitCount 10 1 (n / 10) k) where
  longer : IsDigitCount 10 1 n (suc k)
  longer = let e : suc k - 1 ≡ k = omega arith in (omega arith, below k w.1, λ _. rw e (above k w.0 w.2))
    where
      below : (j : ℕ) → n / 10 < 10 ^ j → n < 10 ^ suc j
      below j h = simp unary_clauses (omega (arith, h))

      above : (j : ℕ) → 1 ≤ j → (1 < j → 10 ^ (j - 1) ≤ n / 10) → 10 ^ j ≤ n
      above zero h q = absurd (not-suc-le-zero h)
      above (suc zero) h q = ten
      above (suc (suc j)) h q = let r : 10 ^ j * 10 ≤ n / 10 = simp unary_clauses at (q (omega arith)) in simp unary_clauses (omega (arith, r))

-- the digits that std prints are the fewest
record Printed (n : ℕ) : Type 0 where
  count : ℕ
  few : IsDigitCount 10 1 n count
  digits : decimal n ≡ last_digits 10 count n

one : (n : ℕ) → n < 10 → Printed n
one n h =
    let e : n ≡ n % 10 = omega arith in
    record { count = 1; few = (omega arith, omega (arith, h), λ q. absurd (omega (arith, q))); digits = decimal_digit n h ∙ ap (λ (d : ℕ). (48 + d) ∷ []) e ∙ ap (λ (d : ℕ). d ∷ []) (sym (digit n)) }

printed : (f n : ℕ) → n < 10 ^ suc f → n < 2 ^ 64 → Printed n
printed zero n h w = one n (omega (arith, h))
printed (suc f) n h w =
    let u : n < 10 ^ f * 10 * 10 = simp unary_clauses at h in
    let low : n / 10 < 2 ^ 64 = omega (arith, w) in
    let p : Printed (n / 10) = printed f (n / 10) (simp unary_clauses (omega (arith, u))) low in
    decide (ltb n 10)
    (λ e. one n (ltb-true n 10 e))
    (λ e.
    let ten : 10 ≤ n = ltb-false n 10 e in
    record {
      count = suc p.count;
      few = longer n p.count ten p.few;
      digits = decimal_step n ten w ∙ ap (λ (ds : List ℕ). ds ++ ((48 + n % 10) ∷ [])) p.digits ∙ ap (λ (d : ℕ). last_digits 10 p.count (n / 10) ++ (d ∷ [])) (sym (digit n));
    })

pub same_digits : (f n : ℕ) → n < 10 ^ suc f → n < 2 ^ 64 → decimal n ≡ decimal_by (suc f) n
same_digits f n h w = let p : Printed n = printed f n h w in p.digits ∙ fewest f p.count n h p.few
