-- What an insert reports: what it does to the set, and when each outcome happens (request A1).
use Rattle.std.specs.Prelude.{ℕ, ◌≤◌, ◌<◌, Bool, true, false, cond, not, ◌&&◌, ◌≡◌, leb, length}
use Rattle.std.proofs.Common.{arith, sym, ap, ◌∙◌}
use Rattle.std.proofs.lemmas.Bool.{false≢true}
use Rattle.std.proofs.Math.Path.{refl, subst}
use Rattle.meaning.specs.Answers.{Ans, ok, refuse, and_then}
use Rattle.meaning.specs.References.{Edge, EdgeSet, blur, has, put, insert, Report, added, already_there, blurred_now, blurred_before, report, Offered, fits, too_long, offer, offer_report}
use Rattle.meaning.proofs.Laws.Base.{leb_le, leb_gt, le_leb, ok_inj, and_then_ok, decide, and_not}
use Rattle.meaning.specs.Laws.Report.{is_now}

-- ---- the set that is left

abbrev pub set_after : Report → EdgeSet → Edge → EdgeSet
set_after added s e = record { edges = put e s.edges; blurred = false }
set_after already_there s e = s
set_after blurred_now s e = blur e.offset
set_after blurred_before s e = s

after_tests : (s : EdgeSet) (e : Edge) (b c d h : Bool)
    → cond b (ok s) (cond c (ok (blur e.offset)) (cond d (cond h (ok s) (ok (record { edges = put e s.edges; blurred = false }))) (refuse 22)))
    ≡ and_then (cond b (ok blurred_before) (cond c (ok blurred_now) (cond d (cond h (ok already_there) (ok added)) (refuse 22)))) (λ r. ok (set_after r s e))
after_tests s e true c d h = refl
after_tests s e false true d h = refl
after_tests s e false false true true = refl
after_tests s e false false true false = refl
after_tests s e false false false h = refl

pub insert_report : (s : EdgeSet) (e : Edge) → insert s e ≡ and_then (report s e) (λ r. ok (set_after r s e))
unfolding insert report
insert_report s e = after_tests s e s.blurred (leb 10 (length s.edges)) (leb (length e.path) 8) (has e s.edges)

-- the edge that is offered; of one that is too long only the offset is known
abbrev pub offered_or : Edge → Offered → Edge
offered_or e (fits f) = f
offered_or e (too_long o) = record { strong = e.strong; path = e.path; offset = o }

-- an edge that is too long is never put in, so e is any
pub offer_report_lem : (s : EdgeSet) (a : Offered) (e : Edge) → offer s a ≡ and_then (offer_report s a) (λ r. ok (set_after r s (offered_or e a)))
unfolding offer offer_report
offer_report_lem s (fits f) e = insert_report s f
offer_report_lem s (too_long o) e = go s.blurred (leb 10 (length s.edges))
  where
    go : (b c : Bool) → cond b (ok s) (cond c (ok (blur o)) (refuse 22))
        ≡ and_then (cond b (ok blurred_before) (cond c (ok blurred_now) (refuse 22))) (λ r. ok (set_after r s (offered_or e (too_long o))))
    go true c = refl
    go false true = refl
    go false false = refl

-- ---- when each outcome happens

abbrev pub When : EdgeSet → Edge → Ans Report → Type 0
When s e (ok blurred_before) = s.blurred ≡ true
When s e (ok blurred_now) = (s.blurred ≡ false) × (10 ≤ length s.edges)
When s e (ok already_there) = (s.blurred ≡ false) × (length s.edges < 10) × (length e.path ≤ 8) × (has e s.edges ≡ true)
When s e (ok added) = (s.blurred ≡ false) × (length s.edges < 10) × (length e.path ≤ 8) × (has e s.edges ≡ false)
When s e (refuse n) = (s.blurred ≡ false) × (length s.edges < 10) × (8 < length e.path) × (22 ≡ n)

abbrev decision : Bool → Bool → Bool → Bool → Ans Report
decision b c d h = cond b (ok blurred_before) (cond c (ok blurred_now) (cond d (cond h (ok already_there) (ok added)) (refuse 22)))

module _ (s : EdgeSet) (e : Edge) where
  when_tests : (b c d h : Bool) → s.blurred ≡ b → leb 10 (length s.edges) ≡ c → leb (length e.path) 8 ≡ d → has e s.edges ≡ h → When s e (decision b c d h)
  when_tests true c d h eb ec ed eh = eb
  when_tests false true d h eb ec ed eh = (eb, leb_le ec)
  when_tests false false true true eb ec ed eh = (eb, leb_gt ec, leb_le ed, eh)
  when_tests false false true false eb ec ed eh = (eb, leb_gt ec, leb_le ed, eh)
  when_tests false false false h eb ec ed eh = (eb, leb_gt ec, leb_gt ed, refl)

  by_tests : (b c d h : Bool) → s.blurred ≡ b → leb 10 (length s.edges) ≡ c → leb (length e.path) 8 ≡ d → has e s.edges ≡ h → report s e ≡ decision b c d h
  unfolding report
  by_tests b c d h eb ec ed eh i = decision (eb i) (ec i) (ed i) (eh i)

  pub reports_when : (r : Ans Report) → report s e ≡ r → When s e r
  unfolding report
  reports_when r q = subst (When s e) q (when_tests s.blurred (leb 10 (length s.edges)) (leb (length e.path) 8) (has e s.edges) refl refl refl refl)

  fewer : (m n : ℕ) → n < m → leb m n ≡ false
  fewer m n l = decide (leb m n) (λ q. let k : m ≤ n = leb_le q in absurd (omega arith)) (λ q. q)

  pub when_reports : (r : Ans Report) → When s e r → report s e ≡ r
  when_reports (ok blurred_before) w = by_tests true (leb 10 (length s.edges)) (leb (length e.path) 8) (has e s.edges) w refl refl refl
  when_reports (ok blurred_now) w = by_tests false true (leb (length e.path) 8) (has e s.edges) w.0 (le_leb w.1) refl refl
  when_reports (ok already_there) w = by_tests false false true true w.0 (fewer 10 (length s.edges) w.1) (le_leb w.2) w.3
  when_reports (ok added) w = by_tests false false true false w.0 (fewer 10 (length s.edges) w.1) (le_leb w.2) w.3
  when_reports (refuse n) w = by_tests false false false (has e s.edges) w.0 (fewer 10 (length s.edges) w.1) (fewer (length e.path) 8 w.2) refl ∙ ap refuse w.3

  -- each outcome, exactly then
  pub report_when : (r : Ans Report) → (report s e ≡ r → When s e r) × (When s e r → report s e ≡ r)
  report_when r = (reports_when r, when_reports r)

-- ---- a set is blurred in an insert exactly where that reports it

now_set : (s : EdgeSet) (e : Edge) (r : Report) → When s e (ok r) → (set_after r s e).blurred && not s.blurred ≡ is_now (ok r)
now_set s e added w = refl
now_set s e already_there w = and_not s.blurred
now_set s e blurred_now w = ap not w.0
now_set s e blurred_before w = and_not s.blurred

pub insert_now : (s : EdgeSet) (e : Edge) (t : EdgeSet) → insert s e ≡ ok t → t.blurred && not s.blurred ≡ is_now (report s e)
insert_now s e t q =
    let z = and_then_ok (report s e) (λ r. ok (set_after r s e)) t (sym (insert_report s e) ∙ q) in
    ap (λ (u : EdgeSet). u.blurred && not s.blurred) (sym (ok_inj z.2)) ∙ now_set s e z.0 (reports_when s e (ok z.0) z.1) ∙ ap is_now (sym z.1)

now_only : (r : Report) → is_now (ok r) ≡ true → r ≡ blurred_now
now_only added q = absurd (false≢true q)
now_only already_there q = absurd (false≢true q)
now_only blurred_now q = refl
now_only blurred_before q = absurd (false≢true q)

pub report_blurs : (s : EdgeSet) (e : Edge) (r : Report) (t : EdgeSet) → report s e ≡ ok r → insert s e ≡ ok t
    → (t.blurred && not s.blurred ≡ true → r ≡ blurred_now) × (r ≡ blurred_now → t.blurred && not s.blurred ≡ true)
report_blurs s e r t p q =
    let n : t.blurred && not s.blurred ≡ is_now (ok r) = insert_now s e t q ∙ ap is_now p in
    (λ b. now_only r (sym n ∙ b), λ b. n ∙ ap (λ (x : Report). is_now (ok x)) b)
