-- A map whose keys are renamed one by one: what stands at the old name is put over what stands at the new one. Where nothing is put over a name that is
-- still to come, all are renamed together.
use Rattle.std.specs.Prelude.{ℕ, ◌≤◌, ◌<◌, Bool, true, false, cond, List, [], ◌∷◌, ◌≢◌, ◌≡◌, refl, eqb, leb}
use Rattle.std.proofs.Common.{arith, sym, ap, subst, ◌∙◌}
use Rattle.meaning.specs.AbstractState.{count1}
use Rattle.meaning.proofs.Laws.Base.{decide, eqb_self, eqb_no, eqb_eq, eqb_ne, leb_le, leb_gt}
use Rattle.meaning.proofs.Laws.Own.{times, in_front, count_yes, count_no}

module _ {A : Type 0} (e : A) where
  -- e: nothing stands there
  abbrev pub put_over : ℕ → ℕ → (ℕ → A) → ℕ → A
  put_over old new m k = cond (eqb k new) (m old) (cond (eqb k old) e (m k))

  at_new : (old new : ℕ) (m : ℕ → A) → put_over old new m new ≡ m old
  at_new old new m = ap (λ (b : Bool). cond b (m old) (cond (eqb new old) e (m new))) (eqb_self new)

  at_old : (old new : ℕ) (m : ℕ → A) → old ≢ new → put_over old new m old ≡ e
  at_old old new m d = (λ i. cond (eqb_no {m = old} {n = new} d i) (m old) (cond (eqb_self old i) e (m old)))

  elsewhere : (old new : ℕ) (m : ℕ → A) (k : ℕ) → k ≢ new → k ≢ old → put_over old new m k ≡ m k
  elsewhere old new m k p q = (λ i. cond (eqb_no {m = k} {n = new} p i) (m old) (cond (eqb_no {m = k} {n = old} q i) e (m k)))

-- no new name is an old one still to come
abbrev pub Apart : (ℕ → ℕ) → List ℕ → Type 0
Apart f [] = Unit {0}
Apart f (n ∷ ks) = ((m : ℕ) → 1 ≤ times m ks → f n ≢ m) × (Apart f ks)

-- the names of dom are renamed by f; `was` has something at them only
module _ {A : Type 0} (e : A) (f : ℕ → ℕ) (dom : ℕ → Bool) (inj : (m n : ℕ) → dom m ≡ true → dom n ≡ true → f m ≡ f n → m ≡ n) (was : ℕ → A) where
  -- cur: the map after some steps; ks: the old names still to come
  pub record Midway (ks : List ℕ) (cur : ℕ → A) : Type 0 where
    pub once : (n : ℕ) → times n ks ≤ 1
    pub to_come : (n : ℕ) → 1 ≤ times n ks → cur n ≡ was n
    pub came : (n : ℕ) → dom n ≡ true → times n ks ≡ 0 → (cur (f n) ≡ was n) × (times (f n) ks ≡ 0)
    pub rest : (k : ℕ) → times k ks ≡ 0 → ((n : ℕ) → dom n ≡ true → times n ks ≡ 0 → k ≢ f n) → cur k ≡ e

  -- the others of dom keep their names
  pub midway_start : (ks : List ℕ) → ((n : ℕ) → times n ks ≤ 1) → ((n : ℕ) → dom n ≡ true → times n ks ≡ 0 → f n ≡ n) → ((k : ℕ) → dom k ≡ false → was k ≡ e) → Midway ks was
  midway_start ks once stay none = record {
    once = once;
    to_come = λ n t. refl;
    came = λ n d t. (ap was (stay n d t), ap (λ (k : ℕ). times k ks) (stay n d t) ∙ t);
    rest = λ k t h. decide (dom k) (λ d. absurd (h k d t (sym (stay k d t)))) (none k);
  }

  module _ (n : ℕ) (ks : List ℕ) (cur next : ℕ → A) (far : (j : ℕ) → 1 ≤ times j ks → f n ≢ j) (h : Midway (n ∷ ks) cur) where
    gone : times n ks ≡ 0
    gone = let a : times n (n ∷ ks) ≤ 1 = h.once n in let c : count1 (eqb n n) ≡ 1 = count_yes (eqb_self n) in omega arith

    new_gone : times (f n) ks ≡ 0
    new_gone = decide (leb 1 (times (f n) ks)) (λ z. absurd (far (f n) (leb_le z) refl)) (λ z. let w : times (f n) ks < 1 = leb_gt {m = 1} z in omega arith)

    still : (j : ℕ) → j ≢ n → times j ks ≡ 0 → times j (n ∷ ks) ≡ 0
    still j d t = let c : count1 (eqb j n) ≡ 0 = count_no (eqb_no {m = j} {n = n} d) in omega arith

    -- one that came before
    earlier : (j : ℕ) → j ≢ n → dom j ≡ true → times j ks ≡ 0 → (cur (f j) ≡ was j) × (times (f j) ks ≡ 0) × (f j ≢ n)
    earlier j d p t =
        let w = h.came j p (still j d t) in
        let y : times (f j) (n ∷ ks) ≡ 0 = w.1 in
        (w.0, omega arith, λ z. (let c : count1 (eqb (f j) n) ≡ 1 = count_yes (subst (λ (k : ℕ). eqb (f j) k ≡ true) z (eqb_self (f j))) in omega arith))

    once_less : (j : ℕ) → times j ks ≤ 1
    once_less j = let a : times j (n ∷ ks) ≤ 1 = h.once j in omega arith

    not_n : (j : ℕ) → 1 ≤ times j ks → j ≢ n
    not_n j t z = let u : 1 ≤ times n ks = subst (λ (k : ℕ). 1 ≤ times k ks) z t in let v : times n ks ≡ 0 = gone in omega arith

    pub midway_next : dom n ≡ true → ((k : ℕ) → next k ≡ put_over e n (f n) cur k) → Midway ks next
    midway_next d s = record {
      once = once_less;
      to_come = λ j t. s j ∙ elsewhere e n (f n) cur j (λ z. far j t (sym z)) (not_n j t) ∙ h.to_come j (omega arith);
      came = λ j p t. decide (eqb j n)
          (λ z. let q : j ≡ n = eqb_eq {m = j} {n = n} z in
          subst (λ (k : ℕ). (next (f k) ≡ was k) × (times (f k) ks ≡ 0)) (sym q) (s (f n) ∙ at_new e n (f n) cur ∙ h.to_come n (in_front n ks), new_gone))
          (λ z. let q : j ≢ n = eqb_ne {m = j} {n = n} z in
          let w = earlier j q p t in
          (s (f j) ∙ elsewhere e n (f n) cur (f j) (λ u. q (inj j n p d u)) w.2 ∙ w.0, w.1));
      rest = λ k t u. let p : k ≢ f n = u n d gone in
          decide (eqb k n)
          (λ z. let q : k ≡ n = eqb_eq {m = k} {n = n} z in subst (λ (j : ℕ). next j ≡ e) (sym q) (s n ∙ at_old e n (f n) cur (λ y. p (q ∙ y))))
          (λ z. let q : k ≢ n = eqb_ne {m = k} {n = n} z in s k ∙ elsewhere e n (f n) cur k p q ∙ h.rest k (still k q t) (λ j v w. u j v (omega arith)));
    }

    -- nothing stands at the old name, and nothing is done
    pub midway_skip : was n ≡ e → ((k : ℕ) → next k ≡ cur k) → Midway ks next
    midway_skip o s = record {
      once = once_less;
      to_come = λ j t. s j ∙ h.to_come j (omega arith);
      came = λ j p t. decide (eqb j n)
          (λ z. let q : j ≡ n = eqb_eq {m = j} {n = n} z in
          subst (λ (k : ℕ). (next (f k) ≡ was k) × (times (f k) ks ≡ 0)) (sym q) (s (f n) ∙ here (subst (λ (k : ℕ). dom k ≡ true) q p), new_gone))
          (λ z. let w = earlier j (eqb_ne {m = j} {n = n} z) p t in (s (f j) ∙ w.0, w.1));
      rest = λ k t u. decide (eqb k n)
          (λ z. let q : k ≡ n = eqb_eq {m = k} {n = n} z in subst (λ (j : ℕ). next j ≡ e) (sym q) (s n ∙ h.to_come n (in_front n ks) ∙ o))
          (λ z. s k ∙ h.rest k (still k (eqb_ne {m = k} {n = n} z) t) (λ j v w. u j v (omega arith)));
    }
      where
        here : dom n ≡ true → cur (f n) ≡ was n
        here d = decide (eqb (f n) n)
            (λ z. ap cur (eqb_eq {m = f n} {n = n} z) ∙ h.to_come n (in_front n ks))
            (λ z. h.rest (f n) (still (f n) (eqb_ne {m = f n} {n = n} z) new_gone)
            (λ j v w y. let q : n ≡ j = inj n j d v y in
            let u : times n (n ∷ ks) ≡ 0 = subst (λ (k : ℕ). times k (n ∷ ks) ≡ 0) (sym q) w in
            let c : 1 ≤ times n (n ∷ ks) = in_front n ks in absurd (omega arith))
            ∙ sym o)

  -- after all steps
  module _ (cur : ℕ → A) (h : Midway [] cur) where
    pub renamed_at : (n : ℕ) → dom n ≡ true → cur (f n) ≡ was n
    renamed_at n d = (h.came n d refl).0

    pub nothing_at : (k : ℕ) → ((n : ℕ) → dom n ≡ true → k ≢ f n) → cur k ≡ e
    nothing_at k u = h.rest k refl (λ n d t. u n d)
