-- The first state has the strong form.
use Rattle.std.specs.Prelude.{ℕ, zero, suc, ◌+◌, ◌≤◌, ◌<◌, true, false, List, [], ◌∷◌, ◌⊎◌, ◌≡◌, refl, ltb, eqb, length, get_or}
use Rattle.std.proofs.Common.{arith, inl, inr, ap, sym, subst}
use Rattle.std.proofs.lemmas.Bool.{false≢true}
use Rattle.meaning.specs.Lists.{all}
use Rattle.meaning.specs.BorrowGraph.{ascending, holds, well_formed, in_order}
use Rattle.meaning.specs.AbstractState.{Token, of_value, of_ref, first_locals, absent, ref, first_names, first_state}
use Rattle.meaning.proofs.Laws.Base.{and_i, le_leb, or_cases, eqb_eq, or_l, or_r, eqb_self}
use Rattle.meaning.specs.Laws.Forms.{Strong}
use Rattle.meaning.proofs.Laws.State.{absent≢ref, value≢ref, ref_inj}

first_count : (i n : ℕ) (ts : List Token) → length (first_locals i n ts) ≡ n
unfolding first_locals
first_count i zero ts = refl
first_count i (suc n) [] = ap suc (first_count (suc i) n [])
first_count i (suc n) (of_value ∷ ts) = ap suc (first_count (suc i) n ts)
first_count i (suc n) (of_ref m ∷ ts) = ap suc (first_count (suc i) n ts)

first_own : (i n : ℕ) (ts : List Token) (j k : ℕ) → get_or (first_locals i n ts) j absent ≡ ref k → k ≡ i + j
unfolding first_locals
first_own i zero ts j k e = absurd (absent≢ref e)
first_own i (suc n) [] zero k e = absurd (absent≢ref e)
first_own i (suc n) [] (suc j) k e = let h : k ≡ suc i + j = first_own (suc i) n [] j k e in omega arith
first_own i (suc n) (of_value ∷ ts) zero k e = absurd (value≢ref e)
first_own i (suc n) (of_value ∷ ts) (suc j) k e = let h : k ≡ suc i + j = first_own (suc i) n ts j k e in omega arith
first_own i (suc n) (of_ref m ∷ ts) zero k e = let h : i ≡ k = ref_inj e in omega arith
first_own i (suc n) (of_ref m ∷ ts) (suc j) k e = let h : k ≡ suc i + j = first_own (suc i) n ts j k e in omega arith

first_few : (i n : ℕ) (ts : List Token) → length (first_names i n ts) ≤ suc n
unfolding first_names
first_few i zero ts = omega arith
first_few i (suc n) [] = let h : length (first_names (suc i) n []) ≤ suc n = first_few (suc i) n [] in omega arith
first_few i (suc n) (of_value ∷ ts) = let h : length (first_names (suc i) n ts) ≤ suc n = first_few (suc i) n ts in omega arith
first_few i (suc n) (of_ref m ∷ ts) = let h : length (first_names (suc i) n ts) ≤ suc n = first_few (suc i) n ts in omega arith

first_above : (b i n : ℕ) (ts : List Token) → b < i → all (λ m. ltb b m.id) (first_names i n ts) ≡ true
unfolding first_names
first_above b i zero ts h = and_i (le_leb h) refl
first_above b i (suc n) [] h = first_above b (suc i) n [] (omega arith)
first_above b i (suc n) (of_value ∷ ts) h = first_above b (suc i) n ts (omega arith)
first_above b i (suc n) (of_ref m ∷ ts) h = and_i (le_leb h) (first_above b (suc i) n ts (omega arith))

first_ascend : (i n : ℕ) (ts : List Token) → i + n < 65536 → ascending (first_names i n ts) ≡ true
unfolding first_names ascending
first_ascend i zero ts h = let k : i < 65536 = omega arith in and_i (and_i (le_leb k) refl) refl
first_ascend i (suc n) [] h = first_ascend (suc i) n [] (omega arith)
first_ascend i (suc n) (of_value ∷ ts) h = first_ascend (suc i) n ts (omega arith)
first_ascend i (suc n) (of_ref m ∷ ts) h = let k : i < 65536 = omega arith in and_i (and_i (le_leb k) (first_above i (suc i) n ts (omega arith))) (first_ascend (suc i) n ts (omega arith))

abbrev Known : ℕ → ℕ → List Token → ℕ → Type 0
Known i n ts k = (k ≡ i + n) ⊎ ((j : ℕ) × (k ≡ i + j) × (get_or (first_locals i n ts) j absent ≡ ref k))

first_among : (i n : ℕ) (ts : List Token) (k : ℕ) → holds (first_names i n ts) k ≡ true → Known i n ts k
unfolding first_names first_locals holds
first_among i zero ts k h = go (or_cases (eqb k i) false h)
  where
    go : (eqb k i ≡ true) ⊎ (false ≡ true) → Known i zero ts k
    go (inl e) = let q : k ≡ i = eqb_eq {m = k} {n = i} e in inl (omega arith)
    go (inr e) = absurd (false≢true e)
first_among i (suc n) [] k h = go (first_among (suc i) n [] k h)
  where
    go : Known (suc i) n [] k → Known i (suc n) [] k
    go (inl e) = inl (omega arith)
    go (inr z) = let q : k ≡ suc i + z.0 = z.1 in inr (suc z.0, omega arith, z.2)
first_among i (suc n) (of_value ∷ ts) k h = go (first_among (suc i) n ts k h)
  where
    go : Known (suc i) n ts k → Known i (suc n) (of_value ∷ ts) k
    go (inl e) = inl (omega arith)
    go (inr z) = let q : k ≡ suc i + z.0 = z.1 in inr (suc z.0, omega arith, z.2)
first_among i (suc n) (of_ref m ∷ ts) k h = pick (or_cases (eqb k i) (holds (first_names (suc i) n ts) k) h) (first_among (suc i) n ts k)
  where
    go : Known (suc i) n ts k → Known i (suc n) (of_ref m ∷ ts) k
    go (inl e) = inl (omega arith)
    go (inr z) = let q : k ≡ suc i + z.0 = z.1 in inr (suc z.0, omega arith, z.2)

    pick : (eqb k i ≡ true) ⊎ (holds (first_names (suc i) n ts) k ≡ true) → (holds (first_names (suc i) n ts) k ≡ true → Known (suc i) n ts k) → Known i (suc n) (of_ref m ∷ ts) k
    pick (inl e) r = let q : k ≡ i = eqb_eq {m = k} {n = i} e in inr (zero, omega arith, ap ref (sym q))
    pick (inr e) r = go (r e)

first_root : (i n : ℕ) (ts : List Token) (k : ℕ) → k ≡ i + n → holds (first_names i n ts) k ≡ true
unfolding first_names holds
first_root i zero ts k e = let q : i ≡ k = omega arith in or_l false (subst (λ (j : ℕ). eqb k j ≡ true) (sym q) (eqb_self k))
first_root i (suc n) [] k e = first_root (suc i) n [] k (omega arith)
first_root i (suc n) (of_value ∷ ts) k e = first_root (suc i) n ts k (omega arith)
first_root i (suc n) (of_ref m ∷ ts) k e = or_r (eqb k i) (first_root (suc i) n ts k (omega arith))

first_refs : (i n : ℕ) (ts : List Token) (j k : ℕ) → get_or (first_locals i n ts) j absent ≡ ref k → holds (first_names i n ts) k ≡ true
unfolding first_names first_locals holds
first_refs i zero ts j k e = absurd (absent≢ref e)
first_refs i (suc n) [] zero k e = absurd (absent≢ref e)
first_refs i (suc n) [] (suc j) k e = first_refs (suc i) n [] j k e
first_refs i (suc n) (of_value ∷ ts) zero k e = absurd (value≢ref e)
first_refs i (suc n) (of_value ∷ ts) (suc j) k e = first_refs (suc i) n ts j k e
first_refs i (suc n) (of_ref m ∷ ts) zero k e = or_l (holds (first_names (suc i) n ts) k) (subst (λ (x : ℕ). eqb k x ≡ true) (sym (ref_inj e)) (eqb_self k))
first_refs i (suc n) (of_ref m ∷ ts) (suc j) k e = or_r (eqb k i) (first_refs (suc i) n ts j k e)

pub first_strong : (l : ℕ) (ts : List Token) → l ≤ 16 → Strong l (first_state l ts)
unfolding first_state well_formed in_order
first_strong l ts b = record {
  form = record {
    count = first_count 0 l ts;
    own = λ i n e. let h : n ≡ 0 + i = first_own 0 l ts i n e in omega arith;
    formed = let h : length (first_names 0 l ts) ≤ suc l = first_few 0 l ts in
        let k : length (first_names 0 l ts) ≤ 48 = omega arith in
        and_i (and_i (le_leb k) (first_ascend 0 l ts (omega arith))) refl;
    among = λ n h. among n (first_among 0 l ts n h);
    no_root = refl;
  };
  root = first_root 0 l ts l (omega arith);
  refs = λ i e. first_refs 0 l ts i i e;
}
  where
    among : (n : ℕ) → Known 0 l ts n → (n ≡ l) ⊎ (get_or (first_locals 0 l ts) n absent ≡ ref n)
    among n (inl e) = inl (omega arith)
    among n (inr z) = let q : n ≡ 0 + z.0 = z.1 in let w : z.0 ≡ n = omega arith in inr (subst (λ (j : ℕ). get_or (first_locals 0 l ts) j absent ≡ ref n) w z.2)
