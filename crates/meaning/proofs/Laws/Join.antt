-- The join of two states of the strong form: never refused with 8, 9, 16 or 23; its answer has the strong form.
use Rattle.std.specs.Prelude.{ℕ, ◌+◌, ◌<◌, suc, ◌≤◌, true, Bool, false, ◌⊎◌, ◌≡◌, eqb, length, get_or}
use Rattle.std.proofs.Common.{arith, inl, inr, sym, subst, ◌∙◌}
use mathlib.Core.List.{List, [], ◌∷◌, ◌++◌}
use Rattle.std.proofs.Math.Path.{refl}
use Rattle.meaning.specs.Answers.{Ans, ok, refuse, ordinary, and_then, guard}
use Rattle.meaning.specs.BorrowGraph.{Graph, release, held, join_graphs, blurs_to}
use Rattle.meaning.specs.AbstractState.{Local, absent, value, ref, join_local, join_locals, State, Form, join, Parts}
use Rattle.meaning.specs.EntryPoints.{local_names}
use Rattle.meaning.proofs.Laws.Base.{eqb_eq}
use Rattle.meaning.proofs.Laws.Block.{strong_owns}
use Rattle.meaning.specs.Laws.Forms.{Strong}
use Rattle.meaning.proofs.Laws.Own.{fair, times, times_append, Owns, owns_as, release_fair, release_own, join_graphs_fair}
use Rattle.meaning.proofs.Laws.State.{absent≢ref, Joined, join_law, join_form, join_local_lem, join_rest}

-- what is answered has the property; what is refused is not refused with 8, 9, 16 or 23
pub data Sure {A : Type 0} (P : A → Type 0) : Ans A → Type 0 where
  sure : {a : A} → P a → Sure P (ok a)
  unsure : {n : ℕ} → ordinary n ≡ true → Sure P (refuse n)

sure_then : {A B : Type 0} {P : A → Type 0} {Q : B → Type 0} {a : Ans A} → Sure P a → (f : A → Ans B) → ((x : A) → P x → Sure Q (f x)) → Sure Q (and_then a f)
sure_then (sure {a} p) f k = k a p
sure_then (unsure e) f k = unsure e

sure_from : {A : Type 0} {P : A → Type 0} (a : Ans A) → fair a ≡ true → ((x : A) → a ≡ ok x → P x) → Sure P a
sure_from (ok x) f k = sure (k x refl)
sure_from (refuse n) f k = unsure f

sure_guard : {A : Type 0} {P : A → Type 0} (b : Bool) (n : ℕ) {k : Ans A} → ordinary n ≡ true → (b ≡ true → Sure P k) → Sure P (guard b n k)
sure_guard true n e h = h refl
sure_guard false n e h = unsure e

module _ (l next m : ℕ) where
  -- the names still to come, and those done with and held on both sides
  abbrev Both : List Local → List Local → Graph → Graph → Type 0
  Both xs ys g h = (zs : List ℕ) × (Owns l g next (local_names xs ++ zs) m) × (Owns l h next (local_names ys ++ zs) m)

  over : (n : ℕ) (xs zs : List ℕ) (g : Graph) → Owns l g next (n ∷ (xs ++ zs)) m → Owns l g next (xs ++ (n ∷ zs)) m
  over n xs zs g o = owns_as l g next (n ∷ (xs ++ zs)) m o (xs ++ (n ∷ zs))
      (λ k. let a : times k (xs ++ (n ∷ zs)) ≡ times k xs + times k (n ∷ zs) = times_append k xs (n ∷ zs) in
      let b : times k (xs ++ zs) ≡ times k xs + times k zs = times_append k xs zs in
      omega arith)

  join_local_sure : (a b : Local) (xs ys : List Local) (g h : Graph) → Both (a ∷ xs) (b ∷ ys) g h → Sure (λ s. Both xs ys s.ours s.theirs) (join_local a b g h)
  unfolding join_local
  join_local_sure absent absent xs ys g h w = sure w
  join_local_sure absent value xs ys g h w = sure w
  join_local_sure absent (ref n) xs ys g h w =
      sure_then (sure_from (release h n) (release_fair l h next n (local_names ys ++ w.0) m w.2) (λ k e. release_own l h next n (local_names ys ++ w.0) m k w.2 e))
      (λ h'. ok (record { local = absent; ours = g; theirs = h' })) (λ k o. sure (w.0, w.1, o))
  join_local_sure value absent xs ys g h w = sure w
  join_local_sure value value xs ys g h w = sure w
  join_local_sure value (ref n) xs ys g h w = unsure refl
  join_local_sure (ref n) absent xs ys g h w =
      sure_then (sure_from (release g n) (release_fair l g next n (local_names xs ++ w.0) m w.1) (λ k e. release_own l g next n (local_names xs ++ w.0) m k w.1 e))
      (λ g'. ok (record { local = absent; ours = g'; theirs = h })) (λ k o. sure (w.0, o, w.2))
  join_local_sure (ref n) value xs ys g h w = unsure refl
  join_local_sure (ref n) (ref k) xs ys g h w =
      sure_guard (eqb n k) 15 refl (λ e. sure (
        n ∷ w.0,
        over n (local_names xs) w.0 g w.1,
        over n (local_names ys) w.0 h (subst (λ (i : ℕ). Owns l h next (i ∷ (local_names ys ++ w.0)) m) (sym (eqb_eq {m = n} {n = k} e)) w.2),
      ))

  join_locals_sure : (xs ys : List Local) (g h : Graph) → length xs ≡ length ys → Both xs ys g h → Sure (λ r. Both [] [] r.ours r.theirs) (join_locals xs ys g h)
  unfolding join_locals
  join_locals_sure [] [] g h c w = sure w
  join_locals_sure [] (b ∷ ys) g h c w = absurd (omega arith)
  join_locals_sure (a ∷ xs) [] g h c w = absurd (omega arith)
  join_locals_sure (a ∷ xs) (b ∷ ys) g h c w =
      sure_then (join_local_sure a b xs ys g h w) (λ s. and_then (join_locals xs ys s.ours s.theirs) (λ r. ok (record { locals = s.local ∷ r.locals; ours = r.ours; theirs = r.theirs; blurs = blurs_to g s.ours + blurs_to h s.theirs + r.blurs })))
      (λ s v. sure_then (join_locals_sure xs ys s.ours s.theirs (omega arith) v) (λ r. ok (record { locals = s.local ∷ r.locals; ours = r.ours; theirs = r.theirs; blurs = blurs_to g s.ours + blurs_to h s.theirs + r.blurs })) (λ r u. sure u))

-- the answer has the strong form
pub join_strong : (l : ℕ) (s o t : State) → join s o ≡ ok t → Strong l s → Strong l o → Strong l t
join_strong l s o t e a b =
    let j : Joined s o t = join_law s o t e in
    let f : Form l s = a.form in
    record { form = join_form l s o t j f b.form; root = root j f (join_rest s o t j l a.root); refs = λ i q. refs j f i q (join_local_lem s o t j i) }
  where
    Lost : ℕ → Type 0
    Lost k = (held t.graph k ≡ true) ⊎ ((i : ℕ) × (i < length s.locals) × (get_or s.locals i absent ≡ ref k) × (get_or t.locals i absent ≡ absent))

    root : Joined s o t → Form l s → Lost l → held t.graph l ≡ true
    root j f (inl h) = h
    root j f (inr z) =
        let c : length s.locals ≡ l = f.count in
        let d : z.0 < length s.locals = z.1 in
        let w : l ≡ z.0 = f.own z.0 l z.2 in
        absurd (omega arith)

    stays : Form l s → (i : ℕ) → get_or t.locals i absent ≡ ref i → Lost i → held t.graph i ≡ true
    stays f i q (inl h) = h
    stays f i q (inr z) = absurd (absent≢ref (sym (subst (λ (k : ℕ). get_or t.locals k absent ≡ absent) (sym (f.own z.0 i z.2)) z.3) ∙ q))

    refs : Joined s o t → Form l s → (i : ℕ) → get_or t.locals i absent ≡ ref i → (get_or t.locals i absent ≡ get_or s.locals i absent) ⊎ (get_or t.locals i absent ≡ absent) → held t.graph i ≡ true
    refs j f i q (inl p) = stays f i q (join_rest s o t j i (a.refs i (sym p ∙ q)))
    refs j f i q (inr p) = absurd (absent≢ref (sym p ∙ q))

-- it is refused with 15, 21 or 22 only (so not with 9)
pub join_sure : (l : ℕ) (s o : State) → l ≤ 16 → Strong l s → Strong l o → Sure (Strong l) (join s o)
unfolding join
join_sure l s o b hs ho = sure_from (join s o) is_fair (λ t e. join_strong l s o t e hs ho)
  where
    nil : (u : State) → Strong l u → Owns l u.graph (suc l) (local_names u.locals ++ []) 0
    nil u h = owns_as l u.graph (suc l) (local_names u.locals) 0 (strong_owns l 0 u (omega arith) h) (local_names u.locals ++ []) (λ n. let a : times n (local_names u.locals ++ []) ≡ times n (local_names u.locals) + 0 = times_append n (local_names u.locals) [] in omega arith)

    sure_fair : {A : Type 0} {P : A → Type 0} {a : Ans A} → Sure P a → fair a ≡ true
    sure_fair (sure p) = refl
    sure_fair (unsure e) = e

    is_fair : fair (join s o) ≡ true
    is_fair =
        let f₂ : Parts → Graph → Ans State = λ r g. ok (record { locals = r.locals; graph = g }) in
        sure_fair {P = λ (t : State). Unit {0}}
        (sure_then (join_locals_sure l (suc l) 0 s.locals o.locals s.graph o.graph (hs.form.count ∙ sym ho.form.count) ([], nil s hs, nil o ho))
        (λ r. and_then (join_graphs r.ours r.theirs) (f₂ r))
        (λ r w. sure_then (sure_from {P = λ (g : Graph). Unit {0}} (join_graphs r.ours r.theirs) (join_graphs_fair l r.ours r.theirs (suc l) w.0 0 w.1 w.2) (λ g e. tt)) (f₂ r) (λ g u. sure tt)))
