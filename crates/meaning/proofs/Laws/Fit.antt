-- The loop's slots as a program keeps them: kept states by position, and a list of statuses. (How often a kept state changed stands
-- in no program; it is free here.)
use Prim.Native.Nat.{ℕ, ◌<◌, ◌≤◌, ◌+◌, zero, suc}
use Rattle.std.proofs.Common.{arith, sym, ◌∙◌, not-suc-le-zero, le_of_suc-le-suc, lt→ltb, length-set, get_or-set_same, get_or-set_other}
use Rattle.std.specs.Prelude.{Bool, true, false, ◌≢◌, ◌≡◌, eqb, leb, ltb, get_or}
use Rattle.std.proofs.Math.Bool.{cond}
use mathlib.Core.List.{List, [], ◌∷◌, map}
use Rattle.std.proofs.Math.Option.{Option, none, some, none-ne-some, some-ne-none}
use Rattle.std.proofs.Math.Path.{ap, subst, refl}
use Rattle.std.proofs.Math.ListN.{length, set, get_or-eq_default}
use Rattle.std.proofs.lemmas.List.{length-map}
use Rattle.std.proofs.Math.Seq.{set_out}
use Rattle.meaning.specs.Answers.{Ans, ok, refuse}
use Rattle.meaning.specs.Loop.{Status, fine, Slot, blank, Result, ended, returned, violated, refused, Block, failed, Next, at, stopped, Run, Propagation, position, no_block, after_change, after_join, to_kept, to_successor, propagate, kept_blurs, successor_blurs, propagate_blurs, mark, after_block, visit_block, turn_at, turn, turns, start_slots, Failure, lower, lowest}
use Rattle.meaning.proofs.Laws.Base.{decide, eqb_eq, eqb_ne, T→eq}
use Rattle.meaning.specs.Laws.Fit.{Fits, Does as DoesOn, Passes as PassesOn, propagate_on as sent_on, propagate_blurs_on as blurs_on, Reached as ReachedOn, lowest_by}

module _ {St : Type 0} where
  -- a slot gets a state, or (its state as it was) a status
  pub fits_set : (ks ks' : ℕ → Option St) (xs : List Status) (ss : List (Slot St)) (j : ℕ) (k : Option St) (x : Status) (c : ℕ)
      → Fits ks xs ss → length ss ≤ length xs → j < length ss → ks' j ≡ k → ((i : ℕ) → i ≢ j → ks' i ≡ ks i) → Fits ks' (set xs j x) (set ss j (record { kept = k; status = x; changes = c }))
  fits_set ks ks' xs ss j k x c f w m here there = record { kept = kept; status = status }
    where
      s : Slot St
      s = record { kept = k; status = x; changes = c }

      kept : (i : ℕ) → ks' i ≡ (get_or (set ss j s) i blank).kept
      kept i = decide (eqb i j)
          (λ e. let q : i ≡ j = eqb_eq e in
          ap ks' q ∙ here ∙ sym (ap (λ (t : Slot St). t.kept) (get_or-set_same ss j s blank m)) ∙ ap (λ (n : ℕ). (get_or (set ss j s) n blank).kept) (sym q))
          (λ e. there i (eqb_ne e) ∙ f.kept i ∙ sym (ap (λ (t : Slot St). t.kept) (get_or-set_other ss j i s blank (eqb_ne e))))

      status : (i : ℕ) → i < length (set ss j s) → get_or (set xs j x) i fine ≡ (get_or (set ss j s) i blank).status
      status i h = decide (eqb i j)
          (λ e. let q : i ≡ j = eqb_eq e in
          ap (λ (n : ℕ). get_or (set xs j x) n fine) q ∙ get_or-set_same xs j x fine (omega (arith, m, w)) ∙ sym (ap (λ (t : Slot St). t.status) (get_or-set_same ss j s blank m)) ∙ ap (λ (n : ℕ). (get_or (set ss j s) n blank).status) (sym q))
          (λ e. let l : i < length ss = subst (λ (n : ℕ). i < n) (length-set ss j s) h in
          get_or-set_other xs j i x fine (eqb_ne e) ∙ f.status i l ∙ sym (ap (λ (t : Slot St). t.status) (get_or-set_other ss j i s blank (eqb_ne e))))

module _ (St : Type 0) (join : St → St → Ans St) (join_blurs : St → St → ℕ) (changed : St → St → Bool) (exec : ℕ → St → Result St) (blocks : List Block) where
  -- the words, of this loop
  abbrev Does : (List (Slot St) → Next → Propagation St) → (ℕ → Option St) → List Status → Next → (ℕ → Option St) → List Status → Next → Type 0
  Does = DoesOn St join join_blurs changed exec blocks

  abbrev Passes : (List (Slot St) → Next → ℕ) → (ℕ → Option St) → List Status → Next → ℕ → Type 0
  Passes = PassesOn St join join_blurs changed exec blocks

  abbrev propagate_on : Block → St → List ℕ → List (Slot St) → Next → Propagation St
  propagate_on = sent_on St join join_blurs changed exec blocks

  abbrev propagate_blurs_on : Block → St → List ℕ → List (Slot St) → Next → ℕ
  propagate_blurs_on = blurs_on St join join_blurs changed exec blocks

  abbrev Reached : Run St → (ℕ → Option St) → List Status → Next → ℕ → ℕ → Type 0
  Reached = ReachedOn St join join_blurs changed exec blocks

  pub does_both : (f g : List (Slot St) → Next → Propagation St) (ks ks' ks'' : ℕ → Option St) (xs xs' xs'' : List Status) (n n' n'' : Next)
      → Does f ks xs n ks' xs' n' → Does g ks' xs' n' ks'' xs'' n'' → Does (λ ss m. g (f ss m).slots (f ss m).next) ks xs n ks'' xs'' n''
  unfolding DoesOn
  does_both f g ks ks' ks'' xs xs' xs'' n n' n'' a b ss l h =
      let p = a ss l h in
      let q = b (f ss n).slots p.0 p.1 in
      subst (λ (m : Next). (length (g (f ss n).slots m).slots ≡ length blocks) × Fits ks'' xs'' (g (f ss n).slots m).slots × (n'' ≡ (g (f ss n).slots m).next)) p.2 q

  module _ (b : Block) (t : St) (e : ℕ) (ks : ℕ → Option St) (xs : List Status) where
    abbrev j : ℕ
    j = position blocks e

    pub successor_stopped : (r p : ℕ) → Does (to_successor St join join_blurs changed exec blocks b t e) ks xs (stopped r p) ks xs (stopped r p)
    unfolding DoesOn
    successor_stopped r p ss l h = (l, h, refl)

    -- no block has the entry
    pub successor_nowhere : (n : ℕ) → length blocks ≤ j → Does (to_successor St join join_blurs changed exec blocks b t e) ks xs (at n) ks xs (at n)
    unfolding DoesOn
    successor_nowhere n o ss l h = go (get_or ss j blank).kept refl
      where
        out : (s : Slot St) → set ss j s ≡ ss
        out s = set_out ss j s (omega (arith, l, o))

        nothing : (get_or ss j blank).kept ≡ none
        nothing = ap (λ (s : Slot St). s.kept) (get_or-eq_default ss blank (omega (arith, l, o)))

        go : (k : Option St) → (get_or ss j blank).kept ≡ k
            → (length (to_kept St join join_blurs changed exec blocks b t e j ss n k).slots ≡ length blocks) × Fits ks xs (to_kept St join join_blurs changed exec blocks b t e j ss n k).slots × (at n ≡ (to_kept St join join_blurs changed exec blocks b t e j ss n k).next)
        go none q = (ap length (out (record { kept = some t; status = fine; changes = (get_or ss j blank).changes })) ∙ l, subst (λ (us : List (Slot St)). Fits ks xs us) (sym (out (record { kept = some t; status = fine; changes = (get_or ss j blank).changes }))) h, refl)
        go (some s) q = absurd (none-ne-some s (sym nothing ∙ q))

    -- the block has no kept state: it takes the end state over
    pub successor_fresh : (n : ℕ) (ks' : ℕ → Option St) → j < length blocks → length blocks ≤ length xs → ks j ≡ none → ks' j ≡ some t → ((i : ℕ) → i ≢ j → ks' i ≡ ks i)
        → Does (to_successor St join join_blurs changed exec blocks b t e) ks xs (at n) ks' (set xs j fine) (at n)
    unfolding DoesOn
    successor_fresh n ks' m w q new others ss l h = go (get_or ss j blank).kept (sym (h.kept j) ∙ q)
      where
        go : (k : Option St) → k ≡ none
            → (length (to_kept St join join_blurs changed exec blocks b t e j ss n k).slots ≡ length blocks) × Fits ks' (set xs j fine) (to_kept St join join_blurs changed exec blocks b t e j ss n k).slots × (at n ≡ (to_kept St join join_blurs changed exec blocks b t e j ss n k).next)
        go none q = (length-set ss j (record { kept = some t; status = fine; changes = (get_or ss j blank).changes }) ∙ l, fits_set ks ks' xs ss j (some t) fine (get_or ss j blank).changes h (omega (arith, l, w)) (omega (arith, l, m)) new others, refl)
        go (some s) q = absurd (some-ne-none s q)

    module _ (n : ℕ) (s : St) (m : j < length blocks) (q : ks j ≡ some s) where
      -- what follows a join
      joined : (f : Ans St → Propagation St) (ss : List (Slot St)) → Fits ks xs ss → ((a : Ans St) → f a ≡ after_join St join join_blurs changed exec blocks b e j ss n s a) → to_successor St join join_blurs changed exec blocks b t e ss (at n) ≡ f (join s t)
      joined f ss h k = ap (λ (o : Option St). to_kept St join join_blurs changed exec blocks b t e j ss n o) (sym (h.kept j) ∙ q) ∙ sym (k (join s t))

      pub successor_refused : (r : ℕ) → join s t ≡ refuse r → Does (to_successor St join join_blurs changed exec blocks b t e) ks xs (at n) ks xs (stopped r b.exit)
      unfolding DoesOn
      successor_refused r d ss l h =
          let z : to_successor St join join_blurs changed exec blocks b t e ss (at n) ≡ record { slots = ss; next = stopped r b.exit } = joined (after_join St join join_blurs changed exec blocks b e j ss n s) ss h (λ a. refl) ∙ ap (after_join St join join_blurs changed exec blocks b e j ss n s) d in
          subst (λ (a : Propagation St). (length a.slots ≡ length blocks) × Fits ks xs a.slots × (stopped r b.exit ≡ a.next)) (sym z) (l, h, refl)

      pub successor_same : (k : St) → join s t ≡ ok k → changed s k ≡ false → Does (to_successor St join join_blurs changed exec blocks b t e) ks xs (at n) ks xs (at n)
      unfolding DoesOn
      successor_same k d c ss l h =
          let z : to_successor St join join_blurs changed exec blocks b t e ss (at n) ≡ record { slots = ss; next = at n } = joined (after_join St join join_blurs changed exec blocks b e j ss n s) ss h (λ a. refl)
          ∙ ap (after_join St join join_blurs changed exec blocks b e j ss n s) d ∙ ap (after_change St join join_blurs changed exec blocks b e j ss n k) c in
          subst (λ (a : Propagation St). (length a.slots ≡ length blocks) × Fits ks xs a.slots × (at n ≡ a.next)) (sym z) (l, h, refl)

      pub successor_changed : (k : St) (ks' : ℕ → Option St) → length blocks ≤ length xs → join s t ≡ ok k → changed s k ≡ true → ks' j ≡ some k → ((i : ℕ) → i ≢ j → ks' i ≡ ks i)
          → Does (to_successor St join join_blurs changed exec blocks b t e) ks xs (at n) ks' (set xs j fine) (at (cond (leb e b.entry) j n))
      unfolding DoesOn
      successor_changed k ks' w d c new others ss l h =
          let u : Slot St = record { kept = some k; status = fine; changes = suc (get_or ss j blank).changes } in
          let z : to_successor St join join_blurs changed exec blocks b t e ss (at n) ≡ record { slots = set ss j u; next = at (cond (leb e b.entry) j n) } = joined
          (after_join St join join_blurs changed exec blocks b e j ss n s) ss h (λ a. refl) ∙ ap (after_join St join join_blurs changed exec blocks b e j ss n s) d
          ∙ ap (after_change St join join_blurs changed exec blocks b e j ss n k) c in
          subst (λ (a : Propagation St). (length a.slots ≡ length blocks) × Fits ks' (set xs j fine) a.slots × (at (cond (leb e b.entry) j n) ≡ a.next)) (sym z)
          (length-set ss j u ∙ l, fits_set ks ks' xs ss j (some k) fine (suc (get_or ss j blank).changes) h (omega (arith, l, w)) (omega (arith, l, m)) new others, refl)

  -- the sets that its join blurs
  module _ (t : St) (e : ℕ) (ks : ℕ → Option St) (xs : List Status) where
    pub blurs_stopped : (r p : ℕ) → Passes (successor_blurs St join join_blurs changed exec blocks t e) ks xs (stopped r p) 0
    unfolding PassesOn
    blurs_stopped r p ss l h = refl

    pub blurs_nowhere : (n : ℕ) → length blocks ≤ position blocks e → Passes (successor_blurs St join join_blurs changed exec blocks t e) ks xs (at n) 0
    unfolding PassesOn
    blurs_nowhere n o ss l h = ap (λ (s : Slot St). kept_blurs St join join_blurs changed exec blocks t s.kept) (sym (get_or-eq_default ss blank (omega (arith, l, o))))

    pub blurs_fresh : (n : ℕ) → ks (position blocks e) ≡ none → Passes (successor_blurs St join join_blurs changed exec blocks t e) ks xs (at n) 0
    unfolding PassesOn
    blurs_fresh n q ss l h = ap (kept_blurs St join join_blurs changed exec blocks t) (sym q ∙ h.kept (position blocks e))

    pub blurs_kept : (n : ℕ) (s : St) → ks (position blocks e) ≡ some s → Passes (successor_blurs St join join_blurs changed exec blocks t e) ks xs (at n) (join_blurs s t)
    unfolding PassesOn
    blurs_kept n s q ss l h = ap (kept_blurs St join join_blurs changed exec blocks t) (sym q ∙ h.kept (position blocks e))

  -- ---- to the successors as listed

  module _ (b : Block) (t : St) where
    pub propagate_none : (ks : ℕ → Option St) (xs : List Status) (n : Next) → Does (propagate_on b t []) ks xs n ks xs n
    unfolding DoesOn propagate
    propagate_none ks xs n ss l h = (l, h, refl)

    pub propagate_one : (e : ℕ) (ks ks' : ℕ → Option St) (xs xs' : List Status) (n n' : Next) → Does (to_successor St join join_blurs changed exec blocks b t e) ks xs n ks' xs' n' → Does (propagate_on b t (e ∷ [])) ks xs n ks' xs' n'
    unfolding DoesOn propagate
    propagate_one e ks ks' xs xs' n n' d = d

    pub propagate_two : (e d : ℕ) (ks ks' ks'' : ℕ → Option St) (xs xs' xs'' : List Status) (n n' n'' : Next) → Does (to_successor St join join_blurs changed exec blocks b t e) ks xs n ks' xs' n' → Does (to_successor St join join_blurs changed exec blocks b t d) ks' xs' n' ks'' xs'' n''
        → Does (propagate_on b t (e ∷ d ∷ [])) ks xs n ks'' xs'' n''
    unfolding DoesOn propagate
    propagate_two e d ks ks' ks'' xs xs' xs'' n n' n'' p q = does_both (to_successor St join join_blurs changed exec blocks b t e) (to_successor St join join_blurs changed exec blocks b t d) ks ks' ks'' xs xs' xs'' n n' n'' p q

    pub propagate_blurs_none : (ks : ℕ → Option St) (xs : List Status) (n : Next) → Passes (propagate_blurs_on b t []) ks xs n 0
    unfolding PassesOn propagate_blurs
    propagate_blurs_none ks xs n ss l h = refl

    pub propagate_blurs_one : (e : ℕ) (ks : ℕ → Option St) (xs : List Status) (n : Next) (m : ℕ) → Passes (successor_blurs St join join_blurs changed exec blocks t e) ks xs n m → Passes (propagate_blurs_on b t (e ∷ [])) ks xs n m
    unfolding PassesOn propagate_blurs
    propagate_blurs_one e ks xs n m d ss l h = let k : m ≡ successor_blurs St join join_blurs changed exec blocks t e ss n = d ss l h in omega (arith, k)

    pub propagate_blurs_two : (e d : ℕ) (ks ks' : ℕ → Option St) (xs xs' : List Status) (n n' : Next) (m₁ m₂ : ℕ) → Does (to_successor St join join_blurs changed exec blocks b t e) ks xs n ks' xs' n'
        → Passes (successor_blurs St join join_blurs changed exec blocks t e) ks xs n m₁ → Passes (successor_blurs St join join_blurs changed exec blocks t d) ks' xs' n' m₂ → Passes (propagate_blurs_on b t (e ∷ d ∷ [])) ks xs n (m₁ + m₂)
    unfolding DoesOn PassesOn propagate_blurs
    propagate_blurs_two e d ks ks' xs xs' n n' m₁ m₂ f p q ss l h =
        let a : Propagation St = to_successor St join join_blurs changed exec blocks b t e ss n in
        let g = f ss l h in
        let first : m₁ ≡ successor_blurs St join join_blurs changed exec blocks t e ss n = p ss l h in
        let second : m₂ ≡ successor_blurs St join join_blurs changed exec blocks t d a.slots a.next = q a.slots g.0 g.1 ∙ ap (successor_blurs St join join_blurs changed exec blocks t d a.slots) g.2 in
        omega (arith, first, second)

  -- ---- one step of the loop; v counts the visits, b sums the sets blurred

  module _ (r : Run St) (ks : ℕ → Option St) (xs : List Status) (i v b : ℕ) (a : Reached r ks xs (at i) v b) (m : i < length blocks) where
    abbrev kept : Option St
    kept = (get_or r.slots i blank).kept

    turned : turn St join join_blurs changed exec blocks r ≡ visit_block St join join_blurs changed exec blocks r i kept
    unfolding turn
    turned =
        ap (turn_at St join join_blurs changed exec blocks r) (sym a.next)
        ∙ ap (λ (z : Bool). cond z (visit_block St join join_blurs changed exec blocks r i kept) r) (T→eq (ltb i (length blocks)) (lt→ltb i (length blocks) m))

    ours : ks i ≡ kept
    ours = a.fits.kept i

    marked : (x : Status) → length blocks ≤ length xs → Fits ks (set xs i x) (mark St join join_blurs changed exec blocks r.slots i x)
    marked x w = fits_set ks ks xs r.slots i kept x (get_or r.slots i blank).changes a.fits (omega (arith, w, a.same_length)) (omega (arith, m, a.same_length)) ours (λ j z. refl)

    marked_length : (x : Status) → length (mark St join join_blurs changed exec blocks r.slots i x) ≡ length blocks
    marked_length x = length-set r.slots i (record { kept = kept; status = x; changes = (get_or r.slots i blank).changes }) ∙ a.same_length

    -- no kept state: passed over
    pub step_over : ks i ≡ none → Reached (turn St join join_blurs changed exec blocks r) ks xs (at (suc i)) v b
    step_over e =
        let z : turn St join join_blurs changed exec blocks r ≡ record { slots = r.slots; next = at (suc i); trail = r.trail; blurs = r.blurs } = turned ∙ ap (visit_block St join join_blurs changed exec blocks r i) (sym ours ∙ e) in
        subst (λ (q : Run St). Reached q ks xs (at (suc i)) v b) (sym z) (record { same_length = a.same_length; fits = a.fits; next = refl; visited = a.visited; blurred = a.blurred })

    module _ (s : St) (e : ks i ≡ some s) where
      ran : (o : Result St) → exec i s ≡ o → turn St join join_blurs changed exec blocks r ≡ after_block St join join_blurs changed exec blocks r i o
      ran o d = turned ∙ ap (visit_block St join join_blurs changed exec blocks r i) (sym ours ∙ e) ∙ ap (after_block St join join_blurs changed exec blocks r i) d

      pub step_violated : (k c o p : ℕ) → length blocks ≤ length xs → exec i s ≡ violated k c o p
          → Reached (turn St join join_blurs changed exec blocks r) ks (set xs i (failed c o p)) (at (suc i)) (suc v) (b + k)
      step_violated k c o p w d =
          subst (λ (q : Run St). Reached q ks (set xs i (failed c o p)) (at (suc i)) (suc v) (b + k)) (sym (ran (violated k c o p) d))
          (record {
            same_length = marked_length (failed c o p);
            fits = marked (failed c o p) w;
            next = refl;
            visited = ap suc a.visited;
            blurred = ap (λ (n : ℕ). n + k) a.blurred;
          })

      pub step_refused : (n p : ℕ) → exec i s ≡ refused n p → Reached (turn St join join_blurs changed exec blocks r) ks xs (stopped n p) (suc v) b
      step_refused n p d =
          subst (λ (q : Run St). Reached q ks xs (stopped n p) (suc v) b) (sym (ran (refused n p) d))
          (record { same_length = a.same_length; fits = a.fits; next = refl; visited = ap suc a.visited; blurred = a.blurred })

      pub step_returned : (k : ℕ) → length blocks ≤ length xs → exec i s ≡ returned k → Reached (turn St join join_blurs changed exec blocks r) ks (set xs i fine) (at (suc i)) (suc v) (b + k)
      step_returned k w d =
          subst (λ (q : Run St). Reached q ks (set xs i fine) (at (suc i)) (suc v) (b + k)) (sym (ran (returned k) d))
          (record { same_length = marked_length fine; fits = marked fine w; next = refl; visited = ap suc a.visited; blurred = ap (λ (n : ℕ). n + k) a.blurred })

      pub step_ended : (k : ℕ) (t : St) (ks' : ℕ → Option St) (xs' : List Status) (n' : Next) (m : ℕ) → length blocks ≤ length xs → exec i s ≡ ended k t
          → Does (propagate_on (get_or blocks i no_block) t (get_or blocks i no_block).successors) ks (set xs i fine) (at (suc i)) ks' xs' n'
          → Passes (propagate_blurs_on (get_or blocks i no_block) t (get_or blocks i no_block).successors) ks (set xs i fine) (at (suc i)) m → Reached (turn St join join_blurs changed exec blocks r) ks' xs' n' (suc v) (b + k + m)
      unfolding DoesOn PassesOn
      step_ended k t ks' xs' n' m w d f p =
          let ss : List (Slot St) = mark St join join_blurs changed exec blocks r.slots i fine in
          let g = f ss (marked_length fine) (marked fine w) in
          let h : m ≡ propagate_blurs_on (get_or blocks i no_block) t (get_or blocks i no_block).successors ss (at (suc i)) = p ss (marked_length fine) (marked fine w) in
          let c : b ≡ r.blurs = a.blurred in
          subst (λ (q : Run St). Reached q ks' xs' n' (suc v) (b + k + m)) (sym (ran (ended k t) d))
          (record { same_length = g.0; fits = g.1; next = g.2; visited = ap suc a.visited; blurred = omega (arith, c, h) })

  -- ---- from the start on

  abbrev pub first : St → Run St
  first s = record { slots = start_slots St join join_blurs changed exec blocks blocks s; next = at 0; trail = []; blurs = 0 }

  pub steps_more : (k : ℕ) (r : Run St) → turns St join join_blurs changed exec blocks (suc k) r ≡ turn St join join_blurs changed exec blocks (turns St join join_blurs changed exec blocks k r)
  unfolding turns
  steps_more zero r = refl
  steps_more (suc k) r = steps_more k (turn St join join_blurs changed exec blocks r)

  blanks : (bs : List Block) (j : ℕ) → get_or (map (λ c. blank) bs) j (blank {St = St}) ≡ blank
  blanks [] j = refl
  blanks (b ∷ bs) zero = refl
  blanks (b ∷ bs) (suc j) = blanks bs j

  -- the first block has the first state, no other one has any
  module _ (s : St) (ks : ℕ → Option St) (xs : List Status) (some_block : 1 ≤ length blocks) (one : ks 0 ≡ some s) (rest : (j : ℕ) → j ≢ 0 → ks j ≡ none) (fines : (j : ℕ) → get_or xs j fine ≡ fine) where
    first_length : (bs : List Block) → length (start_slots St join join_blurs changed exec blocks bs s) ≡ length bs
    unfolding start_slots
    first_length [] = refl
    first_length (b ∷ bs) = ap suc (length-map bs (λ c. blank))

    first_kept : (bs : List Block) → 1 ≤ length bs → (j : ℕ) → ks j ≡ (get_or (start_slots St join join_blurs changed exec blocks bs s) j blank).kept
    unfolding start_slots
    first_kept [] h j = absurd (not-suc-le-zero h)
    first_kept (b ∷ bs) h zero = one
    first_kept (b ∷ bs) h (suc j) = rest (suc j) (λ e. absurd (omega (arith, e))) ∙ ap (λ (z : Slot St). z.kept) (sym (blanks bs j))

    first_status : (bs : List Block) (j : ℕ) → fine ≡ (get_or (start_slots St join join_blurs changed exec blocks bs s) j blank).status
    unfolding start_slots
    first_status [] j = refl
    first_status (b ∷ bs) zero = refl
    first_status (b ∷ bs) (suc j) = ap (λ (z : Slot St). z.status) (sym (blanks bs j))

    pub starts : Reached (first s) ks xs (at 0) 0 0
    starts = record {
      same_length = first_length blocks;
      fits = record { kept = first_kept blocks some_block; status = λ j h. fines j ∙ first_status blocks j };
      next = refl;
      visited = refl;
      blurred = refl;
    }

-- ---- the verdict, by the statuses

pub lowest_by_lem : {St : Type 0} (bs : List Block) (xs : List Status) (ss : List (Slot St)) (f : Option Failure) → length ss ≤ length xs → ((j : ℕ) → j < length ss → get_or xs j fine ≡ (get_or ss j blank).status) → length ss ≡ length bs → lowest_by bs xs f ≡ lowest bs ss f
unfolding lowest_by lowest
lowest_by_lem [] xs ss f w h l = refl
lowest_by_lem (x ∷ bs) xs [] f w h l = absurd (omega (arith, l))
lowest_by_lem (x ∷ bs) [] (s ∷ ss) f w h l = absurd (not-suc-le-zero w)
lowest_by_lem {St} (x ∷ bs) (y ∷ xs) (s ∷ ss) f w h l =
    let e : y ≡ s.status = h 0 (omega arith) in
    ap (λ (z : Status). lowest_by bs xs (lower x.entry z f)) e
    ∙ lowest_by_lem bs xs ss (lower x.entry s.status f) (le_of_suc-le-suc w) (λ j k. h (suc j) (omega (arith, k))) (omega (arith, l))
