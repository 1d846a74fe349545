-- An end state propagated: what each way through the code leaves, as the definitions have it.
use Rattle.std.specs.Prelude.{ℕ, zero, suc, ◌+◌, ◌-◌, ◌≤◌, ◌<◌, ◌≡◌, refl, ◌≢◌, Bool, true, false, ◌&&◌, cond, List, [], ◌∷◌, leb, eqb, length, take, set, Some, None}
use Rattle.std.specs.Prelude as P
use Rattle.std.specs.Option.{is_some}
use Rattle.std.proofs.Common.{zero-le, arith, sym, ap, ◌∙◌, subst, le-leb, lt-ltb}
use Rattle.std.proofs.Math.Option.{Option, none, some, none-ne-some, some-injective}
use Rattle.meaning.specs.Limits.{area_words, u32_most}
use Rattle.meaning.specs.Answers.{ok, refuse}
use Rattle.meaning.specs.Area.{kept_of, Stored, has_block}
use Rattle.meaning.specs.AbstractState.{State, join, join_blurs, changed}
use Rattle.meaning.proofs.Laws.Base.{decide, eqb_eq, eqb_ne}
use Rattle.meaning.specs.Laws.Forms.{Strong}
use Rattle.meaning.specs.Loop as M
use Rattle.meaning.specs.Loop.{Result, Status, fine, Next, at, stopped, position, to_successor, successor_blurs}
use Rattle.meaning.proofs.Laws.Fit as F
use Rattle.meaning.specs.Laws.Fit.{Does, Passes, propagate_on, propagate_blurs_on}
use Rattle.absint.specs.Models.{statuses_of, next_by, next_of, SameCounts, Counted, Passed, Sound, PropagatedTo, Propagated}
use Rattle.absint.specs.declared.run_state.Stop.{Stop}
use Rattle.absint.specs.declared.run_state.RunState.{RunState}

-- whether a run was stopped
pub some_stop : (o : P.Option Stop) → is_some o ≡ true → (v : Stop) × (o ≡ Some v)
some_stop (Some v) h = (v, refl)
some_stop None h = absurd (cc)

pub no_stop : (o : P.Option Stop) → is_some o ≡ false → o ≡ None
no_stop (Some v) h = absurd (cc)
no_stop None h = refl

pub same : (t : RunState) → SameCounts t t
same t = record { visits = refl; turns = refl; blurred = refl }

pub going : (t : RunState) → t.stopped ≡ None → next_of t ≡ at t.next
going t e = ap (next_by t.next) e

-- a state stored where the area has the block
pub stored_here : (l b : ℕ) (s : State) (ws ws' : List ℕ) → area_words ≤ length ws → b < 16 → Stored l s b ws ws' → kept_of l ws' b ≡ some s
stored_here l b s ws ws' h k w =
    w.kept ∙ ap {B = Option State} (λ (x : Bool). cond x (some s) none) ((λ i. le-leb area_words (length ws) h i && lt-ltb b 16 k i))

-- what is stored has the form, so all that is kept still has it
pub stored_sound : (m l b : ℕ) (s : State) (ws ws' : List ℕ) → m ≡ l → Stored m s b ws ws' → Sound l ws → Strong l s → Sound l ws'
stored_sound m l b s ws ws' r w h k j x e =
    decide (eqb j b) (λ y. here (has_block (length ws) b) (sym w.kept ∙ ap (λ (n : ℕ). kept_of n ws' b) r ∙ ap (kept_of l ws') (sym (eqb_eq y)) ∙ e)) (λ n. h j x (sym (w.others l j (eqb_ne n)) ∙ e))
  where
    here : (y : Bool) → cond y (some s) none ≡ some x → Strong l x
    here true q = subst (Strong l) (some-injective s x q) k
    here false q = absurd (none-ne-some x q)

module _ (bs : List M.Block) (l : ℕ) (b : M.Block) (s : State) (e : ℕ) (ws : List ℕ) (t : RunState) where
  -- what the join with the successor's kept state blurs
  abbrev Blurs : Next → ℕ → Type 0
  Blurs m k = (ex : ℕ → State → Result State) → Passes State join join_blurs changed ex bs (successor_blurs State join join_blurs changed ex bs s e) (kept_of l ws) (statuses_of t) m k

  none_passed : (r : RunState) → Blurs (next_of t) 0 → SameCounts t r → Passed bs (λ ex. successor_blurs State join join_blurs changed ex bs s e) l ws u32_most t r
  none_passed r p k = record { more = 0; passes = p; few = zero-le; visits = k.visits; turns = k.turns; blurred = let z : r.blurred ≡ t.blurred = k.blurred in omega (arith, z) }

  some_passed : (r : RunState) (m : ℕ) → Blurs (next_of t) m → Counted m t r → Passed bs (λ ex. successor_blurs State join join_blurs changed ex bs s e) l ws u32_most t r
  some_passed r m p k = record { more = m; passes = p; few = k.few; visits = k.visits; turns = k.turns; blurred = k.blurred }

  pub propagated_stopped : is_some t.stopped ≡ true → PropagatedTo bs l b s e ws ws t t
  propagated_stopped h =
      let z = some_stop t.stopped h in
      let v = z.0 in
      let q = z.1 in
      let n : next_of t ≡ stopped v.number v.place.0 = ap (next_by t.next) q in
      record {
        does = λ ex. subst (λ (m : Next). Does State join join_blurs changed ex bs (to_successor State join join_blurs changed ex bs b s e) (kept_of l ws) (statuses_of t) m (kept_of l ws) (statuses_of t) m) (sym n)
            (F.successor_stopped State join join_blurs changed ex bs b s e (kept_of l ws) (statuses_of t) v.number v.place.0);
        beyond = refl;
        passed = none_passed t (subst (λ (m : Next). Blurs m 0) (sym n) (λ ex. F.blurs_stopped State join join_blurs changed ex bs s e (kept_of l ws) (statuses_of t) v.number v.place.0)) (same t);
      }

  module _ (q : t.stopped ≡ None) where
    n : next_of t ≡ at t.next
    n = going t q

    pub propagated_nowhere : length bs ≤ position bs e → PropagatedTo bs l b s e ws ws t t
    propagated_nowhere h =
        record {
          does = λ ex. subst (λ (m : Next). Does State join join_blurs changed ex bs (to_successor State join join_blurs changed ex bs b s e) (kept_of l ws) (statuses_of t) m (kept_of l ws) (statuses_of t) m) (sym n)
              (F.successor_nowhere State join join_blurs changed ex bs b s e (kept_of l ws) (statuses_of t) t.next h);
          beyond = refl;
          passed = none_passed t (subst (λ (m : Next). Blurs m 0) (sym n) (λ ex. F.blurs_nowhere State join join_blurs changed ex bs s e (kept_of l ws) (statuses_of t) t.next h)) (same t);
        }

    module _ (j : ℕ) (p : j ≡ position bs e) (within : j < length bs) (few : length bs ≤ 16) (area : area_words ≤ length ws) where
      in_list : position bs e < length bs
      in_list = omega (arith, p, within)

      -- stored at j, read at the position
      here : (m : ℕ) (x : State) (ws' : List ℕ) → ((us : List ℕ) (i : ℕ) → kept_of m us i ≡ kept_of l us i) → Stored m x j ws ws' → kept_of l ws' (position bs e) ≡ some x
      here m x ws' r w = subst (λ (i : ℕ). kept_of l ws' i ≡ some x) p (sym (r ws' j) ∙ stored_here m j x ws ws' area (omega (arith, within, few)) w)

      there : (m : ℕ) (x : State) (ws' : List ℕ) → Stored m x j ws ws' → (i : ℕ) → i ≢ position bs e → kept_of l ws' i ≡ kept_of l ws i
      there m x ws' w i h = w.others l i (λ z. h (z ∙ p))

      -- the join with the kept state k
      joined_passed : (r : RunState) (k : State) (m : ℕ) → kept_of l ws j ≡ some k → m ≡ join_blurs k s → Counted m t r → Passed bs (λ ex. successor_blurs State join join_blurs changed ex bs s e) l ws u32_most t r
      joined_passed r k m old q z = some_passed r m
          (subst (λ (x : ℕ). Blurs (next_of t) x) (sym q)
          (subst (λ (x : Next). Blurs x (join_blurs k s)) (sym n) (λ ex. F.blurs_kept State join join_blurs changed ex bs s e (kept_of l ws) (statuses_of t) t.next k (subst (λ (i : ℕ). kept_of l ws i ≡ some k) p old))))
          z

      module _ (r : RunState) (sts : length (statuses_of t) ≡ 16) where
        pub propagated_fresh : (m : ℕ) (ws' : List ℕ) → ((us : List ℕ) (i : ℕ) → kept_of m us i ≡ kept_of l us i) → kept_of l ws j ≡ none → Stored m s j ws ws'
            → next_of r ≡ next_of t → statuses_of r ≡ set (statuses_of t) j fine → SameCounts t r → PropagatedTo bs l b s e ws ws' t r
        propagated_fresh m ws' reads absent w a c k =
            record {
              does = λ ex. subst (λ (x : Next). Does State join join_blurs changed ex bs (to_successor State join join_blurs changed ex bs b s e) (kept_of l ws) (statuses_of t) x (kept_of l ws') (statuses_of r) (next_of r)) (sym n)
                  (subst (λ (x : Next). Does State join join_blurs changed ex bs (to_successor State join join_blurs changed ex bs b s e) (kept_of l ws) (statuses_of t) (at t.next) (kept_of l ws') (statuses_of r) x) (sym (a ∙ n))
                  (subst (λ (x : List Status). Does State join join_blurs changed ex bs (to_successor State join join_blurs changed ex bs b s e) (kept_of l ws) (statuses_of t) (at t.next) (kept_of l ws') x (at t.next)) (sym (c ∙ ap (λ (i : ℕ). set (statuses_of t) i fine) p))
                  (F.successor_fresh State join join_blurs changed ex bs b s e (kept_of l ws) (statuses_of t) t.next (kept_of l ws') in_list (omega (arith, few, sts)) (subst (λ (i : ℕ). kept_of l ws i ≡ none) p absent) (here m s ws' reads w) (there m s ws' w))));
              beyond = w.beyond;
              passed = none_passed r (subst (λ (m : Next). Blurs m 0) (sym n) (λ ex. F.blurs_fresh State join join_blurs changed ex bs s e (kept_of l ws) (statuses_of t) t.next (subst (λ (i : ℕ). kept_of l ws i ≡ none) p absent))) k;
            }

        pub propagated_refused : (k : State) (x m : ℕ) → kept_of l ws j ≡ some k → join k s ≡ refuse x → m ≡ join_blurs k s → next_of r ≡ stopped x b.exit → statuses_of r ≡ statuses_of t → Counted m t r → PropagatedTo bs l b s e ws ws t r
        propagated_refused k x h old y q a c z =
            record {
              does = λ ex. subst (λ (m : Next). Does State join join_blurs changed ex bs (to_successor State join join_blurs changed ex bs b s e) (kept_of l ws) (statuses_of t) m (kept_of l ws) (statuses_of r) (next_of r)) (sym n)
                  (subst (λ (m : Next). Does State join join_blurs changed ex bs (to_successor State join join_blurs changed ex bs b s e) (kept_of l ws) (statuses_of t) (at t.next) (kept_of l ws) (statuses_of r) m) (sym a)
                  (subst (λ (m : List Status). Does State join join_blurs changed ex bs (to_successor State join join_blurs changed ex bs b s e) (kept_of l ws) (statuses_of t) (at t.next) (kept_of l ws) m (stopped x b.exit)) (sym c)
                  (F.successor_refused State join join_blurs changed ex bs b s e (kept_of l ws) (statuses_of t) t.next k in_list (subst (λ (i : ℕ). kept_of l ws i ≡ some k) p old) x y)));
              beyond = refl;
              passed = joined_passed r k h old q z;
            }

        pub propagated_changed : (k x : State) (m : ℕ) (ws' : List ℕ) (y h : ℕ) → ((us : List ℕ) (i : ℕ) → kept_of m us i ≡ kept_of l us i) → kept_of l ws j ≡ some k → join k s ≡ ok x → h ≡ join_blurs k s → changed k x ≡ true → Stored m x j ws ws'
            → cond (leb e b.entry) j t.next ≡ y → next_of r ≡ at y → statuses_of r ≡ set (statuses_of t) j fine → Counted h t r → PropagatedTo bs l b s e ws ws' t r
        propagated_changed k x m ws' y h reads old d q new w g a c z =
            record {
              does = λ ex. subst (λ (u : Next). Does State join join_blurs changed ex bs (to_successor State join join_blurs changed ex bs b s e) (kept_of l ws) (statuses_of t) u (kept_of l ws') (statuses_of r) (next_of r)) (sym n)
                  (subst (λ (u : Next). Does State join join_blurs changed ex bs (to_successor State join join_blurs changed ex bs b s e) (kept_of l ws) (statuses_of t) (at t.next) (kept_of l ws') (statuses_of r) u) (sym (a ∙ ap at (sym g ∙ ap (λ (i : ℕ). cond (leb e b.entry) i t.next) p)))
                  (subst (λ (u : List Status). Does State join join_blurs changed ex bs (to_successor State join join_blurs changed ex bs b s e) (kept_of l ws) (statuses_of t) (at t.next) (kept_of l ws') u (at (cond (leb e b.entry) (position bs e) t.next))) (sym (c ∙ ap (λ (i : ℕ). set (statuses_of t) i fine) p))
                  (F.successor_changed State join join_blurs changed ex bs b s e (kept_of l ws) (statuses_of t) t.next k in_list (subst (λ (i : ℕ). kept_of l ws i ≡ some k) p old) x (kept_of l ws') (omega (arith, few, sts)) d new (here m x ws' reads w) (there m x ws' w))));
              beyond = w.beyond;
              passed = joined_passed r k h old q z;
            }

      pub propagated_same : (r : RunState) (k x : State) (h : ℕ) → kept_of l ws j ≡ some k → join k s ≡ ok x → h ≡ join_blurs k s → changed k x ≡ false → next_of r ≡ next_of t → statuses_of r ≡ statuses_of t → Counted h t r
          → PropagatedTo bs l b s e ws ws t r
      propagated_same r k x h old d q z a c y =
          record {
            does = λ ex. subst (λ (m : Next). Does State join join_blurs changed ex bs (to_successor State join join_blurs changed ex bs b s e) (kept_of l ws) (statuses_of t) (next_of t) (kept_of l ws) (statuses_of r) m) (sym a)
                (subst (λ (m : List Status). Does State join join_blurs changed ex bs (to_successor State join join_blurs changed ex bs b s e) (kept_of l ws) (statuses_of t) (next_of t) (kept_of l ws) m (next_of t)) (sym c)
                (subst (λ (m : Next). Does State join join_blurs changed ex bs (to_successor State join join_blurs changed ex bs b s e) (kept_of l ws) (statuses_of t) m (kept_of l ws) (statuses_of t) m) (sym n)
                (F.successor_same State join join_blurs changed ex bs b s e (kept_of l ws) (statuses_of t) t.next k in_list (subst (λ (i : ℕ). kept_of l ws i ≡ some k) p old) x d z)));
            beyond = refl;
            passed = joined_passed r k h old q y;
          }

-- ---- to the successors as listed

module _ (bs : List M.Block) (l : ℕ) (b : M.Block) (s : State) (ws : List ℕ) (t : RunState) where
  pub propagate_one : (e : ℕ) (ws' : List ℕ) (r : RunState) → b.successors ≡ e ∷ [] → PropagatedTo bs l b s e ws ws' t r → Propagated bs l b s ws ws' t r
  propagate_one e ws' r z h =
      record {
        does = λ ex. subst (λ (es : List ℕ). Does State join join_blurs changed ex bs (propagate_on State join join_blurs changed ex bs b s es) (kept_of l ws) (statuses_of t) (next_of t) (kept_of l ws') (statuses_of r) (next_of r)) (sym z)
            (F.propagate_one State join join_blurs changed ex bs b s e (kept_of l ws) (kept_of l ws') (statuses_of t) (statuses_of r) (next_of t) (next_of r) (h.does ex));
        beyond = h.beyond;
        passed = record {
          more = h.passed.more;
          passes = λ ex. subst (λ (es : List ℕ). Passes State join join_blurs changed ex bs (propagate_blurs_on State join join_blurs changed ex bs b s es) (kept_of l ws) (statuses_of t) (next_of t) h.passed.more) (sym z)
              (F.propagate_blurs_one State join join_blurs changed ex bs b s e (kept_of l ws) (statuses_of t) (next_of t) h.passed.more (h.passed.passes ex));
          few = let k : h.passed.more ≤ u32_most = h.passed.few in omega (arith, k);
          visits = h.passed.visits;
          turns = h.passed.turns;
          blurred = h.passed.blurred;
        };
      }

  pub propagate_two : (e d : ℕ) (ws' ws'' : List ℕ) (u r : RunState) → b.successors ≡ e ∷ d ∷ [] → PropagatedTo bs l b s e ws ws' t u → PropagatedTo bs l b s d ws' ws'' u r → Propagated bs l b s ws ws'' t r
  propagate_two e d ws' ws'' u r z h k =
      record {
        does = λ ex. subst (λ (es : List ℕ). Does State join join_blurs changed ex bs (propagate_on State join join_blurs changed ex bs b s es) (kept_of l ws) (statuses_of t) (next_of t) (kept_of l ws'') (statuses_of r) (next_of r)) (sym z)
            (F.propagate_two State join join_blurs changed ex bs b s e d (kept_of l ws) (kept_of l ws') (kept_of l ws'') (statuses_of t) (statuses_of u) (statuses_of r) (next_of t) (next_of u) (next_of r) (h.does ex) (k.does ex));
        beyond = k.beyond ∙ h.beyond;
        passed = record {
          more = h.passed.more + k.passed.more;
          passes = λ ex. subst (λ (es : List ℕ). Passes State join join_blurs changed ex bs (propagate_blurs_on State join join_blurs changed ex bs b s es) (kept_of l ws) (statuses_of t) (next_of t) (h.passed.more + k.passed.more)) (sym z)
              (F.propagate_blurs_two State join join_blurs changed ex bs b s e d (kept_of l ws) (kept_of l ws') (statuses_of t) (statuses_of u) (next_of t) (next_of u) h.passed.more k.passed.more (h.does ex) (h.passed.passes ex) (k.passed.passes ex));
          few = let x : h.passed.more ≤ u32_most = h.passed.few in let y : k.passed.more ≤ u32_most = k.passed.few in omega (arith, x, y);
          visits = k.passed.visits ∙ h.passed.visits;
          turns = k.passed.turns ∙ h.passed.turns;
          blurred = let x : u.blurred ≡ t.blurred + h.passed.more = h.passed.blurred in let y : r.blurred ≡ u.blurred + k.passed.more = k.passed.blurred in omega (arith, x, y);
        };
      }

-- a block has the successors that its count says, two at most
pub take_two : (n a b : ℕ) → (n ≡ 0 → ⊥) → (n ≡ 1 → ⊥) → take n (a ∷ b ∷ []) ≡ a ∷ b ∷ []
take_two zero a b p q = absurd (p refl)
take_two (suc zero) a b p q = absurd (q refl)
take_two (suc (suc zero)) a b p q = refl
take_two (suc (suc (suc n))) a b p q = refl

pub take_some : (n a b : ℕ) → 1 ≤ n → take n (a ∷ b ∷ []) ≡ a ∷ take (n - 1) (b ∷ [])
take_some zero a b h = absurd (omega arith)
take_some (suc n) a b h = let z : n ≡ suc n - 1 = omega arith in ap (λ (k : ℕ). a ∷ take k (b ∷ [])) z

-- where a block is next, nothing has stopped the run
pub not_stopped : (r : RunState) (n : ℕ) → next_of r ≡ at n → r.stopped ≡ None
not_stopped r n e = go r.stopped e
  where
    go : (o : P.Option Stop) → next_by r.next o ≡ at n → o ≡ None
    go (Some v) e = absurd (cc)
    go None e = refl
