-- Call and Ret as the code makes them.
use Rattle.std.specs.Prelude.{◌≡◌, ℕ, ◌+◌, Bool, true, false, cond, ◌&&◌, List, [], ◌∷◌, ◌++◌, drop, ◌==◌, nat_lt}
use Rattle.std.proofs.Math.Path.{refl, sym, ap}
use Rattle.std.proofs.Common.{◌∙◌, append_assoc, append-nil}
use Rattle.std.proofs.Math.Option.{Option, none, some}
use Rattle.meaning.specs.Limits.{GLOBAL_REFERENCE, CALL_BORROWED_MUTABLE_REFERENCE, UNSAFE_RET, RET_BORROWED_MUTABLE_REFERENCE}
use Rattle.meaning.specs.Lists.{keep}
use Rattle.meaning.proofs.Laws.Base.{and_l}
use Rattle.meaning.specs.Labels.{global_label}
use Rattle.meaning.specs.BorrowGraph.{well_formed, held, is_mutable, borrows, lowest_of}
use Rattle.meaning.specs.BorrowGraph as L
use Rattle.meaning.specs.Answers.{Outcome, done, violated, refused, then, fails_at, needs}
use Rattle.meaning.specs.EntryPoints.{needs_name, fails, Running, Answer, Answers, answer, bars_handing_over, new_ref, operand_names, local_names, ascend, release_all, borrow_from, hand_over, none_borrowed, not_acquired, parents_of, return_values, call, ret}
use Rattle.meaning.specs.AbstractState.{Token, of_value, of_ref, Operand, non_ref, reference}
use Rattle.abstract_state.specs.Models.{Words, Fits, Does, Gives, operand_of, halted, failing, running_of, outcome_of}
use Rattle.abstract_state.specs.ModelLaws.{here, halted_then, then_done, then_then, under, beside, known_then, fails_then, made}
use Rattle.abstract_state_calls.specs.Models.{Calls, answers_of, acquiring, handing, framed, known_mutable}
use Rattle.abstract_state_calls.specs.IdLaws.{mutable_known}
use Rattle.abstract_state_calls.specs.LoopLaws.{failing_at, known_fails_then, each_turn, each_done}

-- ---- calls in a row

link : {A B C : Type 0} (h : Outcome A) (o : Outcome B) (p : Outcome C) (f : A → Outcome B) (g : B → Outcome C) → o ≡ then h f → p ≡ then o g → p ≡ then h (λ s. then (f s) g)
link {A} {B} {C} h o p f g d e = e ∙ ap (λ (x : Outcome B). then x g) d ∙ then_then h f g

-- ---- the steps of each loop

pub hand_step : (c : ℕ) (v : Operand) (vs : List Operand) (r : Running) → handing c (v ∷ vs) r ≡ then (handing c (v ∷ []) r) (handing c vs)
unfolding hand_over
hand_step c non_ref vs r = refl
hand_step c (reference n) vs r = sym (known_fails_then r.graph n r.blurs (lowest_of (bars_handing_over r.graph n) r.graph.edges) c (done r) (handing c vs))

pub hand_one : (n c : ℕ) (r : Running) → (c == 0) ≡ false → failing (L.of_name r.graph n (lowest_of (bars_handing_over r.graph n) r.graph.edges)) c r ≡ handing c (reference n ∷ []) r
unfolding hand_over
hand_one n c r z = failing_at r.graph n r (lowest_of (bars_handing_over r.graph n) r.graph.edges) c z

-- ---- what comes after

pub acquire_then : {B : Type 0} (is : List ℕ) (r : Running) (k : Running → Outcome B) → then (acquiring is r) k ≡ not_acquired is r (k r)
unfolding not_acquired
acquire_then {B} is r k =
    known_then r.graph r.root (none_borrowed (ascend is) r (done r)) k ∙ ap (λ (o : Outcome B). needs_name r.graph r.root o) (each_then (ascend is))
  where
    each_then : (ns : List ℕ) → then (none_borrowed ns r (done r)) k ≡ none_borrowed ns r (k r)
    each_then [] = refl
    each_then (i ∷ ns) =
        let l : Option ℕ = lowest_of (borrows r.root (some (global_label i))) r.graph.edges in
        fails_then r.blurs l GLOBAL_REFERENCE (none_borrowed ns r (done r)) k
        ∙ ap (λ (o : Outcome B). fails_at r.blurs l GLOBAL_REFERENCE o) (each_then ns)

pub hand_then : {B : Type 0} (ns : List ℕ) (c : ℕ) (r : Running) (k : Running → Outcome B) → then (hand_over ns c r (done r)) k ≡ hand_over ns c r (k r)
unfolding hand_over
hand_then [] c r k = refl
hand_then {B} (n ∷ ns) c r k =
    let l : Option ℕ = lowest_of (bars_handing_over r.graph n) r.graph.edges in
    known_fails_then r.graph n r.blurs l c (hand_over ns c r (done r)) k
    ∙ ap (λ (o : Outcome B). needs_name r.graph n (fails_at r.blurs l c o)) (hand_then ns c r k)

-- ---- the values returned

abbrev pub answers : Running → List Operand → Answers
answers r vs = record { state = r; operands = vs }

abbrev after : List Operand → Answers → Outcome Answers
after vs b = done (answers b.state (vs ++ b.operands))

-- the values returned for more tokens, behind those that there are
abbrev pub onward : List ℕ → List ℕ → List Token → Answers → Outcome Answers
onward muts alls ts a = then (return_values ts muts alls a.state) (after a.operands)

module _ (muts alls : List ℕ) where
  return_cons : (t : Token) (ts : List Token) (r : Running) → return_values (t ∷ ts) muts alls r ≡ then (return_values (t ∷ []) muts alls r) (onward muts alls ts)
  unfolding return_values
  return_cons of_value ts r = refl
  return_cons (of_ref m) ts r =
      let k : Running → Outcome Running = borrow_from (parents_of m muts alls) r.next in
      let one : Running → Outcome Answers = λ t. done (answers t (reference r.next ∷ [])) in
      sym
      (then_then (new_ref m r) (λ s. then (k s) one) (onward muts alls ts)
      ∙ under (new_ref m r) (λ s. then (then (k s) one) (onward muts alls ts)) (λ s. then (k s) (λ t. then (one t) (onward muts alls ts))) (λ s. then_then (k s) one (onward muts alls ts)))

  pub onward_step : (t : Token) (ts : List Token) (a : Answers) → onward muts alls (t ∷ ts) a ≡ then (onward muts alls (t ∷ []) a) (onward muts alls ts)
  onward_step t ts a =
      let one : Outcome Answers = return_values (t ∷ []) muts alls a.state in
      ap (λ (o : Outcome Answers). then o (after a.operands)) (return_cons t ts a.state)
      ∙ then_then one (onward muts alls ts) (after a.operands)
      ∙ under one (λ b. then (onward muts alls ts b) (after a.operands)) (λ b. then (after a.operands b) (onward muts alls ts)) assoc
      ∙ sym (then_then one (after a.operands) (onward muts alls ts))
    where
      join : (b : Answers) (o : Outcome Answers) → then (then o (after b.operands)) (after a.operands) ≡ then o (after (a.operands ++ b.operands))
      join b (done d) = ap (λ (vs : List Operand). done (answers d.state vs)) (sym (append_assoc a.operands b.operands d.operands))
      join b (violated k c o) = refl
      join b (refused n) = refl

      assoc : (b : Answers) → then (onward muts alls ts b) (after a.operands) ≡ onward muts alls ts (answers b.state (a.operands ++ b.operands))
      assoc b = join b (return_values ts muts alls b.state)

  -- where no value is there yet, and where none is left
  pub onward_start : (ts : List Token) (k v o n : ℕ) (r : Running) → then (halted k v o n (answers r [])) (onward muts alls ts) ≡ then (halted k v o n r) (return_values ts muts alls)
  onward_start ts k v o n r =
      beside k v o n r (λ s. answers s []) (onward muts alls ts)
      ∙ under (halted k v o n r) (λ s. onward muts alls ts (answers s [])) (return_values ts muts alls) (λ s. sym (then_done (return_values ts muts alls s)))

  pub onward_end : (o : Outcome Answers) → o ≡ then o (onward muts alls [])
  unfolding return_values
  onward_end o = then_done o ∙ under o done (onward muts alls []) (λ a. ap (λ (vs : List Operand). done (answers a.state vs)) (sym (append-nil a.operands)))

-- a value more, behind the others
pub returned : (j v o n : ℕ) (r : Running) (j' v' o' n' : ℕ) (r' : Running) (w : Operand) (vs vs' : List Operand) (k : Running → Outcome Answers) → vs' ≡ vs ++ (w ∷ [])
    → halted j' v' o' n' (answers r' (w ∷ [])) ≡ then (halted j v o n r) k
    → halted j' v' o' n' (answers r' vs') ≡ then (halted j v o n (answers r vs)) (λ a. then (k a.state) (after a.operands))
returned j v o n r j' v' o' n' r' w vs vs' k e h =
    ap (λ (l : List Operand). halted j' v' o' n' (answers r' l)) e
    ∙ halted_then j' v' o' n' (answers r' (w ∷ [])) (λ b. answers b.state (vs ++ b.operands))
    ∙ ap (λ (x : Outcome Answers). then x (after vs)) h
    ∙ then_then (halted j v o n r) k (after vs)
    ∙ sym (beside j v o n r (λ s. answers s vs) (λ a. then (k a.state) (after a.operands)))

-- the answer of a step as the one value returned
abbrev only : Answer → Answers
only a = answers a.state (a.operand ∷ [])

pub value_returned : (muts alls : List ℕ) (h : Outcome Running) (k v o n : ℕ) (a : Answer) → halted k v o n a ≡ then h (λ s. answer s non_ref) → halted k v o n (only a) ≡ then h (return_values (of_value ∷ []) muts alls)
unfolding return_values
value_returned muts alls h k v o n a e =
    link h (halted k v o n a) (halted k v o n (only a)) (λ s. answer s non_ref) (λ b. done (only b)) e (halted_then k v o n a only)

same_parents : (m : Bool) (ps : List ℕ) → ps ≡ parents_of m ps ps
same_parents true ps = refl
same_parents false ps = refl

module _ (m : Bool) (ps : List ℕ) (k v o n : ℕ) (r : Running) (x : ℕ) (o₁ o₂ : Outcome Running) (k' v' o' n' : ℕ) (a : Answer) where
  pub ref_returned : x ≡ cond (nat_lt r.next 65536) r.next 0
      → o₁ ≡ then (halted k v o n r) (new_ref m) → o₂ ≡ then o₁ (borrow_from ps x) → halted k' v' o' n' a ≡ then o₂ (λ s. answer s (reference x))
      → halted k' v' o' n' (only a) ≡ then (halted k v o n r) (return_values (of_ref m ∷ []) ps ps)
  unfolding return_values
  ref_returned e e₁ e₂ e₃ =
      let all : Outcome Answers = halted k' v' o' n' (only a) in
      let one : ℕ → Running → Outcome Answers = λ y s. done (answers s (reference y ∷ [])) in
      let lend : ℕ → Running → Outcome Answers = λ y s. then (borrow_from ps y s) (one y) in
      let p : all ≡ then o₂ (one x) = link o₂ (halted k' v' o' n' a) all (λ s. answer s (reference x)) (λ b. done (only b)) e₃ (halted_then k' v' o' n' a only) in
      let q : all ≡ then o₁ (lend x) = link o₁ o₂ all (borrow_from ps x) (one x) e₂ p in
      link (halted k v o n r) o₁ all (new_ref m) (lend x) e₁ q
      ∙ here k v o n r (λ s. then (new_ref m s) (lend x)) (return_values (of_ref m ∷ []) ps ps)
      (made m r x lend e ∙ ap (λ (l : List ℕ). then (new_ref m r) (λ s. then (borrow_from l r.next s) (one r.next))) (same_parents m ps))

module _ (muts alls : List ℕ) where
  pub calls_value : (a b : Words) → Gives (λ s. answer s non_ref) a b → Calls (return_values (of_value ∷ []) muts alls) a b (operand_of b.state.value ∷ [])
  calls_value a b p = record {
    fits = p.fits;
    calls = λ h. value_returned muts alls (outcome_of a) b.state.blurred b.state.violation b.state.borrowed_at.0 b.state.refusal (record { state = running_of b; operand = operand_of b.state.value }) (p.gives h);
  }

pub calls_ref : (m : Bool) (ps : List ℕ) (x : ℕ) (a b c d : Words) → x ≡ cond (nat_lt a.state.next_id 65536) a.state.next_id 0
    → Does (new_ref m) a b → Does (borrow_from ps x) b c → Gives (λ s. answer s (reference x)) c d → Calls (return_values (of_ref m ∷ []) ps ps) a d (operand_of d.state.value ∷ [])
calls_ref m ps x a b c d e p q r = record {
  fits = λ h. r.fits (q.fits (p.fits h));
  calls = λ h. ref_returned m ps a.state.blurred a.state.violation a.state.borrowed_at.0 a.state.refusal (running_of a) x (outcome_of b) (outcome_of c) d.state.blurred d.state.violation d.state.borrowed_at.0 d.state.refusal
      (record { state = running_of d; operand = operand_of d.state.value }) e (p.does h) (q.does (p.fits h)) (r.gives (q.fits (p.fits h)));
}

-- The values of the tokens from i on are left to return, behind vs, where the state has come from a to b.
pub record Pending (muts alls : List ℕ) (ts : List Token) (i : ℕ) (a b : Words) (vs : List Operand) : Type 0 where
  pub fits : Fits a → Fits b
  pub left : Fits a → then (answers_of b vs) (onward muts alls (drop i ts)) ≡ then (outcome_of a) (return_values ts muts alls)

module _ (muts alls : List ℕ) (ts : List Token) where
  pub pending_all : (a : Words) (vs : List Operand) → vs ≡ [] → Pending muts alls ts 0 a a vs
  pending_all a vs e = record {
    fits = λ h. h;
    left = λ h. ap (λ (us : List Operand). then (answers_of a us) (onward muts alls ts)) e ∙ onward_start muts alls ts a.state.blurred a.state.violation a.state.borrowed_at.0 a.state.refusal (running_of a);
  }

  pub pending_turn : (i : ℕ) (t : Token) (w : Operand) (a b c : Words) (vs us : List Operand) → drop i ts ≡ t ∷ drop (i + 1) ts → us ≡ vs ++ (w ∷ [])
      → Calls (return_values (t ∷ []) muts alls) b c (w ∷ []) → Pending muts alls ts i a b vs → Pending muts alls ts (i + 1) a c us
  pending_turn i t w a b c vs us d e k p = record {
    fits = λ h. k.fits (p.fits h);
    left = λ h. each_turn (onward muts alls) ts (λ (u : Token). onward muts alls (u ∷ [])) (onward_step muts alls) i t (answers_of b vs) (answers_of c us) (then (outcome_of a) (return_values ts muts alls)) d
        (returned b.state.blurred b.state.violation b.state.borrowed_at.0 b.state.refusal (running_of b) c.state.blurred c.state.violation c.state.borrowed_at.0 c.state.refusal (running_of c) w vs us (return_values (t ∷ []) muts alls) e (k.calls (p.fits h)))
        (p.left h);
  }

  pub pending_none : (i : ℕ) (a b : Words) (vs : List Operand) → drop i ts ≡ [] → Pending muts alls ts i a b vs → Calls (return_values ts muts alls) a b vs
  pending_none i a b vs e p = record {
    fits = p.fits;
    calls = λ h. onward_end muts alls (answers_of b vs) ∙ each_done (onward muts alls) ts i (answers_of b vs) (then (outcome_of a) (return_values ts muts alls)) e (p.left h);
  }

-- ---- call

abbrev pub releasing : List ℕ → Answers → Outcome Answers
releasing ns a = then (release_all ns a.state) (λ s. done (answers s a.operands))

pub released : (k v o n : ℕ) (r : Running) (k' v' o' n' : ℕ) (r' : Running) (vs : List Operand) (ns : List ℕ) → halted k' v' o' n' r' ≡ then (halted k v o n r) (release_all ns)
    → halted k' v' o' n' (answers r' vs) ≡ then (halted k v o n (answers r vs)) (releasing ns)
released k v o n r k' v' o' n' r' vs ns e =
    let one : Running → Outcome Answers = λ s. done (answers s vs) in
    halted_then k' v' o' n' r' (λ s. answers s vs)
    ∙ ap (λ (x : Outcome Running). then x one) e
    ∙ then_then (halted k v o n r) (release_all ns) one
    ∙ sym (beside k v o n r (λ s. answers s vs) (releasing ns))

-- what comes after the acquired numbers is asked of a graph that is well formed
acquired_under : {B : Type 0} (is : List ℕ) (r : Running) (k l : Outcome B) → (well_formed r.graph ≡ true → k ≡ l) → not_acquired is r k ≡ not_acquired is r l
unfolding not_acquired
acquired_under {B} is r k l h = go (well_formed r.graph && held r.graph r.root) (λ e. h (and_l (well_formed r.graph) (held r.graph r.root) e))
  where
    go : (w : Bool) → (w ≡ true → k ≡ l) → needs w 9 (none_borrowed (ascend is) r k) ≡ needs w 9 (none_borrowed (ascend is) r l)
    go true e = ap (λ (o : Outcome B). none_borrowed (ascend is) r o) (e refl)
    go false e = refl

module _ (args : List Operand) (is : List ℕ) (ts : List Token) (ms ns : List ℕ) (r : Running) where
  -- the values returned, and then the arguments released
  abbrev rest : List ℕ → List ℕ → Running → Outcome Answers
  rest ks ls t = then (return_values ts ks ls t) (releasing ls)

  call_at : ns ≡ ascend (operand_names args) → ms ≡ keep (known_mutable r.graph) ns
      → then (acquiring is r) (λ s. then (handing CALL_BORROWED_MUTABLE_REFERENCE args s) (rest ms ns)) ≡ call args is ts r
  unfolding call
  call_at e m =
      let given : List ℕ = operand_names args in
      acquire_then is r (λ s. then (handing CALL_BORROWED_MUTABLE_REFERENCE args s) (rest ms ns))
      ∙ ap (λ (o : Outcome Answers). not_acquired is r o) (hand_then given CALL_BORROWED_MUTABLE_REFERENCE r (rest ms ns))
      ∙ acquired_under is r (hand_over given CALL_BORROWED_MUTABLE_REFERENCE r (rest ms ns r)) (hand_over given CALL_BORROWED_MUTABLE_REFERENCE r (rest (keep (is_mutable r.graph) (ascend given)) (ascend given) r))
      (λ w. ap (λ (l : List ℕ). hand_over given CALL_BORROWED_MUTABLE_REFERENCE r (rest l ns r)) (m ∙ mutable_known r.graph ns w)
      ∙ ap (λ (l : List ℕ). hand_over given CALL_BORROWED_MUTABLE_REFERENCE r (rest (keep (is_mutable r.graph) l) l r)) e)

  pub call_done : (k v o n : ℕ) (o₁ o₂ : Outcome Running) (o₃ o₄ : Outcome Answers) → ns ≡ ascend (operand_names args) → ms ≡ keep (known_mutable r.graph) ns
      → o₁ ≡ then (halted k v o n r) (acquiring is) → o₂ ≡ then o₁ (handing CALL_BORROWED_MUTABLE_REFERENCE args) → o₃ ≡ then o₂ (return_values ts ms ns) → o₄ ≡ then o₃ (releasing ns)
      → o₄ ≡ then (halted k v o n r) (call args is ts)
  call_done k v o n o₁ o₂ o₃ o₄ e m e₁ e₂ e₃ e₄ =
      let hand : Running → Outcome Running = handing CALL_BORROWED_MUTABLE_REFERENCE args in
      let a : o₄ ≡ then o₂ (rest ms ns) = link o₂ o₃ o₄ (return_values ts ms ns) (releasing ns) e₃ e₄ in
      let b : o₄ ≡ then o₁ (λ s. then (hand s) (rest ms ns)) = link o₁ o₂ o₄ hand (rest ms ns) e₂ a in
      link (halted k v o n r) o₁ o₄ (acquiring is) (λ s. then (hand s) (rest ms ns)) e₁ b
      ∙ here k v o n r (λ s. then (acquiring is s) (λ t. then (hand t) (rest ms ns))) (call args is ts) (call_at e m)

pub calls_done : (args : List Operand) (is : List ℕ) (ts : List Token) (ms ns : List ℕ) (a b c d e : Words) (vs : List Operand)
    → ns ≡ ascend (operand_names args) → (Fits a → ms ≡ keep (known_mutable (running_of a).graph) ns)
    → Does (acquiring is) a b → Does (handing CALL_BORROWED_MUTABLE_REFERENCE args) b c → Calls (return_values ts ms ns) c d vs → Does (release_all ns) d e → Calls (call args is ts) a e vs
calls_done args is ts ms ns a b c d e vs n m p q k r =
    let f : Fits a → Fits c = λ h. q.fits (p.fits h) in
    record {
      fits = λ h. r.fits (k.fits (f h));
      calls = λ h. call_done args is ts ms ns (running_of a) a.state.blurred a.state.violation a.state.borrowed_at.0 a.state.refusal (outcome_of b) (outcome_of c) (answers_of d vs) (answers_of e vs) n (m h)
          (p.does h) (q.does (p.fits h)) (k.calls (f h))
          (released d.state.blurred d.state.violation d.state.borrowed_at.0 d.state.refusal (running_of d) e.state.blurred e.state.violation e.state.borrowed_at.0 e.state.refusal (running_of e) vs ns (r.does (k.fits (f h))));
    }

-- ---- ret

module _ (vs : List Operand) (ns : List ℕ) (r : Running) where
  ret_at : ns ≡ ascend (local_names r.locals) → then (release_all ns r) (λ s. then (framed s) (handing RET_BORROWED_MUTABLE_REFERENCE vs)) ≡ ret vs r
  unfolding ret
  ret_at e =
      let hand : Running → Outcome Running = handing RET_BORROWED_MUTABLE_REFERENCE vs in
      let rest : Running → Outcome Running = λ s. needs_name s.graph s.root (fails s (borrows s.root none) UNSAFE_RET (hand s)) in
      under (release_all ns r) (λ s. then (framed s) hand) rest
      (λ s. known_fails_then s.graph s.root s.blurs (lowest_of (borrows s.root none) s.graph.edges) UNSAFE_RET (done s) hand)
      ∙ ap (λ (l : List ℕ). then (release_all l r) rest) e

  pub ret_done : (k v o n : ℕ) (o₁ o₂ o₃ : Outcome Running) → ns ≡ ascend (local_names r.locals)
      → o₁ ≡ then (halted k v o n r) (release_all ns) → o₂ ≡ then o₁ framed → o₃ ≡ then o₂ (handing RET_BORROWED_MUTABLE_REFERENCE vs) → o₃ ≡ then (halted k v o n r) (ret vs)
  ret_done k v o n o₁ o₂ o₃ e e₁ e₂ e₃ =
      let hand : Running → Outcome Running = handing RET_BORROWED_MUTABLE_REFERENCE vs in
      let a : o₃ ≡ then o₁ (λ s. then (framed s) hand) = link o₁ o₂ o₃ framed hand e₂ e₃ in
      link (halted k v o n r) o₁ o₃ (release_all ns) (λ s. then (framed s) hand) e₁ a
      ∙ here k v o n r (λ s. then (release_all ns s) (λ t. then (framed t) hand)) (ret vs) (ret_at e)

pub does_ret : (vs : List Operand) (ns : List ℕ) (a b c d : Words) → (Fits a → ns ≡ ascend (local_names (running_of a).locals))
    → Does (release_all ns) a b → Does framed b c → Does (handing RET_BORROWED_MUTABLE_REFERENCE vs) c d → Does (ret vs) a d
does_ret vs ns a b c d e p q r = record {
  fits = λ h. r.fits (q.fits (p.fits h));
  does = λ h. ret_done vs ns (running_of a) a.state.blurred a.state.violation a.state.borrowed_at.0 a.state.refusal (outcome_of b) (outcome_of c) (outcome_of d) (e h) (p.does h) (q.does (p.fits h)) (r.does (q.fits (p.fits h)));
}
