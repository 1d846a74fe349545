-- Laws of steps: takings from the stack, then a call on the state, then pushes.
use Rattle.std.specs.Prelude.{◌≡◌, ℕ, suc, Bool, true, false, cond, List, [], ◌∷◌, replicate, ◌==◌, Result, Ok, Err, ⊤}
use Rattle.std.specs.Prelude.{refl}
use Rattle.std.proofs.Common.{sym, ◌∙◌}
use Rattle.std.proofs.Math.Path.{ap}
use Rattle.meaning.specs.Answers.{Outcome, done, violated, refused, then}
use Rattle.meaning.specs.AbstractState.{Operand, non_ref, Token}
use Rattle.meaning.specs.EntryPoints.{Running, Answer, Answers, value_for}
use Rattle.meaning.specs.Steps.{Machine, pop, pop_ref, pop_value, pop_values, pop_many, push, pushed, push_all, push_new, unchanged}
use Rattle.abstract_state.specs.Models.{Words, Fits, Does, Gives, halted, outcome_of, running_of, operand_of}
use Rattle.abstract_state.specs.ModelLaws.{then_done, then_then, halted_then, under, beside}
use Rattle.vm_status.specs.Models.{number_of}
use Rattle.vm_status.specs.declared.Refusal.{Refusal}
use Rattle.operand_stack.specs.declared.OperandStack.{OperandStack}
use Rattle.operand_stack.specs.Models.{held, answered, Taken, pop_one, pop_one_ref, pop_some, pop_rest, pop_under, push_each}
use Rattle.operand_stack.specs.StackLaws.{pop_then, ref_then, rest_then, under_then, many_then, each_then, one_then, new_values}
use Rattle.reference_safety.specs.Models.{with, Board, heeding, Steps, StepsTo, Runs, Pushed, machine_of}

-- ---- states that stop

-- a machine, and its parts
pub apart : (k v o n : ℕ) (r : Running) (vs : List Operand) (f : List Operand → Running → Outcome Machine) → then (halted k v o n r) (f vs) ≡ then (halted k v o n (with vs r)) (λ m. f m.stack m.state)
apart k v o n r vs f = sym (beside k v o n r (with vs) (λ m. f m.stack m.state))

-- ---- a taking from the stack that answers o, and what runs from what it takes

module _ {a : Words} {r : Result ⊤ Refusal} {w : Board} where
  takes : {X : Type 0} {o : Outcome X} (P : Outcome X) (F : Running → X → Outcome Machine) (G : Running → Outcome Machine)
      → ((s : Running) → then P (F s) ≡ G s) → o ≡ P → Runs (λ s. then o (F s)) a r w → Runs G a r w
  takes {o = o} P F G q e p = record {
    fits = p.fits;
    runs = λ h. p.runs h ∙ under (outcome_of a) (λ s. then o (F s)) G (λ s. ap (λ x. then x (F s)) e ∙ q s);
  }

  module _ (vs : List Operand) where
    module _ (F : Operand → List Operand → Running → Outcome Machine) {o : Outcome (Taken Operand)} where
      pub pop_runs : o ≡ pop_one vs → Runs (λ s. then o (λ t. F t.what t.rest s)) a r w → Runs (λ s. pop vs (λ v us. F v us s)) a r w
      pop_runs = takes (pop_one vs) (λ s t. F t.what t.rest s) (λ s. pop vs (λ v us. F v us s)) (λ s. pop_then vs (λ v us. F v us s))

      pub under_runs : (n : ℕ) → o ≡ pop_under n vs → Runs (λ s. then o (λ t. F t.what t.rest s)) a r w → Runs (λ s. pop_values n vs (λ us. pop us (λ v ts. F v ts s))) a r w
      under_runs n = takes (pop_under n vs) (λ s t. F t.what t.rest s) (λ s. pop_values n vs (λ us. pop us (λ v ts. F v ts s))) (λ s. under_then n vs (λ v ts. F v ts s))

      pub under_one_runs : o ≡ pop_under 1 vs → Runs (λ s. then o (λ t. F t.what t.rest s)) a r w → Runs (λ s. pop_value vs (λ us. pop us (λ v ts. F v ts s))) a r w
      unfolding pop_values
      under_one_runs = under_runs 1

    pub ref_runs : (F : ℕ → List Operand → Running → Outcome Machine) {o : Outcome (Taken ℕ)} → o ≡ pop_one_ref vs → Runs (λ s. then o (λ t. F t.what t.rest s)) a r w → Runs (λ s. pop_ref vs (λ n us. F n us s)) a r w
    ref_runs F = takes (pop_one_ref vs) (λ s t. F t.what t.rest s) (λ s. pop_ref vs (λ n us. F n us s)) (λ s. ref_then vs (λ n us. F n us s))

    pub many_runs : (F : List Operand → List Operand → Running → Outcome Machine) (n : ℕ) {o : Outcome (Taken (List Operand))} → o ≡ pop_some n vs → Runs (λ s. then o (λ t. F t.what t.rest s)) a r w → Runs (λ s. pop_many n [] vs (λ us ts. F us ts s)) a r w
    many_runs F n = takes (pop_some n vs) (λ s t. F t.what t.rest s) (λ s. pop_many n [] vs (λ us ts. F us ts s)) (λ s. many_then n [] vs (λ us ts. F us ts s))

    module _ (F : List Operand → Running → Outcome Machine) {o : Outcome (List Operand)} where
      pub rest_runs : (n : ℕ) → o ≡ pop_rest n vs → Runs (λ s. then o (λ us. F us s)) a r w → Runs (λ s. pop_values n vs (λ us. F us s)) a r w
      rest_runs n = takes (pop_rest n vs) (λ s us. F us s) (λ s. pop_values n vs (λ us. F us s)) (λ s. rest_then n vs (λ us. F us s))

      pub value_runs : o ≡ pop_rest 1 vs → Runs (λ s. then o (λ us. F us s)) a r w → Runs (λ s. pop_value vs (λ us. F us s)) a r w
      unfolding pop_values
      value_runs = rest_runs 1

-- one that is refused is the step's answer
pub stops : {a : Words} {t : OperandStack} {e : Refusal} {r : Result ⊤ Refusal} → r ≡ Err e → Runs (λ s. refused (number_of e)) a r (record { words = a; stack = t })
stops {a} {t} {e} q = record {
  fits = λ h. h;
  runs = λ h. ap (λ x. then (machine_of (record { words = a; stack = t })) (heeding x)) q ∙ beside a.state.blurred a.state.violation a.state.borrowed_at.0 a.state.refusal (running_of a) (with (held t)) (λ m. refused (number_of e));
}

-- ---- a call on the state

module _ {a b : Words} where
  -- and the stack kept
  pub keeps : {f : Running → Outcome Running} {t : OperandStack} → Does f a b → Runs (λ s. unchanged (held t) (f s)) a (Ok tt) (record { words = b; stack = t })
  keeps {f} {t} p = record {
    fits = p.fits;
    runs = λ h.
        sym (then_done (machine_of (record { words = b; stack = t })))
        ∙ halted_then b.state.blurred b.state.violation b.state.borrowed_at.0 b.state.refusal (running_of b) (with (held t))
        ∙ ap (λ (o : Outcome Running). then {B = Machine} o (λ s. done (with (held t) s))) (p.does h)
        ∙ then_then (outcome_of a) f (λ s. done (with (held t) s));
  }

  -- and what it answered pushed
  pub gives : {f : Running → Outcome Answer} {vs : List Operand} {r : Result ⊤ Refusal} {w : Board} → Gives f a b → Pushed b vs r w → Runs (λ s. pushed vs (f s)) a r w
  gives {f} {vs} p q = record {
    fits = λ h. q.fits (p.fits h);
    runs = λ h. q.pushes (p.fits h) ∙ ap (λ (o : Outcome Answer). pushed vs o) (p.gives h) ∙ then_then (outcome_of a) f (λ x. push vs x.operand x.state);
  }

  -- and what runs from there
  pub does_runs : {f : Running → Outcome Running} {g : Running → Outcome Machine} {r : Result ⊤ Refusal} {w : Board} → Does f a b → Runs g b r w → Runs (λ s. then (f s) g) a r w
  does_runs {f} {g} p q = record {
    fits = λ h. q.fits (p.fits h);
    runs = λ h. q.runs (p.fits h) ∙ ap (λ (o : Outcome Running). then o g) (p.does h) ∙ then_then (outcome_of a) f g;
  }

  -- and the operands that it answered pushed
  pub answers_runs : {r : Result ⊤ Refusal} {w : Board} (f : Running → Outcome Answers) (us vs : List Operand) → (Fits a → Fits b) → (Fits a → halted b.state.blurred b.state.violation b.state.borrowed_at.0 b.state.refusal (record { state = running_of b; operands = us }) ≡ then (outcome_of a) f)
      → Runs (push_all vs us) b r w → Runs (λ s. then (f s) (λ x. push_all vs x.operands x.state)) a r w
  answers_runs f us vs p e q = record {
    fits = λ h. q.fits (p h);
    runs = λ h.
        q.runs (p h)
        ∙ sym (beside b.state.blurred b.state.violation b.state.borrowed_at.0 b.state.refusal (running_of b) (λ s. record { state = s; operands = us }) push)
        ∙ ap (λ (o : Outcome Answers). then o push) (e h)
        ∙ then_then (outcome_of a) f push;
  }
    where
      push : Answers → Outcome Machine
      push x = push_all vs x.operands x.state

-- ---- pushes

pub push_runs : {a : Words} {t : OperandStack} (us vs : List Operand) (r : Result ⊤ Refusal) → answered (λ u. held t) r ≡ push_each vs us → Runs (push_all vs us) a r (record { words = a; stack = t })
push_runs {a} {t} us vs r e = record {
  fits = λ h. h;
  runs = λ h.
      beside a.state.blurred a.state.violation a.state.borrowed_at.0 a.state.refusal (running_of a) (with (held t)) (heeding r)
      ∙ under (outcome_of a) (λ s. answered (λ u. with (held t) s) r) (push_all vs us)
      (λ s. put r s ∙ ap (λ (o : Outcome (List Operand)). then {B = Machine} o (λ ws. done (with ws s))) e ∙ each_then vs us s);
}
  where
    put : (r : Result ⊤ Refusal) (s : Running) → answered (λ u. with (held t) s) r ≡ then {B = Machine} (answered (λ u. held t) r) (λ ws. done (with ws s))
    put (Ok u) s = refl
    put (Err e) s = refl

-- one operand, that of an answer
pub pushed_one : {a : Words} {vs : List Operand} {r : Result ⊤ Refusal} {w : Board} → Runs (push_all vs (operand_of a.state.value ∷ [])) a r w → Pushed a vs r w
pushed_one {a} {vs} p = record { fits = p.fits; pushes = λ h. p.runs h ∙ go (a.state.violation == 0) (a.state.refusal == 0) }
  where
    go : (x y : Bool) → then (cond x (cond y (done (running_of a)) (refused a.state.refusal)) (violated a.state.blurred a.state.violation a.state.borrowed_at.0)) (push_all vs (operand_of a.state.value ∷ []))
        ≡ pushed vs (cond x (cond y (done (record { state = running_of a; operand = operand_of a.state.value })) (refused a.state.refusal)) (violated a.state.blurred a.state.violation a.state.borrowed_at.0))
    go true true = one_then vs (operand_of a.state.value) (running_of a)
    go true false = refl
    go false y = refl

-- values
pub values_runs : {a : Words} {r : Result ⊤ Refusal} {w : Board} (vs : List Operand) (n : ℕ) (t : Token) → t ≡ Token.of_value → Runs (push_all vs (replicate n non_ref)) a r w → Runs (push_new n t vs) a r w
values_runs {a} vs n t e p = record {
  fits = p.fits;
  runs = λ h.
      p.runs h
      ∙ under (outcome_of a) (push_all vs (replicate n non_ref)) (push_new n Token.of_value vs) (λ s. new_values n vs s)
      ∙ ap (λ (u : Token). then (outcome_of a) (push_new n u vs)) (sym e);
}

-- ---- a machine's steps, and what runs from its parts

module _ {a b : Board} {r : Result ⊤ Refusal} (f : List Operand → Running → Outcome Machine) where
  pub steps_from : Runs (f (held a.stack)) a.words r b → StepsTo (λ m. f m.stack m.state) a r b
  steps_from p = record {
    fits = p.fits;
    steps = λ h. p.runs h ∙ apart a.words.state.blurred a.words.state.violation a.words.state.borrowed_at.0 a.words.state.refusal (running_of a.words) (held a.stack) f;
  }

  pub runs_from : StepsTo (λ m. f m.stack m.state) a r b → Runs (f (held a.stack)) a.words r b
  runs_from p = record {
    fits = p.fits;
    runs = λ h. p.steps h ∙ sym (apart a.words.state.blurred a.words.state.violation a.words.state.borrowed_at.0 a.words.state.refusal (running_of a.words) (held a.stack) f);
  }

-- the answer heeded
pub heeds : {f : Machine → Outcome Machine} {a b c : Board} {r : Result ⊤ Refusal} → StepsTo f a r b → Steps (heeding r) b c → Steps f a c
heeds p q = record { fits = λ h. q.fits (p.fits h); steps = λ h. q.steps (p.fits h) ∙ p.steps h }

pub heeds_refusal : {a b : Words} {t : OperandStack} {e : Refusal} {r : Result ⊤ Refusal} → r ≡ Err e → Does (λ s. refused (number_of e)) a b
    → Steps (heeding r) (record { words = a; stack = t }) (record { words = b; stack = t })
heeds_refusal {a} {b} {t} {e} {r} q p = record {
  fits = p.fits;
  steps = λ h.
      halted_then b.state.blurred b.state.violation b.state.borrowed_at.0 b.state.refusal (running_of b) (with (held t))
      ∙ ap (λ (o : Outcome Running). then {B = Machine} o (λ s. done (with (held t) s))) (p.does h)
      ∙ then_then (outcome_of a) (λ s. refused (number_of e)) (λ s. done (with (held t) s))
      ∙ under (outcome_of a) (λ s. then {B = Machine} (refused (number_of e)) (λ x. done (with (held t) x))) (λ s. heeding r (with (held t) s))
      (λ s. sym (ap (λ x. heeding x (with (held t) s)) q))
      ∙ sym (beside a.state.blurred a.state.violation a.state.borrowed_at.0 a.state.refusal (running_of a) (with (held t)) (heeding r));
}

-- ---- the loop that pushes new operands

-- from a, n operands are to be pushed; at b, left of them
pub record Turns (t : Token) (n : ℕ) (a : Board) (left : ℕ) (b : Board) : Type 0 where
  pub fits : Fits a.words → Fits b.words
  pub turns : Fits a.words → then (machine_of b) (λ x. push_new left t x.stack x.state) ≡ then (machine_of a) (λ x. push_new n t x.stack x.state)

module _ {t : Token} {n : ℕ} {a b : Board} {left : ℕ} (i : Turns t n a left b) where
  pub new_end : left ≡ 0 → StepsTo (λ x. push_new n t x.stack x.state) a (Ok tt) b
  unfolding push_new
  new_end e = record { fits = i.fits; steps = λ h. ap (λ (k : ℕ). then (machine_of b) (λ x. push_new k t x.stack x.state)) (sym e) ∙ i.turns h }

  module _ {c : Board} {r : Result ⊤ Refusal} (l : ℕ) (e : left ≡ suc l) (q : StepsTo (λ x. pushed x.stack (value_for t x.state)) b r c) where
    turned : Fits a.words → then (then (machine_of c) (heeding r)) (λ x. push_new l t x.stack x.state) ≡ then (machine_of a) (λ x. push_new n t x.stack x.state)
    unfolding push_new
    turned h =
        ap (λ (y : Outcome Machine). then y (λ x. push_new l t x.stack x.state)) (q.steps (i.fits h))
        ∙ then_then (machine_of b) (λ x. pushed x.stack (value_for t x.state)) (λ x. push_new l t x.stack x.state)
        ∙ ap (λ (k : ℕ). then (machine_of b) (λ x. push_new k t x.stack x.state)) (sym e)
        ∙ i.turns h

    pub new_turn : r ≡ Ok tt → Turns t n a l c
    new_turn z = record {
      fits = λ h. q.fits (i.fits h);
      turns = λ h. ap (λ o. then o (λ x. push_new l t x.stack x.state)) (then_done (machine_of c) ∙ ap (λ x. then (machine_of c) (heeding x)) (sym z)) ∙ turned h;
    }

    pub new_out : {x : Refusal} {s : Result ⊤ Refusal} → r ≡ Err x → s ≡ Err x → StepsTo (λ x. push_new n t x.stack x.state) a s c
    new_out {x} {s} z y = record {
      fits = λ h. q.fits (i.fits h);
      steps = λ h. ap (λ u. then (machine_of c) (heeding u)) (y ∙ sym z) ∙ out (machine_of c) r z ∙ turned h;
    }
      where
        out : (o : Outcome Machine) (r : Result ⊤ Refusal) → r ≡ Err x → then o (heeding r) ≡ then (then o (heeding r)) (λ y. push_new l t y.stack y.state)
        out o (Ok u) z = cc
        out (done m) (Err y) z = refl
        out (violated k v p) (Err y) z = refl
        out (refused k) (Err y) z = refl
